-- The sum of two numbers and their round bits, apart from any word. Assumes nothing.
-- Proved here: `added_value`, `added_bit`, `added_size`, `added_comm`, `is`, `counted_one`, `counted_both`, `added_signs`, `added_self`.
use Prim.Native.Nat.{ℕ, ◌+◌, ◌-◌, ◌≤◌, ◌<◌, min}
use native.Mathlib.Omega.{arith}
use mathlib.Core.Path.{◌≡◌, ap₂, ◌∙◌}
use lib.Bits.{bit_and, bit_or, or_lt, or_add_and, and_le_l, and_le_r, and_comm, or_comm}
use lib.IntN.{ℤ, pos, negsuc, ◌+ℤ◌, +ℤ_comm, neg_ℤ-+ℤ}
use lib.Signed.{mag}
use Rattle.integers.specs.Numbers.{turned}
use Rattle.integers.proofs.Kit.{ints, plus_law, size_range, by_size}
use Rattle.integers.proofs.Floor.{turned_law}
use Rattle.words.specs.declared.RoundBit.{RoundBit}
use Rattle.round_bit.specs.Cuts.{sign_changed}
use Rattle.round_bit.specs.Arithmetic.{added}
use Rattle.round_bit.proofs.Laws.Signs.{signs_value}

-- the values add: (ra or rb) and (ra and rb) are ra + rb
pub added_value : (m n : RoundBit) → (added m n).0 +ℤ pos (added m n).1 ≡ (m.0 +ℤ pos m.1) +ℤ (n.0 +ℤ pos n.1)
added_value m n =
    let both = bit_and m.1 n.1 in
    omega (
      ints,
      or_add_and m.1 n.1,
      plus_law (added m n).0 (pos (added m n).1),
      plus_law (m.0 +ℤ n.0) (pos both),
      plus_law m.0 n.0,
      plus_law (m.0 +ℤ pos m.1) (n.0 +ℤ pos n.1),
      plus_law m.0 (pos m.1),
      plus_law n.0 (pos n.1),
    )

pub added_bit : (m n : RoundBit) → m.1 ≤ 1 → n.1 ≤ 1 → (added m n).1 ≤ 1
added_bit m n h k = omega (arith, or_lt 1 m.1 n.1 (omega arith) (omega arith))

-- numbers of less than i and j, with their carry, are less than i + j
pub added_size : (m n : RoundBit) (i j : ℕ) → mag m.0 < i → mag n.0 < j → m.1 ≤ 1 → mag (added m n).0 < i + j
added_size m n i j h k b =
    let both = bit_and m.1 n.1 in
    let one = and_le_l m.1 n.1 in
    let sum = plus_law (m.0 +ℤ n.0) (pos both) in
    by_size (i + j) (added m n).0 (omega (ints, one, sum, plus_law m.0 n.0, size_range i m.0 h, size_range j n.0 k))

pub added_comm : (m n : RoundBit) → added m n ≡ added n m
added_comm m n = rw (+ℤ_comm m.0 n.0, and_comm m.1 n.1, or_comm m.1 n.1)

-- what numbers that add up to a come to, with i round bits among them: a and one less than i, if there are any, and a round bit that says
-- whether there are
abbrev pub counted : ℤ → ℕ → RoundBit
counted a i = record { 0 = a +ℤ pos (i - 1); 1 = min i 1 }

pub record Counted (n : RoundBit) (a : ℤ) (i : ℕ) : Type 0 where
  pub is : n ≡ counted a i

pub counted_one : (n : RoundBit) → n.1 ≤ 1 → Counted n n.0 n.1
counted_one n h =
    let number : n.0 ≡ n.0 +ℤ pos (n.1 - 1) = omega (ints, plus_law n.0 (pos (n.1 - 1))) in
    let bit : n.1 ≡ min n.1 1 = omega arith in
    record { is = λ i. record { 0 = number i; 1 = bit i } }

added_counts : (a b : ℤ) (i j : ℕ) → added (counted a i) (counted b j) ≡ counted (a +ℤ b) (i + j)
added_counts a b i j =
    let x = a +ℤ pos (i - 1) in
    let y = b +ℤ pos (j - 1) in
    let both = bit_and (min i 1) (min j 1) in
    let sum = or_add_and (min i 1) (min j 1) in
    let any = or_lt 1 (min i 1) (min j 1) (omega arith) (omega arith) in
    let first = and_le_l (min i 1) (min j 1) in
    let second = and_le_r (min i 1) (min j 1) in
    let bit : bit_or (min i 1) (min j 1) ≡ min (i + j) 1 = omega arith in
    let number : (x +ℤ y) +ℤ pos both ≡ (a +ℤ b) +ℤ pos (i + j - 1) =
    omega (
      ints,
      plus_law (x +ℤ y) (pos both),
      plus_law x y,
      plus_law a (pos (i - 1)),
      plus_law b (pos (j - 1)),
      plus_law (a +ℤ b) (pos (i + j - 1)),
      plus_law a b,
    )
    in
    λ k. record { 0 = number k; 1 = bit k }

pub counted_both : {m n : RoundBit} {a b : ℤ} {i j : ℕ} → Counted m a i → Counted n b j → Counted (added m n) (a +ℤ b) (i + j)
counted_both {a = a} {b = b} {i = i} {j = j} x y = record { is = ap₂ added x.is y.is ∙ added_counts a b i j }

-- -(m + n) and (-m) + (-n) have one value
pub added_signs : (m n : RoundBit) → m.1 ≤ 1 → n.1 ≤ 1 →
    (sign_changed (added m n)).0 +ℤ pos (sign_changed (added m n)).1 ≡
    (added (sign_changed m) (sign_changed n)).0 +ℤ pos (added (sign_changed m) (sign_changed n)).1
added_signs m n h k =
    rw (
      signs_value (added m n) (added_bit m n h k),
      added_value m n,
      added_value (sign_changed m) (sign_changed n),
      signs_value m h,
      signs_value n k,
    )
    (neg_ℤ-+ℤ (m.0 +ℤ pos m.1) (n.0 +ℤ pos n.1))

-- n less n is (-1, 1)
pub added_self : (n : RoundBit) → n.1 ≤ 1 → added n (sign_changed n) ≡ record { 0 = negsuc 0; 1 = 1 }
added_self n h =
    let x = n.0 +ℤ turned n.0 in
    let both = bit_and n.1 (1 - n.1) in
    let sum = or_add_and n.1 (1 - n.1) in
    let first = and_le_l n.1 (1 - n.1) in
    let second = and_le_r n.1 (1 - n.1) in
    let bit : bit_or n.1 (1 - n.1) ≡ 1 = omega arith in
    let number : x +ℤ pos both ≡ negsuc 0 = omega (ints, plus_law x (pos both), plus_law n.0 (turned n.0), turned_law n.0) in
    λ i. record { 0 = number i; 1 = bit i }
