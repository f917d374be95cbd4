-- The product of two numbers and their round bits, apart from any word. Assumes nothing.
-- Proved here: `magnitude_product_fits`, `magnitude_product_value`, `multiplied_bit`, `multiplied_size`, `multiplied_value`, `multiplied_comm`,
-- `multiplied_sign_first`, `multiplied_sign_second`.
use Prim.Native.Nat.{ℕ, zero, suc, ◌+◌, ◌*◌, ◌^◌, ◌≤◌, ◌<◌}
use native.Mathlib.Omega.{arith}
use mathlib.Core.Path.{◌≡◌}
use mathlib.Core.Bool.{Bool, true, false}
use lib.Bits.{bit_and, or_lt, or_add_and, and_le_l, and_le_r, and_comm}
use lib.IntN.{ℤ, pos, neg_ℤ, ◌+ℤ◌, ◌*ℤ◌, +ℤ_assoc, +ℤ_comm, *ℤ_comm, neg_ℤ-neg_ℤ}
use lib.Signed.{mag}
use Rattle.integers.specs.Numbers.{exactly_one}
use Rattle.integers.proofs.ExactlyOne.{one_not, one_comm}
use Rattle.integers.proofs.Times.{plus_times, times_plus, neg_times, times_neg}
use Rattle.integers.proofs.Width.{product_size}
use Rattle.words.specs.declared.RoundBit.{RoundBit}
use Rattle.round_bit.specs.Cuts.{sign_changed}
use Rattle.round_bit.specs.Arithmetic.{magnitude_product, negative, sign_changed_if, magnitude, multiplied}
use Rattle.round_bit.proofs.Laws.Signs.{signs_value, signs_if_bit, signs_if_size, signs_if_not, signs_if_not_twice, turned_sign, magnitude_is_size}

-- ---- numbers that are not negative (000, Definition 10): the fit, and the value a + r times b + s
pub magnitude_product_fits : (a b r s i j : ℕ) → a < 2 ^ i → b < 2 ^ j → r ≤ 1 → s ≤ 1 →
    mag (magnitude_product (record { 0 = pos a; 1 = r }) (record { 0 = pos b; 1 = s })).0 < 2 ^ (i + j)
unfolding magnitude_product
magnitude_product_fits a b r s i j h k l m = product_size a b r s i j h k l m

and_times : (r s : ℕ) → r ≤ 1 → s ≤ 1 → bit_and r s ≡ r * s
and_times zero s h k = omega (arith, and_le_l 0 s)
and_times (suc zero) s h k = omega (arith, or_add_and 1 s, or_lt 1 1 s (omega arith) (omega arith), and_le_r 1 s)
and_times (suc (suc r)) s h k = absurd (omega arith)

pub magnitude_product_value : (m n : RoundBit) → m.1 ≤ 1 → n.1 ≤ 1 →
    (magnitude_product m n).0 +ℤ pos (magnitude_product m n).1 ≡ (m.0 +ℤ pos m.1) *ℤ (n.0 +ℤ pos n.1)
unfolding magnitude_product
magnitude_product_value m n h k =
    let a = m.0 in
    let b = n.0 in
    let r = pos m.1 in
    let s = pos n.1 in
    rw (
      and_times m.1 n.1 h k,
      *ℤ_comm b r,
      plus_times a r (b +ℤ s),
      times_plus a b s,
      times_plus r b s,
    )
    (+ℤ_assoc ((a *ℤ b) +ℤ (a *ℤ s)) (r *ℤ b) (r *ℤ s))

magnitude_product_bit : (m n : RoundBit) → m.1 ≤ 1 → (magnitude_product m n).1 ≤ 1
unfolding magnitude_product
magnitude_product_bit m n h = omega (arith, and_le_l m.1 n.1)

magnitude_product_comm : (m n : RoundBit) → magnitude_product m n ≡ magnitude_product n m
unfolding magnitude_product
magnitude_product_comm m n =
    let x = m.0 *ℤ n.0 in
    let y = m.0 *ℤ pos n.1 in
    let z = n.0 *ℤ pos m.1 in
    rw (*ℤ_comm n.0 m.0, and_comm n.1 m.1, +ℤ_assoc x y z, +ℤ_comm y z, ← +ℤ_assoc x z y)

-- ---- numbers of any sign, apart from any word. The value needs no look at the signs: it is the same whichever operand is sign-changed
pub multiplied_bit : (m n : RoundBit) → m.1 ≤ 1 → (multiplied m n).1 ≤ 1
unfolding multiplied
multiplied_bit m n h =
    let p = magnitude_product (magnitude m) (magnitude n) in
    signs_if_bit (exactly_one (negative m) (negative n)) p (magnitude_product_bit (magnitude m) (magnitude n) (signs_if_bit (negative m) m h))

pub multiplied_size : (m n : RoundBit) (i j : ℕ) → mag m.0 < 2 ^ i → mag n.0 < 2 ^ j → m.1 ≤ 1 → n.1 ≤ 1 → mag (multiplied m n).0 < 2 ^ (i + j)
unfolding multiplied magnitude_product
multiplied_size m n i j h k b c =
    let p = magnitude_product (magnitude m) (magnitude n) in
    let r = signs_if_bit (negative m) m b in
    let s = signs_if_bit (negative n) n c in
    rw (signs_if_size (exactly_one (negative m) (negative n)) p, magnitude_is_size m, magnitude_is_size n)
    (magnitude_product_fits (mag m.0) (mag n.0) (magnitude m).1 (magnitude n).1 i j h k r s)

pub multiplied_value : (m n : RoundBit) → m.1 ≤ 1 → n.1 ≤ 1 → (multiplied m n).0 +ℤ pos (multiplied m n).1 ≡ (m.0 +ℤ pos m.1) *ℤ (n.0 +ℤ pos n.1)
unfolding multiplied
multiplied_value m n h k = go (negative m) (negative n)
  where
    a : ℤ
    a = m.0 +ℤ pos m.1

    b : ℤ
    b = n.0 +ℤ pos n.1

    p : Bool → Bool → RoundBit
    p c d = magnitude_product (sign_changed_if c m) (sign_changed_if d n)

    of_p : (c d : Bool) →
        (p c d).0 +ℤ pos (p c d).1 ≡ ((sign_changed_if c m).0 +ℤ pos (sign_changed_if c m).1) *ℤ ((sign_changed_if d n).0 +ℤ pos (sign_changed_if d n).1)
    of_p c d = magnitude_product_value (sign_changed_if c m) (sign_changed_if d n) (signs_if_bit c m h) (signs_if_bit d n k)

    turned_p : (c d : Bool) → (sign_changed (p c d)).0 +ℤ pos (sign_changed (p c d)).1 ≡ neg_ℤ ((p c d).0 +ℤ pos (p c d).1)
    turned_p c d = signs_value (p c d) (magnitude_product_bit (sign_changed_if c m) (sign_changed_if d n) (signs_if_bit c m h))

    go : (c d : Bool) → (sign_changed_if (exactly_one c d) (p c d)).0 +ℤ pos (sign_changed_if (exactly_one c d) (p c d)).1 ≡ a *ℤ b
    go true true = rw (of_p true true, signs_value m h, signs_value n k, neg_times a (neg_ℤ b), times_neg a b) (neg_ℤ-neg_ℤ (a *ℤ b))
    go true false = rw (turned_p true false, of_p true false, signs_value m h, neg_times a b) (neg_ℤ-neg_ℤ (a *ℤ b))
    go false true = rw (turned_p false true, of_p false true, signs_value n k, times_neg a b) (neg_ℤ-neg_ℤ (a *ℤ b))
    go false false = of_p false false

pub multiplied_comm : (m n : RoundBit) → multiplied m n ≡ multiplied n m
unfolding multiplied
multiplied_comm m n = rw (one_comm (negative m) (negative n), magnitude_product_comm (magnitude m) (magnitude n))

pub multiplied_sign_first : (m n : RoundBit) → m.1 ≤ 1 → multiplied (sign_changed m) n ≡ sign_changed (multiplied m n)
unfolding multiplied
multiplied_sign_first m n h =
    let p = magnitude_product (magnitude m) (magnitude n) in
    let bit = magnitude_product_bit (magnitude m) (magnitude n) (signs_if_bit (negative m) m h) in
    rw (turned_sign m.0, signs_if_not_twice (negative m) m h, one_not (negative m) (negative n))
    (signs_if_not (exactly_one (negative m) (negative n)) p bit)

pub multiplied_sign_second : (m n : RoundBit) → n.1 ≤ 1 → multiplied m (sign_changed n) ≡ sign_changed (multiplied m n)
multiplied_sign_second m n k = rw (multiplied_comm m (sign_changed n), multiplied_comm m n) (multiplied_sign_first n m k)
