-- The operands of a product made non-negative, as its code meets them. Assumes nothing.
-- Proved here: `is_pos`, `magnitude_product_is`, `bit`, `positive`, `size`, `magnitude_right`, `product_room`.
use Prim.Native.Nat.{ℕ, ◌+◌, ◌-◌, ◌*◌, ◌^◌, ◌≤◌}
use native.Mathlib.Omega.{arith}
use native.Mathlib.Nat.{mul-le-mul, le_trans}
use mathlib.Core.Path.{◌≡◌, refl, ap}
use lib.Bits.{bit_and}
use lib.IntN.{ℤ, pos, negsuc, ◌+ℤ◌, ◌*ℤ◌}
use lib.Signed.{mag, ◌≤ℤ◌}
use lib.Pow.{pow-add, pow_mono}
use Rattle.integers.proofs.Kit.{ints}
use Rattle.words.specs.Outcomes.{Done}
use Rattle.words.specs.declared.RoundBit.{RoundBit}
use Rattle.words.specs.Kinds.{RoundBitWord}
use Rattle.words.proofs.Laws.{round_bit_right}
use Rattle.words.proofs.Formats.{answer_right}
use Rattle.round_bit.specs.Arithmetic.{magnitude_product, negative, magnitude, product_format, product_check}
use Rattle.round_bit.proofs.Checks.{product_passed}
use Rattle.round_bit.proofs.Laws.Signs.{signs_if_bit, magnitude_is_size}

pub is_pos : (x : ℤ) → pos 0 ≤ℤ x → x ≡ pos (mag x)
is_pos (pos n) h = refl
is_pos (negsuc n) h = absurd h.le

-- the product of numbers that are not negative, in ℕ
pub magnitude_product_is : (m n : RoundBit) → pos 0 ≤ℤ m.0 → pos 0 ≤ℤ n.0 →
    magnitude_product m n ≡ record { 0 = pos (mag m.0 * mag n.0 + mag m.0 * n.1 + mag n.0 * m.1); 1 = bit_and m.1 n.1 }
unfolding magnitude_product
magnitude_product_is m n h k = rw (number m.0 n.0 m.1 n.1 h k)
  where
    number : (x y : ℤ) (r s : ℕ) → pos 0 ≤ℤ x → pos 0 ≤ℤ y → ((x *ℤ y) +ℤ (x *ℤ pos s)) +ℤ (y *ℤ pos r) ≡ pos (mag x * mag y + mag x * s + mag y * r)
    number (pos a) (pos b) r s h k = refl
    number (pos a) (negsuc b) r s h k = absurd k.le
    number (negsuc a) y r s h k = absurd h.le

-- an operand that was sign-changed if negative is not negative, and has the size it had
pub record Magnitude (m n : RoundBit) : Type 0 where
  pub bit : m.1 ≤ 1
  pub positive : pos 0 ≤ℤ m.0
  pub size : mag m.0 ≡ mag n.0

pub magnitude_right : (n : RoundBit) → n.1 ≤ 1 → Magnitude (magnitude n) n
magnitude_right n h =
    let e = magnitude_is_size n in
    record { bit = signs_if_bit (negative n) n h; positive = rw e (omega ints); size = ap mag e }

-- two sizes of n and m digits, n + m - 1 ≤ 63: their product is far inside an i64
pub product_room : (x y : RoundBitWord) → product_check x y ≡ Done →
    (mag x.number.0 + 1) * (mag y.number.0 + 1) ≤ 2 ^ 62
product_room x y e =
    let p = product_passed x y e in
    let f = round_bit_right x p.0 in
    let g = round_bit_right y p.1 in
    let i = x.format.width - 1 in
    let j = y.format.width - 1 in
    let two : 2 ≤ x.format.width + y.format.width - 1 = omega (arith, f.format.narrow, g.format.narrow) in
    let w = (answer_right (product_format x.format y.format) two p.2).wide in
    let a : mag x.number.0 + 1 ≤ 2 ^ i = omega (arith, f.size) in
    let b : mag y.number.0 + 1 ≤ 2 ^ j = omega (arith, g.size) in
    let s : (mag x.number.0 + 1) * (mag y.number.0 + 1) ≤ 2 ^ (i + j) = rw (pow-add 2 i j) (mul-le-mul a b) in
    le_trans s (pow_mono {i = i + j} {j = 62} (omega (arith, w, f.format.narrow, g.format.narrow)))
