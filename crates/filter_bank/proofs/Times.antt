-- A product by the values of its words, as the code makes it: its number is far inside an i64. Assumes nothing.
-- Proved here: `turned_xor`, `product_bit_is`, `product_made`.
use Prim.Native.Nat.{ℕ, zero, suc, ◌-◌, ◌^◌, ◌≤◌, ◌<◌}
use native.Mathlib.Omega.{arith}
use mathlib.Core.Path.{◌≡◌, refl}
use mathlib.Core.Bool.{Bool, true, false}
use lib.Bits.{bit_xor, bit_and, and_le_l}
use lib.IntN.{ℤ, pos, ◌+ℤ◌, ◌-ℤ◌, ◌*ℤ◌}
use lib.Signed.{mag}
use mir.Syntax.{w64}
use mir.Val.{SFits, to_z, of_z, bool_byte}
use mir.Facts.{to_z-of_z, to_z_pos}
use Rattle.integers.specs.Numbers.{exactly_one}
use Rattle.integers.proofs.Kit.{ints, plus_law, minus_law, size_range}
use Rattle.words.specs.declared.RoundBit.{RoundBit}
use Rattle.round_bit.specs.Arithmetic.{negative, sign_changed_if, magnitude, magnitude_product, multiplied}
use Rattle.round_bit.proofs.Laws.Signs.{signs_if_bit}
use Rattle.round_bit.proofs.Laws.Multiplied.{multiplied_bit, multiplied_size, multiplied_value}

-- ---- the round bit
pub turned_xor : (b : Bool) (n : RoundBit) → n.1 ≤ 1 → bit_xor n.1 (bool_byte b) ≡ (sign_changed_if b n).1
turned_xor true n h = over n.1 h
  where
    over : (r : ℕ) → r ≤ 1 → bit_xor r 1 ≡ 1 - r
    over zero h = refl
    over (suc zero) h = refl
    over (suc (suc r)) h = absurd (omega arith)
turned_xor false n h = kept n.1 h
  where
    kept : (r : ℕ) → r ≤ 1 → bit_xor r 0 ≡ r
    kept zero h = refl
    kept (suc zero) h = refl
    kept (suc (suc r)) h = absurd (omega arith)

pub product_bit_is : (m n : RoundBit) → m.1 ≤ 1 →
    bit_xor (bit_and (magnitude m).1 (magnitude n).1) (bool_byte (exactly_one (negative m) (negative n))) ≡ (multiplied m n).1
unfolding multiplied magnitude_product
product_bit_is m n h =
    let x = magnitude m in
    let y = magnitude n in
    let bit : bit_and x.1 y.1 ≤ 1 = omega (arith, signs_if_bit (negative m) m h, and_le_l x.1 y.1) in
    turned_xor (exactly_one (negative m) (negative n)) (magnitude_product x y) bit

-- ---- the number: the product's value less its round bit
abbrev valued : RoundBit → RoundBit → ℤ
valued m n = (m.0 +ℤ pos m.1) *ℤ (n.0 +ℤ pos n.1)

module _ (m n : RoundBit) (h : mag m.0 < 2 ^ 11) (b : m.1 ≤ 1) (k : mag n.0 < 2 ^ 15) (d : n.1 ≤ 1) where
  bit_small : (multiplied m n).1 ≤ 1
  bit_small = multiplied_bit m n b

  value_fits : SFits w64 (valued m n)
  value_fits =
      let x = (multiplied m n).0 in
      let r = (multiplied m n).1 in
      let size = size_range (2 ^ 26) x (multiplied_size m n 11 15 h k b d) in
      rw (← multiplied_value m n b d) (omega (ints, size, bit_small, plus_law x (pos r)))

  number_is : valued m n -ℤ pos (multiplied m n).1 ≡ (multiplied m n).0
  number_is =
      let x = (multiplied m n).0 in
      let r = (multiplied m n).1 in
      rw (← multiplied_value m n b d) (omega (ints, minus_law (x +ℤ pos r) (pos r), plus_law x (pos r)))

  number_fits : SFits w64 (valued m n -ℤ pos (multiplied m n).1)
  number_fits = rw number_is (omega (ints, size_range (2 ^ 26) (multiplied m n).0 (multiplied_size m n 11 15 h k b d)))

  bit_told : to_z w64 (multiplied m n).1 ≡ pos (multiplied m n).1
  bit_told = to_z_pos w64 (omega (arith, bit_small))

  -- of the values x and y and the round bit r, as the machine has them
  module _ (x y : ℤ) (r : ℕ) (e : x ≡ m.0 +ℤ pos m.1) (f : y ≡ n.0 +ℤ pos n.1) (g : r ≡ (multiplied m n).1) where
    value_room : SFits w64 (x *ℤ y)
    value_room = rw (e, f) value_fits

    number_room : SFits w64 (to_z w64 (of_z w64 (x *ℤ y)) -ℤ to_z w64 r)
    number_room = rw (to_z-of_z value_room, e, f, g, bit_told) number_fits

    pub product_made : record { 0 = to_z w64 (of_z w64 (to_z w64 (of_z w64 (x *ℤ y)) -ℤ to_z w64 r)); 1 = r } ≡ multiplied m n
    product_made = rw (to_z-of_z number_room, to_z-of_z value_room, e, f, g, bit_told, number_is)
