-- The product: its fit, its value, its operands turned round and sign-changed. Assumes nothing.
-- Proved here: `first`, `second`, `format`, `product_is_word`, `product_word_right`, `product_closed`, `product_value`, `product_comm`,
-- `product_sign_first`, `product_sign_second`, `product_sign_both`.
use Prim.Native.Nat.{◌+◌, ◌-◌}
use native.Mathlib.Omega.{arith}
use mathlib.Core.Path.{◌≡◌}
use lib.IntN.{pos, ◌+ℤ◌, ◌*ℤ◌, +ℤ_comm, *ℤ_comm}
use Rattle.integers.proofs.Times.{times_assoc}
use Rattle.words.specs.Words.{value}
use Rattle.words.specs.Formats.{answer_check}
use Rattle.words.specs.RoundBit.{round_bit_value, round_bit_check, round_bit_done}
use Rattle.words.specs.Outcomes.{Done}
use Rattle.words.specs.declared.Format.{Format}
use Rattle.words.specs.Kinds.{RoundBitWord}
use Rattle.words.proofs.Laws.{Right, word_right, RightFormat}
use Rattle.words.proofs.Operands.{both_right, right_both}
use Rattle.words.proofs.Formats.{answer_right, answer_done}
use Rattle.round_bit.specs.Cuts.{sign_changed, sign_change_word, sign_change_of}
use Rattle.round_bit.specs.Arithmetic.{multiplied, product_format, product_word, product_check, product_of}
use Rattle.round_bit.proofs.Laws.Signs.{signs_twice, signs_right}
use Rattle.round_bit.proofs.Checks.{word_done}
use Rattle.round_bit.proofs.Laws.Multiplied.{multiplied_bit, multiplied_size, multiplied_value}
use Rattle.round_bit.proofs.Laws.Multiplied.{multiplied_comm, multiplied_sign_first, multiplied_sign_second}

-- ---- what the check of a product tells, and what it asks
pub record Factors (x y : RoundBitWord) : Type 0 where
  pub first : Right x.format x.number.0 x.number.1
  pub second : Right y.format y.number.0 y.number.1
  pub format : RightFormat (product_format x.format y.format)

product_tells : (x y : RoundBitWord) → (product_of x y).outcome ≡ Done → Factors x y
product_tells x y e =
    let f = product_format x.format y.format in
    let c = (word_done (product_check x y) (product_word x y) e).0 in
    let p = both_right x.format x.number.0 x.number.1 y.format y.number.0 y.number.1 (answer_check f) c in
    record { first = p.0; second = p.1; format = answer_right f (omega (arith, p.0.format.narrow, p.1.format.narrow)) p.2 }

pub product_is_word : (x y : RoundBitWord) → Factors x y → product_of x y ≡ round_bit_done (product_word x y)
product_is_word x y g = rw (right_both g.first g.second (answer_done (product_format x.format y.format) g.format))

pub product_word_right : (x y : RoundBitWord) → Factors x y → round_bit_check (product_word x y) ≡ Done
unfolding product_word
product_word_right x y g =
    let i = x.format.width - 1 in
    let j = y.format.width - 1 in
    let f = product_format x.format y.format in
    let p = multiplied x.number y.number in
    let digits : f.width - 1 ≡ i + j = omega (arith, g.first.format.narrow, g.second.format.narrow) in
    word_right f p.0 p.1 (record {
      format = g.format;
      size = rw digits (multiplied_size x.number y.number i j g.first.size g.second.size g.first.bit g.second.bit);
      bit = multiplied_bit x.number y.number g.first.bit;
    })

-- ---- closed: the word of a done answer passes its own check
pub product_closed : (x y : RoundBitWord) → (product_of x y).outcome ≡ Done → round_bit_check (product_of x y).word ≡ Done
product_closed x y e = let g = product_tells x y e in rw (product_is_word x y g) (product_word_right x y g)

-- ---- the values multiply exactly: half units of the product's unit, twice, are half units times half units
pub product_value : (x y : RoundBitWord) → (product_of x y).outcome ≡ Done →
    pos 2 *ℤ round_bit_value (product_of x y).word ≡ round_bit_value x *ℤ round_bit_value y
unfolding product_word value
product_value x y e =
    let g = product_tells x y e in
    let a = x.number.0 +ℤ pos x.number.1 in
    let b = y.number.0 +ℤ pos y.number.1 in
    rw (
      product_is_word x y g,
      multiplied_value x.number y.number g.first.bit g.second.bit,
      times_assoc (pos 2) a (pos 2 *ℤ b),
      ← times_assoc a (pos 2) b,
      *ℤ_comm a (pos 2),
      times_assoc (pos 2) a b,
    )

format_comm : (f g : Format) → product_format f g ≡ product_format g f
format_comm f g =
    let width : f.width + g.width - 1 ≡ g.width + f.width - 1 = omega arith in
    λ i. record { width = width i; unit = +ℤ_comm f.unit g.unit i }

pub product_comm : (x y : RoundBitWord) → (product_of x y).outcome ≡ Done → product_of x y ≡ product_of y x
unfolding product_word
product_comm x y e =
    let g = product_tells x y e in
    let same = format_comm x.format y.format in
    let back : Factors y x = record { first = g.second; second = g.first; format = rw same at g.format } in
    rw (product_is_word x y g, product_is_word y x back, multiplied_comm x.number y.number, same)

-- ---- one operand sign-changed is the sign-changed product, both are the product, digit for digit
pub product_sign_first : (x y : RoundBitWord) → (product_of x y).outcome ≡ Done → product_of (sign_change_word x) y ≡ sign_change_of (product_of x y).word
unfolding product_word sign_change_word
product_sign_first x y e =
    let g = product_tells x y e in
    let signed : Factors (sign_change_word x) y = record { first = signs_right x.format x.number g.first; second = g.second; format = g.format } in
    rw (
      product_is_word x y g,
      product_is_word (sign_change_word x) y signed,
      product_word_right x y g,
      multiplied_sign_first x.number y.number g.first.bit,
    )

pub product_sign_second : (x y : RoundBitWord) → (product_of x y).outcome ≡ Done → product_of x (sign_change_word y) ≡ sign_change_of (product_of x y).word
unfolding product_word sign_change_word
product_sign_second x y e =
    let g = product_tells x y e in
    let signed : Factors x (sign_change_word y) = record { first = g.first; second = signs_right y.format y.number g.second; format = g.format } in
    rw (
      product_is_word x y g,
      product_is_word x (sign_change_word y) signed,
      product_word_right x y g,
      multiplied_sign_second x.number y.number g.second.bit,
    )

pub product_sign_both : (x y : RoundBitWord) → (product_of x y).outcome ≡ Done → product_of (sign_change_word x) (sign_change_word y) ≡ product_of x y
unfolding product_word sign_change_word
product_sign_both x y e =
    let g = product_tells x y e in
    let m = x.number in
    let n = y.number in
    let signed : Factors (sign_change_word x) (sign_change_word y) =
    record { first = signs_right x.format m g.first; second = signs_right y.format n g.second; format = g.format } in
    rw (
      product_is_word x y g,
      product_is_word (sign_change_word x) (sign_change_word y) signed,
      multiplied_sign_first m (sign_changed n) g.first.bit,
      multiplied_sign_second m n g.second.bit,
      signs_twice (multiplied m n) (multiplied_bit m n g.first.bit),
    )
