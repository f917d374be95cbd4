-- The two sums and the product: what they do to values, and to each other. Assumes nothing.
-- Proved here: `sum_up_closed`, `sum_even_closed`, `product_closed`, `sum_up_value`, `sum_even_value`, `sum_even_lowest`, `sum_up_comm`,
-- `sum_even_comm`, `sum_same_outcome`, `product_value`, `product_comm`.
use Rattle.std.specs.Prelude.{Ok, Err}
use Prim.Native.Nat.{suc, ◌+◌, ◌-◌}
use native.Mathlib.Omega.{arith}
use mathlib.Core.Path.{◌≡◌, refl, sym}
use lib.IntN.{pos, nat_abs, ◌+ℤ◌, ◌-ℤ◌, ◌*ℤ◌, +ℤ_comm, *ℤ_comm}
use Rattle.integers.specs.Numbers.{lowest, cleared}
use Rattle.integers.proofs.Kit.{ints, plus_law, minus_law, one_zero, abs_law}
use Rattle.integers.proofs.Digits.{lowest_le, lowest_cleared, cleared_law}
use Rattle.integers.proofs.Halves.{fits_cleared, half_product_odd, half_product_is, half_product_size}
use Rattle.words.specs.Words.{value, outside}
use Rattle.words.specs.Words.Kind.{half_unit}
use Rattle.words.specs.Refusals.{refuse}
use Rattle.words.specs.Formats.{answer_check}
use Rattle.words.specs.HalfUnit.{half_unit_value, half_unit_check, half_unit_refused, half_unit_done, half_unit_fitted, ◌and_then◌}
use Rattle.words.specs.declared.Format.{Format}
use Rattle.words.specs.Outcomes.{Outcome}
use Rattle.words.specs.Outcomes.{Done}
use Rattle.words.specs.Kinds.{HalfUnitWord}
use Rattle.words.proofs.Laws.{RightFormat, Right, half_unit_passes, half_unit_law}
use Rattle.words.proofs.Formats.{answer_right, answer_done}
use Rattle.words.proofs.Operands.{both_right, right_both, operands_right, right_operands, fit_passes, done_passed, done_fits, outcome_kept}
use Rattle.half_unit.specs.Arithmetic.{sum_check, sum_up_word, sum_up_of, sum_even_word, sum_even_of}
use Rattle.half_unit.specs.Arithmetic.{multiplied, product_format, product_word, product_check, product_of}
use Rattle.half_unit.proofs.Laws.Cuts.{answer_closed}

-- ---- what the check of a sum tells, and that it does not look at the order
sum_tells : (x y : HalfUnitWord) → sum_check x y ≡ Done → Right x.format x.number.0 0 × Right y.format y.number.0 0 × (x.format ≡ y.format)
sum_tells x y c = operands_right x.format x.number.0 0 y.format y.number.0 0 c

sum_check_comm : (x y : HalfUnitWord) → sum_check x y ≡ Done → sum_check y x ≡ Done
sum_check_comm x y c = let t = sum_tells x y c in right_operands t.1 t.0 (sym t.2)

-- ---- a done product passed its check; what that tells, and that it does not look at the order
product_done : (x y : HalfUnitWord) → (product_of x y).outcome ≡ Done → product_check x y ≡ Done
product_done x y e = done_passed half_unit_refused (λ a. a.outcome) (λ c. refl) (product_check x y) (half_unit_done (product_word x y)) e

product_tells : (x y : HalfUnitWord) → product_check x y ≡ Done →
    Right x.format x.number.0 0 × Right y.format y.number.0 0 × RightFormat (product_format x.format y.format)
product_tells x y c =
    let f = product_format x.format y.format in
    let p = both_right x.format x.number.0 0 y.format y.number.0 0 (answer_check f) c in
    (p.0, p.1, answer_right f (omega (arith, p.0.format.narrow)) p.2)

product_format_comm : (f g : Format) → product_format f g ≡ product_format g f
product_format_comm f g =
    let width : f.width + g.width ≡ g.width + f.width = omega arith in
    rw (width, +ℤ_comm f.unit g.unit)

product_check_comm : (x y : HalfUnitWord) → product_check x y ≡ Done → product_check y x ≡ Done
product_check_comm x y c =
    let t = product_tells x y c in
    right_both t.1 t.0 (answer_done _ (rw (product_format_comm x.format y.format) at t.2))

-- ---- closed: the word of a done answer passes its own check. Where 8 was asked last, only the format is left to look at
module _ (o : Outcome) (w : HalfUnitWord) (right : o ≡ Done → RightFormat w.format) where
  fitted_closed : (o and_then half_unit_fitted w).outcome ≡ Done → half_unit_check (o and_then half_unit_fitted w).word ≡ Done
  unfolding half_unit_fitted
  fitted_closed e =
      let x = w.number.0 in
      let p = done_fits half_unit_refused (λ a. a.outcome) (λ c. refl) o w.format x (half_unit_done w) e in
      rw (p.0, fit_passes w.format x p.1) (half_unit_passes w (record { format = right p.0; size = p.1; bit = omega arith }))

pub sum_up_closed : (x y : HalfUnitWord) → (sum_up_of x y).outcome ≡ Done → half_unit_check (sum_up_of x y).word ≡ Done
unfolding sum_up_word
sum_up_closed x y e = fitted_closed (sum_check x y) (sum_up_word x y) (λ c. (sum_tells x y c).0.format) e

pub sum_even_closed : (x y : HalfUnitWord) → (sum_even_of x y).outcome ≡ Done → half_unit_check (sum_even_of x y).word ≡ Done
unfolding sum_even_word
sum_even_closed x y e = fitted_closed (sum_check x y) (sum_even_word x y) (λ c. (sum_tells x y c).0.format) e

product_word_passes : (x y : HalfUnitWord) → product_check x y ≡ Done → half_unit_check (product_word x y) ≡ Done
unfolding product_word multiplied
product_word_passes x y c =
    let t = product_tells x y c in
    let i = x.format.width - 1 in
    let j = y.format.width - 1 in
    let digits : x.format.width + y.format.width - 1 ≡ suc (i + j) = omega (arith, t.0.format.narrow, t.1.format.narrow) in
    let size = half_product_size x.number.0 y.number.0 i j t.0.size t.1.size in
    half_unit_passes _ (record { format = t.2; size = rw digits size; bit = omega arith })

pub product_closed : (x y : HalfUnitWord) → (product_of x y).outcome ≡ Done → half_unit_check (product_of x y).word ≡ Done
product_closed x y e = answer_closed (product_check x y) (product_word x y) (product_word_passes x y) e

-- ---- up sum: the exact sum plus half a unit, always. Even sum: half a unit away, lowest digit 0
pub sum_up_value : (x y : HalfUnitWord) → half_unit_value (sum_up_word x y) ≡ (half_unit_value x +ℤ half_unit_value y) +ℤ pos 1
unfolding sum_up_word
sum_up_value x y =
    let a = x.number.0 in
    let b = y.number.0 in
    let u = half_unit_value x in
    let v = half_unit_value y in
    omega (
      ints,
      half_unit_law (a +ℤ b +ℤ pos 1),
      plus_law (a +ℤ b) (pos 1),
      plus_law a b,
      half_unit_law a,
      half_unit_law b,
      plus_law (u +ℤ v) (pos 1),
      plus_law u v,
    )

pub sum_even_value : (x y : HalfUnitWord) → nat_abs (half_unit_value (sum_even_word x y) -ℤ (half_unit_value x +ℤ half_unit_value y)) ≡ 1
unfolding sum_even_word
sum_even_value x y =
    let s = (sum_up_word x y).number.0 in
    let u = value half_unit (cleared s) 0 in
    let v = half_unit_value x +ℤ half_unit_value y in
    omega (
      ints,
      abs_law (u -ℤ v),
      one_zero (u -ℤ v),
      minus_law u v,
      half_unit_law (cleared s),
      cleared_law s,
      lowest_le s,
      half_unit_law s,
      sum_up_value x y,
      plus_law v (pos 1),
    )

pub sum_even_lowest : (x y : HalfUnitWord) → lowest (sum_even_word x y).number.0 ≡ 0
unfolding sum_even_word
sum_even_lowest x y = lowest_cleared (sum_up_word x y).number.0

-- both are commutative, and clearing the lowest digit never changes whether a number fits, so 8 is the same for both
sum_up_word_comm : (x y : HalfUnitWord) → x.format ≡ y.format → sum_up_word x y ≡ sum_up_word y x
unfolding sum_up_word
sum_up_word_comm x y same = rw (same, +ℤ_comm x.number.0 y.number.0)

pub sum_up_comm : (x y : HalfUnitWord) → sum_check x y ≡ Done → sum_up_of x y ≡ sum_up_of y x
sum_up_comm x y e = rw (e, sum_check_comm x y e, sum_up_word_comm x y (sum_tells x y e).2)

pub sum_even_comm : (x y : HalfUnitWord) → sum_check x y ≡ Done → sum_even_of x y ≡ sum_even_of y x
unfolding sum_even_word
sum_even_comm x y e =
    let same = (sum_tells x y e).2 in
    rw (e, sum_check_comm x y e, sum_up_word_comm x y same, same)

fitted_outcome : (w : HalfUnitWord) → (half_unit_fitted w).outcome ≡ refuse 8 (outside w.format w.number.0)
unfolding half_unit_fitted
fitted_outcome w = outcome_kept half_unit_refused (λ a. a.outcome) (λ c. refl) (refuse 8 (outside w.format w.number.0)) (half_unit_done w) refl

pub sum_same_outcome : (x y : HalfUnitWord) → (sum_even_of x y).outcome ≡ (sum_up_of x y).outcome
unfolding sum_even_word sum_up_word
sum_same_outcome x y = go (sum_check x y) refl
  where
    go : (o : Outcome) → sum_check x y ≡ o → (o and_then half_unit_fitted (sum_even_word x y)).outcome ≡ (o and_then half_unit_fitted (sum_up_word x y)).outcome
    go (Ok _) c =
        let s = (sum_up_word x y).number.0 in
        let n = x.format.width in
        rw (fitted_outcome (sum_even_word x y), fitted_outcome (sum_up_word x y), fits_cleared s n (sum_tells x y c).0.format.narrow)
    go (Err c) e = refl

-- ---- product: exact, in halves of the product's unit, and commutative
pub product_value : (x y : HalfUnitWord) → (product_of x y).outcome ≡ Done → half_unit_value (product_of x y).word ≡ half_unit_value x *ℤ half_unit_value y
unfolding product_word multiplied value
product_value x y e =
    let a = x.number.0 in
    let b = y.number.0 in
    rw (product_done x y e, half_product_is a b) (half_product_odd a b)

product_word_comm : (x y : HalfUnitWord) → product_word x y ≡ product_word y x
unfolding product_word multiplied
product_word_comm x y =
    let p = (pos 2 *ℤ x.number.0) +ℤ pos 1 in
    let q = (pos 2 *ℤ y.number.0) +ℤ pos 1 in
    rw (*ℤ_comm p q, product_format_comm x.format y.format)

pub product_comm : (x y : HalfUnitWord) → (product_of x y).outcome ≡ Done → product_of x y ≡ product_of y x
product_comm x y e = let c = product_done x y e in rw (c, product_check_comm x y c, product_word_comm x y)
