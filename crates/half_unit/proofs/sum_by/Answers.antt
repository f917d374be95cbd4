use native.Mathlib.Omega.{arith}
use mathlib.Core.Path.{◌≡◌, sym}
use borrow.Author.Rules.{rules}
use mir.Facts.{to_z-of_z}
use Rattle.words.specs.Outcomes.{Done}
use Rattle.words.specs.Kinds.{HalfUnitWord}
use Rattle.words.proofs.Operands.{operands_right, Sums, sums}
use Rattle.half_unit.specs.Arithmetic.{sum_check}
use Rattle.half_unit.proofs.sum_by.Goals as goal

fits : (x y : HalfUnitWord) → sum_check x y ≡ Done → Sums x.number.0 y.number.0 1
fits x y e = let p = operands_right _ _ _ _ _ _ e in sums 1 p.0 p.1 (omega arith)

pub overflow_add-x : goal.overflow_add-x
overflow_add-x g c =
    let s = fits c.args.x c.args.y (sym c.in_ok-sum_check.ensures) in
    rw (to_z-of_z s.first, to_z-of_z s.second) s.two

pub overflow_add-x-2 : goal.overflow_add-x-2
overflow_add-x-2 g c =
    let s = fits c.args.x c.args.y (sym c.in_ok-sum_check.ensures) in
    rw (to_z-of_z s.first, to_z-of_z s.second, to_z-of_z s.two) s.all

pub returns : goal.returns
returns g c =
    let e = sym c.in_ok-sum_check.ensures in
    let s = fits c.args.x c.args.y e in
    let made = rw (to_z-of_z s.first, to_z-of_z s.second, to_z-of_z s.two, to_z-of_z s.all) at c.rule-number.ensures in
    rw e (c.rule-number.result, made, search rules)
