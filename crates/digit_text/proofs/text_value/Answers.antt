use Prim.Native.Nat.{ℕ, ◌≤◌, ◌<◌, ◌^◌}
use native.Mathlib.Omega.{arith}
use mathlib.Core.List.{List}
use mathlib.Core.Path.{◌≡◌, refl, sym}
use lib.IntN.{ℤ, pos, nat_abs, ◌+ℤ◌, ◌*ℤ◌}
use lib.ListN.{length, take, length-take}
use mir.Facts.{to_z-of_z}
use mir.Syntax.{w64}
use mir.Val.{SFits}
use Rattle.integers.proofs.Kit.{ints, abs_law, times_law, plus_law}
use Rattle.digit_text.specs.Digits.{text_value}
use Rattle.digit_text.proofs.Scan.{digit_range, value_next, value_small}
use borrow.Author.Rules.{rules}
use Rattle.digit_text.proofs.text_value.Goals as goal

pub loop-b-init : goal.loop-b-init
unfolding text_value
loop-b-init c = refl

-- the value of the bytes passed, doubled, and with the next digit
module _ (t : List ℕ) (k : ℕ) (v : ℤ) (short : length t ≤ 63) (inside : k < length t) (e : v ≡ text_value (take k t)) where
  small : nat_abs v < 2 ^ 62
  small = rw e (value_small (take k t) 62 (omega (arith, length-take k t)))

  twice : SFits w64 (pos 2 *ℤ v)
  twice = omega (ints, small, abs_law v, times_law (pos 2) v)

  next : (d : ℤ) → nat_abs d ≤ 1 → SFits w64 ((pos 2 *ℤ v) +ℤ d)
  next d h = omega (ints, small, abs_law v, abs_law d, times_law (pos 2) v, plus_law (pos 2 *ℤ v) d)

pub overflow_mul-value : goal.overflow_mul-value
overflow_mul-value c = twice c.args.text.now c.loop-b.b-index _ c.requires c.loop-b-test.true c.loop-b.invariant

pub overflow_add-value : goal.overflow_add-value
overflow_add-value c =
    let t = c.args.text.now in
    let k = c.loop-b.b-index in
    let f : SFits w64 c.digit_of.result = search rules in
    rw (to_z-of_z (twice t k _ c.requires c.loop-b-test.true c.loop-b.invariant), to_z-of_z f, c.digit_of.ensures)
    (next t k _ c.requires c.loop-b-test.true c.loop-b.invariant _ (digit_range _))

pub loop-b-preserved : goal.loop-b-preserved
loop-b-preserved c =
    let t = c.args.text.now in
    let k = c.loop-b.b-index in
    let f : SFits w64 c.digit_of.result = search rules in
    rw (
      to_z-of_z (overflow_add-value c),
      to_z-of_z (twice t k _ c.requires c.loop-b-test.true c.loop-b.invariant),
      to_z-of_z f,
      c.digit_of.ensures,
      c.loop-b.invariant,
    )
    (sym (value_next t k c.loop-b-test.true))
