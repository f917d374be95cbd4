use Prim.Native.Nat.{◌^◌}
use mathlib.Core.Path.{◌≡◌, sym, ◌∙◌}
use native.Mathlib.Omega.{arith}
use lib.IntN.{pos, ◌+ℤ◌}
use mir.Syntax.{w64}
use mir.Val.{SFits, to_z}
use mir.Facts.{to_z-of_z, to_z_pos}
use Rattle.integers.proofs.Kit.{ints, plus_law, size_range}
use Rattle.words.specs.Kinds.{RoundBitWord}
use Rattle.words.specs.Outcomes.{Done}
use Rattle.words.specs.RoundBit.{round_bit_check}
use Rattle.words.proofs.Laws.{round_bit_right, small, machine}
use Rattle.words.proofs.Given.{then_is}
use Rattle.round_bit.specs.Arithmetic.{to_plain_word}
use Rattle.round_bit.proofs.to_plain_word.Goals as goal

bit : (w : RoundBitWord) → round_bit_check w ≡ Done → to_z w64 w.number.1 ≡ pos w.number.1
bit w e = to_z_pos w64 (omega (arith, (round_bit_right w e).bit))

whole : (w : RoundBitWord) → round_bit_check w ≡ Done → SFits w64 (w.number.0 +ℤ pos w.number.1)
whole w e =
    let g = round_bit_right w e in
    omega (ints, size_range (2 ^ 62) w.number.0 (small g), g.bit, plus_law w.number.0 (pos w.number.1))

pub overflow_add-word : goal.overflow_add-word
overflow_add-word c =
    let e = sym c.in_ok-check.ensures in
    rw (to_z-of_z (machine (round_bit_right c.args.w e)), c.from.ensures, bit c.args.w e) (whole c.args.w e)

pub returns : goal.returns
unfolding to_plain_word
returns c =
    let e = sym c.in_ok-check.ensures in
    then_is e (c.fitted.ensures ∙ rw (to_z-of_z (machine (round_bit_right c.args.w e)), c.from.ensures, bit c.args.w e, to_z-of_z (whole c.args.w e)))
