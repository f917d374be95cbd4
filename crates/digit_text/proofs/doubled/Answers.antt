use Prim.Native.Nat.{◌^◌}
use mathlib.Core.Path.{◌≡◌}
use lib.IntN.{pos, ◌*ℤ◌}
use mir.Syntax.{w64}
use mir.Val.{SFits}
use mir.Facts.{to_z-of_z}
use Rattle.integers.proofs.Kit.{ints, plus_law, times_law, size_range}
use Rattle.words.specs.RoundBit.{round_bit_check}
use Rattle.words.specs.Outcomes.{Done}
use Rattle.words.specs.Kinds.{RoundBitWord}
use Rattle.words.proofs.Laws.{RightRoundBit, round_bit_right, small, machine}
use Rattle.digit_text.proofs.Laws.Picture.{top_row}
use borrow.Author.Rules.{rules}
use Rattle.digit_text.proofs.doubled.Goals as goal

-- the number, twice it and the top row fit an i64
module _ (w : RoundBitWord) (done : round_bit_check w ≡ Done) where
  right : RightRoundBit w
  right = round_bit_right w done

  number : SFits w64 w.number.0
  number = machine right

  twice : SFits w64 (pos 2 *ℤ w.number.0)
  twice = let a = w.number.0 in omega (ints, size_range (2 ^ 62) a (small right), times_law (pos 2) a)

  row : SFits w64 (top_row w.number)
  row =
      let a = w.number.0 in
      let r = w.number.1 in
      omega (ints, size_range (2 ^ 62) a (small right), right.bit, times_law (pos 2) a, plus_law (pos 2 *ℤ a) (pos r))

pub overflow_mul-result : goal.overflow_mul-result
overflow_mul-result c = rw (to_z-of_z (number _ c.requires)) (twice _ c.requires)

pub overflow_add-result : goal.overflow_add-result
overflow_add-result c =
    let bit : SFits w64 c.from.result = search rules in
    rw (to_z-of_z (number _ c.requires), to_z-of_z (twice _ c.requires), to_z-of_z bit, c.from.ensures) (row _ c.requires)

pub returns : goal.returns
returns c =
    let bit : SFits w64 c.from.result = search rules in
    rw (to_z-of_z (number _ c.requires), to_z-of_z (twice _ c.requires), to_z-of_z bit, c.from.ensures, to_z-of_z (row _ c.requires))
