use mathlib.Core.Path.{◌≡◌, ap, ◌∙◌}
use lib.Bits.{bit_and}
use lib.IntN.{pos, nat_abs}
use mir.Syntax.{w64}
use mir.Val.{to_z, of_z}
use mir.Facts.{to_z-of_z}
use Rattle.integers.specs.Numbers.{digit}
use Rattle.integers.proofs.Machine.{lowest_machine}
use Rattle.integers.proofs.digit.Goals as goal

masked : (c : goal.After-floor_by) → to_z w64 (bit_and (of_z w64 c.floor_by.result) 1) ≡ pos (digit c.args.x c.args.i)
unfolding digit
masked c = lowest_machine c.floor_by.result (record { sfits = c.floor_by.type_inv }) ∙ rw (c.floor_by.ensures, to_z-of_z c.ranges.x)

pub returns : goal.returns
returns c = ap nat_abs (masked c)
