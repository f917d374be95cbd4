use mathlib.Core.Path.{◌∙◌, sym}
use mir.Facts.{to_z-of_z}
use Rattle.integers.specs.Numbers.{floor_by}
use Rattle.integers.proofs.Digits.{cleared_is}
use Rattle.integers.proofs.Machine.{floor_machine, times_machine, cleared_machine}
use Rattle.integers.proofs.cleared.Goals as goal

pub returns : goal.returns
unfolding floor_by
returns c =
    let x = c.args.x in
    let f = c.ranges.x in
    rw (to_z-of_z f) (times_machine 1 (floor_machine 1 f) (rw cleared_is at (cleared_machine x f)) ∙ sym (cleared_is x))
