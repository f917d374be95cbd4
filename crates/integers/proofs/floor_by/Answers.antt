use mathlib.Core.Path.{◌∙◌}
use mir.Facts.{to_z-of_z}
use native.Mathlib.Omega.{arith}
use Rattle.integers.specs.Numbers.{floor_by}
use Rattle.integers.proofs.Machine.{floor_machine, floor_far}
use Rattle.integers.proofs.floor_by.Goals as goal

pub returns-then-d-lt64 : goal.returns-then-d-lt64
unfolding floor_by
returns-then-d-lt64 c = let f = c.ranges.x in rw (to_z-of_z f) (to_z-of_z (floor_machine c.args.d f))

pub returns-else-d-lt64 : goal.returns-else-d-lt64
unfolding floor_by
returns-else-d-lt64 c =
    let f = c.ranges.x in
    rw (to_z-of_z f) (to_z-of_z (floor_machine 63 f) ∙ floor_far c.args.x c.args.d f (omega arith))
