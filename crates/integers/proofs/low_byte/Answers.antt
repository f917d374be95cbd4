use mathlib.Core.Path.{ap}
use lib.IntN.{nat_abs}
use Rattle.integers.proofs.Machine.{byte_machine}
use Rattle.integers.proofs.low_byte.Goals as goal

pub returns : goal.returns
returns c = ap nat_abs (byte_machine c.args.x c.ranges.x)
