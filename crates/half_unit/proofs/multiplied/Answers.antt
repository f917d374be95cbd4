use mathlib.Core.Path.{sym}
use native.Mathlib.Omega.{arith}
use lib.IntN.{pos, ◌+ℤ◌, ◌*ℤ◌}
use mir.Syntax.{w64}
use mir.Val.{SFits}
use mir.Facts.{to_z-of_z}
use Rattle.std.proofs.lemmas.Grind.{common_steps}
use Rattle.integers.proofs.Halves.{half_product_is, half_product_mag}
use Rattle.half_unit.specs.Arithmetic.{multiplied}
use Rattle.half_unit.proofs.multiplied.Goals as goal

-- each step of 2xy + x + y fits an i64
module _ (c : goal.Start) where
  product : SFits w64 (c.args.x *ℤ c.args.y)
  product = grind (arith, common_steps)

  twice : SFits w64 (pos 2 *ℤ (c.args.x *ℤ c.args.y))
  twice = grind (arith, common_steps)

  more : SFits w64 ((pos 2 *ℤ (c.args.x *ℤ c.args.y)) +ℤ c.args.x)
  more = grind (arith, common_steps)

  all : SFits w64 (((pos 2 *ℤ (c.args.x *ℤ c.args.y)) +ℤ c.args.x) +ℤ c.args.y)
  all = let m = half_product_mag c.args.x c.args.y in record { sfits = omega (arith, m, c.requires) }

pub returns : goal.returns
unfolding multiplied
returns c =
    rw (to_z-of_z c.ranges.x, to_z-of_z c.ranges.y, to_z-of_z (product c), to_z-of_z (twice c), to_z-of_z (more c), to_z-of_z (all c))
    (sym (half_product_is c.args.x c.args.y))
