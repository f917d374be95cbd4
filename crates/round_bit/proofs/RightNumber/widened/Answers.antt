use Prim.Native.Nat.{◌^◌}
use mathlib.Core.Path.{◌≡◌, ◌∙◌}
use native.Mathlib.Omega.{arith}
use lib.IntN.{pos, ◌+ℤ◌, ◌-ℤ◌, ◌*ℤ◌}
use mir.Syntax.{w64}
use mir.Val.{SFits, to_z}
use mir.Facts.{to_z-of_z, to_z_pos}
use Rattle.integers.proofs.Width.{widen_is, widen_machine}
use Rattle.integers.proofs.Machine.{times_machine}
use borrow.Author.Rules.{rules}
use Rattle.round_bit.proofs.RightNumber.widened.Goals as goal

module _ (c : goal.After-struct_known-1) where
  number : SFits w64 c.args.self.number.0
  number = search rules

  bit : to_z w64 c.args.self.number.1 ≡ pos c.args.self.number.1
  bit = to_z_pos w64 (omega (arith, c.args.self.bit))

  steps : SFits w64 (c.args.self.number.0 +ℤ pos c.args.self.number.1)
      × SFits w64 ((c.args.self.number.0 +ℤ pos c.args.self.number.1) *ℤ pos (2 ^ c.args.d))
      × SFits w64 (((c.args.self.number.0 +ℤ pos c.args.self.number.1) *ℤ pos (2 ^ c.args.d)) -ℤ
      pos c.args.self.number.1)
  steps =
      let p = c.requires in widen_machine c.args.self.number.0 c.args.self.number.1
      c.args.d p.0 p.1 c.args.self.bit

pub overflow_add-result : goal.overflow_add-result
overflow_add-result c = rw (to_z-of_z (number c), bit c) (steps c).0

pub overflow_sub-result : goal.overflow_sub-result
overflow_sub-result c = rw (to_z-of_z (number c), bit c, times_machine c.args.d (steps c).0 (steps c).1) (steps c).2

pub returns : goal.returns
returns c =
    rw (to_z-of_z (number c), bit c, times_machine c.args.d (steps c).0 (steps c).1)
    (to_z-of_z (steps c).2 ∙ widen_is c.args.self.number.0 c.args.self.number.1 c.args.d)
