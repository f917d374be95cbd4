use mathlib.Core.Path.{◌≡◌, ap, ◌∙◌}
use Prim.Native.Nat.{ℕ, ◌-◌, ◌/◌, ◌^◌, ◌<◌}
use native.Mathlib.Omega.{arith}
use native.Mathlib.Nat.{div-le_self}
use lib.IntN.{ℤ, pos, nat_abs}
use mir.Syntax.{w64}
use mir.Val.{SFits, to_z, of_z}
use mir.Facts.{to_z-of_z, to_z_pos}
use Rattle.integers.specs.Numbers.{floor_by, digit, any_below}
use Rattle.integers.proofs.Machine.{by_cast}
use Rattle.binary64.proofs.Split.{cut_parts}
use Rattle.binary64.proofs.Scaled.cut.Goals as goal

-- the significand m, of 53 digits, as the code has it, and its whole part q
module _ (m d : ℕ) (short : m < 2 ^ 53) where
  number : to_z w64 m ≡ pos m
  number = to_z_pos w64 (omega (arith, short))

  small : m / 2 ^ d < 2 ^ 53
  small = omega (arith, short, div-le_self m (2 ^ d))

  floor : (q : ℤ) → SFits w64 q → q ≡ floor_by (to_z w64 m) d → to_z w64 (of_z w64 q) ≡ pos (m / 2 ^ d)
  unfolding floor_by
  floor q f e = to_z-of_z f ∙ e ∙ ap (λ (x : ℤ). floor_by x d) number

pub overflow_cast-result : goal.overflow_cast-result
overflow_cast-result c =
    let x = c.args.self in
    let d = c.args.d in
    by_cast {w = w64} (x.significand / 2 ^ d)
    (floor x.significand d x.short c.floor_by.result (record { sfits = c.floor_by.type_inv }) c.floor_by.ensures)
    (omega (arith, small x.significand d x.short))

pub returns : goal.returns
returns c =
    let x = c.args.self in
    let d = c.args.d in
    let whole = floor x.significand d x.short c.floor_by.result (record { sfits = c.floor_by.type_inv }) c.floor_by.ensures in
    let half = c.digit.ensures ∙ ap (λ (z : ℤ). digit z (d - 1)) (number x.significand d x.short) in
    let more = c.any_below.ensures ∙ ap (λ (z : ℤ). any_below z (d - 1)) (number x.significand d x.short) in
    (cut_parts x.negative x.significand d c.requires x.short (ap nat_abs whole) half more, rw whole (small x.significand d x.short))
