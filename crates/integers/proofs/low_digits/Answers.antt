use Prim.Native.Nat.{ℕ, ◌<◌}
use mathlib.Core.Path.{◌≡◌, ◌∙◌, sym}
use mir.Syntax.{w64}
use mir.Facts.{to_z-of_z}
use native.Mathlib.Omega.{arith}
use Rattle.integers.specs.Numbers.{low_digits}
use Rattle.integers.proofs.Machine.{low_machine, low_fits, low_far}
use Rattle.integers.proofs.low_digits.Goals as goal

pub returns-then-d-eq0 : goal.returns-then-d-eq0
unfolding low_digits
returns-then-d-eq0 c = rw c.if-d-eq0.true

pub returns-then-d-gt63 : goal.returns-then-d-gt63
returns-then-d-gt63 c =
    let f = c.ranges.x in
    to_z-of_z f ∙ sym (low_far c.args.x c.args.d f c.if-d-gt63.true)

pub returns : goal.returns
returns c =
    let x = c.args.x in
    let d = c.args.d in
    let low = low_machine x d c.ranges.x (some d c.if-d-eq0.false) c.if-d-gt63.false in
    rw low (to_z-of_z (low_fits w64 x d (omega arith)))
  where
    some : (n : ℕ) → (n ≡ 0 → ⊥) → 0 < n
    some n h = omega arith
