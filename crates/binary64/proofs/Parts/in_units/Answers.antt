use mathlib.Core.Path.{◌≡◌, ap, ◌∙◌}
use Prim.Native.Nat.{ℕ, ◌*◌, ◌-◌, ◌^◌, ◌<◌, ◌≤◌}
use native.Mathlib.Omega.{arith}
use lib.IntN.{ℤ, pos, ◌+ℤ◌}
use lib.Ieee.Exact.{HasValue}
use Rattle.std.specs.Prelude.{neg_ℤ, ◌≤ℤ◌}
use lib.Ieee.{binary64, low}
use mir.Facts.{to_z-of_z}
use Rattle.integers.proofs.Kit.{ints, plus_law}
use Rattle.words.specs.Words.{most_unit}
use Rattle.binary64.specs.declared.Scaled.{Scaled}
use Rattle.binary64.specs.declared.Parts.{Parts}
use Rattle.binary64.specs.Import.{sample, quotient, in_units}
use Rattle.binary64.specs.Parts.{parts_of}
use Rattle.binary64.proofs.Split.{half_le, raised_parts}
use Rattle.binary64.proofs.InUnits.{parts_right, parts_left}
use Rattle.binary64.proofs.Parts.in_units.Goals as goal

-- what was decoded, and the depth, which is the unit's and above 0
module _ (bits : ℕ) (unit : ℤ) (x : Scaled) (d : ℕ) where
  deep : pos d ≡ pos (low binary64) +ℤ unit → neg_ℤ most_unit ≤ℤ unit → 0 < d
  deep told least = omega (ints, told, least, plus_law (pos (low binary64)) unit)

  right : HasValue (sample bits) x.negative (x.significand * 2 ^ x.places) (2 ^ low binary64) → pos d ≡ pos (low binary64) +ℤ unit → x.places < d →
      parts_of (quotient x.negative x.significand (2 ^ (d - x.places))) ≡ parts_of (in_units (sample bits) unit)
  right h told l = parts_right bits unit x.negative x.significand x.places d h told l

  left : HasValue (sample bits) x.negative (x.significand * 2 ^ x.places) (2 ^ low binary64) → pos d ≡ pos (low binary64) +ℤ unit → d ≤ x.places →
      parts_of (quotient x.negative (x.significand * 2 ^ (x.places - d)) 1) ≡ parts_of (in_units (sample bits) unit)
  left h told l = parts_left bits unit x.negative x.significand x.places d h told l

pub returns-then-x-d : goal.returns-then-x-d
returns-then-x-d c =
    let told = rw (to_z-of_z c.ranges.unit) at c.depth-d.ensures in
    let x = c.decoded-x.result in
    let half = ap (λ (p : Parts). p.half) c.cut.ensures.0 in
    let most = half_le (quotient x.negative x.significand (2 ^ (c.depth-d.result - x.places))) in (
      c.cut.ensures.0 ∙ right c.args.bits c.args.unit x c.depth-d.result c.decoded-x.ensures told c.if-x-d.true,
      omega (arith, c.cut.ensures.1, half, most),
    )

pub returns-else-x-d : goal.returns-else-x-d
returns-else-x-d c =
    let told = rw (to_z-of_z c.ranges.unit) at c.depth-d.ensures in
    let x = c.decoded-x.result in
    let is = c.raised.ensures ∙ raised_parts x.negative (x.significand * 2 ^ (x.places - c.depth-d.result)) in (
      c.raised.ensures ∙ left c.args.bits c.args.unit x c.depth-d.result c.decoded-x.ensures told (omega (arith, c.if-x-d.false)),
      omega (arith, ap (λ (p : Parts). p.whole) is, ap (λ (p : Parts). p.half) is),
    )
