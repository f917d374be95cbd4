-- What a passed check tells, of a unit that the code holds in 32 bits too, and that no quotient is by 0. Assumes nothing.
-- Proved here: `below_pos`, `import_passed`, `asked`, `parts_told`.
use mathlib.Core.Path.{◌≡◌}
use mathlib.Core.Bool.{true, not}
use Prim.Native.Nat.{ℕ, ◌<◌}
use native.Mathlib.Nat.{mul-pos}
use lib.IntN.{ℤ, neg_ℤ}
use lib.Signed.{◌≤ℤ◌}
use lib.Ieee.{Float}
use lib.Ieee.Fits.{up_pos}
use lib.Ieee.Positive.{den_pos}
use lib.Ieee.Scale.{finite}
use mir.Syntax.{w32}
use mir.Val.{SFits, to_z, of_z}
use mir.Facts.{to_z-of_z}
use borrow.Author.Tests.{not-false}
use Rattle.words.specs.Words.{most_unit}
use Rattle.words.specs.Refusals.{refuse_for, format_check}
use Rattle.words.specs.declared.Cause.TheVariants.{NotFinite}
use Rattle.words.specs.Outcomes.{Done}
use Rattle.words.specs.declared.Format.{Format}
use Rattle.words.proofs.Laws.{both_passed, passed, RightFormat, right_format}
use Rattle.binary64.specs.declared.Parts.{Parts}
use Rattle.binary64.specs.Import.{sample, in_units, import_check}
use Rattle.binary64.specs.Parts.{parts_of}

pub below_pos : (x : Float) (e : ℤ) → 0 < (in_units x e).below
unfolding in_units
below_pos x e = mul-pos (den_pos x) (up_pos e)

pub import_passed : (bits : ℕ) (f : Format) → import_check bits f ≡ Done → (finite (sample bits) ≡ true) × RightFormat f
unfolding import_check
import_passed bits f e =
    let p = both_passed (format_check f) (refuse_for NotFinite (not (finite (sample bits)))) e in
    (not-false (finite (sample bits)) (passed NotFinite (not (finite (sample bits))) p.1), right_format f p.0)

-- ---- what the code asks, and what it finds
pub asked : (bits : ℕ) (f : Format) → SFits w32 f.unit → import_check bits f ≡ Done →
    (finite (sample bits) ≡ true) × (neg_ℤ most_unit ≤ℤ to_z w32 (of_z w32 f.unit))
asked bits f s e = let p = import_passed bits f e in (p.0, rw (to_z-of_z s) p.1.fine)

pub parts_told : (bits : ℕ) (e : ℤ) {p : Parts} → SFits w32 e → p ≡ parts_of (in_units (sample bits) (to_z w32 (of_z w32 e))) →
    p ≡ parts_of (in_units (sample bits) e)
parts_told bits e s g = rw (to_z-of_z s) at g
