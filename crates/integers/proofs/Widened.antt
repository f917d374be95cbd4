-- An i32 that the code widens to an i64. Assumes nothing.
-- Proved here: `wide`, `widened`, `sum_wide`.
use mathlib.Core.Path.{◌≡◌, ◌∙◌}
use lib.IntN.{ℤ, pos, ◌+ℤ◌, ◌-ℤ◌}
use mir.Syntax.{w32, w64}
use mir.Val.{SFits, to_z, of_z}
use mir.Facts.{to_z-of_z, sfits_widen}
use Rattle.integers.proofs.Kit.{ints, plus_law, minus_law}

pub wide : {x : ℤ} → SFits w32 x → SFits w64 (to_z w32 (of_z w32 x))
wide f = rw (to_z-of_z f) (sfits_widen tt f)

pub widened : {x : ℤ} → SFits w32 x → to_z w64 (of_z w64 (to_z w32 (of_z w32 x))) ≡ x
widened f = to_z-of_z (wide f) ∙ to_z-of_z f

-- the sum of two of them fits, and so does that less 1
pub sum_wide : {a b : ℤ} → SFits w32 a → SFits w32 b → SFits w64 (a +ℤ b) × SFits w64 (a +ℤ b -ℤ pos 1)
sum_wide {a} {b} f g = omega (ints, plus_law a b, minus_law (a +ℤ b) (pos 1))
