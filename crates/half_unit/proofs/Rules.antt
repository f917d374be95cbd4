-- What is answered that is made of a number that a rule gives, where the rule gives only q. Assumes nothing.
-- Proved here: `cut_by_rule`, `sum_by_rule`.
use Rattle.std.specs.Prelude.{Result, Ok, Err}
use mathlib.Core.Path.{◌≡◌, ap, ◌∙◌}
use lib.IntN.{ℤ, pos}
use Rattle.words.specs.declared.Cause.{Cause}
use Rattle.words.specs.declared.Format.{Format}
use Rattle.words.specs.Outcomes.{Outcome, ◌then◌}
use Rattle.words.specs.Kinds.{HalfUnitWord}
use Rattle.words.specs.Answers.{answer_of}
use Rattle.words.specs.HalfUnit.{half_unit_word, half_unit_done, half_unit_fitted, ◌and_then◌}
use Rattle.words.proofs.Given.{answer_given, answer_fitted}
use Rattle.half_unit.specs.Rules.{MadeBy, word_in, fitted_in}

made_by : (Gives : ℤ → Type 0) (o : Outcome) (made : ℤ → Result HalfUnitWord Cause) (q : ℤ) (r : Result HalfUnitWord Cause) →
    ((p : ℤ) → Gives p → p ≡ q) → MadeBy Gives o made r → r ≡ (o then made q)
made_by Gives (Ok _) made q r only m = m.2 ∙ ap made (only m.0 m.1)
made_by Gives (Err c) made q r only m = m

module _ (Gives : ℤ → Type 0) (o : Outcome) (f : Format) (q : ℤ) (r : Result HalfUnitWord Cause) (only : (p : ℤ) → Gives p → p ≡ q) where
  pub cut_by_rule : MadeBy Gives o (word_in f) r → answer_of (record { 0 = pos 0 }) r ≡ (o and_then half_unit_done (half_unit_word q f))
  cut_by_rule m = rw (made_by Gives o (word_in f) q r only m, answer_given)

  pub sum_by_rule : MadeBy Gives o (fitted_in f) r → answer_of (record { 0 = pos 0 }) r ≡ (o and_then half_unit_fitted (half_unit_word q f))
  unfolding half_unit_fitted
  sum_by_rule m = rw (made_by Gives o (fitted_in f) q r only m, answer_fitted)
