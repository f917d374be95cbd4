-- What is worked out by a rule that is handed over.
use Rattle.std.specs.Prelude.{Result, Ok, Err, ℤ, ◌≡◌}
use Rattle.words.specs.declared.Cause.{Cause}
use Rattle.words.specs.declared.Format.{Format}
use Rattle.words.specs.Outcomes.{Outcome, given}
use Rattle.words.specs.Kinds.{HalfUnitWord}
use Rattle.words.specs.Words.{outside}
use Rattle.words.specs.Refusals.{refuse}
use Rattle.words.specs.HalfUnit.{half_unit_word}

-- a check's refusal, if there is one, and else what is made of a number that the rule gives
abbrev pub MadeBy :
    (ℤ → Type 0) → Outcome → (ℤ → Result HalfUnitWord Cause) → Result HalfUnitWord Cause → Type 0
MadeBy Gives (Ok _) made r = (q : ℤ) × Gives q × (r ≡ made q)
MadeBy Gives (Err c) made r = r ≡ Err c

-- of a cut and a conversion with a depth: the word in its format
abbrev pub word_in : Format → ℤ → Result HalfUnitWord Cause
word_in f q = Ok (half_unit_word q f)

-- of a sum: the same, or 8
abbrev pub fitted_in : Format → ℤ → Result HalfUnitWord Cause
fitted_in f q = given (refuse 8 (outside f q)) (half_unit_word q f)
