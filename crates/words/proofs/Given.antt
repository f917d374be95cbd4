-- What a call answers that works out a `Result`: the answers of specs/ are those of what it worked out. Assumes nothing.
-- Proved here: `answer_then`, `answer_given`, `answer_fitted`, `format_given`, `ok_given`, `err_given`, `given_is`,
-- `then_is`.
use mathlib.Core.Path.{◌≡◌, refl}
use Rattle.std.specs.Prelude.{Result, Ok, Err}
use Rattle.words.specs.declared.Cause.{Cause}
use Rattle.words.specs.declared.Word.{Word}
use Rattle.words.specs.Outcomes.{Outcome, Done, Refused, ◌then◌, given}
use Rattle.words.specs.Refusals.{after}
use Rattle.words.specs.Answers.{blank_of, answer_of}
use Rattle.words.specs.declared.Format.{Format}
use Rattle.words.specs.Formats.{format_answer, format_answer_of}

-- ---- the answers of a kind whose blank number is zero
module _ {N : Type 0} (zero : N) where
  pub answer_then : (o : Outcome) (r : Result (Word N) Cause) →
      answer_of zero (o then r) ≡ after (λ c. record { outcome = Refused c; word = blank_of zero }) o (answer_of zero r)
  answer_then (Ok _) r = refl
  answer_then (Err c) r = refl

  pub answer_given : (o : Outcome) (w : Word N) →
      answer_of zero (given o w) ≡ after (λ c. record { outcome = Refused c; word = blank_of zero }) o (record { outcome = Done; word = w })
  answer_given o w = answer_then o (Ok w)

  -- where 8 is asked last
  pub answer_fitted : (o p : Outcome) (w : Word N) →
      answer_of zero (o then given p w) ≡ after (λ c. record { outcome = Refused c; word = blank_of zero }) o
      (after (λ c. record { outcome = Refused c; word = blank_of zero }) p (record { outcome = Done; word = w }))
  answer_fitted (Ok _) p w = answer_given p w
  answer_fitted (Err c) p w = refl

-- ---- the answer of a format
pub format_given : (o : Outcome) (f : Format) → format_answer_of (given o f) ≡ format_answer o f
unfolding format_answer
format_given (Ok _) f = refl
format_given (Err c) f = refl

-- ---- what is known behind a `?`: the check passed, and that is what was given; and what is then answered
pub ok_given : {A : Type 0} (o : Outcome) (a b : A) → Ok b ≡ given o a → (o ≡ Done) × (b ≡ a)
ok_given (Ok _) a b e = (refl, cc)
ok_given (Err c) a b e = absurd cc

pub err_given : {A : Type 0} (o : Outcome) (a : A) (c : Cause) → Err c ≡ given o a → o ≡ Refused c
err_given (Ok _) a c e = absurd cc
err_given (Err d) a c e = cc

pub given_is : {A : Type 0} {o : Outcome} {a b : A} → o ≡ Done → a ≡ b → Ok a ≡ given o b
given_is e f = rw (e, f)

pub then_is : {A : Type 0} {o : Outcome} {r s : Result A Cause} → o ≡ Done → r ≡ s → r ≡ (o then s)
then_is e f = rw (e, f)
