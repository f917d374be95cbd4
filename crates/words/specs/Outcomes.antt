-- How a call says whether it was done, and what comes of a check and what is made behind it.
use Rattle.std.specs.Prelude.{Result, Ok, Err}
use Rattle.words.specs.declared.Cause.{Cause}

-- "Done is 0." A refusal has its cause
abbrev pub Outcome : Type 0
Outcome = Result Unit Cause

abbrev pub Done : Outcome
Done = Ok tt

abbrev pub Refused : Cause → Outcome
Refused c = Err c

-- a check's refusal, if there is one, and else what is worked out behind it
infixr 3 ◌then◌
abbrev pub ◌then◌ : {A : Type 0} → Outcome → Result A Cause → Result A Cause
Ok _ then r = r
Err c then r = Err c

-- that is a value
abbrev pub given : {A : Type 0} → Outcome → A → Result A Cause
given o a = o then Ok a
