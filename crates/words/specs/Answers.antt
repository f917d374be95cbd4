-- The answers of any kind: what a call worked out beside its outcome, or the blank word.
use Rattle.std.specs.Prelude.{Result, Ok, Err}
use Rattle.words.specs.declared.Cause.{Cause}
use Rattle.words.specs.declared.Word.{Word}
use Rattle.words.specs.declared.Answer.{Answer}
use Rattle.words.specs.declared.CutAnswer.{CutAnswer}
use Rattle.words.specs.Outcomes.{Done, Refused}
use Rattle.words.specs.Refusals.{blank_format}

-- "A refusal returns the blank word", whose number is the kind's zero
abbrev pub blank_of : {N : Type 0} → N → Word N
blank_of zero = record { number = zero; format = blank_format }

abbrev pub answer_of : {N : Type 0} → N → Result (Word N) Cause → Answer N
answer_of zero (Ok w) = record { outcome = Done; word = w }
answer_of zero (Err c) = record { outcome = Refused c; word = blank_of zero }

-- the answer of a cut, of an even cut and of a bank's has what any answer has
abbrev pub cut_answer : {N : Type 0} → Answer N → CutAnswer N
cut_answer a = record { outcome = a.outcome; word = a.word }
