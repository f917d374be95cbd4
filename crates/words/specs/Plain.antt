-- Plain words: "Plain word x: value x units (two's complement)."
use Rattle.std.specs.Prelude.{ℤ, pos}
use Rattle.words.specs.declared.Cause.{Cause}
use Rattle.words.specs.Outcomes.{Outcome}
use Rattle.words.specs.Outcomes.{Done, Refused}
use Rattle.words.specs.declared.Format.{Format}
use Rattle.words.specs.Kinds.{PlainWord}
use Rattle.words.specs.Kinds.{PlainAnswer}
use Rattle.words.specs.Words.{value, outside}
use Rattle.words.specs.Words.Kind.{plain}
use Rattle.words.specs.Refusals.{refuse, word_check, blank_format, after}

abbrev pub plain_word : ℤ → Format → PlainWord
plain_word x f = record { number = record { 0 = x }; format = f }

-- the value, in half units
abbrev pub plain_value : PlainWord → ℤ
plain_value w = value plain w.number.0 0

-- the first of the causes 1, 2, 3
abbrev pub plain_check : PlainWord → Outcome
plain_check w = word_check w.format w.number.0 0

-- the answer of a refusal: the blank word
abbrev pub plain_refused : Cause → PlainAnswer
plain_refused c = record { outcome = Refused c; word = plain_word (pos 0) blank_format }

abbrev pub plain_done : PlainWord → PlainAnswer
plain_done w = record { outcome = Done; word = w }

-- the refusal, if there is one, and else the answer
infixr 3 ◌and_then◌
abbrev pub ◌and_then◌ : Outcome → PlainAnswer → PlainAnswer
o and_then a = after plain_refused o a

-- 8 if the number does not fit its width, and else the word
unfoldable pub plain_fitted : PlainWord → PlainAnswer
plain_fitted w = refuse 8 (outside w.format w.number.0) and_then plain_done w
