-- Round-bit words: "Round-bit word (a, r), r 0 or 1: value a + r units .."
use Rattle.std.specs.Prelude.{ℕ, ℤ, pos}
use Rattle.words.specs.declared.Cause.{Cause}
use Rattle.words.specs.Outcomes.{Outcome}
use Rattle.words.specs.Outcomes.{Done, Refused}
use Rattle.words.specs.declared.Format.{Format}
use Rattle.words.specs.Kinds.{RoundBitWord}
use Rattle.words.specs.Kinds.{RoundBitAnswer}
use Rattle.words.specs.Words.{value, outside}
use Rattle.words.specs.Words.Kind.{round_bit}
use Rattle.words.specs.Refusals.{refuse, word_check, blank_format, after}

abbrev pub round_bit_word : ℤ → ℕ → Format → RoundBitWord
round_bit_word a r f = record { number = record { 0 = a; 1 = r }; format = f }

-- the value, in half units
abbrev pub round_bit_value : RoundBitWord → ℤ
round_bit_value w = value round_bit w.number.0 w.number.1

-- the first of the causes 1, 2, 3
abbrev pub round_bit_check : RoundBitWord → Outcome
round_bit_check w = word_check w.format w.number.0 w.number.1

-- the answer of a refusal: the blank word
abbrev pub round_bit_refused : Cause → RoundBitAnswer
round_bit_refused c = record { outcome = Refused c; word = round_bit_word (pos 0) 0 blank_format }

abbrev pub round_bit_done : RoundBitWord → RoundBitAnswer
round_bit_done w = record { outcome = Done; word = w }

-- the refusal, if there is one, and else the answer
infixr 3 ◌and_then◌
abbrev pub ◌and_then◌ : Outcome → RoundBitAnswer → RoundBitAnswer
o and_then a = after round_bit_refused o a

-- 8 if the number does not fit its width, and else the word
unfoldable pub round_bit_fitted : RoundBitWord → RoundBitAnswer
round_bit_fitted w = refuse 8 (outside w.format w.number.0) and_then round_bit_done w
