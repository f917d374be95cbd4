-- Half-unit words: "Half-unit word w: value w + 1/2 units .."
use Rattle.std.specs.Prelude.{ℤ, pos}
use Rattle.words.specs.declared.Cause.{Cause}
use Rattle.words.specs.Outcomes.{Outcome}
use Rattle.words.specs.Outcomes.{Done, Refused}
use Rattle.words.specs.declared.Format.{Format}
use Rattle.words.specs.Kinds.{HalfUnitWord}
use Rattle.words.specs.Kinds.{HalfUnitAnswer}
use Rattle.words.specs.Words.{value, outside}
use Rattle.words.specs.Words.Kind.{half_unit}
use Rattle.words.specs.Refusals.{refuse, word_check, blank_format, after}

abbrev pub half_unit_word : ℤ → Format → HalfUnitWord
half_unit_word w f = record { number = record { 0 = w }; format = f }

-- the value, in half units
abbrev pub half_unit_value : HalfUnitWord → ℤ
half_unit_value w = value half_unit w.number.0 0

-- the first of the causes 1, 2, 3
abbrev pub half_unit_check : HalfUnitWord → Outcome
half_unit_check w = word_check w.format w.number.0 0

-- the answer of a refusal: the blank word
abbrev pub half_unit_refused : Cause → HalfUnitAnswer
half_unit_refused c = record { outcome = Refused c; word = half_unit_word (pos 0) blank_format }

abbrev pub half_unit_done : HalfUnitWord → HalfUnitAnswer
half_unit_done w = record { outcome = Done; word = w }

-- the refusal, if there is one, and else the answer
infixr 3 ◌and_then◌
abbrev pub ◌and_then◌ : Outcome → HalfUnitAnswer → HalfUnitAnswer
o and_then a = after half_unit_refused o a

-- 8 if the number does not fit its width, and else the word
unfoldable pub half_unit_fitted : HalfUnitWord → HalfUnitAnswer
half_unit_fitted w = refuse 8 (outside w.format w.number.0) and_then half_unit_done w
