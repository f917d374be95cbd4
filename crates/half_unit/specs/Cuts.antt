-- Document 01, "Half-unit words": sign change and cut.
use Rattle.std.specs.Prelude.{ℕ}
use Rattle.integers.specs.Names.{turned, floor_by}
use Rattle.words.specs.Outcomes.{Outcome}
use Rattle.words.specs.Answers.{cut_answer}
use Rattle.words.specs.Kinds.{HalfUnitWord}
use Rattle.words.specs.Kinds.{HalfUnitAnswer}
use Rattle.words.specs.Kinds.{HalfUnitCutAnswer}
use Rattle.words.specs.Refusals.{◌or_else◌}
use Rattle.words.specs.Formats.{narrower, narrower_check}
use Rattle.words.specs.HalfUnit.{half_unit_word, half_unit_check, half_unit_done, ◌and_then◌}

-- "Sign change: -1-w."
unfoldable pub sign_change_word : HalfUnitWord → HalfUnitWord
sign_change_word w = half_unit_word (turned w.number.0) w.format

abbrev pub sign_change_of : HalfUnitWord → HalfUnitAnswer
sign_change_of w = half_unit_check w and_then half_unit_done (sign_change_word w)

-- "Cut by d: floor(w / 2^d), width n-d, unit e+d"
unfoldable pub cut_word : HalfUnitWord → ℕ → HalfUnitWord
cut_word w d = half_unit_word (floor_by w.number.0 d) (narrower w.format d)

-- 1, 2, 3, then 5, then 7
abbrev pub cut_check : HalfUnitWord → ℕ → Outcome
cut_check w d = half_unit_check w or_else narrower_check w.format d

abbrev pub cut_of : HalfUnitWord → ℕ → HalfUnitCutAnswer
cut_of w d = cut_answer (cut_check w d and_then half_unit_done (cut_word w d))
