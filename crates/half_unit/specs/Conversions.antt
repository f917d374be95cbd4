-- Document 01, "Half-unit words": from and to plain, from and to round-bit.
use Rattle.std.specs.Prelude.{ℕ, ◌+◌, cond, eqb, ℤ, pos, ◌+ℤ◌, ◌*ℤ◌}
use Rattle.integers.specs.Names.{floor_by, any_below, cleared}
use Rattle.words.specs.Outcomes.{Outcome}
use Rattle.words.specs.Kinds.{PlainWord}
use Rattle.words.specs.Kinds.{PlainAnswer}
use Rattle.words.specs.Kinds.{RoundBitWord}
use Rattle.words.specs.Kinds.{RoundBitAnswer}
use Rattle.words.specs.Kinds.{HalfUnitWord}
use Rattle.words.specs.Kinds.{HalfUnitAnswer}
use Rattle.words.specs.Refusals.{◌or_else◌}
use Rattle.words.specs.Formats.{narrower, narrower_check, wider, answer_check}
use Rattle.words.specs.Plain.{plain_word, plain_check, plain_done, ◌and_then◌ as ◌and_then_plain◌}
use Rattle.words.specs.RoundBit.{round_bit_word, round_bit_check, round_bit_done}
use Rattle.words.specs.RoundBit.{◌and_then◌ as ◌and_then_round_bit◌}
use Rattle.words.specs.HalfUnit.{half_unit_word, half_unit_check, half_unit_done, ◌and_then◌}

-- "From plain, depth d >= 0, width n-d, unit e+d:" 1, 2, 3, then 5, then 7
abbrev pub from_plain_check : PlainWord → ℕ → Outcome
from_plain_check w d = plain_check w or_else narrower_check w.format d

-- "up rule, floor(x / 2^d);"
unfoldable pub from_plain_up_word : PlainWord → ℕ → HalfUnitWord
from_plain_up_word w d = half_unit_word (floor_by w.number.0 d) (narrower w.format d)

abbrev pub from_plain_up_of : PlainWord → ℕ → HalfUnitAnswer
from_plain_up_of w d = from_plain_check w d and_then half_unit_done (from_plain_up_word w d)

-- "even rule, the same but with its lowest digit cleared if all d dropped digits are 0." At depth 0
-- none is dropped, so it is always cleared
unfoldable pub even_floor : ℤ → ℕ → ℤ
even_floor x d = cond (eqb (any_below x d) 0) (cleared (floor_by x d)) (floor_by x d)

unfoldable pub from_plain_even_word : PlainWord → ℕ → HalfUnitWord
from_plain_even_word w d = half_unit_word (even_floor w.number.0 d) (narrower w.format d)

abbrev pub from_plain_even_of : PlainWord → ℕ → HalfUnitAnswer
from_plain_even_of w d = from_plain_check w d and_then half_unit_done (from_plain_even_word w d)

-- "To plain: 2w+1, width n+1, unit e-1, exact."
unfoldable pub to_plain_word : HalfUnitWord → PlainWord
to_plain_word w = plain_word ((pos 2 *ℤ w.number.0) +ℤ pos 1) (wider w.format 1)

-- 1, 2, 3, then 6, then 7
abbrev pub to_plain_check : HalfUnitWord → Outcome
to_plain_check w = half_unit_check w or_else answer_check (wider w.format 1)

abbrev pub to_plain_of : HalfUnitWord → PlainAnswer
to_plain_of w = to_plain_check w and_then_plain plain_done (to_plain_word w)

-- "To round-bit: the plain word with round bit 0."
unfoldable pub to_round_bit_word : HalfUnitWord → RoundBitWord
to_round_bit_word w = round_bit_word (to_plain_word w).number.0 0 (to_plain_word w).format

abbrev pub to_round_bit_of : HalfUnitWord → RoundBitAnswer
to_round_bit_of w = to_plain_check w and_then_round_bit round_bit_done (to_round_bit_word w)

-- "From round-bit: 2a+r, width n+1, unit e-1, the middle of the word's interval .."
unfoldable pub from_round_bit_word : RoundBitWord → HalfUnitWord
from_round_bit_word w =
    half_unit_word ((pos 2 *ℤ w.number.0) +ℤ pos w.number.1) (wider w.format 1)

-- 1, 2, 3, then 6, then 7
abbrev pub from_round_bit_check : RoundBitWord → Outcome
from_round_bit_check w = round_bit_check w or_else answer_check (wider w.format 1)

abbrev pub from_round_bit_of : RoundBitWord → HalfUnitAnswer
from_round_bit_of w = from_round_bit_check w and_then half_unit_done (from_round_bit_word w)

-- [a + r/2, a + (1+r)/2] (000, section 5.1), its two ends in halves of the word's unit
abbrev pub interval : RoundBitWord → ℤ × ℤ
interval w =
    let record { 0 = a; 1 = r } = w.number in
    ((pos 2 *ℤ a) +ℤ pos r, (pos 2 *ℤ a) +ℤ pos (1 + r))
