-- Document 01, "Round-bit words": sign change, cut, rest of a cut, even cut (its rule is Ask 2 of
-- document 02), widening on the right.
use Rattle.std.specs.Prelude.{Result, Ok, Err, ℕ, zero, suc, ◌-◌, ◌*◌, ◌^◌, Bool, cond}
use Rattle.std.specs.Prelude.{ℤ, pos, ◌+ℤ◌, ◌*ℤ◌}
use Rattle.integers.specs.Names.{eq_z, turned, floor_by, lowest, digit, low_digits}
use Rattle.words.specs.Outcomes.{Outcome}
use Rattle.words.specs.declared.RoundBit.{RoundBit}
use Rattle.words.specs.Kinds.{RoundBitWord}
use Rattle.words.specs.Kinds.{RoundBitAnswer}
use Rattle.words.specs.declared.Cause.{Cause}
use Rattle.words.specs.Outcomes.{given}
use Rattle.words.specs.Answers.{cut_answer}
use Rattle.words.specs.Refusals.{◌or_else◌}
use Rattle.words.specs.Formats.{narrower, narrower_check, wider, answer_check}
use Rattle.words.specs.RoundBit.{round_bit_word, round_bit_check, round_bit_refused, round_bit_done}
use Rattle.words.specs.RoundBit.{◌and_then◌}
use Rattle.words.specs.Kinds.{RoundBitCutAnswer}
use Rattle.round_bit.specs.declared.CutAndRest.{CutAndRest}
use Rattle.round_bit.specs.declared.CutAndRestAnswer.{CutAndRestAnswer}

-- "Sign change: (-1-a, 1-r)."
abbrev pub sign_changed : RoundBit → RoundBit
sign_changed n = record { 0 = turned n.0; 1 = 1 - n.1 }

unfoldable pub sign_change_word : RoundBitWord → RoundBitWord
sign_change_word w = record { number = sign_changed w.number; format = w.format }

abbrev pub sign_change_of : RoundBitWord → RoundBitAnswer
sign_change_of w = round_bit_check w and_then round_bit_done (sign_change_word w)

-- a cut by the rule of the new round bit
unfoldable pub cut_by : (ℤ → ℕ → ℕ) → RoundBitWord → ℕ → RoundBitWord
-- "d = 0 returns the word."
cut_by rule w zero = w
-- "For d >= 1 the answer is (floor(a / 2^d), ..), width n-d, unit e+d."
cut_by rule w (suc k) =
    round_bit_word (floor_by w.number.0 (suc k)) (rule w.number.0 k)
    (narrower w.format (suc k))

-- "Cut by d": the new round bit is "digit d-1 of a". "The old round bit is dropped."
abbrev pub cut_word : RoundBitWord → ℕ → RoundBitWord
cut_word w d = cut_by digit w d

-- 1, 2, 3, then 5, then 7
abbrev pub cut_check : RoundBitWord → ℕ → Outcome
cut_check w d = round_bit_check w or_else narrower_check w.format d

abbrev pub cut_of : RoundBitWord → ℕ → RoundBitCutAnswer
cut_of w d = cut_answer (cut_check w d and_then round_bit_done (cut_word w d))

-- "Rest of a cut, ..: a round-bit word of the old width and unit."
unfoldable pub rest_word : RoundBitWord → ℕ → RoundBitWord
-- "For d = 0 it is (0,0)."
rest_word w zero = round_bit_word (pos 0) 0 w.format
-- "the low d digits read as two's complement, its round bit the old r."
rest_word w (suc k) = round_bit_word (low_digits w.number.0 (suc k)) w.number.1 w.format

-- "refused as the cut is"
abbrev pub rest_of : RoundBitWord → ℕ → RoundBitAnswer
rest_of w d = cut_check w d and_then round_bit_done (rest_word w d)

-- both in one answer: the cut refuses and its rest refuses as it does
abbrev pub cut_and_rest_answer : RoundBitAnswer → RoundBitAnswer → CutAndRestAnswer
cut_and_rest_answer a b = record { outcome = a.outcome; word = a.word; rest = b.word }

abbrev pub cut_and_rest_of : RoundBitWord → ℕ → CutAndRestAnswer
cut_and_rest_of w d =
    cut_and_rest_answer (cut_check w d and_then round_bit_done (cut_word w d)) (rest_of w d)

-- both of one check, for one who goes on with them; and the answer that is made of it
abbrev pub cut_in_two_of : RoundBitWord → ℕ → Result CutAndRest Cause
cut_in_two_of w d = given (cut_check w d) (record { word = cut_word w d; rest = rest_word w d })

abbrev pub two_answered : Result CutAndRest Cause → CutAndRestAnswer
two_answered (Ok two) = cut_and_rest_answer (round_bit_done two.word) (round_bit_done two.rest)
two_answered (Err c) = cut_and_rest_answer (round_bit_refused c) (round_bit_refused c)

-- "where a + r lies exactly half a new unit above floor(a / 2^d) new units", for d = k + 1
abbrev pub tied : ℕ → ℤ → ℕ → Bool
tied r a k = eq_z (a +ℤ pos r) ((floor_by a (suc k) *ℤ pos (2 ^ suc k)) +ℤ pos (2 ^ k))

-- there "the new round bit is the lowest digit of that floor; otherwise it is digit d-1 as in the
-- plain cut."
unfoldable pub even_round_bit : ℕ → ℤ → ℕ → ℕ
even_round_bit r a k = cond (tied r a k) (lowest (floor_by a (suc k))) (digit a k)

-- "Even cut by d: as the cut, except that for d >= 1" the new round bit is that
abbrev pub even_cut_word : RoundBitWord → ℕ → RoundBitWord
even_cut_word w d = cut_by (even_round_bit w.number.1) w d

abbrev pub even_cut_of : RoundBitWord → ℕ → RoundBitCutAnswer
even_cut_of w d = cut_answer (cut_check w d and_then round_bit_done (even_cut_word w d))

-- "Widen on the right by d: (a * 2^d + r * (2^d - 1), r), width n+d, unit e-d."
unfoldable pub widen_word : RoundBitWord → ℕ → RoundBitWord
widen_word w d =
    round_bit_word ((w.number.0 *ℤ pos (2 ^ d)) +ℤ pos (w.number.1 * (2 ^ d - 1)))
    w.number.1 (wider w.format d)

-- 1, 2, 3, then 6, then 7
abbrev pub widen_check : RoundBitWord → ℕ → Outcome
widen_check w d = round_bit_check w or_else answer_check (wider w.format d)

abbrev pub widen_of : RoundBitWord → ℕ → RoundBitAnswer
widen_of w d = widen_check w d and_then round_bit_done (widen_word w d)
