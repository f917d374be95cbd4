-- Document 01, "Digit text": reading back; and document 02, Ask 3: "Say which digit is wrong."
use Rattle.std.specs.Prelude.{ℕ, Bool, not, cond, ◌&&◌, ◌||◌, List, eqb, ltb, ℤ, pos, ◌-ℤ◌}
use Rattle.std.specs.Prelude.{length, get_or, Option, Some, None, Result, Ok, Err}
use Rattle.integers.specs.Names.{first_bad}
use Rattle.words.specs.declared.Cause.{Cause}
use Rattle.words.specs.Outcomes.{Outcome}
use Rattle.words.specs.Kinds.{RoundBitWord}
use Rattle.words.specs.Kinds.{RoundBitAnswer}
use Rattle.words.specs.Refusals.{number_of, refuse, ◌or_else◌, format_check, after}
use Rattle.words.specs.Formats.{format}
use Rattle.words.specs.RoundBit.{round_bit_word, round_bit_done, round_bit_refused}
use Rattle.digit_text.specs.declared.Fault.{Fault}
use Rattle.digit_text.specs.declared.ReadAnswer.{ReadAnswer}
use Rattle.digit_text.specs.Digits.{plus, none, minus, text_value, sign_before}

-- "a byte outside the three": it is not `+`, `0` or `-`
abbrev pub strange : ℕ → Bool
strange b = not (eqb b plus || eqb b none || eqb b minus)

-- there is such a byte at index k
unfoldable pub strange_at : List ℕ → ℕ → Bool
strange_at t k = strange (get_or t k none)

-- the byte at index k is a "sign that repeats the sign before it": the later of "two nonzero digits
-- of one sign with nothing or only zeros between them". It matters in a text of the three bytes
-- alone, since any other is 13
unfoldable pub repeats_at : List ℕ → ℕ → Bool
repeats_at t k = let b = get_or t k none in not (eqb b none) && eqb b (sign_before t k)

-- "the place, counted from 0 at the most significant end", which is the first byte: the leftmost
-- place that the test holds of; the length where there is none
abbrev pub leftmost : List ℕ → (ℕ → Bool) → ℕ
leftmost t test = first_bad (length t) (λ k. not (test k))

-- "For 13 it is the leftmost such byte"
unfoldable pub strange_place : List ℕ → ℕ
strange_place t = leftmost t (strange_at t)

-- "for 9 it is the leftmost sign that repeats the sign before it"
unfoldable pub repeat_place : List ℕ → ℕ
repeat_place t = leftmost t (repeats_at t)

-- a place is found where it lies inside the text
abbrev pub found : ℕ → List ℕ → Bool
found k t = ltb k (length t)

-- a place that is found, or none
abbrev pub if_found : ℕ → List ℕ → Option ℕ
if_found k t = cond (found k t) (Some k) None

-- "a byte outside the three is 13, repeated signs stay 9"; "13 stands directly before 9; a text
-- with both faults gives 13", wherever they stand
unfoldable pub fault_check : List ℕ → Outcome
fault_check t = refuse 13 (found (strange_place t) t) or_else refuse 9 (found (repeat_place t) t)

-- "its length is the width": 1 of the length, 2, then 13 and 9
unfoldable pub read_check : List ℕ → ℤ → Outcome
read_check t e = format_check (format (length t) e) or_else fault_check t

-- "both tell the place", 13 and 9. "Done and the other refusals give place 0."
unfoldable pub place_of : List ℕ → Outcome → ℕ
place_of t o =
    let n = number_of o in
    cond (eqb n 13) (strange_place t) (cond (eqb n 9) (repeat_place t) 0)

-- a check's refusal, with the place that it tells, if there is one, and else a value
abbrev pub telling : {A : Type 0} → List ℕ → Outcome → A → Result A Fault
telling t (Ok _) a = Ok a
telling t (Err c) a = Err (record { cause = c; place = place_of t (Err c) })

-- a cause with the place that was found, if one was
abbrev pub fault_at : Cause → Option ℕ → Result Unit Fault
fault_at c None = Ok tt
fault_at c (Some k) = Err (record { cause = c; place = k })

-- below the lowest nonzero digit all digits of a are r, so r is 1 where that digit is `+`. "All
-- zeros reads as (0,0)"
unfoldable pub read_round : List ℕ → ℕ
read_round t = cond (eqb (sign_before t (length t)) plus) 1 0

-- "the answer is the word whose digit text it is": its value is a + r
unfoldable pub read_word : List ℕ → ℤ → RoundBitWord
read_word t e =
    round_bit_word (text_value t -ℤ pos (read_round t)) (read_round t) (format (length t) e)

-- the answer of a reading has what any answer has, and a place: done gives 0
abbrev pub read_answer : RoundBitAnswer → ReadAnswer
read_answer a = record { outcome = a.outcome; word = a.word; place = 0 }

-- a refusal has the blank word, and the place that it tells
abbrev pub read_refused : List ℕ → Cause → ReadAnswer
read_refused t c =
    let a = round_bit_refused c in
    record { outcome = a.outcome; word = a.word; place = place_of t a.outcome }

unfoldable pub read_of : List ℕ → ℤ → ReadAnswer
read_of t e = after (read_refused t) (read_check t e) (read_answer (round_bit_done (read_word t e)))

-- the answer that is made of a word, or of a fault
abbrev pub answer_of : Result RoundBitWord Fault → ReadAnswer
answer_of (Ok w) = read_answer (round_bit_done w)
answer_of (Err f) =
    record { outcome = Err f.cause; word = (round_bit_refused f.cause).word; place = f.place }
