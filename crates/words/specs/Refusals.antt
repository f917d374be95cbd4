-- Document 01, "Refusal numbers": the table, with the rows that requests of document 02 added, and
-- the rule for several causes.
use Rattle.std.specs.Prelude.{Result, Ok, Err, ℕ, Bool, true, false, not, ◌&&◌, ◌||◌, List, [], ◌∷◌}
use Rattle.std.specs.Prelude.{eqb, ℤ, pos}
use Rattle.integers.specs.Names.{eq_z, at_front}
use Rattle.words.specs.declared.Cause.{Cause}
use Rattle.words.specs.declared.Cause.TheVariants.{Width, Unit, Number, Mismatch}
use Rattle.words.specs.declared.Cause.TheVariants.{Depth, WidthPast, UnitPast, NumberPast}
use Rattle.words.specs.declared.Cause.TheVariants.{DigitText, Buffer, Mark, Form}
use Rattle.words.specs.declared.Cause.TheVariants.{Byte, Run, NotFinite, Channel}
use Rattle.words.specs.Outcomes.{Outcome}
use Rattle.words.specs.Outcomes.{Done, Refused}
use Rattle.words.specs.declared.Format.{Format}
use Rattle.words.specs.declared.WriteAnswer.{WriteAnswer}
use Rattle.words.specs.Words.{bad_width, bad_unit, outside, bad_round_bit}

-- the table: each cause once, and below the number of each, which docs/REFUSALS.md has in words.
-- The last four are document 02's. Ask 3: "a byte outside the three is 13, repeated signs stay 9";
-- Ask 4: "14 for a run that is empty or passes the end of the block";
-- Ask 6: "15 for an infinity or a not-a-number";
-- Ask 1: "17 for a channel over 3"
abbrev pub causes : List Cause
causes =
    Width ∷ Unit ∷ Number ∷ Mismatch ∷ Depth ∷ WidthPast ∷ UnitPast ∷ NumberPast
    ∷ DigitText ∷ Buffer ∷ Mark ∷ Form ∷ Byte ∷ Run ∷ NotFinite ∷ Channel ∷ []

abbrev pub cause_number : Cause → ℕ
cause_number Width = 1
cause_number Unit = 2
cause_number Number = 3
cause_number Mismatch = 4
cause_number Depth = 5
cause_number WidthPast = 6
cause_number UnitPast = 7
cause_number NumberPast = 8
cause_number DigitText = 9
cause_number Buffer = 10
cause_number Mark = 11
cause_number Form = 12
cause_number Byte = 13
cause_number Run = 14
cause_number NotFinite = 15
cause_number Channel = 17

-- "Done is 0."
abbrev pub number_of : Outcome → ℕ
number_of (Ok _) = 0
number_of (Err c) = cause_number c

-- a cause, given exactly when its test holds
abbrev pub refuse_for : Cause → Bool → Outcome
refuse_for c true = Refused c
refuse_for c false = Done

-- this row, where it is the one that is looked for, and else what comes of the rows below
abbrev pub first_of : Bool → Cause → Outcome → Outcome
first_of true c o = Refused c
first_of false c o = o

-- the row of the table that has this number, as the refusal for it; Done where there is none
abbrev pub row_in : List Cause → ℕ → Outcome
row_in [] n = Done
row_in (c ∷ more) n = first_of (eqb (cause_number c) n) c (row_in more n)

abbrev pub row : ℕ → Outcome
row n = row_in causes n

-- a test's refusal, where a row was found, and else nothing that takes a test
abbrev pub Refuse : Outcome → Type 0
Refuse (Err c) = Bool → Outcome
Refuse (Ok _) = record {}

abbrev refuse_at : (o : Outcome) → Refuse o
refuse_at (Err c) = refuse_for c
refuse_at (Ok _) = record {}

-- `refuse n test`: the refusal that the table numbers n. For a number that the table lacks there is
-- none, and `refuse 18 test` has no type
abbrev pub refuse : (n : ℕ) → Refuse (row n)
refuse n = refuse_at (row n)

-- "With several causes: .. then .. then ..": the first that is given
infixr 4 ◌or_else◌
abbrev pub ◌or_else◌ : Outcome → Outcome → Outcome
Ok _ or_else o = o
Err c or_else o = Refused c

-- 1 and 2 of a width and a unit; done where there is none
unfoldable pub format_check : Format → Outcome
format_check f = refuse 1 (bad_width f.width) or_else refuse 2 (bad_unit f.unit)

-- then 3 of a number and a round bit in them
unfoldable pub word_check : Format → ℤ → ℕ → Outcome
word_check f x r = format_check f or_else refuse 3 (outside f x || bad_round_bit r)

-- 4 is for operands, or a word and its running sum, that "differ in width or unit"; in a bank for
-- "unlike units or any other width"
abbrev pub differ : Format → Format → Bool
differ f g = not (eqb f.width g.width && eq_z f.unit g.unit)

-- "A refusal returns the blank word (number 0, round bit 0, width 2, unit 0)": its format, and the
-- choice between that answer and another
abbrev pub blank_format : Format
blank_format = record { width = 2; unit = pos 0 }

abbrev pub after : {A : Type 0} → (Cause → A) → Outcome → A → A
after refused (Ok _) answer = answer
after refused (Err c) answer = refused c

-- "Only the named places are written", the first ones; at a refusal "lent buffers .. stay as they
-- were"
unfoldable pub lent_after : {A : Type 0} → Outcome → List A → List A → List A
lent_after (Ok _) new old = at_front new old
lent_after (Err c) new old = old

-- "Writing a digit text or a file answers the count of bytes written, 0 when refused."
unfoldable pub write_answer : Outcome → ℕ → WriteAnswer
write_answer (Ok _) n = record { outcome = Done; count = n }
write_answer (Err c) n = record { outcome = Refused c; count = 0 }

abbrev pub write_answer_of : Result ℕ Cause → WriteAnswer
write_answer_of (Ok n) = write_answer Done n
write_answer_of (Err c) = write_answer (Refused c) 0
