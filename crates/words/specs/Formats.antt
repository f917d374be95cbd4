-- The formats of answers, and the refusals 5, 6 and 7 that they meet. A format here is any width
-- and unit, however large.
use Rattle.std.specs.Prelude.{Result, Ok, Err, ℕ, ◌+◌, ◌-◌, ltb, ℤ, pos, ◌+ℤ◌, ◌-ℤ◌}
use Rattle.words.specs.declared.Cause.{Cause}
use Rattle.words.specs.Outcomes.{Outcome, Done, Refused}
use Rattle.words.specs.declared.Format.{Format}
use Rattle.words.specs.declared.FormatAnswer.{FormatAnswer}
use Rattle.words.specs.Words.{least_width, most_width, bad_unit}
use Rattle.words.specs.Refusals.{refuse, ◌or_else◌, blank_format}

abbrev pub format : ℕ → ℤ → Format
format n e = record { width = n; unit = e }

-- "width n-d, unit e+d", of a cut and of a conversion with a depth
abbrev pub narrower : Format → ℕ → Format
narrower f d = format (f.width - d) (f.unit +ℤ pos d)

-- 5: it "would leave fewer than 2 digits"; then 7
unfoldable pub narrower_check : Format → ℕ → Outcome
narrower_check f d =
    refuse 5 (ltb (f.width - d) least_width) or_else refuse 7 (bad_unit (f.unit +ℤ pos d))

-- "width n+d, unit e-d"
abbrev pub wider : Format → ℕ → Format
wider f d = format (f.width + d) (f.unit -ℤ pos d)

-- "units multiplied": "unit exponent the two added", of a product
abbrev pub units_multiplied : Format → Format → ℤ
units_multiplied f g = f.unit +ℤ g.unit

-- 6: "the answer's width would pass 63"; then 7: "the answer's unit exponent would leave -127 to
-- 127"
unfoldable pub answer_check : Format → Outcome
answer_check f = refuse 6 (ltb most_width f.width) or_else refuse 7 (bad_unit f.unit)

-- the format, or a refusal with the blank one
unfoldable pub format_answer : Outcome → Format → FormatAnswer
format_answer (Ok _) f = record { outcome = Done; format = f }
format_answer (Err c) f = record { outcome = Refused c; format = blank_format }

abbrev pub format_answer_of : Result Format Cause → FormatAnswer
format_answer_of (Ok f) = format_answer Done f
format_answer_of (Err c) = format_answer (Refused c) blank_format
