-- Document 01, "The running sum": opening, and one call on any running sum.
use Rattle.std.specs.Prelude.{Ok, Err, ℕ, ◌-◌, ◌||◌, eqb, ltb, ℤ, pos, ◌+ℤ◌}
use Rattle.words.specs.Outcomes.{Outcome}
use Rattle.words.specs.Outcomes.{Done, Refused}
use Rattle.words.specs.declared.Format.{Format}
use Rattle.words.specs.Kinds.{RoundBitWord}
use Rattle.words.specs.Words.{bad_unit}
use Rattle.words.specs.Refusals.{refuse, ◌or_else◌, format_check, differ, blank_format}
use Rattle.words.specs.Formats.{format}
use Rattle.words.specs.RoundBit.{round_bit_word, round_bit_check}
use Rattle.round_bit.specs.Cuts.{cut_of, rest_of}
use Rattle.round_bit.specs.Arithmetic.{sum_of}
use Rattle.running_sum.specs.declared.RunningSum.{RunningSum}
use Rattle.running_sum.specs.declared.SumAnswer.{SumAnswer}
use Rattle.running_sum.specs.declared.HandedAnswer.{HandedAnswer}

-- the blank word, and (0,0) in a format
abbrev pub blank : RoundBitWord
blank = round_bit_word (pos 0) 0 blank_format

abbrev pub nothing : Format → RoundBitWord
nothing f = round_bit_word (pos 0) 0 f

-- a running sum is made here, and by `keeping` below from another
abbrev pub made : RoundBitWord → ℕ → RunningSum
made w d = record { kept = w; depth = d }

-- 5: "a running sum has, or is opened with, a depth of 0 or more than its width less 2"; then 7, of
-- the coarse unit
unfoldable pub depth_check : Format → ℕ → Outcome
depth_check f d =
    refuse 5 (eqb d 0 || ltb (f.width - 2) d) or_else refuse 7 (bad_unit (f.unit +ℤ pos d))

-- "Opened with a width N, unit e and depth d": 1, 2, 5 and 7
abbrev pub open_check : Format → ℕ → Outcome
open_check f d = format_check f or_else depth_check f d

-- "it keeps a round-bit word of width N and unit e, at first (0,0)"
abbrev pub opened : Format → ℕ → RunningSum
opened f d = made (nothing f) d

-- Refused, "it then gives a sum
-- that keeps the blank word at depth 0"
unfoldable pub open_answer : Outcome → Format → ℕ → SumAnswer
open_answer (Ok _) f d = record { outcome = Done; sum = opened f d }
open_answer (Err c) f d = record { outcome = Refused c; sum = made blank 0 }

unfoldable pub open_of : ℕ → ℤ → ℕ → SumAnswer
open_of n e d = open_answer (open_check (format n e) d) (format n e) d

pub data Call : Type 0 where
  -- "Put: kept becomes the sum of kept and the word. It hands back no word."
  put : RoundBitWord → Call
  -- "Hand out: returns the cut of kept by d; kept becomes the rest."
  hand_out : Call
  -- "Empty: returns the kept word whole; kept becomes (0,0)."
  empty : Call

-- what a call answers, and the sum that it leaves; the blank word where it hands back none
pub record Step : Type 0 where
  pub outcome : Outcome
  pub word : RoundBitWord
  pub sum : RunningSum

-- the same sum with another word kept
abbrev pub keeping : RunningSum → RoundBitWord → RunningSum
keeping s w = record { kept = w; depth = s.depth }

-- done, with a word and the new sum; or a refusal, with the blank word and the sum as it was
unfoldable pub stepped : Outcome → RoundBitWord → RunningSum → RunningSum → Step
stepped (Ok _) w new old = record { outcome = Done; word = w; sum = new }
stepped (Err c) w new old = record { outcome = Refused c; word = blank; sum = old }

-- the sum "is the first operand, refused by 1, 2, 3 for its kept word and by 5 and 7 for its depth"
abbrev pub running_sum_check : RunningSum → Outcome
running_sum_check s = round_bit_check s.kept or_else depth_check s.kept.format s.depth

-- "Put may also refuse 1, 2, 3 of the word, 4 and 8": after the sum's 1, 2, 3 those of the word,
-- then the lowest of 4, 5 and 7; 8 comes last, in `step_of`
unfoldable pub put_check : RunningSum → RoundBitWord → Outcome
put_check s w =
    round_bit_check s.kept or_else round_bit_check w
    or_else refuse 4 (differ s.kept.format w.format)
    or_else depth_check s.kept.format s.depth

unfoldable pub step_of : RunningSum → Call → Step
step_of s (put w) =
    let a = sum_of s.kept w in
    stepped (put_check s w or_else a.outcome) blank (keeping s a.word) s
step_of s hand_out =
    stepped (running_sum_check s) (cut_of s.kept s.depth).word
    (keeping s (rest_of s.kept s.depth).word) s
step_of s empty = stepped (running_sum_check s) s.kept (keeping s (nothing s.kept.format)) s

-- the three methods' answers
abbrev pub put_answer : Step → SumAnswer
put_answer t = record { outcome = t.outcome; sum = t.sum }

abbrev pub hand_out_answer : Step → HandedAnswer
hand_out_answer t = record { outcome = t.outcome; word = t.word; sum = t.sum }

abbrev pub empty_answer : Step → HandedAnswer
empty_answer t = record { outcome = t.outcome; word = t.word; sum = t.sum }
