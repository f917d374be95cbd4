-- Demand 3: a list of calls on a running sum, and the two totals, from the calls, their answers and
-- the sum's unit alone.
use Rattle.std.specs.Prelude.{Ok, Err, ℕ, ◌^◌, List, [], ◌∷◌, ℤ, pos, negsuc, ◌+ℤ◌, ◌-ℤ◌, ◌*ℤ◌}
use Rattle.words.specs.Outcomes.{Outcome}
use Rattle.words.specs.Kinds.{RoundBitWord}
use Rattle.words.specs.RoundBit.{round_bit_value}
use Rattle.running_sum.specs.declared.RunningSum.{RunningSum}
use Rattle.running_sum.specs.Steps.{Call, put, hand_out, empty, step_of}

-- a call and what it answered
pub record Answered : Type 0 where
  pub call : Call
  pub outcome : Outcome
  pub word : RoundBitWord

-- what calls answer, "each call being made on the sum that the call before left"
unfoldable pub answered : RunningSum → List Call → List Answered
answered s [] = []
answered s (c ∷ cs) =
    let t = step_of s c in
    record { call = c; outcome = t.outcome; word = t.word } ∷ answered t.sum cs

-- and the sum that is left
unfoldable pub left : RunningSum → List Call → RunningSum
left s [] = s
left s (c ∷ cs) = left (step_of s c).sum cs

-- how often a unit of 2 ^ (e + d) counts in units of 2 ^ e. A finer unit is no whole count; no done
-- call has a word of one
abbrev pub coarser : ℤ → ℕ
coarser (pos d) = 2 ^ d
coarser (negsuc d) = 1

-- a word in its own unit, as half units of 2 ^ e
unfoldable pub amount : ℤ → RoundBitWord → ℤ
amount e w = round_bit_value w *ℤ pos (coarser (w.format.unit -ℤ e))

-- what a call and its answer add to the words accepted, and to the words handed out; only done
-- answers count
unfoldable pub taken_in : ℤ → Call → Outcome → ℤ
taken_in e (put w) (Ok _) = amount e w
taken_in e (put w) (Err c) = pos 0
taken_in e hand_out o = pos 0
taken_in e empty o = pos 0

unfoldable pub given_out : ℤ → Call → Outcome → RoundBitWord → ℤ
given_out e (put v) o w = pos 0
given_out e hand_out (Ok _) w = amount e w
given_out e hand_out (Err c) w = pos 0
given_out e empty (Ok _) w = amount e w
given_out e empty (Err c) w = pos 0

unfoldable pub accepted : ℤ → List Answered → ℤ
accepted e [] = pos 0
accepted e (a ∷ rest) = taken_in e a.call a.outcome +ℤ accepted e rest

unfoldable pub handed_out : ℤ → List Answered → ℤ
handed_out e [] = pos 0
handed_out e (a ∷ rest) = given_out e a.call a.outcome a.word +ℤ handed_out e rest
