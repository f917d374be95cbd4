-- Demand 3 as a caller of the C functions sees it: calls on one running sum, each made on the sum
-- that came back from the call before, and the two totals, from the calls and their answers alone.
-- Values are in half units of the sum's unit, 2 ^ e.
use Rattle.std.specs.Prelude.{ℕ, zero, suc, List, [], ◌∷◌, ℤ, pos, ◌+ℤ◌}
use Rattle.words.specs.RoundBit.{round_bit_value}
use Rattle.running_sum.specs.Totals.{amount}
use Rattle.frostuldi.specs.Boundary.{round_bit_in}
use Rattle.frostuldi.specs.declared.FrostRoundBit.{FrostRoundBit}
use Rattle.frostuldi.specs.declared.FrostRunningSum.{FrostRunningSum}
use Rattle.frostuldi.specs.declared.FrostSumAnswer.{FrostSumAnswer}

-- frost_running_sum_put, frost_running_sum_hand_out, frost_running_sum_empty
pub data FrostCall : Type 0 where
  put : FrostRoundBit → FrostCall
  hand_out empty : FrostCall

-- a call and all that it answered
pub record FrostAnswered : Type 0 where
  pub call : FrostCall
  pub answer : FrostSumAnswer

-- "words accepted": of a put with refusal 0 its word, in the word's own unit; of every other call
-- nothing
unfoldable pub flat_taken_in : ℤ → FrostCall → ℕ → ℤ
flat_taken_in e (put w) zero = amount e (round_bit_in w)
flat_taken_in e (put w) (suc n) = pos 0
flat_taken_in e hand_out n = pos 0
flat_taken_in e empty n = pos 0

-- "words handed out": of a hand-out or an emptying with refusal 0 the word that it answered, in the
-- word's own unit
unfoldable pub flat_given_out : ℤ → FrostCall → ℕ → FrostRoundBit → ℤ
flat_given_out e (put v) n w = pos 0
flat_given_out e hand_out zero w = amount e (round_bit_in w)
flat_given_out e hand_out (suc n) w = pos 0
flat_given_out e empty zero w = amount e (round_bit_in w)
flat_given_out e empty (suc n) w = pos 0

unfoldable pub flat_accepted : ℤ → List FrostAnswered → ℤ
flat_accepted e [] = pos 0
flat_accepted e (a ∷ rest) = flat_taken_in e a.call a.answer.refusal +ℤ flat_accepted e rest

unfoldable pub flat_handed_out : ℤ → List FrostAnswered → ℤ
flat_handed_out e [] = pos 0
flat_handed_out e (a ∷ rest) =
    flat_given_out e a.call a.answer.refusal a.answer.word +ℤ flat_handed_out e rest

-- "what is kept"
abbrev pub flat_kept : FrostRunningSum → ℤ
flat_kept s = round_bit_value (round_bit_in s.kept)
