-- What a C caller does with one running sum, in the contracts' own words: `Post` is generated from the function's `ensures`.
use mathlib.Core.Path.{◌≡◌}
use mathlib.Core.List.{List}
use Rattle.integers.specs.Chains.{Chain}
use Rattle.frostuldi.specs.declared.FrostRunningSum.{FrostRunningSum}
use Rattle.frostuldi.specs.declared.FrostSumAnswer.{FrostSumAnswer}
use Rattle.frostuldi.specs.Demand3.{FrostCall, put, hand_out, empty, FrostAnswered}
use Rattle.frostuldi.proofs.frost_running_sum_put.Reads as frost-put
use Rattle.frostuldi.proofs.frost_running_sum_hand_out.Reads as frost-hand-out
use Rattle.frostuldi.proofs.frost_running_sum_empty.Reads as frost-empty

-- on this sum the call may answer this, by the contract of its function: frost_running_sum_put, _hand_out or _empty
abbrev pub FrostMeets : FrostRunningSum → FrostCall → FrostSumAnswer → Type 0
FrostMeets s (put w) a = frost-put.Post tt (s, (w, tt)) a (s, (w, tt))
FrostMeets s hand_out a = frost-hand-out.Post tt (s, tt) a (s, tt)
FrostMeets s empty a = frost-empty.Post tt (s, tt) a (s, tt)

-- from the first sum, by these calls and their answers, to the last: each call is made on the sum that came back from the call before
abbrev pub FrostLinks : FrostRunningSum → List FrostAnswered → FrostRunningSum → Type 0
FrostLinks s done last =
    Chain (λ (s : FrostRunningSum) (a : FrostAnswered) (t : FrostRunningSum). FrostMeets s a.call a.answer × (t ≡ a.answer.sum)) s done last
