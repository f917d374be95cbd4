-- Only one outcome meets each public function's contract.
use mathlib.Core.Path.{sym, ◌∙◌}
use Rattle.integers.specs.OneOutcome.{OneResult}
use Rattle.running_sum.proofs.open.Reads as «open»
use Rattle.running_sum.proofs.RunningSum.put.Reads as put
use Rattle.running_sum.proofs.RunningSum.hand_out.Reads as hand-out
use Rattle.running_sum.proofs.RunningSum.empty.Reads as empty

open_one : OneResult («open».Post tt)
open_one a x y e f p q = p ∙ sym q

put_one : OneResult (put.Post tt)
put_one a x y e f p q = p ∙ sym q

hand_out_one : OneResult (hand-out.Post tt)
hand_out_one a x y e f p q = p ∙ sym q

empty_one : OneResult (empty.Post tt)
empty_one a x y e f p q = p ∙ sym q
