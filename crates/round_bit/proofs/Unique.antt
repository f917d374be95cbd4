-- Only one outcome meets each public function's contract.
use mathlib.Core.Path.{sym, ◌∙◌}
use Rattle.integers.specs.OneOutcome.{OneResult}
use Rattle.round_bit.proofs.sign_change.Reads as sign-change
use Rattle.round_bit.proofs.cut.Reads as cut
use Rattle.round_bit.proofs.rest.Reads as rest
use Rattle.round_bit.proofs.cut_and_rest.Reads as cut-and-rest
use Rattle.round_bit.proofs.cut_in_two.Reads as cut-in-two
use Rattle.round_bit.proofs.even_cut.Reads as even-cut
use Rattle.round_bit.proofs.widen.Reads as widen
use Rattle.round_bit.proofs.sum.Reads as sum
use Rattle.round_bit.proofs.difference.Reads as difference
use Rattle.round_bit.proofs.product.Reads as product
use Rattle.round_bit.proofs.to_plain.Reads as to-plain
use Rattle.round_bit.proofs.from_plain.Reads as from-plain
use Rattle.round_bit.proofs.CutAndRestAnswerFromResultCutAndRestCause.from.Reads as cut-and-rest-answer-from-result-cut-and-rest-cause

sign_change_one : OneResult (sign-change.Post tt)
sign_change_one a x y e f p q = p ∙ sym q

cut_one : OneResult (cut.Post tt)
cut_one a x y e f p q = p ∙ sym q

rest_one : OneResult (rest.Post tt)
rest_one a x y e f p q = p ∙ sym q

cut_and_rest_one : OneResult (cut-and-rest.Post tt)
cut_and_rest_one a x y e f p q = p ∙ sym q

cut_in_two_one : OneResult (cut-in-two.Post tt)
cut_in_two_one a x y e f p q = p ∙ sym q

even_cut_one : OneResult (even-cut.Post tt)
even_cut_one a x y e f p q = p ∙ sym q

widen_one : OneResult (widen.Post tt)
widen_one a x y e f p q = p ∙ sym q

sum_one : OneResult (sum.Post tt)
sum_one a x y e f p q = p ∙ sym q

difference_one : OneResult (difference.Post tt)
difference_one a x y e f p q = p ∙ sym q

product_one : OneResult (product.Post tt)
product_one a x y e f p q = p ∙ sym q

to_plain_one : OneResult (to-plain.Post tt)
to_plain_one a x y e f p q = p ∙ sym q

from_plain_one : OneResult (from-plain.Post tt)
from_plain_one a x y e f p q = p ∙ sym q

cut_and_rest_answer_from_result_cut_and_rest_cause_one : OneResult (cut-and-rest-answer-from-result-cut-and-rest-cause.Post tt)
cut_and_rest_answer_from_result_cut_and_rest_cause_one a x y e f p q = p ∙ sym q
