-- Only one outcome meets each public function's contract.
use mathlib.Core.Path.{sym, ◌∙◌}
use Rattle.integers.specs.OneOutcome.{OneResult}
use Rattle.half_unit.proofs.sign_change.Reads as sign-change
use Rattle.half_unit.proofs.cut.Reads as cut
use Rattle.half_unit.proofs.from_plain_up.Reads as from-plain-up
use Rattle.half_unit.proofs.from_plain_even.Reads as from-plain-even
use Rattle.half_unit.proofs.to_plain.Reads as to-plain
use Rattle.half_unit.proofs.to_round_bit.Reads as to-round-bit
use Rattle.half_unit.proofs.from_round_bit.Reads as from-round-bit
use Rattle.half_unit.proofs.sum_up.Reads as sum-up
use Rattle.half_unit.proofs.sum_even.Reads as sum-even
use Rattle.half_unit.proofs.product.Reads as product

sign_change_one : OneResult (sign-change.Post tt)
sign_change_one a x y e f p q = p ∙ sym q

cut_one : OneResult (cut.Post tt)
cut_one a x y e f p q = p ∙ sym q

from_plain_up_one : OneResult (from-plain-up.Post tt)
from_plain_up_one a x y e f p q = p ∙ sym q

from_plain_even_one : OneResult (from-plain-even.Post tt)
from_plain_even_one a x y e f p q = p ∙ sym q

to_plain_one : OneResult (to-plain.Post tt)
to_plain_one a x y e f p q = p ∙ sym q

to_round_bit_one : OneResult (to-round-bit.Post tt)
to_round_bit_one a x y e f p q = p ∙ sym q

from_round_bit_one : OneResult (from-round-bit.Post tt)
from_round_bit_one a x y e f p q = p ∙ sym q

sum_up_one : OneResult (sum-up.Post tt)
sum_up_one a x y e f p q = p ∙ sym q

sum_even_one : OneResult (sum-even.Post tt)
sum_even_one a x y e f p q = p ∙ sym q

product_one : OneResult (product.Post tt)
product_one a x y e f p q = p ∙ sym q
