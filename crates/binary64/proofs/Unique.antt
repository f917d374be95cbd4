-- Only one outcome meets each public function's contract.
use mathlib.Core.Path.{sym, ◌∙◌}
use Rattle.integers.specs.OneOutcome.{OneResult}
use Rattle.binary64.proofs.to_plain.Reads as to-plain
use Rattle.binary64.proofs.to_round_bit.Reads as to-round-bit
use Rattle.binary64.proofs.to_half_unit.Reads as to-half-unit

to_plain_one : OneResult (to-plain.Post tt)
to_plain_one a x y e f p q = p ∙ sym q

to_round_bit_one : OneResult (to-round-bit.Post tt)
to_round_bit_one a x y e f p q = p ∙ sym q

to_half_unit_one : OneResult (to-half-unit.Post tt)
to_half_unit_one a x y e f p q = p ∙ sym q
