-- Only one outcome meets each public function's contract.
use mathlib.Core.Path.{sym, ◌∙◌}
use Rattle.integers.specs.OneOutcome.{OneResult}
use Rattle.filter_bank.proofs.channel_output.Reads as channel-output
use Rattle.filter_bank.proofs.output.Reads as output

channel_output_one : OneResult (channel-output.Post tt)
channel_output_one a x y e f p q = p ∙ sym q

output_one : OneResult (output.Post tt)
output_one a x y e f p q = p ∙ sym q
