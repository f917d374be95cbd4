-- Only one outcome meets each public function's contract.
use mathlib.Core.Path.{sym, ◌∙◌}
use contract.Lifetimes.{Lfts}
use Rattle.integers.specs.OneOutcome.{OneResult, OneBuffer}
use Rattle.digit_text.proofs.write.Reads as write
use Rattle.digit_text.proofs.read.Reads as read
use Rattle.digit_text.proofs.ReadAnswerFromResultRoundBitWordFault.from.Reads as read-answer-from-result-round-bit-word-fault

write_one : (κs : Lfts 1) → OneResult (write.Post κs)
write_one κs a x y e f p q = p.0 ∙ sym q.0

write_text : (κs : Lfts 1) → OneBuffer (λ e. e.1.0.now) (write.Post κs)
write_text κs a x y e f p q = p.1 ∙ sym q.1

read_one : (κs : Lfts 1) → OneResult (read.Post κs)
read_one κs a x y e f p q = p ∙ sym q

read_answer_from_result_round_bit_word_fault_one : OneResult (read-answer-from-result-round-bit-word-fault.Post tt)
read_answer_from_result_round_bit_word_fault_one a x y e f p q = p ∙ sym q
