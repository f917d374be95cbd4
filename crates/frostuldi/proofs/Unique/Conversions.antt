-- Only one outcome meets each conversion's contract.
use mathlib.Core.Path.{sym, ◌∙◌}
use Rattle.integers.specs.OneOutcome.{OneResult}
use Rattle.frostuldi.proofs.PlainWordFromFrostPlain.from.Reads as plain-word-from-frost-plain
use Rattle.frostuldi.proofs.HalfUnitWordFromFrostHalfUnit.from.Reads as half-unit-word-from-frost-half-unit
use Rattle.frostuldi.proofs.RoundBitWordFromFrostRoundBit.from.Reads as round-bit-word-from-frost-round-bit
use Rattle.frostuldi.proofs.RunningSumFromFrostRunningSum.from.Reads as running-sum-from-frost-running-sum
use Rattle.frostuldi.proofs.FrostPlainFromPlainWord.from.Reads as frost-plain-from-plain-word
use Rattle.frostuldi.proofs.FrostHalfUnitFromHalfUnitWord.from.Reads as frost-half-unit-from-half-unit-word
use Rattle.frostuldi.proofs.FrostRoundBitFromRoundBitWord.from.Reads as frost-round-bit-from-round-bit-word
use Rattle.frostuldi.proofs.FrostRunningSumFromRunningSum.from.Reads as frost-running-sum-from-running-sum
use Rattle.frostuldi.proofs.FrostPlainAnswerFromPlainAnswer.from.Reads as frost-plain-answer-from-plain-answer
use Rattle.frostuldi.proofs.FrostHalfUnitAnswerFromHalfUnitAnswer.from.Reads as frost-half-unit-answer-from-half-unit-answer
use Rattle.frostuldi.proofs.FrostHalfUnitAnswerFromCutAnswerHalfUnit.from.Reads as frost-half-unit-answer-from-cut-answer-half-unit
use Rattle.frostuldi.proofs.FrostRoundBitAnswerFromRoundBitAnswer.from.Reads as frost-round-bit-answer-from-round-bit-answer
use Rattle.frostuldi.proofs.FrostRoundBitAnswerFromCutAnswerRoundBit.from.Reads as frost-round-bit-answer-from-cut-answer-round-bit
use Rattle.frostuldi.proofs.FrostSumAnswerFromSumAnswer.from.Reads as frost-sum-answer-from-sum-answer
use Rattle.frostuldi.proofs.FrostSumAnswerFromHandedAnswer.from.Reads as frost-sum-answer-from-handed-answer
use Rattle.frostuldi.proofs.FrostTextAnswerFromTextAnswer.from.Reads as frost-text-answer-from-text-answer
use Rattle.frostuldi.proofs.FrostReadingFromReading.from.Reads as frost-reading-from-reading
use Rattle.frostuldi.proofs.FrostReadingAnswerFromReadingAnswer.from.Reads as frost-reading-answer-from-reading-answer
use Rattle.frostuldi.proofs.FrostBlockSumAnswerFromBlockSumAnswer.from.Reads as frost-block-sum-answer-from-block-sum-answer
use Rattle.frostuldi.proofs.FrostFileHeadFromReadAnswer.from.Reads as frost-file-head-from-read-answer
use Rattle.frostuldi.proofs.FrostWrittenFromWriteAnswer.from.Reads as frost-written-from-write-answer

plain_word_from_frost_plain_one : OneResult (plain-word-from-frost-plain.Post tt)
plain_word_from_frost_plain_one a x y e f p q = p ∙ sym q

half_unit_word_from_frost_half_unit_one : OneResult (half-unit-word-from-frost-half-unit.Post tt)
half_unit_word_from_frost_half_unit_one a x y e f p q = p ∙ sym q

round_bit_word_from_frost_round_bit_one : OneResult (round-bit-word-from-frost-round-bit.Post tt)
round_bit_word_from_frost_round_bit_one a x y e f p q = p ∙ sym q

running_sum_from_frost_running_sum_one : OneResult (running-sum-from-frost-running-sum.Post tt)
running_sum_from_frost_running_sum_one a x y e f p q = p ∙ sym q

frost_plain_from_plain_word_one : OneResult (frost-plain-from-plain-word.Post tt)
frost_plain_from_plain_word_one a x y e f p q = p ∙ sym q

frost_half_unit_from_half_unit_word_one : OneResult (frost-half-unit-from-half-unit-word.Post tt)
frost_half_unit_from_half_unit_word_one a x y e f p q = p ∙ sym q

frost_round_bit_from_round_bit_word_one : OneResult (frost-round-bit-from-round-bit-word.Post tt)
frost_round_bit_from_round_bit_word_one a x y e f p q = p ∙ sym q

frost_running_sum_from_running_sum_one : OneResult (frost-running-sum-from-running-sum.Post tt)
frost_running_sum_from_running_sum_one a x y e f p q = p ∙ sym q

frost_plain_answer_from_plain_answer_one : OneResult (frost-plain-answer-from-plain-answer.Post tt)
frost_plain_answer_from_plain_answer_one a x y e f p q = p ∙ sym q

frost_half_unit_answer_from_half_unit_answer_one : OneResult (frost-half-unit-answer-from-half-unit-answer.Post tt)
frost_half_unit_answer_from_half_unit_answer_one a x y e f p q = p ∙ sym q

frost_half_unit_answer_from_cut_answer_half_unit_one : OneResult (frost-half-unit-answer-from-cut-answer-half-unit.Post tt)
frost_half_unit_answer_from_cut_answer_half_unit_one a x y e f p q = p ∙ sym q

frost_round_bit_answer_from_round_bit_answer_one : OneResult (frost-round-bit-answer-from-round-bit-answer.Post tt)
frost_round_bit_answer_from_round_bit_answer_one a x y e f p q = p ∙ sym q

frost_round_bit_answer_from_cut_answer_round_bit_one : OneResult (frost-round-bit-answer-from-cut-answer-round-bit.Post tt)
frost_round_bit_answer_from_cut_answer_round_bit_one a x y e f p q = p ∙ sym q

frost_sum_answer_from_sum_answer_one : OneResult (frost-sum-answer-from-sum-answer.Post tt)
frost_sum_answer_from_sum_answer_one a x y e f p q = p ∙ sym q

frost_sum_answer_from_handed_answer_one : OneResult (frost-sum-answer-from-handed-answer.Post tt)
frost_sum_answer_from_handed_answer_one a x y e f p q = p ∙ sym q

frost_text_answer_from_text_answer_one : OneResult (frost-text-answer-from-text-answer.Post tt)
frost_text_answer_from_text_answer_one a x y e f p q = p ∙ sym q

frost_reading_from_reading_one : OneResult (frost-reading-from-reading.Post tt)
frost_reading_from_reading_one a x y e f p q = p ∙ sym q

frost_reading_answer_from_reading_answer_one : OneResult (frost-reading-answer-from-reading-answer.Post tt)
frost_reading_answer_from_reading_answer_one a x y e f p q = p ∙ sym q

frost_block_sum_answer_from_block_sum_answer_one : OneResult (frost-block-sum-answer-from-block-sum-answer.Post tt)
frost_block_sum_answer_from_block_sum_answer_one a x y e f p q = p ∙ sym q

frost_file_head_from_read_answer_one : OneResult (frost-file-head-from-read-answer.Post tt)
frost_file_head_from_read_answer_one a x y e f p q = p ∙ sym q

frost_written_from_write_answer_one : OneResult (frost-written-from-write-answer.Post tt)
frost_written_from_write_answer_one a x y e f p q = p ∙ sym q
