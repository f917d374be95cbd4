-- Only one outcome meets each public function's contract. What is said of a word of any kind N takes what comes with N.
use denote.RattleType.{RattleType}
use mathlib.Core.Path.{sym, ◌∙◌}
use Rattle.integers.specs.OneOutcome.{OneResult}
use Rattle.words.proofs.number_of.Reads as number-of
use Rattle.words.proofs.refuse_for.Reads as refuse-for
use Rattle.words.proofs.Format.bad_unit.Reads as bad-unit
use Rattle.words.proofs.Format.outside.Reads as outside
use Rattle.words.proofs.Format.check.Reads as format-check
use Rattle.words.proofs.Format.formed.Reads as format-formed
use Rattle.words.proofs.Format.units_multiplied.Reads as units-multiplied
use Rattle.words.proofs.Format.wider.Reads as format-wider
use Rattle.words.proofs.Format.narrower.Reads as format-narrower
use Rattle.words.proofs.format_refused.Reads as format-refused
use Rattle.words.proofs.formed.Reads as formed
use Rattle.words.proofs.wider.Reads as wider
use Rattle.words.proofs.narrower.Reads as narrower
use Rattle.words.proofs.plain_fitted.Reads as plain-fitted
use Rattle.words.proofs.round_bit_fitted.Reads as round-bit-fitted
use Rattle.words.proofs.half_unit_fitted.Reads as half-unit-fitted
use Rattle.words.proofs.PlainDigits.number.Reads as plain-digits-number
use Rattle.words.proofs.PlainDigits.round.Reads as plain-digits-round
use Rattle.words.proofs.PlainDigits.zero.Reads as plain-digits-zero
use Rattle.words.proofs.RoundBitDigits.number.Reads as round-bit-digits-number
use Rattle.words.proofs.RoundBitDigits.round.Reads as round-bit-digits-round
use Rattle.words.proofs.RoundBitDigits.zero.Reads as round-bit-digits-zero
use Rattle.words.proofs.HalfUnitDigits.number.Reads as half-unit-digits-number
use Rattle.words.proofs.HalfUnitDigits.round.Reads as half-unit-digits-round
use Rattle.words.proofs.HalfUnitDigits.zero.Reads as half-unit-digits-zero
use Rattle.words.proofs.AnswerFromResultWordCause.from.Reads as answer-from-result-word-cause
use Rattle.words.proofs.CutAnswerFromResultWordCause.from.Reads as cut-answer-from-result-word-cause
use Rattle.words.proofs.FormatAnswerFromResultFormatCause.from.Reads as format-answer-from-result-format-cause
use Rattle.words.proofs.WriteAnswerFromResultUsizeCause.from.Reads as write-answer-from-result-usize-cause
use Rattle.words.proofs.U32FromCause.from.Reads as u32-from-cause
use Rattle.words.proofs.Word.blank.Reads as blank
use Rattle.words.proofs.Word.check.Reads as word-check
use Rattle.words.proofs.Word.fitted.Reads as fitted
use Rattle.words.proofs.Word.sum_check.Reads as sum-check
use Rattle.words.proofs.Word.widened_format.Reads as widened-format
use Rattle.words.proofs.Word.cut_format.Reads as cut-format

number_of_one : OneResult (number-of.Post tt)
number_of_one a x y e f p q = p ∙ sym q

refuse_for_one : OneResult (refuse-for.Post tt)
refuse_for_one a x y e f p q = p ∙ sym q

bad_unit_one : OneResult (bad-unit.Post tt)
bad_unit_one a x y e f p q = p ∙ sym q

outside_one : OneResult (outside.Post tt)
outside_one a x y e f p q = p ∙ sym q

format_check_one : OneResult (format-check.Post tt)
format_check_one a x y e f p q = p ∙ sym q

formed_one : OneResult (formed.Post tt)
formed_one a x y e f p q = p ∙ sym q

format_formed_one : OneResult (format-formed.Post tt)
format_formed_one a x y e f p q = p ∙ sym q

format_wider_one : OneResult (format-wider.Post tt)
format_wider_one a x y e f p q = p ∙ sym q

format_narrower_one : OneResult (format-narrower.Post tt)
format_narrower_one a x y e f p q = p ∙ sym q

format_refused_one : OneResult (format-refused.Post tt)
format_refused_one a x y e f p q = p ∙ sym q

units_multiplied_one : OneResult (units-multiplied.Post tt)
units_multiplied_one a x y e f p q = p ∙ sym q

wider_one : OneResult (wider.Post tt)
wider_one a x y e f p q = p ∙ sym q

narrower_one : OneResult (narrower.Post tt)
narrower_one a x y e f p q = p ∙ sym q

plain_fitted_one : OneResult (plain-fitted.Post tt)
plain_fitted_one a x y e f p q = p ∙ sym q

round_bit_fitted_one : OneResult (round-bit-fitted.Post tt)
round_bit_fitted_one a x y e f p q = p ∙ sym q

half_unit_fitted_one : OneResult (half-unit-fitted.Post tt)
half_unit_fitted_one a x y e f p q = p ∙ sym q

plain_digits_number_one : OneResult (plain-digits-number.Post tt)
plain_digits_number_one a x y e f p q = p ∙ sym q

plain_digits_round_one : OneResult (plain-digits-round.Post tt)
plain_digits_round_one a x y e f p q = p ∙ sym q

plain_digits_zero_one : OneResult (plain-digits-zero.Post tt)
plain_digits_zero_one a x y e f p q = p ∙ sym q

round_bit_digits_number_one : OneResult (round-bit-digits-number.Post tt)
round_bit_digits_number_one a x y e f p q = p ∙ sym q

round_bit_digits_round_one : OneResult (round-bit-digits-round.Post tt)
round_bit_digits_round_one a x y e f p q = p ∙ sym q

round_bit_digits_zero_one : OneResult (round-bit-digits-zero.Post tt)
round_bit_digits_zero_one a x y e f p q = p ∙ sym q

half_unit_digits_number_one : OneResult (half-unit-digits-number.Post tt)
half_unit_digits_number_one a x y e f p q = p ∙ sym q

half_unit_digits_round_one : OneResult (half-unit-digits-round.Post tt)
half_unit_digits_round_one a x y e f p q = p ∙ sym q

half_unit_digits_zero_one : OneResult (half-unit-digits-zero.Post tt)
half_unit_digits_zero_one a x y e f p q = p ∙ sym q

answer_from_result_word_cause_one : (N : RattleType) (l c g d h k t : _) → OneResult (answer-from-result-word-cause.Post N l c g d h k t)
answer_from_result_word_cause_one N l c g d h k t a x y e f p q = p ∙ sym q

cut_answer_from_result_word_cause_one : (N : RattleType) (l c g d h k t : _) → OneResult (cut-answer-from-result-word-cause.Post N l c g d h k t)
cut_answer_from_result_word_cause_one N l c g d h k t a x y e f p q = p ∙ sym q

format_answer_from_result_format_cause_one : OneResult (format-answer-from-result-format-cause.Post tt)
format_answer_from_result_format_cause_one a x y e f p q = p ∙ sym q

write_answer_from_result_usize_cause_one : OneResult (write-answer-from-result-usize-cause.Post tt)
write_answer_from_result_usize_cause_one a x y e f p q = p ∙ sym q

u32_from_cause_one : OneResult (u32-from-cause.Post tt)
u32_from_cause_one a x y e f p q = p ∙ sym q

blank_one : (N : RattleType) (l c g d h k t : _) → OneResult (blank.Post N l c g d h k t)
blank_one N l c g d h k t a x y e f p q = p ∙ sym q

word_check_one : (N : RattleType) (l c g d h k t : _) → OneResult (word-check.Post N l c g d h k t)
word_check_one N l c g d h k t a x y e f p q = p ∙ sym q

fitted_one : (N : RattleType) (l c g d h k t : _) → OneResult (fitted.Post N l c g d h k t)
fitted_one N l c g d h k t a x y e f p q = p ∙ sym q

cut_format_one : (N : RattleType) (l c g d h k t : _) → OneResult (cut-format.Post N l c g d h k t)
cut_format_one N l c g d h k t a x y e f p q = p ∙ sym q

widened_format_one : (N : RattleType) (l c g d h k t : _) → OneResult (widened-format.Post N l c g d h k t)
widened_format_one N l c g d h k t a x y e f p q = p ∙ sym q

sum_check_one : (N : RattleType) (l c g d h k t : _) → OneResult (sum-check.Post N l c g d h k t)
sum_check_one N l c g d h k t a x y e f p q = p ∙ sym q
