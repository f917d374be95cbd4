-- Only one outcome meets each exported function's contract; Unique/Conversions.antt says so of each conversion's.
mod Conversions
use mathlib.Core.Path.{sym, ◌∙◌}
use contract.Lifetimes.{Lfts}
use Rattle.integers.specs.OneOutcome.{OneResult, OneBuffer}
use Rattle.reading.specs.Claims.{OneBits}
use Rattle.reading.proofs.Laws.Claimed.{answer_bits}
use Rattle.frostuldi.specs.declared.FrostReadingAnswer.{FrostReadingAnswer}
use Rattle.frostuldi.proofs.frost_version.Reads as frost-version
use Rattle.frostuldi.proofs.frost_round_bit_sign_change.Reads as frost-round-bit-sign-change
use Rattle.frostuldi.proofs.frost_round_bit_cut.Reads as frost-round-bit-cut
use Rattle.frostuldi.proofs.frost_round_bit_even_cut.Reads as frost-round-bit-even-cut
use Rattle.frostuldi.proofs.frost_round_bit_rest.Reads as frost-round-bit-rest
use Rattle.frostuldi.proofs.frost_round_bit_widen.Reads as frost-round-bit-widen
use Rattle.frostuldi.proofs.frost_round_bit_sum.Reads as frost-round-bit-sum
use Rattle.frostuldi.proofs.frost_round_bit_difference.Reads as frost-round-bit-difference
use Rattle.frostuldi.proofs.frost_round_bit_product.Reads as frost-round-bit-product
use Rattle.frostuldi.proofs.frost_round_bit_to_plain.Reads as frost-round-bit-to-plain
use Rattle.frostuldi.proofs.frost_round_bit_from_plain.Reads as frost-round-bit-from-plain
use Rattle.frostuldi.proofs.frost_half_unit_sign_change.Reads as frost-half-unit-sign-change
use Rattle.frostuldi.proofs.frost_half_unit_cut.Reads as frost-half-unit-cut
use Rattle.frostuldi.proofs.frost_half_unit_from_plain_up.Reads as frost-half-unit-from-plain-up
use Rattle.frostuldi.proofs.frost_half_unit_from_plain_even.Reads as frost-half-unit-from-plain-even
use Rattle.frostuldi.proofs.frost_half_unit_to_plain.Reads as frost-half-unit-to-plain
use Rattle.frostuldi.proofs.frost_half_unit_to_round_bit.Reads as frost-half-unit-to-round-bit
use Rattle.frostuldi.proofs.frost_half_unit_from_round_bit.Reads as frost-half-unit-from-round-bit
use Rattle.frostuldi.proofs.frost_half_unit_sum_up.Reads as frost-half-unit-sum-up
use Rattle.frostuldi.proofs.frost_half_unit_sum_even.Reads as frost-half-unit-sum-even
use Rattle.frostuldi.proofs.frost_half_unit_product.Reads as frost-half-unit-product
use Rattle.frostuldi.proofs.frost_plain_from_binary64.Reads as frost-plain-from-binary64
use Rattle.frostuldi.proofs.frost_round_bit_from_binary64.Reads as frost-round-bit-from-binary64
use Rattle.frostuldi.proofs.frost_half_unit_from_binary64.Reads as frost-half-unit-from-binary64
use Rattle.frostuldi.proofs.frost_bank_output.Reads as frost-bank-output
use Rattle.frostuldi.proofs.frost_running_sum_open.Reads as frost-running-sum-open
use Rattle.frostuldi.proofs.frost_running_sum_put.Reads as frost-running-sum-put
use Rattle.frostuldi.proofs.frost_running_sum_hand_out.Reads as frost-running-sum-hand-out
use Rattle.frostuldi.proofs.frost_running_sum_empty.Reads as frost-running-sum-empty
use Rattle.frostuldi.proofs.frost_digit_text_write.Reads as frost-digit-text-write
use Rattle.frostuldi.proofs.frost_digit_text_read.Reads as frost-digit-text-read
use Rattle.frostuldi.proofs.frost_file_read.Reads as frost-file-read
use Rattle.frostuldi.proofs.frost_file_write.Reads as frost-file-write
use Rattle.frostuldi.proofs.frost_reading_of_run.Reads as frost-reading-of-run
use Rattle.frostuldi.proofs.frost_block_sum.Reads as frost-block-sum
use Rattle.frostuldi.proofs.frost_listing_text.Reads as frost-listing-text

frost_version_one : OneResult (frost-version.Post tt)
frost_version_one a x y e f p q = p ∙ sym q

frost_round_bit_sign_change_one : OneResult (frost-round-bit-sign-change.Post tt)
frost_round_bit_sign_change_one a x y e f p q = p ∙ sym q

frost_round_bit_cut_one : OneResult (frost-round-bit-cut.Post tt)
frost_round_bit_cut_one a x y e f p q = p ∙ sym q

frost_round_bit_even_cut_one : OneResult (frost-round-bit-even-cut.Post tt)
frost_round_bit_even_cut_one a x y e f p q = p ∙ sym q

frost_round_bit_rest_one : OneResult (frost-round-bit-rest.Post tt)
frost_round_bit_rest_one a x y e f p q = p ∙ sym q

frost_round_bit_widen_one : OneResult (frost-round-bit-widen.Post tt)
frost_round_bit_widen_one a x y e f p q = p ∙ sym q

frost_round_bit_sum_one : OneResult (frost-round-bit-sum.Post tt)
frost_round_bit_sum_one a x y e f p q = p ∙ sym q

frost_round_bit_difference_one : OneResult (frost-round-bit-difference.Post tt)
frost_round_bit_difference_one a x y e f p q = p ∙ sym q

frost_round_bit_product_one : OneResult (frost-round-bit-product.Post tt)
frost_round_bit_product_one a x y e f p q = p ∙ sym q

frost_round_bit_to_plain_one : OneResult (frost-round-bit-to-plain.Post tt)
frost_round_bit_to_plain_one a x y e f p q = p ∙ sym q

frost_round_bit_from_plain_one : OneResult (frost-round-bit-from-plain.Post tt)
frost_round_bit_from_plain_one a x y e f p q = p ∙ sym q

frost_half_unit_sign_change_one : OneResult (frost-half-unit-sign-change.Post tt)
frost_half_unit_sign_change_one a x y e f p q = p ∙ sym q

frost_half_unit_cut_one : OneResult (frost-half-unit-cut.Post tt)
frost_half_unit_cut_one a x y e f p q = p ∙ sym q

frost_half_unit_from_plain_up_one : OneResult (frost-half-unit-from-plain-up.Post tt)
frost_half_unit_from_plain_up_one a x y e f p q = p ∙ sym q

frost_half_unit_from_plain_even_one : OneResult (frost-half-unit-from-plain-even.Post tt)
frost_half_unit_from_plain_even_one a x y e f p q = p ∙ sym q

frost_half_unit_to_plain_one : OneResult (frost-half-unit-to-plain.Post tt)
frost_half_unit_to_plain_one a x y e f p q = p ∙ sym q

frost_half_unit_to_round_bit_one : OneResult (frost-half-unit-to-round-bit.Post tt)
frost_half_unit_to_round_bit_one a x y e f p q = p ∙ sym q

frost_half_unit_from_round_bit_one : OneResult (frost-half-unit-from-round-bit.Post tt)
frost_half_unit_from_round_bit_one a x y e f p q = p ∙ sym q

frost_half_unit_sum_up_one : OneResult (frost-half-unit-sum-up.Post tt)
frost_half_unit_sum_up_one a x y e f p q = p ∙ sym q

frost_half_unit_sum_even_one : OneResult (frost-half-unit-sum-even.Post tt)
frost_half_unit_sum_even_one a x y e f p q = p ∙ sym q

frost_half_unit_product_one : OneResult (frost-half-unit-product.Post tt)
frost_half_unit_product_one a x y e f p q = p ∙ sym q

frost_plain_from_binary64_one : OneResult (frost-plain-from-binary64.Post tt)
frost_plain_from_binary64_one a x y e f p q = p ∙ sym q

frost_round_bit_from_binary64_one : OneResult (frost-round-bit-from-binary64.Post tt)
frost_round_bit_from_binary64_one a x y e f p q = p ∙ sym q

frost_half_unit_from_binary64_one : OneResult (frost-half-unit-from-binary64.Post tt)
frost_half_unit_from_binary64_one a x y e f p q = p ∙ sym q

frost_bank_output_one : OneResult (frost-bank-output.Post tt)
frost_bank_output_one a x y e f p q = p ∙ sym q

frost_running_sum_open_one : OneResult (frost-running-sum-open.Post tt)
frost_running_sum_open_one a x y e f p q = p ∙ sym q

frost_running_sum_put_one : OneResult (frost-running-sum-put.Post tt)
frost_running_sum_put_one a x y e f p q = p ∙ sym q

frost_running_sum_hand_out_one : OneResult (frost-running-sum-hand-out.Post tt)
frost_running_sum_hand_out_one a x y e f p q = p ∙ sym q

frost_running_sum_empty_one : OneResult (frost-running-sum-empty.Post tt)
frost_running_sum_empty_one a x y e f p q = p ∙ sym q

frost_digit_text_write_one : (κs : Lfts 1) → OneResult (frost-digit-text-write.Post κs)
frost_digit_text_write_one κs a x y e f p q = p.0 ∙ sym q.0

frost_digit_text_write_text : (κs : Lfts 1) → OneBuffer (λ e. e.1.0.now) (frost-digit-text-write.Post κs)
frost_digit_text_write_text κs a x y e f p q = p.1 ∙ sym q.1

frost_digit_text_read_one : (κs : Lfts 1) → OneResult (frost-digit-text-read.Post κs)
frost_digit_text_read_one κs a x y e f p q = p ∙ sym q

frost_file_read_one : (κs : Lfts 3) → OneResult (frost-file-read.Post κs)
frost_file_read_one κs a x y e f p q = p.0 ∙ sym q.0

frost_file_read_numbers : (κs : Lfts 3) → OneBuffer (λ e. e.1.0.now) (frost-file-read.Post κs)
frost_file_read_numbers κs a x y e f p q = p.1.0 ∙ sym q.1.0

frost_file_read_rounds : (κs : Lfts 3) → OneBuffer (λ e. e.1.1.0.now) (frost-file-read.Post κs)
frost_file_read_rounds κs a x y e f p q = p.1.1 ∙ sym q.1.1

frost_file_write_one : (κs : Lfts 3) → OneResult (frost-file-write.Post κs)
frost_file_write_one κs a x y e f p q = p.0 ∙ sym q.0

frost_file_write_file : (κs : Lfts 3) → OneBuffer (λ e. e.1.1.1.1.1.0.now) (frost-file-write.Post κs)
frost_file_write_file κs a x y e f p q = p.1 ∙ sym q.1

frost_reading_of_run_one : (κs : Lfts 2) → OneResult (frost-reading-of-run.Post κs)
frost_reading_of_run_one κs a x y e f p q = p ∙ sym q

-- and the bits of each number that leaves here are told
frost_reading_of_run_bits : (κs : Lfts 2) (a : _) (x : FrostReadingAnswer) (e : _) → frost-reading-of-run.Post κs a x e →
    OneBits x.reading.lowest × OneBits x.reading.highest × OneBits x.reading.first
frost_reading_of_run_bits κs a x e p = rw p (answer_bits _ _ _)

frost_block_sum_one : (κs : Lfts 2) → OneResult (frost-block-sum.Post κs)
frost_block_sum_one κs a x y e f p q = p ∙ sym q

frost_listing_text_one : (κs : Lfts 2) → OneResult (frost-listing-text.Post κs)
frost_listing_text_one κs a x y e f p q = p.0 ∙ sym q.0

frost_listing_text_text : (κs : Lfts 2) → OneBuffer (λ e. e.1.0.now) (frost-listing-text.Post κs)
frost_listing_text_text κs a x y e f p q = p.1 ∙ sym q.1
