-- Examples of round-bit words that are not in the bench sheet's tables, document 01's and the even cut's, computed from the definitions.
use mathlib.Core.Path.{◌≡◌, refl}
use lib.IntN.{pos, negsuc}
use Rattle.integers.specs.Numbers.{fits_width, floor_by, lowest, digit, any_below}
use Rattle.integers.proofs.Even.{equation_11}
use Rattle.words.specs.Refusals.{format_check, word_check}
use Rattle.words.specs.declared.Cause.TheVariants.{NumberPast}
use Rattle.words.specs.Formats.{format, answer_check}
use Rattle.words.specs.Plain.{plain_refused, plain_fitted}
use Rattle.words.specs.RoundBit.{round_bit_word, round_bit_done}
use Rattle.words.specs.Flat.{round_bit_at as at}
use Rattle.round_bit.specs.Cuts.{sign_change_word, cut_by, even_round_bit, even_cut_word}
use Rattle.round_bit.specs.Arithmetic.{sum_word, magnitude_product, multiplied, product_word, product_of, to_plain_word, to_plain_of}

-- "Widths 32 and 32: round-bit product done at 63"; "(15,1) to plain: 8."
widths : (product_of (at 32 (pos 0) 0) (at 32 (pos 0) 0) ≡ round_bit_done (at 63 (pos 0) 0))
    × (to_plain_of (at 5 (pos 15) 1) ≡ plain_refused NumberPast)
unfolding fits_width format_check word_check answer_check plain_fitted magnitude_product multiplied product_word to_plain_word
widths = (refl, refl)

-- "-( (0,0)+(0,1) ) is (-1,0), but the sum of the sign-changed words is (-2,1)."
sign_through_sum : (sign_change_word (sum_word (at 5 (pos 0) 0) (at 5 (pos 0) 1)) ≡ at 5 (negsuc 0) 0)
    × (sum_word (sign_change_word (at 5 (pos 0) 0)) (sign_change_word (at 5 (pos 0) 1)) ≡ at 5 (negsuc 1) 1)
unfolding sign_change_word sum_word
sign_through_sum = (refl, refl)

-- "a lower part of 0 followed by ones with r = 1 is a tie as well": 4 is half of 8 and goes down to 0, 12 goes up to 16, -2 up to 0;
-- (7,1) is 8, which is no tie
even_ties : (even_cut_word (at 6 (pos 3) 1) 3 ≡ round_bit_word (pos 0) 0 (format 3 (pos 3)))
    × (even_cut_word (at 6 (pos 11) 1) 3 ≡ round_bit_word (pos 1) 1 (format 3 (pos 3)))
    × (even_cut_word (at 6 (negsuc 2) 1) 2 ≡ round_bit_word (negsuc 0) 1 (format 4 (pos 2)))
    × (even_cut_word (at 6 (pos 7) 1) 3 ≡ round_bit_word (pos 0) 1 (format 3 (pos 3)))
unfolding floor_by lowest digit cut_by even_round_bit
even_ties = (refl, refl, refl, refl)

-- equation 11 looks at the digits alone. (1,0) by 1 is a tie and goes to (0,0); its sign change (-2,1) is the same tie, which equation 11 does not
-- see, and so its answer, (-1,0), is not the sign change of (0,0)
equation_11_signs : (cut_by equation_11 (at 5 (pos 1) 0) 1 ≡ round_bit_word (pos 0) 0 (format 4 (pos 1)))
    × (cut_by equation_11 (sign_change_word (at 5 (pos 1) 0)) 1 ≡ round_bit_word (negsuc 0) 0 (format 4 (pos 1)))
    × (sign_change_word (round_bit_word (pos 0) 0 (format 4 (pos 1))) ≡ round_bit_word (negsuc 0) 1 (format 4 (pos 1)))
    × (even_cut_word (sign_change_word (at 5 (pos 1) 0)) 1 ≡ round_bit_word (negsuc 0) 1 (format 4 (pos 1)))
unfolding floor_by lowest digit any_below cut_by sign_change_word even_round_bit
equation_11_signs = (refl, refl, refl, refl)
