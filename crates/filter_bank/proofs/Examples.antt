-- Outputs that were worked out by hand, computed from the definitions.
use Prim.Native.Nat.{ℕ}
use mathlib.Core.List.{List, [], ◌∷◌}
use mathlib.Core.Path.{◌≡◌, refl}
use lib.IntN.{ℤ, pos, negsuc}
use lib.ListN.{set, replicate}
use Rattle.integers.specs.Numbers.{fits_width, floor_by, lowest, digit}
use Rattle.words.specs.Refusals.{format_check, word_check}
use Rattle.words.specs.Formats.{format}
use Rattle.words.specs.RoundBit.{round_bit_word}
use Rattle.words.specs.Outcomes.{Done}
use Rattle.words.specs.Kinds.{RoundBitWord}
use Rattle.round_bit.specs.Cuts.{cut_by}
use Rattle.round_bit.specs.Arithmetic.{sum_word, magnitude_product, multiplied, product_word}
use Rattle.filter_bank.specs.Bank.{products, added_to, total, output_word, words_check, any_differ, output_answer, output_of}

abbrev pub word : ℕ → ℤ → ℤ → ℕ → RoundBitWord
word n e a r = round_bit_word a r (format n e)

-- a bank whose other rows are of words that have no width
abbrev pub alone : ℕ → List RoundBitWord → List (List RoundBitWord)
alone channel taps = set (replicate 4 (replicate 8 (word 0 (pos 0) (pos 0) 0))) channel taps

abbrev tap : ℤ → ℕ → RoundBitWord
tap a r = word 12 (pos 0) a r

abbrev sample : ℤ → ℕ → RoundBitWord
sample a r = word 16 (pos 0) a r

-- (-2048,1) is worth -2047, and times -32768 it is 2047 * 2^15; eight of them are 2047 * 2^18, which the cut divides by 2^11: (262016,0)
exact : output_of (alone 0 (replicate 8 (tap (negsuc 2047) 1))) (replicate 8 (sample (negsuc 32767) 0)) 0
    ≡ output_answer Done (word 20 (pos 11) (pos 262016) 0)
unfolding fits_width floor_by lowest digit format_check word_check cut_by sum_word magnitude_product multiplied product_word added_to output_word words_check
    any_differ
exact = refl

-- the ends: eight times 2^26 is 2^29, held as (2^29 - 1, 1), and eight times -2^26 is (-2^29, 0)
ends : (output_of (alone 3 (replicate 8 (tap (negsuc 2047) 0))) (replicate 8 (sample (negsuc 32767) 0)) 3
    ≡ output_answer Done (word 20 (pos 11) (pos 262143) 1))
    × (output_of (alone 3 (replicate 8 (tap (pos 2047) 1))) (replicate 8 (sample (negsuc 32767) 0)) 3
    ≡ output_answer Done (word 20 (pos 11) (negsuc 262143) 0))
unfolding fits_width floor_by lowest digit format_check word_check cut_by sum_word magnitude_product multiplied product_word added_to output_word words_check
    any_differ
ends = (refl, refl)

-- taps worth 6, -3, 0, 1, -2048, 2048, 101 and -6, samples worth -9, 8, 10, 1, -32768, -32768, 12 and -20: the products are worth -54, -24,
-- 0, 1, 2^26, -2^26, 1212 and 120, together 1255, held as (1254,1), which the cut takes for 0 and digit 10, which is 1
abbrev mixed_taps : List RoundBitWord
mixed_taps =
    tap (pos 5) 1 ∷ tap (negsuc 2) 0 ∷ tap (negsuc 0) 1 ∷ tap (pos 0) 1 ∷ tap (negsuc 2047) 0 ∷ tap (pos 2047) 1 ∷ tap (pos 100) 1 ∷ tap (negsuc 6) 1 ∷ []

abbrev mixed_samples : List RoundBitWord
mixed_samples =
    sample (negsuc 9) 1 ∷ sample (pos 7) 1 ∷ sample (pos 9) 1 ∷ sample (pos 0) 1 ∷ sample (negsuc 32767) 0 ∷ sample (negsuc 32767) 0 ∷ sample (pos 11) 1
    ∷ sample (negsuc 19) 0 ∷ []

mixed : (total (products mixed_taps mixed_samples) ≡ word 31 (pos 0) (pos 1254) 1)
    × (output_of (alone 1 mixed_taps) mixed_samples 1 ≡ output_answer Done (word 20 (pos 11) (pos 0) 1))
unfolding fits_width floor_by lowest digit format_check word_check cut_by sum_word magnitude_product multiplied product_word added_to output_word words_check
    any_differ
mixed = (refl, refl)
