-- Wrong answers: rows of a bank, a window, a channel and an answer that the output must not be, each tried against the definition by one
-- computed test. With the uniqueness of the contract this shuts them out of the code.
use Prim.Native.Nat.{ℕ}
use mathlib.Core.Bool.{Bool, true, not}
use mathlib.Core.List.{List, [], ◌∷◌, ◌++◌}
use mathlib.Core.Path.{◌≡◌, refl}
use lib.IntN.{ℤ, pos, negsuc}
use lib.ListN.{length, get_or, set, replicate}
use Rattle.integers.specs.Numbers.{fits_width, floor_by, lowest, digit}
use Rattle.integers.specs.Lists.{first_bad, all}
use Rattle.words.specs.Refusals.{format_check, word_check}
use Rattle.words.specs.Flat.{Flat, flat, laid_flat, same_flat, refused}
use Rattle.words.specs.Kinds.{RoundBitWord}
use Rattle.round_bit.specs.Cuts.{cut_by}
use Rattle.round_bit.specs.Arithmetic.{sum_word, magnitude_product, multiplied, product_word}
use Rattle.filter_bank.specs.Bank.{added_to, output_word, words_check, any_differ, output_of}
use Rattle.filter_bank.proofs.Examples.{word, alone}

record Row : Type 0 where
  bank : List (List RoundBitWord)
  window : List RoundBitWord
  channel : ℕ
  claimed : Flat

-- the taps of channel c, beside rows of words without a width, are not what is said
abbrev wrongly : ℕ → List RoundBitWord → List RoundBitWord → Flat → Row
wrongly c taps window x = record { bank = alone c taps; window = window; channel = c; claimed = x }

abbrev answer : Row → Flat
answer r =
    let a = output_of r.bank r.window r.channel in
    laid_flat a.outcome a.word.number.0 a.word.number.1 a.word.format

-- (3,1) eight times with (100,0) is 8 * 400 = 3200, which is 1 * 2048 + 1024 + 128: (1,1)
abbrev tap : RoundBitWord
tap = word 12 (negsuc 10) (pos 3) 1

abbrev sample : RoundBitWord
sample = word 16 (negsuc 7) (pos 100) 0

abbrev taps : List RoundBitWord
taps = replicate 8 tap

abbrev window : List RoundBitWord
window = replicate 8 sample

-- one that refuses, one that answers a fixed word, and those that copy a tap or a sample through
abbrev stand_ins : List Row
stand_ins =
    wrongly 2 taps window (refused 17)
    ∷ wrongly 2 taps window (refused 0)
    ∷ wrongly 2 taps window (flat 0 (pos 3) 1 12 (negsuc 10))
    ∷ wrongly 2 taps window (flat 0 (pos 100) 0 16 (negsuc 7))
    ∷ []

-- and the mistakes that are near
abbrev mistakes : List Row
mistakes =
    -- cut by 10; the taps' round bits left out, 2400; the sum rounded to a number; the products' unit kept
    wrongly 2 taps window (flat 0 (pos 3) 0 21 (negsuc 8))
    ∷ wrongly 2 taps window (flat 0 (pos 1) 0 20 (negsuc 7))
    ∷ wrongly 2 taps window (flat 0 (pos 2) 0 20 (negsuc 7))
    ∷ wrongly 2 taps window (flat 0 (pos 1) 1 20 (negsuc 18))
    -- another channel's row; a tap's unit held to a sample's
    ∷ wrongly 2 taps window (refused 1)
    ∷ wrongly 2 taps window (refused 4)
    -- eight products that would leave width 27, or 29, refused
    ∷ wrongly 0 (replicate 8 (word 12 (pos 0) (negsuc 2047) 0)) (replicate 8 (word 16 (pos 0) (negsuc 32767) 0)) (refused 8)
    ∷ []

abbrev narrow : RoundBitWord
narrow = word 1 (pos 0) (pos 0) 0

abbrev long : ℕ → ℤ → RoundBitWord
long n e = word n e (pos 1000000) 0

-- the causes in another order than "17 .. before all others; then 1, 2, 3 for that channel's taps in order, then for the samples, then 4 ..,
-- then 7"
abbrev misplaced : List Row
misplaced =
    -- channel 4 taken, and 17 after a tap's 1
    record { bank = alone 3 taps; window = window; channel = 4; claimed = flat 0 (pos 1) 1 20 (negsuc 7) }
    ∷ record { bank = alone 3 taps; window = window; channel = 4; claimed = refused 1 }
    -- tap 1's 3 after tap 4's 1
    ∷ wrongly 3 (set (set taps 1 (long 12 (negsuc 10))) 4 narrow) window (refused 1)
    -- tap 7's 3 after sample 0's 1
    ∷ wrongly 3 (set taps 7 (long 12 (negsuc 10))) (set window 0 narrow) (refused 1)
    -- 4 of tap 2, which is 13 wide, before sample 5's 3
    ∷ wrongly 3 (set taps 2 (word 13 (negsuc 10) (pos 3) 1)) (set window 5 (long 16 (negsuc 7))) (refused 4)
    -- 7 before 4: units of 100 and 100, and tap 3's of 99
    ∷ wrongly 3 (set (replicate 8 (word 12 (pos 100) (pos 3) 1)) 3 (word 12 (pos 99) (pos 3) 1)) (replicate 8 (word 16 (pos 100) (pos 100) 0)) (refused 7)
    -- 7 not given where the output's unit alone is too coarse, 128, and where the products' alone is too fine, -128
    ∷ wrongly 3 (replicate 8 (word 12 (pos 60) (pos 3) 1)) (replicate 8 (word 16 (pos 57) (pos 100) 0)) (flat 0 (pos 1) 1 20 (pos 128))
    ∷ wrongly 3 (replicate 8 (word 12 (negsuc 63) (pos 3) 1)) (replicate 8 (word 16 (negsuc 63) (pos 100) 0)) (flat 0 (pos 1) 1 20 (negsuc 116))
    ∷ []

abbrev differs : Row → Bool
differs r = not (same_flat (answer r) r.claimed)

abbrev wrong : List Row
wrong = stand_ins ++ mistakes ++ misplaced

all_wrong : all (length wrong) (λ k. differs (get_or wrong k (wrongly 0 [] [] (refused 0)))) ≡ true
unfolding first_bad fits_width floor_by lowest digit format_check word_check cut_by sum_word magnitude_product multiplied product_word added_to output_word
    words_check any_differ
all_wrong = refl
