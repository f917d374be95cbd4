-- What is claimed of one channel's output.
use Rattle.std.specs.Prelude.{ℕ, suc, ◌^◌, ◌≤◌, ◌≡◌, List, [], ◌∷◌, length, ℤ, pos, nat_abs, ◌+ℤ◌}
use Rattle.std.specs.Prelude.{◌-ℤ◌, ◌*ℤ◌}
use Rattle.std.specs.Prelude.{reverse}
use Rattle.words.specs.Outcomes.{Done}
use Rattle.words.specs.Kinds.{RoundBitWord}
use Rattle.words.specs.Kinds.{RoundBitAnswer}
use Rattle.words.specs.Formats.{format}
use Rattle.words.specs.RoundBit.{round_bit_value, round_bit_check}
use Rattle.round_bit.specs.Cuts.{cut_of}
use Rattle.round_bit.specs.Arithmetic.{sum_of, product_of}
use Rattle.words.specs.Kinds.{RoundBitCutAnswer}
use Rattle.filter_bank.specs.Bank.{cut_depth, row_of, extended, total, output_word}
use Rattle.filter_bank.specs.Bank.{products_unit, output_answer, channel_output_of, output_of}

-- what the operations themselves answer, each asked with the word that the one before answered:
-- the products,
abbrev pub product_answers : List RoundBitWord → List RoundBitWord → List RoundBitAnswer
product_answers [] window = []
product_answers (t ∷ taps) [] = []
product_answers (t ∷ taps) (s ∷ window) = product_of t s ∷ product_answers taps window

-- whose words are "extended on the left to width 31",
abbrev pub extended_words : List RoundBitAnswer → List RoundBitWord
extended_words [] = []
extended_words (a ∷ more) = extended a.word ∷ extended_words more

-- the additions to a word, and the word that the last of them answers,
unfoldable pub sum_answers : RoundBitWord → List RoundBitWord → List RoundBitAnswer
sum_answers w [] = []
sum_answers w (p ∷ more) = sum_of w p ∷ sum_answers (sum_of w p).word more

abbrev pub last_word : RoundBitWord → List RoundBitAnswer → RoundBitWord
last_word w [] = w
last_word w (a ∷ more) = last_word a.word more

-- where the others are added to the first of them
abbrev pub additions : List RoundBitWord → List RoundBitAnswer
additions [] = []
additions (p ∷ more) = sum_answers p more

abbrev pub last_sum : List RoundBitWord → RoundBitWord
last_sum [] = total []
last_sum (p ∷ more) = last_word p (sum_answers p more)

-- each of them is done
abbrev pub AllDone : List RoundBitAnswer → Type 0
AllDone [] = record {}
AllDone (a ∷ more) = (a.outcome ≡ Done) × AllDone more

-- the exact sum of tap value times sample value. A value is in half units, so this is in quarters
-- of the products' unit
abbrev pub exact_sum : List RoundBitWord → List RoundBitWord → ℤ
exact_sum [] window = pos 0
exact_sum (t ∷ taps) [] = pos 0
exact_sum (t ∷ taps) (s ∷ window) =
    (round_bit_value t *ℤ round_bit_value s) +ℤ exact_sum taps window

-- half an output unit, in the same quarters
abbrev pub half_output_unit : ℕ
half_output_unit = 2 ^ suc cut_depth

module _ (taps window : List RoundBitWord) where
  abbrev pub summands : List RoundBitWord
  summands = extended_words (product_answers taps window)

  -- the last of the operations is the cut of the last sum
  abbrev pub last_cut : RoundBitCutAnswer
  last_cut = cut_of (last_sum summands) cut_depth

  -- the output's value less the exact sum, in quarters again
  abbrev pub error_of : ℤ
  error_of =
      (round_bit_value (output_word taps window) *ℤ pos half_output_unit) -ℤ exact_sum taps window

pub record Claims (taps window : List RoundBitWord) (channel : ℕ) : Type 0 where
  -- "Show that 8 never occurs inside it": every operation is done, among them seven additions,
  pub products_done : AllDone (product_answers taps window)
  pub seven : length (additions (summands taps window)) ≡ 7
  pub sums_done : AllDone (additions (summands taps window))
  pub cut_done : (last_cut taps window).outcome ≡ Done
  -- the answer is what the last of them hands out,
  pub chained : channel_output_of taps window channel
      ≡ output_answer (last_cut taps window).outcome (last_cut taps window).word
  -- and it passes its own check: its number fits its width
  pub fits : round_bit_check (output_word taps window) ≡ Done
  -- "cut by 11 to width 20", and the unit of the products is 2 ^ 11 times finer
  pub form : (output_word taps window).format ≡
      format 20 (products_unit taps window +ℤ pos cut_depth)
  -- the value is within half an output unit of the exact sum
  pub near : nat_abs (error_of taps window) ≤ half_output_unit
  -- "added from tap 0 up", or from tap 7 down: all are done, and the last answers the same word
  pub downward_done : AllDone (additions (reverse (summands taps window)))
  pub downward : last_sum (reverse (summands taps window)) ≡ last_sum (summands taps window)

-- all this of every bank, window and channel whose output is done
abbrev pub Claimed : Type 0
Claimed =
    (bank : List (List RoundBitWord)) (window : List RoundBitWord) (channel : ℕ) →
    length (row_of bank channel) ≡ 8 → length window ≡ 8 →
    (output_of bank window channel).outcome ≡ Done → Claims (row_of bank channel) window channel
