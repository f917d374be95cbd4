-- Document 02, Ask 1, "Eight-tap boards": one channel's output. A bank is a list of rows of taps, a
-- window a list of samples. The code's types give a bank four rows, a row eight taps and a window
-- eight samples; of lists of other lengths nothing here is meant.
use Rattle.std.specs.Prelude.{ℕ, Bool, false, ◌||◌, List, [], ◌∷◌, ltb, get_or, ℤ, pos, ◌+ℤ◌}
use Rattle.words.specs.Outcomes.{Outcome}
use Rattle.words.specs.Outcomes.{Done}
use Rattle.words.specs.declared.Format.{Format}
use Rattle.words.specs.Kinds.{RoundBitWord}
use Rattle.words.specs.Words.{bad_unit}
use Rattle.words.specs.Refusals.{refuse, ◌or_else◌, differ}
use Rattle.words.specs.Formats.{format}
use Rattle.words.specs.RoundBit.{round_bit_word, round_bit_check, round_bit_done, ◌and_then◌}
use Rattle.round_bit.specs.Cuts.{cut_word}
use Rattle.round_bit.specs.Arithmetic.{sum_word, product_word}
use Rattle.words.specs.Kinds.{RoundBitCutAnswer}

-- "four rows": no "channel over 3"
abbrev pub most_channel : ℕ
most_channel = 3

-- "round-bit taps of width 12", "round-bit samples of width 16"
abbrev pub tap_width : ℕ
tap_width = 12

abbrev pub sample_width : ℕ
sample_width = 16

-- "extended on the left to width 31"
abbrev pub sum_width : ℕ
sum_width = 31

-- "then cut by 11"
abbrev pub cut_depth : ℕ
cut_depth = 11

-- the word at a place; past the end, where nothing is read, it would be nothing
abbrev pub nothing : RoundBitWord
nothing = round_bit_word (pos 0) 0 (format 0 (pos 0))

abbrev pub word_at : List RoundBitWord → ℕ → RoundBitWord
word_at ws i = get_or ws i nothing

-- the taps of a channel
abbrev pub row_of : List (List RoundBitWord) → ℕ → List RoundBitWord
row_of bank channel = get_or bank channel []

-- "with the numbers extended on the left": the same number and round bit in the wider format
abbrev pub extended : RoundBitWord → RoundBitWord
extended w = record { number = w.number; format = format sum_width w.format.unit }

-- "the product of each tap with its sample", extended
abbrev pub products : List RoundBitWord → List RoundBitWord → List RoundBitWord
products [] window = []
products (t ∷ taps) [] = []
products (t ∷ taps) (s ∷ window) = extended (product_word t s) ∷ products taps window

-- "added from tap 0 up": to a word the others, one by one
unfoldable pub added_to : RoundBitWord → List RoundBitWord → RoundBitWord
added_to w [] = w
added_to w (p ∷ more) = added_to (sum_word w p) more

-- to the first of them the others; the sum of none is (0,0)
abbrev pub total : List RoundBitWord → RoundBitWord
total [] = round_bit_word (pos 0) 0 (format sum_width (pos 0))
total (p ∷ more) = added_to p more

-- "one channel's output": the round-bit cut of the sum, "to width 20". That no sum leaves width 31
-- and no output width 20 is claimed in specs/Claims.antt
unfoldable pub output_word : List RoundBitWord → List RoundBitWord → RoundBitWord
output_word taps window = cut_word (total (products taps window)) cut_depth

-- "1, 2, 3 for that channel's taps in order", and so "for the samples"
unfoldable pub words_check : List RoundBitWord → Outcome
words_check [] = Done
words_check (w ∷ more) = round_bit_check w or_else words_check more

-- "The taps of a channel share a unit, and all samples share a unit": the first one's
abbrev pub unit_of : List RoundBitWord → ℤ
unit_of [] = pos 0
unit_of (w ∷ more) = w.format.unit

-- does any word have another format?
unfoldable pub any_differ : Format → List RoundBitWord → Bool
any_differ f [] = false
any_differ f (w ∷ more) = differ w.format f || any_differ f more

-- "unlike units or any other width" than n
abbrev pub unlike : ℕ → List RoundBitWord → Bool
unlike n ws = any_differ (format n (unit_of ws)) ws

-- "the unit of the products"
abbrev pub products_unit : List RoundBitWord → List RoundBitWord → ℤ
products_unit taps window = unit_of taps +ℤ unit_of window

-- "1, 2, 3 for that channel's taps in order, then for the samples, then 4"
abbrev pub row_check : List RoundBitWord → List RoundBitWord → Outcome
row_check taps window =
    words_check taps or_else words_check window
    or_else refuse 4 (unlike tap_width taps || unlike sample_width window)

-- "then 7 if the unit of the products or of the output leaves its range"
abbrev pub unit_check : List RoundBitWord → List RoundBitWord → Outcome
unit_check taps window =
    refuse 7
    (bad_unit (products_unit taps window) || bad_unit (products_unit taps window +ℤ pos cut_depth))

-- "17 for a channel over 3, before all others"
abbrev pub channel_check : List RoundBitWord → List RoundBitWord → ℕ → Outcome
channel_check taps window channel =
    refuse 17 (ltb most_channel channel) or_else row_check taps window
    or_else unit_check taps window

-- the answer of an output has what any answer has
abbrev pub output_answer : Outcome → RoundBitWord → RoundBitCutAnswer
output_answer o w = record { outcome = o; word = w }

-- the output of a channel that has these taps
abbrev pub channel_output_of : List RoundBitWord → List RoundBitWord → ℕ → RoundBitCutAnswer
channel_output_of taps window channel =
    let a = channel_check taps window channel and_then round_bit_done (output_word taps window) in
    output_answer a.outcome a.word

-- "The other channels' taps are not looked at."
abbrev pub output_of : List (List RoundBitWord) → List RoundBitWord → ℕ → RoundBitCutAnswer
output_of bank window channel = channel_output_of (row_of bank channel) window channel
