-- What the check of a row and the products' unit tell: of every tap and sample, and of the formats of products and sums. Then the eight
-- products are done, small and exact, and add up. Assumes nothing.
-- Proved here: `taps_good`, `samples_good`, `products_right`, `row_passes`, `made`, `eight`, `sums`, `sums_down`, `sum_good`.
use Prim.Native.Nat.{◌*◌, ◌^◌}
use native.Mathlib.Omega.{arith}
use mathlib.Core.Path.{◌≡◌, refl, sym, ◌∙◌}
use mathlib.Core.Bool.{false}
use mathlib.Core.List.{List, [], reverse}
use lib.ListN.{length, length-reverse}
use Rattle.words.specs.Words.{bad_unit}
use Rattle.words.specs.Formats.{format, answer_check}
use Rattle.words.specs.Outcomes.{Done}
use Rattle.words.specs.declared.Format.{Format}
use Rattle.words.specs.Kinds.{RoundBitWord}
use Rattle.words.proofs.Laws.{RightFormat}
use Rattle.words.proofs.Formats.{answer_right}
use Rattle.round_bit.specs.Arithmetic.{product_format}
use Rattle.filter_bank.specs.Bank.{tap_width, sample_width, sum_width, products, total, unit_of, products_unit, row_check}
use Rattle.filter_bank.proofs.Rows.{Good, AllGood, row_tells}
use Rattle.filter_bank.proofs.Laws.Room.{AddUp, within_turned, enough_room}
use Rattle.filter_bank.proofs.Laws.Summands.{Multiplied, products_count, all_multiplied}

-- the format of all taps of a channel, of all samples, and of the sums
abbrev pub tap_format : List RoundBitWord → Format
tap_format taps = format tap_width (unit_of taps)

abbrev pub sample_format : List RoundBitWord → Format
sample_format window = format sample_width (unit_of window)

abbrev pub sum_format : List RoundBitWord → List RoundBitWord → Format
sum_format taps window = format sum_width (products_unit taps window)

pub record Passed (taps window : List RoundBitWord) : Type 0 where
  pub taps_good : AllGood (tap_format taps) taps
  pub samples_good : AllGood (sample_format window) window
  pub products_right : RightFormat (product_format (tap_format taps) (sample_format window))

pub row_passes : (taps window : List RoundBitWord) → row_check taps window ≡ Done → bad_unit (products_unit taps window) ≡ false → Passed taps window
unfolding answer_check
row_passes taps window e u =
    let good = row_tells taps window e in
    let f = product_format (tap_format taps) (sample_format window) in
    record { taps_good = good.0; samples_good = good.1; products_right = answer_right f (omega arith) (rw u) }

module _ (taps window : List RoundBitWord) (p : Passed taps window) where
  pub made : Multiplied (tap_format taps) (sample_format window) taps window
  made = all_multiplied (tap_format taps) (sample_format window) p.products_right (omega arith) taps window p.taps_good p.samples_good

  module _ (h : length taps ≡ 8) (k : length window ≡ 8) where
    abbrev ps : List RoundBitWord
    ps = products taps window

    pub eight : length ps ≡ 8
    eight = products_count taps window (k ∙ sym h) ∙ h

    -- eight numbers of 27 digits have room in 27 + 4, from the first up and from the last down
    pub sums : AddUp (sum_format taps window) (length ps * 2 ^ 26) ps
    sums = enough_room (sum_format taps window) 26 4 ps refl made.within (omega (arith, eight)) (omega (arith, eight))

    pub sums_down : AddUp (sum_format taps window) (length (reverse ps) * 2 ^ 26) (reverse ps)
    sums_down =
        let count = length-reverse ps ∙ eight in
        let turned = within_turned (sum_format taps window) (2 ^ 26) ps [] made.within (record {}) in
        enough_room (sum_format taps window) 26 4 (reverse ps) refl turned (omega (arith, count)) (omega (arith, count))

    -- so their sum is right
    pub sum_good : Good (sum_format taps window) (total ps)
    sum_good = sums.within.good
