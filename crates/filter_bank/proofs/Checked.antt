-- The check of a channel as the code goes through it: 17, the row and the products' unit first, and the output's unit with the cut.
-- Assumes nothing.
-- Proved here: `taps_alone`, `row_passed`, `channel_refused`, `channel_cut`.
use Rattle.std.specs.Prelude.{Ok, Err}
use Prim.Native.Nat.{ℕ, ◌≤◌}
use mathlib.Core.Path.{◌≡◌, refl, sym, ap}
use mathlib.Core.Bool.{Bool, true, false, ◌||◌}
use mathlib.Core.List.{List}
use lib.Dec.{ltb}
use lib.IntN.{pos, ◌+ℤ◌}
use lib.ListN.{length}
use borrow.Author.Tests.{ltb-false}
use Rattle.words.specs.Words.{bad_unit}
use Rattle.words.specs.Refusals.{refuse, ◌or_else◌}
use Rattle.words.specs.Formats.{narrower_check}
use Rattle.words.specs.RoundBit.{round_bit_refused}
use Rattle.words.specs.declared.Cause.{Cause}
use Rattle.words.specs.declared.Cause.TheVariants.{UnitPast}
use Rattle.words.specs.Outcomes.{Outcome}
use Rattle.words.specs.Outcomes.{Done, Refused}
use Rattle.words.specs.Kinds.{RoundBitWord}
use Rattle.words.proofs.Laws.{refused_not_done, passed, three_passed, round_bit_passes}
use Rattle.round_bit.specs.Cuts.{cut_check, cut_of}
use Rattle.filter_bank.specs.Bank.{most_channel, cut_depth, products, total, output_word, products_unit, row_check}
use Rattle.filter_bank.specs.Bank.{output_answer, channel_output_of}
use Rattle.filter_bank.proofs.Laws.Passed.{row_passes, sum_good}

-- a third check that has one more cause refuses what it refused, for the same
more_causes : (o p : Outcome) (a b : Bool) (c : Cause) → (o or_else p or_else refuse 7 a) ≡ Refused c → (o or_else p or_else refuse 7 (a || b)) ≡ Refused c
more_causes (Err d) p a b c e = e
more_causes (Ok _) (Err d) a b c e = e
more_causes (Ok _) (Ok _) true b c e = e
more_causes (Ok _) (Ok _) false b c e = absurd (refused_not_done (sym e))

-- a channel over 3 is refused, whatever taps stand for its own
pub taps_alone : (taps other window : List RoundBitWord) (channel : ℕ) → (channel ≤ most_channel → taps ≡ other) →
    channel_output_of taps window channel ≡ channel_output_of other window channel
taps_alone taps other window channel h = told (ltb most_channel channel) refl
  where
    told : (b : Bool) → ltb most_channel channel ≡ b → channel_output_of taps window channel ≡ channel_output_of other window channel
    told true e = rw e
    told false e = ap (λ (ts : List RoundBitWord). channel_output_of ts window channel) (h (ltb-false most_channel channel e))

module _ (taps window : List RoundBitWord) (channel : ℕ) where
  -- what is checked before the sum is made
  abbrev pub first_check : Outcome
  first_check = refuse 17 (ltb most_channel channel) or_else row_check taps window or_else refuse 7 (bad_unit (products_unit taps window))

  pub row_passed : first_check ≡ Done → row_check taps window ≡ Done
  row_passed e = (three_passed (refuse 17 (ltb most_channel channel)) (row_check taps window) _ e).1

  pub channel_refused : (c : Cause) → first_check ≡ Refused c →
      output_answer (round_bit_refused c).outcome (round_bit_refused c).word ≡ channel_output_of taps window channel
  channel_refused c e =
      let u = products_unit taps window in
      rw (more_causes (refuse 17 (ltb most_channel channel)) (row_check taps window) (bad_unit u) (bad_unit (u +ℤ pos cut_depth)) c e)

  module _ (e : first_check ≡ Done) (h : length taps ≡ 8) (k : length window ≡ 8) where
    abbrev ps : List RoundBitWord
    ps = products taps window

    unit_good : bad_unit (products_unit taps window) ≡ false
    unit_good = passed UnitPast _ (three_passed (refuse 17 (ltb most_channel channel)) (row_check taps window) _ e).2

    cut_check_lem : cut_check (total ps) cut_depth ≡ refuse 7 (bad_unit (products_unit taps window +ℤ pos cut_depth))
    unfolding narrower_check
    cut_check_lem =
        let w = sum_good taps window (row_passes taps window (row_passed e) unit_good) h k in
        rw (round_bit_passes (total ps) w.right, w.same)

    pub channel_cut : output_answer (cut_of (total ps) cut_depth).outcome (cut_of (total ps) cut_depth).word ≡ channel_output_of taps window channel
    unfolding output_word
    channel_cut =
        let p = three_passed (refuse 17 (ltb most_channel channel)) (row_check taps window) _ e in
        rw (cut_check_lem, p.0, p.1, unit_good)
