-- What specs/Claims.antt claims of one channel's output holds. Assumes nothing.
-- Proved here: `channel_closed`, `channel_claims`.
use Prim.Native.Nat.{ℕ, suc, ◌-◌, ◌^◌, ◌≤◌}
use native.Mathlib.Omega.{arith}
use mathlib.Core.Path.{◌≡◌, refl, sym, ap, ◌∙◌}
use mathlib.Core.Bool.{false}
use mathlib.Core.List.{List, [], ◌∷◌, reverse}
use lib.Dec.{ltb}
use lib.IntN.{pos, nat_abs, ◌+ℤ◌}
use lib.ListN.{length}
use Rattle.integers.proofs.Times.{near_twice}
use Rattle.words.specs.Words.{bad_unit}
use Rattle.words.specs.Refusals.{refuse}
use Rattle.words.specs.Formats.{format, narrower_check}
use Rattle.words.specs.RoundBit.{round_bit_value, round_bit_check, round_bit_done}
use Rattle.words.specs.declared.Cause.TheVariants.{UnitPast}
use Rattle.words.specs.Outcomes.{Done}
use Rattle.words.specs.Kinds.{RoundBitWord}
use Rattle.words.proofs.Laws.{passed, three_passed, or-false}
use Rattle.words.specs.Kinds.{RoundBitCutAnswer}
use Rattle.words.specs.Answers.{cut_answer}
use Rattle.round_bit.specs.Cuts.{cut_check}
use Rattle.round_bit.specs.Arithmetic.{sum_of}
use Rattle.round_bit.proofs.Laws.Cuts.{cut_passes, cut_closed, cut_value, cut_format}
use Rattle.filter_bank.specs.Bank.{most_channel, cut_depth, products, total, output_word, products_unit, row_check, unit_check, channel_check}
use Rattle.filter_bank.specs.Bank.{output_answer}
use Rattle.filter_bank.specs.Claims.{product_answers, extended_words, sum_answers, additions, exact_sum, error_of, last_cut, Claims}
use Rattle.filter_bank.proofs.Rows.{Good}
use Rattle.filter_bank.proofs.Laws.Passed.{sum_format, Passed, row_passes, made, eight, sums, sums_down, sum_good}
use Rattle.filter_bank.proofs.Laws.Room.{within_good}
use Rattle.filter_bank.proofs.Laws.Downward.{total_downward}

-- an addition for each word that is added
sum_answers_count : (w : RoundBitWord) (ps : List RoundBitWord) → length (sum_answers w ps) ≡ length ps
unfolding sum_answers
sum_answers_count w [] = refl
sum_answers_count w (p ∷ more) = ap suc (sum_answers_count (sum_of w p).word more)

additions_count : (ps : List RoundBitWord) → length (additions ps) ≡ length ps - 1
additions_count [] = refl
additions_count (p ∷ more) = sum_answers_count p more ∙ omega arith

module _ (taps window : List RoundBitWord) (channel : ℕ) (e : channel_check taps window channel ≡ Done) (h : length taps ≡ 8) (k : length window ≡ 8) where
  abbrev ps : List RoundBitWord
  ps = products taps window

  units : (bad_unit (products_unit taps window) ≡ false) × (bad_unit (products_unit taps window +ℤ pos cut_depth) ≡ false)
  units =
      let p = three_passed (refuse 17 (ltb most_channel channel)) (row_check taps window) (unit_check taps window) e in
      or-false (bad_unit (products_unit taps window)) (bad_unit (products_unit taps window +ℤ pos cut_depth)) (passed UnitPast _ p.2)

  told : Passed taps window
  told = row_passes taps window (three_passed (refuse 17 (ltb most_channel channel)) (row_check taps window) (unit_check taps window) e).1 units.0

  meant : extended_words (product_answers taps window) ≡ ps
  meant = (made taps window told).meant

  good : Good (sum_format taps window) (total ps)
  good = sum_good taps window told h k

  narrows : narrower_check (sum_format taps window) cut_depth ≡ Done
  unfolding narrower_check
  narrows = rw units.1

  cut_passed : cut_check (total ps) cut_depth ≡ Done
  cut_passed = cut_passes (total ps) cut_depth good.right (rw good.same narrows)

  -- what the last operation answers is the output
  last_cut_is : last_cut taps window ≡ cut_answer (round_bit_done (output_word taps window))
  unfolding output_word
  last_cut_is = rw (meant, (sums taps window told h k).last, cut_passed)

  -- closed: the output passes its own check
  pub channel_closed : round_bit_check (output_word taps window) ≡ Done
  unfolding output_word
  channel_closed = rw cut_passed at (cut_closed (total ps) cut_depth (rw cut_passed))

  form : (output_word taps window).format ≡ format 20 (products_unit taps window +ℤ pos cut_depth)
  unfolding output_word
  form = rw (cut_format (total ps) cut_depth, good.same)

  near : nat_abs (error_of taps window) ≤ 2 ^ suc cut_depth
  unfolding output_word
  near =
      near_twice (round_bit_value (output_word taps window)) (round_bit_value (total ps)) (exact_sum taps window) (2 ^ cut_depth) (made taps window told).exact
      (rw cut_passed at (cut_value (total ps) cut_depth (rw cut_passed)))

  downward : total (reverse ps) ≡ total ps
  downward = total_downward (sum_format taps window) ps (within_good (sum_format taps window) (2 ^ 26) ps (made taps window told).within)

  pub channel_claims : Claims taps window channel
  channel_claims =
      record {
        products_done = (made taps window told).done;
        seven = rw meant (additions_count ps ∙ rw (eight taps window told h k));
        sums_done = rw meant (sums taps window told h k).done;
        cut_done = ap (λ (a : RoundBitCutAnswer). a.outcome) last_cut_is;
        chained = rw e (ap (λ (a : RoundBitCutAnswer). output_answer a.outcome a.word) (sym last_cut_is));
        fits = channel_closed;
        form = form;
        near = near;
        downward_done = rw meant (sums_down taps window told h k).done;
        downward = rw meant ((sums_down taps window told h k).last ∙ downward ∙ sym (sums taps window told h k).last);
      }
