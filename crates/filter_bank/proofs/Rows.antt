-- What the check of a row tells of every tap and every sample. Assumes nothing.
-- Proved here: `right`, `same`, `row_tells`, `good_at`, `first_unit`.
use Prim.Native.Nat.{ℕ, zero, suc, ◌<◌}
use native.Mathlib.Omega.{arith}
use mathlib.Core.Path.{◌≡◌, refl}
use mathlib.Core.Bool.{false}
use mathlib.Core.List.{List, [], ◌∷◌}
use lib.ListN.{length}
use Rattle.words.specs.Refusals.{differ}
use Rattle.words.specs.Formats.{format}
use Rattle.words.specs.RoundBit.{round_bit_check}
use Rattle.words.specs.declared.Cause.TheVariants.{Mismatch}
use Rattle.words.specs.Outcomes.{Done}
use Rattle.words.specs.declared.Format.{Format}
use Rattle.words.specs.Kinds.{RoundBitWord}
use Rattle.words.proofs.Laws.{passed, both_passed, three_passed, or-false, RightRoundBit, round_bit_right}
use Rattle.words.proofs.Operands.{same_format}
use Rattle.filter_bank.specs.Bank.{tap_width, sample_width, words_check, unit_of, any_differ, unlike, row_check, word_at}

-- a word that is right and has this format
pub record Good (f : Format) (w : RoundBitWord) : Type 0 where
  pub right : RightRoundBit w
  pub same : w.format ≡ f

abbrev pub AllGood : Format → List RoundBitWord → Type 0
AllGood f [] = record {}
AllGood f (w ∷ more) = Good f w × AllGood f more

all_good : (f : Format) (ws : List RoundBitWord) → words_check ws ≡ Done → any_differ f ws ≡ false → AllGood f ws
unfolding words_check any_differ
all_good f [] c d = record {}
all_good f (w ∷ more) c d =
    let p = both_passed (round_bit_check w) (words_check more) c in
    let q = or-false (differ w.format f) (any_differ f more) d in
    (record { right = round_bit_right w p.0; same = same_format w.format f q.0 }, all_good f more p.1 q.1)

pub row_tells : (taps window : List RoundBitWord) → row_check taps window ≡ Done →
    AllGood (format tap_width (unit_of taps)) taps × AllGood (format sample_width (unit_of window)) window
row_tells taps window e =
    let p = three_passed (words_check taps) (words_check window) _ e in
    let q = or-false (unlike tap_width taps) (unlike sample_width window) (passed Mismatch _ p.2) in
    (all_good _ taps p.0 q.0, all_good _ window p.1 q.1)

pub good_at : (f : Format) (ws : List RoundBitWord) (i : ℕ) → AllGood f ws → i < length ws → Good f (word_at ws i)
good_at f [] i g h = absurd (omega arith)
good_at f (w ∷ more) zero g h = g.0
good_at f (w ∷ more) (suc i) g h = good_at f more i g.1 (omega arith)

-- the unit that the code takes is the one that the words share
pub first_unit : (ws : List RoundBitWord) → (word_at ws 0).format.unit ≡ unit_of ws
first_unit [] = refl
first_unit (w ∷ more) = refl
