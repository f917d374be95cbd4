-- The output of one channel of a bank: what is claimed of it holds, its word is right, and the other channels' taps do not matter. Assumes nothing.
-- Proved here: `claimed`, `output_closed`, `row_alone`.
use Prim.Native.Nat.{ℕ, ◌≤◌}
use mathlib.Core.Path.{◌≡◌}
use mathlib.Core.List.{List}
use lib.ListN.{length}
use Rattle.words.specs.RoundBit.{round_bit_check}
use Rattle.words.specs.Outcomes.{Done}
use Rattle.words.specs.Kinds.{RoundBitWord}
use Rattle.round_bit.proofs.Checks.{word_done}
use Rattle.filter_bank.specs.Bank.{most_channel, row_of, output_word, channel_check, output_of}
use Rattle.filter_bank.specs.Claims.{Claimed}
use Rattle.filter_bank.proofs.Checked.{taps_alone}
use Rattle.filter_bank.proofs.Laws.Claimed.{channel_closed, channel_claims}

-- a done output passed its check and has the word that is meant
passed : (bank : List (List RoundBitWord)) (window : List RoundBitWord) (channel : ℕ) → (output_of bank window channel).outcome ≡ Done →
    (channel_check (row_of bank channel) window channel ≡ Done) × ((output_of bank window channel).word ≡ output_word (row_of bank channel) window)
passed bank window channel e = word_done (channel_check (row_of bank channel) window channel) (output_word (row_of bank channel) window) e

pub claimed : Claimed
claimed bank window channel h k e = channel_claims (row_of bank channel) window channel (passed bank window channel e).0 h k

-- ---- closed: the word of a done answer passes its own check
pub output_closed : (bank : List (List RoundBitWord)) (window : List RoundBitWord) (channel : ℕ) → length (row_of bank channel) ≡ 8 → length window ≡ 8 →
    (output_of bank window channel).outcome ≡ Done → round_bit_check (output_of bank window channel).word ≡ Done
output_closed bank window channel h k e =
    let p = passed bank window channel e in
    rw p.1 (channel_closed (row_of bank channel) window channel p.0 h k)

-- ---- two banks that agree in the channel's row give one answer; for a channel over 3 no row is looked at
pub row_alone : (bank other : List (List RoundBitWord)) (window : List RoundBitWord) (channel : ℕ) →
    (channel ≤ most_channel → row_of bank channel ≡ row_of other channel) → output_of bank window channel ≡ output_of other window channel
row_alone bank other window channel h = taps_alone (row_of bank channel) (row_of other channel) window channel h
