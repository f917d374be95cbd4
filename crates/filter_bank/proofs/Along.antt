-- One turn of each loop along a row, and its end. Assumes nothing.
-- Proved here: `check_refused`, `check_passed`, `products_turn`, `row_end`, `check_end`.
use Prim.Native.Nat.{ℕ, ◌+◌, ◌<◌}
use native.Mathlib.Numerals.{add-one}
use native.Mathlib.Omega.{arith}
use mathlib.Core.Path.{◌≡◌, ◌∙◌}
use mathlib.Core.List.{List, [], ◌∷◌}
use lib.ListN.{length, drop, drop_of_length-le}
use lib.Seq.{drop-cons}
use Rattle.words.specs.Refusals.{◌or_else◌}
use Rattle.words.specs.RoundBit.{round_bit_check}
use Rattle.words.specs.declared.Cause.{Cause}
use Rattle.words.specs.Outcomes.{Outcome}
use Rattle.words.specs.Outcomes.{Done, Refused}
use Rattle.words.specs.Kinds.{RoundBitWord}
use Rattle.round_bit.specs.Arithmetic.{product_word}
use Rattle.filter_bank.specs.Bank.{extended, nothing, word_at, products, words_check}

-- the words from place i on are the one there and those behind it
row_left : (ws : List RoundBitWord) (i : ℕ) → i < length ws → drop i ws ≡ word_at ws i ∷ drop (i + 1) ws
row_left ws i h = rw (add-one, drop-cons ws i nothing h)

-- o is what the check of the word there gave
module _ (ws : List RoundBitWord) (i : ℕ) (o : Outcome) (e : o ≡ round_bit_check (word_at ws i)) (h : i < length ws) where
  check_turn : words_check (drop i ws) ≡ (o or_else words_check (drop (i + 1) ws))
  unfolding words_check
  check_turn = rw (row_left ws i h, e)

  pub check_refused : (c : Cause) → o ≡ Refused c → words_check (drop i ws) ≡ Refused c
  check_refused c f = check_turn ∙ rw f

  pub check_passed : o ≡ Done → words_check (drop i ws) ≡ words_check (drop (i + 1) ws)
  check_passed f = check_turn ∙ rw f

pub products_turn : (ts ss : List RoundBitWord) (i : ℕ) → i < length ts → i < length ss →
    products (drop i ts) (drop i ss) ≡ extended (product_word (word_at ts i) (word_at ss i)) ∷ products (drop (i + 1) ts) (drop (i + 1) ss)
products_turn ts ss i h k = rw (row_left ts i h, row_left ss i k)

pub row_end : (ws : List RoundBitWord) (i n : ℕ) → length ws ≡ n → (i < n → ⊥) → drop i ws ≡ []
row_end ws i n e h = drop_of_length-le ws {i = i} (omega arith)

pub check_end : (ws : List RoundBitWord) (i n : ℕ) → length ws ≡ n → (i < n → ⊥) → words_check (drop i ws) ≡ Done
unfolding words_check
check_end ws i n e h = rw (row_end ws i n e h)
