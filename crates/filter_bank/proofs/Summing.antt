-- The loop that adds the products of a row: what it has when it starts, what a turn does, and what it has at the end. Assumes nothing.
-- Proved here: `size`, `bit`, `left`, `tap_small`, `sample_small`, `tap_bit`, `sample_bit`, `times_small`, `first_kept`, `next_kept`, `all_kept`,
-- `added_format`, `total_format`.
use Prim.Native.Nat.{ℕ, ◌+◌, ◌-◌, ◌*◌, ◌^◌, ◌≤◌, ◌<◌}
use native.Mathlib.Omega.{arith}
use mathlib.Core.Path.{◌≡◌, refl}
use mathlib.Core.List.{List, [], ◌∷◌}
use lib.IntN.{◌+ℤ◌}
use lib.Signed.{mag}
use lib.ListN.{length, drop}
use Rattle.words.specs.Formats.{format}
use Rattle.words.specs.Outcomes.{Done}
use Rattle.words.specs.declared.Format.{Format}
use Rattle.words.specs.declared.RoundBit.{RoundBit}
use Rattle.words.specs.Kinds.{RoundBitWord}
use Rattle.round_bit.specs.Arithmetic.{added, sum_word, multiplied, product_word}
use Rattle.round_bit.proofs.Laws.Added.{added_bit, added_size}
use Rattle.round_bit.proofs.Laws.Multiplied.{multiplied_bit, multiplied_size}
use Rattle.filter_bank.specs.Bank.{sum_width, word_at, extended, products, added_to, total, products_unit, row_check}
use Rattle.filter_bank.proofs.Rows.{AllGood, row_tells, good_at}
use Rattle.filter_bank.proofs.Along.{products_turn, row_end}

-- a number of n digits and a sign, with a right round bit
pub record Small (n : ℕ) (m : RoundBit) : Type 0 where
  pub size : mag m.0 < 2 ^ n
  pub bit : m.1 ≤ 1

-- so are the numbers of good words, each with a digit fewer than its width
good_small : (f : Format) (ws : List RoundBitWord) (i : ℕ) → AllGood f ws → i < length ws → Small (f.width - 1) (word_at ws i).number
good_small f ws i a h = let g = good_at f ws i a h in record { size = rw g.same at g.right.size; bit = g.right.bit }

module _ (ts ss : List RoundBitWord) (check : row_check ts ss ≡ Done) (i : ℕ) where
  pub tap_small : i < length ts → Small 11 (word_at ts i).number
  tap_small = good_small _ ts i (row_tells ts ss check).0

  pub sample_small : i < length ss → Small 15 (word_at ss i).number
  sample_small = good_small _ ss i (row_tells ts ss check).1

  pub tap_bit : i < length ts → (word_at ts i).number.1 ≤ 1
  tap_bit h = (tap_small h).bit

  pub sample_bit : i < length ss → (word_at ss i).number.1 ≤ 1
  sample_bit h = (sample_small h).bit

product_small : (m n : RoundBit) → Small 11 m → Small 15 n → Small 26 (multiplied m n)
product_small m n s t = record { size = multiplied_size m n 11 15 s.size t.size s.bit t.bit; bit = multiplied_bit m n s.bit }

module _ (ts ss : List RoundBitWord) where
  -- a number as the sum of this row
  abbrev in_sum : RoundBit → RoundBitWord
  in_sum m = record { number = m; format = format sum_width ((word_at ts 0).format.unit +ℤ (word_at ss 0).format.unit) }

  -- of i products: their sum is small, and with the others it is the total
  pub record Kept (i : ℕ) (sum : RoundBit) : Type 0 where
    pub size : mag sum.0 < i * 2 ^ 26
    pub bit : sum.1 ≤ 1
    pub left : total (products ts ss) ≡ added_to (in_sum sum) (products (drop i ts) (drop i ss))

  module _ (check : row_check ts ss ≡ Done) (e : length ts ≡ 8) (f : length ss ≡ 8) where
    pub times_small : (i : ℕ) → i < 8 → Small 26 (multiplied (word_at ts i).number (word_at ss i).number)
    times_small i h =
        product_small (word_at ts i).number (word_at ss i).number (tap_small ts ss check i (omega (arith, e))) (sample_small ts ss check i (omega (arith, f)))

    pub first_kept : Kept 1 (multiplied (word_at ts 0).number (word_at ss 0).number)
    unfolding product_word
    first_kept =
        let p = times_small 0 (omega arith) in
        record { size = omega (arith, p.size); bit = p.bit; left = rw (products_turn ts ss 0 (omega (arith, e)) (omega (arith, f))) }

    pub next_kept : (i : ℕ) (sum : RoundBit) → i < 8 → Kept i sum → Kept (i + 1) (added sum (multiplied (word_at ts i).number (word_at ss i).number))
    unfolding added_to sum_word product_word
    next_kept i sum h k =
        let m = multiplied (word_at ts i).number (word_at ss i).number in
        let p = times_small i h in
        record {
          size = omega (arith, added_size sum m (i * 2 ^ 26) (2 ^ 26) k.size p.size k.bit);
          bit = added_bit sum m k.bit p.bit;
          left = rw (k.left, products_turn ts ss i (omega (arith, e)) (omega (arith, f)));
        }

    pub all_kept : (i : ℕ) (sum : RoundBit) → (i < 8 → ⊥) → Kept i sum → (total (products ts ss)).number ≡ sum
    unfolding added_to
    all_kept i sum h k = rw (k.left, row_end ts i 8 e h)

-- the sum has the format of its first word, whatever comes to it
pub added_format : (w : RoundBitWord) (ps : List RoundBitWord) → (added_to w ps).format ≡ w.format
unfolding added_to sum_word
added_format w [] = refl
added_format w (p ∷ more) = added_format (sum_word w p) more

pub total_format : (ts ss : List RoundBitWord) → 0 < length ts → 0 < length ss → (total (products ts ss)).format ≡ format sum_width (products_unit ts ss)
unfolding product_word
total_format [] ss h k = absurd (omega arith)
total_format (t ∷ ts) [] h k = absurd (omega arith)
total_format (t ∷ ts) (s ∷ ss) h k = added_format (extended (product_word t s)) (products ts ss)
