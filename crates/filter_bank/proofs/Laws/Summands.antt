-- The products of good taps and good samples: each is done, exact, and small for the width in which they are added. Assumes nothing.
-- Proved here: `products_count`, `done`, `meant`, `within`, `added`, `exact`, `all_multiplied`.
use Prim.Native.Nat.{suc, ◌-◌, ◌^◌, ◌≤◌, ◌<◌}
use native.Mathlib.Omega.{arith}
use native.Mathlib.Nat.{lt_of_lt_of_le}
use mathlib.Core.Path.{◌≡◌, refl, sym, ap}
use mathlib.Core.List.{List, [], ◌∷◌}
use lib.ListN.{length}
use lib.Pow.{pow_mono}
use lib.IntN.{pos, ◌+ℤ◌, ◌*ℤ◌, +ℤ_idr, +ℤ_assoc}
use lib.Signed.{mag}
use Rattle.integers.proofs.Times.{times_plus}
use Rattle.words.specs.Words.{value}
use Rattle.words.specs.Formats.{format, units_multiplied}
use Rattle.words.specs.RoundBit.{round_bit_value}
use Rattle.words.specs.declared.Format.{Format}
use Rattle.words.specs.Kinds.{RoundBitWord}
use Rattle.words.proofs.Laws.{RightFormat, round_bit_right}
use Rattle.round_bit.specs.Arithmetic.{sum_word, product_format, product_word}
use Rattle.round_bit.proofs.Laws.SumWords.{sum_word_value}
use Rattle.round_bit.proofs.Laws.Products.{Factors, product_is_word, product_word_right, product_value}
use Rattle.filter_bank.specs.Bank.{sum_width, extended, products, added_to, total}
use Rattle.filter_bank.specs.Claims.{product_answers, extended_words, AllDone, exact_sum}
use Rattle.filter_bank.proofs.Rows.{Good, AllGood}
use Rattle.filter_bank.proofs.Laws.Room.{Within, AllWithin}

-- eight taps and eight samples have eight products, and so of any count
pub products_count : (taps window : List RoundBitWord) → length window ≡ length taps → length (products taps window) ≡ length taps
products_count [] window e = refl
products_count (t ∷ taps) [] e = absurd (omega arith)
products_count (t ∷ taps) (s ∷ window) e = ap suc (products_count taps window (omega arith))

-- the products of taps of the format f and samples of the format g: each is done and is what is meant, each is small for the wider
-- format, where it is right as well, and twice the value of their sum is the exact sum, also when they are added to another word
pub record Multiplied (f g : Format) (taps window : List RoundBitWord) : Type 0 where
  pub done : AllDone (product_answers taps window)
  pub meant : extended_words (product_answers taps window) ≡ products taps window
  pub within : AllWithin (format sum_width (units_multiplied f g)) (2 ^ ((product_format f g).width - 1)) (products taps window)
  pub added : (w : RoundBitWord) →
      pos 2 *ℤ round_bit_value (added_to w (products taps window)) ≡ (pos 2 *ℤ round_bit_value w) +ℤ exact_sum taps window
  pub exact : pos 2 *ℤ round_bit_value (total (products taps window)) ≡ exact_sum taps window

-- where the format of the products is right and no wider than that of the sums: of one product
module _ (f g : Format) (right : RightFormat (product_format f g)) (less : (product_format f g).width ≤ sum_width) where
  factors : (t s : RoundBitWord) → Good f t → Good g s → Factors t s
  factors t s p q = record { first = p.right; second = q.right; format = rw (p.same, q.same) right }

  product_within : (t s : RoundBitWord) → Good f t → Good g s →
      Within (format sum_width (units_multiplied f g)) (2 ^ ((product_format f g).width - 1)) (extended (product_word t s))
  unfolding product_word
  product_within t s p q =
      let r = round_bit_right (product_word t s) (product_word_right t s (factors t s p q)) in
      let size : mag (product_word t s).number.0 < 2 ^ ((product_format f g).width - 1) = rw (p.same, q.same) at r.size in
      let fits = lt_of_lt_of_le size (pow_mono {i = (product_format f g).width - 1} {j = sum_width - 1} (omega (arith, less))) in
      let wide : RightFormat (extended (product_word t s)).format =
      record { narrow = omega arith; wide = omega arith; fine = r.format.fine; coarse = r.format.coarse } in
      record { good = record { right = record { format = wide; size = fits; bit = r.bit }; same = rw (p.same, q.same) }; size = size }

  product_exact : (t s : RoundBitWord) → Good f t → Good g s → pos 2 *ℤ round_bit_value (extended (product_word t s)) ≡ round_bit_value t *ℤ round_bit_value s
  product_exact t s p q = let e = product_is_word t s (factors t s p q) in rw e at (product_value t s (rw e))

  -- and of all
  pub all_multiplied : (taps window : List RoundBitWord) → AllGood f taps → AllGood g window → Multiplied f g taps window
  unfolding added_to value
  all_multiplied [] window p q =
      record { done = record {}; meant = refl; within = record {}; added = (λ w. sym (+ℤ_idr (pos 2 *ℤ round_bit_value w))); exact = refl }
  all_multiplied (t ∷ taps) [] p q =
      record { done = record {}; meant = refl; within = record {}; added = (λ w. sym (+ℤ_idr (pos 2 *ℤ round_bit_value w))); exact = refl }
  all_multiplied (t ∷ taps) (s ∷ window) p q =
      let m = all_multiplied taps window p.1 q.1 in
      let e = product_is_word t s (factors t s p.0 q.0) in
      let x = extended (product_word t s) in
      let v = round_bit_value t *ℤ round_bit_value s in
      let twice = product_exact t s p.0 q.0 in
      record {
        done = (rw e, m.done);
        meant = rw (e, m.meant);
        within = (product_within t s p.0 q.0, m.within);
        added = λ w.
            rw (m.added (sum_word w x), sum_word_value w x, times_plus (pos 2) (round_bit_value w) (round_bit_value x), twice)
            (+ℤ_assoc (pos 2 *ℤ round_bit_value w) v (exact_sum taps window));
        exact = rw (m.added x, twice);
      }
