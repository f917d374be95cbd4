-- Words of one format added from the last one down: the digits and the round bit are those of the sum from the first one up. Assumes nothing.
-- Proved here: `total_downward`.
use Prim.Native.Nat.{◌≤◌}
use mathlib.Core.Path.{◌≡◌, refl, sym, ap, ◌∙◌}
use mathlib.Core.List.{List, [], ◌∷◌, reverse, reverse_aux}
use Rattle.words.specs.declared.Format.{Format}
use Rattle.words.specs.Kinds.{RoundBitWord}
use Rattle.round_bit.specs.Arithmetic.{sum_word}
use Rattle.round_bit.proofs.Laws.SumWords.{sum_word_bit, sum_word_comm, sum_word_assoc}
use Rattle.filter_bank.specs.Bank.{added_to, total}
use Rattle.filter_bank.proofs.Rows.{AllGood}
use Rattle.filter_bank.proofs.Summing.{added_format}

module _ (f : Format) where
  -- a word in front of others is added to their sum
  added_front : (x y : RoundBitWord) (ps : List RoundBitWord) → x.number.1 ≤ 1 → y.number.1 ≤ 1 → AllGood f ps →
      added_to (sum_word x y) ps ≡ sum_word x (added_to y ps)
  unfolding added_to
  added_front x y [] g h k = refl
  added_front x y (p ∷ more) g h k =
      let b = k.0.right.bit in
      rw (sum_word_assoc x y p g h b) (added_front x (sum_word y p) more g (sum_word_bit y p h b) k.1)

  -- the words of ps, turned round and put in front of r and rs, are added as if they came behind
  turned_front : (r : RoundBitWord) (rs ps : List RoundBitWord) → AllGood f (r ∷ rs) → AllGood f ps →
      total (reverse_aux ps (r ∷ rs)) ≡ added_to (added_to r rs) ps
  unfolding added_to
  turned_front r rs [] g h = refl
  turned_front r rs (p ∷ more) g h =
      let front = added_front p r rs h.0.right.bit g.0.right.bit g.1 in
      let same = h.0.same ∙ sym g.0.same ∙ sym (added_format r rs) in
      turned_front p (r ∷ rs) more (h.0, g) h.1
      ∙ ap (λ (w : RoundBitWord). added_to w more) (front ∙ sum_word_comm p (added_to r rs) same)

  pub total_downward : (ps : List RoundBitWord) → AllGood f ps → total (reverse ps) ≡ total ps
  unfolding added_to
  total_downward [] g = refl
  total_downward (p ∷ more) g = turned_front p [] more (g.0, record {}) g.1
