-- Document 02, Ask 9, of the C functions: what frost_block_sum answers is what calls of frost_round_bit_sum come to, in any grouping and order
-- in which none is refused. Such calls are calls of the Rattle functions. Assumes nothing.
-- Proved here: `sums_in`, `block_sum_agrees`.
use mathlib.Core.List.{Permᴰ as Permuted}
use mathlib.Core.Path.{◌≡◌, refl, sym, ap, subst, ◌∙◌}
use contract.Lifetimes.{Lfts}
use borrow.Fn.Kinds.{Dens}
use Rattle.words.specs.Refusals.{number_of}
use Rattle.words.specs.Outcomes.{Outcome, Done}
use Rattle.round_bit.specs.Arithmetic.{sum_of}
use Rattle.round_bit.specs.Groupings.{Grouping, one, both, words_in}
use Rattle.round_bit.proofs.SumLinks.{SumLinks, a_word, a_sum}
use Rattle.block_sum.proofs.Links.{handed, asked, linked_agrees}
use Rattle.frostuldi.specs.declared.{FrostRoundBit.FrostRoundBit, FrostRoundBitAnswer.FrostRoundBitAnswer, FrostBlockSumAnswer.FrostBlockSumAnswer}
use Rattle.frostuldi.specs.Boundary.{round_bit_in, flat_round_bit}
use Rattle.frostuldi.proofs.frost_round_bit_sum.Reads as frost-round-bit-sum
use Rattle.frostuldi.proofs.frost_block_sum.Reads as frost-block-sum
use Rattle.frostuldi.proofs.frost_block_sum.Kinds as kinds
use Rattle.frostuldi.proofs.Outcomes.{outcome_in, outcome_back}

-- calls of frost_round_bit_sum, none of them refused, each with the words that its two parts came to
pub data FrostSums : Grouping → FrostRoundBit → Type 0 where
  frost_word : {w : FrostRoundBit} → FrostSums (one (round_bit_in w)) w
  frost_sum : {s t : Grouping} {v w : FrostRoundBit} {a : FrostRoundBitAnswer} → FrostSums s v → FrostSums t w →
      frost-round-bit-sum.Post tt (v, (w, tt)) a (v, (w, tt)) → a.refusal ≡ 0 → FrostSums (both s t) a.word

none_refused : (o : Outcome) → number_of o ≡ 0 → o ≡ Done
none_refused o e = sym (outcome_back o) ∙ ap outcome_in e

pub sums_in : {t : Grouping} {w : FrostRoundBit} → FrostSums t w → SumLinks t (round_bit_in w)
sums_in frost_word = a_word
sums_in (frost_sum {s} {t} {v} {w} {a} x y m e) =
    let r = sum_of (round_bit_in v) (round_bit_in w) in
    let done = none_refused r.outcome (sym (ap (λ (b : FrostRoundBitAnswer). b.refusal) m) ∙ e) in
    subst (SumLinks (both s t)) (sym (ap (λ (b : FrostRoundBitAnswer). round_bit_in b.word) m)) (a_sum {a = r} (sums_in x) (sums_in y) refl done)

-- an answer that the contract of frost_block_sum admits, and that is not refused
module _ (κs : Lfts 2) (x : Dens κs kinds.ps) (a : FrostBlockSumAnswer) (e : _) (meets : frost-block-sum.Post κs x a e) (done : a.refusal ≡ 0) where
  pub block_sum_agrees : (t : Grouping) (w : FrostRoundBit) → FrostSums t w → Permuted (words_in t) (handed κs x) → w ≡ a.word
  block_sum_agrees t w l p =
      let summed = none_refused (asked κs x).outcome (sym (ap (λ (c : FrostBlockSumAnswer). c.refusal) meets) ∙ done) in
      ap flat_round_bit (linked_agrees κs x summed t (round_bit_in w) (sums_in l) p) ∙ sym (ap (λ (c : FrostBlockSumAnswer). c.word) meets)
