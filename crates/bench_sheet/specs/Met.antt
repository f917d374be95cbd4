-- What the table says of the code: whatever meets the contract of the public function that a check
-- is of, is what the table has. `Post` is a function's contract, generated from its `ensures`: of
-- the arguments, the answer and the parameters at exit.
use Rattle.std.specs.Prelude.{ℕ, ◌≡◌, true, List, [], ◌∷◌, pos, ◌*ℤ◌}
use Rattle.integers.specs.Names.{fits_width}
use contract.Lifetimes.{Lfts}
use Rattle.std.specs.Borrow.{Bor, MutBor}
use Rattle.words.specs.Outcomes.{Outcome}
use Rattle.words.specs.Outcomes.{Done}
use Rattle.words.specs.declared.Format.{Format}
use Rattle.words.specs.Kinds.{RoundBitWord}
use Rattle.words.specs.declared.WriteAnswer.{WriteAnswer}
use Rattle.digit_text.specs.declared.ReadAnswer.{ReadAnswer}
use Rattle.words.specs.Refusals.{number_of}
use Rattle.words.specs.RoundBit.{round_bit_value, round_bit_check}
use Rattle.words.specs.Flat.{flat, flat_round_bit, flat_half_unit}
use Rattle.running_sum.specs.declared.RunningSum.{RunningSum}
use Rattle.running_sum.specs.declared.SumAnswer.{SumAnswer}
use Rattle.running_sum.proofs.Links.{Meets}
use Rattle.running_sum.proofs.open.Reads as open-function
use Rattle.round_bit.proofs.sum.Reads as sum-function
use Rattle.round_bit.proofs.difference.Reads as difference-function
use Rattle.round_bit.proofs.product.Reads as product-function
use Rattle.round_bit.proofs.cut.Reads as cut-function
use Rattle.round_bit.proofs.rest.Reads as rest-function
use Rattle.round_bit.proofs.even_cut.Reads as even-cut-function
use Rattle.round_bit.proofs.widen.Reads as widen-function
use Rattle.half_unit.proofs.from_plain_up.Reads as from-plain-up-function
use Rattle.half_unit.proofs.from_plain_even.Reads as from-plain-even-function
use Rattle.half_unit.proofs.sum_up.Reads as sum-up-function
use Rattle.half_unit.proofs.sum_even.Reads as sum-even-function
use Rattle.half_unit.proofs.product.Reads as half-product-function
use Rattle.digit_text.proofs.write.Reads as write-function
use Rattle.digit_text.proofs.read.Reads as read-function
use Rattle.bench_sheet.specs.Bench.{flat_of, flat_cut, flat_even_cut, flat_word, Called, called}
use Rattle.bench_sheet.specs.Bench.{Check, sum, difference, product, cut, rest, even_cut}
use Rattle.bench_sheet.specs.Bench.{widen, up, even, sum_up, sum_even, half_product}
use Rattle.bench_sheet.specs.Bench.{worth, fits, text, reading, run}

-- what is read off every answer that a contract admits is b
abbrev pub Answers : {X E B : Type 0} → (X → B) → (X → E → Type 0) → B → Type 0
Answers {X} {E} read post b = (r : X) (e : E) → post r e → read r ≡ b

-- each call is made on the sum that came back from the call before; whatever meets the contract of
-- the call's method, which is `Meets`, answers and keeps what the table has
abbrev pub Runs : RunningSum → List Called → Type 0
Runs s [] = Unit {0}
Runs s (called c answer kept ∷ more) =
    (o : Outcome) (w : RoundBitWord) (t : RunningSum) → Meets s c o w t →
    (flat_of o w ≡ answer) × (flat_word t.kept ≡ kept) × Runs t more

abbrev pub Met : Check → Type 0
Met (sum x y a) = Answers flat_round_bit (sum-function.Post tt (x, (y, tt))) a
Met (difference x y a) = Answers flat_round_bit (difference-function.Post tt (x, (y, tt))) a
Met (product x y a) = Answers flat_round_bit (product-function.Post tt (x, (y, tt))) a
Met (cut w d a) = Answers flat_cut (cut-function.Post tt (w, (d, tt))) a
Met (rest w d a) = Answers flat_round_bit (rest-function.Post tt (w, (d, tt))) a
Met (even_cut w d a) = Answers flat_even_cut (even-cut-function.Post tt (w, (d, tt))) a
Met (widen w d a) = Answers flat_round_bit (widen-function.Post tt (w, (d, tt))) a
Met (up w d a) = Answers flat_half_unit (from-plain-up-function.Post tt (w, (d, tt))) a
Met (even w d a) = Answers flat_half_unit (from-plain-even-function.Post tt (w, (d, tt))) a
Met (sum_up x y a) = Answers flat_half_unit (sum-up-function.Post tt (x, (y, tt))) a
Met (sum_even x y a) = Answers flat_half_unit (sum-even-function.Post tt (x, (y, tt))) a
Met (half_product x y a) = Answers flat_half_unit (half-product-function.Post tt (x, (y, tt))) a
-- no function is asked for a value, or whether it fits: these two are of the numbers themselves
Met (worth w units) = round_bit_value w ≡ pos 2 *ℤ units
Met (fits x n) = fits_width x n ≡ true
Met (text w lent then count) =
    (κs : Lfts 1) (before after : MutBor (List ℕ)) (r : WriteAnswer) →
    before.now ≡ lent → write-function.Post κs (w, (before, tt)) r (w, (after, tt)) →
    (number_of r.outcome ≡ 0) × (r.count ≡ count) × (after.now ≡ then)
Met (reading t a k) =
    (κs : Lfts 1) (before after : Bor (List ℕ)) (r : ReadAnswer) →
    before.now ≡ t → read-function.Post κs (before, (pos 0, tt)) r (after, (pos 0, tt)) →
    (flat_of r.outcome r.word ≡ a) × (r.place ≡ k)
Met (run n e d calls) =
    (a : SumAnswer) → open-function.Post tt (n, (e, (d, tt))) a (n, (e, (d, tt))) →
    (number_of a.outcome ≡ 0) × (flat_word a.sum.kept ≡ flat 0 (pos 0) 0 n e)
    × Runs a.sum calls

-- P7 names no word: the cut by d of every right word of a format has an outcome of this number
abbrev pub EveryCut : Format → ℕ → ℕ → Type 0
EveryCut f d n =
    (w : RoundBitWord) → round_bit_check w ≡ Done → w.format ≡ f →
    Answers (λ r. number_of r.outcome) (cut-function.Post tt (w, (d, tt))) n
