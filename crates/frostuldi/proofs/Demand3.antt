-- Demand 3 of the C functions, for any calls on one running sum, refused ones among them: each answer meets its function's
-- contract, and each call is made on the sum that came back from the call before (proofs/Chains.antt). Such a chain is a chain of
-- the Rattle methods, so what proofs/Links.antt of running_sum proves of those holds of it. Half a coarse unit is 2 ^ depth, as
-- values are in half units of the sum's unit. Assumes nothing.
-- Proved here: `round_bit_back`, `sum_back`, `sum_forth`, `flat_linked_refused`, `flat_linked_totals`, `flat_linked_small`, `flat_linked_near`,
-- `flat_linked_equal`, `flat_linked_unchanged`, `flat_linked_passes`, `flat_linked_shut`.
use Prim.Native.Nat.{ℕ, zero, suc, ◌^◌, ◌≤◌}
use mathlib.Core.Path.{◌≡◌, refl, ap, ◌∙◌, subst}
use mathlib.Core.List.{List, [], ◌∷◌, ◌++◌, map, map-append}
use lib.IntN.{ℤ, pos, nat_abs, ◌+ℤ◌, ◌-ℤ◌}
use Rattle.integers.proofs.Chains.{chain_map}
use Rattle.words.specs.Refusals.{number_of}
use Rattle.words.specs.declared.Format.{Format}
use Rattle.words.specs.Outcomes.{Outcome, Done}
use Rattle.words.specs.Kinds.{RoundBitWord}
use Rattle.running_sum.specs.declared.{RunningSum.RunningSum, SumAnswer.SumAnswer}
use Rattle.running_sum.specs.Steps.{Call, open_of, step_of}
use Rattle.running_sum.specs.Totals.{Answered, taken_in, given_out, accepted, handed_out}
use Rattle.running_sum.proofs.Conserved.{step_outcome, shut}
use Rattle.running_sum.proofs.Links.{Meets, Links, linked_refused, linked_totals, linked_small, linked_near, linked_equal}
use Rattle.running_sum.proofs.Links.{linked_unchanged, linked_passes, linked_shut}
use Rattle.frostuldi.specs.declared.{FrostRoundBit.FrostRoundBit, FrostRunningSum.FrostRunningSum, FrostSumAnswer.FrostSumAnswer}
use Rattle.frostuldi.specs.Boundary.{round_bit_in, sum_in, flat_round_bit, flat_sum, sum_out}
use Rattle.frostuldi.specs.Demand3.{FrostCall, put, hand_out, empty, FrostAnswered}
use Rattle.frostuldi.specs.Demand3.{flat_taken_in, flat_given_out, flat_accepted, flat_handed_out, flat_kept}
use Rattle.frostuldi.proofs.frost_running_sum_open.Reads as frost-open
use Rattle.frostuldi.proofs.Chains.{FrostMeets, FrostLinks}
use Rattle.frostuldi.proofs.Outcomes.{outcome_in, outcome_back, done_zero}

-- ---- what goes out comes in again unchanged, and what comes in goes out unchanged
pub round_bit_back : (w : RoundBitWord) → round_bit_in (flat_round_bit w) ≡ w
round_bit_back w = refl

pub sum_back : (o : Outcome) (w : RoundBitWord) (s : RunningSum) → sum_in (sum_out o w s).sum ≡ s
sum_back o w s = refl

pub sum_forth : (o : Outcome) (w : RoundBitWord) (s : FrostRunningSum) → (sum_out o w (sum_in s)).sum ≡ s
sum_forth o w s = refl

-- ---- a link of the C functions is a link of the methods, and a chain a chain
abbrev call_in : FrostCall → Call
call_in (put w) = Call.put (round_bit_in w)
call_in hand_out = Call.hand_out
call_in empty = Call.empty

abbrev answered_in : FrostCall → Outcome → FrostSumAnswer → Answered
answered_in c o a = record { call = call_in c; outcome = o; word = round_bit_in a.word }

abbrev answers_in : List FrostAnswered → List Answered
answers_in done = map (λ (a : FrostAnswered). answered_in a.call (outcome_in a.answer.refusal) a.answer) done

abbrev MeetsIn : FrostRunningSum → FrostCall → Outcome → FrostSumAnswer → Type 0
MeetsIn s c o a = Meets (sum_in s) (call_in c) o (round_bit_in a.word) (sum_in a.sum)

answer_back : {a : FrostSumAnswer} (o : Outcome) (w : RoundBitWord) (s : RunningSum) → a ≡ sum_out o w s →
    (outcome_in a.refusal ≡ o) × (round_bit_in a.word ≡ w) × (sum_in a.sum ≡ s)
answer_back o w s m = (
  ap (λ (a : FrostSumAnswer). outcome_in a.refusal) m ∙ outcome_back o,
  ap (λ (a : FrostSumAnswer). round_bit_in a.word) m ∙ round_bit_back w,
  ap (λ (a : FrostSumAnswer). sum_in a.sum) m ∙ sum_back o w s,
)

link_in : (s : FrostRunningSum) (c : FrostCall) (a : FrostSumAnswer) → FrostMeets s c a → MeetsIn s c (outcome_in a.refusal) a
link_in s (put w) a m = let p = answer_back _ _ _ m in (λ i. record { outcome = p.0 i; sum = p.2 i }, p.1)
link_in s hand_out a m = let p = answer_back _ _ _ m in λ i. record { outcome = p.0 i; word = p.1 i; sum = p.2 i }
link_in s empty a m = let p = answer_back _ _ _ m in λ i. record { outcome = p.0 i; word = p.1 i; sum = p.2 i }

chain_in : {s u : FrostRunningSum} {done : List FrostAnswered} → FrostLinks s done u → Links (sum_in s) (answers_in done) (sum_in u)
chain_in chain =
    chain_map sum_in (λ (a : FrostAnswered). answered_in a.call (outcome_in a.answer.refusal) a.answer)
    (λ s t a m. rw m.1 (link_in s a.call a.answer m.0)) chain

-- a call with refusal 0 is a done one
done_in : (s : FrostRunningSum) (c : FrostCall) (a : FrostSumAnswer) → FrostMeets s c a → a.refusal ≡ 0 → MeetsIn s c Done a
done_in s c a m z = subst (λ (n : ℕ). MeetsIn s c (outcome_in n) a) z (link_in s c a m)

now_in : (done : List FrostAnswered) (c : FrostCall) (a : FrostSumAnswer) → a.refusal ≡ 0 →
    answers_in (done ++ record { call = c; answer = a } ∷ []) ≡ answers_in done ++ answered_in c Done a ∷ []
now_in done c a z =
    map-append _ done (record { call = c; answer = a } ∷ [])
    ∙ ap (λ (n : ℕ). answers_in done ++ answered_in c (outcome_in n) a ∷ []) z

-- ---- the two totals are the methods' totals
taken_in_lem : (e : ℤ) (c : FrostCall) (n : ℕ) → flat_taken_in e c n ≡ taken_in e (call_in c) (outcome_in n)
unfolding flat_taken_in taken_in
taken_in_lem e (put w) zero = refl
taken_in_lem e (put w) (suc n) = refl
taken_in_lem e hand_out n = refl
taken_in_lem e empty n = refl

given_out_lem : (e : ℤ) (c : FrostCall) (n : ℕ) (w : FrostRoundBit) →
    flat_given_out e c n w ≡ given_out e (call_in c) (outcome_in n) (round_bit_in w)
unfolding flat_given_out given_out
given_out_lem e (put v) n w = refl
given_out_lem e hand_out zero w = refl
given_out_lem e hand_out (suc n) w = refl
given_out_lem e empty zero w = refl
given_out_lem e empty (suc n) w = refl

accepted_in : (e : ℤ) (done : List FrostAnswered) → flat_accepted e done ≡ accepted e (answers_in done)
unfolding flat_accepted accepted
accepted_in e [] = refl
accepted_in e (a ∷ rest) = rw (taken_in_lem, accepted_in e rest)

handed_out_lem : (e : ℤ) (done : List FrostAnswered) → flat_handed_out e done ≡ handed_out e (answers_in done)
unfolding flat_handed_out handed_out
handed_out_lem e [] = refl
handed_out_lem e (a ∷ rest) = rw (given_out_lem, handed_out_lem e rest)

-- ---- 0. "A refusal returns the blank word (number 0, round bit 0, width 2, unit 0); lent buffers and the running sum stay as they were":
-- a refused call on any sum at all, every field of it
abbrev pub flat_blank : FrostRoundBit
flat_blank = record { number = pos 0; width = 2; unit = pos 0; round = 0 }

pub flat_linked_refused : (s : FrostRunningSum) (c : FrostCall) (a : FrostSumAnswer) → FrostMeets s c a → (a.refusal ≡ 0 → ⊥) →
    (a.sum ≡ s) × (a.word ≡ flat_blank)
flat_linked_refused s c a m h = go a.refusal h (link_in s c a m)
  where
    go : (n : ℕ) → (n ≡ 0 → ⊥) → MeetsIn s c (outcome_in n) a → (a.sum ≡ s) × (a.word ≡ flat_blank)
    go zero h l = absurd (h refl)
    go (suc n) h l = let p = linked_refused (sum_in s) (call_in c) _ _ _ l in (ap flat_sum p.0, ap flat_round_bit p.1)

-- ---- the theorem: a chain from the sum that an opening gave, done or refused
module _ (n : ℕ) (e : ℤ) (d : ℕ) (a : FrostSumAnswer) (opening : frost-open.Post tt (n, (e, (d, tt))) a (n, (e, (d, tt)))) where
  abbrev unit : ℤ
  unit = a.sum.kept.unit

  abbrev opened : SumAnswer
  opened = record { outcome = outcome_in a.refusal; sum = sum_in a.sum }

  opening_in : opened ≡ open_of n e d
  opening_in = let p = answer_back _ _ _ opening in λ i. record { outcome = p.0 i; sum = p.2 i }

  module _ (done : List FrostAnswered) (last : FrostRunningSum) (chain : FrostLinks a.sum done last) where
    -- 1. "words accepted = words handed out, each in its own unit, plus what is kept."
    pub flat_linked_totals : flat_accepted unit done ≡ flat_handed_out unit done +ℤ flat_kept last
    flat_linked_totals = rw (accepted_in, handed_out_lem) (linked_totals n e d opened opening_in _ _ (chain_in chain))

    -- 2. "Right after a hand-out the kept value is at most half a coarse unit." And so is the difference of the totals.
    module _ (b : FrostSumAnswer) (m : FrostMeets last hand_out b) (z : b.refusal ≡ 0) where
      pub flat_linked_small : nat_abs (flat_kept b.sum) ≤ 2 ^ a.sum.depth
      flat_linked_small = linked_small n e d opened opening_in _ _ (chain_in chain) _ _ (done_in last hand_out b m z)

      pub flat_linked_near :
          let now = done ++ record { call = hand_out; answer = b } ∷ [] in
          nat_abs (flat_accepted unit now -ℤ flat_handed_out unit now) ≤ 2 ^ a.sum.depth
      flat_linked_near =
          rw (accepted_in, handed_out_lem, now_in done hand_out b z)
          (linked_near n e d opened opening_in _ _ (chain_in chain) _ _ (done_in last hand_out b m z))

    -- 3. "Right after emptying the two totals are equal."
    pub flat_linked_equal : (b : FrostSumAnswer) → FrostMeets last empty b → b.refusal ≡ 0 →
        let now = done ++ record { call = empty; answer = b } ∷ [] in
        flat_accepted unit now ≡ flat_handed_out unit now
    flat_linked_equal b m z =
        rw (accepted_in, handed_out_lem, now_in done empty b z)
        (linked_equal n e d opened opening_in _ _ (chain_in chain) _ _ (done_in last empty b m z))

    -- 4. width, unit and depth never change
    pub flat_linked_unchanged :
        (last.kept.width ≡ a.sum.kept.width) × (last.kept.unit ≡ a.sum.kept.unit) × (last.depth ≡ a.sum.depth)
    flat_linked_unchanged =
        let p = linked_unchanged n e d opened opening_in _ _ (chain_in chain) in
        (ap (λ (f : Format). f.width) p.0, ap (λ (f : Format). f.unit) p.0, p.1)

    -- after a done opening no hand-out and no emptying is refused, so 2 and 3 hold of every one
    pub flat_linked_passes : a.refusal ≡ 0 → (b : FrostSumAnswer) →
        (FrostMeets last hand_out b → b.refusal ≡ 0) × (FrostMeets last empty b → b.refusal ≡ 0)
    unfolding step_of
    flat_linked_passes z b =
        let k = linked_passes n e d opened opening_in _ _ (chain_in chain) (ap outcome_in z) in (
          (λ m. ap (λ (x : FrostSumAnswer). x.refusal) m ∙ ap number_of (step_outcome _ _ _ _ ∙ k)),
          (λ m. ap (λ (x : FrostSumAnswer). x.refusal) m ∙ ap number_of (step_outcome _ _ _ _ ∙ k)),
        )

    -- after a refused opening every call is refused and the sum stays the blank one
    pub flat_linked_shut : (a.refusal ≡ 0 → ⊥) → (c : FrostCall) (b : FrostSumAnswer) → FrostMeets last c b →
        (b.refusal ≡ 0 → ⊥) × (last ≡ flat_sum shut)
    flat_linked_shut h c b m =
        let refused : opened.outcome ≡ Done → ⊥ = λ o. h (done_zero a.refusal o) in
        let q = linked_shut n e d opened opening_in _ _ (chain_in chain) refused (call_in c) _ _ _ (link_in last c b m) in
        (λ z. q.0 (ap outcome_in z), ap flat_sum q.1)
