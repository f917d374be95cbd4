-- Demand 3 of the code itself. A link is a sum, a call made on it, what it answered, and the sum that came back, in which the answer meets
-- the contract of the call's method: `Post` is generated from the method's `ensures`. Any chain of links that begins with what an opening
-- gave, each beginning where the last ended, answers and ends as the definitions do, so the theorem holds of it. Assumes nothing.
-- Proved here: `meets_step`, `linked_refused`, `linked_totals`, `linked_unchanged`, `linked_passes`, `linked_shut`, `linked_small`, `linked_near`,
-- `linked_equal`.
use Prim.Native.Nat.{ℕ, ◌^◌, ◌≤◌}
use mathlib.Core.Path.{◌≡◌, refl, sym, ap, ◌∙◌, subst}
use mathlib.Core.List.{List, [], ◌∷◌, ◌++◌, map}
use lib.IntN.{ℤ, nat_abs, ◌+ℤ◌, ◌-ℤ◌, +ℤ_idr}
use Rattle.integers.specs.Chains.{Chain, no_link, link}
use Rattle.integers.proofs.Kit.{ints, plus_law, minus_law}
use Rattle.integers.proofs.Chains.{chain_more}
use Rattle.words.specs.RoundBit.{round_bit_value}
use Rattle.words.specs.declared.Cause.{Cause}
use Rattle.words.specs.Outcomes.{Outcome}
use Rattle.words.specs.Outcomes.{Done, Refused}
use Rattle.words.specs.Kinds.{RoundBitWord}
use Rattle.running_sum.specs.declared.RunningSum.{RunningSum}
use Rattle.running_sum.specs.declared.SumAnswer.{SumAnswer}
use Rattle.running_sum.specs.declared.HandedAnswer.{HandedAnswer}
use Rattle.running_sum.specs.Steps.{Call, put, hand_out, empty, blank, running_sum_check, step_of, open_of}
use Rattle.running_sum.specs.Totals.{Answered, accepted, handed_out, answered, left}
use Rattle.running_sum.proofs.open.Reads as open-method
use Rattle.running_sum.proofs.RunningSum.put.Reads as put-method
use Rattle.running_sum.proofs.RunningSum.hand_out.Reads as hand-out-method
use Rattle.running_sum.proofs.RunningSum.empty.Reads as empty-method
use Rattle.running_sum.proofs.Conserved.{put_blank, refused_unchanged, hand_out_small, empty_nothing, shut}
use Rattle.running_sum.proofs.Demand3.{totals, unchanged, never_refused, always_refused}

-- the answer meets the contract of the method; a put hands back no word
abbrev pub Meets : RunningSum → Call → Outcome → RoundBitWord → RunningSum → Type 0
Meets s (put w) o v t = put-method.Post tt (s, (w, tt)) (record { outcome = o; sum = t }) (s, (w, tt)) × (v ≡ blank)
Meets s hand_out o v t = hand-out-method.Post tt (s, tt) (record { outcome = o; word = v; sum = t }) (s, tt)
Meets s empty o v t = empty-method.Post tt (s, tt) (record { outcome = o; word = v; sum = t }) (s, tt)

-- from the first sum, by these calls and answers, to the last
abbrev Link : RunningSum → Answered → RunningSum → Type 0
Link s a t = Meets s a.call a.outcome a.word t

abbrev pub Links : RunningSum → List Answered → RunningSum → Type 0
Links s done last = Chain Link s done last

-- a link is the definition's step
pub meets_step : (s : RunningSum) (c : Call) (o : Outcome) (v : RoundBitWord) (t : RunningSum) → Meets s c o v t →
    (o ≡ (step_of s c).outcome) × (v ≡ (step_of s c).word) × (t ≡ (step_of s c).sum)
meets_step s (put w) o v t m = (ap (λ (a : SumAnswer). a.outcome) m.0, m.1 ∙ sym (put_blank s w), ap (λ (a : SumAnswer). a.sum) m.0)
meets_step s hand_out o v t m = (ap (λ (a : HandedAnswer). a.outcome) m, ap (λ (a : HandedAnswer). a.word) m, ap (λ (a : HandedAnswer). a.sum) m)
meets_step s empty o v t m = (ap (λ (a : HandedAnswer). a.outcome) m, ap (λ (a : HandedAnswer). a.word) m, ap (λ (a : HandedAnswer). a.sum) m)

calls : List Answered → List Call
calls done = map (λ (a : Answered). a.call) done

-- a chain answers and ends as its calls do by the definitions
links_run : {s u : RunningSum} {done : List Answered} → Links s done u → (done ≡ answered s (calls done)) × (u ≡ left s (calls done))
unfolding answered left calls
links_run no_link = (refl, refl)
links_run (link {s = s} {t = t} {u = u} {a = a} {more = more} m l) =
    let p = meets_step s a.call a.outcome a.word t m in
    let r = links_run l in
    let t = step_of s a.call in
    let first : a ≡ record { call = a.call; outcome = t.outcome; word = t.word } = λ i. record { call = a.call; outcome = p.0 i; word = p.1 i } in (
      (λ i. first i ∷ (r.0 ∙ ap (λ (x : RunningSum). answered x (calls more)) p.2) i),
      r.1 ∙ ap (λ (x : RunningSum). left x (calls more)) p.2,
    )

-- 0. a refused call, on any sum at all, leaves the sum as it was and hands back the blank word
pub linked_refused : (s : RunningSum) (c : Call) (r : Cause) (v : RoundBitWord) (t : RunningSum) → Meets s c (Refused r) v t → (t ≡ s) × (v ≡ blank)
linked_refused s c r v t m =
    let p = meets_step s c (Refused r) v t m in
    let q = refused_unchanged s c r (sym p.0) in
    (p.2 ∙ q.0, p.1 ∙ q.1)

-- ---- the theorem of the code: a chain from the sum that an opening gave
module _ (n : ℕ) (e : ℤ) (d : ℕ) (a : SumAnswer) (opening : open-method.Post tt (n, (e, (d, tt))) a (n, (e, (d, tt)))) where
  abbrev unit : ℤ
  unit = a.sum.kept.format.unit

  -- 1. words accepted = words handed out, each in its own unit, plus what is kept
  pub linked_totals : (done : List Answered) (last : RunningSum) → Links a.sum done last →
      accepted unit done ≡ handed_out unit done +ℤ round_bit_value last.kept
  linked_totals done last chain =
      let r = links_run chain in
      let t : accepted unit (answered a.sum (calls done)) ≡ handed_out unit (answered a.sum (calls done)) +ℤ round_bit_value
      (left a.sum (calls done)).kept =
      subst (λ (o : SumAnswer). let u = o.sum.kept.format.unit in accepted u (answered o.sum (calls done)) ≡ handed_out u
      (answered o.sum (calls done)) +ℤ round_bit_value (left o.sum (calls done)).kept) (sym opening) (totals n e d (calls done)) in
      ap (accepted unit) r.0
      ∙ t
      ∙ ap (λ (l : List Answered). handed_out unit l +ℤ round_bit_value (left a.sum (calls done)).kept) (sym r.0)
      ∙ ap (λ (s : RunningSum). handed_out unit done +ℤ round_bit_value s.kept) (sym r.1)

  module _ (done : List Answered) (last : RunningSum) (chain : Links a.sum done last) where
    -- 4. format and depth never change; after a done opening kept passes its check, and no call is refused by 1, 2, 3 of kept, 5 or 7
    pub linked_unchanged : (last.kept.format ≡ a.sum.kept.format) × (last.depth ≡ a.sum.depth)
    linked_unchanged =
        let r = links_run chain in
        let u = subst (λ (o : SumAnswer). ((left o.sum (calls done)).kept.format ≡ o.sum.kept.format) ×
        ((left o.sum (calls done)).depth ≡ o.sum.depth)) (sym opening) (unchanged n e d (calls done)) in
        (ap (λ (s : RunningSum). s.kept.format) r.1 ∙ u.0, ap (λ (s : RunningSum). s.depth) r.1 ∙ u.1)

    pub linked_passes : a.outcome ≡ Done → running_sum_check last ≡ Done
    linked_passes h =
        let r = links_run chain in
        let o = sym (ap (λ (x : SumAnswer). x.outcome) opening) ∙ h in
        let p = subst (λ (x : SumAnswer). running_sum_check (left x.sum (calls done)) ≡ Done) (sym opening) (never_refused n e d (calls done) o) in
        ap running_sum_check r.1 ∙ p

    -- after a refused opening every call is refused and the sum stays the blank one
    pub linked_shut : (a.outcome ≡ Done → ⊥) → (c : Call) (o : Outcome) (v : RoundBitWord) (t : RunningSum) → Meets last c o v t →
        (o ≡ Done → ⊥) × (last ≡ shut)
    linked_shut h c o v t m =
        let r = links_run chain in
        let q = always_refused n e d (calls done) c (λ k. h (ap (λ (x : SumAnswer). x.outcome) opening ∙ k)) in
        let same : last ≡ left (open_of n e d).sum (calls done) = r.1 ∙ ap (λ (x : SumAnswer). left x.sum (calls done)) opening in
        let p = meets_step last c o v t m in
        (λ k. q.0 (ap (λ (s : RunningSum). (step_of s c).outcome) (sym same) ∙ sym p.0 ∙ k), same ∙ q.1)

    -- 2. right after a done hand-out: the kept value, and so the difference of the totals, is at most half a coarse unit
    module _ (v : RoundBitWord) (t : RunningSum) (m : Meets last hand_out Done v t) where
      abbrev now : List Answered
      now = done ++ record { call = hand_out; outcome = Done; word = v } ∷ []

      pub linked_small : nat_abs (round_bit_value t.kept) ≤ 2 ^ a.sum.depth
      linked_small =
          let p = meets_step last hand_out Done v t m in
          rw (p.2, ← linked_unchanged.1) (hand_out_small last (sym p.0))

      pub linked_near : nat_abs (accepted unit now -ℤ handed_out unit now) ≤ 2 ^ a.sum.depth
      linked_near =
          let i = accepted unit now in
          let o = handed_out unit now in
          let k = round_bit_value t.kept in
          let same : i -ℤ o ≡ k = omega (
            ints,
            linked_totals now t (chain_more {Link = Link} (record { call = hand_out; outcome = Done; word = v }) chain m),
            plus_law o k,
            minus_law i o,
          ) in
          rw same linked_small

    -- 3. right after a done emptying the two totals are equal
    pub linked_equal : (v : RoundBitWord) (t : RunningSum) → Meets last empty Done v t →
        let now = done ++ record { call = empty; outcome = Done; word = v } ∷ [] in accepted unit now ≡ handed_out unit now
    linked_equal v t m =
        let p = meets_step last empty Done v t m in
        let now = done ++ record { call = empty; outcome = Done; word = v } ∷ [] in
        linked_totals now t (chain_more {Link = Link} (record { call = empty; outcome = Done; word = v }) chain m)
        ∙ rw (p.2, empty_nothing last (sym p.0), +ℤ_idr)
