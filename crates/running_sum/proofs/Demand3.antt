-- Demand 3: "words accepted = words handed out, each in its own unit, plus what is kept. Right after a hand-out the kept value is at most
-- half a coarse unit. Right after emptying the two totals are equal." For one running sum, from its opening through any calls, refused
-- ones among them. The totals are in specs/Totals.antt and know nothing of what is kept. Values are in half units of the sum's unit, so
-- half a coarse unit is 2 ^ depth. Assumes nothing.
-- Proved here: `totals`, `unchanged`, `never_refused`, `always_refused`, `kept_small`, `totals_near`, `totals_equal`, `demand_3`.
use Rattle.std.specs.Prelude.{Ok, Err}
use Prim.Native.Nat.{ℕ, ◌^◌, ◌≤◌}
use mathlib.Core.Path.{◌≡◌, refl, sym, ap, ◌∙◌, subst}
use mathlib.Core.List.{List, [], ◌∷◌, ◌++◌}
use lib.IntN.{ℤ, pos, nat_abs, ◌+ℤ◌, ◌-ℤ◌, +ℤ_idr}
use Rattle.integers.proofs.Kit.{ints, plus_law, minus_law}
use Rattle.words.specs.Words.{value}
use Rattle.words.specs.Refusals.{format_check}
use Rattle.words.specs.Formats.{format}
use Rattle.words.specs.RoundBit.{round_bit_value}
use Rattle.words.specs.declared.Format.{Format}
use Rattle.words.specs.Outcomes.{Outcome}
use Rattle.words.specs.Outcomes.{Done}
use Rattle.words.proofs.Laws.{both_passed, right_format, round_bit_passes}
use Rattle.words.proofs.Rights.{nothing_right}
use Rattle.running_sum.specs.declared.RunningSum.{RunningSum}
use Rattle.running_sum.specs.Steps.{nothing, depth_check, open_check, open_answer, open_of, Call, hand_out, empty, running_sum_check, step_of}
use Rattle.running_sum.specs.Totals.{taken_in, given_out, accepted, handed_out, answered, left}
use Rattle.running_sum.specs.Demand3.{Demand3}
use Rattle.running_sum.proofs.Conserved.{step_conserves, step_format, step_keeps, hand_out_small, empty_nothing, shut_step, shut}

-- ---- any list of calls on any sum: what was kept and what went in is what came out and what is kept then
regroup : (t a v g w h l : ℤ) → t +ℤ v ≡ g +ℤ w → a +ℤ w ≡ h +ℤ l → (t +ℤ a) +ℤ v ≡ (g +ℤ h) +ℤ l
regroup t a v g w h l p q =
    omega (
      ints,
      plus_law (t +ℤ a) v,
      plus_law t a,
      plus_law t v,
      plus_law g w,
      plus_law a w,
      plus_law h l,
      plus_law (g +ℤ h) l,
      plus_law g h,
    )

conserved : (e : ℤ) (s : RunningSum) (cs : List Call) → s.kept.format.unit ≡ e →
    accepted e (answered s cs) +ℤ round_bit_value s.kept ≡ handed_out e (answered s cs) +ℤ round_bit_value (left s cs).kept
unfolding accepted handed_out answered left
conserved e s [] h = refl
conserved e s (c ∷ cs) h =
    let t = step_of s c in
    regroup (taken_in e c t.outcome) (accepted e (answered t.sum cs)) (round_bit_value s.kept) (given_out e c t.outcome t.word)
    (round_bit_value t.sum.kept) (handed_out e (answered t.sum cs)) (round_bit_value (left t.sum cs).kept)
    (subst (λ (u : ℤ). taken_in u c t.outcome +ℤ round_bit_value s.kept ≡ given_out u c t.outcome t.word +ℤ round_bit_value t.sum.kept) h
    (step_conserves s c))
    (conserved e t.sum cs (ap (λ (f : Format). f.unit) (step_format s c).0 ∙ h))

left_format : (s : RunningSum) (cs : List Call) → ((left s cs).kept.format ≡ s.kept.format) × ((left s cs).depth ≡ s.depth)
unfolding left
left_format s [] = (refl, refl)
left_format s (c ∷ cs) =
    let p = left_format (step_of s c).sum cs in
    let q = step_format s c in
    (p.0 ∙ q.0, p.1 ∙ q.1)

left_more : (s : RunningSum) (cs : List Call) (c : Call) → left s (cs ++ c ∷ []) ≡ (step_of (left s cs) c).sum
unfolding left
left_more s [] c = refl
left_more s (b ∷ cs) c = left_more (step_of s b).sum cs c

left_keeps : (s : RunningSum) (cs : List Call) → running_sum_check s ≡ Done → running_sum_check (left s cs) ≡ Done
unfolding left
left_keeps s [] e = e
left_keeps s (c ∷ cs) e = left_keeps (step_of s c).sum cs (step_keeps s c e)

left_shut : (cs : List Call) → left shut cs ≡ shut
unfolding left
left_shut [] = refl
left_shut (c ∷ cs) = ap (λ (s : RunningSum). left s cs) (shut_step c).1 ∙ left_shut cs

-- ---- what an opening gives
opened_value : (o : Outcome) (f : Format) (d : ℕ) → round_bit_value (open_answer o f d).sum.kept ≡ pos 0
unfolding open_answer value
opened_value (Ok _) f d = refl
opened_value (Err c) f d = refl

opened_passes : (f : Format) (d : ℕ) → open_check f d ≡ Done → running_sum_check (open_answer Done f d).sum ≡ Done
unfolding open_answer
opened_passes f d e =
    let p = both_passed (format_check f) (depth_check f d) e in
    rw (round_bit_passes (nothing f) (nothing_right (right_format f p.0))) p.1

opened_outcome : (o : Outcome) (f : Format) (d : ℕ) → (open_answer o f d).outcome ≡ o
unfolding open_answer
opened_outcome (Ok _) f d = refl
opened_outcome (Err c) f d = refl

refused_shut : (n : ℕ) (e : ℤ) (d : ℕ) → ((open_of n e d).outcome ≡ Done → ⊥) → (open_of n e d).sum ≡ shut
unfolding open_of open_answer
refused_shut n e d h = go (open_check (format n e) d) h
  where
    go : (o : Outcome) → ((open_answer o (format n e) d).outcome ≡ Done → ⊥) → (open_answer o (format n e) d).sum ≡ shut
    go (Ok _) h = absurd (h refl)
    go (Err c) h = refl

-- ---- the theorem, of the sum that an opening gave, done or refused, and of any calls on it
module _ (n : ℕ) (e : ℤ) (d : ℕ) (cs : List Call) where
  abbrev opened : RunningSum
  opened = (open_of n e d).sum

  abbrev unit : ℤ
  unit = opened.kept.format.unit

  -- 1. words accepted = words handed out, each in its own unit, plus what is kept
  pub totals : accepted unit (answered opened cs) ≡ handed_out unit (answered opened cs) +ℤ round_bit_value (left opened cs).kept
  unfolding open_of
  totals = sym (+ℤ_idr (accepted unit (answered opened cs))) ∙ rw (opened_value _ _ d) at (conserved unit opened cs refl)

  -- 4. format and depth never change
  pub unchanged : ((left opened cs).kept.format ≡ opened.kept.format) × ((left opened cs).depth ≡ opened.depth)
  unchanged = left_format opened cs

  -- after a done opening no call is refused by 1, 2, 3 of what is kept, nor by 5 or 7
  pub never_refused : (open_of n e d).outcome ≡ Done → running_sum_check (left opened cs) ≡ Done
  unfolding open_of
  never_refused o =
      let c = sym (opened_outcome (open_check (format n e) d) (format n e) d) ∙ o in
      left_keeps opened cs (subst (λ (o : Outcome). running_sum_check (open_answer o (format n e) d).sum ≡ Done) (sym c) (opened_passes (format n e) d c))

  -- after a refused one every call is refused, and the sum stays the blank one
  pub always_refused : (c : Call) → ((open_of n e d).outcome ≡ Done → ⊥) → ((step_of (left opened cs) c).outcome ≡ Done → ⊥) × (left opened cs ≡ shut)
  always_refused c o =
      let s : left opened cs ≡ shut = ap (λ (s : RunningSum). left s cs) (refused_shut n e d o) ∙ left_shut cs in
      (rw s (shut_step c).0, s)

-- 2. right after a done hand-out the kept value is at most half a coarse unit, and so is the difference of the two totals
module _ (n : ℕ) (e : ℤ) (d : ℕ) (cs : List Call) (h : (step_of (left (opened n e d cs) cs) hand_out).outcome ≡ Done) where
  abbrev calls : List Call
  calls = cs ++ hand_out ∷ []

  abbrev before : RunningSum
  before = opened n e d cs

  pub kept_small : nat_abs (round_bit_value (left before calls).kept) ≤ 2 ^ before.depth
  kept_small = rw (left_more before cs hand_out, ← (unchanged n e d cs).1) (hand_out_small (left before cs) h)

  pub totals_near : nat_abs (accepted (unit n e d cs) (answered before calls) -ℤ handed_out (unit n e d cs) (answered before calls)) ≤ 2 ^ before.depth
  totals_near =
      let a = accepted (unit n e d cs) (answered before calls) in
      let b = handed_out (unit n e d cs) (answered before calls) in
      let v = round_bit_value (left before calls).kept in
      let same : a -ℤ b ≡ v = omega (ints, totals n e d calls, plus_law b v, minus_law a b) in
      rw same kept_small

-- 3. right after a done emptying the two totals are equal
pub totals_equal : (n : ℕ) (e : ℤ) (d : ℕ) (cs : List Call) → (step_of (left (opened n e d cs) cs) empty).outcome ≡ Done →
    accepted (unit n e d cs) (answered (opened n e d cs) (cs ++ empty ∷ [])) ≡ handed_out (unit n e d cs) (answered (opened n e d cs) (cs ++ empty ∷ []))
totals_equal n e d cs h =
    let s = opened n e d cs in
    totals n e d (cs ++ empty ∷ [])
    ∙ rw (left_more s cs empty, empty_nothing (left s cs) h, +ℤ_idr)

-- Demand 3 holds
pub demand_3 : (n : ℕ) (e : ℤ) (d : ℕ) (cs : List Call) → Demand3 n e d cs
demand_3 n e d cs =
    record {
      nothing_lost = totals n e d cs;
      small = kept_small n e d cs;
      near = totals_near n e d cs;
      equal = totals_equal n e d cs;
    }
