-- Why nothing creeps: one call of a running sum, and any list of calls. Assumes nothing.
-- Proved here: `step_outcome`, `refused_unchanged`, `nothing_value`, `sum_tells`, `step_conserves`, `step_format`, `put_blank`, `hand_out_small`,
-- `empty_nothing`, `step_keeps`, `shut_step`.
use Rattle.std.specs.Prelude.{Ok, Err}
use Prim.Native.Nat.{ℕ, ◌^◌, ◌≤◌}
use mathlib.Core.Path.{◌≡◌, refl, sym, ap, ◌∙◌}
use lib.IntN.{ℤ, pos, nat_abs, ◌+ℤ◌, ◌-ℤ◌, ◌*ℤ◌, +ℤ_idr, +ℤ_idl}
use Rattle.integers.proofs.Kit.{ints, plus_law, minus_law, times_law}
use Rattle.words.specs.Refusals.{◌or_else◌, differ, refuse_for, blank_format}
use Rattle.words.specs.Words.{value}
use Rattle.words.specs.RoundBit.{round_bit_value, round_bit_check}
use Rattle.words.specs.declared.Cause.{Cause, TheVariants.{Mismatch}}
use Rattle.words.specs.declared.Format.{Format}
use Rattle.words.specs.Outcomes.{Outcome, Done, Refused}
use Rattle.words.specs.Kinds.{RoundBitWord, RoundBitAnswer}
use Rattle.words.proofs.Laws.{refused_not_done, both_passed, three_passed, passed, round_bit_right, round_bit_passes}
use Rattle.words.proofs.Operands.{same_format}
use Rattle.words.proofs.Rights.{nothing_right}
use Rattle.round_bit.specs.Cuts.{cut_of, rest_of}
use Rattle.round_bit.specs.Arithmetic.{sum_of}
use Rattle.round_bit.proofs.Laws.Cuts.{cut_done, cut_format, rest_format, rest_done, rest_closed, rest_refuses, rest_value, rest_small}
use Rattle.round_bit.proofs.Laws.Sums.{sum_format_lem, sum_done, sum_closed, sum_value}
use Rattle.running_sum.specs.declared.RunningSum.{RunningSum}
use Rattle.running_sum.specs.Steps.{blank, made, nothing, depth_check, Call, put, hand_out, empty, Step, keeping, stepped, running_sum_check, put_check}
use Rattle.running_sum.specs.Steps.{step_of}
use Rattle.running_sum.proofs.Checks.{depth_passed}
use Rattle.running_sum.specs.Totals.{amount, taken_in, given_out}

-- ---- a step by its outcome: what holds of the done step if its check passed, and of every refusal, holds of it
by_outcome : (Q : Step → Type 0) (o : Outcome) (w : RoundBitWord) (new old : RunningSum) → (o ≡ Done → Q (record { outcome = Done; word = w; sum = new })) →
    ((c : Cause) → Q (record { outcome = Refused c; word = blank; sum = old })) → Q (stepped o w new old)
unfolding stepped
by_outcome Q (Ok _) w new old f g = f refl
by_outcome Q (Err c) w new old f g = g c

refused_step : (o : Outcome) (w : RoundBitWord) (new old : RunningSum) (r : Cause) → (stepped o w new old).outcome ≡ Refused r →
    ((stepped o w new old).sum ≡ old) × ((stepped o w new old).word ≡ blank)
unfolding stepped
refused_step (Ok _) w new old r e = absurd (refused_not_done (sym e))
refused_step (Err c) w new old r e = (refl, refl)

pub step_outcome : (o : Outcome) (w : RoundBitWord) (new old : RunningSum) → (stepped o w new old).outcome ≡ o
unfolding stepped
step_outcome (Ok _) w new old = refl
step_outcome (Err c) w new old = refl

done_step : (o : Outcome) (w : RoundBitWord) (new old : RunningSum) → (stepped o w new old).outcome ≡ Done → (o ≡ Done) × ((stepped o w new old).sum ≡ new)
unfolding stepped
done_step (Ok _) w new old e = (refl, refl)
done_step (Err c) w new old e = absurd (refused_not_done e)

-- ---- 0. a refused call leaves the sum as it was and hands back the blank word, of any sum at all
pub refused_unchanged : (s : RunningSum) (c : Call) (r : Cause) → (step_of s c).outcome ≡ Refused r → ((step_of s c).sum ≡ s) × ((step_of s c).word ≡ blank)
unfolding step_of
refused_unchanged s (put w) r e = refused_step _ _ _ _ r e
refused_unchanged s hand_out r e = refused_step _ _ _ _ r e
refused_unchanged s empty r e = refused_step _ _ _ _ r e

-- ---- a word's amount, in the sum's own unit and in the coarse one
amount_own : (e : ℤ) (w : RoundBitWord) → w.format.unit ≡ e → amount e w ≡ round_bit_value w
unfolding amount
amount_own e w h =
    let none : w.format.unit -ℤ e ≡ pos 0 = omega (ints, h, minus_law w.format.unit e) in
    rw none (omega (ints, times_law (round_bit_value w) (pos 1)))

amount_coarse : (e : ℤ) (w : RoundBitWord) (d : ℕ) → w.format.unit ≡ e +ℤ pos d → amount e w ≡ round_bit_value w *ℤ pos (2 ^ d)
unfolding amount
amount_coarse e w d h =
    let far : w.format.unit -ℤ e ≡ pos d = omega (ints, h, plus_law e (pos d), minus_law w.format.unit e) in
    rw far

pub nothing_value : (f : Format) → round_bit_value (nothing f) ≡ pos 0
unfolding value
nothing_value f = refl

-- ---- what a done call tells
put_tells : (s : RunningSum) (w : RoundBitWord) → (put_check s w or_else (sum_of s.kept w).outcome) ≡ Done →
    ((sum_of s.kept w).outcome ≡ Done) × (s.kept.format ≡ w.format)
unfolding put_check
put_tells s w e =
    let p = both_passed (put_check s w) (sum_of s.kept w).outcome e in
    let q = three_passed (round_bit_check s.kept) (round_bit_check w) _ p.0 in
    let t = both_passed (refuse_for Mismatch (differ s.kept.format w.format)) _ q.2 in
    (p.1, same_format s.kept.format w.format (passed Mismatch _ t.0))

pub sum_tells : (s : RunningSum) → running_sum_check s ≡ Done → (cut_of s.kept s.depth).outcome ≡ Done
sum_tells s e =
    let p = both_passed (round_bit_check s.kept) (depth_check s.kept.format s.depth) e in
    rw (p.0, depth_passed s.kept.format s.depth p.1)

-- ---- 1. for one call: what was kept and what goes in is what comes out and what is kept then
abbrev Balances : RunningSum → Call → Step → Type 0
Balances s c t =
    let e = s.kept.format.unit in
    taken_in e c t.outcome +ℤ round_bit_value s.kept ≡ given_out e c t.outcome t.word +ℤ round_bit_value t.sum.kept

pub step_conserves : (s : RunningSum) (c : Call) →
    let t = step_of s c in let e = s.kept.format.unit in
    taken_in e c t.outcome +ℤ round_bit_value s.kept ≡ given_out e c t.outcome t.word +ℤ round_bit_value t.sum.kept
unfolding step_of taken_in given_out
step_conserves s (put w) = by_outcome (Balances s (put w)) _ _ _ _ done (λ c. refl)
  where
    a : RoundBitAnswer
    a = sum_of s.kept w

    done : (put_check s w or_else a.outcome) ≡ Done → Balances s (put w) (record { outcome = Done; word = blank; sum = keeping s a.word })
    done e =
        let p = put_tells s w e in
        let v = round_bit_value s.kept in
        rw (amount_own s.kept.format.unit w (ap (λ (f : Format). f.unit) (sym p.1)))
        (omega (ints, sum_value s.kept w p.0, plus_law v (round_bit_value w), plus_law (round_bit_value w) v, plus_law (pos 0) (round_bit_value a.word)))
step_conserves s hand_out = by_outcome (Balances s hand_out) _ _ _ _ done (λ c. refl)
  where
    d : ℕ
    d = s.depth

    cut : RoundBitWord
    cut = (cut_of s.kept d).word

    done : running_sum_check s ≡ Done → Balances s hand_out (record { outcome = Done; word = cut; sum = keeping s (rest_of s.kept d).word })
    done e =
        let c = sum_tells s e in
        let u = ap (λ (w : RoundBitWord). w.format.unit) (cut_done s.kept d c).1 ∙ ap (λ (f : Format). f.unit) (cut_format s.kept d) in
        rw (amount_coarse s.kept.format.unit cut d u, +ℤ_idl (round_bit_value s.kept)) (sym (rest_value s.kept d c))
step_conserves s empty =
    let own = amount_own s.kept.format.unit s.kept refl in
    by_outcome (Balances s empty) _ _ _ _ (λ e. rw (own, nothing_value s.kept.format, +ℤ_idl, +ℤ_idr)) (λ c. refl)

-- format and depth never change
abbrev Unchanged : RunningSum → Step → Type 0
Unchanged s t = (t.sum.kept.format ≡ s.kept.format) × (t.sum.depth ≡ s.depth)

rest_same : (s : RunningSum) → running_sum_check s ≡ Done → (rest_of s.kept s.depth).word.format ≡ s.kept.format
rest_same s e =
    let c = rest_refuses s.kept s.depth ∙ sum_tells s e in
    ap (λ (w : RoundBitWord). w.format) (rest_done s.kept s.depth c).1 ∙ rest_format s.kept s.depth

pub step_format : (s : RunningSum) (c : Call) → ((step_of s c).sum.kept.format ≡ s.kept.format) × ((step_of s c).sum.depth ≡ s.depth)
unfolding step_of
step_format s (put w) =
    by_outcome (Unchanged s) _ _ _ _
    (λ e. (ap (λ (a : RoundBitAnswer). a.word.format) (sum_done s.kept w (put_tells s w e).0) ∙ sum_format_lem s.kept w, refl))
    (λ c. (refl, refl))
step_format s hand_out =
    by_outcome (Unchanged s) _ _ _ _ (λ e. (rest_same s e, refl)) (λ c. (refl, refl))
step_format s empty = by_outcome (Unchanged s) _ _ _ _ (λ e. (refl, refl)) (λ c. (refl, refl))

-- a put hands back no word
pub put_blank : (s : RunningSum) (w : RoundBitWord) → (step_of s (put w)).word ≡ blank
unfolding step_of
put_blank s w = by_outcome (λ t. t.word ≡ blank) _ _ _ _ (λ e. refl) (λ c. refl)

-- ---- 2. right after a done hand-out what is kept is at most half a coarse unit
pub hand_out_small : (s : RunningSum) → (step_of s hand_out).outcome ≡ Done → nat_abs (round_bit_value (step_of s hand_out).sum.kept) ≤ 2 ^ s.depth
unfolding step_of
hand_out_small s e = let c = done_step _ _ _ _ e in rw c.1 (rest_small s.kept s.depth (sum_tells s c.0))

-- ---- 3. and right after a done emptying it is nothing
pub empty_nothing : (s : RunningSum) → (step_of s empty).outcome ≡ Done → round_bit_value (step_of s empty).sum.kept ≡ pos 0
unfolding step_of
empty_nothing s e = rw (done_step _ _ _ _ e).1 (nothing_value s.kept.format)

-- ---- 4. a sum that passes its check passes it after every call
abbrev Kept : Step → Type 0
Kept t = round_bit_check t.sum.kept ≡ Done

kept_right : (s : RunningSum) (c : Call) → round_bit_check s.kept ≡ Done → Kept (step_of s c)
unfolding step_of
kept_right s (put w) k = by_outcome Kept _ _ _ _ (λ e. sum_closed s.kept w (put_tells s w e).0) (λ c. k)
kept_right s hand_out k =
    by_outcome Kept _ _ _ _ (λ e. rest_closed s.kept s.depth (rest_refuses s.kept s.depth ∙ sum_tells s e)) (λ c. k)
kept_right s empty k =
    by_outcome Kept _ _ _ _ (λ e. round_bit_passes (nothing s.kept.format) (nothing_right (round_bit_right s.kept k).format)) (λ c. k)

pub step_keeps : (s : RunningSum) (c : Call) → running_sum_check s ≡ Done → running_sum_check (step_of s c).sum ≡ Done
step_keeps s c e =
    let p = both_passed (round_bit_check s.kept) (depth_check s.kept.format s.depth) e in
    let f = step_format s c in
    rw (kept_right s c p.0, f.0, f.1) p.1

-- and the sum of a refused opening refuses every call and stays as it is
abbrev pub shut : RunningSum
shut = made blank 0

shut_outcome : (c : Call) → (step_of shut c).outcome ≡ Done → ⊥
unfolding step_of put_check depth_check
shut_outcome (put w) e =
    let p = both_passed (put_check shut w) _ (done_step _ _ _ _ e).0 in
    let q = three_passed (round_bit_check blank) (round_bit_check w) _ p.0 in
    let t = both_passed (refuse_for Mismatch (differ blank_format w.format)) (depth_check blank_format 0) q.2 in
    refused_not_done t.1
shut_outcome hand_out e = refused_not_done (both_passed (round_bit_check blank) (depth_check blank_format 0) (done_step _ _ _ _ e).0).1
shut_outcome empty e = refused_not_done (both_passed (round_bit_check blank) (depth_check blank_format 0) (done_step _ _ _ _ e).0).1

pub shut_step : (c : Call) → ((step_of shut c).outcome ≡ Done → ⊥) × ((step_of shut c).sum ≡ shut)
shut_step c = (shut_outcome c, stays (step_of shut c).outcome refl)
  where
    stays : (o : Outcome) → (step_of shut c).outcome ≡ o → (step_of shut c).sum ≡ shut
    stays (Ok _) e = absurd (shut_outcome c e)
    stays (Err r) e = (refused_unchanged shut c r e).0
