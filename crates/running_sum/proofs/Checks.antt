-- What the checks of a running sum come to. Assumes nothing.
-- Proved here: `depth_some`, `depth_none`, `depth_passed`, `depth_is`, `cut_handed`, `cut_none`, `put_is`.
use Prim.Native.Nat.{ℕ, ◌-◌}
use native.Mathlib.Omega.{arith}
use mathlib.Core.Path.{◌≡◌, refl, sym, ap, ◌∙◌}
use mathlib.Core.Bool.{Bool, true, false}
use lib.Dec.{ltb, eqb}
use borrow.Author.Tests.{ltb-true, ltb-false, lt-ltb, le-ltb, eqb-false}
use Rattle.std.specs.Prelude.{Ok, Err}
use Rattle.words.specs.Refusals.{refuse_for, refuse, ◌or_else◌, differ}
use Rattle.words.specs.Formats.{narrower_check}
use Rattle.words.specs.declared.Cause.{Cause}
use Rattle.words.specs.declared.Cause.TheVariants.{Depth}
use Rattle.words.specs.Outcomes.{Outcome, Done, Refused, given}
use Rattle.words.specs.Kinds.{RoundBitWord}
use Rattle.words.specs.RoundBit.{round_bit_check, round_bit_done, ◌and_then◌}
use Rattle.words.specs.declared.Format.{Format}
use Rattle.words.proofs.Laws.{refused_not_done}
use Rattle.round_bit.specs.Arithmetic.{sum_check}
use Rattle.round_bit.specs.Cuts.{cut_check, cut_of, rest_of, cut_in_two_of}
use Rattle.round_bit.specs.declared.CutAndRest.{CutAndRest}
use Rattle.running_sum.specs.declared.RunningSum.{RunningSum}
use Rattle.running_sum.specs.Steps.{depth_check, running_sum_check, put_check}

-- a depth that is not 0 passes where a cut by it does
too_deep : (n d : ℕ) → (d ≡ 0 → ⊥) → ltb (n - 2) d ≡ ltb (n - d) 2
too_deep n d h = go (ltb (n - 2) d) refl
  where
    go : (b : Bool) → ltb (n - 2) d ≡ b → b ≡ ltb (n - d) 2
    go true e = sym (lt-ltb (n - d) 2 (omega (arith, ltb-true (n - 2) d e)))
    go false e = sym (le-ltb (n - d) 2 (omega (arith, ltb-false (n - 2) d e)))

pub depth_some : (f : Format) (d : ℕ) → eqb d 0 ≡ false → depth_check f d ≡ narrower_check f d
unfolding depth_check narrower_check
depth_some f d e = rw (e, too_deep f.width d (eqb-false d 0 e))

-- a depth of 0 is refused for itself
pub depth_none : (f : Format) (d : ℕ) (c : Cause) → refuse_for Depth (eqb d 0) ≡ Refused c → Refused c ≡ depth_check f d
unfolding depth_check
depth_none f d c e = go (eqb d 0) refl e
  where
    go : (b : Bool) → eqb d 0 ≡ b → refuse_for Depth b ≡ Refused c → Refused c ≡ depth_check f d
    go true z h = rw z (sym h)
    go false z h = absurd (refused_not_done (sym h))

-- a depth that passes is one that a cut lets through
pub depth_passed : (f : Format) (d : ℕ) → depth_check f d ≡ Done → narrower_check f d ≡ Done
depth_passed f d e = go (eqb d 0) refl
  where
    go : (b : Bool) → eqb d 0 ≡ b → narrower_check f d ≡ Done
    go true z = absurd (refused_not_done (depth_none f d Depth (rw z) ∙ e))
    go false z = sym (depth_some f d z) ∙ e

-- a depth's check is that it is not 0, and then a cut's
pub depth_is : (f : Format) (d : ℕ) → (refuse_for Depth (eqb d 0) or_else narrower_check f d) ≡ depth_check f d
depth_is f d = go (eqb d 0) refl
  where
    go : (b : Bool) → eqb d 0 ≡ b → (refuse_for Depth b or_else narrower_check f d) ≡ depth_check f d
    go true z = depth_none f d Depth (rw z)
    go false z = sym (depth_some f d z)

-- a sum's check is that of its kept word, and then of a cut by a depth that is not 0; and a cut and its rest are what is handed out and kept
module _ (s : RunningSum) where
  abbrev handed : CutAndRest
  handed = record { word = (cut_of s.kept s.depth).word; rest = (rest_of s.kept s.depth).word }

  same_given : (o : Outcome) (v r : RoundBitWord) →
      given o (record { word = v; rest = r }) ≡
      given {A = CutAndRest} o (record { word = (o and_then round_bit_done v).word; rest = (o and_then round_bit_done r).word })
  same_given (Ok _) v r = refl
  same_given (Err c) v r = refl

  pub cut_handed : eqb s.depth 0 ≡ false → cut_in_two_of s.kept s.depth ≡ given (running_sum_check s) handed
  cut_handed z = rw (depth_some s.kept.format s.depth z) (same_given (cut_check s.kept s.depth) _ _)

  pub cut_none : (c : Cause) → round_bit_check s.kept ≡ Done → refuse_for Depth (eqb s.depth 0) ≡ Refused c → Err c ≡ given (running_sum_check s) handed
  cut_none c e h = rw (e, ← depth_none s.kept.format s.depth c h)

-- a put's check is that of the sum of the two words, and then the depth's
or_else_regrouped : (o p q : Outcome) → ((o or_else p) or_else q) ≡ (o or_else (p or_else q))
or_else_regrouped (Ok _) p q = refl
or_else_regrouped (Err c) p q = refl

pub put_is : (s : RunningSum) (w : RoundBitWord) → put_check s w ≡ (sum_check s.kept w or_else depth_check s.kept.format s.depth)
unfolding put_check
put_is s w =
    sym (or_else_regrouped (round_bit_check s.kept) (round_bit_check w or_else refuse 4 (differ s.kept.format w.format)) (depth_check s.kept.format s.depth)
    ∙ ap (λ (o : Outcome). round_bit_check s.kept or_else o)
    (or_else_regrouped (round_bit_check w) (refuse 4 (differ s.kept.format w.format)) (depth_check s.kept.format s.depth)))
