use mathlib.Core.Path.{◌≡◌, refl, sym, ◌∙◌}
use mathlib.Core.Bool.{false}
use native.Mathlib.Omega.{arith}
use borrow.Author.Count.{below_more}
use Rattle.digit_text.specs.Digits.{sign_before}
use Rattle.digit_text.specs.Reading.{repeats_at, repeat_place}
use Rattle.digit_text.proofs.Scan.{sign_kept, sign_taken}
use Rattle.digit_text.proofs.Places.{leftmost_found, leftmost_not_found, repeats_is}
use Rattle.digit_text.proofs.repeat_place.Goals as goal
use Rattle.digit_text.proofs.repeat_place.Goals.{then-is_sign, else-is_sign}

pub loop-k-init : goal.loop-k-init
unfolding sign_before
loop-k-init c = (refl, λ j h. absurd (omega arith))

pub returns-then-repeats : goal.returns-then-repeats
unfolding repeat_place
returns-then-repeats c =
    let t = c.args.text.now in
    let k = c.loop-k.k in
    leftmost_found t (repeats_at t) k c.loop-k-test.true c.loop-k.invariant.1
    (repeats_is t k _ c.loop-k-test.true c.loop-k.invariant.0 ∙ sym c.repeats.ensures ∙ c.if-repeats.true)

pub loop-k-preserved : goal.loop-k-preserved
loop-k-preserved c =
    let t = c.args.text.now in
    let k = c.loop-k.k in
    let b = c.loop-k.invariant in (
      elim c.if-is_sign.branch [
        | then-is_sign w ↦ rw w.before-is (sign_taken t k c.loop-k-test.true (sym c.is_sign.ensures ∙ w.if-is_sign.true))
        | else-is_sign w ↦ rw w.before-is (sign_kept t k _ c.loop-k-test.true b.0 (sym c.is_sign.ensures ∙ w.if-is_sign.false))
      ],
      below_more (λ j. repeats_at t j ≡ false) k b.1 (repeats_is t k _ c.loop-k-test.true b.0 ∙ sym c.repeats.ensures ∙ c.if-repeats.false),
    )

pub returns : goal.returns
unfolding repeat_place
returns c =
    let t = c.args.text.now in
    leftmost_not_found t (repeats_at t) (λ k h. c.loop-k.invariant.1 k (omega arith))
