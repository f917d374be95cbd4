-- The outcome that a refusal's number stands for. Assumes nothing.
-- Proved here: `outcome_back`, `done_zero`.
use Rattle.std.specs.Prelude.{Ok, Err}
use Prim.Native.Nat.{ℕ, zero, suc, ◌-◌}
use native.Mathlib.Omega.{arith}
use mathlib.Core.Path.{◌≡◌, refl, sym, ap, ◌∙◌}
use Rattle.words.specs.Refusals.{number_of, cause_number, row}
use Rattle.words.specs.declared.Cause.TheVariants.{Width}
use Rattle.words.specs.Outcomes.{Outcome, Done, Refused}
use Rattle.words.proofs.Laws.{cause_of_number, cause_some, found, refused_not_done}

abbrev pub outcome_in : ℕ → Outcome
outcome_in zero = Done
outcome_in (suc n) = Refused (found Width (row (suc n)))

pub outcome_back : (o : Outcome) → outcome_in (number_of o) ≡ o
outcome_back (Ok _) = refl
outcome_back (Err c) =
    let above : cause_number c ≡ suc (cause_number c - 1) = omega (arith, cause_some c) in
    ap outcome_in above
    ∙ ap (λ (n : ℕ). Refused (found Width (row n))) (sym above)
    ∙ ap (λ (o : Outcome). Refused (found Width o)) (cause_of_number c)

pub done_zero : (n : ℕ) → outcome_in n ≡ Done → n ≡ 0
done_zero zero e = refl
done_zero (suc n) e = absurd (refused_not_done e)
