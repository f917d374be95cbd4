-- What the checks of two operands and the refusal 8 tell, and that a done answer passed its check, for every kind of word. Assumes nothing.
-- Proved here: `same_format`, `format_same`, `both_right`, `right_both`, `fit_passed`, `fit_passes`, `done_passed`, `done_fits`, `outcome_kept`,
-- `operands_right`, `right_operands`, `first`, `second`, `carry`, `two`, `all`, `sums`, `wider_right`.
use Rattle.std.specs.Prelude.{Ok, Err}
use Prim.Native.Nat.{ℕ, ◌-◌, ◌^◌, ◌<◌, ◌≤◌}
use native.Mathlib.Omega.{arith}
use mathlib.Core.Path.{◌≡◌, refl, sym, ◌∙◌}
use mathlib.Core.Bool.{false}
use lib.Dec.{eqb}
use lib.IntN.{ℤ, pos, ◌+ℤ◌}
use lib.Signed.{mag}
use mir.Syntax.{w64}
use mir.Val.{SFits}
use borrow.Author.Tests.{not-false, eqb-true, eq-eqb}
use Rattle.integers.specs.Numbers.{eq_z}
use Rattle.integers.proofs.Kit.{and_both}
use Rattle.integers.proofs.Width.{eq_z_same, same_eq_z, fits_size, by_fits, sum_machine}
use Rattle.words.specs.Words.{outside}
use Rattle.words.specs.Refusals.{refuse, ◌or_else◌, word_check, differ, after}
use Rattle.words.specs.Formats.{wider, answer_check}
use Rattle.words.specs.declared.Cause.{Cause}
use Rattle.words.specs.declared.Cause.TheVariants.{Mismatch, NumberPast}
use Rattle.words.specs.Outcomes.{Outcome}
use Rattle.words.specs.Outcomes.{Done, Refused}
use Rattle.words.specs.declared.Format.{Format}
use Rattle.words.proofs.Laws.{passed, both_passed, three_passed, both_pass, refused_not_done, RightFormat, Right, right, word_right, small, machine}
use Rattle.words.proofs.Formats.{answer_right}

-- ---- operands of one format, both ways
pub same_format : (f g : Format) → differ f g ≡ false → f ≡ g
same_format f g e =
    let p = and_both (eqb f.width g.width) (eq_z f.unit g.unit) (not-false _ e) in
    let width = eqb-true f.width g.width p.0 in
    let unit = eq_z_same f.unit g.unit p.1 in
    λ i. record { width = width i; unit = unit i }

pub format_same : (f : Format) → differ f f ≡ false
format_same f = rw (eq-eqb f.width f.width refl, same_eq_z f.unit f.unit refl)

-- ---- two operands and a third check, both ways
pub both_right : (f : Format) (x : ℤ) (r : ℕ) (g : Format) (y : ℤ) (s : ℕ) (o : Outcome) → (word_check f x r or_else word_check g y s or_else o) ≡ Done →
    Right f x r × Right g y s × (o ≡ Done)
both_right f x r g y s o e =
    let p = three_passed (word_check f x r) (word_check g y s) o e in
    (right f x r p.0, right g y s p.1, p.2)

pub right_both : {f : Format} {x : ℤ} {r : ℕ} {g : Format} {y : ℤ} {s : ℕ} {o : Outcome} → Right f x r → Right g y s → o ≡ Done →
    (word_check f x r or_else word_check g y s or_else o) ≡ Done
right_both {f} {x} {r} {g} {y} {s} p q e = both_pass (word_right f x r p) (both_pass (word_right g y s q) e)

-- ---- the refusal 8 not given: what that tells, and what it asks
pub fit_passed : (f : Format) (x : ℤ) → refuse 8 (outside f x) ≡ Done → mag x < 2 ^ (f.width - 1)
fit_passed f x e = fits_size x f.width (not-false _ (passed NumberPast (outside f x) e))

pub fit_passes : (f : Format) (x : ℤ) → mag x < 2 ^ (f.width - 1) → refuse 8 (outside f x) ≡ Done
fit_passes f x h = rw (by_fits x f.width h)

-- ---- a done answer of any kind passed its check; `refused` makes the refusals of the kind
module _ {A : Type 0} (refused : Cause → A) (outcome : A → Outcome) (told : (c : Cause) → outcome (refused c) ≡ Refused c) where
  pub done_passed : (o : Outcome) (a : A) → outcome (after refused o a) ≡ Done → o ≡ Done
  done_passed (Ok _) a e = refl
  done_passed (Err c) a e = absurd (refused_not_done (sym (told c) ∙ e))

  -- and where 8 was asked last, its number fits
  pub done_fits : (o : Outcome) (f : Format) (x : ℤ) (a : A) → outcome (after refused o (after refused (refuse 8 (outside f x)) a)) ≡ Done →
      (o ≡ Done) × (mag x < 2 ^ (f.width - 1))
  done_fits o f x a e =
      let p = done_passed o (after refused (refuse 8 (outside f x)) a) e in
      (p, fit_passed f x (done_passed (refuse 8 (outside f x)) a (rw p at e)))

  -- the outcome of an answer that is done after a check is the check's
  pub outcome_kept : (o : Outcome) (a : A) → outcome a ≡ Done → outcome (after refused o a) ≡ o
  outcome_kept (Ok _) a e = e
  outcome_kept (Err c) a e = told c

-- ---- the check of two operands that must have one format, both ways
pub operands_right : (f : Format) (x : ℤ) (r : ℕ) (g : Format) (y : ℤ) (s : ℕ) →
    (word_check f x r or_else word_check g y s or_else refuse 4 (differ f g)) ≡ Done → Right f x r × Right g y s × (f ≡ g)
operands_right f x r g y s e =
    let p = both_right f x r g y s (refuse 4 (differ f g)) e in
    (p.0, p.1, same_format f g (passed Mismatch (differ f g) p.2))

pub right_operands : {f : Format} {x : ℤ} {r : ℕ} {g : Format} {y : ℤ} {s : ℕ} → Right f x r → Right g y s → f ≡ g →
    (word_check f x r or_else word_check g y s or_else refuse 4 (differ f g)) ≡ Done
right_operands {g = g} p q e = right_both p q (rw (e, format_same g))

-- ---- the numbers of two operands and a carry add up in an i64
pub record Sums (x y : ℤ) (t : ℕ) : Type 0 where
  pub first : SFits w64 x
  pub second : SFits w64 y
  pub carry : SFits w64 (pos t)
  pub two : SFits w64 (x +ℤ y)
  pub all : SFits w64 (x +ℤ y +ℤ pos t)

pub sums : {f g : Format} {x y : ℤ} {r s : ℕ} (t : ℕ) → Right f x r → Right g y s → t ≤ 1 → Sums x y t
sums {x = x} {y = y} t p q h =
    let s = sum_machine x y t (small p) (small q) h in
    record { first = machine p; second = machine q; carry = record { sfits = omega arith }; two = s.0; all = s.1 }

-- ---- one operand, and an answer with d digits more
pub wider_right : (f : Format) (x : ℤ) (r d : ℕ) → (word_check f x r or_else answer_check (wider f d)) ≡ Done → Right f x r × RightFormat (wider f d)
wider_right f x r d e =
    let p = both_passed (word_check f x r) (answer_check (wider f d)) e in
    let g = right f x r p.0 in
    (g, answer_right (wider f d) (omega (arith, g.format.narrow)) p.1)
