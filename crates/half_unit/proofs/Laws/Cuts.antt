-- Sign change and cut: what they do to values, and to each other. Assumes nothing.
-- Proved here: `floor_moves`, `cut_done`, `cut_tells`, `cut_asks`, `answer_closed`, `sign_change_check`, `sign_change_closed`, `cut_word_passes`,
-- `cut_closed`, `sign_change_value`, `sign_change_twice`, `cut_near`, `cut_value`, `cut_none`, `cut_word_twice`, `cut_cut`, `cut_sign_outcome`,
-- `cut_word_sign`, `cut_sign`.
use Prim.Native.Nat.{ℕ, ◌+◌, ◌*◌, ◌^◌, ◌<◌}
use native.Mathlib.Omega.{arith}
use mathlib.Core.Path.{◌≡◌, refl, sym, ap, ◌∙◌}
use lib.IntN.{ℤ, pos, neg_ℤ, nat_abs, ◌-ℤ◌, ◌*ℤ◌}
use Rattle.integers.specs.Numbers.{turned, floor_by, digits_below}
use Rattle.integers.proofs.Kit.{up, down, ints, minus_law, neg_law, times_law, apart, abs_apart}
use Rattle.integers.proofs.Floor.{floor_none, floor_floor, floor_turned, turned_law, turned_turned}
use Rattle.integers.proofs.LowDigits.{below_law, below_range}
use Rattle.integers.proofs.Width.{fits_turned}
use Rattle.words.specs.Words.{value}
use Rattle.words.specs.Words.Kind.{half_unit}
use Rattle.words.specs.Refusals.{word_check}
use Rattle.words.specs.Formats.{narrower_check}
use Rattle.words.specs.HalfUnit.{half_unit_value, half_unit_check, half_unit_refused, half_unit_done, ◌and_then◌}
use Rattle.words.specs.Outcomes.{Outcome}
use Rattle.words.specs.Outcomes.{Done}
use Rattle.words.specs.Kinds.{HalfUnitWord}
use Rattle.words.proofs.Laws.{both_passed, both_pass, Right, half_unit_right, half_unit_passes, half_unit_law}
use Rattle.words.proofs.Formats.{narrower_none, narrower_passes, narrower_first, narrower_then, narrower_narrower}
use Rattle.words.proofs.Rights.{floor_right}
use Rattle.words.proofs.Operands.{done_passed, outcome_kept}
use Rattle.words.specs.Answers.{cut_answer}
use Rattle.half_unit.specs.Cuts.{sign_change_word, sign_change_of, cut_word, cut_check, cut_of}

-- ---- how far a value of 2 x + c half units moves where floor (x / 2 ^ d) less l is taken for x: a new half unit is 2 ^ d old ones
module _ (x v q : ℤ) (c l d : ℕ) (of-v : up v + 2 * down x ≡ 2 * up x + c + down v) (of-q : up q + l + down (floor_by x d) ≡ up (floor_by x d) + down q) where
  pub floor_moves : nat_abs ((value half_unit q 0 *ℤ pos (2 ^ d)) -ℤ v) ≡ apart (2 ^ d) (2 * (l * 2 ^ d) + 2 * digits_below x d + c)
  floor_moves =
      let u = value half_unit q 0 in
      let s = u *ℤ pos (2 ^ d) in
      let whole = ap (λ (i : ℕ). i * 2 ^ d) (half_unit_law q) in
      let less = ap (λ (i : ℕ). i * 2 ^ d) of-q in
      abs_apart (s -ℤ v) (2 ^ d) (2 * (l * 2 ^ d) + 2 * digits_below x d + c)
      (omega (arith, minus_law s v, times_law u (pos (2 ^ d)), below_law x d))

-- ---- a cut's answer has the outcome of its check, and a done one the word that it was made with
cut_outcome : (w : HalfUnitWord) (d : ℕ) → (cut_of w d).outcome ≡ cut_check w d
cut_outcome w d = outcome_kept half_unit_refused (λ a. a.outcome) (λ c. refl) (cut_check w d) (half_unit_done (cut_word w d)) refl

pub cut_done : (w : HalfUnitWord) (d : ℕ) → (cut_of w d).outcome ≡ Done → (cut_check w d ≡ Done) × ((cut_of w d).word ≡ cut_word w d)
cut_done w d e = let c = sym (cut_outcome w d) ∙ e in (c, rw c)

-- ---- what the check of a cut tells, and what it asks
pub cut_tells : (w : HalfUnitWord) (d : ℕ) → cut_check w d ≡ Done → Right w.format w.number.0 0 × (narrower_check w.format d ≡ Done)
cut_tells w d c = let p = both_passed (half_unit_check w) (narrower_check w.format d) c in (half_unit_right w p.0, p.1)

pub cut_asks : (w : HalfUnitWord) (d : ℕ) → Right w.format w.number.0 0 → narrower_check w.format d ≡ Done → cut_check w d ≡ Done
cut_asks w d g e = both_pass (half_unit_passes w g) e

-- ---- closed: the word of a done answer passes its own check, if a passed check of the operation makes it pass
module _ (o : Outcome) (w : HalfUnitWord) (passes : o ≡ Done → half_unit_check w ≡ Done) where
  pub answer_closed : (o and_then half_unit_done w).outcome ≡ Done → half_unit_check (o and_then half_unit_done w).word ≡ Done
  answer_closed e = let c = done_passed half_unit_refused (λ a. a.outcome) (λ c. refl) o (half_unit_done w) e in rw c (passes c)

pub sign_change_check : (w : HalfUnitWord) → half_unit_check (sign_change_word w) ≡ half_unit_check w
unfolding word_check sign_change_word
sign_change_check w = rw (fits_turned w.number.0 w.format.width)

pub sign_change_closed : (w : HalfUnitWord) → (sign_change_of w).outcome ≡ Done → half_unit_check (sign_change_of w).word ≡ Done
sign_change_closed w e = answer_closed (half_unit_check w) (sign_change_word w) (λ c. sign_change_check w ∙ c) e

pub cut_word_passes : (w : HalfUnitWord) (d : ℕ) → cut_check w d ≡ Done → half_unit_check (cut_word w d) ≡ Done
unfolding cut_word
cut_word_passes w d c = let t = cut_tells w d c in half_unit_passes _ (floor_right d 0 t.0 t.1 t.0.bit)

pub cut_closed : (w : HalfUnitWord) (d : ℕ) → (cut_of w d).outcome ≡ Done → half_unit_check (cut_of w d).word ≡ Done
cut_closed w d e = let c = cut_done w d e in rw c.1 (cut_word_passes w d c.0)

-- ---- sign change negates the value exactly; twice gives the word back
pub sign_change_value : (w : HalfUnitWord) → half_unit_value (sign_change_word w) ≡ neg_ℤ (half_unit_value w)
unfolding sign_change_word
sign_change_value w =
    let x = w.number.0 in
    omega (ints, half_unit_law (turned x), half_unit_law x, neg_law (value half_unit x 0), turned_law x)

pub sign_change_twice : (w : HalfUnitWord) → sign_change_word (sign_change_word w) ≡ w
unfolding sign_change_word
sign_change_twice w = rw (turned_turned w.number.0)

-- ---- cut: the value moves by strictly less than half a new unit, which is 2 ^ d half old units
pub cut_near : (w : HalfUnitWord) (d : ℕ) → nat_abs ((half_unit_value (cut_word w d) *ℤ pos (2 ^ d)) -ℤ half_unit_value w) < 2 ^ d
unfolding cut_word
cut_near w d =
    let x = w.number.0 in
    omega (arith, floor_moves x (half_unit_value w) (floor_by x d) 1 0 d (half_unit_law x) (omega arith), below_range x d)

pub cut_value : (w : HalfUnitWord) (d : ℕ) → (cut_of w d).outcome ≡ Done →
    nat_abs ((half_unit_value (cut_of w d).word *ℤ pos (2 ^ d)) -ℤ half_unit_value w) < 2 ^ d
cut_value w d e = rw (cut_done w d e).1 (cut_near w d)

pub cut_none : (w : HalfUnitWord) → half_unit_check w ≡ Done → cut_of w 0 ≡ cut_answer (half_unit_done w)
unfolding cut_word
cut_none w e =
    let g = half_unit_right w e in
    let same = narrower_none w.format in
    rw (cut_asks w 0 g (narrower_passes w.format 0 g.format (rw same g.format)), floor_none w.number.0, same)

-- a cut after a cut is one cut
pub cut_word_twice : (w : HalfUnitWord) (a b : ℕ) → cut_word (cut_word w a) b ≡ cut_word w (a + b)
unfolding cut_word
cut_word_twice w a b = rw (floor_floor w.number.0 a b, narrower_narrower w.format a b)

pub cut_cut : (w : HalfUnitWord) (a b : ℕ) → (cut_of w (a + b)).outcome ≡ Done → ((cut_of w a).outcome ≡ Done) × (cut_of (cut_of w a).word b ≡ cut_of w (a + b))
unfolding cut_word
cut_cut w a b e =
    let c = (cut_done w (a + b) e).0 in
    let t = cut_tells w (a + b) c in
    let first = cut_asks w a t.0 (narrower_first w.format a b t.0.format t.1) in
    let outcome = cut_outcome w a ∙ first in
    let passes = half_unit_right (cut_word w a) (cut_word_passes w a first) in
    let second = cut_asks (cut_word w a) b passes (narrower_then w.format a b t.0.format t.1) in
    (outcome, rw ((cut_done w a outcome).1, second, c, cut_word_twice w a b))

-- a cut of the sign-changed word
pub cut_sign_outcome : (w : HalfUnitWord) (d : ℕ) → (cut_of (sign_change_word w) d).outcome ≡ (cut_of w d).outcome
unfolding sign_change_word
cut_sign_outcome w d = rw (cut_outcome (sign_change_word w) d, cut_outcome w d, sign_change_check w)

pub cut_word_sign : (w : HalfUnitWord) (d : ℕ) → cut_word (sign_change_word w) d ≡ sign_change_word (cut_word w d)
unfolding cut_word sign_change_word
cut_word_sign w d = rw (floor_turned w.number.0 d)

pub cut_sign : (w : HalfUnitWord) (d : ℕ) → (cut_of w d).outcome ≡ Done → (cut_of (sign_change_word w) d).word ≡ sign_change_word (cut_of w d).word
cut_sign w d e = rw ((cut_done (sign_change_word w) d (cut_sign_outcome w d ∙ e)).1, (cut_done w d e).1) (cut_word_sign w d)
