-- The way to and from plain words: it keeps the value, what it refuses, and that it goes back. Assumes nothing.
-- Proved here: `to_plain_closed`, `from_plain_closed`, `to_plain_value`, `from_plain_value`, `from_to_plain`, `to_plain_refuses`, `to_plain_past`.
use Prim.Native.Nat.{ℕ, ◌-◌, ◌^◌}
use native.Mathlib.Omega.{arith}
use mathlib.Core.Path.{◌≡◌, refl, sym, ◌∙◌}
use mathlib.Core.Bool.{Bool, true, false}
use mathlib.Core.Logic.{◌⊎◌, inl, inr}
use lib.Signed.{mag}
use lib.IntN.{ℤ, pos, ◌+ℤ◌, +ℤ_idr}
use borrow.Author.Tests.{ltb-false, le-ltb}
use Rattle.integers.specs.Numbers.{fits_width}
use Rattle.integers.proofs.Width.{fits_is, carry_past}
use Rattle.words.specs.Words.{value}
use Rattle.words.specs.Refusals.{refuse}
use Rattle.words.specs.Plain.{plain_value, plain_check, plain_refused, plain_done, plain_fitted}
use Rattle.words.specs.RoundBit.{round_bit_value, round_bit_check}
use Rattle.words.specs.Outcomes.{Done}
use Rattle.words.specs.Kinds.{PlainWord}
use Rattle.words.specs.Kinds.{RoundBitWord}
use Rattle.words.proofs.Laws.{right, word_right}
use Rattle.words.proofs.Operands.{fit_passes, done_fits}
use Rattle.round_bit.specs.Arithmetic.{to_plain_word, to_plain_of, from_plain_word, from_plain_of}
use Rattle.round_bit.proofs.Checks.{word_done}

-- ---- closed: the word of a done answer passes its own check
pub to_plain_closed : (w : RoundBitWord) → (to_plain_of w).outcome ≡ Done → plain_check (to_plain_of w).word ≡ Done
unfolding to_plain_word plain_fitted
to_plain_closed w e =
    let a = w.number.0 +ℤ pos w.number.1 in
    let p = done_fits plain_refused (λ a. a.outcome) (λ c. refl) (round_bit_check w) w.format a (plain_done (to_plain_word w)) e in
    let g = right w.format w.number.0 w.number.1 p.0 in
    rw (p.0, fit_passes w.format a p.1) (word_right w.format a 0 (record { format = g.format; size = p.1; bit = omega arith }))

pub from_plain_closed : (w : PlainWord) → (from_plain_of w).outcome ≡ Done → round_bit_check (from_plain_of w).word ≡ Done
unfolding from_plain_word
from_plain_closed w e = let p = word_done (plain_check w) (from_plain_word w) e in rw p.1 p.0

-- ---- to plain and from plain keep the value; to plain after from plain is the word; to plain refuses only the one value 2 ^ (n - 1)
pub to_plain_value : (w : RoundBitWord) → plain_value (to_plain_word w) ≡ round_bit_value w
unfolding to_plain_word value
to_plain_value w = refl

pub from_plain_value : (w : PlainWord) → round_bit_value (from_plain_word w) ≡ plain_value w
unfolding from_plain_word value
from_plain_value w = rw (+ℤ_idr w.number.0)

pub from_to_plain : (w : PlainWord) → plain_check w ≡ Done → to_plain_of (from_plain_word w) ≡ plain_done w
unfolding to_plain_word from_plain_word plain_fitted
from_to_plain w e =
    let g = right w.format w.number.0 0 e in
    rw (e, +ℤ_idr w.number.0, fit_passes w.format w.number.0 g.size)

pub to_plain_refuses : (w : RoundBitWord) → round_bit_check w ≡ Done →
    ((to_plain_of w).outcome ≡ Done) ⊎ (((to_plain_of w).outcome ≡ refuse 8 true) × (w.number.0 +ℤ pos w.number.1 ≡ pos (2 ^ (w.format.width - 1))))
unfolding to_plain_word plain_fitted
to_plain_refuses w e = told (fits_width a w.format.width) refl
  where
    a : ℤ
    a = w.number.0 +ℤ pos w.number.1

    p : ℕ
    p = 2 ^ (w.format.width - 1)

    told : (b : Bool) → fits_width a w.format.width ≡ b → ((to_plain_of w).outcome ≡ Done) ⊎ (((to_plain_of w).outcome ≡ refuse 8 true) × (a ≡ pos p))
    told true f = inl (rw (e, f))
    told false f =
        let g = right w.format w.number.0 w.number.1 e in
        inr (rw (e, f), carry_past w.number.0 w.number.1 p g.size g.bit (ltb-false (mag a) p (sym (fits_is a w.format.width) ∙ f)))

pub to_plain_past : (w : RoundBitWord) → round_bit_check w ≡ Done → w.number.0 +ℤ pos w.number.1 ≡ pos (2 ^ (w.format.width - 1)) →
    (to_plain_of w).outcome ≡ refuse 8 true
unfolding to_plain_word plain_fitted
to_plain_past w e h = let n = w.format.width in rw (e, h, fits_is (pos (2 ^ (n - 1))) n, le-ltb (2 ^ (n - 1)) (2 ^ (n - 1)) (omega arith))
