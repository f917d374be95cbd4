-- Sum and difference: what they do to values, and to each other. Assumes nothing.
-- Proved here: `sum_format_lem`, `sum_done`, `sum_fits`, `sum_closed`, `difference_closed`, `sum_value`, `sum_comm`, `sum_zero`, `zero_sum`,
-- `first`, `second`, `same`, `sum_check_tells`, `sum_check_asks`, `sum_sign_value`, `sum_sign_digits`, `difference_value`, `difference_self`.
use Prim.Native.Nat.{ℕ, ◌-◌, ◌^◌, ◌≤◌, ◌<◌}
use native.Mathlib.Omega.{arith}
use mathlib.Core.Path.{◌≡◌, refl, sym, ap, ◌∙◌}
use lib.Bits.{or_zero_r, and_zero_r}
use lib.Pow.{pow_pos}
use lib.Signed.{mag}
use lib.IntN.{ℤ, pos, negsuc, ◌+ℤ◌, ◌*ℤ◌, +ℤ_idr, -ℤ-+ℤ_cancel}
use Rattle.integers.proofs.Times.{times_plus, times_neg}
use Rattle.words.specs.Words.{value}
use Rattle.words.specs.RoundBit.{round_bit_word, round_bit_value, round_bit_check, round_bit_refused, round_bit_done, round_bit_fitted, ◌and_then◌}
use Rattle.words.specs.declared.Format.{Format}
use Rattle.words.specs.Outcomes.{Done}
use Rattle.words.specs.Kinds.{RoundBitWord}
use Rattle.words.proofs.Laws.{right, word_right, RightRoundBit}
use Rattle.words.proofs.Rights.{nothing_right}
use Rattle.words.proofs.Operands.{operands_right, right_operands, fit_passes, done_fits}
use Rattle.round_bit.specs.Cuts.{sign_change_word}
use Rattle.round_bit.specs.Arithmetic.{added, sum_word, sum_check, sum_of, difference_of}
use Rattle.round_bit.proofs.Laws.Signs.{signs_value}
use Rattle.round_bit.proofs.Laws.Added.{added_value, added_bit, added_comm, added_signs, added_self}

-- ---- what the check of a sum tells, and what it asks; the difference has the same
pub record Operands (x y : RoundBitWord) : Type 0 where
  pub first : RightRoundBit x
  pub second : RightRoundBit y
  pub same : x.format ≡ y.format

pub sum_check_tells : (x y : RoundBitWord) → sum_check x y ≡ Done → Operands x y
sum_check_tells x y e =
    let p = operands_right x.format x.number.0 x.number.1 y.format y.number.0 y.number.1 e in
    record { first = p.0; second = p.1; same = p.2 }

pub sum_check_asks : (x y : RoundBitWord) → Operands x y → sum_check x y ≡ Done
sum_check_asks x y p = right_operands p.first p.second p.same

-- a word that fits is its answer
word_fits : (w : RoundBitWord) → mag w.number.0 < 2 ^ (w.format.width - 1) → round_bit_fitted w ≡ round_bit_done w
unfolding round_bit_fitted
word_fits w h = rw (fit_passes w.format w.number.0 h)

-- ---- a done answer that was checked for x and y and is x added to z: z is y in a sum, and y sign-changed in a difference
module _ (x y z : RoundBitWord) (done : (sum_check x y and_then round_bit_fitted (sum_word x z)).outcome ≡ Done) where
  answer_fits : (sum_check x y ≡ Done) × (mag (sum_word x z).number.0 < 2 ^ ((sum_word x z).format.width - 1))
  unfolding round_bit_fitted
  answer_fits =
      done_fits round_bit_refused (λ a. a.outcome) (λ c. refl) (sum_check x y) (sum_word x z).format (sum_word x z).number.0 (round_bit_done (sum_word x z))
      done

  answer_operands : Operands x y
  answer_operands = sum_check_tells x y answer_fits.0

  answer_is_word : (sum_check x y and_then round_bit_fitted (sum_word x z)) ≡ round_bit_done (sum_word x z)
  answer_is_word = rw answer_fits.0 (word_fits (sum_word x z) answer_fits.1)

  answer_closed : z.number.1 ≤ 1 → round_bit_check (sum_check x y and_then round_bit_fitted (sum_word x z)).word ≡ Done
  unfolding sum_word
  answer_closed h =
      let n = added x.number z.number in
      let g = answer_operands.first in
      rw answer_is_word
      (word_right x.format n.0 n.1 (record { format = g.format; size = answer_fits.1; bit = added_bit x.number z.number g.bit h }))

  answer_value : round_bit_value (sum_check x y and_then round_bit_fitted (sum_word x z)).word ≡ round_bit_value x +ℤ round_bit_value z
  unfolding sum_word value
  answer_value =
      rw (answer_is_word, added_value x.number z.number)
      (times_plus (pos 2) (x.number.0 +ℤ pos x.number.1) (z.number.0 +ℤ pos z.number.1))

pub sum_format_lem : (x y : RoundBitWord) → (sum_word x y).format ≡ x.format
unfolding sum_word
sum_format_lem x y = refl

pub sum_done : (x y : RoundBitWord) → (sum_of x y).outcome ≡ Done → sum_of x y ≡ round_bit_done (sum_word x y)
sum_done x y e = answer_is_word x y y e

pub sum_fits : (x y : RoundBitWord) → RightRoundBit x → RightRoundBit y → x.format ≡ y.format → mag (sum_word x y).number.0 < 2 ^ (x.format.width - 1) →
    sum_of x y ≡ round_bit_done (sum_word x y)
sum_fits x y f g e h =
    rw (sum_check_asks x y (record { first = f; second = g; same = e })) (word_fits (sum_word x y) (rw (sum_format_lem x y) h))

-- ---- closed: the word of a done answer passes its own check
pub sum_closed : (x y : RoundBitWord) → (sum_of x y).outcome ≡ Done → round_bit_check (sum_of x y).word ≡ Done
sum_closed x y e = answer_closed x y y e (answer_operands x y y e).second.bit

pub difference_closed : (x y : RoundBitWord) → (difference_of x y).outcome ≡ Done → round_bit_check (difference_of x y).word ≡ Done
unfolding sign_change_word
difference_closed x y e = answer_closed x y (sign_change_word y) e (omega arith)

-- ---- sum: the values add exactly; it is commutative digit for digit; (0,0) is neutral on both sides
pub sum_value : (x y : RoundBitWord) → (sum_of x y).outcome ≡ Done → round_bit_value (sum_of x y).word ≡ round_bit_value x +ℤ round_bit_value y
sum_value x y e = answer_value x y y e

pub sum_comm : (x y : RoundBitWord) → sum_check x y ≡ Done → sum_of x y ≡ sum_of y x
unfolding sum_word
sum_comm x y e =
    let g = sum_check_tells x y e in
    let back = sum_check_asks y x (record { first = g.second; second = g.first; same = sym g.same }) in
    let same : sum_word x y ≡ sum_word y x = λ i. record { number = added_comm x.number y.number i; format = g.same i } in
    rw (e, back, same)

zero_passes : (w : RoundBitWord) → round_bit_check w ≡ Done → sum_check w (round_bit_word (pos 0) 0 w.format) ≡ Done
zero_passes w e =
    let g = right w.format w.number.0 w.number.1 e in
    sum_check_asks w (round_bit_word (pos 0) 0 w.format) (record { first = g; second = nothing_right g.format; same = refl })

pub sum_zero : (w : RoundBitWord) → round_bit_check w ≡ Done → sum_of w (round_bit_word (pos 0) 0 w.format) ≡ round_bit_done w
unfolding sum_word
sum_zero w e =
    let n = w.number in
    let same : sum_word w (round_bit_word (pos 0) 0 w.format) ≡ w = rw (and_zero_r n.1, or_zero_r n.1, +ℤ_idr n.0, +ℤ_idr n.0) in
    let g = right w.format n.0 n.1 e in
    rw (zero_passes w e, same) (word_fits w g.size)

pub zero_sum : (w : RoundBitWord) → round_bit_check w ≡ Done → sum_of (round_bit_word (pos 0) 0 w.format) w ≡ round_bit_done w
zero_sum w e = sym (sum_comm w (round_bit_word (pos 0) 0 w.format) (zero_passes w e)) ∙ sum_zero w e

-- ---- -(x + y) and (-x) + (-y) have the same value, and the pair (0,0), (0,1) has not the same digits
pub sum_sign_value : (x y : RoundBitWord) → (sum_of x y).outcome ≡ Done →
    round_bit_value (sign_change_word (sum_word x y)) ≡ round_bit_value (sum_word (sign_change_word x) (sign_change_word y))
unfolding sum_word sign_change_word value
sum_sign_value x y e =
    let g = answer_operands x y y e in
    ap (λ (z : ℤ). pos 2 *ℤ z) (added_signs x.number y.number g.first.bit g.second.bit)

pub sum_sign_digits : (f : Format) →
    sign_change_word (sum_word (round_bit_word (pos 0) 0 f) (round_bit_word (pos 0) 1 f)) ≡ sum_word (sign_change_word (round_bit_word (pos 0) 0 f))
    (sign_change_word (round_bit_word (pos 0) 1 f)) → ⊥
unfolding sum_word sign_change_word
sum_sign_digits f e = let bit : ◌≡◌ {A = ℕ} 0 1 = ap (λ (w : RoundBitWord). w.number.1) e in omega arith

-- ---- difference: x less y, and x less x is (-1,1), value 0, for every word
pub difference_value : (x y : RoundBitWord) → (difference_of x y).outcome ≡ Done →
    round_bit_value (difference_of x y).word +ℤ round_bit_value y ≡ round_bit_value x
unfolding sign_change_word value
difference_value x y e =
    let a = x.number.0 +ℤ pos x.number.1 in
    let b = y.number.0 +ℤ pos y.number.1 in
    rw (
      answer_value x y (sign_change_word y) e,
      signs_value y.number (answer_operands x y (sign_change_word y) e).second.bit,
      times_neg (pos 2) b,
      -ℤ-+ℤ_cancel (pos 2 *ℤ a) (pos 2 *ℤ b),
    )

pub difference_self : (w : RoundBitWord) → round_bit_check w ≡ Done → difference_of w w ≡ round_bit_done (round_bit_word (negsuc 0) 1 w.format)
unfolding sum_word sign_change_word
difference_self w e =
    let g = right w.format w.number.0 w.number.1 e in
    let c = sum_check_asks w w (record { first = g; second = g; same = refl }) in
    let zero = round_bit_word (negsuc 0) 1 w.format in
    let same : sum_word w (sign_change_word w) ≡ zero = λ i. record { number = added_self w.number g.bit i; format = w.format } in
    rw (c, same) (word_fits zero (pow_pos (w.format.width - 1)))
