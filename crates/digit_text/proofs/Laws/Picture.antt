-- The picture that texts are written by (document 000, section 3.1): on top the word doubled, with the round bit in the free place on the right,
-- at the bottom the word. Assumes nothing.
-- Proved here: `top_digit`, `top_less_bottom`, `rows_value`, `rows_cut`, `rows_turned`.
use Prim.Native.Nat.{ℕ, zero, suc, ◌-◌, ◌≤◌}
use native.Mathlib.Numerals.{one-add}
use mathlib.Core.Path.{◌≡◌, refl, sym, ap, ◌∙◌}
use lib.IntN.{ℤ, pos, ◌+ℤ◌, ◌-ℤ◌, ◌*ℤ◌}
use Rattle.integers.specs.Numbers.{floor_by, digit, turned}
use Rattle.integers.proofs.Kit.{ints, plus_law, minus_law, times_law}
use Rattle.integers.proofs.Floor.{floor_none, floor_floor, turned_law}
use Rattle.integers.proofs.Digits.{digit_law, digit_floor}
use Rattle.integers.proofs.Halves.{doubled_floor, doubled_digit}
use Rattle.words.specs.RoundBit.{round_bit_check}
use Rattle.words.specs.Outcomes.{Done}
use Rattle.words.specs.declared.RoundBit.{RoundBit}
use Rattle.words.specs.Kinds.{RoundBitWord}
use Rattle.round_bit.specs.Cuts.{sign_changed, cut_by, cut_word}
use Rattle.digit_text.specs.Digits.{signed_digit, text, text_value}
use Rattle.digit_text.proofs.Laws.Steps.{bit_below}
use Rattle.digit_text.proofs.Laws.Texts.{signed_digit_is, text_value_lem}

-- ---- the top row: 2 a + r, which is the number widened by a digit. The bottom row is the number itself
abbrev pub top_row : RoundBit → ℤ
top_row x = pos 2 *ℤ x.0 +ℤ pos x.1

-- ---- a column of the top row has the digit right of it in the bottom row, and the rightmost the round bit
pub top_digit : (x : RoundBit) → x.1 ≤ 1 → (i : ℕ) → digit (top_row x) i ≡ bit_below x i
top_digit x h zero = doubled_digit x.0 x.1 h
top_digit x h (suc i) = ap (digit (top_row x)) (sym (one-add i)) ∙ sym (digit_floor (top_row x) 1 i) ∙ ap (λ (y : ℤ). digit y i) (doubled_floor x.0 x.1 h)

-- each digit is the top one less the bottom one, and what the text is worth is the top row less the bottom row
pub top_less_bottom : (x : RoundBit) → x.1 ≤ 1 → (i : ℕ) → pos (digit (top_row x) i) -ℤ pos (digit x.0 i) ≡ signed_digit x i
top_less_bottom x h i = rw (top_digit x h i, signed_digit_is x i)

pub rows_value : (w : RoundBitWord) → round_bit_check w ≡ Done → text_value (text w) ≡ top_row w.number -ℤ w.number.0
rows_value w e =
    let a = w.number.0 in
    let r = pos w.number.1 in
    let t = top_row w.number in
    rw (text_value_lem w e) (omega (ints, times_law (pos 2) a, plus_law (pos 2 *ℤ a) r, minus_law t a, plus_law a r))

-- ---- the columns that are left when d are cut off are the picture of the cut word
pub rows_cut : (w : RoundBitWord) → w.number.1 ≤ 1 → (d : ℕ) →
    (top_row (cut_word w d).number ≡ floor_by (top_row w.number) d) × ((cut_word w d).number.0 ≡ floor_by w.number.0 d)
unfolding cut_by
rows_cut w h zero = (sym (floor_none _), sym (floor_none _))
rows_cut w h (suc k) =
    let a = w.number.0 in
    let q = floor_by a (suc k) in
    let kept : top_row (record { 0 = q; 1 = digit a k }) ≡ floor_by a k =
    omega (ints, digit_law a k, times_law (pos 2) q, plus_law (pos 2 *ℤ q) (pos (digit a k))) in
    let t = top_row w.number in
    (kept ∙ ap (λ (y : ℤ). floor_by y k) (sym (doubled_floor a w.number.1 h)) ∙ floor_floor t 1 k ∙ ap (floor_by t) (one-add k), refl)

-- ---- all digits of both rows turned over are the picture of the word with its sign changed
pub rows_turned : (x : RoundBit) → x.1 ≤ 1 → (top_row (sign_changed x) ≡ turned (top_row x)) × ((sign_changed x).0 ≡ turned x.0)
rows_turned x h =
    let a = x.0 in
    let t = top_row x in
    let top : top_row (sign_changed x) ≡ turned t =
    omega (
      ints,
      turned_law t,
      turned_law a,
      times_law (pos 2) (turned a),
      times_law (pos 2) a,
      plus_law (pos 2 *ℤ turned a) (pos (1 - x.1)),
      plus_law (pos 2 *ℤ a) (pos x.1),
    ) in
    (top, refl)
