-- Written texts: their value, their signs, and what a cut, a widening and a sign change do to them. Assumes nothing.
-- Proved here: `signed_digit_is`, `text_is`, `text_length`, `text_value_lem`, `text_good`, `cut_text`, `widen_text`, `sign_text`.
use Prim.Native.Nat.{ℕ, zero, suc, ◌+◌, ◌-◌, ◌*◌, ◌^◌, ◌≤◌, ◌<◌}
use native.Mathlib.Nat.{zero-add, add-zero}
use native.Mathlib.Omega.{arith}
use mathlib.Core.Path.{◌≡◌, refl, sym, ap, ◌∙◌}
use mathlib.Core.Bool.{cond}
use mathlib.Core.List.{◌++◌, map}
use lib.Dec.{eqb}
use lib.IntN.{ℤ, pos, ◌+ℤ◌, ◌-ℤ◌, ◌*ℤ◌, +ℤ_invr}
use lib.Signed.{mag}
use lib.ListN.{length, take, replicate}
use lib.Seq.{take_at}
use Rattle.integers.specs.Numbers.{digit}
use Rattle.integers.specs.Lists.{tab}
use Rattle.integers.proofs.Kit.{ints, plus_law}
use Rattle.integers.proofs.Digits.{digit_le, digit_turned, digit_floor, digit_widened, widened_twice, both_bits}
use Rattle.integers.proofs.LowDigits.{fits_digits}
use Rattle.integers.proofs.Lists.{length_tab}
use Rattle.words.specs.RoundBit.{round_bit_check}
use Rattle.words.specs.Outcomes.{Done}
use Rattle.words.specs.declared.RoundBit.{RoundBit}
use Rattle.words.specs.Kinds.{RoundBitWord}
use Rattle.words.proofs.Laws.{RightRoundBit, round_bit_right}
use Rattle.words.proofs.Formats.{digits_left}
use Rattle.round_bit.specs.Cuts.{sign_changed, sign_change_word, cut_by, cut_word, cut_of, widen_word, widen_of}
use Rattle.round_bit.proofs.Laws.Cuts.{cut_done, cut_tells, cut_format}
use Rattle.round_bit.proofs.Laws.Widenings.{widen_done, widen_tells, widen_cut_word}
use Rattle.digit_text.specs.Digits.{plus, none, minus, signed_digit, byte_of, byte_at, text, text_value}
use Rattle.digit_text.specs.Reading.{strange_place, repeat_place}
use Rattle.digit_text.proofs.Laws.Steps.{bit_below, digits_text, bit_below_le, digits_length, digits_steps, digits_value}
use Rattle.digit_text.proofs.Laws.GoodTexts.{steps_no_fault}

-- ---- a text is the steps of its word's bits
pub signed_digit_is : (x : RoundBit) (i : ℕ) → signed_digit x i ≡ pos (bit_below x i) -ℤ pos (digit x.0 i)
unfolding signed_digit
signed_digit_is x zero = refl
signed_digit_is x (suc i) = refl

tab_digits : (x : RoundBit) (n : ℕ) → tab n (λ k. byte_of (signed_digit x (n - 1 - k))) ≡ digits_text x n
tab_digits x zero = refl
tab_digits x (suc n) = let top : suc n - 1 - 0 ≡ n = omega arith in rw (top, signed_digit_is x n) (simp (next, tab_digits x n))
  where
    next : (k : ℕ) → suc n - 1 - suc k ≡ n - 1 - k
    next k = omega arith

pub text_is : (w : RoundBitWord) → text w ≡ digits_text w.number w.format.width
unfolding text byte_at
text_is w = tab_digits w.number w.format.width

pub text_length : (w : RoundBitWord) → length (text w) ≡ w.format.width
unfolding text
text_length w = length_tab w.format.width _

-- the sum of digit_i * 2 ^ i is a + r
pub text_value_lem : (w : RoundBitWord) → round_bit_check w ≡ Done → text_value (text w) ≡ w.number.0 +ℤ pos w.number.1
text_value_lem w e = rw (text_is w) (go w.format.width g.format.narrow g.size)
  where
    g : RightRoundBit w
    g = round_bit_right w e

    go : (n : ℕ) → 2 ≤ n → mag w.number.0 < 2 ^ (n - 1) → text_value (digits_text w.number n) ≡ w.number.0 +ℤ pos w.number.1
    go zero l h = absurd (omega arith)
    go (suc n) l h =
        let a = w.number.0 in
        let r = w.number.1 in
        omega (ints, digits_value w.number g.bit (suc n), fits_digits a n (rw one_less at h), plus_law a (pos r))
      where
        one_less : suc n - 1 ≡ n
        one_less = omega arith

-- every byte is one of the three, and the nonzero digits alternate in sign: neither fault is found up to the length
pub text_good : (w : RoundBitWord) → w.number.1 ≤ 1 → (strange_place (text w) ≡ length (text w)) × (repeat_place (text w) ≡ length (text w))
text_good w h = rw (text_is w) (steps_no_fault (digits_steps w.number h w.format.width))

-- ---- rounding is cutting digits off: the digits of the cut word are those from d on, with digit d - 1 below them
cut_bit : (w : RoundBitWord) (d i : ℕ) → bit_below (cut_word w d).number i ≡ bit_below w.number (i + d)
unfolding cut_by
cut_bit w zero i = rw add-zero
cut_bit w (suc k) zero = rw zero-add
cut_bit w (suc k) (suc i) = let there : suc i + suc k ≡ suc (suc k + i) = omega arith in rw there (digit_floor w.number.0 (suc k) i)

cut_digits : (w : RoundBitWord) (d i : ℕ) → digits_text (cut_word w d).number i ++ digits_text w.number d ≡ digits_text w.number (i + d)
cut_digits w d zero = rw zero-add
cut_digits w d (suc i) =
    let next : suc i + d ≡ suc (i + d) = omega arith in
    let above = rw next at (cut_bit w d (suc i)) in
    rw (next, cut_digits w d i, cut_bit w d i, above)

pub cut_text : (w : RoundBitWord) (d : ℕ) → (cut_of w d).outcome ≡ Done → text (cut_of w d).word ≡ take (w.format.width - d) (text w)
cut_text w d e =
    let c = cut_done w d e in
    let n = w.format.width in
    let left = digits_left w.format d (cut_tells w d c.0).1 in
    let whole : n - d + d ≡ n = omega arith in
    let x = digits_text (cut_word w d).number (n - d) in
    let split : x ++ digits_text w.number d ≡ digits_text w.number n = cut_digits w d (n - d) ∙ ap (digits_text w.number) whole in
    rw (c.1, text_is (cut_word w d), cut_format w d, text_is w, ← split)
    (sym (take_at x (digits_text w.number d) (n - d) (digits_length (cut_word w d).number (n - d))))

-- ---- widening is appending zeros: every digit below d of the widened number is its round bit
abbrev widened : RoundBit → ℕ → RoundBit
widened x d = record { 0 = x.0 *ℤ pos (2 ^ d) +ℤ pos (x.1 * (2 ^ d - 1)); 1 = x.1 }

widened_bit : (x : RoundBit) → x.1 ≤ 1 → (d : ℕ) → bit_below (widened x d) d ≡ x.1
widened_bit x h zero = refl
widened_bit x h (suc k) = digit_widened x.0 x.1 k h

widened_digits : (x : RoundBit) → x.1 ≤ 1 → (d : ℕ) → digits_text (widened x d) d ≡ replicate d none
unfolding byte_of
widened_digits x h zero = refl
widened_digits x h (suc k) =
    let y : RoundBit = record { 0 = pos 2 *ℤ x.0 +ℤ pos x.1; 1 = x.1 } in
    let once : widened x (suc k) ≡ widened y k = ap (λ (a : ℤ). record { 0 = a; 1 = x.1 }) (widened_twice x.0 x.1 k) in
    let below : bit_below (widened x (suc k)) k ≡ x.1 = ap (λ (z : RoundBit). bit_below z k) once ∙ widened_bit y h k in
    let rest : digits_text (widened x (suc k)) k ≡ replicate k none = ap (λ (z : RoundBit). digits_text z k) once ∙ widened_digits y h k in
    rw (digit_widened x.0 x.1 k h, below, rest, +ℤ_invr (pos x.1))

pub widen_text : (w : RoundBitWord) (d : ℕ) → (widen_of w d).outcome ≡ Done → text (widen_of w d).word ≡ text w ++ replicate d none
unfolding widen_word
widen_text w d e =
    let c = widen_done w d e in
    let h = (widen_tells w d c.0).0.bit in
    let split = rw (widen_cut_word w d h, widened_digits w.number h d) at (cut_digits (widen_word w d) d w.format.width) in
    rw (c.1, text_is (widen_word w d), text_is w) (sym split)

-- a sign change is turning every digit over
abbrev pub exchanged : ℕ → ℕ
exchanged b = cond (eqb b plus) minus (cond (eqb b minus) plus b)

sign_bit : (x : RoundBit) (i : ℕ) → bit_below (sign_changed x) i ≡ 1 - bit_below x i
sign_bit x zero = refl
sign_bit x (suc i) = digit_turned x.0 i

sign_byte : (c b : ℕ) → c ≤ 1 → b ≤ 1 → byte_of (pos (1 - c) -ℤ pos (1 - b)) ≡ exchanged (byte_of (pos c -ℤ pos b))
unfolding byte_of
sign_byte = both_bits (λ c b. byte_of (pos (1 - c) -ℤ pos (1 - b)) ≡ exchanged (byte_of (pos c -ℤ pos b))) refl refl refl refl

sign_digits : (x : RoundBit) → x.1 ≤ 1 → (n : ℕ) → digits_text (sign_changed x) n ≡ map exchanged (digits_text x n)
sign_digits x h zero = refl
sign_digits x h (suc n) =
    rw (sign_digits x h n, sign_bit x n, digit_turned x.0 n, sign_byte (bit_below x n) (digit x.0 n) (bit_below_le x h n) (digit_le x.0 n))

pub sign_text : (w : RoundBitWord) → w.number.1 ≤ 1 → text (sign_change_word w) ≡ map exchanged (text w)
unfolding sign_change_word
sign_text w h = rw (text_is (sign_change_word w), text_is w) (sign_digits w.number h w.format.width)
