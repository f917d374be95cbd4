-- Texts that are read: the word of a reading, and that reading and writing go back and forth. Assumes nothing.
-- Proved here: `read_closed`, `write_read`, `write_read_minus_one`, `read_write`.
use Prim.Native.Nat.{ℕ, zero, suc, ◌≤◌}
use native.Mathlib.Omega.{arith}
use mathlib.Core.Path.{◌≡◌, refl}
use mathlib.Core.Bool.{false}
use mathlib.Core.List.{List}
use mathlib.Core.Logic.{◌⊎◌, inl, inr}
use lib.IntN.{ℤ, pos, negsuc, ◌+ℤ◌, ◌-ℤ◌, +ℤ-neg_ℤ_cancel}
use lib.ListN.{length}
use borrow.Author.Tests.{le-ltb}
use Rattle.integers.proofs.Kit.{ints, plus_law}
use Rattle.integers.proofs.Digits.{digit_minus_one}
use Rattle.words.specs.Formats.{format}
use Rattle.words.specs.RoundBit.{round_bit_word, round_bit_check, round_bit_done}
use Rattle.words.specs.Outcomes.{Done}
use Rattle.words.specs.declared.Format.{Format}
use Rattle.words.specs.declared.RoundBit.{RoundBit}
use Rattle.words.specs.Kinds.{RoundBitWord}
use Rattle.words.proofs.Laws.{both_pass, RightFormat, format_right, round_bit_right, round_bit_passes}
use Rattle.words.proofs.Operands.{done_passed}
use Rattle.digit_text.specs.Digits.{none, byte_of, text, text_value}
use Rattle.digit_text.specs.Reading.{read_check, read_round, read_word, read_answer, read_refused, read_of}
use Rattle.digit_text.proofs.Laws.Steps.{Steps, steps_bits, steps_fit, bit_below, digits_text, digits_steps, steps_read}
use Rattle.digit_text.proofs.Laws.Signs.{sign_from, sign_from_none, sign_from_cons, plus_bit, last_sign}
use Rattle.digit_text.proofs.Laws.GoodTexts.{good_stepping}
use Rattle.digit_text.proofs.Laws.Texts.{text_is, text_length, text_value_lem, text_good}
use Rattle.digit_text.proofs.Places.{faulty, free_fault, read_right}

-- ---- a text without a fault is steps down to the round bit that is read
read_steps : (t : List ℕ) → faulty t ≡ false → (b : ℕ) × Steps b t (read_round t)
unfolding read_round
read_steps t g = let p = good_stepping t g in (p.bit, rw (sign_from_none t (length t)) p.stepping)

-- ---- what a done check asks
read_passes : (t : List ℕ) (e : ℤ) → RightFormat (format (length t) e) → faulty t ≡ false → read_check t e ≡ Done
unfolding read_check
read_passes t e g f = both_pass (format_right (format (length t) e) g) (free_fault t f)

-- ---- closed: the word of a done reading passes its own check
pub read_closed : (t : List ℕ) (e : ℤ) → (read_of t e).outcome ≡ Done → round_bit_check (read_of t e).word ≡ Done
unfolding read_of read_word
read_closed t e d =
    let c = done_passed (read_refused t) (λ a. a.outcome) (λ c. refl) (read_check t e) _ d in
    let p = read_right t e c in
    let s = (read_steps t p.1).1 in
    let fit = steps_fit s (omega (arith, p.0.narrow)) in
    rw c (round_bit_passes (read_word t e) (record { format = p.0; size = fit; bit = (steps_bits s).1 }))

-- ---- reading what was written gives the word back, for every word but (-1,1), which gives (0,0)
text_not_faulty : (w : RoundBitWord) → w.number.1 ≤ 1 → faulty (text w) ≡ false
text_not_faulty w h = let g = text_good w h in rw (g.0, g.1, le-ltb (length (text w)) (length (text w)) (omega arith))

-- what is read is the value a + r less the round bit that is read, and that round bit
read_text : (w : RoundBitWord) → round_bit_check w ≡ Done → (s : ℕ) → read_round (text w) ≡ s →
    read_of (text w) w.format.unit ≡ read_answer (round_bit_done (round_bit_word (w.number.0 +ℤ pos w.number.1 -ℤ pos s) s w.format))
unfolding read_of read_word
read_text w e s q =
    let g = round_bit_right w e in
    let f = w.format in
    let done = read_passes (text w) f.unit (rw (text_length w) g.format) (text_not_faulty w g.bit) in
    rw (done, q, text_value_lem w e, text_length w)

pub write_read : (w : RoundBitWord) → round_bit_check w ≡ Done → (w.number ≡ record { 0 = negsuc 0; 1 = 1 } → ⊥) →
    read_of (text w) w.format.unit ≡ read_answer (round_bit_done w)
unfolding read_round
write_read w e n = go (last_sign (bit_below x k) (digits_steps x (round_bit_right w e).bit k))
  where
    x : RoundBit
    x = w.number

    k : ℕ
    k = w.format.width

    go : (plus_bit (sign_from none (digits_text x k) (length (digits_text x k))) ≡ x.1) ⊎ ((text_value (digits_text x k) ≡ pos 0) × (x.1 ≡ 1)) →
        read_of (text w) w.format.unit ≡ read_answer (round_bit_done w)
    go (inl q) = rw (read_text w e x.1 (rw (sign_from_none (text w) (length (text w)), text_is w) q), +ℤ-neg_ℤ_cancel x.0 (pos x.1))
    go (inr q) =
        let sum = text_value_lem w e in
        let worth : text_value (text w) ≡ pos 0 = rw (text_is w) q.0 in
        let minus_one : x.0 ≡ negsuc 0 = omega (ints, sum, worth, plus_law x.0 (pos x.1), q.1) in
        absurd (n (λ i. record { 0 = minus_one i; 1 = q.1 i }))

-- every digit of -1 is 1, so that all digits of (-1,1) are steps from 1 to 1, and there is no sign
minus_one_sign : (n : ℕ) → sign_from none (digits_text (record { 0 = negsuc 0; 1 = 1 }) n) n ≡ none
unfolding byte_of
minus_one_sign zero = refl
minus_one_sign (suc n) =
    let x : RoundBit = record { 0 = negsuc 0; 1 = 1 } in
    rw (sign_from_cons none _ (digits_text x n) n, digit_minus_one n, one_below n) (minus_one_sign n)
  where
    one_below : (i : ℕ) → bit_below (record { 0 = negsuc 0; 1 = 1 }) i ≡ 1
    one_below zero = refl
    one_below (suc i) = digit_minus_one i

pub write_read_minus_one : (f : Format) → round_bit_check (round_bit_word (negsuc 0) 1 f) ≡ Done →
    read_of (text (round_bit_word (negsuc 0) 1 f)) f.unit ≡ read_answer (round_bit_done (round_bit_word (pos 0) 0 f))
unfolding read_round
write_read_minus_one f e =
    let w = round_bit_word (negsuc 0) 1 f in
    read_text w e 0 (rw (sign_from_none (text w) (length (text w)), text_length w, text_is w, minus_one_sign f.width))

-- ---- writing what was read gives the text back
pub read_write : (t : List ℕ) (e : ℤ) → read_check t e ≡ Done → text (read_word t e) ≡ t
unfolding read_word
read_write t e d = rw (text_is (read_word t e)) (steps_read (read_steps t (read_right t e d).1).1)
