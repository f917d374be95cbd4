-- Cut and rest: what they do to values, and to each other. Assumes nothing.
-- Proved here: `cut_done`, `rest_done`, `cut_tells`, `cut_passes`, `cut_right`, `cut_closed`, `rest_closed`, `cut_near`, `cut_value`, `cut_none`,
-- `cut_by_format`, `cut_format`, `rest_format`, `cut_by_then_cut`, `cut_word_twice`, `cut_cut`, `cut_sign_word`, `cut_sign_outcome`, `cut_sign`,
-- `rest_refuses`, `rest_value`, `rest_small`.
use Prim.Native.Nat.{ℕ, zero, suc, ◌+◌, ◌^◌, ◌≤◌}
use native.Mathlib.Nat.{zero-add, add-zero, pow-succ'}
use native.Mathlib.Omega.{arith}
use mathlib.Core.Path.{◌≡◌, refl, sym, ap, ◌∙◌}
use lib.IntN.{ℤ, pos, nat_abs, ◌+ℤ◌, ◌-ℤ◌, ◌*ℤ◌}
use Rattle.integers.specs.Numbers.{floor_by, digit, low_digits}
use Rattle.integers.proofs.Kit.{ints, plus_law, minus_law, times_law, size_range, by_abs, abs_range}
use Rattle.integers.proofs.Times.{times_assoc}
use Rattle.integers.proofs.Floor.{floor_floor, floor_turned}
use Rattle.integers.proofs.Digits.{digit_le, digit_floor, digit_turned}
use Rattle.integers.proofs.LowDigits.{low_range, floor_low_digits}
use Rattle.words.specs.Words.{value}
use Rattle.words.specs.Words.Kind.{round_bit}
use Rattle.words.specs.Formats.{narrower, narrower_check}
use Rattle.words.specs.RoundBit.{round_bit_value, round_bit_check, round_bit_done}
use Rattle.words.specs.Outcomes.{Done}
use Rattle.words.specs.Kinds.{RoundBitWord}
use Rattle.words.proofs.Laws.{both_pass, RightRoundBit, round_bit_right, round_bit_passes, round_bit_law}
use Rattle.words.proofs.Formats.{narrower_none, narrower_passes, narrower_first, narrower_then, narrower_narrower}
use Rattle.words.proofs.Rights.{nothing_right, floor_right, low_right}
use Rattle.words.specs.Answers.{cut_answer}
use Rattle.round_bit.specs.Cuts.{sign_change_word, cut_by, cut_word, cut_check, cut_of, rest_word, rest_of}
use Rattle.round_bit.proofs.Checks.{word_done, word_outcome, cut_passed}
use Rattle.round_bit.proofs.Laws.Signs.{sign_change_passed}

-- ---- a done answer passed its check, and has the word that it was made with
pub cut_done : (w : RoundBitWord) (d : ℕ) → (cut_of w d).outcome ≡ Done → (cut_check w d ≡ Done) × ((cut_of w d).word ≡ cut_word w d)
cut_done w d e = word_done (cut_check w d) (cut_word w d) e

pub rest_done : (w : RoundBitWord) (d : ℕ) → (rest_of w d).outcome ≡ Done → (cut_check w d ≡ Done) × ((rest_of w d).word ≡ rest_word w d)
rest_done w d e = word_done (cut_check w d) (rest_word w d) e

-- ---- what a done check tells, and what it asks
pub cut_tells : (w : RoundBitWord) (d : ℕ) → cut_check w d ≡ Done → RightRoundBit w × (narrower_check w.format d ≡ Done)
cut_tells w d c = let t = cut_passed w d c in (round_bit_right w t.0, t.1)

pub cut_passes : (w : RoundBitWord) (d : ℕ) → RightRoundBit w → narrower_check w.format d ≡ Done → cut_check w d ≡ Done
cut_passes w d g e = both_pass (round_bit_passes w g) e

-- ---- closed: the word of a done answer passes its own check
pub cut_right : (w : RoundBitWord) (d : ℕ) → cut_check w d ≡ Done → RightRoundBit (cut_word w d)
unfolding cut_by
cut_right w zero c = (cut_tells w zero c).0
cut_right w (suc k) c = let t = cut_tells w (suc k) c in floor_right (suc k) (digit w.number.0 k) t.0 t.1 (digit_le w.number.0 k)

pub cut_closed : (w : RoundBitWord) (d : ℕ) → (cut_of w d).outcome ≡ Done → round_bit_check (cut_of w d).word ≡ Done
cut_closed w d e = let c = cut_done w d e in rw c.1 (round_bit_passes _ (cut_right w d c.0))

rest_right : (w : RoundBitWord) (d : ℕ) → cut_check w d ≡ Done → RightRoundBit (rest_word w d)
unfolding rest_word
rest_right w zero c = nothing_right (cut_tells w zero c).0.format
rest_right w (suc k) c = let t = cut_tells w (suc k) c in low_right k w.number.1 t.0 t.1 t.0.bit

pub rest_closed : (w : RoundBitWord) (d : ℕ) → (rest_of w d).outcome ≡ Done → round_bit_check (rest_of w d).word ≡ Done
rest_closed w d e = let c = rest_done w d e in rw c.1 (round_bit_passes _ (rest_right w d c.0))

-- ---- the words of a cut and its rest: together they are the old value, and the rest is small, so the cut is near
rest_adds_back : (w : RoundBitWord) (d : ℕ) → (round_bit_value (cut_word w d) *ℤ pos (2 ^ d)) +ℤ round_bit_value (rest_word w d) ≡ round_bit_value w
unfolding cut_by rest_word value
rest_adds_back w zero =
    let v = round_bit_value w in
    omega (ints, times_law v (pos 1), plus_law (v *ℤ pos 1) (value round_bit (pos 0) 0), round_bit_law (pos 0) 0)
rest_adds_back w (suc k) =
    let record { 0 = a; 1 = r } = w.number in
    let t = floor_by a (suc k) +ℤ pos (digit a k) in
    let x = t *ℤ pos (2 ^ suc k) in
    let low = low_digits a (suc k) in
    let sum = plus_law (pos 2 *ℤ x) (value round_bit low r) in
    rw (times_assoc (pos 2) t (pos (2 ^ suc k)))
    (omega (ints, sum, times_law (pos 2) x, round_bit_law low r, round_bit_law a r, plus_law x low, floor_low_digits a k))

rest_near : (w : RoundBitWord) (d : ℕ) → w.number.1 ≤ 1 → nat_abs (round_bit_value (rest_word w d)) ≤ 2 ^ d
unfolding rest_word
rest_near w zero h = by_abs 1 (value round_bit (pos 0) 0) (omega (arith, round_bit_law (pos 0) 0))
rest_near w (suc k) h =
    let low = low_digits w.number.0 (suc k) in
    by_abs (2 ^ suc k) (value round_bit low w.number.1)
    (omega (arith, round_bit_law low w.number.1, size_range (2 ^ k) low (low_range w.number.0 k), pow-succ' 2 k))

pub cut_near : (w : RoundBitWord) (d : ℕ) → w.number.1 ≤ 1 → nat_abs ((round_bit_value (cut_word w d) *ℤ pos (2 ^ d)) -ℤ round_bit_value w) ≤ 2 ^ d
cut_near w d h =
    let x = round_bit_value (cut_word w d) *ℤ pos (2 ^ d) in
    let rest = round_bit_value (rest_word w d) in
    by_abs (2 ^ d) (x -ℤ round_bit_value w)
    (omega (ints, minus_law x (round_bit_value w), rest_adds_back w d, plus_law x rest, abs_range (2 ^ d) rest (rest_near w d h)))

-- ---- cut: the value moves by at most half a new unit, which is 2 ^ d half old units
pub cut_value : (w : RoundBitWord) (d : ℕ) → (cut_of w d).outcome ≡ Done →
    nat_abs ((round_bit_value (cut_of w d).word *ℤ pos (2 ^ d)) -ℤ round_bit_value w) ≤ 2 ^ d
cut_value w d e = let c = cut_done w d e in rw c.1 (cut_near w d (cut_tells w d c.0).0.bit)

pub cut_none : (w : RoundBitWord) → round_bit_check w ≡ Done → cut_of w 0 ≡ cut_answer (round_bit_done w)
unfolding cut_by
cut_none w e =
    let g = round_bit_right w e in
    rw (cut_passes w 0 g (narrower_passes w.format 0 g.format (rw (narrower_none w.format) g.format)))

-- the formats of the two words
pub cut_by_format : (rule : ℤ → ℕ → ℕ) (w : RoundBitWord) (d : ℕ) → (cut_by rule w d).format ≡ narrower w.format d
unfolding cut_by
cut_by_format rule w zero = sym (narrower_none w.format)
cut_by_format rule w (suc k) = refl

pub cut_format : (w : RoundBitWord) (d : ℕ) → (cut_word w d).format ≡ narrower w.format d
cut_format w d = cut_by_format digit w d

pub rest_format : (w : RoundBitWord) (d : ℕ) → (rest_word w d).format ≡ w.format
unfolding rest_word
rest_format w zero = refl
rest_format w (suc k) = refl

-- a cut by at least 1 drops the round bit, so after a cut by any rule it is one cut; and a cut after a cut is one
pub cut_by_then_cut : (rule : ℤ → ℕ → ℕ) (w : RoundBitWord) (d k : ℕ) → cut_word (cut_by rule w d) (suc k) ≡ cut_word w (d + suc k)
unfolding cut_by
cut_by_then_cut rule w zero k = ap (cut_word w) (sym (zero-add (suc k)))
cut_by_then_cut rule w (suc j) k =
    let x = w.number.0 in
    let depth : suc j + suc k ≡ suc (suc j + k) = omega arith in
    rw (floor_floor x (suc j) (suc k), digit_floor x (suc j) k, narrower_narrower w.format (suc j) (suc k), depth)

pub cut_word_twice : (w : RoundBitWord) (a b : ℕ) → cut_word (cut_word w a) b ≡ cut_word w (a + b)
unfolding cut_by
cut_word_twice w a zero = ap (cut_word w) (sym (add-zero a))
cut_word_twice w a (suc k) = cut_by_then_cut digit w a k

pub cut_cut : (w : RoundBitWord) (a b : ℕ) → (cut_of w (a + b)).outcome ≡ Done → ((cut_of w a).outcome ≡ Done) × (cut_of (cut_of w a).word b ≡ cut_of w (a + b))
cut_cut w a b e =
    let c = (cut_done w (a + b) e).0 in
    let t = cut_tells w (a + b) c in
    let first = cut_passes w a t.0 (narrower_first w.format a b t.0.format t.1) in
    let outcome = word_outcome (cut_check w a) (cut_word w a) ∙ first in
    let then : narrower_check (cut_word w a).format b ≡ Done = rw (cut_format w a) (narrower_then w.format a b t.0.format t.1) in
    let second = cut_passes (cut_word w a) b (cut_right w a first) then in
    (outcome, rw ((cut_done w a outcome).1, second, c, cut_word_twice w a b))

-- a cut of the sign-changed word
cut_sign_check : (w : RoundBitWord) (d : ℕ) → round_bit_check w ≡ Done → cut_check (sign_change_word w) d ≡ cut_check w d
unfolding sign_change_word
cut_sign_check w d e = rw (sign_change_passed w e, e)

pub cut_sign_word : (w : RoundBitWord) (d : ℕ) → cut_word (sign_change_word w) d ≡ sign_change_word (cut_word w d)
unfolding cut_by sign_change_word
cut_sign_word w zero = refl
cut_sign_word w (suc k) = rw (floor_turned w.number.0 (suc k), digit_turned w.number.0 k)

pub cut_sign_outcome : (w : RoundBitWord) (d : ℕ) → round_bit_check w ≡ Done → (cut_of (sign_change_word w) d).outcome ≡ (cut_of w d).outcome
cut_sign_outcome w d e = simp (word_outcome, cut_sign_check w d e)

pub cut_sign : (w : RoundBitWord) (d : ℕ) → (cut_of w d).outcome ≡ Done → (cut_of (sign_change_word w) d).word ≡ sign_change_word (cut_of w d).word
cut_sign w d e =
    let c = cut_done w d e in
    let s = cut_done (sign_change_word w) d (cut_sign_outcome w d (round_bit_passes w (cut_tells w d c.0).0) ∙ e) in
    rw (s.1, c.1) (cut_sign_word w d)

-- ---- rest: value = cut value * 2 ^ d + rest value, and the rest is at most half a new unit either way
pub rest_refuses : (w : RoundBitWord) (d : ℕ) → (rest_of w d).outcome ≡ (cut_of w d).outcome
rest_refuses w d = word_outcome (cut_check w d) (rest_word w d) ∙ sym (word_outcome (cut_check w d) (cut_word w d))

pub rest_value : (w : RoundBitWord) (d : ℕ) → (cut_of w d).outcome ≡ Done →
    (round_bit_value (cut_of w d).word *ℤ pos (2 ^ d)) +ℤ round_bit_value (rest_of w d).word ≡ round_bit_value w
rest_value w d e = rw ((cut_done w d e).1, (rest_done w d (rest_refuses w d ∙ e)).1) (rest_adds_back w d)

pub rest_small : (w : RoundBitWord) (d : ℕ) → (cut_of w d).outcome ≡ Done → nat_abs (round_bit_value (rest_of w d).word) ≤ 2 ^ d
rest_small w d e = let c = rest_done w d (rest_refuses w d ∙ e) in rw c.1 (rest_near w d (cut_tells w d c.0).0.bit)
