-- Even cut, which goes by the value: how far it moves, where the new count of units is even, what a tie is by the digits, and what stays of
-- equation 11. For a depth that is not 0, d = k + 1. Assumes nothing.
-- Proved here: `even_round_bit_lem`, `tied_digits`, `digits_tied`, `even_cut_done`, `even_cut_refuses`, `even_cut_none`, `even_cut_closed`,
-- `even_cut_value`, `even_cut_tie`, `even_cut_nearest`, `even_cut_plain`, `even_cut_equation_11`, `even_cut_sign_outcome`, `even_cut_sign`.
use Prim.Native.Nat.{ℕ, zero, suc, ◌+◌, ◌-◌, ◌*◌, ◌^◌, ◌<◌, ◌≤◌}
use native.Mathlib.Nat.{pow-succ'}
use native.Mathlib.Omega.{arith}
use mathlib.Core.Path.{◌≡◌, refl, sym, ap, ◌∙◌}
use mathlib.Core.Bool.{true, false, cond}
use lib.IntN.{ℤ, pos, nat_abs, ◌+ℤ◌, ◌-ℤ◌, ◌*ℤ◌}
use borrow.Author.Tests.{eqb-true, eqb-false, eq-eqb}
use Rattle.integers.specs.Numbers.{turned, floor_by, lowest, digit, digits_below}
use Rattle.integers.proofs.Kit.{minus_law, times_law, abs_law, apart, abs_apart, one_zero}
use Rattle.integers.proofs.Times.{others_farther}
use Rattle.integers.proofs.Floor.{floor_turned}
use Rattle.integers.proofs.Digits.{lowest_evened}
use Rattle.integers.proofs.LowDigits.{below_law}
use Rattle.integers.proofs.Even.{above, goes_up, equation_11, middle_is, even_bit, digits_bit, even_bit_turned, Rounded, even_rounds}
use Rattle.integers.proofs.Ties.{middle_digits, digits_middle}
use Rattle.words.specs.Words.{value}
use Rattle.words.specs.Words.Kind.{round_bit}
use Rattle.words.specs.RoundBit.{round_bit_value, round_bit_check, round_bit_done, ◌and_then◌}
use Rattle.words.specs.Outcomes.{Done}
use Rattle.words.specs.Kinds.{RoundBitWord}
use Rattle.words.proofs.Laws.{RightRoundBit, round_bit_passes, round_bit_law}
use Rattle.words.proofs.Rights.{floor_right}
use Rattle.words.specs.Kinds.{RoundBitCutAnswer}
use Rattle.words.specs.Answers.{cut_answer}
use Rattle.round_bit.specs.Cuts.{sign_change_word, cut_by, cut_word, cut_check, cut_of, tied, even_round_bit, even_cut_word, even_cut_of}
use Rattle.round_bit.proofs.Checks.{word_done, word_outcome}
use Rattle.round_bit.proofs.Laws.Cuts.{cut_done, cut_tells, cut_none, cut_sign_outcome}

module _ (r : ℕ) (a : ℤ) (k : ℕ) where
  -- ---- the new round bit is 1 exactly where the value is rounded up to the next count of new units
  pub even_round_bit_lem : r ≤ 1 → even_round_bit r a k ≡ cond (goes_up r a k) 1 0
  unfolding even_round_bit digit
  even_round_bit_lem h = even_bit r a k h

  rounded : r ≤ 1 → Rounded r a k (even_round_bit r a k)
  rounded h = rw (even_round_bit_lem h) (even_rounds r a k h)

  in_middle : tied r a k ≡ true → above r a k ≡ 2 ^ k
  in_middle t = eqb-true (above r a k) (2 ^ k) (sym (middle_is r a k) ∙ t)

  off_middle : tied r a k ≡ false → above r a k ≡ 2 ^ k → ⊥
  off_middle t = eqb-false (above r a k) (2 ^ k) (sym (middle_is r a k) ∙ t)

  -- ---- a tie: round bit 0 and low digits 1 0 .. 0, or round bit 1 and low digits 0 1 .. 1
  pub tied_digits : r ≤ 1 → tied r a k ≡ true → (digit a k ≡ 1 - r) × ((i : ℕ) → i < k → digit a i ≡ r)
  tied_digits h t = middle_digits r a k h (in_middle t)

  pub digits_tied : r ≤ 1 → digit a k ≡ 1 - r → ((i : ℕ) → i < k → digit a i ≡ r) → tied r a k ≡ true
  digits_tied h e all = middle_is r a k ∙ eq-eqb (above r a k) (2 ^ k) (digits_middle r a k h e all)

-- ---- a done answer passed its check, and has the word that it was made with; it is refused as the cut is
pub even_cut_done : (w : RoundBitWord) (d : ℕ) → (even_cut_of w d).outcome ≡ Done → (cut_check w d ≡ Done) × ((even_cut_of w d).word ≡ even_cut_word w d)
even_cut_done w d e = word_done (cut_check w d) (even_cut_word w d) e

pub even_cut_refuses : (w : RoundBitWord) (d : ℕ) → (even_cut_of w d).outcome ≡ (cut_of w d).outcome
even_cut_refuses w d = word_outcome (cut_check w d) (even_cut_word w d) ∙ sym (word_outcome (cut_check w d) (cut_word w d))

pub even_cut_none : (w : RoundBitWord) → round_bit_check w ≡ Done → even_cut_of w 0 ≡ cut_answer (round_bit_done w)
unfolding cut_by
even_cut_none w e = rw (cut_done w 0 (ap (λ (a : RoundBitCutAnswer). a.outcome) (cut_none w e))).0

-- ---- closed: the word of a done answer passes its own check
even_cut_right : (w : RoundBitWord) (d : ℕ) → cut_check w d ≡ Done → RightRoundBit (even_cut_word w d)
unfolding cut_by
even_cut_right w zero c = (cut_tells w zero c).0
even_cut_right w (suc k) c =
    let t = cut_tells w (suc k) c in
    let record { 0 = a; 1 = r } = w.number in
    floor_right (suc k) (even_round_bit r a k) t.0 t.1 (rounded r a k t.0.bit).bit

pub even_cut_closed : (w : RoundBitWord) (d : ℕ) → (even_cut_of w d).outcome ≡ Done → round_bit_check (even_cut_of w d).word ≡ Done
even_cut_closed w d e = let c = even_cut_done w d e in rw c.1 (round_bit_passes _ (even_cut_right w d c.0))

-- ---- how far the value moves, in half units
floor_moves : (a : ℤ) (r s d : ℕ) → nat_abs ((value round_bit (floor_by a d) s *ℤ pos (2 ^ d)) -ℤ value round_bit a r) ≡
    2 * apart (s * 2 ^ d) (digits_below a d + r)
floor_moves a r s d =
    let v = value round_bit (floor_by a d) s in
    let x = v *ℤ pos (2 ^ d) in
    let u = value round_bit a r in
    let whole = ap (λ (i : ℕ). i * 2 ^ d) (round_bit_law (floor_by a d) s) in
    let moves = abs_apart (x -ℤ u) (2 * (s * 2 ^ d)) (2 * (digits_below a d + r)) in
    omega (arith, moves (omega (arith, minus_law x u, times_law v (pos (2 ^ d)), round_bit_law a r, below_law a d)))

still : (v : ℤ) → nat_abs ((v *ℤ pos 1) -ℤ v) ≡ 0
still v = let z = (v *ℤ pos 1) -ℤ v in omega (arith, abs_law z, one_zero z, minus_law (v *ℤ pos 1) v, times_law v (pos 1))

-- the value moves by at most half a new unit, which is 2 ^ d half old units
pub even_cut_value : (w : RoundBitWord) (d : ℕ) → (even_cut_of w d).outcome ≡ Done →
    nat_abs ((round_bit_value (even_cut_of w d).word *ℤ pos (2 ^ d)) -ℤ round_bit_value w) ≤ 2 ^ d
unfolding cut_by
even_cut_value w zero e = rw (even_cut_done w zero e).1 (omega (arith, still (round_bit_value w)))
even_cut_value w (suc k) e =
    let c = even_cut_done w (suc k) e in
    let record { 0 = a; 1 = r } = w.number in
    let g = rounded r a k (cut_tells w (suc k) c.0).0.bit in
    rw (c.1, floor_moves a r (even_round_bit r a k) (suc k)) (omega (arith, g.near, pow-succ' 2 k))

half_moved : (s p m : ℕ) → s ≤ 1 → m ≡ p → 2 * apart (s * (2 * p)) m ≡ 2 * p
half_moved zero p m h e = omega arith
half_moved (suc zero) p m h e = omega arith
half_moved (suc (suc s)) p m h e = absurd (omega arith)

module _ (w : RoundBitWord) (k : ℕ) (e : (even_cut_of w (suc k)).outcome ≡ Done) where
  -- ---- at a tie it moves by just as much, and the new count of units is even
  pub even_cut_tie : tied w.number.1 w.number.0 k ≡ true →
      (nat_abs ((round_bit_value (even_cut_of w (suc k)).word *ℤ pos (2 ^ suc k)) -ℤ round_bit_value w) ≡ 2 ^ suc k)
      × (lowest ((even_cut_of w (suc k)).word.number.0 +ℤ pos (even_cut_of w (suc k)).word.number.1) ≡ 0)
  unfolding cut_by digit
  even_cut_tie t =
      let c = even_cut_done w (suc k) e in
      let record { 0 = a; 1 = r } = w.number in
      let g = rounded r a k (cut_tells w (suc k) c.0).0.bit in
      let there = in_middle r a k t in (
        rw (c.1, floor_moves a r (even_round_bit r a k) (suc k), pow-succ' 2 k) (half_moved (even_round_bit r a k) (2 ^ k) (above r a k) g.bit there),
        rw (c.1, g.even there) (lowest_evened (floor_by a (suc k))),
      )

  -- ---- not at a tie it is the one nearest whole count of new units: any other is farther away
  pub even_cut_nearest : tied w.number.1 w.number.0 k ≡ false →
      (count : ℤ) → (count ≡ (even_cut_of w (suc k)).word.number.0 +ℤ pos (even_cut_of w (suc k)).word.number.1 → ⊥) →
      nat_abs ((round_bit_value (even_cut_of w (suc k)).word *ℤ pos (2 ^ suc k)) -ℤ round_bit_value w)
      < nat_abs (((pos 2 *ℤ count) *ℤ pos (2 ^ suc k)) -ℤ round_bit_value w)
  unfolding cut_by value
  even_cut_nearest t count =
      let c = even_cut_done w (suc k) e in
      let record { 0 = a; 1 = r } = w.number in
      let s = even_round_bit r a k in
      let far = (rounded r a k (cut_tells w (suc k) c.0).0.bit).nearer (off_middle r a k t) in
      rw c.1
      (others_farther (round_bit_value w) (floor_by a (suc k) +ℤ pos s) count (2 ^ suc k) (rw (floor_moves a r s (suc k)) (omega (arith, pow-succ' 2 k))))

-- otherwise than at a tie it is the cut
pub even_cut_plain : (w : RoundBitWord) (k : ℕ) → tied w.number.1 w.number.0 k ≡ false → even_cut_word w (suc k) ≡ cut_word w (suc k)
unfolding cut_by even_round_bit
even_cut_plain w k t = rw t

-- ---- words with round bit 0 keep the answers that they have by equation 11
pub even_cut_equation_11 : (w : RoundBitWord) (d : ℕ) → w.number.1 ≡ 0 →
    even_cut_of w d ≡ cut_answer (cut_check w d and_then round_bit_done (cut_by equation_11 w d))
unfolding cut_by
even_cut_equation_11 w zero z = refl
even_cut_equation_11 w (suc k) z =
    let a = w.number.0 in
    let r = w.number.1 in
    rw (even_round_bit_lem r a k (omega arith), z, digits_bit a k)

-- ---- the even cut of the sign-changed word
even_cut_sign_word : (w : RoundBitWord) (d : ℕ) → w.number.1 ≤ 1 → even_cut_word (sign_change_word w) d ≡ sign_change_word (even_cut_word w d)
unfolding cut_by sign_change_word
even_cut_sign_word w zero h = refl
even_cut_sign_word w (suc k) h =
    let record { 0 = a; 1 = r } = w.number in
    let bits = even_round_bit_lem (1 - r) (turned a) k (omega arith) ∙ even_bit_turned r a k h ∙ ap (λ (s : ℕ). 1 - s) (sym (even_round_bit_lem r a k h)) in
    rw (floor_turned a (suc k), bits)

pub even_cut_sign_outcome : (w : RoundBitWord) (d : ℕ) → round_bit_check w ≡ Done → (even_cut_of (sign_change_word w) d).outcome ≡ (even_cut_of w d).outcome
even_cut_sign_outcome w d e = even_cut_refuses (sign_change_word w) d ∙ cut_sign_outcome w d e ∙ sym (even_cut_refuses w d)

pub even_cut_sign : (w : RoundBitWord) (d : ℕ) → (even_cut_of w d).outcome ≡ Done →
    (even_cut_of (sign_change_word w) d).word ≡ sign_change_word (even_cut_of w d).word
even_cut_sign w d e =
    let c = even_cut_done w d e in
    let g = (cut_tells w d c.0).0 in
    let s = even_cut_done (sign_change_word w) d (even_cut_sign_outcome w d (round_bit_passes w g) ∙ e) in
    rw (s.1, c.1) (even_cut_sign_word w d g.bit)
