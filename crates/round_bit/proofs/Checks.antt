-- What a done answer and a passed check of each operation tell, and the definitions by depth at a depth that is not 0. Assumes nothing.
-- Proved here: `word_done`, `word_outcome`, `cut_passed`, `widen_passed`, `widen_right`, `widen_room`, `sum_right`, `sum_room`, `product_passed`,
-- `two_given`, `cut_made`, `rest_made`, `cut_bit`, `rest_bit`.
use Rattle.std.specs.Prelude.{Ok, Err}
use Prim.Native.Nat.{ℕ, zero, suc, ◌+◌, ◌-◌, ◌^◌, ◌<◌, ◌≤◌}
use native.Mathlib.Omega.{arith}
use native.Mathlib.Nat.{lt_of_lt_of_le}
use mathlib.Core.Path.{◌≡◌, refl}
use lib.Pow.{pow_mono}
use lib.IntN.{ℤ}
use lib.Signed.{mag}
use mir.Syntax.{w64}
use mir.Val.{SFits, to_z, of_z}
use mir.Facts.{to_z-of_z}
use Rattle.integers.specs.Numbers.{floor_by, low_digits}
use Rattle.integers.proofs.Floor.{floor_none}
use Rattle.words.specs.Formats.{narrower, narrower_check, wider, answer_check}
use Rattle.words.specs.RoundBit.{round_bit_word, round_bit_check, round_bit_refused, round_bit_done, ◌and_then◌}
use Rattle.words.specs.Outcomes.{Outcome}
use Rattle.words.specs.Outcomes.{Done, given}
use Rattle.words.specs.declared.Format.{Format}
use Rattle.words.specs.Kinds.{RoundBitWord}
use Rattle.words.proofs.Laws.{refused_not_done, both_passed, three_passed, RightRoundBit, round_bit_right, small}
use Rattle.words.proofs.Formats.{narrower_none, answer_right}
use Rattle.words.proofs.Operands.{outcome_kept}
use Rattle.round_bit.specs.Cuts.{cut_by, cut_check, rest_word, cut_and_rest_answer, two_answered, widen_check}
use Rattle.round_bit.specs.Arithmetic.{sum_check, product_format, product_check}

-- a done answer passed its check, and has the word that it was made with
pub word_done : (o : Outcome) (w : RoundBitWord) → (o and_then round_bit_done w).outcome ≡ Done → (o ≡ Done) × ((o and_then round_bit_done w).word ≡ w)
word_done (Ok _) w e = (refl, refl)
word_done (Err c) w e = absurd (refused_not_done e)

pub word_outcome : (o : Outcome) (w : RoundBitWord) → (o and_then round_bit_done w).outcome ≡ o
word_outcome o w = outcome_kept round_bit_refused (λ a. a.outcome) (λ c. refl) o (round_bit_done w) refl

-- a cut and its rest behind one check, as their answer
pub two_given : (o : Outcome) (v r : RoundBitWord) →
    two_answered (given o (record { word = v; rest = r })) ≡ cut_and_rest_answer (o and_then round_bit_done v) (o and_then round_bit_done r)
two_given (Ok _) v r = refl
two_given (Err c) v r = refl

pub cut_passed : (w : RoundBitWord) (d : ℕ) → cut_check w d ≡ Done → (round_bit_check w ≡ Done) × (narrower_check w.format d ≡ Done)
cut_passed w d e = both_passed (round_bit_check w) (narrower_check w.format d) e

pub widen_passed : (w : RoundBitWord) (d : ℕ) → widen_check w d ≡ Done → (round_bit_check w ≡ Done) × (answer_check (wider w.format d) ≡ Done)
widen_passed w d e = both_passed (round_bit_check w) (answer_check (wider w.format d)) e

pub widen_right : (w : RoundBitWord) (d : ℕ) → widen_check w d ≡ Done → RightRoundBit w
widen_right w d e = round_bit_right w (widen_passed w d e).0

pub widen_room : (w : RoundBitWord) (d : ℕ) → widen_check w d ≡ Done → (d ≤ 61) × (mag w.number.0 < 2 ^ (62 - d))
widen_room w d e =
    let p = widen_passed w d e in
    let g = round_bit_right w p.0 in
    let n : 2 ≤ w.format.width + d = omega (arith, g.format.narrow) in
    let f = answer_right (wider w.format d) n p.1 in
    (omega (arith, f.wide, g.format.narrow), lt_of_lt_of_le g.size (pow_mono {i = w.format.width - 1} {j = 62 - d} (omega (arith, f.wide))))

pub sum_right : (x y : RoundBitWord) → sum_check x y ≡ Done → RightRoundBit x × RightRoundBit y
sum_right x y e = let p = three_passed (round_bit_check x) (round_bit_check y) _ e in (round_bit_right x p.0, round_bit_right y p.1)

-- their numbers are far inside an i64
pub sum_room : (x y : RoundBitWord) → sum_check x y ≡ Done → (mag x.number.0 < 2 ^ 62) × (mag y.number.0 < 2 ^ 62)
sum_room x y e = let p = sum_right x y e in (small p.0, small p.1)

pub product_passed : (x y : RoundBitWord) → product_check x y ≡ Done →
    (round_bit_check x ≡ Done) × (round_bit_check y ≡ Done) × (answer_check (product_format x.format y.format) ≡ Done)
product_passed x y e = three_passed (round_bit_check x) (round_bit_check y) _ e

-- ---- a word that the code makes at any depth: "d = 0 returns the word", and the rest is then (0,0)
cut_is : (rule : ℤ → ℕ → ℕ) (w : RoundBitWord) (d : ℕ) →
    round_bit_word (floor_by w.number.0 d) (cut_by rule w d).number.1 (narrower w.format d) ≡ cut_by rule w d
unfolding cut_by
cut_is rule w zero = rw (floor_none w.number.0, narrower_none w.format)
cut_is rule w (suc k) = refl

rest_is : (w : RoundBitWord) (d : ℕ) → round_bit_word (low_digits w.number.0 d) (rest_word w d).number.1 w.format ≡ rest_word w d
unfolding rest_word low_digits
rest_is w zero = refl
rest_is w (suc k) = refl

-- of the machine's number x: the floor q, the round bit r by a rule, and the format g
pub cut_made : (rule : ℤ → ℕ → ℕ) (w : RoundBitWord) (d : ℕ) (q : ℤ) (r : ℕ) (g : Format) → SFits w64 w.number.0 → g ≡ narrower w.format d →
    SFits w64 q → q ≡ floor_by (to_z w64 (of_z w64 w.number.0)) d → r ≡ (cut_by rule w d).number.1 →
    round_bit_word (to_z w64 (of_z w64 q)) r g ≡ cut_by rule w d
cut_made rule w d q r g x f s t b = rw (f, to_z-of_z s, t, to_z-of_z x, b) (cut_is rule w d)

pub rest_made : (w : RoundBitWord) (d : ℕ) (q : ℤ) (r : ℕ) → SFits w64 w.number.0 → SFits w64 q →
    q ≡ low_digits (to_z w64 (of_z w64 w.number.0)) d → r ≡ (rest_word w d).number.1 → round_bit_word (to_z w64 (of_z w64 q)) r w.format ≡ rest_word w d
rest_made w d q r x s t b = rw (to_z-of_z s, t, to_z-of_z x, b) (rest_is w d)

-- the round bit at a depth that is not 0
one_less : (k : ℕ) → suc k - 1 ≡ k
one_less k = omega arith

pub cut_bit : (rule : ℤ → ℕ → ℕ) (w : RoundBitWord) (d : ℕ) (r : ℕ) → (d ≡ 0 → ⊥) → SFits w64 w.number.0 →
    r ≡ rule (to_z w64 (of_z w64 w.number.0)) (d - 1) → r ≡ (cut_by rule w d).number.1
unfolding cut_by
cut_bit rule w zero r h x b = absurd (h refl)
cut_bit rule w (suc k) r h x b = rw (b, to_z-of_z x, one_less k)

pub rest_bit : (w : RoundBitWord) (d : ℕ) → (d ≡ 0 → ⊥) → (rest_word w d).number.1 ≡ w.number.1
unfolding rest_word
rest_bit w zero h = absurd (h refl)
rest_bit w (suc k) h = refl
