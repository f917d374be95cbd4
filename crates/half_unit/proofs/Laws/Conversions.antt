-- From and to plain, from and to round-bit: what they do to values. Assumes nothing.
-- Proved here: `from_plain_agree`, `from_plain_up_closed`, `from_plain_even_closed`, `to_plain_closed`, `to_round_bit_closed`, `from_round_bit_closed`,
-- `from_plain_up_value`, `from_plain_even_value`, `from_plain_up_tie`, `from_plain_even_tie`, `from_plain_even_even`, `from_plain_up_greater`,
-- `to_plain_value`, `to_round_bit_value`, `to_from_plain`, `from_round_bit_middle`.
use Prim.Native.Nat.{ℕ, zero, suc, ◌+◌, ◌*◌, ◌^◌, ◌≤◌}
use native.Mathlib.Omega.{arith}
use mathlib.Core.Path.{◌≡◌, refl, ap}
use lib.IntN.{pos, nat_abs, ◌+ℤ◌, ◌-ℤ◌, ◌*ℤ◌, +ℤ_idr, *ℤ_comm}
use borrow.Author.Tests.{ne_eqb}
use Rattle.integers.specs.Numbers.{floor_by, lowest, cleared, digits_below, any_below}
use Rattle.integers.proofs.Kit.{ints, plus_law, times_law, apart}
use Rattle.integers.proofs.Floor.{floor_widened}
use Rattle.integers.proofs.Digits.{lowest_le, lowest_cleared, cleared_law}
use Rattle.integers.proofs.LowDigits.{below_law, below_range, none_below, some_below}
use Rattle.words.specs.Words.{value}
use Rattle.words.specs.Words.Kind.{half_unit}
use Rattle.words.specs.Formats.{narrower, wider}
use Rattle.words.specs.Plain.{plain_value, plain_check, plain_refused, plain_done}
use Rattle.words.specs.RoundBit.{round_bit_value, round_bit_check, round_bit_refused, round_bit_done}
use Rattle.words.specs.HalfUnit.{half_unit_word, half_unit_value, half_unit_check, half_unit_done}
use Rattle.words.specs.Outcomes.{Done}
use Rattle.words.specs.Kinds.{PlainWord}
use Rattle.words.specs.Kinds.{RoundBitWord}
use Rattle.words.specs.Kinds.{HalfUnitWord}
use Rattle.words.proofs.Laws.{RightFormat, Right, plain_passes, round_bit_passes, half_unit_right, half_unit_passes, plain_law, half_unit_law}
use Rattle.words.proofs.Formats.{narrower_passes, narrower_wider}
use Rattle.words.proofs.Rights.{cleared_right, doubled_right}
use Rattle.words.proofs.Operands.{done_passed, wider_right}
use Rattle.half_unit.specs.Cuts.{cut_word}
use Rattle.half_unit.specs.Conversions.{from_plain_check, from_plain_up_word, from_plain_up_of, even_floor, from_plain_even_word, from_plain_even_of}
use Rattle.half_unit.specs.Conversions.{to_plain_word}
use Rattle.half_unit.specs.Conversions.{to_plain_check, to_plain_of, to_round_bit_word, to_round_bit_of}
use Rattle.half_unit.specs.Conversions.{from_round_bit_word, from_round_bit_check, from_round_bit_of, interval}
use Rattle.half_unit.proofs.Laws.Cuts.{floor_moves, answer_closed, cut_word_passes}

-- ---- the two rules agree where a dropped digit is 1; elsewhere the even rule clears the lowest digit
pub from_plain_agree : (w : PlainWord) (d : ℕ) → (any_below w.number.0 d ≡ 0 → ⊥) → from_plain_even_word w d ≡ from_plain_up_word w d
unfolding from_plain_even_word from_plain_up_word even_floor
from_plain_agree w d n = rw (ne_eqb (any_below w.number.0 d) 0 n)

from_plain_cleared : (w : PlainWord) (d : ℕ) → any_below w.number.0 d ≡ 0 →
    from_plain_even_word w d ≡ half_unit_word (cleared (floor_by w.number.0 d)) (narrower w.format d)
unfolding from_plain_even_word even_floor
from_plain_cleared w d z = rw z

-- so a fact of the even rule is one of the up rule and one of where every dropped digit is 0
by_even_rule : (w : PlainWord) (d : ℕ) (Q : HalfUnitWord → Type 0) → (any_below w.number.0 d ≡ 0 → Q (from_plain_even_word w d)) → Q (from_plain_up_word w d) →
    Q (from_plain_even_word w d)
by_even_rule w d Q tie up = go (any_below w.number.0 d) refl
  where
    go : (n : ℕ) → any_below w.number.0 d ≡ n → Q (from_plain_even_word w d)
    go zero e = tie e
    go (suc n) e = rw (from_plain_agree w d (λ z. omega arith)) up

-- ---- what the checks of the conversions with one digit more tell
to_plain_done : (w : HalfUnitWord) → (to_plain_of w).outcome ≡ Done → to_plain_check w ≡ Done
to_plain_done w e = done_passed plain_refused (λ a. a.outcome) (λ c. refl) (to_plain_check w) (plain_done (to_plain_word w)) e

to_plain_tells : (w : HalfUnitWord) → to_plain_check w ≡ Done → Right w.format w.number.0 0 × RightFormat (wider w.format 1)
to_plain_tells w c = wider_right w.format w.number.0 0 1 c

from_round_bit_tells : (w : RoundBitWord) → from_round_bit_check w ≡ Done → Right w.format w.number.0 w.number.1 × RightFormat (wider w.format 1)
from_round_bit_tells w c = wider_right w.format w.number.0 w.number.1 1 c

-- ---- the words that a passed check lets through pass their own. The up rule cuts the half-unit word that has the plain word's number
up_word_passes : (w : PlainWord) (d : ℕ) → from_plain_check w d ≡ Done → half_unit_check (from_plain_up_word w d) ≡ Done
unfolding from_plain_up_word cut_word
up_word_passes w d c = cut_word_passes (half_unit_word w.number.0 w.format) d c

even_word_passes : (w : PlainWord) (d : ℕ) → from_plain_check w d ≡ Done → half_unit_check (from_plain_even_word w d) ≡ Done
unfolding from_plain_up_word
even_word_passes w d c =
    let up = up_word_passes w d c in
    let right = cleared_right (half_unit_right (from_plain_up_word w d) up) in
    by_even_rule w d (λ u. half_unit_check u ≡ Done) (λ z. rw (from_plain_cleared w d z) (half_unit_passes _ right)) up

plain_word_right : (w : HalfUnitWord) → to_plain_check w ≡ Done → Right (to_plain_word w).format (to_plain_word w).number.0 0
unfolding to_plain_word
plain_word_right w c = let t = to_plain_tells w c in doubled_right 1 0 t.0 t.1 (omega arith) (omega arith)

middle_word_passes : (w : RoundBitWord) → from_round_bit_check w ≡ Done → half_unit_check (from_round_bit_word w) ≡ Done
unfolding from_round_bit_word
middle_word_passes w c = let t = from_round_bit_tells w c in half_unit_passes _ (doubled_right w.number.1 0 t.0 t.1 t.0.bit (omega arith))

-- ---- closed: the word of a done answer passes its own check
pub from_plain_up_closed : (w : PlainWord) (d : ℕ) → (from_plain_up_of w d).outcome ≡ Done → half_unit_check (from_plain_up_of w d).word ≡ Done
from_plain_up_closed w d e = answer_closed (from_plain_check w d) (from_plain_up_word w d) (up_word_passes w d) e

pub from_plain_even_closed : (w : PlainWord) (d : ℕ) → (from_plain_even_of w d).outcome ≡ Done → half_unit_check (from_plain_even_of w d).word ≡ Done
from_plain_even_closed w d e = answer_closed (from_plain_check w d) (from_plain_even_word w d) (even_word_passes w d) e

pub to_plain_closed : (w : HalfUnitWord) → (to_plain_of w).outcome ≡ Done → plain_check (to_plain_of w).word ≡ Done
to_plain_closed w e = let c = to_plain_done w e in rw c (plain_passes (to_plain_word w) (plain_word_right w c))

pub to_round_bit_closed : (w : HalfUnitWord) → (to_round_bit_of w).outcome ≡ Done → round_bit_check (to_round_bit_of w).word ≡ Done
unfolding to_round_bit_word
to_round_bit_closed w e =
    let c = done_passed round_bit_refused (λ a. a.outcome) (λ c. refl) (to_plain_check w) (round_bit_done (to_round_bit_word w)) e in
    rw c (round_bit_passes (to_round_bit_word w) (plain_word_right w c))

pub from_round_bit_closed : (w : RoundBitWord) → (from_round_bit_of w).outcome ≡ Done → half_unit_check (from_round_bit_of w).word ≡ Done
from_round_bit_closed w e = answer_closed (from_round_bit_check w) (from_round_bit_word w) (middle_word_passes w) e

-- ---- from plain: the value moves by at most half a new unit, 2 ^ d half old units, and by exactly that only where every dropped digit is 0
-- how far a half-unit word u, whose unit is 2 ^ d of w's, stands from w
abbrev moved : PlainWord → ℕ → HalfUnitWord → ℕ
moved w d u = nat_abs ((half_unit_value u *ℤ pos (2 ^ d)) -ℤ plain_value w)

up_moves : (w : PlainWord) (d : ℕ) → moved w d (from_plain_up_word w d) ≡ apart (2 ^ d) (2 * digits_below w.number.0 d)
unfolding from_plain_up_word
up_moves w d =
    let x = w.number.0 in
    omega (arith, floor_moves x (plain_value w) (floor_by x d) 0 0 d (omega (arith, plain_law x)) (omega arith))

even_moves : (w : PlainWord) (d : ℕ) → any_below w.number.0 d ≡ 0 → moved w d (from_plain_even_word w d) ≡ 2 ^ d
even_moves w d z =
    let x = w.number.0 in
    let q = floor_by x d in
    let moves = floor_moves x (plain_value w) (cleared q) 0 (lowest q) d (omega (arith, plain_law x)) (cleared_law q) in
    rw (from_plain_cleared w d z) (omega (arith, moves, none_below x d z, once (lowest q) (lowest_le q)))
  where
    once : (l : ℕ) → l ≤ 1 → apart (2 ^ d) (2 * (l * 2 ^ d)) ≡ 2 ^ d
    once zero h = omega arith
    once (suc zero) h = omega arith
    once (suc (suc l)) h = absurd (omega arith)

pub from_plain_up_value : (w : PlainWord) (d : ℕ) → nat_abs ((half_unit_value (from_plain_up_word w d) *ℤ pos (2 ^ d)) -ℤ plain_value w) ≤ 2 ^ d
from_plain_up_value w d = omega (arith, up_moves w d, below_range w.number.0 d)

pub from_plain_even_value : (w : PlainWord) (d : ℕ) → nat_abs ((half_unit_value (from_plain_even_word w d) *ℤ pos (2 ^ d)) -ℤ plain_value w) ≤ 2 ^ d
from_plain_even_value w d =
    by_even_rule w d (λ u. moved w d u ≤ 2 ^ d) (λ z. omega (arith, even_moves w d z)) (from_plain_up_value w d)

pub from_plain_up_tie : (w : PlainWord) (d : ℕ) → nat_abs ((half_unit_value (from_plain_up_word w d) *ℤ pos (2 ^ d)) -ℤ plain_value w) ≡ 2 ^ d →
    any_below w.number.0 d ≡ 0
from_plain_up_tie w d t = some_below w.number.0 d (omega (arith, up_moves w d, below_range w.number.0 d))

pub from_plain_even_tie : (w : PlainWord) (d : ℕ) → nat_abs ((half_unit_value (from_plain_even_word w d) *ℤ pos (2 ^ d)) -ℤ plain_value w) ≡ 2 ^ d →
    any_below w.number.0 d ≡ 0
from_plain_even_tie w d t =
    by_even_rule w d (λ u. moved w d u ≡ 2 ^ d → any_below w.number.0 d ≡ 0) (λ z s. z) (from_plain_up_tie w d) t

-- there the even rule gives an even number, and the up rule the greater of the two neighbours
pub from_plain_even_even : (w : PlainWord) (d : ℕ) → any_below w.number.0 d ≡ 0 → lowest (from_plain_even_word w d).number.0 ≡ 0
from_plain_even_even w d z = rw (from_plain_cleared w d z) (lowest_cleared (floor_by w.number.0 d))

pub from_plain_up_greater : (w : PlainWord) (d : ℕ) → any_below w.number.0 d ≡ 0 →
    half_unit_value (from_plain_up_word w d) *ℤ pos (2 ^ d) ≡ plain_value w +ℤ pos (2 ^ d)
unfolding from_plain_up_word
from_plain_up_greater w d z =
    let x = w.number.0 in
    let q = floor_by x d in
    let whole = ap (λ (i : ℕ). i * 2 ^ d) (half_unit_law q) in
    omega (
      ints,
      times_law (value half_unit q 0) (pos (2 ^ d)),
      plus_law (plain_value w) (pos (2 ^ d)),
      plain_law x,
      below_law x d,
      none_below x d z,
    )

-- ---- to plain and to round-bit are exact: the new unit is half the old one. From plain at depth 1 is the way back
pub to_plain_value : (w : HalfUnitWord) → plain_value (to_plain_word w) ≡ pos 2 *ℤ half_unit_value w
unfolding to_plain_word value
to_plain_value w = refl

pub to_round_bit_value : (w : HalfUnitWord) → round_bit_value (to_round_bit_word w) ≡ pos 2 *ℤ half_unit_value w
unfolding to_round_bit_word to_plain_word value
to_round_bit_value w = rw (+ℤ_idr ((pos 2 *ℤ w.number.0) +ℤ pos 1))

to_plain_back : (w : HalfUnitWord) → from_plain_up_word (to_plain_word w) 1 ≡ w
unfolding from_plain_up_word to_plain_word
to_plain_back w =
    let x = w.number.0 in
    rw (*ℤ_comm (pos 2) x, floor_widened x 1 1 (omega arith), narrower_wider w.format 1)

pub to_from_plain : (w : HalfUnitWord) → (to_plain_of w).outcome ≡ Done → from_plain_up_of (to_plain_of w).word 1 ≡ half_unit_done w
unfolding to_plain_word
to_from_plain w e =
    let c = to_plain_done w e in
    let t = to_plain_tells w c in
    let narrows = narrower_passes (wider w.format 1) 1 t.1 (rw (narrower_wider w.format 1) t.0.format) in
    rw (c, plain_passes (to_plain_word w) (plain_word_right w c), narrows, to_plain_back w)

-- ---- from round-bit is the middle of the word's interval: in halves of the new unit the ends count double, so their middle is their sum
pub from_round_bit_middle : (w : RoundBitWord) → half_unit_value (from_round_bit_word w) ≡ (interval w).0 +ℤ (interval w).1
unfolding from_round_bit_word
from_round_bit_middle w =
    let record { 0 = a; 1 = r } = w.number in
    let low = (pos 2 *ℤ a) +ℤ pos r in
    let high = (pos 2 *ℤ a) +ℤ pos (1 + r) in
    omega (ints, half_unit_law low, plus_law low high, plus_law (pos 2 *ℤ a) (pos r), plus_law (pos 2 *ℤ a) (pos (1 + r)))
