-- The sign change of a number and its round bit, of a word, and one that is made on a condition. Assumes nothing.
-- Proved here: `signs_twice`, `signs_value`, `signs_right`, `sign_change_passed`, `sign_change_done`, `sign_change_closed`, `sign_change_value`,
-- `sign_change_twice`, `sum_sign_passed`, `signs_if_bit`, `signs_if_size`, `signs_if_not`, `signs_if_not_twice`, `turned_sign`, `magnitude_is_size`.
use Prim.Native.Nat.{ℕ, ◌-◌, ◌≤◌}
use native.Mathlib.Omega.{arith}
use mathlib.Core.Path.{◌≡◌, refl, sym}
use mathlib.Core.Bool.{Bool, true, false, not}
use lib.IntN.{ℤ, pos, negsuc, neg_ℤ, ◌+ℤ◌}
use lib.Signed.{mag, lt_z}
use borrow.Author.Tests.{le-ltb}
use Rattle.integers.specs.Numbers.{turned}
use Rattle.integers.proofs.Kit.{ints, plus_law, neg_law}
use Rattle.integers.proofs.Floor.{turned_pos, turned_negsuc, turned_law, turned_turned, turned_size}
use Rattle.words.specs.Words.{value}
use Rattle.words.specs.Words.Kind.{round_bit}
use Rattle.words.specs.RoundBit.{round_bit_value, round_bit_check}
use Rattle.words.specs.declared.Format.{Format}
use Rattle.words.specs.Outcomes.{Done}
use Rattle.words.specs.declared.RoundBit.{RoundBit}
use Rattle.words.specs.Kinds.{RoundBitWord}
use Rattle.words.proofs.Laws.{Right, round_bit_right, round_bit_law, word_right, three_passed}
use Rattle.round_bit.specs.Cuts.{sign_changed, sign_change_word, sign_change_of}
use Rattle.round_bit.specs.Arithmetic.{sum_check, sign_changed_if, magnitude}
use Rattle.round_bit.proofs.Checks.{word_done}

-- twice gives the number and the round bit back
pub signs_twice : (n : RoundBit) → n.1 ≤ 1 → sign_changed (sign_changed n) ≡ n
signs_twice n h = let bit : 1 - (1 - n.1) ≡ n.1 = omega arith in rw (turned_turned n.0, bit)

-- -1 - a and 1 - r add up to -(a + r)
pub signs_value : (n : RoundBit) → n.1 ≤ 1 → ((sign_changed n).0 +ℤ pos (sign_changed n).1) ≡ neg_ℤ (n.0 +ℤ pos n.1)
signs_value n h =
    omega (
      ints,
      turned_law n.0,
      plus_law (turned n.0) (pos (1 - n.1)),
      plus_law n.0 (pos n.1),
      neg_law (n.0 +ℤ pos n.1),
    )

-- what is right in a format stays so
pub signs_right : (f : Format) (n : RoundBit) → Right f n.0 n.1 → Right f (sign_changed n).0 (sign_changed n).1
signs_right f n g = record { format = g.format; size = rw (turned_size n.0) g.size; bit = omega arith }

pub sign_change_passed : (w : RoundBitWord) → round_bit_check w ≡ Done → round_bit_check (sign_change_word w) ≡ Done
unfolding sign_change_word
sign_change_passed w e = word_right _ _ _ (signs_right w.format w.number (round_bit_right w e))

pub sign_change_done : (w : RoundBitWord) → (sign_change_of w).outcome ≡ Done → (round_bit_check w ≡ Done) × ((sign_change_of w).word ≡ sign_change_word w)
sign_change_done w e = word_done (round_bit_check w) (sign_change_word w) e

-- closed: the word of a done answer passes its own check
pub sign_change_closed : (w : RoundBitWord) → (sign_change_of w).outcome ≡ Done → round_bit_check (sign_change_of w).word ≡ Done
sign_change_closed w e = let c = sign_change_done w e in rw c.1 (sign_change_passed w c.0)

-- the value is negated exactly; twice gives the word back
pub sign_change_value : (w : RoundBitWord) → round_bit_check w ≡ Done → round_bit_value (sign_change_word w) ≡ neg_ℤ (round_bit_value w)
unfolding sign_change_word
sign_change_value w e =
    let record { 0 = a; 1 = r } = w.number in
    omega (ints, round_bit_law (turned a) (1 - r), round_bit_law a r, neg_law (value round_bit a r), turned_law a, (round_bit_right w e).bit)

pub sign_change_twice : (w : RoundBitWord) → round_bit_check w ≡ Done → sign_change_word (sign_change_word w) ≡ w
unfolding sign_change_word
sign_change_twice w e = λ i. record { number = signs_twice w.number (round_bit_right w e).bit i; format = w.format }

pub sum_sign_passed : (x y : RoundBitWord) → sum_check x y ≡ Done → sum_check x (sign_change_word y) ≡ Done
unfolding sign_change_word
sum_sign_passed x y e =
    let p = three_passed (round_bit_check x) (round_bit_check y) _ e in rw (p.0, sign_change_passed y p.1) p.2

-- ---- a sign change that is made or not: it keeps the size, and a round bit stays one
pub signs_if_bit : (c : Bool) (n : RoundBit) → n.1 ≤ 1 → (sign_changed_if c n).1 ≤ 1
signs_if_bit true n h = omega arith
signs_if_bit false n h = h

pub signs_if_size : (c : Bool) (n : RoundBit) → mag (sign_changed_if c n).0 ≡ mag n.0
signs_if_size true n = turned_size n.0
signs_if_size false n = refl

-- where the answer to "is it made?" is turned over: one sign change more, and none more of what was sign-changed before
pub signs_if_not : (c : Bool) (n : RoundBit) → n.1 ≤ 1 → sign_changed_if (not c) n ≡ sign_changed (sign_changed_if c n)
signs_if_not true n h = sym (signs_twice n h)
signs_if_not false n h = refl

pub signs_if_not_twice : (c : Bool) (n : RoundBit) → n.1 ≤ 1 → sign_changed_if (not c) (sign_changed n) ≡ sign_changed_if c n
signs_if_not_twice true n h = refl
signs_if_not_twice false n h = signs_twice n h

-- ---- -1 - a has the other sign, and the number of the magnitude is the size
pub turned_sign : (a : ℤ) → lt_z (turned a) (pos 0) ≡ not (lt_z a (pos 0))
turned_sign (pos a) = rw (turned_pos a, le-ltb a 0 (omega arith))
turned_sign (negsuc a) = rw (turned_negsuc a, le-ltb a 0 (omega arith))

pub magnitude_is_size : (n : RoundBit) → (magnitude n).0 ≡ pos (mag n.0)
magnitude_is_size n = of n.0 n.1
  where
    of : (a : ℤ) (r : ℕ) → (magnitude (record { 0 = a; 1 = r })).0 ≡ pos (mag a)
    of (pos a) r = rw (le-ltb a 0 (omega arith))
    of (negsuc a) r = turned_negsuc a
