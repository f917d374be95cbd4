-- What a passed check of a format and of a word tells, and what it asks: `width_passed`, `right_format`, `format_right`, `right`, `word_right`, `small`,
-- `machine`, `blank_right`, and the same of each kind of word. Assumes nothing.
-- Proved here: `narrow`, `wide`, `fine`, `coarse`, `format`, `size`, `bit`, `plain_right`, `plain_passes`, `round_bit_right`, `round_bit_passes`,
-- `half_unit_right`, `half_unit_passes`.
use Prim.Native.Nat.{ℕ, ◌-◌, ◌^◌, ◌≤◌, ◌<◌}
use native.Mathlib.Nat.{lt_of_lt_of_le}
use native.Mathlib.Omega.{arith}
use mathlib.Core.Path.{◌≡◌, refl}
use mathlib.Core.Bool.{not, ◌&&◌, ◌||◌}
use lib.Dec.{leb}
use lib.Pow.{pow_mono}
use lib.IntN.{ℤ, pos, neg_ℤ}
use lib.Signed.{mag, ◌≤ℤ◌}
use mir.Syntax.{w64}
use mir.Val.{SFits}
use borrow.Author.Tests.{not-false, leb-true, le-leb}
use Rattle.integers.specs.Numbers.{lies, fits_width}
use Rattle.integers.proofs.Kit.{ints, and_both}
use Rattle.integers.proofs.Width.{lies_true, lies_low, lies_high, fits_size, by_fits}
use Rattle.words.specs.Words.{bad_width, bad_unit, outside, bad_round_bit}
use Rattle.words.specs.Refusals.{refuse_for, format_check, word_check, blank_format}
use Rattle.words.specs.declared.Cause.TheVariants.{Width, Unit, Number}
use Rattle.words.specs.Outcomes.{Done}
use Rattle.words.specs.Plain.{plain_check}
use Rattle.words.specs.RoundBit.{round_bit_check}
use Rattle.words.specs.HalfUnit.{half_unit_check}
use Rattle.words.specs.declared.Format.{Format}
use Rattle.words.specs.Kinds.{PlainWord}
use Rattle.words.specs.Kinds.{RoundBitWord}
use Rattle.words.specs.Kinds.{HalfUnitWord}
use Rattle.words.proofs.Laws.Outcomes.{passed, both_passed, or-false}

-- ---- a width that 1 does not refuse lies between the ends that it asks for
pub width_passed : (least most n : ℕ) → refuse_for Width (not (leb least n && leb n most)) ≡ Done → (least ≤ n) × (n ≤ most)
width_passed least most n e =
    let w = and_both (leb least n) (leb n most) (not-false _ (passed Width (not (leb least n && leb n most)) e)) in
    (leb-true least n w.0, leb-true n most w.1)

-- ---- what a passed check of a format tells, and what it asks
pub record RightFormat (f : Format) : Type 0 where
  pub narrow : 2 ≤ f.width
  pub wide : f.width ≤ 63
  pub fine : neg_ℤ (pos 127) ≤ℤ f.unit
  pub coarse : f.unit ≤ℤ pos 127

pub right_format : (f : Format) → format_check f ≡ Done → RightFormat f
unfolding format_check
right_format f e =
    let p = both_passed (refuse_for Width (bad_width f.width)) (refuse_for Unit (bad_unit f.unit)) e in
    let w = width_passed 2 63 f.width p.0 in
    let u = not-false (lies (neg_ℤ (pos 127)) (pos 127) f.unit) (passed Unit (bad_unit f.unit) p.1) in
    record {
      narrow = w.0;
      wide = w.1;
      fine = omega (ints, lies_low (neg_ℤ (pos 127)) (pos 127) f.unit u);
      coarse = omega (ints, lies_high (neg_ℤ (pos 127)) (pos 127) f.unit u);
    }

pub format_right : (f : Format) → RightFormat f → format_check f ≡ Done
unfolding format_check
format_right f g =
    rw (
      le-leb 2 f.width g.narrow,
      le-leb f.width 63 g.wide,
      lies_true (neg_ℤ (pos 127)) (pos 127) f.unit (omega (ints, g.fine)) (omega (ints, g.coarse)),
    )

-- ---- what a passed check of a word tells: where every operation's arithmetic starts
pub record Right (f : Format) (x : ℤ) (r : ℕ) : Type 0 where
  pub format : RightFormat f
  pub size : mag x < 2 ^ (f.width - 1)
  pub bit : r ≤ 1

pub right : (f : Format) (x : ℤ) (r : ℕ) → word_check f x r ≡ Done → Right f x r
unfolding word_check
right f x r e =
    let p = both_passed (format_check f) (refuse_for Number (outside f x || bad_round_bit r)) e in
    let n = or-false (outside f x) (bad_round_bit r) (passed Number (outside f x || bad_round_bit r) p.1) in
    record {
      format = right_format f p.0;
      size = fits_size x f.width (not-false _ n.0);
      bit = leb-true r 1 (not-false _ n.1);
    }

pub word_right : (f : Format) (x : ℤ) (r : ℕ) → Right f x r → word_check f x r ≡ Done
unfolding word_check
word_right f x r g = rw (format_right f g.format, by_fits x f.width g.size, le-leb r 1 g.bit)

-- its number is far inside an i64: two of them and a carry still fit
pub small : {f : Format} {x : ℤ} {r : ℕ} → Right f x r → mag x < 2 ^ 62
small {f} g = lt_of_lt_of_le g.size (pow_mono {i = f.width - 1} {j = 62} (omega (arith, g.format.wide)))

pub machine : {f : Format} {x : ℤ} {r : ℕ} → Right f x r → SFits w64 x
machine g = record { sfits = omega (arith, small g) }

-- the blank word is right, so every operation takes what a refusal handed back
pub blank_right : word_check blank_format (pos 0) 0 ≡ Done
unfolding word_check format_check fits_width
blank_right = refl

-- ---- the same of each kind of word, both ways
pub plain_right : (w : PlainWord) → plain_check w ≡ Done → Right w.format w.number.0 0
plain_right w e = right w.format w.number.0 0 e

pub plain_passes : (w : PlainWord) → Right w.format w.number.0 0 → plain_check w ≡ Done
plain_passes w g = word_right w.format w.number.0 0 g

abbrev pub RightRoundBit : RoundBitWord → Type 0
RightRoundBit w = Right w.format w.number.0 w.number.1

pub round_bit_right : (w : RoundBitWord) → round_bit_check w ≡ Done → RightRoundBit w
round_bit_right w e = right w.format w.number.0 w.number.1 e

pub round_bit_passes : (w : RoundBitWord) → RightRoundBit w → round_bit_check w ≡ Done
round_bit_passes w g = word_right w.format w.number.0 w.number.1 g

pub half_unit_right : (w : HalfUnitWord) → half_unit_check w ≡ Done → Right w.format w.number.0 0
half_unit_right w e = right w.format w.number.0 0 e

pub half_unit_passes : (w : HalfUnitWord) → Right w.format w.number.0 0 → half_unit_check w ≡ Done
half_unit_passes w g = word_right w.format w.number.0 0 g
