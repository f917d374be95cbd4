-- What is claimed of imports: over exact numbers, for every sample, width and unit.
use Rattle.std.specs.Prelude.{◌<◌}
use Rattle.std.specs.Float.{binary64}
use Rattle.std.specs.Float.Ieee.{up, down, top, round, to_bits}
use Rattle.std.specs.Float.Ieee.Exact.{HasValue}
use Rattle.std.specs.Float.Ieee.Scale.{finite}
use Rattle.std.specs.Prelude.{ℕ, ◌+◌, ◌-◌, ◌*◌, ◌^◌, ◌≤◌, ◌≡◌, Bool, true, false, cond, eqb, leb}
use Rattle.std.specs.Prelude.{ℤ, pos, neg_ℤ, nat_abs, ◌+ℤ◌, ◌-ℤ◌, ◌*ℤ◌}
use Rattle.integers.specs.Names.{lt_z, lowest}
use Rattle.words.specs.declared.Cause.{Cause}
use Rattle.words.specs.Outcomes.{Done, Refused}
use Rattle.words.specs.declared.Format.{Format}
use Rattle.words.specs.Kinds.{PlainWord}
use Rattle.words.specs.Words.{Kind, value, outside}
use Rattle.words.specs.Words.Kind.{plain, round_bit, half_unit}
use Rattle.words.specs.Refusals.{cause_number, format_check}
use Rattle.words.specs.Plain.{plain_check, plain_done}
use Rattle.words.specs.Flat.{Flat, flat, flat_plain, flat_round_bit, flat_half_unit, refused}
use Rattle.binary64.specs.Import.{sample, signed, whole_count, half_odd_count}
use Rattle.binary64.specs.Import.{to_plain_of, to_round_bit_of, to_half_unit_of}

-- for each kind of word an import's answer, laid flat, and the number of the nearest count
abbrev pub imported : Kind → ℕ → Format → Flat
imported plain bits f = flat_plain (to_plain_of bits f)
imported round_bit bits f = flat_round_bit (to_round_bit_of bits f)
imported half_unit bits f = flat_half_unit (to_half_unit_of bits f)

abbrev pub number : Kind → ℕ → ℤ → ℤ
number plain bits e = whole_count bits e
number round_bit bits e = whole_count bits e
number half_unit bits e = half_odd_count bits e

-- How far a word of number x, round bit 0 and unit 2^e lies from a / c, negative where s is true.
-- Its value is so many halves of up e / down e, so this counts parts of 1 / (2 * c * down e)
unfoldable pub away : Kind → ℤ → Bool → ℕ → ℕ → ℤ → ℕ
away k e s a c x = nat_abs ((value k x 0 *ℤ pos (up e * c)) -ℤ signed s (2 * (a * down e)))

pub record Nearest (k : Kind) (e : ℤ) (s : Bool) (a c : ℕ) (x : ℤ) : Type 0 where
  -- "the nearest whole count of units", "the nearest half-odd count": no other is nearer,
  pub none_nearer : (y : ℤ) → away k e s a c x ≤ away k e s a c y
  -- and if another is as near: "a tie going to the even count", "to the one with the lower digit
  -- clear"
  pub tie : (y : ℤ) → (y ≡ x → ⊥) → away k e s a c y ≡ away k e s a c x → lowest x ≡ 0

-- of a sample that is a / c, negative where s is true, and a right format: its number is the
-- nearest, no other number is, and it is refused by 8 where that is outside the width, and only
-- there
pub record Claims (k : Kind) (bits : ℕ) (f : Format) (s : Bool) (a c : ℕ) : Type 0 where
  pub nearest : Nearest k f.unit s a c (number k bits f.unit)
  pub only : (x : ℤ) → Nearest k f.unit s a c x → x ≡ number k bits f.unit
  pub answer :
      let x = number k bits f.unit in
      imported k bits f
      ≡ cond (outside f x) (refused 8) (flat 0 x 0 f.width f.unit)

abbrev pub Claimed : Type 0
Claimed =
    (k : Kind) (bits : ℕ) (f : Format) (s : Bool) (a c : ℕ) → format_check f ≡ Done → 0 < c →
    HasValue (sample bits) s a c → Claims k bits f s a c

-- that is said of every finite sample, since each is some a / c
abbrev pub Valued : Type 0
Valued =
    (bits : ℕ) → finite (sample bits) ≡ true →
    (s : Bool) × (a : ℕ) × (c : ℕ) × (0 < c) × HasValue (sample bits) s a c

-- "Refusals: 1, 2, then 15 for an infinity or a not-a-number", each with the blank word
abbrev pub Refuses : Type 0
Refuses =
    (k : Kind) (bits : ℕ) (f : Format) →
    ((c : Cause) → format_check f ≡ Refused c → imported k bits f ≡ refused (cause_number c))
    × (format_check f ≡ Done → finite (sample bits) ≡ false → imported k bits f ≡ refused 15)

-- the same 64 bits with the other sign
abbrev pub opposite : ℕ → ℕ
opposite bits = cond (leb (top binary64) bits) (bits - top binary64) (bits + top binary64)

-- a done answer's value, in half units
abbrev pub value_of : Kind → Flat → ℤ
value_of k a = value k a.number a.round

-- the sample is n units of 2^e, negative where s is true
abbrev pub Whole : ℕ → ℤ → Bool → ℕ → Type 0
Whole bits e s n = HasValue (sample bits) s (n * up e) (down e)

-- where a sign change of the bits is one of the value: always, but for a half-unit word only where
-- the count is not whole. Both must be done: -2^(n-1) fits a width and 2^(n-1) does not
abbrev pub Turns : Kind → ℕ → ℤ → Type 0
Turns plain bits e = record {}
Turns round_bit bits e = record {}
Turns half_unit bits e = (s : Bool) (n : ℕ) → Whole bits e s n → ⊥

abbrev pub BothDone : Kind → ℕ → Format → Type 0
BothDone k bits f = ((imported k bits f).refusal ≡ 0) × ((imported k (opposite bits) f).refusal ≡ 0)

abbrev pub SignTurns : Type 0
SignTurns =
    (k : Kind) (bits : ℕ) (f : Format) → bits < 2 ^ 64 → BothDone k bits f →
    Turns k bits f.unit →
    value_of k (imported k (opposite bits) f) ≡ neg_ℤ (value_of k (imported k bits f))

-- at a half-unit tie, both done, the two values add up to 1 unit where the count is even, and to -1
-- where it is odd
abbrev pub TieTurns : Type 0
TieTurns =
    (bits : ℕ) (f : Format) (s : Bool) (n : ℕ) → bits < 2 ^ 64 → BothDone half_unit bits f →
    Whole bits f.unit s n →
    value_of half_unit (imported half_unit bits f)
    +ℤ value_of half_unit (imported half_unit (opposite bits) f)
    ≡ cond (eqb (lowest (pos n)) 0) (pos 2) (neg_ℤ (pos 2))

-- a plain word of at most 53 digits, written as binary64 by the standard's own rounding: it loses
-- nothing there, has 64 bits, and comes back
abbrev pub bits_of : PlainWord → ℕ
bits_of w =
    let x = w.number.0 in
    let e = w.format.unit in
    to_bits binary64 (round binary64 (lt_z x (pos 0)) (nat_abs x * up e) (down e))

abbrev pub ComesBack : Type 0
ComesBack =
    (w : PlainWord) → plain_check w ≡ Done → w.format.width ≤ 53 →
    Whole (bits_of w) w.format.unit (lt_z w.number.0 (pos 0)) (nat_abs w.number.0)
    × (bits_of w < 2 ^ 64) × (to_plain_of (bits_of w) w.format ≡ plain_done w)
