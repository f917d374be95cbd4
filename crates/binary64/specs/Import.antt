-- Document 02, Ask 6: "IEEE 754 binary64 as 64 bits. Import each to a plain, round-bit or half-unit
-- word of a wanted width and unit." "the standard's meaning of the bits" is the library's: a value
-- is nan, an infinity, or fin s m x, which is m * 2^x, negative where s is true.
use Rattle.std.specs.Prelude.{◌%◌, Float}
use Rattle.std.specs.Int.Signed.{shr_z}
use Rattle.std.specs.Float.{nan, inf, fin, binary64}
use Rattle.std.specs.Float.Ieee.{up, down, of_bits}
use Rattle.std.specs.Float.Ieee.Scale.{finite}
use Rattle.std.specs.Float.Ieee.Positive.{num, den}
use Rattle.std.specs.Float.Ieee.Nearest.{closest}
use Rattle.std.specs.Prelude.{ℕ, ◌*◌, Bool, true, false, not, cond, eqb, ℤ, pos, neg_ℤ}
use Rattle.integers.specs.Names.{cleared}
use Rattle.words.specs.Outcomes.{Outcome}
use Rattle.words.specs.declared.Format.{Format}
use Rattle.words.specs.Kinds.{PlainAnswer}
use Rattle.words.specs.Kinds.{RoundBitAnswer}
use Rattle.words.specs.Kinds.{HalfUnitAnswer}
use Rattle.words.specs.Refusals.{refuse, ◌or_else◌, format_check}
use Rattle.words.specs.Plain.{plain_word, plain_fitted, ◌and_then◌ as ◌and_then_plain◌}
use Rattle.words.specs.RoundBit.{round_bit_word, round_bit_fitted}
use Rattle.words.specs.RoundBit.{◌and_then◌ as ◌and_then_round_bit◌}
use Rattle.words.specs.HalfUnit.{half_unit_word, half_unit_fitted, ◌and_then◌}

-- what the bits of a sample stand for
abbrev pub sample : ℕ → Float
sample bits = of_bits binary64 bits

-- a number from its sign and its size; "both zeros count by their value"
abbrev pub signed : Bool → ℕ → ℤ
signed true n = neg_ℤ (pos n)
signed false n = pos n

-- A finite value counted in units of 2^e, which is up e / down e, is an exact quotient, above over
-- below and negative or not. It need not be whole, and below is never 0
pub record Quotient : Type 0 where
  pub negative : Bool
  pub above : ℕ
  pub below : ℕ

abbrev pub quotient : Bool → ℕ → ℕ → Quotient
quotient s a b = record { negative = s; above = a; below = b }

-- a value's sign
abbrev pub negative : Float → Bool
negative nan = false
negative (inf s) = s
negative (fin s m x) = s

-- num x / den x is the library's fraction for the size of a finite value. That of nan and of the
-- infinities, 0 / 1, is never counted: 15 comes first
unfoldable pub in_units : Float → ℤ → Quotient
in_units x e = quotient (negative x) (num x * down e) (den x * up e)

-- "the nearest whole count of units, a tie going to the even count": the library's closest whole
-- number, which goes to the even one of two
unfoldable pub nearest_whole : Quotient → ℤ
nearest_whole q = signed q.negative (closest q.above q.below)

-- the greatest whole count that is not above it
unfoldable pub floor_of : Quotient → ℤ
floor_of q = shr_z (signed q.negative q.above) q.below

-- "the nearest half-odd count, a tie going to the one with the lower digit clear": w, for w + 1/2.
-- Between two whole counts that is the lower one of them. A whole count n lies as near to n - 1/2
-- as to n + 1/2, whose numbers are n - 1 and n
unfoldable pub nearest_half_odd : Quotient → ℤ
nearest_half_odd q = cond (eqb (q.above % q.below) 0) (cleared (floor_of q)) (floor_of q)

unfoldable pub whole_count : ℕ → ℤ → ℤ
whole_count bits e = nearest_whole (in_units (sample bits) e)

unfoldable pub half_odd_count : ℕ → ℤ → ℤ
half_odd_count bits e = nearest_half_odd (in_units (sample bits) e)

-- "Refusals: 1, 2, then 15 for an infinity or a not-a-number",
unfoldable pub import_check : ℕ → Format → Outcome
import_check bits f = format_check f or_else refuse 15 (not (finite (sample bits)))

-- "then 8", of the number of the nearest count: a tie is settled first
abbrev pub to_plain_of : ℕ → Format → PlainAnswer
to_plain_of bits f =
    import_check bits f and_then_plain plain_fitted (plain_word (whole_count bits f.unit) f)

-- "round-bit gets round bit 0"
abbrev pub to_round_bit_of : ℕ → Format → RoundBitAnswer
to_round_bit_of bits f =
    import_check bits f
    and_then_round_bit round_bit_fitted (round_bit_word (whole_count bits f.unit) 0 f)

abbrev pub to_half_unit_of : ℕ → Format → HalfUnitAnswer
to_half_unit_of bits f =
    import_check bits f and_then half_unit_fitted (half_unit_word (half_odd_count bits f.unit) f)
