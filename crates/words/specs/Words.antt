-- Document 01, "The words", in its order.
use Rattle.std.specs.Prelude.{ℕ, Bool, not, ◌&&◌, leb, ℤ, pos, neg_ℤ, ◌+ℤ◌, ◌*ℤ◌}
use Rattle.integers.specs.Names.{lies, fits_width}
use Rattle.words.specs.declared.Format.{Format}

-- "Three kinds of word."
pub data Kind : Type 0 where
  plain round_bit half_unit : Kind

-- "Each has a width n, 2 to 63 digits, and a unit 2^e with e from -127 to 127." A format's unit is
-- the exponent e
abbrev pub least_width : ℕ
least_width = 2

abbrev pub most_width : ℕ
most_width = 63

abbrev pub most_unit : ℤ
most_unit = pos 127

abbrev pub bad_width : ℕ → Bool
bad_width n = not (leb least_width n && leb n most_width)

abbrev pub bad_unit : ℤ → Bool
bad_unit e = not (lies (neg_ℤ most_unit) most_unit e)

-- not: "The number in it lies from -2^(n-1) to 2^(n-1)-1."
abbrev pub outside : Format → ℤ → Bool
outside f x = not (fits_width x f.width)

-- not: "r 0 or 1"
abbrev pub bad_round_bit : ℕ → Bool
bad_round_bit r = not (leb r 1)

-- in halves of the word's own unit; only a round-bit word has a round bit
unfoldable pub value : Kind → ℤ → ℕ → ℤ
-- "value x units"
value plain x r = pos 2 *ℤ x
-- "value a + r units"
value round_bit a r = pos 2 *ℤ (a +ℤ pos r)
-- "value w + 1/2 units"
value half_unit w r = (pos 2 *ℤ w) +ℤ pos 1
