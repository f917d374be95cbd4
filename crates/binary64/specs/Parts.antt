-- How the code holds an exact quotient: its sign and, in binary, its whole part, the first digit
-- behind the point, and whether any digit behind that one is 1. What Import.antt says does not rest
-- on this.
use Rattle.std.specs.Prelude.{◌/◌, ◌%◌, min}
use Rattle.std.specs.Prelude.{ℕ, ◌+◌, ◌-◌, ◌*◌, ◌^◌, Bool, not, cond, eqb, bit_and, bit_or, ℤ}
use Rattle.std.specs.Prelude.{pos}
use Rattle.integers.specs.Names.{turned, cleared}
use Rattle.binary64.specs.declared.Parts.{Parts}
use Rattle.binary64.specs.Import.{Quotient, signed}

abbrev pub bit : Bool → ℕ
bit b = cond b 1 0

-- a larger whole part is held as this: no word holds either, with any sign
abbrev pub too_many : ℕ
too_many = 2 ^ 63 - 1

unfoldable pub parts_of : Quotient → Parts
parts_of q = record {
  negative = q.negative;
  whole = min (q.above / q.below) too_many;
  half = (2 * q.above / q.below) % 2;
  more = bit (not (eqb (2 * q.above % q.below) 0));
}

-- the whole part, and 1 more by document 001's equation 11, "(T or b) and h": T is 1 if any digit
-- behind h is, b is the lowest whole digit and h the first one behind the point
unfoldable pub nearest_of : Parts → ℕ
nearest_of p = p.whole + bit_and (bit_or p.more (p.whole % 2)) p.half

-- w for w + 1/2: the whole part n or, of a negative quotient, -1 - n; where nothing stands behind
-- the point the quotient is whole, and its lowest digit is cleared
unfoldable pub half_odd_of : Parts → ℤ
half_odd_of p =
    cond (eqb (bit_or p.half p.more) 0) (cleared (signed p.negative p.whole))
    (cond p.negative (turned (pos p.whole)) (pos p.whole))
