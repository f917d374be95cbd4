-- The bits of some samples, by the standard's fields: the sign, 11 digits of exponent, 52 of fraction; and a row of an import, with an
-- answer.
use Prim.Native.Nat.{ℕ}
use mathlib.Core.Bool.{Bool}
use lib.IntN.{ℤ, pos, negsuc}
use Rattle.words.specs.Words.{Kind}
use Rattle.words.specs.Formats.{format}
use Rattle.words.specs.Flat.{Flat, flat, same_flat}
use Rattle.binary64.specs.Claims.{imported}

abbrev pub plus_zero : ℕ
plus_zero = 0

abbrev pub minus_zero : ℕ
minus_zero = 0x8000_0000_0000_0000

abbrev pub least_subnormal : ℕ
least_subnormal = 1

abbrev pub most_subnormal : ℕ
most_subnormal = 0x000f_ffff_ffff_ffff

abbrev pub least_normal : ℕ
least_normal = 0x0010_0000_0000_0000

abbrev pub most_finite : ℕ
most_finite = 0x7fef_ffff_ffff_ffff

abbrev pub infinite : ℕ
infinite = 0x7ff0_0000_0000_0000

abbrev pub minus_infinite : ℕ
minus_infinite = 0xfff0_0000_0000_0000

-- two of the not-a-numbers
abbrev pub quiet : ℕ
quiet = 0x7ff8_0000_0000_0000

abbrev pub signalling : ℕ
signalling = 0xfff0_0000_0000_0001

-- 0.5, 1, 1.5, 2, 2.5, 3 and their negatives
abbrev pub half : ℕ
half = 0x3fe0_0000_0000_0000

abbrev pub one : ℕ
one = 0x3ff0_0000_0000_0000

abbrev pub one_and_a_half : ℕ
one_and_a_half = 0x3ff8_0000_0000_0000

abbrev pub two : ℕ
two = 0x4000_0000_0000_0000

abbrev pub two_and_a_half : ℕ
two_and_a_half = 0x4004_0000_0000_0000

abbrev pub three : ℕ
three = 0x4008_0000_0000_0000

abbrev pub minus_half : ℕ
minus_half = 0xbfe0_0000_0000_0000

abbrev pub minus_one : ℕ
minus_one = 0xbff0_0000_0000_0000

abbrev pub minus_one_and_a_half : ℕ
minus_one_and_a_half = 0xbff8_0000_0000_0000

abbrev pub minus_two_and_a_half : ℕ
minus_two_and_a_half = 0xc004_0000_0000_0000

-- 1.75 and -0.25
abbrev pub one_and_three_quarters : ℕ
one_and_three_quarters = 0x3ffc_0000_0000_0000

abbrev pub minus_quarter : ℕ
minus_quarter = 0xbfd0_0000_0000_0000

-- the unit 1, the finest and the coarsest
abbrev pub unit : ℤ
unit = pos 0

abbrev pub finest : ℤ
finest = negsuc 126

abbrev pub coarsest : ℤ
coarsest = pos 127

-- a kind, the bits, a width, a unit, and an answer
pub data Row : Type 0 where
  gives : Kind → ℕ → ℕ → ℤ → Flat → Row

abbrev pub same : Row → Bool
same (gives k bits n e a) = same_flat (imported k bits (format n e)) a

-- done, in the wanted format
abbrev pub is : Kind → ℕ → ℕ → ℤ → ℤ → Row
is k bits n e x = gives k bits n e (flat 0 x 0 n e)
