-- Document 01's own numbers, computed from the definitions.
use mathlib.Core.Path.{◌≡◌, refl}
use lib.IntN.{pos}
use Rattle.words.specs.Words.{value}
use Rattle.words.specs.Words.Kind.{plain, round_bit, half_unit}

-- "The same digits mean three amounts: 5 is 5, (5,1) is 6, and half-unit 5 is 5.5", in half units
three_amounts : (value plain (pos 5) 0 ≡ pos 10) × (value round_bit (pos 5) 1 ≡ pos 12) × (value half_unit (pos 5) 0 ≡ pos 11)
unfolding value
three_amounts = (refl, refl, refl)
