-- Document 01's own numbers, computed from the definitions.
use mathlib.Core.Path.{◌≡◌, refl}
use mathlib.Core.Bool.{true, false}
use lib.IntN.{pos, negsuc}
use Rattle.integers.specs.Numbers.{fits_width, floor_by, lowest, digit, digits_below, low_digits}

-- "-718 by 4 is -180", and P6: round bit 1, rest -2
floor_718 : floor_by (negsuc 717) 2 ≡ negsuc 179
unfolding floor_by
floor_718 = refl

digit_718 : digit (negsuc 717) 1 ≡ 1
unfolding floor_by lowest digit
digit_718 = refl

low_718 : low_digits (negsuc 717) 2 ≡ negsuc 1
unfolding floor_by lowest digit digits_below low_digits
low_718 = refl

-- width 5 holds -16 to 15
fits_5 : (fits_width (negsuc 16) 5 ≡ false) × (fits_width (negsuc 15) 5 ≡ true) × (fits_width (pos 15) 5 ≡ true) × (fits_width (pos 16) 5 ≡ false)
unfolding fits_width
fits_5 = (refl, refl, refl, refl)
