-- Wrong answers: rows of a function, its arguments and an answer that it must not give, each tried against the definition by one computed
-- test. With the uniqueness of each contract this shuts them out of the code.
use Prim.Native.Nat.{ℕ}
use mathlib.Core.Bool.{Bool, true, false, not}
use mathlib.Core.List.{List, [], ◌∷◌}
use mathlib.Core.Path.{◌≡◌, refl}
use lib.Dec.{eqb}
use lib.IntN.{ℤ, pos, negsuc}
use lib.ListN.{length, get_or}
use Rattle.integers.specs.Numbers.{eq_z, exactly_one, fits_width, floor_by, lowest, cleared, digit, digits_below, any_below, low_digits}
use Rattle.integers.specs.Lists.{first_bad, all}

data Row : Type 0 where
  floor low : ℤ → ℕ → ℤ → Row
  digit_at any_under : ℤ → ℕ → ℕ → Row
  even : ℤ → ℤ → Row
  fits : ℤ → ℕ → Bool → Row

abbrev differs : Row → Bool
differs (floor x d y) = not (eq_z (floor_by x d) y)
differs (low x d y) = not (eq_z (low_digits x d) y)
differs (digit_at x i b) = not (eqb (digit x i) b)
differs (any_under x k b) = not (eqb (any_below x k) b)
differs (even x y) = not (eq_z (cleared x) y)
differs (fits x n b) = exactly_one (fits_width x n) b

abbrev wrong : List Row
wrong =
    -- division toward zero: -718 by 4 is -180; past every digit a negative number is -1; the input copied through
    floor (negsuc 717) 2 (negsuc 178)
    ∷ floor (negsuc 0) 64 (pos 0)
    ∷ floor (pos 5) 1 (pos 5)
    -- the digits read without their sign; no digits read as the number
    ∷ low (negsuc 717) 2 (pos 2)
    ∷ low (pos 5) 0 (pos 5)
    -- the digits of a negative number taken from its size; the digit itself among those below it
    ∷ digit_at (negsuc 0) 3 0
    ∷ any_under (pos 4) 2 1
    -- cleared toward zero
    ∷ even (negsuc 0) (pos 0)
    -- one past either end let through, and either end itself refused
    ∷ fits (pos 2) 2 true
    ∷ fits (negsuc 2) 2 true
    ∷ fits (pos 1) 2 false
    ∷ fits (negsuc 1) 2 false
    ∷ []

all_wrong : all (length wrong) (λ k. differs (get_or wrong k (fits (pos 0) 2 false))) ≡ true
unfolding first_bad fits_width floor_by lowest cleared digit digits_below any_below low_digits
all_wrong = refl
