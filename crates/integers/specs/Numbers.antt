-- Whole numbers as document 01 speaks of them: a range, the floor of a division by 2 ^ d, the
-- digits in two's complement.
use Rattle.std.specs.Prelude.{ℕ, zero, suc, ◌+◌, ◌-◌, ◌*◌, ◌%◌, ◌^◌, Bool, true, false, not, ◌&&◌}
use Rattle.std.specs.Prelude.{ℤ, pos, negsuc, neg_ℤ, ◌-ℤ◌}
use Rattle.std.specs.Int.Bits.{bit_or}
use Rattle.std.specs.Int.Signed.{le_z, shr_z}

-- x lies from lo to hi
abbrev pub lies : ℤ → ℤ → ℤ → Bool
lies lo hi x = le_z lo x && le_z x hi

-- a is b
abbrev pub eq_z : ℤ → ℤ → Bool
eq_z a b = lies a a b

-- exactly one of two tests holds
abbrev pub exactly_one : Bool → Bool → Bool
exactly_one true b = not b
exactly_one false b = b

-- x fits n digits, n ≥ 1: it "lies from -2^(n-1) to 2^(n-1)-1"
unfoldable pub fits_width : ℤ → ℕ → Bool
fits_width x n = lies (neg_ℤ (pos (2 ^ (n - 1)))) (pos (2 ^ (n - 1)) -ℤ pos 1) x

-- -1 - x, every digit of x turned over
abbrev pub turned : ℤ → ℤ
turned x = negsuc 0 -ℤ x

-- floor (x / 2 ^ d): "'Floor' rounds toward minus infinity"
unfoldable pub floor_by : ℤ → ℕ → ℤ
floor_by x d = shr_z x (2 ^ d)

-- the lowest digit; -1 - a has the digits of a, each turned over
unfoldable pub lowest : ℤ → ℕ
lowest (pos a) = a % 2
lowest (negsuc a) = 1 - (a % 2)

-- x with its lowest digit cleared
unfoldable pub cleared : ℤ → ℤ
cleared x = x -ℤ pos (lowest x)

-- digit i, the lowest being digit 0; past the highest it is the sign
unfoldable pub digit : ℤ → ℕ → ℕ
digit x i = lowest (floor_by x i)

-- the digits 0 to k - 1, each at its weight
unfoldable pub digits_below : ℤ → ℕ → ℕ
digits_below x zero = 0
digits_below x (suc k) = (digit x k * 2 ^ k) + digits_below x k

-- 1 if any digit below digit k is 1, and else 0
unfoldable pub any_below : ℤ → ℕ → ℕ
any_below x zero = 0
any_below x (suc k) = bit_or (digit x k) (any_below x k)

-- "the low d digits read as two's complement": the highest of them counts against the others; no
-- digits at all read 0
unfoldable pub low_digits : ℤ → ℕ → ℤ
low_digits x zero = pos 0
low_digits x (suc k) = pos (digits_below x k) -ℤ pos (digit x k * 2 ^ k)
