-- Laws of the digits below an index and of the low digits, at every depth. Assumes nothing.
-- Proved here: `below_law`, `below_more`, `lowest_below`, `below_range`, `below_turned`, `low_law`, `floor_low_digits`, `low_range`, `any_le`, `none_below`,
-- `some_below`, `low_none`, `none_low`, `fits_digits`, `below_split`, `below_mod`, `below_same`, `low_below`, `below_low`.
use mathlib.Core.Path.{◌≡◌, refl, sym, ap, ◌∙◌}
use Prim.Native.Nat.{ℕ, zero, suc, ◌+◌, ◌*◌, ◌%◌, ◌^◌, ◌<◌, ◌≤◌}
use native.Mathlib.Omega.{arith}
use native.Mathlib.Nat.{mul-le-mul_right, pow-succ', zero-add, div-eq_of_lt, div-add-mod'}
use lib.Bits.{bit_or, or_lt, or_add_and, and_le_l, and_le_r}
use lib.Pow.{pow_pos, pow-add}
use lib.IntN.{ℤ, pos, ◌+ℤ◌, ◌*ℤ◌}
use lib.Signed.{mag}
use Rattle.integers.specs.Numbers.{turned, floor_by, digit, digits_below, any_below, low_digits, lowest}
use Rattle.integers.proofs.Kit.{up, down, ints, plus_law, minus_law, times_law, size_range, by_size}
use Rattle.integers.proofs.Floor.{turned_law, floor_turned, floor_high, floor_floor, floor_none, floor_range}
use Rattle.integers.proofs.Digits.{digit_le, digit_law, split_digit}

-- ---- the digits below k are what a floor by 2 ^ k leaves
pub below_law : (x : ℤ) (k : ℕ) → up x + down (floor_by x k) * 2 ^ k ≡ up (floor_by x k) * 2 ^ k + digits_below x k + down x
unfolding digits_below
below_law x zero = rw (floor_none x) (omega arith)
below_law x (suc k) = omega (
  arith,
  below_law x k,
  ap (λ (i : ℕ). i * 2 ^ k) (digit_law x k),
  ap (λ (i : ℕ). up (floor_by x (suc k)) * i) (pow-succ' 2 k),
  ap (λ (i : ℕ). down (floor_by x (suc k)) * i) (pow-succ' 2 k),
)

pub below_more : (x : ℤ) (k : ℕ) → digits_below x (suc k) ≡ digit x k * 2 ^ k + digits_below x k
unfolding digits_below
below_more x k = refl

pub lowest_below : (x : ℤ) → digits_below x 1 ≡ lowest x
unfolding digits_below digit
lowest_below x = rw (floor_none x) (omega arith)

pub below_range : (x : ℤ) (k : ℕ) → digits_below x k < 2 ^ k
below_range x k = omega (arith, below_law x k, floor_high x k)

pub below_turned : (x : ℤ) (k : ℕ) → digits_below (turned x) k + digits_below x k + 1 ≡ 2 ^ k
below_turned x k =
    let floors = ap (λ (i : ℕ). i * 2 ^ k) (turned_law (floor_by x k)) in
    omega (arith, below_law x k, rw (floor_turned x k) at (below_law (turned x) k), turned_law x, floors)

-- ---- the low digits: x = (floor (x / 2 ^ d) + digit d - 1) * 2 ^ d + low digits, for d = k + 1
pub low_law : (x : ℤ) (k : ℕ) → up (low_digits x (suc k)) + digit x k * 2 ^ k ≡ digits_below x k + down (low_digits x (suc k))
unfolding low_digits
low_law x k = omega (arith, minus_law (pos (digits_below x k)) (pos (digit x k * 2 ^ k)))

pub floor_low_digits : (x : ℤ) (k : ℕ) → ((floor_by x (suc k) +ℤ pos (digit x k)) *ℤ pos (2 ^ suc k)) +ℤ low_digits x (suc k) ≡ x
floor_low_digits x k =
    let q = floor_by x (suc k) in
    let t = q +ℤ pos (digit x k) in
    omega (
      ints,
      plus_law (t *ℤ pos (2 ^ suc k)) (low_digits x (suc k)),
      times_law t (pos (2 ^ suc k)),
      ap (λ (i : ℕ). i * 2 ^ suc k) (plus_law q (pos (digit x k))),
      ap (λ (i : ℕ). digit x k * i) (pow-succ' 2 k),
      low_law x k,
      below_law x (suc k),
      below_more x k,
    )

-- they lie from -2 ^ (d - 1) to 2 ^ (d - 1) - 1
pub low_range : (x : ℤ) (k : ℕ) → mag (low_digits x (suc k)) < 2 ^ k
low_range x k = by_size (2 ^ k) (low_digits x (suc k)) (omega (
  arith,
  low_law x k,
  below_range x k,
  mul-le-mul_right {m = digit x k} {n = 1} (2 ^ k) (digit_le x k),
))

-- ---- a digit below k is 1 exactly where the digits below k, at their weights, are more than 0, and where the low k digits are not 0
or_bit : (a b : ℕ) → a ≤ 1 → b ≤ 1 → (bit_or a b ≤ 1) × (a ≤ bit_or a b) × (b ≤ bit_or a b) × (bit_or a b ≤ a + b)
or_bit a b h k = omega (arith, or_lt 1 a b (omega arith) (omega arith), or_add_and a b, and_le_l a b, and_le_r a b)

pub any_le : (x : ℤ) (k : ℕ) → any_below x k ≤ 1
unfolding any_below
any_le x zero = omega arith
any_le x (suc k) = (or_bit (digit x k) (any_below x k) (digit_le x k) (any_le x k)).0

pub none_below : (x : ℤ) (k : ℕ) → any_below x k ≡ 0 → digits_below x k ≡ 0
unfolding any_below digits_below
none_below x zero e = refl
none_below x (suc k) e =
    let o = or_bit (digit x k) (any_below x k) (digit_le x k) (any_le x k) in
    let d : digit x k ≡ 0 = omega arith in
    let r = none_below x k (omega arith) in
    rw (d, r) (omega arith)

pub some_below : (x : ℤ) (k : ℕ) → digits_below x k ≡ 0 → any_below x k ≡ 0
unfolding any_below digits_below
some_below x zero e = refl
some_below x (suc k) e =
    let o = or_bit (digit x k) (any_below x k) (digit_le x k) (any_le x k) in
    let d = split_digit (2 ^ k) 0 0 (pow_pos k) (pow_pos k) 0 (digit x k) (omega arith) (digit_le x k) (omega arith) in
    let r = some_below x k (omega arith) in
    rw (← d, r)

pub low_none : (x : ℤ) (k : ℕ) → any_below x k ≡ 0 → low_digits x k ≡ pos 0
unfolding low_digits
low_none x zero e = refl
low_none x (suc k) e = omega (ints, none_below x (suc k) e, below_more x k, minus_law (pos (digits_below x k)) (pos (digit x k * 2 ^ k)))

pub none_low : (x : ℤ) (k : ℕ) → low_digits x k ≡ pos 0 → any_below x k ≡ 0
unfolding any_below
none_low x zero e = refl
none_low x (suc k) e =
    let same : digit x k * 2 ^ k ≡ digits_below x k = omega (ints, low_law x k) in
    let d = split_digit (2 ^ k) 0 (digits_below x k) (pow_pos k) (below_range x k) 0 (digit x k) (omega arith) (digit_le x k) (omega arith) in
    some_below x (suc k) (omega (arith, below_more x k, ap (λ (i : ℕ). i * 2 ^ k) d))

-- ---- a number that fits k + 1 digits is its digits below k + 1, with the highest of them counted against them at twice its weight
pub fits_digits : (x : ℤ) (k : ℕ) → mag x < 2 ^ k → up x + digit x k * 2 ^ suc k ≡ digits_below x (suc k) + down x
fits_digits x k h = omega (arith, below_law x (suc k), ap (λ (i : ℕ). i * 2 ^ suc k) none_up, ap (λ (i : ℕ). i * 2 ^ suc k) digit_down)
  where
    here : mag (floor_by x k) < 1
    here = floor_range x 0 k (rw (zero-add k) h)

    next : mag (floor_by x (suc k)) < 1
    next = floor_range x 0 (suc k) (rw zero-add (omega (arith, pow-succ' 2 k)))

    none_up : up (floor_by x (suc k)) ≡ 0
    none_up = omega (arith, size_range 1 (floor_by x (suc k)) next)

    digit_down : down (floor_by x (suc k)) ≡ digit x k
    digit_down = omega (arith, digit_law x k, digit_le x k, none_up, size_range 1 (floor_by x k) here, size_range 1 (floor_by x (suc k)) next)

-- ---- the digits below k + m are those below k, and from k on those of the floor; digits that hold all of a number are the number
pub below_split : (x : ℤ) (k m : ℕ) → digits_below x (k + m) ≡ digits_below x k + 2 ^ k * digits_below (floor_by x k) m
below_split x k m =
    let far = floor_by x (k + m) in
    omega (
      arith,
      below_law x k,
      ap (λ (i : ℕ). i * 2 ^ k) (rw (floor_floor x k m) at (below_law (floor_by x k) m)),
      below_law x (k + m),
      ap (λ (i : ℕ). up far * i) (pow-add 2 k m),
      ap (λ (i : ℕ). down far * i) (pow-add 2 k m),
    )

pub below_mod : (n k : ℕ) → digits_below (pos n) k ≡ n % 2 ^ k
unfolding floor_by
below_mod n k = omega (arith, below_law (pos n) k, div-add-mod' n (2 ^ k))

pub below_same : (n k : ℕ) → n < 2 ^ k → digits_below (pos n) k ≡ n
unfolding floor_by
below_same n k h = omega (arith, rw (div-eq_of_lt h) at (below_law (pos n) k))

-- the digits below d and the low d digits tell each other, and the low digits of a number that fits them are the number
pub low_below : (x : ℤ) (d : ℕ) → low_digits (pos (digits_below x d)) d ≡ low_digits x d
unfolding low_digits
low_below x zero = refl
low_below x (suc k) = rw (same_digit, same_below)
  where
    y : ℤ
    y = pos (digits_below x (suc k))

    whole : digit y k * 2 ^ k + digits_below y k ≡ digit x k * 2 ^ k + digits_below x k
    whole = sym (below_more y k) ∙ below_same (digits_below x (suc k)) (suc k) (below_range x (suc k)) ∙ below_more x k

    same_digit : digit y k ≡ digit x k
    same_digit = split_digit (2 ^ k) (digits_below x k) (digits_below y k) (below_range x k) (below_range y k) (digit y k) (digit x k) (digit_le y k)
        (digit_le x k) (omega (arith, whole))

    same_below : digits_below y k ≡ digits_below x k
    same_below = omega (arith, whole, ap (λ (i : ℕ). i * 2 ^ k) same_digit)

pub below_low : (x : ℤ) (d : ℕ) → digits_below (low_digits x d) d ≡ digits_below x d
unfolding low_digits digits_below
below_low x zero = refl
below_low x (suc k) = omega (arith, whole, ap (λ (i : ℕ). i * 2 ^ k) same_digit)
  where
    y : ℤ
    y = low_digits x (suc k)

    whole : digits_below y k + digit x k * 2 ^ k ≡ digit y k * 2 ^ k + digits_below x k
    whole = omega (arith, fits_digits y k (low_range x k), ap (λ (i : ℕ). digit y k * i) (pow-succ' 2 k), low_law x k, below_more y k)

    same_digit : digit y k ≡ digit x k
    same_digit = split_digit (2 ^ k) (digits_below y k) (digits_below x k) (below_range y k) (below_range x k) (digit y k) (digit x k) (digit_le y k)
        (digit_le x k) whole
