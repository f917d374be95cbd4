-- Numbers with their lowest digit cleared, doubled numbers and odd ones: what fits, and the product of half-unit words. Assumes nothing.
-- Proved here: `fits_cleared`, `cleared_size`, `doubled_floor`, `doubled_lowest`, `doubled_digit`, `doubled_fits`,
-- `doubled_size`, `half_product_odd`, `half_product_is`, `half_product_mag`, `half_product_size`.
use mathlib.Core.Path.{◌≡◌, refl, sym, ap, ◌∙◌}
use mathlib.Core.Bool.{Bool, true, false}
use Prim.Native.Nat.{ℕ, suc, ◌+◌, ◌*◌, ◌-◌, ◌/◌, ◌^◌, ◌<◌, ◌≤◌}
use native.Mathlib.Omega.{arith}
use native.Mathlib.Nat.{mul-le-mul, pow-succ'}
use lib.Pow.{pow-add}
use lib.IntN.{ℤ, pos, negsuc, ◌+ℤ◌, ◌-ℤ◌, ◌*ℤ◌}
use lib.Signed.{mag}
use Rattle.integers.specs.Numbers.{fits_width, floor_by, lowest, cleared, digit}
use Rattle.integers.proofs.Kit.{up, down, ints, plus_law, minus_law, times_law, one_zero, size_range, by_size}
use Rattle.integers.proofs.Floor.{floor_only, floor_none, floor_size}
use Rattle.integers.proofs.Digits.{lowest_law, floor_cleared}
use Rattle.integers.proofs.Width.{fits_is, fits_size, by_fits}
use Rattle.integers.proofs.Tops.{same_test}

-- ---- clearing the lowest digit never changes a fit at a width of 2 or more, since the half decides it
fits_by_half : (x y : ℤ) (n : ℕ) → 2 ≤ n → floor_by x 1 ≡ floor_by y 1 → fits_width x n ≡ true → fits_width y n ≡ true
fits_by_half x y n h e f =
    let same : n - 1 ≡ suc (n - 2) = omega arith in
    by_fits y n (rw same (omega (arith, rw same at (fits_size x n f), floor_size x 1, floor_size y 1, ap mag e, pow-succ' 2 (n - 2))))

pub fits_cleared : (x : ℤ) (n : ℕ) → 2 ≤ n → fits_width (cleared x) n ≡ fits_width x n
fits_cleared x n h =
    together (fits_width (cleared x) n) (fits_width x n) (fits_by_half (cleared x) x n h (floor_cleared x))
    (fits_by_half x (cleared x) n h (sym (floor_cleared x)))
  where
    together : (a b : Bool) → (a ≡ true → b ≡ true) → (b ≡ true → a ≡ true) → a ≡ b
    together true b f g = sym (f refl)
    together false true f g = g refl
    together false false f g = refl

pub cleared_size : (x : ℤ) (n : ℕ) → 2 ≤ n → mag x < 2 ^ (n - 1) → mag (cleared x) < 2 ^ (n - 1)
cleared_size x n h k = fits_size (cleared x) n (fits_cleared x n h ∙ by_fits x n k)

-- ---- 2 x + r, for a digit r: above its lowest digit, which is r, it has the digits of x, and so one digit more
module _ (x : ℤ) (r : ℕ) (h : r ≤ 1) where
  abbrev doubled : ℤ
  doubled = (pos 2 *ℤ x) +ℤ pos r

  pub doubled_floor : floor_by doubled 1 ≡ x
  doubled_floor =
      let twice = times_law (pos 2) x in
      let more = plus_law (pos 2 *ℤ x) (pos r) in
      sym (floor_only doubled x 1 (omega arith) (omega arith))

  pub doubled_lowest : lowest doubled ≡ r
  doubled_lowest = omega (arith, rw doubled_floor at (lowest_law doubled), times_law (pos 2) x, plus_law (pos 2 *ℤ x) (pos r))

  pub doubled_digit : digit doubled 0 ≡ r
  unfolding digit
  doubled_digit = ap lowest (floor_none doubled) ∙ doubled_lowest

  pub doubled_fits : (w : ℕ) → 1 ≤ w → fits_width doubled (w + 1) ≡ fits_width x w
  doubled_fits w l =
      let half : mag x ≡ mag doubled / 2 = ap mag (sym doubled_floor) ∙ floor_size doubled 1 in
      let power : 2 ^ (w + 1 - 1) ≡ 2 * 2 ^ (w - 1) = rw sizes (omega (arith, pow-succ' 2 (w - 1))) in
      fits_is doubled (w + 1)
      ∙ same_test (mag x) (2 ^ (w - 1)) (mag doubled) (2 ^ (w + 1 - 1)) (λ k. omega arith) (λ k. omega arith)
      ∙ sym (fits_is x w)
    where
      sizes : w + 1 - 1 ≡ suc (w - 1)
      sizes = omega arith

pub doubled_size : (x : ℤ) (r j : ℕ) → mag x < 2 ^ j → r ≤ 1 → mag ((pos 2 *ℤ x) +ℤ pos r) < 2 ^ suc j
doubled_size x r j h l =
    by_size (2 ^ suc j) ((pos 2 *ℤ x) +ℤ pos r)
    (omega (arith, times_law (pos 2) x, plus_law (pos 2 *ℤ x) (pos r), size_range (2 ^ j) x h, pow-succ' 2 j))

-- ---- an odd number, as `omega` is handed it, and its distance from 0
abbrev odd : ℤ → ℤ
odd x = (pos 2 *ℤ x) +ℤ pos 1

odd_law : (x : ℤ) → up (odd x) + 2 * down x ≡ 2 * up x + 1 + down (odd x)
odd_law x = omega (arith, times_law (pos 2) x, plus_law (pos 2 *ℤ x) (pos 1))

odd_size : (x : ℤ) → up (odd x) + down (odd x) ≡ 2 * mag x + 1
odd_size (pos n) = omega arith
odd_size (negsuc n) = omega (arith, odd_law (negsuc n), one_zero (odd (negsuc n)))

-- ---- the product of half-unit words, 2 x y + x + y: odd numbers multiply, so ((2 x + 1) (2 y + 1) - 1) / 2 is exact
abbrev half_product : ℤ → ℤ → ℤ
half_product x y = ((pos 2 *ℤ (x *ℤ y)) +ℤ x) +ℤ y

pub half_product_odd : (x y : ℤ) → odd (half_product x y) ≡ odd x *ℤ odd y
half_product_odd x y =
    let z = x *ℤ y in
    omega (
      ints,
      odd_law (half_product x y),
      plus_law ((pos 2 *ℤ z) +ℤ x) y,
      plus_law (pos 2 *ℤ z) x,
      times_law (pos 2) z,
      times_law x y,
      times_law (odd x) (odd y),
      odd_law y,
      ap (λ (k : ℕ). k * up (odd y)) (odd_law x),
      ap (λ (k : ℕ). k * down (odd y)) (odd_law x),
      ap (λ (k : ℕ). up x * k) (odd_law y),
      ap (λ (k : ℕ). down x * k) (odd_law y),
    )

pub half_product_is : (x y : ℤ) → floor_by ((((pos 2 *ℤ x) +ℤ pos 1) *ℤ ((pos 2 *ℤ y) +ℤ pos 1)) -ℤ pos 1) 1 ≡ ((pos 2 *ℤ (x *ℤ y)) +ℤ x) +ℤ y
half_product_is x y =
    let h = half_product x y in
    let z = odd h -ℤ pos 1 in
    let twice : up z + 2 * down h ≡ 2 * up h + down z = omega (arith, odd_law h, minus_law (odd h) (pos 1)) in
    rw (← half_product_odd x y) (sym (floor_only z h 1 (omega arith) (omega arith)))

-- its size multiplies in the same way
pub half_product_mag : (x y : ℤ) → mag (((pos 2 *ℤ (x *ℤ y)) +ℤ x) +ℤ y) ≡ 2 * (mag x * mag y) + mag x + mag y
half_product_mag x y =
    omega (
      arith,
      rw (half_product_odd x y) at (odd_size (half_product x y)),
      times_law (odd x) (odd y),
      ap (λ (k : ℕ). k * (up (odd y) + down (odd y))) (odd_size x),
      ap (λ (k : ℕ). (2 * mag x + 1) * k) (odd_size y),
    )

pub half_product_size : (x y : ℤ) (i j : ℕ) → mag x < 2 ^ i → mag y < 2 ^ j →
    mag (floor_by ((((pos 2 *ℤ x) +ℤ pos 1) *ℤ ((pos 2 *ℤ y) +ℤ pos 1)) -ℤ pos 1) 1) < 2 ^ suc (i + j)
half_product_size x y i j h k =
    rw (half_product_is x y, half_product_mag x y) (omega (arith, pow-succ' 2 (i + j), pow-add 2 i j, mul-le-mul h k))
