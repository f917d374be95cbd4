-- Laws of the single digits, at every index. Assumes nothing.
-- Proved here: `lowest_law`, `lowest_le`, `cleared_is`, `cleared_law`, `digit_le`, `floor_next`, `digit_law`, `digit_turned`, `digit_floor`,
-- `lowest_evened`, `widened_twice`, `digit_widened`, `lowest_cleared`, `floor_cleared`, `digit_minus_one`, `both_bits`, `split_digit`.
use mathlib.Core.Path.{◌≡◌, refl, ap, ◌∙◌}
use Prim.Native.Nat.{ℕ, zero, suc, ◌+◌, ◌*◌, ◌-◌, ◌^◌, ◌<◌, ◌≤◌}
use native.Mathlib.Omega.{arith}
use native.Mathlib.Nat.{div-add-mod', mod-lt, pow-succ', zero-div}
use native.Mathlib.Numerals.{add-one}
use lib.Pow.{suc_ones}
use lib.IntN.{ℤ, pos, negsuc, ◌+ℤ◌, ◌*ℤ◌}
use Rattle.integers.specs.Numbers.{floor_by, turned, lowest, cleared, digit}
use Rattle.integers.proofs.Kit.{up, down, ints, plus_law, minus_law, times_law}
use Rattle.integers.proofs.Floor.{floor_floor, floor_turned, floor_widened, turned_pos, turned_negsuc}

-- ---- a digit is 0 or 1, and is what a floor has over twice the next one
pub lowest_law : (y : ℤ) → up y + 2 * down (floor_by y 1) ≡ lowest y + 2 * up (floor_by y 1) + down y
unfolding lowest floor_by
lowest_law (pos a) = omega (arith, div-add-mod' a 2)
lowest_law (negsuc a) = omega (arith, div-add-mod' a 2, mod-lt a {m = 2} (omega arith))

pub lowest_le : (y : ℤ) → lowest y ≤ 1
unfolding lowest
lowest_le (pos a) = omega (arith, mod-lt a {m = 2} (omega arith))
lowest_le (negsuc a) = omega arith

-- ---- the lowest digit cleared: twice the floor of a half, and no other digit moves
pub cleared_is : (x : ℤ) → cleared x ≡ floor_by x 1 *ℤ pos 2
unfolding cleared
cleared_is x = omega (ints, lowest_law x, minus_law x (pos (lowest x)), times_law (floor_by x 1) (pos 2))

pub cleared_law : (x : ℤ) → up (cleared x) + lowest x + down x ≡ up x + down (cleared x)
unfolding cleared
cleared_law x = omega (arith, minus_law x (pos (lowest x)))

pub digit_le : (x : ℤ) (i : ℕ) → digit x i ≤ 1
unfolding digit
digit_le x i = lowest_le (floor_by x i)

pub floor_next : (x : ℤ) (i : ℕ) → floor_by (floor_by x i) 1 ≡ floor_by x (suc i)
floor_next x i = floor_floor x i 1 ∙ ap (floor_by x) (add-one i)

pub digit_law : (x : ℤ) (i : ℕ) → up (floor_by x i) + 2 * down (floor_by x (suc i)) ≡ digit x i + 2 * up (floor_by x (suc i)) + down (floor_by x i)
unfolding digit
digit_law x i = rw (← floor_next x i) (lowest_law (floor_by x i))

-- ---- of -1 - x every digit is turned over; a floor drops the low digits
lowest_turned : (y : ℤ) → lowest (turned y) ≡ 1 - lowest y
unfolding lowest
lowest_turned (pos a) = ap lowest (turned_pos a)
lowest_turned (negsuc a) = ap lowest (turned_negsuc a) ∙ omega (arith, mod-lt a {m = 2} (omega arith))

pub digit_turned : (x : ℤ) (i : ℕ) → digit (turned x) i ≡ 1 - digit x i
unfolding digit
digit_turned x i = ap lowest (floor_turned x i) ∙ lowest_turned (floor_by x i)

pub digit_floor : (x : ℤ) (d i : ℕ) → digit (floor_by x d) i ≡ digit x (d + i)
unfolding digit
digit_floor x d i = ap lowest (floor_floor x d i)

-- ---- a number and its lowest digit make an even number
pub lowest_evened : (y : ℤ) → lowest (y +ℤ pos (lowest y)) ≡ 0
lowest_evened y =
    let z = y +ℤ pos (lowest y) in omega (arith, lowest_law y, lowest_law z, lowest_le z, plus_law y (pos (lowest y)))

-- ---- widening by k + 1 is widening 2 a + r by k, so that digit k of the widened number is r
pub widened_twice : (a : ℤ) (r k : ℕ) → a *ℤ pos (2 ^ suc k) +ℤ pos (r * (2 ^ suc k - 1)) ≡ (pos 2 *ℤ a +ℤ pos r) *ℤ pos (2 ^ k) +ℤ pos (r * (2 ^ k - 1))
widened_twice a r k = rw (pow-succ' 2 k, ← suc_ones k) (go (2 ^ k - 1))
  where
    go : (n : ℕ) → a *ℤ pos (2 * suc n) +ℤ pos (r * (2 * suc n - 1)) ≡ (pos 2 *ℤ a +ℤ pos r) *ℤ pos (suc n) +ℤ pos (r * (suc n - 1))
    go n =
        let y = pos 2 *ℤ a +ℤ pos r in
        let twice : 2 * suc n - 1 ≡ n + suc n = omega arith in
        let once : suc n - 1 ≡ n = omega arith in
        omega (
          ints,
          times_law a (pos (2 * suc n)),
          plus_law (a *ℤ pos (2 * suc n)) (pos (r * (2 * suc n - 1))),
          ap (λ (i : ℕ). r * i) twice,
          ap (λ (i : ℕ). r * i) once,
          times_law y (pos (suc n)),
          plus_law (y *ℤ pos (suc n)) (pos (r * (suc n - 1))),
          ap (λ (i : ℕ). i * suc n) (plus_law (pos 2 *ℤ a) (pos r)),
          ap (λ (i : ℕ). i * suc n) (times_law (pos 2) a).0,
          ap (λ (i : ℕ). i * suc n) (times_law (pos 2) a).1,
        )

pub digit_widened : (a : ℤ) (r k : ℕ) → r ≤ 1 → digit (a *ℤ pos (2 ^ suc k) +ℤ pos (r * (2 ^ suc k - 1))) k ≡ r
digit_widened a r k h =
    let x = a *ℤ pos (2 ^ suc k) +ℤ pos (r * (2 ^ suc k - 1)) in
    let y = pos 2 *ℤ a +ℤ pos r in
    let above : floor_by x k ≡ y = ap (λ (z : ℤ). floor_by z k) (widened_twice a r k) ∙ floor_widened y r k h in
    omega (arith, rw (above, floor_widened a r (suc k) h) at (digit_law x k), times_law (pos 2) a, plus_law (pos 2 *ℤ a) (pos r))

-- ---- the lowest digit of what was cleared is 0, and the digits above it are kept
pub lowest_cleared : (x : ℤ) → lowest (cleared x) ≡ 0
lowest_cleared x = let z = cleared x in omega (arith, cleared_law x, lowest_law x, lowest_law z, lowest_le z)

pub floor_cleared : (x : ℤ) → floor_by (cleared x) 1 ≡ floor_by x 1
floor_cleared x = omega (ints, cleared_law x, lowest_law x, lowest_law (cleared x), lowest_cleared x)

-- ---- every digit of -1 is 1
pub digit_minus_one : (i : ℕ) → digit (negsuc 0) i ≡ 1
unfolding digit floor_by lowest
digit_minus_one i = rw zero-div

-- ---- what holds of the four pairs of bits holds of any two
pub both_bits : (P : ℕ → ℕ → Type 0) → P 0 0 → P 0 1 → P 1 0 → P 1 1 → (c b : ℕ) → c ≤ 1 → b ≤ 1 → P c b
both_bits P p q r s zero zero h k = p
both_bits P p q r s zero (suc zero) h k = q
both_bits P p q r s (suc zero) zero h k = r
both_bits P p q r s (suc zero) (suc zero) h k = s
both_bits P p q r s zero (suc (suc b)) h k = absurd (omega arith)
both_bits P p q r s (suc zero) (suc (suc b)) h k = absurd (omega arith)
both_bits P p q r s (suc (suc c)) b h k = absurd (omega arith)

-- a bit above what is less than p is read off one way
pub split_digit : (p x y : ℕ) → x < p → y < p → (d b : ℕ) → d ≤ 1 → b ≤ 1 → x + b * p ≡ d * p + y → d ≡ b
split_digit p x y h k = both_bits (λ d b. x + b * p ≡ d * p + y → d ≡ b) (λ e. refl) (λ e. absurd (omega arith)) (λ e. absurd (omega arith)) (λ e. refl)
