-- Rounding a number with a round bit to a whole count of new units, a tie to the even one. Assumes nothing.
-- Proved here: `above_law`, `middle_is`, `even_bit`, `goes_up_value`, `near`, `nearer`, `even`, `bit`, `even_rounds`, `even_bit_turned`, `digits_bit`.
use mathlib.Core.Path.{◌≡◌, refl}
use mathlib.Core.Bool.{Bool, true, false, cond}
use Prim.Native.Nat.{ℕ, zero, suc, ◌+◌, ◌-◌, ◌*◌, ◌^◌, ◌<◌, ◌≤◌}
use native.Mathlib.Omega.{arith}
use native.Mathlib.Nat.{pow-succ'}
use lib.Dec.{eqb, ltb}
use lib.Bits.{bit_and, bit_or, and_le_l, and_le_r, or_lt, or_add_and}
use lib.IntN.{ℤ, pos, ◌+ℤ◌, ◌-ℤ◌, ◌*ℤ◌}
use lib.Signed.{le_z}
use borrow.Author.Tests.{eqb-true, eqb-false, ltb-true, ltb-false}
use Rattle.integers.specs.Numbers.{eq_z, turned, floor_by, digit, digits_below, any_below}
use Rattle.integers.proofs.Kit.{up, down, ints, apart, plus_law, minus_law, times_law, is_true, is_false, by_le_true, by_le_false}
use Rattle.integers.proofs.Digits.{digit_le, digit_turned}
use Rattle.integers.proofs.LowDigits.{any_le, below_law, below_more, below_range, below_turned, none_below, some_below}
use Rattle.integers.proofs.Width.{eq_z_same, same_eq_z}

-- half a new unit above floor (a / 2 ^ (k + 1)) new units
abbrev pub middle : ℤ → ℕ → ℤ
middle a k = (floor_by a (suc k) *ℤ pos (2 ^ suc k)) +ℤ pos (2 ^ k)

-- how far a + r lies above that floor
abbrev pub above : ℕ → ℤ → ℕ → ℕ
above r a k = digits_below a (suc k) + r

-- it is rounded up past the middle, and in the middle where the floor is odd
abbrev pub goes_up : ℕ → ℤ → ℕ → Bool
goes_up r a k = ltb (2 ^ k) (above r a k + digit a (suc k))

-- the new count is at most half a new unit away, less where a + r is not in the middle; there the bit is the floor's lowest digit
pub record Rounded (r : ℕ) (a : ℤ) (k s : ℕ) : Type 0 where
  pub near : apart (s * 2 ^ suc k) (above r a k) ≤ 2 ^ k
  pub nearer : (above r a k ≡ 2 ^ k → ⊥) → apart (s * 2 ^ suc k) (above r a k) < 2 ^ k
  pub even : above r a k ≡ 2 ^ k → s ≡ digit a (suc k)
  pub bit : s ≤ 1

-- ---- digit k, h, tells on which side of the middle p a number h * p + m lies, with a bit r to it
past_half : (p m h r : ℕ) → h ≤ 1 → m < p → r ≤ 1 → p < h * p + m + r → h ≡ 1
past_half p m zero r g l b u = absurd (omega arith)
past_half p m (suc zero) r g l b u = refl
past_half p m (suc (suc h)) r g l b u = absurd (omega arith)

before_half : (p m h r : ℕ) → h * p + m + r < p → h ≡ 0
before_half p m zero r u = refl
before_half p m (suc h) r u = absurd (omega arith)

module _ (r : ℕ) (a : ℤ) (k : ℕ) where
  pub above_law : up (a +ℤ pos r) + down (middle a k) + 2 ^ k ≡ up (middle a k) + down (a +ℤ pos r) + above r a k
  above_law =
      let q = floor_by a (suc k) in
      let x = q *ℤ pos (2 ^ suc k) in
      omega (arith, below_law a (suc k), plus_law a (pos r), times_law q (pos (2 ^ suc k)), plus_law x (pos (2 ^ k)))

  -- ---- in the middle, over ℤ and by what lies above
  pub middle_is : eq_z (a +ℤ pos r) (middle a k) ≡ eqb (above r a k) (2 ^ k)
  middle_is = go (eqb (above r a k) (2 ^ k)) refl
    where
      v : ℤ
      v = a +ℤ pos r

      m : ℤ
      m = middle a k

      go : (t : Bool) → eqb (above r a k) (2 ^ k) ≡ t → eq_z v m ≡ t
      go true e = let there = eqb-true (above r a k) (2 ^ k) e in same_eq_z v m (omega (ints, above_law))
      go false e =
          is_false (eq_z v m)
          (λ t. let there = eq_z_same v m (is_true (eq_z v m) t) in eqb-false (above r a k) (2 ^ k) e (omega (ints, above_law)))

  -- what holds of 1 where it goes up, and of 0 where it does not
  by_goes_up : (Q : ℕ → Type 0) → (2 ^ k < above r a k + digit a (suc k) → Q 1) → (above r a k + digit a (suc k) ≤ 2 ^ k → Q 0) →
      Q (cond (goes_up r a k) 1 0)
  by_goes_up Q p q = go (goes_up r a k) refl
    where
      go : (u : Bool) → goes_up r a k ≡ u → Q (cond u 1 0)
      go true f = p (ltb-true (2 ^ k) (above r a k + digit a (suc k)) f)
      go false f = q (ltb-false (2 ^ k) (above r a k + digit a (suc k)) f)

  -- ---- the bit that is the floor's lowest digit in the middle, and else digit k, is 1 where it goes up
  pub even_bit : r ≤ 1 → cond (eq_z (a +ℤ pos r) (middle a k)) (digit a (suc k)) (digit a k) ≡ cond (goes_up r a k) 1 0
  even_bit h = rw middle_is (go (eqb (above r a k) (2 ^ k)) refl)
    where
      go : (t : Bool) → eqb (above r a k) (2 ^ k) ≡ t → cond t (digit a (suc k)) (digit a k) ≡ cond (goes_up r a k) 1 0
      go true e =
          let there = eqb-true (above r a k) (2 ^ k) e in
          by_goes_up (λ s. digit a (suc k) ≡ s) (λ u. omega (arith, digit_le a (suc k))) (λ u. omega arith)
      go false e =
          let other = eqb-false (above r a k) (2 ^ k) e in
          by_goes_up (λ s. digit a k ≡ s)
          (λ u. past_half (2 ^ k) (digits_below a k) (digit a k) r (digit_le a k) (below_range a k) h (omega (arith, below_more a k, digit_le a (suc k))))
          (λ u. before_half (2 ^ k) (digits_below a k) (digit a k) r (omega (arith, below_more a k)))

  -- and it goes up where the middle, and one more where the floor is even, is at most a + r
  pub goes_up_value : le_z (middle a k +ℤ (pos 1 -ℤ pos (digit a (suc k)))) (a +ℤ pos r) ≡ goes_up r a k
  goes_up_value = go (goes_up r a k) refl
    where
      b : ℕ
      b = digit a (suc k)

      v : ℤ
      v = a +ℤ pos r

      m : ℤ
      m = middle a k +ℤ (pos 1 -ℤ pos b)

      far : up v + down m + 2 ^ k + 1 ≡ up m + down v + above r a k + b
      far = omega (arith, above_law, plus_law (middle a k) (pos 1 -ℤ pos b), minus_law (pos 1) (pos b))

      go : (u : Bool) → goes_up r a k ≡ u → le_z m v ≡ u
      go true f = by_le_true m v (omega (arith, ltb-true (2 ^ k) (above r a k + b) f, far))
      go false f = by_le_false m v (omega (arith, ltb-false (2 ^ k) (above r a k + b) f, far))

  pub even_rounds : r ≤ 1 → Rounded r a k (cond (goes_up r a k) 1 0)
  even_rounds h =
      let range = below_range a (suc k) in
      let twice = pow-succ' 2 k in
      let one = digit_le a (suc k) in
      by_goes_up (Rounded r a k) (λ u. record { near = omega arith; nearer = λ m. omega arith; even = λ m. omega arith; bit = omega arith })
      (λ u. record { near = omega arith; nearer = λ m. omega arith; even = λ m. omega arith; bit = omega arith })

-- ---- of -1 - a with the round bit turned over it is the bit turned over
pub even_bit_turned : (r : ℕ) (a : ℤ) (k : ℕ) → r ≤ 1 → cond (goes_up (1 - r) (turned a) k) 1 0 ≡ 1 - cond (goes_up r a k) 1 0
even_bit_turned r a k h =
    let digits = below_turned a (suc k) in
    let next = digit_turned a (suc k) in
    let one = digit_le a (suc k) in
    let twice = pow-succ' 2 k in
    by_goes_up (1 - r) (turned a) k (λ s. s ≡ 1 - cond (goes_up r a k) 1 0)
    (λ u. by_goes_up r a k (λ s. 1 ≡ 1 - s) (λ v. absurd (omega arith)) (λ v. refl))
    (λ u. by_goes_up r a k (λ s. 0 ≡ 1 - s) (λ v. refl) (λ v. absurd (omega arith)))

-- ---- "(T or b) and h, where h is digit d-1 of a, b is digit d, and T is 1 if any digit below d-1 is 1 (001, equation 11)", for d = k + 1
abbrev pub equation_11 : ℤ → ℕ → ℕ
equation_11 a k = bit_and (bit_or (any_below a k) (digit a (suc k))) (digit a k)

digit_bounds : (a : ℤ) (k : ℕ) → (equation_11 a k ≤ digit a k) × (equation_11 a k ≤ any_below a k + digit a (suc k))
    × (any_below a k + digit a k ≤ equation_11 a k + 1) × (digit a (suc k) + digit a k ≤ equation_11 a k + 1)
digit_bounds a k =
    let t = any_below a k in
    let b = digit a (suc k) in
    let h = digit a k in
    let u = bit_or t b in
    let l : u < 2 = or_lt 1 t b (omega (arith, any_le a k)) (omega (arith, digit_le a (suc k))) in
    let m : bit_or u h < 2 = or_lt 1 u h l (omega (arith, digit_le a k)) in
    omega (arith, or_add_and t b, and_le_l t b, and_le_r t b, or_add_and u h, and_le_l u h, and_le_r u h)

-- is the bit of a number with round bit 0
pub digits_bit : (a : ℤ) (k : ℕ) → equation_11 a k ≡ cond (goes_up 0 a k) 1 0
digits_bit a k = by_goes_up 0 a k (λ s. equation_11 a k ≡ s) (λ u. up_side (any_below a k) refl (high u) u) (λ u. down_side (digit a k) refl u)
  where
    high : 2 ^ k < above 0 a k + digit a (suc k) → digit a k ≡ 1
    high u =
        past_half (2 ^ k) (digits_below a k) (digit a k) (digit a (suc k)) (digit_le a k) (below_range a k) (digit_le a (suc k))
        (omega (arith, below_more a k))

    up_side : (n : ℕ) → any_below a k ≡ n → digit a k ≡ 1 → 2 ^ k < above 0 a k + digit a (suc k) → equation_11 a k ≡ 1
    up_side zero e g u = omega (arith, digit_bounds a k, none_below a k e, rw g at (below_more a k), digit_le a (suc k))
    up_side (suc n) e g u = omega (arith, digit_bounds a k)

    down_side : (n : ℕ) → digit a k ≡ n → above 0 a k + digit a (suc k) ≤ 2 ^ k → equation_11 a k ≡ 0
    down_side zero e u = omega (arith, digit_bounds a k)
    down_side (suc n) e u = let more = rw e at (below_more a k) in omega (arith, digit_bounds a k, some_below a k (omega arith))
