-- Laws of "x fits n digits", at every width: what fits, and that sums and products of what fits stay inside an i64. Assumes nothing.
-- Proved here: `lies_true`, `lies_low`, `lies_high`, `eq_z_same`, `same_eq_z`, `fits_size`, `by_fits`, `fits_is`, `fits_more`, `fits_machine`,
-- `fits_turned`, `fits_floor`, `fits_low`, `sum_size`, `sum_machine`, `widen_size`, `widen_is`, `widen_machine`, `product_size`, `times_bound`,
-- `carry_past`.
use mathlib.Core.Path.{◌≡◌, refl, sym, ap, ◌∙◌}
use mathlib.Core.Bool.{Bool, true, false}
use Prim.Native.Nat.{ℕ, zero, suc, ◌+◌, ◌*◌, ◌-◌, ◌^◌, ◌<◌, ◌≤◌, max}
use native.Mathlib.Omega.{arith}
use native.Mathlib.Nat.{lt_of_lt_of_le, mul-le-mul, mul-le-mul_left, mul-le-mul_right}
use lib.Dec.{ltb}
use lib.Pow.{pow_pos, pow-add, pow_mono}
use lib.IntN.{ℤ, pos, negsuc, neg_ℤ, ◌+ℤ◌, ◌-ℤ◌, ◌*ℤ◌}
use lib.Signed.{mag, le_z}
use mir.Syntax.{w64}
use mir.Val.{SFits}
use borrow.Author.Tests.{ltb-true, ltb-false}
use Rattle.integers.specs.Numbers.{lies, eq_z, fits_width, floor_by, turned, low_digits}
use Rattle.integers.proofs.Kit.{up, down, ints, plus_law, minus_law, neg_law, times_law, one_zero, size_range, by_size, by_le_true, and_both}
use Rattle.integers.proofs.Floor.{turned_size, floor_range}
use Rattle.integers.proofs.LowDigits.{low_range}

-- ---- a range, and a size below 2 ^ (n - 1)
pub lies_true : (lo hi x : ℤ) → up lo + down x ≤ up x + down lo → up x + down hi ≤ up hi + down x → lies lo hi x ≡ true
lies_true lo hi x h k = cc (by_le_true lo x h, by_le_true x hi k)

pub lies_low : (lo hi x : ℤ) → lies lo hi x ≡ true → le_z lo x ≡ true
lies_low lo hi x h = (and_both (le_z lo x) (le_z x hi) h).0

pub lies_high : (lo hi x : ℤ) → lies lo hi x ≡ true → le_z x hi ≡ true
lies_high lo hi x h = (and_both (le_z lo x) (le_z x hi) h).1

pub eq_z_same : (a b : ℤ) → eq_z a b ≡ true → a ≡ b
eq_z_same a b h = omega (ints, lies_low a a b h, lies_high a a b h)

pub same_eq_z : (a b : ℤ) → a ≡ b → eq_z a b ≡ true
same_eq_z a b e = lies_true a a b (omega ints) (omega ints)

pub fits_size : (x : ℤ) (n : ℕ) → fits_width x n ≡ true → mag x < 2 ^ (n - 1)
unfolding fits_width
fits_size x n h =
    let p = 2 ^ (n - 1) in
    by_size p x (omega (
      ints,
      lies_low (neg_ℤ (pos p)) (pos p -ℤ pos 1) x h,
      lies_high (neg_ℤ (pos p)) (pos p -ℤ pos 1) x h,
      neg_law (pos p),
      minus_law (pos p) (pos 1),
      pow_pos (n - 1),
    ))

pub by_fits : (x : ℤ) (n : ℕ) → mag x < 2 ^ (n - 1) → fits_width x n ≡ true
unfolding fits_width
by_fits x n h =
    let p = 2 ^ (n - 1) in
    lies_true (neg_ℤ (pos p)) (pos p -ℤ pos 1) x (omega (arith, size_range p x h, neg_law (pos p)))
    (omega (arith, size_range p x h, minus_law (pos p) (pos 1), pow_pos (n - 1)))

pub fits_is : (x : ℤ) (n : ℕ) → fits_width x n ≡ ltb (mag x) (2 ^ (n - 1))
fits_is x n = same (fits_width x n) refl (ltb (mag x) (2 ^ (n - 1))) refl
  where
    same : (a : Bool) → fits_width x n ≡ a → (b : Bool) → ltb (mag x) (2 ^ (n - 1)) ≡ b → a ≡ b
    same true e true f = refl
    same true e false f = absurd (omega (arith, fits_size x n e, ltb-false (mag x) (2 ^ (n - 1)) f))
    same false e true f = sym e ∙ by_fits x n (ltb-true _ _ f)
    same false e false f = refl

-- ---- a fit in n digits is a fit in more; in 64 it is an i64
pub fits_more : (x : ℤ) {n m : ℕ} → n ≤ m → fits_width x n ≡ true → fits_width x m ≡ true
fits_more x {n} {m} l h = by_fits x m (lt_of_lt_of_le (fits_size x n h) (pow_mono {i = n - 1} {j = m - 1} (omega arith)))

pub fits_machine : (x : ℤ) {n : ℕ} → n ≤ 64 → fits_width x n ≡ true → SFits w64 x
fits_machine x l h = record { sfits = fits_size x 64 (fits_more x l h) }

-- ---- -1 - x, floors and low digits
pub fits_turned : (x : ℤ) (n : ℕ) → fits_width (turned x) n ≡ fits_width x n
fits_turned x n = fits_is (turned x) n ∙ ap (λ (k : ℕ). ltb k (2 ^ (n - 1))) (turned_size x) ∙ sym (fits_is x n)

pub fits_floor : (x : ℤ) (n d : ℕ) → d < n → fits_width x n ≡ true → fits_width (floor_by x d) (n - d) ≡ true
fits_floor x n d l h = by_fits (floor_by x d) (n - d) (floor_range x (n - d - 1) d (rw same (fits_size x n h)))
  where
    same : n - d - 1 + d ≡ n - 1
    same = omega arith

pub fits_low : (x : ℤ) (k : ℕ) → fits_width (low_digits x (suc k)) (suc k) ≡ true
fits_low x k = by_fits (low_digits x (suc k)) (suc k) (rw one_less (low_range x k))
  where
    one_less : suc k - 1 ≡ k
    one_less = omega arith

-- ---- sums: two numbers of a size below p and a carry
pub sum_size : (a b : ℤ) (t p : ℕ) → mag a < p → mag b < p → t ≤ 1 → mag (a +ℤ b +ℤ pos t) < p + p
sum_size a b t p h k l =
    by_size (p + p) (a +ℤ b +ℤ pos t) (omega (arith, size_range p a h, size_range p b k, plus_law a b, plus_law (a +ℤ b) (pos t)))

pub sum_machine : (a b : ℤ) (t : ℕ) → mag a < 2 ^ 62 → mag b < 2 ^ 62 → t ≤ 1 → SFits w64 (a +ℤ b) × SFits w64 (a +ℤ b +ℤ pos t)
sum_machine a b t h k l = (
  omega (ints, size_range (2 ^ 62) a h, size_range (2 ^ 62) b k, plus_law a b),
  record { sfits = sum_size a b t (2 ^ 62) h k l },
)

-- ---- widening on the right: a * 2 ^ d + r * (2 ^ d - 1) has d digits more
pub widen_size : (a : ℤ) (r j d : ℕ) → mag a < 2 ^ j → r ≤ 1 → mag (a *ℤ pos (2 ^ d) +ℤ pos (r * (2 ^ d - 1))) < 2 ^ (j + d)
widen_size a r j d h l = rw (pow-add 2 j d) (go a (2 ^ j) (2 ^ d) (pow_pos d) h)
  where
    go : (a : ℤ) (p m : ℕ) → 0 < m → mag a < p → mag (a *ℤ pos m +ℤ pos (r * (m - 1))) < p * m
    go (pos n) p m k h = omega (arith, mul-le-mul_right {m = r} {n = 1} (m - 1) l, mul-le-mul_right {m = suc n} {n = p} m h)
    go (negsuc n) p m k h =
        let x = negsuc n *ℤ pos m in
        by_size (p * m) (x +ℤ pos (r * (m - 1)))
        (omega (
          arith,
          times_law (negsuc n) (pos m),
          plus_law x (pos (r * (m - 1))),
          mul-le-mul_right {m = r} {n = 1} (m - 1) l,
          mul-le-mul_right {m = suc n} {n = p} m h,
        ))

-- which is (a + r) * 2 ^ d - r, and every step of that fits an i64
pub widen_is : (a : ℤ) (r d : ℕ) → ((a +ℤ pos r) *ℤ pos (2 ^ d)) -ℤ pos r ≡ (a *ℤ pos (2 ^ d)) +ℤ pos (r * (2 ^ d - 1))
widen_is a r d = go (2 ^ d) (pow_pos d)
  where
    go : (m : ℕ) → 0 < m → ((a +ℤ pos r) *ℤ pos m) -ℤ pos r ≡ (a *ℤ pos m) +ℤ pos (r * (m - 1))
    go m h =
        let e : m - 1 + 1 ≡ m = omega arith in
        let s = (a +ℤ pos r) *ℤ pos m in
        omega (
          ints,
          minus_law s (pos r),
          times_law (a +ℤ pos r) (pos m),
          ap (λ (k : ℕ). k * m) (plus_law a (pos r)),
          times_law a (pos m),
          plus_law (a *ℤ pos m) (pos (r * (m - 1))),
          ap (λ (k : ℕ). r * k) e,
        )

pub widen_machine : (a : ℤ) (r d : ℕ) → d ≤ 61 → mag a < 2 ^ (62 - d) → r ≤ 1 →
    SFits w64 (a +ℤ pos r) × SFits w64 ((a +ℤ pos r) *ℤ pos (2 ^ d)) × SFits w64 (((a +ℤ pos r) *ℤ pos (2 ^ d)) -ℤ pos r)
widen_machine a r d l h k =
    let p = 2 ^ (62 - d) in
    let s = a +ℤ pos r in
    let back : 62 - d + d ≡ 62 = omega arith in
    let e : p * 2 ^ d ≡ 2 ^ 62 = sym (pow-add 2 (62 - d) d) ∙ ap (λ (i : ℕ). 2 ^ i) back in
    let small : p ≤ 2 ^ 62 = pow_mono {i = 62 - d} {j = 62} (omega arith) in
    let u : up s ≤ p = (bound p a (size_range p a h)).0 in
    let v : down s ≤ p = (bound p a (size_range p a h)).1 in
    let x = mul-le-mul_right (2 ^ d) u in
    let y = mul-le-mul_right (2 ^ d) v in (
      omega (ints, u, v, small),
      omega (ints, times_law s (pos (2 ^ d)), x, y, e),
      omega (ints, times_law s (pos (2 ^ d)), minus_law (s *ℤ pos (2 ^ d)) (pos r), x, y, e),
    )
  where
    bound : (p : ℕ) (a : ℤ) → max (up a + 1) (down a) ≤ p → (up (a +ℤ pos r) ≤ p) × (down (a +ℤ pos r) ≤ p)
    bound p (pos n) m = omega arith
    bound p (negsuc n) m = omega (arith, plus_law (negsuc n) (pos r), one_zero (negsuc n +ℤ pos r))

-- ---- products of numbers that are not negative, with the cross terms of the round bits
cross : (x y r s p q : ℕ) → x < p → y < q → r ≤ 1 → s ≤ 1 → x * y + x * s + y * r < p * q
cross x y zero s p q h k l m = omega (arith, mul-le-mul_left {m = y + s} {n = q} x (omega arith), mul-le-mul_right {m = suc x} {n = p} q h)
cross x y (suc zero) zero p q h k l m = omega (arith, mul-le-mul_left {m = x + 1} {n = p} y (omega arith), mul-le-mul_right {m = suc y} {n = q} p k)
cross x y (suc zero) (suc zero) p q h k l m = omega (arith, mul-le-mul {n₁ = suc x} {m₁ = suc y} {n₂ = p} {m₂ = q} h k)
cross x y (suc zero) (suc (suc s)) p q h k l m = absurd (omega arith)
cross x y (suc (suc r)) s p q h k l m = absurd (omega arith)

pub product_size : (x y r s i j : ℕ) → x < 2 ^ i → y < 2 ^ j → r ≤ 1 → s ≤ 1 → x * y + x * s + y * r < 2 ^ (i + j)
product_size x y r s i j h k l m = rw (pow-add 2 i j) (cross x y r s (2 ^ i) (2 ^ j) h k l m)

-- ---- products of any sign
pub times_bound : (x y : ℤ) (p q : ℕ) → mag x < p → mag y < q → (up (x *ℤ y) ≤ p * q) × (down (x *ℤ y) ≤ p * q)
times_bound (pos a) (pos b) p q h k = omega (arith, mul-le-mul h k)
times_bound (pos a) (negsuc b) p q h k = omega (arith, times_law (pos a) (negsuc b), mul-le-mul h k)
times_bound (negsuc a) (pos b) p q h k = omega (arith, times_law (negsuc a) (pos b), mul-le-mul h k)
times_bound (negsuc a) (negsuc b) p q h k = omega (arith, mul-le-mul h k)

-- ---- a number of a size below p and a carry: what is no more below p is p itself
pub carry_past : (a : ℤ) (t p : ℕ) → mag a < p → t ≤ 1 → p ≤ mag (a +ℤ pos t) → a +ℤ pos t ≡ pos p
carry_past a t p h k l = go (a +ℤ pos t) (plus_law a (pos t)) (size_range p a h) l
  where
    go : (z : ℤ) → up z + (down a + 0) ≡ up a + t + down z → max (up a + 1) (down a) ≤ p → p ≤ mag z → z ≡ pos p
    go (pos n) e s l = ap pos (omega arith)
    go (negsuc n) e s l = absurd (omega arith)
