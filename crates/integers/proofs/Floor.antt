-- Laws of the floor, at every depth. Assumes nothing.
-- Proved here: `floor_low`, `floor_high`, `floor_is`, `floor_only`, `only_floor`, `floor_floor`, `floor_none`, `turned_pos`, `turned_negsuc`,
-- `turned_law`, `turned_turned`, `turned_size`, `floor_turned`, `floor_size`, `floor_range`, `floor_widened`.
use mathlib.Core.Path.{◌≡◌, refl, sym, ap, ◌∙◌}
use Prim.Native.Nat.{ℕ, ◌+◌, ◌*◌, ◌-◌, ◌/◌, ◌^◌, ◌<◌, ◌≤◌}
use native.Mathlib.Omega.{arith}
use native.Mathlib.Nat.{lt-div-mul-add, div-mul-le_self, lt_of_mul-lt-mul_right, mul-le-mul_right, div-one}
use lib.Pow.{pow_pos, shr_lt, shr-shr}
use lib.IntN.{ℤ, pos, negsuc, ◌+ℤ◌, ◌*ℤ◌}
use lib.Signed.{mag, shr_z, ◌≤ℤ◌, ◌<ℤ◌}
use Rattle.integers.specs.Numbers.{floor_by, turned}
use Rattle.integers.proofs.Kit.{up, down, ints, plus_law, minus_law, times_law, by_eq}

-- ---- the floor is the floor: q * 2 ^ d ≤ x < (q + 1) * 2 ^ d, first as `omega` is handed it
low_side : (x : ℤ) (m : ℕ) → 0 < m → up (shr_z x m) * m + down x ≤ up x + down (shr_z x m) * m
low_side (pos a) m h = omega (arith, div-mul-le_self a m)
low_side (negsuc a) m h = omega (arith, lt-div-mul-add {a = a} h)

high_side : (x : ℤ) (m : ℕ) → 0 < m → up x + down (shr_z x m) * m < up (shr_z x m) * m + m + down x
high_side (pos a) m h = omega (arith, lt-div-mul-add {a = a} h)
high_side (negsuc a) m h = omega (arith, div-mul-le_self a m)

pub floor_low : (x : ℤ) (d : ℕ) → up (floor_by x d) * 2 ^ d + down x ≤ up x + down (floor_by x d) * 2 ^ d
unfolding floor_by
floor_low x d = low_side x (2 ^ d) (pow_pos d)

pub floor_high : (x : ℤ) (d : ℕ) → up x + down (floor_by x d) * 2 ^ d < up (floor_by x d) * 2 ^ d + 2 ^ d + down x
unfolding floor_by
floor_high x d = high_side x (2 ^ d) (pow_pos d)

pub floor_is : (x : ℤ) (d : ℕ) → ((floor_by x d *ℤ pos (2 ^ d)) ≤ℤ x) × (x <ℤ ((floor_by x d +ℤ pos 1) *ℤ pos (2 ^ d)))
floor_is x d =
    let q = floor_by x d in (
      omega (ints, floor_low x d, times_law q (pos (2 ^ d))),
      omega (ints, floor_high x d, times_law (q +ℤ pos 1) (pos (2 ^ d)), ap (λ (k : ℕ). k * 2 ^ d) (plus_law q (pos 1))),
    )

-- and the only number that lies so
pub floor_only : (x q : ℤ) (d : ℕ) → up q * 2 ^ d + down x ≤ up x + down q * 2 ^ d → up x + down q * 2 ^ d < up q * 2 ^ d + 2 ^ d + down x → q ≡ floor_by x d
floor_only x q d h k = by_eq q (floor_by x d) (omega (arith, above, below))
  where
    above : up q + down (floor_by x d) < up (floor_by x d) + 1 + down q
    above = lt_of_mul-lt-mul_right (2 ^ d) (omega (arith, floor_high x d))

    below : up (floor_by x d) + down q < up q + 1 + down (floor_by x d)
    below = lt_of_mul-lt-mul_right (2 ^ d) (omega (arith, floor_low x d))

pub only_floor : (x q : ℤ) (d : ℕ) → (q *ℤ pos (2 ^ d)) ≤ℤ x → x <ℤ ((q +ℤ pos 1) *ℤ pos (2 ^ d)) → q ≡ floor_by x d
only_floor x q d h k =
    floor_only x q d (omega (ints, times_law q (pos (2 ^ d))))
    (omega (ints, times_law (q +ℤ pos 1) (pos (2 ^ d)), ap (λ (i : ℕ). i * 2 ^ d) (plus_law q (pos 1))))

-- ---- floors compose
pub floor_floor : (x : ℤ) (a b : ℕ) → floor_by (floor_by x a) b ≡ floor_by x (a + b)
unfolding floor_by
floor_floor (pos n) a b = ap pos (shr-shr n a b)
floor_floor (negsuc n) a b = ap negsuc (shr-shr n a b)

pub floor_none : (x : ℤ) → floor_by x 0 ≡ x
unfolding floor_by
floor_none (pos n) = ap pos (div-one n)
floor_none (negsuc n) = ap negsuc (div-one n)

-- ---- -1 - x, and the floor of it
pub turned_pos : (n : ℕ) → turned (pos n) ≡ negsuc n
turned_pos n = omega (ints, minus_law (negsuc 0) (pos n))

pub turned_negsuc : (n : ℕ) → turned (negsuc n) ≡ pos n
turned_negsuc n = omega (ints, minus_law (negsuc 0) (negsuc n))

pub turned_law : (x : ℤ) → up (turned x) + up x + 1 ≡ down x + down (turned x)
turned_law x = omega (arith, minus_law (negsuc 0) x)

pub turned_turned : (x : ℤ) → turned (turned x) ≡ x
turned_turned x = omega (ints, turned_law x, turned_law (turned x))

pub turned_size : (x : ℤ) → mag (turned x) ≡ mag x
turned_size (pos n) = ap mag (turned_pos n)
turned_size (negsuc n) = ap mag (turned_negsuc n)

pub floor_turned : (x : ℤ) (d : ℕ) → floor_by (turned x) d ≡ turned (floor_by x d)
unfolding floor_by
floor_turned (pos n) d = ap (λ (z : ℤ). shr_z z (2 ^ d)) (turned_pos n) ∙ sym (turned_pos (n / 2 ^ d))
floor_turned (negsuc n) d = ap (λ (z : ℤ). shr_z z (2 ^ d)) (turned_negsuc n) ∙ sym (turned_negsuc (n / 2 ^ d))

-- ---- the range of a floor: d digits fewer
pub floor_size : (x : ℤ) (d : ℕ) → mag (floor_by x d) ≡ mag x / 2 ^ d
unfolding floor_by
floor_size (pos n) d = refl
floor_size (negsuc n) d = refl

pub floor_range : (x : ℤ) (j d : ℕ) → mag x < 2 ^ (j + d) → mag (floor_by x d) < 2 ^ j
floor_range x j d h = rw (floor_size x d) (shr_lt j d h)

-- ---- widening on the right and back: the floor drops what was put in
pub floor_widened : (a : ℤ) (r d : ℕ) → r ≤ 1 → floor_by (a *ℤ pos (2 ^ d) +ℤ pos (r * (2 ^ d - 1))) d ≡ a
floor_widened a r d h =
    let x = a *ℤ pos (2 ^ d) in
    let p = pos (r * (2 ^ d - 1)) in
    let scaled = times_law a (pos (2 ^ d)) in
    let sum = plus_law x p in
    sym (floor_only (x +ℤ p) a d (omega arith) (omega (arith, pow_pos d, mul-le-mul_right {m = r} {n = 1} (2 ^ d - 1) h)))
