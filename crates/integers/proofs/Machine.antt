-- What a few machine operations on an i64 compute, in the terms of the definitions, with the depth a variable. `of_z w64 x` are the bits of
-- x as a natural number, `to_z w64 b` is the number that the bits b mean. Assumes nothing.
-- Proved here: `floor_machine`, `floor_far`, `lowest_machine`, `byte_machine`, `by_cast`, `turned_machine`, `is_negative`, `not_negative`, `by_bits`,
-- `fits_machine_test`, `times_machine`, `cleared_machine`, `low_fits`, `low_machine`, `low_far`.
use mathlib.Core.Path.{◌≡◌, refl, sym, ap, ◌∙◌, subst}
use mathlib.Core.Bool.{Bool, true, false, ◌||◌, or-false}
use Prim.Native.Nat.{ℕ, zero, suc, ◌+◌, ◌*◌, ◌-◌, ◌/◌, ◌%◌, ◌^◌, ◌<◌, ◌≤◌}
use native.Mathlib.Omega.{arith}
use native.Mathlib.Nat.{mod-eq_of_lt, div-eq_of_lt, lt-div-mul-add, lt_of_lt_of_le, lt_of_le_of_lt}
use lib.{Dec.{T, eqb, ltb}, Arith.{digits_mod}}
use lib.Bits.{bit_and, and_mask}
use lib.Pow.{pow_pos, pow-add, pow_mono, shl_lt}
use lib.IntN.{ℤ, pos, negsuc, neg_ℤ, nat_abs, ◌+ℤ◌, ◌*ℤ◌}
use lib.Signed.{mag, mag_shr, non_neg, shr_z, lt_z}
use mir.Syntax.{Width, w64}
use mir.Val.{Fits, SFits, bits, hbits, to_z, of_z}
use mir.Facts.{to_z-of_z, to_z_pos, to_z-neg}
use borrow.Author.Tests.{eq-eqb, ne_eqb, ltb-true, ltb-false}
use Rattle.integers.specs.Numbers.{fits_width, turned, cleared, floor_by, lowest, digit, digits_below, low_digits}
use Rattle.integers.proofs.Kit.{ints, size_range, by_machine, plus_law, neg_law, times_law}
use Rattle.integers.proofs.Floor.{floor_size, floor_range, turned_pos, turned_negsuc, floor_widened}
use Rattle.integers.proofs.LowDigits.{below_law, below_range, low_range, floor_low_digits, below_low, below_split, below_same, lowest_below}
use Rattle.integers.proofs.{Width.{fits_is, widen_size}, Digits.{cleared_is, digit_law}}

-- ---- `x >> d`
pub floor_machine : {x : ℤ} (d : ℕ) → SFits w64 x → SFits w64 (floor_by x d)
unfolding floor_by
floor_machine {x} d f = record { sfits = lt_of_le_of_lt (mag_shr x (2 ^ d)) f.sfits }

-- from 63 on, every floor of an i64 is the same
pub floor_far : (x : ℤ) (d : ℕ) → SFits w64 x → 63 ≤ d → floor_by x 63 ≡ floor_by x d
unfolding floor_by
floor_far (pos n) d f h = ap pos (div-eq_of_lt f.sfits ∙ sym (div-eq_of_lt (lt_of_lt_of_le f.sfits (pow_mono h))))
floor_far (negsuc n) d f h = ap negsuc (div-eq_of_lt f.sfits ∙ sym (div-eq_of_lt (lt_of_lt_of_le f.sfits (pow_mono h))))

-- ---- the bits of an i64 are its digits below 64, and end in those below d
bits_end : (x : ℤ) (d s : ℕ) → SFits w64 x → d + s ≡ 64 → of_z w64 x ≡ digits_below (floor_by x d) s * 2 ^ d + digits_below x d
unfolding floor_by
bits_end x d s f e = all x f ∙ ap (digits_below x) (sym e) ∙ below_split x d s ∙ omega arith
  where
    all : (x : ℤ) → SFits w64 x → of_z w64 x ≡ digits_below x 64
    all (pos n) f = sym (below_same n 64 (omega (arith, f.sfits)))
    all (negsuc n) f =
        let h : n < 2 ^ 64 = omega (arith, f.sfits) in
        omega (arith, rw (div-eq_of_lt h) at (below_law (negsuc n) 64))

-- so `x & (2 ^ d - 1)` are the digits below d: `y & 1` and `x & 255`
mask_machine : (x : ℤ) (d : ℕ) → d ≤ 63 → SFits w64 x → to_z w64 (bit_and (of_z w64 x) (2 ^ d - 1)) ≡ pos (digits_below x d)
mask_machine x d l f =
    ap (to_z w64) (and_mask (of_z w64 x) d ∙ ap (λ (u : ℕ). u % 2 ^ d) (bits_end x d (64 - d) f (omega arith))
    ∙ digits_mod (digits_below (floor_by x d) (64 - d)) (below_range x d))
    ∙ to_z_pos w64 (lt_of_lt_of_le (below_range x d) (pow_mono l))

pub lowest_machine : (y : ℤ) → SFits w64 y → to_z w64 (bit_and (of_z w64 y) 1) ≡ pos (lowest y)
lowest_machine y f = mask_machine y 1 (omega arith) f ∙ ap pos (lowest_below y)

pub byte_machine : (x : ℤ) → SFits w64 x → to_z w64 (bit_and (of_z w64 x) 255) ≡ pos (digits_below x 8)
byte_machine x f = mask_machine x 8 (omega arith) f

-- a cast to an unsigned type of an i64 that is k
pub by_cast : {w : Width} {t : ℤ} (k : ℕ) → t ≡ pos k → k < 2 ^ bits w → T (non_neg t) × Fits w (nat_abs t)
by_cast {w} k e h = subst (λ (t : ℤ). T (non_neg t) × Fits w (nat_abs t)) (sym e) (tt, record { fits = h })

-- ---- `!x`, and the sign
pub turned_machine : {x : ℤ} → SFits w64 x → to_z w64 ((2 ^ 64 - 1) - of_z w64 x) ≡ turned x
turned_machine {x = pos n} f =
    let e : (2 ^ 64 - 1) - n ≡ 2 ^ 64 - suc n = omega arith in
    ap (to_z w64) e ∙ to_z-neg w64 n f.sfits ∙ sym (turned_pos n)
turned_machine {x = negsuc n} f =
    let e : (2 ^ 64 - 1) - (2 ^ 64 - suc n) ≡ n = omega (arith, f.sfits) in
    ap (to_z w64) e ∙ to_z_pos w64 f.sfits ∙ sym (turned_negsuc n)

pub is_negative : (x : ℤ) → lt_z x (pos 0) ≡ true → x ≡ negsuc (mag x)
is_negative (pos n) h = absurd (omega (ints, h))
is_negative (negsuc n) h = refl

pub not_negative : (x : ℤ) → lt_z x (pos 0) ≡ false → x ≡ pos (mag x)
not_negative (pos n) h = refl
not_negative (negsuc n) h = absurd (omega (ints, h))

-- `z == k`: the test is of the bits, and at a literal k these compute
pub by_bits : {z : ℤ} (k : ℕ) → SFits w64 z → of_z w64 z ≡ k → z ≡ to_z w64 k
by_bits k f e = sym (to_z-of_z f) ∙ ap (to_z w64) e

-- ---- `(y == 0) | (y == -1)`
only_sign : (y : ℤ) → SFits w64 y → (eqb (of_z w64 y) 0 || eqb (of_z w64 y) (2 ^ 64 - 1)) ≡ eqb (mag y) 0
only_sign (pos n) f = rw (ne_eqb n (2 ^ 64 - 1) (λ e. omega (arith, f.sfits)), or-false)
only_sign (negsuc n) f =
    rw (ne_eqb (2 ^ 64 - suc n) 0 (λ e. omega (arith, f.sfits))) (last n f.sfits)
  where
    last : (n : ℕ) → n < 2 ^ 63 → eqb (2 ^ 64 - suc n) (2 ^ 64 - 1) ≡ eqb n 0
    last zero h = refl
    last (suc n) h = ne_eqb (2 ^ 64 - suc (suc n)) (2 ^ 64 - 1) (λ e. omega arith) ∙ sym (ne_eqb (suc n) 0 (λ e. omega arith))

floor_zero : (m p : ℕ) → 0 < p → eqb (m / p) 0 ≡ ltb m p
floor_zero m p h = go (ltb m p) refl
  where
    go : (b : Bool) → ltb m p ≡ b → eqb (m / p) 0 ≡ b
    go true e = eq-eqb (m / p) 0 (div-eq_of_lt (ltb-true m p e))
    go false e = ne_eqb (m / p) 0 (λ z. omega (arith, ltb-false m p e, lt-div-mul-add {a = m} h, ap (λ (k : ℕ). k * p) z))

pub fits_machine_test : (x : ℤ) (n : ℕ) → SFits w64 x →
    (eqb (of_z w64 (floor_by x (n - 1))) 0 || eqb (of_z w64 (floor_by x (n - 1))) (2 ^ 64 - 1)) ≡ fits_width x n
fits_machine_test x n f =
    only_sign (floor_by x (n - 1)) (floor_machine (n - 1) f)
    ∙ ap (λ (k : ℕ). eqb k 0) (floor_size x (n - 1))
    ∙ floor_zero (mag x) (2 ^ (n - 1)) (pow_pos (n - 1))
    ∙ sym (fits_is x n)

-- ---- `x << d`, where the product fits
neg_bits : (k : ℕ) → 0 < k → k ≤ 2 ^ 63 → to_z w64 (2 ^ 64 - k) ≡ neg_ℤ (pos k)
neg_bits zero h l = absurd (omega arith)
neg_bits (suc k) h l = to_z-neg w64 k l

-- (C - n) * p = (p - 1) * C + (C - n * p)
borrowed : (C n p : ℕ) → n ≤ C → n * p ≤ C → 0 < p → (C - n) * p ≡ (p - 1) * C + (C - n * p)
borrowed C n p h l k =
    let e : (C - n) + n ≡ C = omega arith in
    let g : (p - 1) + 1 ≡ p = omega arith in
    omega (arith, ap (λ (i : ℕ). i * p) e, ap (λ (i : ℕ). i * C) g)

pub times_machine : {x : ℤ} (d : ℕ) → SFits w64 x → SFits w64 (x *ℤ pos (2 ^ d)) → to_z w64 ((of_z w64 x * 2 ^ d) % 2 ^ 64) ≡ x *ℤ pos (2 ^ d)
times_machine {x = pos n} d f g =
    let h : n * 2 ^ d < 2 ^ 64 = omega (arith, g.sfits) in
    ap (to_z w64) (mod-eq_of_lt h) ∙ to_z_pos w64 g.sfits
times_machine {x = negsuc n} d f g =
    ap (λ (k : ℕ). to_z w64 (k % 2 ^ 64)) (borrowed (2 ^ 64) (suc n) (2 ^ d) (omega (arith, f.sfits)) (omega (arith, small)) (pow_pos d))
    ∙ ap (to_z w64) (digits_mod (2 ^ d - 1) (omega (arith, some)))
    ∙ neg_bits (suc n * 2 ^ d) some small
  where
    some : 0 < suc n * 2 ^ d
    some = omega (arith, pow_pos d)

    small : suc n * 2 ^ d ≤ 2 ^ 63
    small = omega (ints, g, neg_law (pos (suc n * 2 ^ d)))

-- `(x >> 1) << 1`: nothing leaves an i64, since its ends are even and odd
pub cleared_machine : (x : ℤ) → SFits w64 x → SFits w64 (cleared x)
cleared_machine x f = rw (cleared_is x) (twice x f)
  where
    twice : (x : ℤ) → SFits w64 x → SFits w64 (floor_by x 1 *ℤ pos 2)
    twice x f = by_machine (omega (arith, times_law (floor_by x 1) (pos 2), size_range (2 ^ 62) (floor_by x 1) (floor_range x 62 1 f.sfits)))

-- ---- `(x << s) >> s` with d + s = 64: the low d digits
shifted_out : (hi l d s : ℕ) → d + s ≡ 64 → l < 2 ^ d → ((hi * 2 ^ d + l) * 2 ^ s) % 2 ^ 64 ≡ l * 2 ^ s
shifted_out hi l d s e h = ap (λ (k : ℕ). k % 2 ^ 64) split ∙ digits_mod hi (subst (λ (k : ℕ). l * 2 ^ s < 2 ^ k) e (shl_lt d s h))
  where
    split : (hi * 2 ^ d + l) * 2 ^ s ≡ hi * 2 ^ 64 + l * 2 ^ s
    split = omega (arith, ap (λ (k : ℕ). hi * k) (sym (ap (λ (k : ℕ). 2 ^ k) e) ∙ pow-add 2 d s))

pub low_fits : (w : Width) (x : ℤ) (d : ℕ) → d ≤ suc (hbits w) → SFits w (low_digits x d)
unfolding low_digits
low_fits w x zero h = record { sfits = pow_pos (hbits w) }
low_fits w x (suc k) h = record { sfits = lt_of_lt_of_le (low_range x k) (pow_mono {i = k} {j = hbits w} (omega arith)) }

-- so x and its low d digits are the same bits after the first shift, and of the low digits the second shift takes the first back
pub low_machine : (x : ℤ) (d : ℕ) → SFits w64 x → 0 < d → d ≤ 63 → shr_z (to_z w64 ((of_z w64 x * 2 ^ (64 - d)) % 2 ^ 64)) (2 ^ (64 - d)) ≡ low_digits x d
unfolding floor_by
low_machine x zero f h l = absurd (omega arith)
low_machine x (suc k) f h l =
    ap (λ (u : ℕ). shr_z (to_z w64 u) (2 ^ s)) (shifted x f ∙ ap (λ (u : ℕ). u * 2 ^ s) (sym (below_low x d)) ∙ sym (shifted y fits))
    ∙ ap (λ (z : ℤ). shr_z z (2 ^ s)) (times_machine s fits room)
    ∙ rw alone at (floor_widened y 0 s (omega arith))
  where
    d : ℕ
    d = suc k

    s : ℕ
    s = 64 - d

    y : ℤ
    y = low_digits x d

    shifted : (z : ℤ) → SFits w64 z → (of_z w64 z * 2 ^ s) % 2 ^ 64 ≡ digits_below z d * 2 ^ s
    shifted z g = rw (bits_end z d s g (omega arith)) (shifted_out (digits_below (floor_by z d) s) (digits_below z d) d s (omega arith) (below_range z d))

    fits : SFits w64 y
    fits = low_fits w64 x d (omega arith)

    alone : y *ℤ pos (2 ^ s) +ℤ pos (0 * (2 ^ s - 1)) ≡ y *ℤ pos (2 ^ s)
    alone = omega (ints, plus_law (y *ℤ pos (2 ^ s)) (pos (0 * (2 ^ s - 1))))

    all : k + s ≡ 63
    all = omega arith

    room : SFits w64 (y *ℤ pos (2 ^ s))
    room = record { sfits = rw (alone, all) at (widen_size y 0 k s (low_range x k) (omega arith)) }

-- from 64 on they are x itself
pub low_far : (x : ℤ) (d : ℕ) → SFits w64 x → 63 < d → low_digits x d ≡ x
low_far x zero f h = absurd (omega arith)
low_far x (suc k) f h =
    let low = plus_law (pos 0 *ℤ pos (2 ^ suc k)) (low_digits x (suc k)) in
    omega (ints, rw none at (floor_low_digits x k), low, times_law (pos 0) (pos (2 ^ suc k)))
  where
    same : floor_by x k ≡ floor_by x (suc k)
    same = sym (floor_far x k f (omega arith)) ∙ floor_far x (suc k) f (omega arith)

    none : floor_by x (suc k) +ℤ pos (digit x k) ≡ pos 0
    none = omega (ints, rw same at (digit_law x k), plus_law (floor_by x (suc k)) (pos (digit x k)))
