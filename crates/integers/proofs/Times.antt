-- Laws of the product that the library of ℤ lacks. Assumes nothing.
-- Proved here: `plus_times`, `times_assoc`, `times_plus`, `neg_times`, `times_neg`, `near_twice`, `others_farther`.
use mathlib.Core.Path.{◌≡◌, refl, ap}
use mathlib.Core.Bool.{Bool, true, false}
use Prim.Native.Nat.{ℕ, ◌+◌, ◌*◌, ◌<◌, ◌≤◌}
use native.Mathlib.Nat.{lt_of_mul-lt-mul_right}
use lib.Dec.{ltb}
use lib.IntN.{ℤ, pos, neg_ℤ, nat_abs, ◌+ℤ◌, ◌-ℤ◌, ◌*ℤ◌, *ℤ_comm}
use borrow.Author.Tests.{ltb-true, ltb-false}
use Rattle.integers.proofs.Kit.{up, down, ints, plus_law, neg_law, minus_law, times_law, abs_range, by_abs, abs_law}

pub plus_times : (a b c : ℤ) → (a +ℤ b) *ℤ c ≡ (a *ℤ c) +ℤ (b *ℤ c)
plus_times a b c =
    omega (
      ints,
      times_law (a +ℤ b) c,
      times_law a c,
      times_law b c,
      plus_law (a *ℤ c) (b *ℤ c),
      ap (λ (k : ℕ). k * up c) (plus_law a b),
      ap (λ (k : ℕ). k * down c) (plus_law a b),
    )

pub times_assoc : (a b c : ℤ) → (a *ℤ b) *ℤ c ≡ a *ℤ (b *ℤ c)
times_assoc a b c =
    omega (
      ints,
      times_law (a *ℤ b) c,
      times_law a (b *ℤ c),
      ap (λ (k : ℕ). k * up c) (times_law a b).0,
      ap (λ (k : ℕ). k * down c) (times_law a b).0,
      ap (λ (k : ℕ). k * up c) (times_law a b).1,
      ap (λ (k : ℕ). k * down c) (times_law a b).1,
      ap (λ (k : ℕ). up a * k) (times_law b c).0,
      ap (λ (k : ℕ). down a * k) (times_law b c).0,
      ap (λ (k : ℕ). up a * k) (times_law b c).1,
      ap (λ (k : ℕ). down a * k) (times_law b c).1,
    )

-- ---- a factor on the left of a sum, and a sign on either factor
pub times_plus : (a b c : ℤ) → a *ℤ (b +ℤ c) ≡ (a *ℤ b) +ℤ (a *ℤ c)
times_plus a b c = rw (*ℤ_comm a (b +ℤ c), plus_times b c a, *ℤ_comm b a, *ℤ_comm c a)

pub neg_times : (a b : ℤ) → neg_ℤ a *ℤ b ≡ neg_ℤ (a *ℤ b)
neg_times a b = omega (ints, rw ((neg_law a).0, (neg_law a).1) at (times_law (neg_ℤ a) b), times_law a b, neg_law (a *ℤ b))

pub times_neg : (a b : ℤ) → a *ℤ neg_ℤ b ≡ neg_ℤ (a *ℤ b)
times_neg a b = rw (*ℤ_comm a (neg_ℤ b), neg_times b a, *ℤ_comm b a)

-- x times q is near v, so x times twice q is near twice v
pub near_twice : (x v e : ℤ) (q : ℕ) → pos 2 *ℤ v ≡ e → nat_abs ((x *ℤ pos q) -ℤ v) ≤ q → nat_abs ((x *ℤ pos (2 * q)) -ℤ e) ≤ 2 * q
near_twice x v e q p h =
    by_abs (2 * q) ((x *ℤ pos (2 * q)) -ℤ e)
    (omega (
      ints,
      p,
      minus_law (x *ℤ pos q) v,
      minus_law (x *ℤ pos (2 * q)) e,
      times_law x (pos q),
      times_law x (pos (2 * q)),
      times_law (pos 2) v,
      abs_range q ((x *ℤ pos q) -ℤ v) h,
    ))

-- ---- two counts of p that are together less than p away from v are one
one_near : (x y v : ℤ) (p : ℕ) → nat_abs ((x *ℤ pos p) -ℤ v) + nat_abs ((y *ℤ pos p) -ℤ v) < p → x ≡ y
one_near x y v p h = omega (ints, side x y h, side y x (omega ints))
  where
    side : (x y : ℤ) → nat_abs ((x *ℤ pos p) -ℤ v) + nat_abs ((y *ℤ pos p) -ℤ v) < p → up x + down y < up y + 1 + down x
    side x y h =
        let a = (x *ℤ pos p) -ℤ v in
        let b = (y *ℤ pos p) -ℤ v in
        lt_of_mul-lt-mul_right p
        (omega (
          ints,
          h,
          abs_law a,
          abs_law b,
          minus_law (x *ℤ pos p) v,
          minus_law (y *ℤ pos p) v,
          times_law x (pos p),
          times_law y (pos p),
        ))

-- so of all even counts of p the one that is less than p away from v is the nearest
twice : (x : ℤ) (p : ℕ) → (pos 2 *ℤ x) *ℤ pos p ≡ x *ℤ pos (2 * p)
twice x p = rw (*ℤ_comm (pos 2) x) (times_assoc x (pos 2) (pos p))

pub others_farther : (v x y : ℤ) (p : ℕ) → nat_abs (((pos 2 *ℤ x) *ℤ pos p) -ℤ v) < p → (y ≡ x → ⊥) →
    nat_abs (((pos 2 *ℤ x) *ℤ pos p) -ℤ v) < nat_abs (((pos 2 *ℤ y) *ℤ pos p) -ℤ v)
others_farther v x y p h other = go (ltb (far x) (far y)) refl
  where
    far : ℤ → ℕ
    far z = nat_abs (((pos 2 *ℤ z) *ℤ pos p) -ℤ v)

    go : (t : Bool) → ltb (far x) (far y) ≡ t → far x < far y
    go true f = ltb-true (far x) (far y) f
    go false f =
        let no-farther = ltb-false (far x) (far y) f in
        let both : far y + far x < 2 * p = omega ints in
        absurd (other (one_near y x v (2 * p) (rw (twice y p, twice x p) at both)))
