-- Quotients of natural numbers: what two fractions of one size share, and powers of 2. Assumes nothing.
-- Proved here: `rest_same`, `exact_same`, `powers`, `bit_times`.
use mathlib.Core.Bool.{Bool, true, false}
use mathlib.Core.Path.{◌≡◌, refl, sym, ap, ◌∙◌}
use Prim.Native.Nat.{ℕ, zero, suc, ◌-◌, ◌*◌, ◌%◌, ◌^◌, ◌<◌, ◌≤◌, min}
use native.Mathlib.Omega.{arith}
use native.Mathlib.Nat.{div-add-mod', add-sub_of_le}
use lib.Dec.{eqb}
use lib.Ieee.Nearest.{div_same}
use lib.Pow.{pow-add}
use borrow.Author.Tests.{eqb-true, eqb-false, eq-eqb, ne_eqb}

-- ---- what is left over of two fractions of one size is of one size too, so one is whole where the other is
pub rest_same : (a b c d : ℕ) → 0 < b → 0 < d → a * d ≡ c * b → a % b * d ≡ c % d * b
rest_same a b c d h k e =
    omega (
      arith,
      ap (λ (i : ℕ). i * d) (div-add-mod' a b),
      ap (λ (i : ℕ). i * b) (div-add-mod' c d),
      ap (λ (i : ℕ). i * (b * d)) (div_same a b c d h k e),
    )

none_left : (a b c d : ℕ) → 0 < b → 0 < d → a * d ≡ c * b → a % b ≡ 0 → c % d ≡ 0
none_left a b c d h k e z = go (c % d) (omega (arith, ap (λ (i : ℕ). i * d) z, rest_same a b c d h k e))
  where
    go : (r : ℕ) → r * b ≡ 0 → r ≡ 0
    go zero f = refl
    go (suc r) f = absurd (omega arith)

pub exact_same : (a b c d : ℕ) → 0 < b → 0 < d → a * d ≡ c * b → eqb (a % b) 0 ≡ eqb (c % d) 0
exact_same a b c d h k e = go (eqb (a % b) 0) refl
  where
    go : (t : Bool) → eqb (a % b) 0 ≡ t → t ≡ eqb (c % d) 0
    go true f = sym (eq-eqb (c % d) 0 (none_left a b c d h k e (eqb-true (a % b) 0 f)))
    go false f = sym (ne_eqb (c % d) 0 (λ z. eqb-false (a % b) 0 f (none_left c d a b k h (sym e) z)))

-- ---- powers, and a digit times p: 0 or p
pub powers : (k d : ℕ) → k ≤ d → 2 ^ k * 2 ^ (d - k) ≡ 2 ^ d
powers k d h = sym (pow-add 2 k (d - k)) ∙ ap (λ (i : ℕ). 2 ^ i) (add-sub_of_le h)

pub bit_times : (b p : ℕ) → b ≤ 1 → (b * p ≤ p) × (min (b * p) (p - b * p) ≡ 0)
bit_times zero p h = omega arith
bit_times (suc zero) p h = omega arith
bit_times (suc (suc b)) p h = absurd (omega arith)
