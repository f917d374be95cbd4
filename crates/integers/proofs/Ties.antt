-- A number with a round bit in the middle between two counts of new units, by its digits. Assumes nothing.
-- Proved here: `middle_digits`, `digits_middle`.
use mathlib.Core.Path.{◌≡◌, refl, ap, ◌∙◌}
use mathlib.Core.Bool.{Bool, true, false}
use Prim.Native.Nat.{ℕ, zero, suc, ◌+◌, ◌-◌, ◌*◌, ◌^◌, ◌<◌, ◌≤◌}
use native.Mathlib.Omega.{arith}
use native.Mathlib.Nat.{pow-succ'}
use lib.Dec.{ltb}
use lib.IntN.{ℤ}
use borrow.Author.Tests.{ltb-true, ltb-false}
use Rattle.integers.specs.Numbers.{digit, digits_below}
use Rattle.integers.proofs.Digits.{digit_le, both_bits}
use Rattle.integers.proofs.LowDigits.{below_more, below_range}
use Rattle.integers.proofs.Even.{above}

-- ---- the digits below k are all r where, at their weights, they are r * (2 ^ k - 1), and only there
below_alike : (r : ℕ) (a : ℤ) (k : ℕ) → ((i : ℕ) → i < k → digit a i ≡ r) → digits_below a k + r ≡ r * 2 ^ k
unfolding digits_below
below_alike r a zero all = omega arith
below_alike r a (suc k) all =
    let low = below_alike r a k (λ i l. all i (omega arith)) in
    let high = all k (omega arith) in
    omega (arith, low, ap (λ (d : ℕ). d * 2 ^ k) high, ap (λ (p : ℕ). r * p) (pow-succ' 2 k))

alike_below : (r : ℕ) (a : ℤ) (k : ℕ) → r ≤ 1 → digits_below a k + r ≡ r * 2 ^ k → (i : ℕ) → i < k → digit a i ≡ r
alike_below r a zero h e i l = absurd (omega arith)
alike_below r a (suc k) h e i l = go (ltb i k) refl (alike_below r a k h split.1 i)
  where
    m : ℕ
    m = digits_below a k

    p : ℕ
    p = 2 ^ k

    parted : digit a k * p + m + r ≡ r * (2 * p)
    parted = omega (arith, e, below_more a k, ap (λ (q : ℕ). r * q) (pow-succ' 2 k))

    -- the highest of them, and so the others
    split : (digit a k ≡ r) × (m + r ≡ r * p)
    split =
        both_bits (λ d r. d * p + m + r ≡ r * (2 * p) → (d ≡ r) × (m + r ≡ r * p)) (λ e. (refl, omega arith))
        (λ e. absurd (omega (arith, below_range a k))) (λ e. absurd (omega (arith, below_range a k))) (λ e. (refl, omega arith)) (digit a k) r
        (digit_le a k) h parted

    go : (t : Bool) → ltb i k ≡ t → (i < k → digit a i ≡ r) → digit a i ≡ r
    go true f others = others (ltb-true i k f)
    go false f others = let last : i ≡ k = omega (arith, ltb-false i k f) in ap (digit a) last ∙ split.0

-- ---- in the middle digit k is not the round bit, and every digit below it is; and only there
pub middle_digits : (r : ℕ) (a : ℤ) (k : ℕ) → r ≤ 1 → above r a k ≡ 2 ^ k → (digit a k ≡ 1 - r) × ((i : ℕ) → i < k → digit a i ≡ r)
middle_digits r a k h e = (split.0, alike_below r a k h split.1)
  where
    m : ℕ
    m = digits_below a k

    p : ℕ
    p = 2 ^ k

    split : (digit a k ≡ 1 - r) × (m + r ≡ r * p)
    split =
        both_bits (λ d r. d * p + m + r ≡ p → (d ≡ 1 - r) × (m + r ≡ r * p)) (λ e. absurd (omega (arith, below_range a k)))
        (λ e. (refl, omega arith)) (λ e. (refl, omega arith)) (λ e. absurd (omega arith)) (digit a k) r (digit_le a k) h
        (omega (arith, e, below_more a k))

pub digits_middle : (r : ℕ) (a : ℤ) (k : ℕ) → r ≤ 1 → digit a k ≡ 1 - r → ((i : ℕ) → i < k → digit a i ≡ r) → above r a k ≡ 2 ^ k
digits_middle r a k h e all =
    let whole = go (digit a k) r (digit_le a k) h e (below_alike r a k all) in omega (arith, whole, below_more a k)
  where
    m : ℕ
    m = digits_below a k

    p : ℕ
    p = 2 ^ k

    go : (d r : ℕ) → d ≤ 1 → r ≤ 1 → d ≡ 1 - r → m + r ≡ r * p → d * p + m + r ≡ p
    go =
        both_bits (λ d r. d ≡ 1 - r → m + r ≡ r * p → d * p + m + r ≡ p) (λ e f. absurd (omega arith)) (λ e f. omega arith) (λ e f. omega arith)
        (λ e f. absurd (omega arith))
