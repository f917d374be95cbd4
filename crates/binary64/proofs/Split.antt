-- A quotient by its parts: its whole part, the first binary digit behind the point and whether any digit behind that one is 1. Assumes nothing.
-- Proved here: `same_parts`, `half_le`, `cut_parts`, `raised_parts`, `closest_parts`, `none_behind`.
use mathlib.Core.Path.{◌≡◌, refl, sym, ap, ◌∙◌, subst}
use mathlib.Core.Bool.{Bool, true, false, not}
use Prim.Native.Nat.{ℕ, zero, suc, ◌+◌, ◌*◌, ◌-◌, ◌/◌, ◌%◌, ◌^◌, ◌<◌, ◌≤◌, min, compare, Ordering}
use native.Mathlib.Omega.{arith}
use native.Mathlib.Nat.{div-add-mod', mod-lt, div-le_self, pow-succ'}
use lib.Arith.{digits_div, digits_mod}
use lib.Bits.{bit_and, bit_or, and_zero_r}
use lib.Dec.{eqb, ltb, is_le, compare_is_eq}
use lib.IntN.{pos}
use lib.Pow.{pow_pos}
use lib.Ieee.{nearest}
use lib.Ieee.Nearest.{closest, div_same}
use borrow.Author.Tests.{eq-eqb, ne_eqb, eqb-true, eqb-false, leb-true, leb-false, ltb-true, ltb-false}
use Rattle.integers.specs.Numbers.{floor_by, lowest, digit, any_below}
use Rattle.integers.proofs.LowDigits.{below_mod, any_le, none_below, some_below}
use Rattle.integers.proofs.Quotients.{exact_same}
use Rattle.binary64.specs.Import.{Quotient, quotient}
use Rattle.binary64.specs.Parts.{bit, too_many, parts_of}

-- ---- equal quotients have the same parts
twice_same : (a b c d : ℕ) → a * d ≡ c * b → 2 * a * d ≡ 2 * c * b
twice_same a b c d e = omega (arith, e)

pub same_parts : (s : Bool) (a b c d : ℕ) → 0 < b → 0 < d → a * d ≡ c * b → parts_of (quotient s a b) ≡ parts_of (quotient s c d)
unfolding parts_of
same_parts s a b c d h k e =
    let twice = twice_same a b c d e in
    rw (div_same a b c d h k e, div_same (2 * a) b (2 * c) d h k twice, exact_same (2 * a) b (2 * c) d h k twice)

pub half_le : (q : Quotient) → (parts_of q).half ≤ 1
unfolding parts_of
half_le q = omega arith

-- ---- a number over a power of 2: its digits
any_mod : (m k : ℕ) → bit (not (eqb (m % 2 ^ k) 0)) ≡ any_below (pos m) k
any_mod m k = go (any_below (pos m) k) refl
  where
    go : (t : ℕ) → any_below (pos m) k ≡ t → bit (not (eqb (m % 2 ^ k) 0)) ≡ t
    go zero e = rw (eq-eqb (m % 2 ^ k) 0 (sym (below_mod m k) ∙ none_below (pos m) k e))
    go (suc zero) e = rw (ne_eqb (m % 2 ^ k) 0 (λ z. omega (arith, some_below (pos m) k (below_mod m k ∙ z))))
    go (suc (suc t)) e = absurd (omega (arith, any_le (pos m) k))

pub cut_parts : (s : Bool) (m d : ℕ) {w h t : ℕ} → 0 < d → m < 2 ^ 53 → w ≡ m / 2 ^ d → h ≡ digit (pos m) (d - 1) → t ≡ any_below (pos m) (d - 1) →
    record { negative = s; whole = w; half = h; more = t } ≡ parts_of (quotient s m (2 ^ d))
unfolding parts_of digit lowest floor_by
cut_parts s m zero l g x y z = absurd (omega arith)
cut_parts s m (suc k) l g x y z =
    let less : suc k - 1 ≡ k = omega arith in
    let twice : 2 * m * 2 ^ k ≡ m * 2 ^ suc k = omega (arith, ap (λ (i : ℕ). m * i) (pow-succ' 2 k)) in
    let small : min (m / 2 ^ suc k) too_many ≡ m / 2 ^ suc k = omega (arith, div-le_self m (2 ^ suc k)) in
    rw (
      x,
      y,
      z,
      less,
      small,
      div_same (2 * m) (2 ^ suc k) m (2 ^ k) (pow_pos (suc k)) (pow_pos k) twice,
      exact_same (2 * m) (2 ^ suc k) m (2 ^ k) (pow_pos (suc k)) (pow_pos k) twice,
      any_mod m k,
    )

-- ---- a whole number: nothing stands behind the point
even : (w : ℕ) → 2 * w % 2 ≡ 0
even w = omega arith

pub raised_parts : (s : Bool) (n : ℕ) → parts_of (quotient s n 1) ≡ record { negative = s; whole = min n too_many; half = 0; more = 0 }
unfolding parts_of
raised_parts s n =
    let none : 0 < 1 = omega arith in
    let same : n * 1 + 0 ≡ n = omega arith in
    let twice : (2 * n) * 1 + 0 ≡ 2 * n = omega arith in
    rw (
      rw same at (digits_div n none),
      rw twice at (digits_div (2 * n) none),
      rw twice at (digits_mod (2 * n) none),
      even n,
    )

-- ---- the nearest whole number, by the two digits behind the point
-- the bit that is added to w whole
abbrev added : ℕ → ℕ → ℕ → ℕ
added a b w = bit_and (bit_or (bit (not (eqb (2 * a % b) 0))) (w % 2)) ((2 * a / b) % 2)

odd : (w : ℕ) → (2 * w + 1) % 2 ≡ 1
odd w = omega arith

-- with r left over of w whole, twice the quotient has 2 w whole and 2 r left over, or 1 more and b less
module _ (w r b : ℕ) where
  low_half : r * 2 < b → ((2 * (w * b + r)) / b ≡ 2 * w) × ((2 * (w * b + r)) % b ≡ 2 * r)
  low_half h =
      let split : 2 * (w * b + r) ≡ (2 * w) * b + 2 * r = omega arith in
      rw split (digits_div (2 * w) {m = b} {r = 2 * r} (omega arith), digits_mod (2 * w) {m = b} {r = 2 * r} (omega arith))

  high_half : b ≤ r * 2 → r < b → ((2 * (w * b + r)) / b ≡ 2 * w + 1) × ((2 * (w * b + r)) % b ≡ 2 * r - b)
  high_half h l =
      let split : 2 * (w * b + r) ≡ (2 * w + 1) * b + (2 * r - b) = omega arith in
      rw split (digits_div (2 * w + 1) {m = b} {r = 2 * r - b} (omega arith), digits_mod (2 * w + 1) {m = b} {r = 2 * r - b} (omega arith))

  -- at half a unit the bit is the lowest digit of w, past it it is 1
  tied : (o : ℕ) → w % 2 ≡ o → bit_and (bit_or 0 (w % 2)) 1 ≡ w % 2
  tied zero e = rw e
  tied (suc zero) e = rw e
  tied (suc (suc o)) e = absurd (omega arith)

  past : (o : ℕ) → w % 2 ≡ o → bit_and (bit_or 1 (w % 2)) 1 ≡ 1
  past zero e = rw e
  past (suc zero) e = rw e
  past (suc (suc o)) e = absurd (omega arith)

  added_by : (o : Ordering) → compare (r * 2) b ≡ o → r < b → nearest w o ≡ w + added (w * b + r) b w
  added_by Ordering.lt e l =
      let h = leb-true (r * 2) b (ap is_le e) in
      let n : r * 2 ≡ b → ⊥ = eqb-false (r * 2) b (ap compare_is_eq e) in
      rw ((low_half (omega arith)).0, even w, and_zero_r (bit_or (bit (not (eqb (2 * (w * b + r) % b) 0))) (w % 2))) (omega arith)
  added_by Ordering.eq e l =
      let h = eqb-true (r * 2) b (ap compare_is_eq e) in
      let d = high_half (omega arith) l in
      rw (d.0, odd w, d.1, eq-eqb (2 * r - b) 0 (omega arith), tied (w % 2) refl)
  added_by Ordering.gt e l =
      let h = leb-false (r * 2) b (ap is_le e) in
      let d = high_half (omega arith) l in
      rw (d.0, odd w, d.1, ne_eqb (2 * r - b) 0 (λ z. omega arith), past (w % 2) refl) (omega arith)

pub closest_parts : (a b : ℕ) → 0 < b → closest a b ≡ a / b + bit_and (bit_or (bit (not (eqb (2 * a % b) 0))) (a / b % 2)) ((2 * a / b) % 2)
closest_parts a b h =
    subst (λ (n : ℕ). nearest (a / b) (compare (a % b * 2) b) ≡ a / b + added n b (a / b)) (div-add-mod' a b)
    (added_by (a / b) (a % b) b (compare (a % b * 2) b) refl (mod-lt a h))

-- ---- both digits are 0 where nothing is left over, and only there
by_rest : (r : ℕ) → eqb (bit_or 0 (bit (not (eqb (2 * r) 0)))) 0 ≡ eqb r 0
by_rest zero = refl
by_rest (suc r) = rw (ne_eqb (2 * suc r) 0 (λ z. omega arith), ne_eqb (suc r) 0 (λ z. omega arith))

one : (t : Bool) → eqb (bit_or 1 (bit (not t))) 0 ≡ false
one true = refl
one false = refl

none_by : (w r b : ℕ) → r < b → eqb (bit_or ((2 * (w * b + r) / b) % 2) (bit (not (eqb (2 * (w * b + r) % b) 0)))) 0 ≡ eqb r 0
none_by w r b l = go (ltb (r * 2) b) refl
  where
    go : (t : Bool) → ltb (r * 2) b ≡ t → eqb (bit_or ((2 * (w * b + r) / b) % 2) (bit (not (eqb (2 * (w * b + r) % b) 0)))) 0 ≡ eqb r 0
    go true e =
        let h = ltb-true (r * 2) b e in
        rw ((low_half w r b h).0, (low_half w r b h).1, even w) (by_rest r)
    go false e =
        let h = ltb-false (r * 2) b e in
        let d = high_half w r b h l in
        rw (d.0, odd w, ne_eqb r 0 (λ z. omega arith)) (one (eqb (2 * (w * b + r) % b) 0))

pub none_behind : (a b : ℕ) → 0 < b → eqb (bit_or ((2 * a / b) % 2) (bit (not (eqb (2 * a % b) 0)))) 0 ≡ eqb (a % b) 0
none_behind a b h =
    subst (λ (n : ℕ). eqb (bit_or ((2 * n / b) % 2) (bit (not (eqb (2 * n % b) 0)))) 0 ≡ eqb (a % b) 0) (div-add-mod' a b)
    (none_by (a / b) (a % b) b (mod-lt a h))
