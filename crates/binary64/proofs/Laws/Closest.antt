-- Both counts of a fraction a / b are near it: the library's `closest` whole number, and the half-odd number. The library has that equal
-- fractions have one closest number, and not that it is close. Assumes nothing.
-- Proved here: `near`, `tie`, `closest_rounds`, `lowest_signed`, `whole_near`, `half_odd_near`.
use Prim.Native.Nat.{ℕ, zero, suc, ◌+◌, ◌*◌, ◌/◌, ◌%◌, ◌<◌, ◌≤◌, compare, Ordering}
use native.Mathlib.Nat.{div-add-mod', mod-lt, mul-pos}
use native.Mathlib.Omega.{arith}
use mathlib.Core.Bool.{Bool, true, false, cond}
use mathlib.Core.Path.{◌≡◌, refl, ap, ◌∙◌, subst}
use lib.Dec.{eqb, is_le, compare_is_eq}
use lib.IntN.{ℤ, pos, negsuc, neg_ℤ}
use lib.Ieee as ieee
use lib.Ieee.{nearest}
use lib.Ieee.Fits.{up_pos}
use lib.Ieee.Nearest.{closest}
use borrow.Author.Tests.{eqb-true, eqb-false, leb-true, leb-false}
use Rattle.integers.specs.Numbers.{turned, lowest, cleared}
use Rattle.integers.proofs.Kit.{up, down, apart, neg_law}
use Rattle.integers.proofs.Floor.{turned_pos}
use Rattle.integers.proofs.Quotients.{bit_times}
use Rattle.integers.proofs.Digits.{lowest_le, lowest_cleared, cleared_law}
use Rattle.words.specs.Words.{Kind}
use Rattle.words.specs.Words.Kind.{half_unit}
use Rattle.words.proofs.Laws.{half}
use Rattle.binary64.specs.Import.{quotient, signed, nearest_whole, nearest_half_odd}
use Rattle.binary64.specs.Claims.{away}
use Rattle.binary64.proofs.Laws.Near.{Near, away_law}
use Rattle.binary64.proofs.Laws.Fractions.{half_odd_parts}

-- q is a / b rounded, counted in halves of 1 / b
pub record Rounds (a b q : ℕ) : Type 0 where
  pub near : 2 * apart (q * b) a ≤ b
  pub tie : 2 * apart (q * b) a ≡ b → q % 2 ≡ 0

-- w + r / b, by how twice r compares with b
by_order : (w r b : ℕ) (o : Ordering) → compare (r * 2) b ≡ o → r < b → Rounds (w * b + r) b (nearest w o)
by_order w r b Ordering.lt e l =
    let less = leb-true (r * 2) b (ap is_le e) in
    let other : r * 2 ≡ b → ⊥ = eqb-false (r * 2) b (ap compare_is_eq e) in
    record { near = omega arith; tie = λ t. absurd (other (omega arith)) }
by_order w r b Ordering.eq e l = go (w % 2) refl (eqb-true (r * 2) b (ap compare_is_eq e))
  where
    go : (p : ℕ) → w % 2 ≡ p → r * 2 ≡ b → Rounds (w * b + r) b (w + w % 2)
    go zero f h = rw f (record { near = omega arith; tie = λ t. omega arith })
    go (suc zero) f h = rw f (record { near = omega arith; tie = λ t. omega arith })
    go (suc (suc p)) f h = absurd (omega arith)
by_order w r b Ordering.gt e l =
    let more = leb-false (r * 2) b (ap is_le e) in
    record { near = omega arith; tie = λ t. absurd (omega arith) }

pub closest_rounds : (a b : ℕ) → 0 < b → Rounds a b (closest a b)
closest_rounds a b h =
    subst (λ (n : ℕ). Rounds n b (closest a b)) (div-add-mod' a b)
    (by_order (a / b) (a % b) b (compare (a % b * 2) b) refl (mod-lt a h))

-- ---- the lowest digit does not see the sign
pub lowest_signed : (s : Bool) (n : ℕ) → lowest (signed s n) ≡ n % 2
unfolding lowest
lowest_signed false n = refl
lowest_signed true zero = refl
lowest_signed true (suc n) = omega arith

module _ (e : ℤ) (a c : ℕ) (h : 0 < c) where
  -- the amount is above / below units
  abbrev above : ℕ
  above = a * ieee.down e

  abbrev below : ℕ
  below = c * ieee.up e

  some : 0 < below
  some = mul-pos h (up_pos e)

  -- ---- the whole count, of a kind whose numbers mean whole units
  rounds_near : (k : Kind) (s : Bool) (q : ℕ) → half k ≡ 0 → Rounds above below q → Near k e s a c (signed s q)
  rounds_near k false q z r =
      let law = away_law k e false a c (pos q) in
      let none = ap (λ (i : ℕ). i * below) z in
      record { near = omega (arith, r.near); tie = λ t. lowest_signed false q ∙ r.tie (omega arith) }
  rounds_near k true q z r =
      let law = away_law k e true a c (neg_ℤ (pos q)) in
      let none = ap (λ (i : ℕ). i * below) z in
      let amount = neg_law (pos (2 * above)) in
      let no-up = ap (λ (i : ℕ). i * below) (neg_law (pos q)).0 in
      let all-down = ap (λ (i : ℕ). i * below) (neg_law (pos q)).1 in
      record { near = omega (arith, r.near); tie = λ t. lowest_signed true q ∙ r.tie (omega arith) }

  pub whole_near : (k : Kind) (s : Bool) → half k ≡ 0 → Near k e s a c (nearest_whole (quotient s above below))
  unfolding nearest_whole
  whole_near k s z = rounds_near k s (closest above below) z (closest_rounds above below some)

  -- ---- the half-odd count: a whole number of units lies half a unit from both sides, any other less than that from its floor's half
  amount_whole : (s : Bool) (n : ℕ) → above ≡ n * below →
      (up (signed s (2 * above)) ≡ 2 * (up (signed s n) * below)) × (down (signed s (2 * above)) ≡ 2 * (down (signed s n) * below))
  amount_whole false n f = (omega arith, omega arith)
  amount_whole true n f = (
    omega (arith, neg_law (pos (2 * above)), ap (λ (i : ℕ). i * below) (neg_law (pos n)).0),
    omega (arith, neg_law (pos (2 * above)), ap (λ (i : ℕ). i * below) (neg_law (pos n)).1),
  )

  cleared_near : (s : Bool) (n : ℕ) → above ≡ n * below → Near half_unit e s a c (cleared (signed s n))
  cleared_near s n f =
      let z = signed s n in
      let law = away_law half_unit e s a c (cleared z) in
      let scaled = ap (λ (i : ℕ). i * below) (cleared_law z) in
      record {
        near = omega (arith, amount_whole s n f, bit_times (lowest z) below (lowest_le z));
        tie = λ t. lowest_cleared z;
      }

  between_near : (s : Bool) (n : ℕ) → n * below < above → above < n * below + below → Near half_unit e s a c (cond s (turned (pos n)) (pos n))
  between_near s n l m = record { near = omega (arith, go s); tie = λ t. absurd (omega (arith, go s)) }
    where
      go : (s : Bool) → away half_unit e s a c (cond s (turned (pos n)) (pos n)) < below
      go false = omega (arith, away_law half_unit e false a c (pos n))
      go true = rw (turned_pos n) (omega (arith, away_law half_unit e true a c (negsuc n), neg_law (pos (2 * above))))

  pub half_odd_near : (s : Bool) → Near half_unit e s a c (nearest_half_odd (quotient s above below))
  half_odd_near s = rw (half_odd_parts s above below some) (go (eqb (above % below) 0) refl)
    where
      n : ℕ
      n = above / below

      go : (t : Bool) → eqb (above % below) 0 ≡ t → Near half_unit e s a c (cond t (cleared (signed s n)) (cond s (turned (pos n)) (pos n)))
      go true f = cleared_near s n (omega (arith, eqb-true (above % below) 0 f, div-add-mod' above below))
      go false f =
          let left : above % below ≡ 0 → ⊥ = eqb-false (above % below) 0 f in
          let whole = div-add-mod' above below in
          let less = mod-lt above some in
          between_near s n (omega arith) (omega arith)
