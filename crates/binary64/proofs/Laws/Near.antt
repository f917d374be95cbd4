-- What is nearest, of the words of any one kind: two different numbers mean amounts a unit or more apart, so a number that is at most half a
-- unit from an amount, and even where it is just that far, is the nearest, and no other number is. Assumes nothing.
-- Proved here: `near`, `tie`, `away_law`, `near_nearest`, `near_only`.
use Prim.Native.Nat.{ℕ, ◌+◌, ◌*◌, ◌<◌, ◌≤◌}
use native.Mathlib.Nat.{mul-le-mul_right}
use native.Mathlib.Omega.{arith}
use mathlib.Core.Bool.{Bool, true, false, true≢false}
use mathlib.Core.Path.{◌≡◌, refl, sym, ap, ◌∙◌}
use lib.Dec.{ltb}
use lib.IntN.{ℤ, pos, ◌-ℤ◌, ◌*ℤ◌}
use lib.Ieee as ieee
use borrow.Author.Tests.{ltb-true, ltb-false}
use Rattle.integers.specs.Numbers.{eq_z, lowest}
use Rattle.integers.proofs.Kit.{up, down, apart, minus_law, times_law, abs_apart, by_eq}
use Rattle.integers.proofs.Width.{eq_z_same, same_eq_z}
use Rattle.integers.proofs.Digits.{lowest_law}
use Rattle.words.specs.Words.{Kind, value}
use Rattle.words.proofs.Laws.{half, value_law}
use Rattle.binary64.specs.Import.{signed}
use Rattle.binary64.specs.Claims.{away, Nearest}

-- x is at most half a unit away, and even where it is just that far
pub record Near (k : Kind) (e : ℤ) (s : Bool) (a c : ℕ) (x : ℤ) : Type 0 where
  pub near : away k e s a c x ≤ ieee.up e * c
  pub tie : away k e s a c x ≡ ieee.up e * c → lowest x ≡ 0

same_or_other : {P : Type 0} (x y : ℤ) → (x ≡ y → P) → ((x ≡ y → ⊥) → P) → P
same_or_other {P} x y same other = go (eq_z x y) refl
  where
    go : (t : Bool) → eq_z x y ≡ t → P
    go true e = same (eq_z_same x y e)
    go false e = other (λ f. true≢false (sym (same_eq_z x y f) ∙ e))

module _ (k : Kind) (e : ℤ) (s : Bool) (a c : ℕ) where
  -- half a unit, and the amount, both in the parts that `away` counts
  abbrev reach : ℕ
  reach = ieee.up e * c

  abbrev amount : ℤ
  amount = signed s (2 * (a * ieee.down e))

  abbrev far : ℤ → ℕ
  far x = away k e s a c x

  pub away_law : (x : ℤ) → far x ≡ apart (2 * (up x * reach) + half k * reach + down amount) (up amount + 2 * (down x * reach))
  unfolding away
  away_law x =
      let v = value k x 0 in
      let scaled = ap (λ (i : ℕ). i * reach) (value_law k x) in
      abs_apart ((v *ℤ pos reach) -ℤ amount) (2 * (up x * reach) + half k * reach + down amount) (up amount + 2 * (down x * reach))
      (omega (arith, minus_law (v *ℤ pos reach) amount, times_law v (pos reach), scaled))

  -- ---- a number j higher means j units more, so the two are as far together from any amount
  between : (x y : ℤ) (j : ℕ) → up x + down y + j ≤ up y + down x → 2 * (j * reach) ≤ far x + far y
  between x y j h = omega (arith, away_law x, away_law y, mul-le-mul_right reach h)

  -- the same of two numbers that differ, by j at least whichever is the higher
  apart_by : (x y : ℤ) (j : ℕ) → (up x + down y < up y + down x → up x + down y + j ≤ up y + down x) →
      (up y + down x < up x + down y → up y + down x + j ≤ up x + down y) → (x ≡ y → ⊥) → 2 * (j * reach) ≤ far x + far y
  apart_by x y j above below other = go (ltb (up x + down y) (up y + down x)) refl
    where
      go : (t : Bool) → ltb (up x + down y) (up y + down x) ≡ t → 2 * (j * reach) ≤ far x + far y
      go true f = between x y j (above (ltb-true _ _ f))
      go false f =
          let l = ltb-false (up x + down y) (up y + down x) f in
          let n : up x + down y ≡ up y + down x → ⊥ = λ g. other (by_eq x y g) in
          omega (arith, between y x j (below (omega arith)))

  -- two numbers differ by 1 at least, and two even ones by 2
  others : (x y : ℤ) → (x ≡ y → ⊥) → 2 * reach ≤ far x + far y
  others x y other = omega (arith, apart_by x y 1 (λ l. omega arith) (λ l. omega arith) other)

  even_others : (x y : ℤ) → (x ≡ y → ⊥) → lowest x ≡ 0 → lowest y ≡ 0 → 4 * reach ≤ far x + far y
  even_others x y other p q =
      let u = lowest_law x in
      let v = lowest_law y in
      omega (arith, apart_by x y 2 (λ l. omega arith) (λ l. omega arith) other)

  -- ---- so a near number is the nearest, and the only one
  pub near_nearest : (x : ℤ) → Near k e s a c x → Nearest k e s a c x
  near_nearest x n =
      record {
        none_nearer = λ y. same_or_other x y (λ f. rw f (omega arith)) (λ other. omega (arith, n.near, others x y other));
        tie = λ y other f. n.tie (omega (arith, n.near, others x y (λ g. other (sym g))));
      }

  pub near_only : 0 < reach → (x q : ℤ) → Near k e s a c q → Nearest k e s a c x → x ≡ q
  near_only h x q n m =
      same_or_other x q (λ f. f)
      (λ other.
      let far-x = m.none_nearer q in
      let sum = others x q other in
      let even-q = n.tie (omega (arith, n.near)) in
      let even-x = m.tie q (λ g. other (sym g)) (omega (arith, n.near)) in
      absurd (omega (arith, n.near, even_others x q other even-x even-q)))
