-- A list made place by place from another is its map. Assumes nothing.
-- Proved here: `mapped`.
use Prim.Native.Nat.{ℕ}
use mathlib.Core.Path.{◌≡◌, refl, ap}
use mathlib.Core.List.{List, [], ◌∷◌, map}
use lib.ListN.{length, get_or}
use Rattle.integers.specs.Lists.{tab}

module _ {A B : Type 0} (f : A → B) (z : A) where
  all_mapped : (xs : List A) → tab (length xs) (λ k. f (get_or xs k z)) ≡ map f xs
  all_mapped [] = refl
  all_mapped (x ∷ xs) = ap (λ ys. f x ∷ ys) (all_mapped xs)

  pub mapped : (n : ℕ) (xs : List A) → length xs ≡ n → tab n (λ k. f (get_or xs k z)) ≡ map f xs
  mapped n xs e = rw (← e) (all_mapped xs)
