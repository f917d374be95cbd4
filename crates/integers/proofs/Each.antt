-- What is so of each element: of the first, of two lists one behind the other, in another order, and what follows from it. Assumes nothing.
-- Proved here: `each_first`, `each_before`, `each_behind`, `each_append`, `each_map`, `each_permuted`.
use mathlib.Core.List.{List, [], ◌∷◌, ◌++◌, Permᴰ as Permuted}
use mathlib.Core.Path.{subst}
use Rattle.integers.specs.Lists.{Each}
use Rattle.integers.specs.Lists.Each.{none, next}

module _ {A : Type 0} {P : A → Type 0} where
  pub each_first : {x : A} {more : List A} → Each P (x ∷ more) → P x
  each_first (next p ps) = p

  pub each_before : (xs ys : List A) → Each P (xs ++ ys) → Each P xs
  each_before [] ys h = none
  each_before (x ∷ xs) ys (next p ps) = next p (each_before xs ys ps)

  pub each_behind : (xs ys : List A) → Each P (xs ++ ys) → Each P ys
  each_behind [] ys h = h
  each_behind (x ∷ xs) ys (next p ps) = each_behind xs ys ps

  pub each_append : {xs ys : List A} → Each P xs → Each P ys → Each P (xs ++ ys)
  each_append none q = q
  each_append (next p ps) q = next p (each_append ps q)

  pub each_map : {Q : A → Type 0} {xs : List A} → ((x : A) → P x → Q x) → Each P xs → Each Q xs
  each_map f none = none
  each_map f (next {x} p ps) = next (f x p) (each_map f ps)

  pub each_permuted : {xs ys : List A} → Permuted xs ys → Each P xs → Each P ys
  each_permuted Permuted.nil h = h
  each_permuted (Permuted.cons e d) (next p ps) = next (subst P e p) (each_permuted d ps)
  each_permuted (Permuted.swap e d) (next p (next q ps)) = next (subst P d q) (next (subst P e p) ps)
  each_permuted (Permuted.trans d e) h = each_permuted e (each_permuted d h)
