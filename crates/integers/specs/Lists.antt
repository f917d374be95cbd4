-- Lists over any element: what is so of each; and by their index, what a loop that fills a lent
-- buffer leaves in it, and what a loop that looks for a fault finds.
use Rattle.std.specs.Prelude.{ℕ, zero, suc, Bool, cond, List, [], ◌∷◌, ◌++◌, eqb, length, drop}

-- it is so of each element
pub data Each {A : Type 0} (P : A → Type 0) : List A → Type 0 where
  none : Each P []
  next : {x : A} {more : List A} → P x → Each P more → Each P (x ∷ more)

-- f 0, f 1, .. f (n - 1)
abbrev pub tab : {A : Type 0} → ℕ → (ℕ → A) → List A
tab zero f = []
tab (suc n) f = f zero ∷ tab n (λ k. f (suc k))

-- d, of n places at least, with f 0, .. f (n - 1) in its first n, and the rest as it was
unfoldable pub over : {A : Type 0} → ℕ → (ℕ → A) → List A → List A
over n f d = tab n f ++ drop n d

-- d with xs in its first places, and the rest as it was
abbrev pub at_front : {A : Type 0} → List A → List A → List A
at_front xs d = xs ++ drop (length xs) d

-- the parts f 0, f 1, .. f (n - 1), one behind the other
abbrev pub flat : {A : Type 0} → ℕ → (ℕ → List A) → List A
flat zero f = []
flat (suc n) f = f zero ++ flat n (λ k. f (suc k))

-- the least index below n at which the test fails, or n where there is none
unfoldable pub first_bad : ℕ → (ℕ → Bool) → ℕ
first_bad zero good = 0
first_bad (suc n) good = cond (good zero) (suc (first_bad n (λ k. good (suc k)))) 0

-- the test holds at every index below n
abbrev pub all : ℕ → (ℕ → Bool) → Bool
all n good = eqb (first_bad n good) n
