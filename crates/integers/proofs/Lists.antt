-- Laws of a list that a loop writes over from its front, of parts stored one behind the other, and of the search for the first fault.
-- Each is over the element type, and is what one turn of such a loop asks. Assumes nothing.
-- Proved here: `length_tab`, `get_d_tab`, `over_none`, `over_store`, `length_over`, `over_front`, `over_below`, `over_above`, `sets_append`,
-- `sets_front`, `flat_more`, `length_flat`, `flat_most`, `flat_grows`, `flat_store`, `first_bad_le`, `first_bad_before`, `first_bad_most`,
-- `first_bad_at`, `first_bad_none`, `first_bad_fails`, `all_each`, `each_all`, `all_fails`.
use mathlib.Core.Path.{◌≡◌, refl, sym, ap, ◌∙◌}
use mathlib.Core.Bool.{Bool, true, false, cond, true≢false}
use mathlib.Core.List.{List, [], ◌∷◌, ◌++◌, append_assoc, append-nil}
use Prim.Native.Nat.{ℕ, zero, suc, ◌+◌, ◌*◌, ◌<◌, ◌≤◌}
use native.Mathlib.Nat.{not-suc-le-zero, le_of_suc-le-suc, lt_of_not-le}
use native.Mathlib.Numerals.{add-one}
use native.Mathlib.Omega.{arith}
use lib.ListN.{length, set, get_or, drop, length-append, length-drop, get_or-append}
use lib.Seq.{sets, sets-eq, get_or-append-add, get_or-drop}
use borrow.Author.Tests.{eq-eqb, ne_eqb, eqb-true}
use Rattle.integers.specs.Lists.{tab, over, at_front, flat, first_bad, all}

-- ---- written over from the front
module _ {A : Type 0} where
  pub length_tab : (n : ℕ) (f : ℕ → A) → length (tab n f) ≡ n
  length_tab zero f = refl
  length_tab (suc n) f = ap suc (length_tab n (λ k. f (suc k)))

  pub get_d_tab : (n : ℕ) (f : ℕ → A) (k : ℕ) (z : A) → k < n → get_or (tab n f) k z ≡ f k
  get_d_tab zero f k z h = absurd (not-suc-le-zero h)
  get_d_tab (suc n) f zero z h = refl
  get_d_tab (suc n) f (suc k) z h = get_d_tab n (λ k. f (suc k)) k z (le_of_suc-le-suc h)

  -- before the first turn
  pub over_none : (f : ℕ → A) (d : List A) → d ≡ over 0 f d
  unfolding over
  over_none f d = refl

  store_next : (n : ℕ) (f : ℕ → A) (d : List A) → n < length d → set (tab n f ++ drop n d) n (f n) ≡ tab (suc n) f ++ drop (suc n) d
  store_next n f [] h = absurd (not-suc-le-zero h)
  store_next zero f (x ∷ d) h = refl
  store_next (suc n) f (x ∷ d) h = ap (λ t. f zero ∷ t) (store_next n (λ k. f (suc k)) d (le_of_suc-le-suc h))

  -- a turn: l is d written over up to n, and what is stored at n is f n
  pub over_store : (d l : List A) (n : ℕ) (f : ℕ → A) (v : A) → n < length d → l ≡ over n f d → v ≡ f n → set l n v ≡ over (n + 1) f d
  unfolding over
  over_store d l n f v h e q = rw (e, q, add-one) (store_next n f d h)

  pub length_over : (n : ℕ) (f : ℕ → A) (d : List A) → n ≤ length d → length (over n f d) ≡ length d
  unfolding over
  length_over n f d h = simp (length-append, length_tab, length-drop) (omega arith)

  pub over_front : (n : ℕ) (f : ℕ → A) (d : List A) → over n f d ≡ at_front (tab n f) d
  unfolding over
  over_front n f d = rw (length_tab n f)

  -- what then stands below n, and what from n on
  pub over_below : (n : ℕ) (f : ℕ → A) (d : List A) (k : ℕ) (z : A) → k < n → get_or (over n f d) k z ≡ f k
  unfolding over
  over_below n f d k z h = get_or-append (tab n f) (drop n d) z k (rw (length_tab n f) h) ∙ get_d_tab n f k z h

  pub over_above : (n : ℕ) (f : ℕ → A) (d : List A) (j : ℕ) (z : A) → get_or (over n f d) (n + j) z ≡ get_or d (n + j) z
  unfolding over
  over_above n f d j z = rw (length_tab n f) at (get_or-append-add (tab n f) (drop n d) j z) ∙ get_or-drop n d j z

-- ---- parts stored one behind the other
module _ {A : Type 0} where
  -- a run, and then a run behind it
  pub sets_append : (vs ws d : List A) (s t : ℕ) → t ≡ s + length vs → sets (sets d s vs) t ws ≡ sets d s (vs ++ ws)
  sets_append [] ws d s t e = let h : t ≡ s = omega arith in rw h
  sets_append (v ∷ vs) ws d s t e = let h : t ≡ suc s + length vs = omega arith in sets_append vs ws (set d s v) (suc s) t h

  -- a run from the front of a list that has room
  pub sets_front : (vs d : List A) → length vs ≤ length d → sets d 0 vs ≡ vs ++ drop (length vs) d
  sets_front vs d h = let k : 0 + length vs ≡ length vs = omega arith in rw k at (sets-eq vs d 0 (omega arith))

  next_part : (n : ℕ) (f : ℕ → List A) → flat (suc n) f ≡ flat n f ++ f n
  next_part zero f = append-nil (f zero)
  next_part (suc n) f = rw (next_part n (λ k. f (suc k))) (sym (append_assoc (f zero) (flat n (λ k. f (suc k))) (f (suc n))))

  pub flat_more : (n : ℕ) (f : ℕ → List A) → flat (n + 1) f ≡ flat n f ++ f n
  flat_more n f = rw add-one (next_part n f)

  pub length_flat : (w n : ℕ) (f : ℕ → List A) → ((k : ℕ) → length (f k) ≡ w) → length (flat n f) ≡ w * n
  length_flat w zero f h = omega arith
  length_flat w (suc n) f h =
      let e = length_flat w n (λ k. f (suc k)) (λ k. h (suc k)) in
      let g = h zero in
      simp length-append (omega arith)

  pub flat_most : (w n : ℕ) (f : ℕ → List A) → ((k : ℕ) → k < n → length (f k) ≤ w) → length (flat n f) ≤ w * n
  flat_most w zero f h = omega arith
  flat_most w (suc n) f h =
      let e = flat_most w n (λ k. f (suc k)) (λ k l. h (suc k) (omega arith)) in
      let g = h zero (omega arith) in
      simp length-append (omega arith)

  -- the parts before k and part k are the front of the whole
  pub flat_grows : (k n : ℕ) (f : ℕ → List A) → k < n → length (flat k f) + length (f k) ≤ length (flat n f)
  flat_grows k zero f h = absurd (not-suc-le-zero h)
  flat_grows zero (suc n) f h = simp length-append (omega arith)
  flat_grows (suc k) (suc n) f h = simp length-append (omega (arith, flat_grows k n (λ i. f (suc i)) (le_of_suc-le-suc h)))

  -- a turn: l is d with n parts stored from s on, and m is l with the next part stored behind them
  pub flat_store : (w : ℕ) (d l m : List A) (s t n : ℕ) (f : ℕ → List A) → ((k : ℕ) → length (f k) ≡ w) → t ≡ s + w * n → l ≡ sets d s (flat n f) →
      m ≡ sets l t (f n) → m ≡ sets d s (flat (n + 1) f)
  flat_store w d l m s t n f h e q r =
      let len = length_flat w n f h in
      let k : t ≡ s + length (flat n f) = omega arith in
      r ∙ rw (q, flat_more n f) (sets_append (flat n f) (f n) d s t k)

-- ---- the first index at which a test fails
pub first_bad_le : (n : ℕ) (good : ℕ → Bool) → first_bad n good ≤ n
unfolding first_bad
first_bad_le zero good = omega arith
first_bad_le (suc n) good = go (good zero) (first_bad_le n (λ k. good (suc k)))
  where
    go : (b : Bool) → first_bad n (λ k. good (suc k)) ≤ n → cond b (suc (first_bad n (λ k. good (suc k)))) 0 ≤ suc n
    go true h = omega arith
    go false h = omega arith

-- below it the test holds
pub first_bad_before : (n : ℕ) (good : ℕ → Bool) (k : ℕ) → k < first_bad n good → good k ≡ true
unfolding first_bad
first_bad_before zero good k h = absurd (not-suc-le-zero h)
first_bad_before (suc n) good zero h = go (good zero) h
  where
    go : (b : Bool) → 0 < cond b (suc (first_bad n (λ k. good (suc k)))) 0 → b ≡ true
    go true h = refl
    go false h = absurd (omega arith)
first_bad_before (suc n) good (suc k) h = first_bad_before n (λ k. good (suc k)) k (go (good zero) h)
  where
    go : (b : Bool) → suc k < cond b (suc (first_bad n (λ k. good (suc k)))) 0 → k < first_bad n (λ k. good (suc k))
    go true h = omega arith
    go false h = absurd (omega arith)

-- so no index at which it fails stands before it
pub first_bad_most : (n i : ℕ) (good : ℕ → Bool) → good i ≡ false → first_bad n good ≤ i
first_bad_most n i good e = le_of_suc-le-suc (lt_of_not-le (λ h. true≢false (sym (first_bad_before n good i h) ∙ e)))

-- a loop that has passed the indices below i and stopped there has found it: at n, or where the test fails
pub first_bad_at : (n i : ℕ) (good : ℕ → Bool) → i < n → ((k : ℕ) → k < i → good k ≡ true) → good i ≡ false → first_bad n good ≡ i
unfolding first_bad
first_bad_at zero i good h p e = absurd (not-suc-le-zero h)
first_bad_at (suc n) zero good h p e = rw e
first_bad_at (suc n) (suc i) good h p e =
    rw (p zero (omega arith)) (ap suc (first_bad_at n i (λ k. good (suc k)) (le_of_suc-le-suc h) (λ k l. p (suc k) (omega arith)) e))

pub first_bad_none : (n : ℕ) (good : ℕ → Bool) → ((k : ℕ) → k < n → good k ≡ true) → first_bad n good ≡ n
unfolding first_bad
first_bad_none zero good p = refl
first_bad_none (suc n) good p = rw (p zero (omega arith)) (ap suc (first_bad_none n (λ k. good (suc k)) (λ k l. p (suc k) (omega arith))))

-- where it is below n the test fails there
pub first_bad_fails : (n : ℕ) (good : ℕ → Bool) → first_bad n good < n → good (first_bad n good) ≡ false
unfolding first_bad
first_bad_fails zero good h = absurd (not-suc-le-zero h)
first_bad_fails (suc n) good h = go (good zero) refl h (first_bad_fails n (λ k. good (suc k)))
  where
    next : ℕ
    next = first_bad n (λ k. good (suc k))

    go : (b : Bool) → good zero ≡ b → cond b (suc next) 0 < suc n → (next < n → good (suc next) ≡ false) → good (cond b (suc next) 0) ≡ false
    go true e l f = f (omega arith)
    go false e l f = e

-- ---- `all` is that it is n
pub all_each : (n : ℕ) (good : ℕ → Bool) → all n good ≡ true → (k : ℕ) → k < n → good k ≡ true
all_each n good e k h = first_bad_before n good k (rw (eqb-true (first_bad n good) n e) h)

pub each_all : (n : ℕ) (good : ℕ → Bool) → ((k : ℕ) → k < n → good k ≡ true) → all n good ≡ true
each_all n good p = eq-eqb (first_bad n good) n (first_bad_none n good p)

pub all_fails : (n i : ℕ) (good : ℕ → Bool) → i < n → good i ≡ false → all n good ≡ false
all_fails n i good h e = ne_eqb (first_bad n good) n (λ q. let t = first_bad_before n good i (rw q h) in let z : ◌≡◌ {A = Bool} true false = cc in clash z)
  where
    clash : true ≡ false → ⊥
    clash z = let o : ◌≡◌ {A = ℕ} 0 1 = cc in omega arith
