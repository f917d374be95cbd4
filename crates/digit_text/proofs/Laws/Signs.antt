-- The signs of a list of bytes: the one nearest before an index, and what the first and the last of them decide. Assumes nothing.
-- Proved here: `place`, `before`, `sign`, `between`, `sign_found`, `found_sign`, `sign_from_none`, `sign_from_cons`, `leads`, `last_sign`.
use Prim.Native.Nat.{ℕ, zero, suc, ◌≤◌, ◌<◌}
use native.Mathlib.Nat.{not-suc-le-zero, le_of_suc-le-suc, eq-or-lt_of_le}
use native.Mathlib.Omega.{arith}
use mathlib.Core.Path.{◌≡◌, refl}
use mathlib.Core.Bool.{Bool, true, false, cond}
use mathlib.Core.List.{List, [], ◌∷◌}
use mathlib.Core.Logic.{◌⊎◌, inl, inr}
use lib.Dec.{eqb}
use lib.IntN.{pos, ◌-ℤ◌}
use lib.ListN.{length, get_or}
use borrow.Author.Tests.{ne_eqb, eqb-true}
use Rattle.integers.proofs.Kit.{up, down, ints}
use Rattle.integers.proofs.Digits.{both_bits}
use Rattle.digit_text.specs.Digits.{plus, none, minus, byte_of, digit_of, text_value, sign_before}
use Rattle.digit_text.proofs.Laws.Steps.{nothing_worth, cons_law, value_small, Steps, ends, steps, steps_bits}

-- ---- where the sign nearest before an index stands
pub record Nearest (t : List ℕ) (k s : ℕ) : Type 0 where
  pub place : ℕ
  pub before : place < k
  pub sign : get_or t place none ≡ s
  pub between : (i : ℕ) → place < i → i < k → get_or t i none ≡ none

pub sign_found : (t : List ℕ) (k : ℕ) → (sign_before t k ≡ none → ⊥) → Nearest t k (sign_before t k)
unfolding sign_before
sign_found t zero n = absurd (n refl)
sign_found t (suc k) n = go (eqb (get_or t k none) none) refl n (sign_found t k)
  where
    b : ℕ
    b = get_or t k none

    s : ℕ
    s = sign_before t k

    go : (z : Bool) → eqb b none ≡ z → (cond z s b ≡ none → ⊥) → ((s ≡ none → ⊥) → Nearest t k s) → Nearest t (suc k) (cond z s b)
    go true e n f = record { place = p.place; before = omega (arith, p.before); sign = p.sign; between = between }
      where
        p : Nearest t k s
        p = f n

        between : (i : ℕ) → p.place < i → i < suc k → get_or t i none ≡ none
        between i h l = more (eq-or-lt_of_le (le_of_suc-le-suc l))
          where
            more : (i ≡ k) ⊎ (i < k) → get_or t i none ≡ none
            more (inl q) = rw q (eqb-true b none e)
            more (inr q) = p.between i h q
    go false e n f = record { place = k; before = omega arith; sign = refl; between = λ i h l. absurd (omega arith) }

pub found_sign : (t : List ℕ) (k s : ℕ) → Nearest t k s → (s ≡ none → ⊥) → sign_before t k ≡ s
unfolding sign_before
found_sign t zero s p n = absurd (not-suc-le-zero p.before)
found_sign t (suc k) s p n = go (eq-or-lt_of_le (le_of_suc-le-suc p.before)) (λ q. found_sign t k s q n)
  where
    go : (p.place ≡ k) ⊎ (p.place < k) → (Nearest t k s → sign_before t k ≡ s) → cond (eqb (get_or t k none) none) (sign_before t k) (get_or t k none) ≡ s
    go (inl q) f = let here = rw q at p.sign in rw (here, ne_eqb s none n)
    go (inr q) f =
        rw (p.between k q (omega arith))
        (f (record { place = p.place; before = q; sign = p.sign; between = λ i h l. p.between i h (omega arith) }))

-- ---- the sign nearest before an index, where s stands before the text
abbrev pub after : ℕ → ℕ → ℕ
after s b = cond (eqb b none) s b

abbrev pub sign_from : ℕ → List ℕ → ℕ → ℕ
sign_from s t zero = s
sign_from s t (suc k) = after (sign_from s t k) (get_or t k none)

pub sign_from_none : (t : List ℕ) (k : ℕ) → sign_before t k ≡ sign_from none t k
unfolding sign_before
sign_from_none t zero = refl
sign_from_none t (suc k) = rw (sign_from_none t k)

pub sign_from_cons : (s b : ℕ) (t : List ℕ) (k : ℕ) → sign_from s (b ∷ t) (suc k) ≡ sign_from (after s b) t k
sign_from_cons s b t zero = refl
sign_from_cons s b t (suc k) = rw (sign_from_cons s b t k)

-- ---- the first nonzero digit decides the sign of what a text is worth
pub leads : (t : List ℕ) (m : ℕ) → m < length t → ((i : ℕ) → i < m → get_or t i none ≡ none) →
    (get_or t m none ≡ plus → down (text_value t) < up (text_value t)) × (get_or t m none ≡ minus → up (text_value t) < down (text_value t))
unfolding digit_of
leads [] m l z = absurd (not-suc-le-zero l)
leads (b ∷ t) zero l z = (
  λ e. rw e (omega (arith, cons_law plus t, value_small t)),
  λ e. rw e (omega (arith, cons_law minus t, value_small t)),
)
leads (b ∷ t) (suc m) l z =
    let rest = leads t m (le_of_suc-le-suc l) (λ i h. z (suc i) (omega arith)) in
    let same = cons_law none t in
    rw (z zero (omega arith)) (λ e. omega (arith, rest.0 e), λ e. omega (arith, rest.1 e))

-- ---- where the bit above a text is that of the sign before it, the last sign gives the bit below it
abbrev pub plus_bit : ℕ → ℕ
plus_bit s = cond (eqb s plus) 1 0

step_bit : (s c b : ℕ) → c ≤ 1 → b ≤ 1 → plus_bit s ≡ b → plus_bit (after s (byte_of (pos c -ℤ pos b))) ≡ c
unfolding byte_of
step_bit s = both_bits (λ c b. plus_bit s ≡ b → plus_bit (after s (byte_of (pos c -ℤ pos b))) ≡ c) (λ e. e) (λ e. refl) (λ e. refl) (λ e. e)

last_bit : {b r : ℕ} {t : List ℕ} (s : ℕ) → plus_bit s ≡ b → Steps b t r → plus_bit (sign_from s t (length t)) ≡ r
last_bit s e (ends h) = e
last_bit s e (steps {b = b} {c = c} {t = t} h k p) =
    rw (sign_from_cons s (byte_of (pos c -ℤ pos b)) t (length t)) (last_bit _ (step_bit s c b k h e) p)

-- behind no sign it does too, unless every digit is 0 and both bits are 1
pub last_sign : (b : ℕ) {r : ℕ} {t : List ℕ} → Steps b t r → (plus_bit (sign_from none t (length t)) ≡ r) ⊎ ((text_value t ≡ pos 0) × (r ≡ 1))
unfolding byte_of digit_of
last_sign zero p = inl (last_bit none refl p)
last_sign (suc zero) (ends h) = inr (nothing_worth, refl)
last_sign (suc zero) (steps {c = zero} {t = t} h k p) = inl (rw (sign_from_cons none minus t (length t)) (last_bit minus refl p))
last_sign (suc zero) (steps {c = suc zero} {r = r} {t = t} h k p) = go (last_sign 1 p)
  where
    go : (plus_bit (sign_from none t (length t)) ≡ r) ⊎ ((text_value t ≡ pos 0) × (r ≡ 1)) →
        (plus_bit (sign_from none (none ∷ t) (suc (length t))) ≡ r) ⊎ ((text_value (none ∷ t) ≡ pos 0) × (r ≡ 1))
    go (inl e) = inl (rw (sign_from_cons none none t (length t)) e)
    go (inr e) = inr (omega (ints, cons_law none t, e.0), e.1)
last_sign (suc zero) (steps {c = suc (suc c)} h k p) = absurd (omega arith)
last_sign (suc (suc b)) p = absurd (omega (arith, steps_bits p))
