-- A count that the code cuts off, where no word holds it, stands for the exact one: in every width both fit or neither does, and where they fit
-- they are one. Assumes nothing.
-- Proved here: `whole_stands`, `half_odd_stands`, `fitted_stands`, `fitted_answer`.
use mathlib.Core.Path.{◌≡◌, refl, sym, ap, ◌∙◌}
use mathlib.Core.Bool.{Bool, true, false, not, cond, true≢false}
use Prim.Native.Nat.{ℕ, zero, suc, ◌+◌, ◌*◌, ◌/◌, ◌%◌, ◌^◌, ◌<◌, ◌≤◌, min}
use native.Mathlib.Omega.{arith}
use lib.Bits.{bit_and, bit_or}
use lib.Dec.{eqb, leb}
use lib.IntN.{ℤ, pos}
use lib.Signed.{mag}
use borrow.Author.Tests.{le-ltb, leb-true, leb-false}
use Rattle.std.specs.Prelude.{Result}
use Rattle.integers.specs.Numbers.{fits_width, turned, cleared}
use Rattle.integers.proofs.Width.{fits_is, fits_more, fits_turned}
use Rattle.integers.proofs.Halves.{fits_cleared}
use Rattle.words.specs.Words.{outside}
use Rattle.words.specs.Outcomes.{given}
use Rattle.words.specs.Refusals.{refuse}
use Rattle.words.specs.declared.Cause.{Cause}
use Rattle.words.specs.declared.Format.{Format}
use Rattle.binary64.specs.declared.Parts.{Parts}
use Rattle.binary64.specs.Import.{Quotient, signed, nearest_whole, nearest_half_odd}
use Rattle.binary64.specs.Parts.{bit, too_many, parts_of, nearest_of, half_odd_of}
use Rattle.binary64.proofs.Laws.Fractions.{half_odd_parts}
use Rattle.binary64.proofs.Split.{closest_parts, none_behind}

abbrev pub Stands : ℤ → ℤ → Type 0
Stands x z = (fits_width x 63 ≡ fits_width z 63) × (fits_width z 63 ≡ true → x ≡ z)

same : {x z : ℤ} → x ≡ z → Stands x z
same e = (ap (λ (i : ℤ). fits_width i 63) e, λ f. e)

neither : {x z : ℤ} → fits_width x 63 ≡ false → fits_width z 63 ≡ false → Stands x z
neither e f = (e ∙ sym f, λ g. absurd (true≢false (sym g ∙ f)))

-- ---- what is too large for 63 digits, with either sign
size : (s : Bool) (n : ℕ) → n ≤ suc (mag (signed s n))
size false n = omega arith
size true zero = omega arith
size true (suc n) = omega arith

too_large : (s : Bool) (n : ℕ) → 2 ^ 62 < n → fits_width (signed s n) 63 ≡ false
too_large s n h = fits_is (signed s n) 63 ∙ le-ltb (mag (signed s n)) (2 ^ 62) (omega (arith, size s n))

-- by whether a whole part is cut off
by_cut : (w : ℕ) (Q : ℕ → Type 0) → Q w → (too_many < w → Q too_many) → Q (min w too_many)
by_cut w Q under over = go (leb w too_many) refl
  where
    go : (t : Bool) → leb w too_many ≡ t → Q (min w too_many)
    go true e = let l = leb-true w too_many e in let is : min w too_many ≡ w = omega arith in rw is under
    go false e = let l = leb-false w too_many e in let is : min w too_many ≡ too_many = omega arith in rw is (over l)

module _ (q : Quotient) (h : 0 < q.below) where
  abbrev w : ℕ
  w = q.above / q.below

  abbrev half : ℕ
  half = (2 * q.above / q.below) % 2

  abbrev more : ℕ
  more = bit (not (eqb (2 * q.above % q.below) 0))

  pub whole_stands : Stands (signed q.negative (nearest_of (parts_of q))) (nearest_whole q)
  unfolding parts_of nearest_of nearest_whole
  whole_stands =
      rw (closest_parts q.above q.below h)
      (by_cut w (λ n. Stands (signed q.negative (n + bit_and (bit_or more (n % 2)) half)) (signed q.negative (w + bit_and (bit_or more (w % 2)) half)))
      (same refl)
      (λ l. neither (too_large q.negative _ (omega arith)) (too_large q.negative _ (omega arith))))

  between : ℕ → ℤ
  between n = cond q.negative (turned (pos n)) (pos n)

  between_large : (n : ℕ) → 2 ^ 62 < n → fits_width (between n) 63 ≡ false
  unfolding between
  between_large n l = go q.negative
    where
      go : (s : Bool) → fits_width (cond s (turned (pos n)) (pos n)) 63 ≡ false
      go true = fits_turned (pos n) 63 ∙ too_large false n l
      go false = too_large false n l

  cleared_large : (n : ℕ) → 2 ^ 62 < n → fits_width (cleared (signed q.negative n)) 63 ≡ false
  cleared_large n l = fits_cleared (signed q.negative n) 63 (omega arith) ∙ too_large q.negative n l

  number : Bool → ℕ → ℤ
  unfolding between
  number t n = cond t (cleared (signed q.negative n)) (between n)

  number_large : (t : Bool) (n : ℕ) → 2 ^ 62 < n → fits_width (number t n) 63 ≡ false
  unfolding number
  number_large true n l = cleared_large n l
  number_large false n l = between_large n l

  pub half_odd_stands : Stands (half_odd_of (parts_of q)) (nearest_half_odd q)
  unfolding parts_of half_odd_of number between
  half_odd_stands =
      rw (half_odd_parts q.negative q.above q.below h, none_behind q.above q.below h)
      (by_cut w (λ n. Stands (number (eqb (q.above % q.below) 0) n) (number (eqb (q.above % q.below) 0) w))
      (same refl)
      (λ l. neither (number_large (eqb (q.above % q.below) 0) too_many (omega arith)) (number_large (eqb (q.above % q.below) 0) w (omega arith))))

-- ---- in a format of at most 63 digits both are refused, or they are the same word
pub fitted_stands : {A : Type 0} (word : ℤ → A) (f : Format) {x z : ℤ} → f.width ≤ 63 → Stands x z →
    given (refuse 8 (outside f x)) (word x) ≡ given (refuse 8 (outside f z)) (word z)
fitted_stands word f {x} {z} l s = go (fits_width z f.width) refl (fits_width x f.width) refl
  where
    go : (b : Bool) → fits_width z f.width ≡ b → (c : Bool) → fits_width x f.width ≡ c →
        given (refuse 8 (outside f x)) (word x) ≡ given (refuse 8 (outside f z)) (word z)
    go true e c g = rw (s.1 (fits_more z l e))
    go false e true g = rw (s.1 (sym s.0 ∙ fits_more x l g))
    go false e false g = rw (e, g)

-- so what is made of the number that the code makes of the parts is what is made of the exact one
pub fitted_answer : {A : Type 0} (word : ℤ → A) (number : Parts → ℤ) (count : Quotient → ℤ) →
    ((q : Quotient) → 0 < q.below → Stands (number (parts_of q)) (count q)) → (f : Format) (q : Quotient) (p : Parts) (x : ℤ) (r : Result A Cause) →
    f.width ≤ 63 → 0 < q.below → p ≡ parts_of q → x ≡ number p → r ≡ given (refuse 8 (outside f x)) (word x) →
    r ≡ given (refuse 8 (outside f (count q))) (word (count q))
fitted_answer word number count stands f q p x r l h e g a = a ∙ fitted_stands word f l (rw (g, e) (stands q h))
