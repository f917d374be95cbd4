-- The counts see only the value: the same for any two fractions of one size, so for any fraction that a sample has as its value; and the
-- floor of a quotient by its whole part. Assumes nothing.
-- Proved here: `floor_whole`, `floor_between`, `floor_parts`, `half_odd_parts`, `same_whole`, `same_half_odd`, `in_units_lem`,
-- `whole_count_is`, `half_odd_count_is`, `whole_exact`, `half_odd_exact`, `unit_law`, `unit_depth`.
use Prim.Native.Nat.{ℕ, zero, suc, ◌+◌, ◌*◌, ◌/◌, ◌%◌, ◌^◌, ◌<◌}
use native.Mathlib.Nat.{div-add-mod', mod-lt, div-eq_of_lt-le, zero-div, zero-mod, div-one, mod-one, mul-pos}
use native.Mathlib.Omega.{arith}
use mathlib.Core.Bool.{Bool, true, false, cond}
use mathlib.Core.Path.{◌≡◌, refl, sym, ap, ◌∙◌}
use lib.Dec.{eqb}
use lib.IntN.{ℤ, pos, negsuc, neg_ℤ, ◌+ℤ◌, nat_abs}
use lib.Pow.{pow-add}
use lib.Ieee.{Float, nan, inf, fin, up, down, binary64, low}
use lib.Ieee.Exact.{HasValue}
use lib.Ieee.Fits.{up_pos, down_pos}
use lib.Ieee.Nearest.{closest_same, div_same}
use lib.Signed.{◌≤ℤ◌}
use borrow.Author.Tests.{eqb-true, eqb-false}
use Rattle.integers.specs.Numbers.{turned, cleared}
use Rattle.integers.proofs.Kit.{ints, plus_law, abs_law, one_zero}
use Rattle.integers.proofs.Quotients.{exact_same}
use Rattle.words.specs.Words.{most_unit}
use Rattle.integers.proofs.Floor.{turned_pos}
use Rattle.binary64.specs.Import.{Quotient, quotient, sample, signed, in_units, nearest_whole, floor_of, nearest_half_odd, whole_count, half_odd_count}
use Rattle.binary64.specs.Claims.{Whole}

-- ---- the floor by the whole part n of a / b: n or -n where nothing is left over; else n, or -1 - n below zero
pub floor_whole : (s : Bool) (a b : ℕ) → 0 < b → a % b ≡ 0 → floor_of (quotient s a b) ≡ signed s (a / b)
unfolding floor_of
floor_whole false a b h e = refl
floor_whole true zero b h e = rw zero-div
floor_whole true (suc a) b h e = go (suc a / b) (omega (arith, div-add-mod' (suc a) b))
  where
    go : (n : ℕ) → n * b ≡ suc a → negsuc (a / b) ≡ neg_ℤ (pos n)
    go zero f = absurd (omega arith)
    go (suc n) f = ap negsuc (div-eq_of_lt-le {k = n} b (omega arith) (omega arith))

pub floor_between : (s : Bool) (a b : ℕ) → 0 < b → (a % b ≡ 0 → ⊥) → floor_of (quotient s a b) ≡ cond s (turned (pos (a / b))) (pos (a / b))
unfolding floor_of
floor_between false a b h n = refl
floor_between true zero b h n = absurd (n (zero-mod b))
floor_between true (suc a) b h n =
    let left : 0 < suc a % b = omega arith in
    let whole = div-add-mod' (suc a) b in
    let below = mod-lt (suc a) h in
    ap negsuc (div-eq_of_lt-le {k = suc a / b} b (omega arith) (omega arith)) ∙ sym (turned_pos (suc a / b))

module _ (s : Bool) (a b : ℕ) (h : 0 < b) where
  pub floor_parts : floor_of (quotient s a b) ≡ cond (eqb (a % b) 0) (signed s (a / b)) (cond s (turned (pos (a / b))) (pos (a / b)))
  floor_parts = go (eqb (a % b) 0) refl
    where
      go : (t : Bool) → eqb (a % b) 0 ≡ t → floor_of (quotient s a b) ≡ cond t (signed s (a / b)) (cond s (turned (pos (a / b))) (pos (a / b)))
      go true e = floor_whole s a b h (eqb-true (a % b) 0 e)
      go false e = floor_between s a b h (eqb-false (a % b) 0 e)

  pub half_odd_parts : nearest_half_odd (quotient s a b)
      ≡ cond (eqb (a % b) 0) (cleared (signed s (a / b))) (cond s (turned (pos (a / b))) (pos (a / b)))
  unfolding nearest_half_odd
  half_odd_parts = rw floor_parts (go (eqb (a % b) 0) (signed s (a / b)) (cond s (turned (pos (a / b))) (pos (a / b))))
    where
      go : (t : Bool) (x y : ℤ) → cond t (cleared (cond t x y)) (cond t x y) ≡ cond t (cleared x) y
      go true x y = refl
      go false x y = refl

-- ---- two fractions of one size
-- a count sees only the value
abbrev pub SeesValue : {A : Type 0} → (Quotient → A) → Type 0
SeesValue count = (s : Bool) (a b c d : ℕ) → 0 < b → 0 < d → a * d ≡ c * b → count (quotient s a b) ≡ count (quotient s c d)

pub same_whole : SeesValue nearest_whole
unfolding nearest_whole
same_whole s a b c d h k e = ap (signed s) (closest_same a b c d h k e)

pub same_half_odd : SeesValue nearest_half_odd
same_half_odd s a b c d h k e = rw (half_odd_parts s a b h, half_odd_parts s c d k, exact_same a b c d h k e, div_same a b c d h k e)

-- ---- so it may be had of any fraction that is the value
pub in_units_lem : {A : Type 0} (count : Quotient → A) → SeesValue count → (x : Float) (e : ℤ) (s : Bool) (a c : ℕ) → 0 < c → HasValue x s a c →
    count (in_units x e) ≡ count (quotient s (a * down e) (c * up e))
unfolding in_units
in_units_lem count same nan e s a c h v = absurd v
in_units_lem count same (inf t) e s a c h v = absurd v
in_units_lem count same (fin t m x) e s a c h v =
    ap (λ (t : Bool). count (quotient t (m * up x * down e) (down x * up e))) v.0
    ∙ same s (m * up x * down e) (down x * up e) (a * down e) (c * up e) (mul-pos (down_pos x) (up_pos e)) (mul-pos h (up_pos e))
    (omega (arith, ap (λ (i : ℕ). i * (down e * up e)) v.1))

module _ (bits : ℕ) (e : ℤ) (s : Bool) (a c : ℕ) (h : 0 < c) (v : HasValue (sample bits) s a c) where
  pub whole_count_is : whole_count bits e ≡ nearest_whole (quotient s (a * down e) (c * up e))
  unfolding whole_count
  whole_count_is = in_units_lem nearest_whole same_whole (sample bits) e s a c h v

  pub half_odd_count_is : half_odd_count bits e ≡ nearest_half_odd (quotient s (a * down e) (c * up e))
  unfolding half_odd_count
  half_odd_count_is = in_units_lem nearest_half_odd same_half_odd (sample bits) e s a c h v

-- ---- of n units of 2^e, of any size: n / 1
module _ (bits : ℕ) (e : ℤ) (s : Bool) (n : ℕ) (v : Whole bits e s n) where
  over_one : (count : Quotient → ℤ) → SeesValue count → count (in_units (sample bits) e) ≡ count (quotient s n 1)
  over_one count same =
      in_units_lem count same (sample bits) e s (n * up e) (down e) (down_pos e) v
      ∙ same s (n * up e * down e) (down e * up e) n 1 (mul-pos (down_pos e) (up_pos e)) (omega arith) (omega arith)

  pub whole_exact : whole_count bits e ≡ signed s n
  unfolding whole_count nearest_whole
  whole_exact = over_one nearest_whole same_whole ∙ rw (div-one, mod-one)

  pub half_odd_exact : half_odd_count bits e ≡ cleared (signed s n)
  unfolding half_odd_count
  half_odd_exact = over_one nearest_half_odd same_half_odd ∙ half_odd_parts s n 1 (omega arith) ∙ rw (mod-one, div-one)

-- ---- a unit of 2^e is 2^d of 2^-l; and of the smallest number's unit d is above 0
pub unit_law : (e : ℤ) (l d : ℕ) → pos d ≡ pos l +ℤ e → 2 ^ d * down e ≡ 2 ^ l * up e
unit_law (pos k) l d h =
    let sum : d ≡ l + k = omega (ints, plus_law (pos l) (pos k)) in
    rw (sum, pow-add 2 l k) (omega arith)
unit_law (negsuc k) l d h =
    let sum : l ≡ d + suc k = omega (ints, plus_law (pos l) (negsuc k)) in
    rw (sum, pow-add 2 d (suc k)) (omega arith)

pub unit_depth : (e : ℤ) → neg_ℤ most_unit ≤ℤ e → pos (nat_abs (pos (low binary64) +ℤ e)) ≡ pos (low binary64) +ℤ e
unit_depth e h =
    let sum = pos (low binary64) +ℤ e in
    omega (ints, h, plus_law (pos (low binary64)) e, abs_law sum, one_zero sum)
