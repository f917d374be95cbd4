-- The fields of a pattern of bits, and what the library says they stand for. Assumes nothing.
-- Proved here: `bits_finite`, `subnormal_bits`, `normal_bits`.
use mathlib.Core.Path.{◌≡◌, refl, sym, ◌∙◌, subst}
use mathlib.Core.Bool.{Bool, true, false, not, cond, true≢false}
use Prim.Native.Nat.{ℕ, zero, suc, ◌+◌, ◌-◌, ◌*◌, ◌/◌, ◌%◌, ◌^◌}
use native.Mathlib.Omega.{arith}
use native.Mathlib.Nat.{zero-add}
use lib.Dec.{eqb, leb}
use lib.Ieee.{Float, nan, inf, binary64, low, hid, top, ones, odd, of_fields, of_bits}
use lib.Ieee.Exact.{HasValue, odd_sign}
use lib.Ieee.Scale.{finite}
use borrow.Author.Tests.{ne_eqb}
use Rattle.binary64.specs.Import.{sample}

-- the exponent's field, and the digits below it
abbrev pub field : ℕ → ℕ
field bits = bits % top binary64 / hid binary64

abbrev pub digits : ℕ → ℕ
digits bits = bits % hid binary64

-- ---- finite, unless every digit of the field is 1
odd_finite : (d : ℕ) (s : Bool) (q k l : ℕ) → finite (odd d s q k l) ≡ true
unfolding odd
odd_finite d s zero k l = refl
odd_finite d s (suc q) k l = refl

top_finite : (a b s : Bool) (v : Float) → finite v ≡ true → finite (cond a (cond b (inf s) nan) v) ≡ not a
top_finite true true s v h = refl
top_finite true false s v h = refl
top_finite false b s v h = h

fields_finite : (s : Bool) (x t : ℕ) → finite (of_fields binary64 s x t) ≡ not (eqb x (ones binary64))
unfolding of_fields
fields_finite s zero t = odd_finite 53 s t 0 (low binary64)
fields_finite s (suc x) t = top_finite (eqb (suc x) (ones binary64)) (eqb t 0) s _ (odd_finite 53 s (hid binary64 + t) x (low binary64))

pub bits_finite : (bits : ℕ) → not (eqb (field bits) (ones binary64)) ≡ finite (sample bits)
unfolding of_bits
bits_finite bits = sym (fields_finite (leb (top binary64) bits) (field bits) (digits bits))

-- ---- in units of the smallest number, by whether the field is 0
subnormal : (s : Bool) (x t : ℕ) → x ≡ 0 → HasValue (of_fields binary64 s x t) s (t * 2 ^ 0) (2 ^ low binary64)
unfolding of_fields
subnormal s zero t e = odd_sign 53 s t 0 (low binary64)
subnormal s (suc x) t e = absurd (omega arith)

normal : (s : Bool) (x t : ℕ) → (x ≡ 0 → ⊥) → (x ≡ ones binary64 → ⊥) →
    HasValue (of_fields binary64 s x t) s ((hid binary64 + t) * 2 ^ (x - 1)) (2 ^ low binary64)
unfolding of_fields
normal s zero t n m = absurd (n refl)
normal s (suc x) t n m =
    let less : suc x - 1 ≡ x = omega arith in
    rw (ne_eqb (suc x) (ones binary64) m, less) (odd_sign 53 s (hid binary64 + t) x (low binary64))

pub subnormal_bits : (bits : ℕ) {x : ℕ} → x ≡ field bits → x ≡ 0 →
    HasValue (sample bits) (leb (top binary64) bits) ((0 + digits bits) * 2 ^ 0) (2 ^ low binary64)
unfolding of_bits
subnormal_bits bits g e = rw (zero-add (digits bits)) (subnormal (leb (top binary64) bits) (field bits) (digits bits) (sym g ∙ e))

pub normal_bits : (bits : ℕ) {x : ℕ} → x ≡ field bits → (x ≡ 0 → ⊥) → finite (sample bits) ≡ true →
    HasValue (sample bits) (leb (top binary64) bits) ((hid binary64 + digits bits) * 2 ^ (x - 1)) (2 ^ low binary64)
unfolding of_bits
normal_bits bits {x} g n f = rw g (normal (leb (top binary64) bits) (field bits) (digits bits) (λ z. n (g ∙ z)) (not_top (field bits) (bits_finite bits ∙ f)))
  where
    not_top : (x : ℕ) → not (eqb x (ones binary64)) ≡ true → x ≡ ones binary64 → ⊥
    not_top x f e = true≢false (sym (subst (λ (i : ℕ). not (eqb i (ones binary64)) ≡ true) e f))
