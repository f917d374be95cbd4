-- The other sign: bits with the other sign bit stand for the negative number; so its whole count is the negative one, and its half-odd count is
-- -1 less it, but at a tie. `sign_turns` and `tie_turns` prove specs/Claims' `SignTurns` and `TieTurns`. Assumes nothing.
-- Proved here: `opposite_neg`, `whole_opposite`, `half_odd_opposite`, `sign_turns`, `tie_turns`.
use Prim.Native.Nat.{ℕ, zero, suc, ◌+◌, ◌-◌, ◌*◌, ◌/◌, ◌%◌, ◌^◌, ◌<◌}
use native.Mathlib.Nat.{add-mod_right, add-mul-mod_self_left, div-add-mod', mul-pos}
use native.Mathlib.Omega.{arith}
use mathlib.Core.Bool.{Bool, true, false, not, cond, not-not, true≢false}
use mathlib.Core.Path.{◌≡◌, refl, sym, ap, ◌∙◌}
use lib.Dec.{eqb, leb}
use lib.IntN.{ℤ, pos, neg_ℤ, neg_ℤ-neg_ℤ, ◌+ℤ◌}
use lib.Ieee as ieee
use lib.Ieee.{Float, nan, inf, fin, binary64, up, down, prec, low, hid, top, ones, odd, of_fields, of_bits, neg}
use lib.Ieee.Exact.{HasValue}
use lib.Ieee.Fits.{up_pos, down_pos}
use lib.Ieee.Scale.{finite}
use borrow.Author.Tests.{leb-true, leb-false, le-leb, lt-leb, ne_eqb}
use Rattle.integers.specs.Numbers.{turned, lowest, cleared}
use Rattle.integers.proofs.Kit as kit
use Rattle.integers.proofs.Kit.{ints, plus_law, neg_law}
use Rattle.integers.proofs.Floor.{turned_turned, turned_law}
use Rattle.integers.proofs.Digits.{cleared_law}
use Rattle.words.specs.Words.{Kind, value}
use Rattle.words.specs.Words.Kind.{plain, round_bit, half_unit}
use Rattle.words.proofs.Laws.{half, value_law}
use Rattle.binary64.specs.Import.{sample, signed, in_units, nearest_whole, nearest_half_odd, whole_count, half_odd_count}
use Rattle.binary64.specs.Claims.{number, opposite, Whole, Turns, SignTurns, TieTurns}
use Rattle.binary64.proofs.Laws.Fractions.{half_odd_parts, half_odd_exact}
use Rattle.binary64.proofs.Laws.Closest.{lowest_signed}
use Rattle.binary64.proofs.Laws.Claimed.{done_answer, done_value}
use Rattle.binary64.proofs.Checks.{import_passed}

-- ---- the fields with the other sign are the negative number, in every format
odd_neg : (d : ℕ) (s : Bool) (q k l : ℕ) → odd d (not s) q k l ≡ neg (odd d s q k l)
unfolding odd neg
odd_neg d s zero k l = refl
odd_neg d s (suc q) k l = refl

fields_neg : (f : ieee.Format) (s : Bool) (x t : ℕ) → of_fields f (not s) x t ≡ neg (of_fields f s x t)
unfolding of_fields neg
fields_neg f s zero t = odd_neg (prec f) s t 0 (low f)
fields_neg f s (suc x) t = go (eqb (suc x) (ones f)) (eqb t 0)
  where
    v : Bool → Float
    v s = odd (prec f) s (hid f + t) x (low f)

    go : (a b : Bool) → cond a (cond b (inf (not s)) nan) (v (not s)) ≡ neg (cond a (cond b (inf s) nan) (v s))
    go true true = refl
    go true false = refl
    go false b = odd_neg (prec f) s (hid f + t) x (low f)

-- the other sign bit leaves the other fields
raised_neg : (f : ieee.Format) (b : ℕ) → b < top f → of_bits f (b + top f) ≡ neg (of_bits f b)
unfolding of_bits
raised_neg f b h =
    rw (
      le-leb (top f) (b + top f) (omega arith),
      lt-leb (top f) b h,
      add-mod_right b (top f),
      add-mul-mod_self_left b (hid f) (suc (ones f)),
    )
    (fields_neg f false (b % top f / hid f) (b % hid f))

neg_neg : (x : Float) → neg (neg x) ≡ x
unfolding neg
neg_neg nan = refl
neg_neg (inf s) = ap inf (not-not s)
neg_neg (fin s m x) = ap (λ (t : Bool). fin t m x) (not-not s)

pub opposite_neg : (bits : ℕ) → bits < 2 ^ 64 → sample (opposite bits) ≡ neg (sample bits)
opposite_neg bits h = go (leb (top binary64) bits) refl
  where
    go : (t : Bool) → leb (top binary64) bits ≡ t → sample (cond t (bits - top binary64) (bits + top binary64)) ≡ neg (sample bits)
    go true e =
        let l = leb-true (top binary64) bits e in
        let low = bits - top binary64 in
        let back : low + top binary64 ≡ bits = omega arith in
        sym (neg_neg (sample low)) ∙ ap neg (sym (raised_neg binary64 low (omega arith)) ∙ ap (of_bits binary64) back)
    go false e = raised_neg binary64 bits (leb-false (top binary64) bits e)

neg_value : (x : Float) (s : Bool) (a c : ℕ) → HasValue x s a c → HasValue (neg x) (not s) a c
unfolding neg
neg_value nan s a c v = v
neg_value (inf t) s a c v = v
neg_value (fin t m x) s a c v = (ap not v.0, v.1)

-- ---- the whole count of the negative number is the negative count
signed_not : (s : Bool) (n : ℕ) → signed (not s) n ≡ neg_ℤ (signed s n)
signed_not false n = refl
signed_not true n = sym (neg_ℤ-neg_ℤ (pos n))

whole_neg : (x : Float) (e : ℤ) → finite x ≡ true → nearest_whole (in_units (neg x) e) ≡ neg_ℤ (nearest_whole (in_units x e))
unfolding neg in_units nearest_whole
whole_neg nan e f = absurd (true≢false (sym f))
whole_neg (inf s) e f = absurd (true≢false (sym f))
whole_neg (fin s m x) e f = signed_not s _

pub whole_opposite : (bits : ℕ) (e : ℤ) → bits < 2 ^ 64 → finite (sample bits) ≡ true → whole_count (opposite bits) e ≡ neg_ℤ (whole_count bits e)
unfolding whole_count
whole_opposite bits e h f = ap (λ (x : Float). nearest_whole (in_units x e)) (opposite_neg bits h) ∙ whole_neg (sample bits) e f

-- ---- the half-odd count of the negative number: -1 - w for w, where the count is not whole
half_odd_neg : (x : Float) (e : ℤ) → finite x ≡ true → ((s : Bool) (n : ℕ) → HasValue x s (n * up e) (down e) → ⊥) →
    nearest_half_odd (in_units (neg x) e) ≡ turned (nearest_half_odd (in_units x e))
unfolding neg in_units
half_odd_neg nan e f never = absurd (true≢false (sym f))
half_odd_neg (inf s) e f never = absurd (true≢false (sym f))
half_odd_neg (fin s m x) e f never =
    rw (half_odd_parts (not s) above below some, half_odd_parts s above below some, ne_eqb (above % below) 0 left) (go s (above / below))
  where
    above : ℕ
    above = m * up x * down e

    below : ℕ
    below = down x * up e

    some : 0 < below
    some = mul-pos (down_pos x) (up_pos e)

    left : above % below ≡ 0 → ⊥
    left z = never s (above / below) (refl, omega (arith, div-add-mod' above below))

    go : (s : Bool) (n : ℕ) → cond (not s) (turned (pos n)) (pos n) ≡ turned (cond s (turned (pos n)) (pos n))
    go false n = refl
    go true n = sym (turned_turned (pos n))

pub half_odd_opposite : (bits : ℕ) (e : ℤ) → bits < 2 ^ 64 → finite (sample bits) ≡ true → Turns half_unit bits e →
    half_odd_count (opposite bits) e ≡ turned (half_odd_count bits e)
unfolding half_odd_count
half_odd_opposite bits e h f t = ap (λ (x : Float). nearest_half_odd (in_units x e)) (opposite_neg bits h) ∙ half_odd_neg (sample bits) e f t

-- ---- the values: 2 y + h is -(2 x + h) where y is -h - x
value_turned : (k : Kind) (x y : ℤ) → kit.up y + kit.up x + half k ≡ kit.down x + kit.down y → value k y 0 ≡ neg_ℤ (value k x 0)
value_turned k x y e = omega (ints, value_law k x, value_law k y, neg_law (value k x 0))

whole_turned : (k : Kind) (bits : ℕ) (e : ℤ) → half k ≡ 0 → bits < 2 ^ 64 → finite (sample bits) ≡ true →
    value k (whole_count (opposite bits) e) 0 ≡ neg_ℤ (value k (whole_count bits e) 0)
whole_turned k bits e z h f =
    let x = whole_count bits e in
    value_turned k x (whole_count (opposite bits) e) (rw (whole_opposite bits e h f) (omega (ints, neg_law x)))

number_turned : (k : Kind) (bits : ℕ) (e : ℤ) → bits < 2 ^ 64 → finite (sample bits) ≡ true → Turns k bits e →
    value k (number k (opposite bits) e) 0 ≡ neg_ℤ (value k (number k bits e) 0)
number_turned plain bits e h f t = whole_turned plain bits e refl h f
number_turned round_bit bits e h f t = whole_turned round_bit bits e refl h f
number_turned half_unit bits e h f t =
    let x = half_odd_count bits e in
    value_turned half_unit x (half_odd_count (opposite bits) e) (rw (half_odd_opposite bits e h f t) (omega (ints, turned_law x)))

pub sign_turns : SignTurns
sign_turns k bits f h d t =
    let finite = (import_passed bits f (done_answer bits f k d.0).0).0 in
    done_value (opposite bits) f k d.1 ∙ number_turned k bits f.unit h finite t ∙ ap neg_ℤ (sym (done_value bits f k d.0))

-- ---- at a tie both go to an even number, z and -z less their lowest digit b: 2 (z - b) + 1 and 2 (-z - b) + 1 add up to 2 - 4 b
tie_sum : (s : Bool) (n : ℕ) → value half_unit (cleared (signed s n)) 0 +ℤ value half_unit (cleared (signed (not s) n)) 0
    ≡ cond (eqb (lowest (pos n)) 0) (pos 2) (neg_ℤ (pos 2))
tie_sum s n = rw (lowest_signed false n) (go (n % 2) refl)
  where
    z : ℤ
    z = signed s n

    y : ℤ
    y = signed (not s) n

    sum : ℤ
    sum = value half_unit (cleared z) 0 +ℤ value half_unit (cleared y) 0

    law : kit.up sum + 4 * (n % 2) ≡ 2 + kit.down sum
    law =
        omega (
          ints,
          plus_law (value half_unit (cleared z) 0) (value half_unit (cleared y) 0),
          value_law half_unit (cleared z),
          value_law half_unit (cleared y),
          cleared_law z,
          cleared_law y,
          lowest_signed s n,
          lowest_signed (not s) n,
          signed_not s n,
          neg_law z,
        )

    go : (b : ℕ) → n % 2 ≡ b → sum ≡ cond (eqb b 0) (pos 2) (neg_ℤ (pos 2))
    go zero e = omega (ints, law)
    go (suc zero) e = omega (ints, law)
    go (suc (suc b)) e = absurd (omega arith)

pub tie_turns : TieTurns
tie_turns bits f s n h d v =
    let e = f.unit in
    let w : Whole (opposite bits) e (not s) n = rw (opposite_neg bits h) (neg_value (sample bits) s (n * up e) (down e) v) in
    rw (
      done_value bits f half_unit d.0,
      done_value (opposite bits) f half_unit d.1,
      half_odd_exact bits e s n v,
      half_odd_exact (opposite bits) e (not s) n w,
    )
    (tie_sum s n)
