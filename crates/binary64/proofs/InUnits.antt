-- A sample in units of 2^e, from its significand m and its places k: m over 2^(d - k), or m times 2^(k - d), where the unit is 2^d of the smallest
-- number. Assumes nothing.
-- Proved here: `parts_right`, `parts_left`.
use mathlib.Core.Path.{◌≡◌, sym, ap, ◌∙◌}
use mathlib.Core.Bool.{Bool}
use Prim.Native.Nat.{ℕ, ◌*◌, ◌-◌, ◌^◌, ◌<◌, ◌≤◌}
use native.Mathlib.Omega.{arith}
use native.Mathlib.Nat.{mul-pos}
use lib.Pow.{pow_pos}
use lib.IntN.{ℤ, pos, ◌+ℤ◌}
use lib.Ieee.{binary64, low, up, down}
use lib.Ieee.Exact.{HasValue}
use lib.Ieee.Fits.{up_pos}
use Rattle.integers.proofs.Quotients.{powers}
use Rattle.binary64.specs.Import.{sample, quotient, in_units}
use Rattle.binary64.specs.Parts.{parts_of}
use Rattle.binary64.proofs.Laws.Fractions.{unit_law, in_units_lem}
use Rattle.binary64.proofs.Split.{same_parts}

-- the two fractions m * 2^k / l and a / b, each over up / down, are one
over_right : (m k t d l u v : ℕ) → k * t ≡ d → d * v ≡ l * u → m * k * v * t ≡ m * (l * u)
over_right m k t d l u v e f = omega (arith, ap (λ (i : ℕ). m * (i * v)) e, ap (λ (i : ℕ). m * i) f)

over_left : (m k t d l u v : ℕ) → d * t ≡ k → d * v ≡ l * u → m * k * v * 1 ≡ m * t * (l * u)
over_left m k t d l u v e f = omega (arith, ap (λ (i : ℕ). m * (i * v)) e, ap (λ (i : ℕ). m * t * i) f)

module _ (bits : ℕ) (e : ℤ) (s : Bool) (m k d : ℕ) (v : HasValue (sample bits) s (m * 2 ^ k) (2 ^ low binary64)) (h : pos d ≡ pos (low binary64) +ℤ e) where
  whole : parts_of (in_units (sample bits) e) ≡ parts_of (quotient s (m * 2 ^ k * down e) (2 ^ low binary64 * up e))
  whole = in_units_lem parts_of same_parts (sample bits) e s (m * 2 ^ k) (2 ^ low binary64) (pow_pos (low binary64)) v

  below : 0 < 2 ^ low binary64 * up e
  below = mul-pos (pow_pos (low binary64)) (up_pos e)

  pub parts_right : k < d → parts_of (quotient s m (2 ^ (d - k))) ≡ parts_of (in_units (sample bits) e)
  parts_right l =
      sym
      (whole
      ∙ same_parts s (m * 2 ^ k * down e) (2 ^ low binary64 * up e) m (2 ^ (d - k)) below (pow_pos (d - k))
      (over_right m (2 ^ k) (2 ^ (d - k)) (2 ^ d) (2 ^ low binary64) (up e) (down e) (powers k d (omega arith)) (unit_law e (low binary64) d h)))

  pub parts_left : d ≤ k → parts_of (quotient s (m * 2 ^ (k - d)) 1) ≡ parts_of (in_units (sample bits) e)
  parts_left l =
      sym
      (whole
      ∙ same_parts s (m * 2 ^ k * down e) (2 ^ low binary64 * up e) (m * 2 ^ (k - d)) 1 below (omega arith)
      (over_left m (2 ^ k) (2 ^ (k - d)) (2 ^ d) (2 ^ low binary64) (up e) (down e) (powers d k l) (unit_law e (low binary64) d h)))
