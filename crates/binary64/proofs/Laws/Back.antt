-- A plain word of at most 53 digits, written as binary64 by the library's `round`, is held exactly and comes back: `comes_back` proves
-- specs/Claims' `ComesBack`. Assumes nothing.
-- Proved here: `comes_back`.
use Prim.Native.Nat.{ℕ, suc, ◌+◌, ◌-◌, ◌*◌, ◌^◌, ◌<◌, ◌≤◌}
use native.Mathlib.Nat.{lt_of_lt_of_le}
use native.Mathlib.Omega.{arith}
use mathlib.Core.Bool.{Bool}
use mathlib.Core.Path.{◌≡◌, refl, ap}
use lib.IntN.{ℤ, pos, negsuc, nat_abs, ◌+ℤ◌}
use lib.Signed.{lt_z}
use lib.Pow.{pow_mono, shl_lt}
use lib.Ieee.{Float, binary64, emax, low, up, down, round}
use lib.Ieee.Bits.{of_bits-to_bits, to_bits-lt}
use lib.Ieee.Exact.{HasValue, round_exact}
use lib.Ieee.Fits.{down_pos, round-fits}
use borrow.Author.Tests.{le-ltb}
use Rattle.integers.proofs.Kit.{ints, plus_law, abs_law, one_zero, size_range}
use Rattle.words.specs.Outcomes.{Done}
use Rattle.words.specs.Kinds.{PlainWord}
use Rattle.words.specs.Plain.{plain_check, plain_done, plain_fitted}
use Rattle.words.proofs.Laws.{Right, plain_right, format_right}
use Rattle.words.proofs.Operands.{fit_passes}
use Rattle.binary64.specs.Import.{signed, to_plain_of}
use Rattle.binary64.specs.Claims.{Whole, bits_of, ComesBack}
use Rattle.binary64.proofs.Laws.Fractions.{whole_exact, unit_law, unit_depth}
use Rattle.binary64.proofs.Laws.Claimed.{import_passes}

-- a number is its size with its sign
signed_is : (x : ℤ) → signed (lt_z x (pos 0)) (nat_abs x) ≡ x
signed_is (pos n) = rw (le-ltb n 0 (omega arith))
signed_is (negsuc n) = refl

-- with the powers as variables: written out, 2^1074 is too long for `omega`
scaled : (n u v p q : ℕ) → q * v ≡ p * u → n * u * p ≡ n * q * v
scaled n u v p q h = omega (arith, ap (λ (i : ℕ). n * i) h)

-- what is written are 64 bits, whatever the word
written_fits : (w : PlainWord) → bits_of w < 2 ^ 64
written_fits w =
    let x = w.number.0 in
    let e = w.format.unit in
    to_bits-lt binary64 (round binary64 (lt_z x (pos 0)) (nat_abs x * up e) (down e)) (round-fits binary64 (lt_z x (pos 0)) (nat_abs x * up e) (down e))

module _ (w : PlainWord) (check : plain_check w ≡ Done) (short : w.format.width ≤ 53) where
  abbrev x : ℤ
  x = w.number.0

  abbrev e : ℤ
  e = w.format.unit

  abbrev s : Bool
  s = lt_z x (pos 0)

  abbrev rounded : Float
  rounded = round binary64 s (nat_abs x * up e) (down e)

  right : Right w.format x 0
  right = plain_right w check

  -- the unit is 2^depth of the smallest number
  depth : ℕ
  depth = nat_abs (pos (low binary64) +ℤ e)

  depth_is : pos depth ≡ pos (low binary64) +ℤ e
  unfolding depth
  depth_is = unit_depth e right.format.fine

  shallow : depth ≤ low binary64 + 127
  shallow = omega (ints, depth_is, right.format.coarse, plus_law (pos (low binary64)) e)

  small : nat_abs x < 2 ^ 53
  small =
      omega (
        arith,
        abs_law x,
        one_zero x,
        size_range (2 ^ (w.format.width - 1)) x right.size,
        pow_mono {i = w.format.width - 1} {j = 52} (omega arith),
      )

  -- so it is far below the largest number, and nothing of it is lost
  held : HasValue rounded s (nat_abs x * up e) (down e)
  held =
      round_exact binary64 s (nat_abs x * up e) (down e) (nat_abs x) depth (down_pos e) small
      (lt_of_lt_of_le (shl_lt 53 depth small) (pow_mono {i = 53 + depth} {j = low binary64 + suc (emax binary64)} (omega (arith, shallow))))
      (scaled (nat_abs x) (up e) (down e) (2 ^ low binary64) (2 ^ depth) (unit_law e (low binary64) depth depth_is))

  back : Whole (bits_of w) e s (nat_abs x)
  back = rw (of_bits-to_bits binary64 rounded (round-fits binary64 s (nat_abs x * up e) (down e))) held

  same : to_plain_of (bits_of w) w.format ≡ plain_done w
  unfolding plain_fitted
  same =
      rw (
        import_passes (bits_of w) w.format s (nat_abs x * up e) (down e) (format_right w.format right.format) back,
        whole_exact (bits_of w) e s (nat_abs x) back,
        signed_is x,
        fit_passes w.format x right.size,
      )

pub comes_back : ComesBack
comes_back w check short = (back w check short, written_fits w, same w check short)
