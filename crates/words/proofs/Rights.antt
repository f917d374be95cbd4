-- What is right: 0, and what stays right: a floor, the low digits, a widening and a doubling of a right number, and its lowest digit cleared.
-- Assumes nothing.
-- Proved here: `nothing_right`, `floor_right`, `low_right`, `widened_right`, `cleared_right`, `doubled_right`.
use Prim.Native.Nat.{ℕ, suc, ◌+◌, ◌-◌, ◌*◌, ◌^◌, ◌≤◌}
use native.Mathlib.Omega.{arith}
use native.Mathlib.Nat.{lt_of_lt_of_le}
use mathlib.Core.Path.{◌≡◌}
use lib.Pow.{pow_mono, pow_pos}
use lib.IntN.{ℤ, pos, ◌+ℤ◌, ◌*ℤ◌}
use Rattle.integers.specs.Numbers.{floor_by, cleared, low_digits}
use Rattle.integers.proofs.Floor.{floor_range}
use Rattle.integers.proofs.LowDigits.{low_range}
use Rattle.integers.proofs.Width.{widen_size}
use Rattle.integers.proofs.Halves.{cleared_size, doubled_size}
use Rattle.words.specs.Formats.{narrower, narrower_check, wider}
use Rattle.words.specs.Outcomes.{Done}
use Rattle.words.specs.declared.Format.{Format}
use Rattle.words.proofs.Laws.{RightFormat, Right}
use Rattle.words.proofs.Formats.{digits_left, narrower_right}

-- ---- 0 is right in every right format
pub nothing_right : {f : Format} → RightFormat f → Right f (pos 0) 0
nothing_right {f} g = record { format = g; size = pow_pos (f.width - 1); bit = omega arith }

-- ---- a floor and the low digits of a right number are right with any round bit, and so is the number widened with its own
pub floor_right : {f : Format} {x : ℤ} {r : ℕ} (d s : ℕ) → Right f x r → narrower_check f d ≡ Done → s ≤ 1 → Right (narrower f d) (floor_by x d) s
floor_right {f} {x} d s g e h =
    let same : f.width - d - 1 + d ≡ f.width - 1 = omega (arith, digits_left f d e) in
    record {
      format = narrower_right f d g.format e;
      size = floor_range x (f.width - d - 1) d (rw same g.size);
      bit = h;
    }

pub low_right : {f : Format} {x : ℤ} {r : ℕ} (k s : ℕ) → Right f x r → narrower_check f (suc k) ≡ Done → s ≤ 1 → Right f (low_digits x (suc k)) s
low_right {f} {x} k s g e h =
    record {
      format = g.format;
      size = lt_of_lt_of_le (low_range x k) (pow_mono {i = k} {j = f.width - 1} (omega (arith, digits_left f (suc k) e)));
      bit = h;
    }

pub widened_right : {f : Format} {x : ℤ} {r : ℕ} (d : ℕ) → Right f x r → RightFormat (wider f d) →
    Right (wider f d) (x *ℤ pos (2 ^ d) +ℤ pos (r * (2 ^ d - 1))) r
widened_right {f} {x} {r} d g h =
    let same : f.width - 1 + d ≡ f.width + d - 1 = omega (arith, g.format.narrow) in
    record { format = h; size = rw same at (widen_size x r (f.width - 1) d g.size g.bit); bit = g.bit }

-- ---- the lowest digit cleared, in the same format; 2 x + s, in a format with one digit more
pub cleared_right : {f : Format} {x : ℤ} {r : ℕ} → Right f x r → Right f (cleared x) r
cleared_right {f} {x} g = record { format = g.format; size = cleared_size x f.width g.format.narrow g.size; bit = g.bit }

pub doubled_right : {f : Format} {x : ℤ} {r : ℕ} (s t : ℕ) → Right f x r → RightFormat (wider f 1) → s ≤ 1 → t ≤ 1 → Right (wider f 1) ((pos 2 *ℤ x) +ℤ pos s) t
doubled_right {f} {x} s t g h k l =
    let same : suc (f.width - 1) ≡ f.width + 1 - 1 = omega (arith, g.format.narrow) in
    record { format = h; size = rw same at (doubled_size x s (f.width - 1) g.size k); bit = l }
