use Prim.Native.Nat.{ℕ, ◌+◌, ◌*◌, ◌-◌, ◌%◌, ◌^◌, ◌<◌, ◌≤◌}
use native.Mathlib.Omega.{arith}
use mathlib.Core.Path.{◌≡◌, sym, ap, ◌∙◌}
use lib.Pow.{pow-add, pow_mono}
use lib.IntN.{ℤ, pos, ◌+ℤ◌, ◌*ℤ◌}
use lib.Signed.{mag}
use mir.Syntax.{w64}
use mir.Val.{SFits, to_z, of_z}
use mir.Facts.{to_z-of_z}
use Rattle.integers.proofs.Kit.{ints, plus_law}
use Rattle.integers.proofs.Width.{times_bound}
use Rattle.integers.proofs.Machine.{times_machine}
use Rattle.round_bit.proofs.middle.Goals as goal

-- every step fits an i64
steps : (q : ℤ) (k : ℕ) → k ≤ 60 → mag q < 2 ^ (61 - k) →
    SFits w64 (q *ℤ pos (2 ^ (k + 1))) × SFits w64 (pos (2 ^ k)) × SFits w64 ((q *ℤ pos (2 ^ (k + 1))) +ℤ pos (2 ^ k))
steps q k l h =
    let x = q *ℤ pos (2 ^ (k + 1)) in
    let back : 61 - k + (k + 1) ≡ 62 = omega arith in
    let whole : 2 ^ (61 - k) * 2 ^ (k + 1) ≡ 2 ^ 62 = sym (pow-add 2 (61 - k) (k + 1)) ∙ ap (λ (i : ℕ). 2 ^ i) back in
    let bound = times_bound q (pos (2 ^ (k + 1))) (2 ^ (61 - k)) (2 ^ (k + 1) + 1) h (omega arith) in
    let small : 2 ^ (61 - k) ≤ 2 ^ 61 = pow_mono {i = 61 - k} {j = 61} (omega arith) in
    let half : 2 ^ k ≤ 2 ^ 60 = pow_mono {i = k} {j = 60} l in (
      omega (ints, bound, whole, small),
      omega (ints, half),
      omega (ints, bound, whole, small, half, plus_law x (pos (2 ^ k))),
    )

module _ (s : goal.Start) where
  abbrev q : ℤ
  q = s.args.q

  abbrev k : ℕ
  k = s.args.k

  fits : SFits w64 (q *ℤ pos (2 ^ (k + 1))) × SFits w64 (pos (2 ^ k)) × SFits w64 ((q *ℤ pos (2 ^ (k + 1))) +ℤ pos (2 ^ k))
  fits = steps q k s.requires.0 s.requires.1

  floor : to_z w64 ((of_z w64 q * 2 ^ (k + 1)) % 2 ^ 64) ≡ q *ℤ pos (2 ^ (k + 1))
  floor = times_machine (k + 1) s.ranges.q fits.0

  half : to_z w64 ((1 * 2 ^ k) % 2 ^ 64) ≡ pos (2 ^ k)
  half =
      let one : 1 * 2 ^ k ≡ 2 ^ k = omega arith in
      times_machine {x = pos 1} k (omega ints) (rw one fits.1) ∙ ap pos one

pub overflow_add-result-2 : goal.overflow_add-result-2
overflow_add-result-2 c = rw (floor c, half c) (fits c).2

pub returns : goal.returns
returns c = rw (floor c, half c) (to_z-of_z (fits c).2)
