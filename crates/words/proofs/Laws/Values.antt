-- The values as `omega` is handed them: `plain_law`, `round_bit_law`, `half_unit_law`, and of any kind `value_law`; how far from 0 one is:
-- `value_abs`; and `three_amounts_differ`. Assumes nothing.
use Prim.Native.Nat.{ℕ, ◌+◌, ◌*◌, ◌≤◌, ◌<◌}
use native.Mathlib.Omega.{arith}
use mathlib.Core.Path.{◌≡◌, ap}
use lib.IntN.{ℤ, pos, nat_abs, ◌+ℤ◌, ◌*ℤ◌}
use lib.Signed.{mag}
use Rattle.integers.proofs.Kit.{up, down, plus_law, times_law, size_range, by_abs}
use Rattle.words.specs.Words.{Kind, value}
use Rattle.words.specs.Words.Kind.{plain, round_bit, half_unit}

pub plain_law : (x : ℤ) → up (value plain x 0) + 2 * down x ≡ 2 * up x + down (value plain x 0)
unfolding value
plain_law x = omega (arith, times_law (pos 2) x)

pub round_bit_law : (a : ℤ) (r : ℕ) → up (value round_bit a r) + 2 * down a ≡ 2 * up a + 2 * r + down (value round_bit a r)
unfolding value
round_bit_law a r = omega (arith, times_law (pos 2) (a +ℤ pos r), plus_law a (pos r))

pub half_unit_law : (w : ℤ) → up (value half_unit w 0) + 2 * down w ≡ 2 * up w + 1 + down (value half_unit w 0)
unfolding value
half_unit_law w = omega (arith, times_law (pos 2) w, plus_law (pos 2 *ℤ w) (pos 1))

-- of each kind a number x without a round bit is 2 x half units, or 2 x + 1
abbrev pub half : Kind → ℕ
half plain = 0
half round_bit = 0
half half_unit = 1

pub value_law : (k : Kind) (x : ℤ) → up (value k x 0) + 2 * down x ≡ 2 * up x + half k + down (value k x 0)
value_law plain x = omega (arith, plain_law x)
value_law round_bit x = omega (arith, round_bit_law x 0)
value_law half_unit x = half_unit_law x

-- of a number below p in size, with a round bit
pub value_abs : (k : Kind) (x : ℤ) (r p : ℕ) → mag x < p → r ≤ 1 → nat_abs (value k x r) ≤ 2 * p
unfolding value
value_abs plain x r p h l = by_abs (2 * p) (pos 2 *ℤ x) (omega (arith, size_range p x h, times_law (pos 2) x))
value_abs round_bit x r p h l =
    by_abs (2 * p) (pos 2 *ℤ (x +ℤ pos r)) (omega (arith, size_range p x h, times_law (pos 2) (x +ℤ pos r), plus_law x (pos r)))
value_abs half_unit x r p h l =
    by_abs (2 * p) ((pos 2 *ℤ x) +ℤ pos 1) (omega (arith, size_range p x h, times_law (pos 2) x, plus_law (pos 2 *ℤ x) (pos 1)))

-- "The same digits mean three amounts": whatever the digits, as a plain word, as (x,1) and as a half-unit word
pub three_amounts_differ : (x : ℤ) → (value plain x 0 ≡ value round_bit x 1 → ⊥) × (value plain x 0 ≡ value half_unit x 0 → ⊥)
    × (value round_bit x 1 ≡ value half_unit x 0 → ⊥)
three_amounts_differ x = (
  (λ e. omega (arith, plain_law x, round_bit_law x 1, ap up e, ap down e)),
  (λ e. omega (arith, plain_law x, half_unit_law x, ap up e, ap down e)),
  (λ e. omega (arith, round_bit_law x 1, half_unit_law x, ap up e, ap down e)),
)
