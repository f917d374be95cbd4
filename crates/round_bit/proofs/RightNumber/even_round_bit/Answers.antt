use Prim.Native.Nat.{ℕ, suc, ◌+◌, ◌-◌, ◌^◌, ◌<◌, ◌≤◌}
use native.Mathlib.Omega.{arith}
use native.Mathlib.Nat.{pow-succ'}
use native.Mathlib.Numerals.{add-one}
use mathlib.Core.Path.{◌≡◌, refl, sym, ap, ◌∙◌}
use mathlib.Core.Bool.{Bool, true, false, cond}
use lib.Bits.{bit_and}
use lib.Pow.{pow_mono}
use lib.IntN.{ℤ, pos, nat_abs, ◌+ℤ◌, ◌-ℤ◌, ◌*ℤ◌}
use lib.Signed.{mag, le_z}
use mir.Syntax.{w64}
use mir.Val.{SFits, to_z, of_z, bool_byte}
use mir.Facts.{to_z-of_z, to_z_pos}
use borrow.Author.Rules.{rules}
use Rattle.integers.specs.Numbers.{floor_by, lowest, digit}
use Rattle.integers.proofs.Kit.{ints, size_range, abs_range, by_abs, plus_law, minus_law}
use Rattle.integers.proofs.Floor.{floor_range}
use Rattle.integers.proofs.Digits.{digit_le}
use Rattle.integers.proofs.LowDigits.{below_range}
use Rattle.integers.proofs.Even.{middle, goes_up, above_law, goes_up_value}
use Rattle.integers.proofs.Machine.{lowest_machine}
use Rattle.round_bit.specs.Cuts.{even_round_bit}
use Rattle.round_bit.proofs.Laws.EvenCuts.{even_round_bit_lem}
use Rattle.round_bit.proofs.RightNumber.even_round_bit.Goals as goal

from-floor : {q : ℤ} (a : ℤ) (k : ℕ) → q ≡ floor_by a (suc k) → (q *ℤ pos (2 ^ (k + 1))) +ℤ pos (2 ^ k) ≡ middle a k
from-floor a k e = rw (e, add-one)

floor-small : {q : ℤ} (a : ℤ) (k : ℕ) → k ≤ 60 → mag a < 2 ^ 62 → q ≡ floor_by a (suc k) → mag q < 2 ^ (61 - k)
floor-small a k l h e =
    let back : 61 - k + suc k ≡ 62 = omega arith in
    rw e (floor_range a (61 - k) (suc k) (rw back h))

one : 1 ≤ 1
one = omega arith

-- a bit less a bit
bits_small : (x y : ℕ) → x ≤ 1 → y ≤ 1 → nat_abs (pos x -ℤ pos y) ≤ 1
bits_small x y h l = by_abs 1 (pos x -ℤ pos y) (omega (arith, minus_law (pos x) (pos y)))

small-fits : (x : ℤ) → nat_abs x ≤ 1 → SFits w64 x
small-fits x h = omega (ints, abs_range 1 x h)

module _ (s : goal.After-struct_told-1) where
  abbrev a : ℤ
  a = s.args.self.number.0

  abbrev r : ℕ
  r = s.args.self.number.1

  abbrev k : ℕ
  k = s.args.k

  abbrev even : ℤ
  even = pos 1 -ℤ pos (digit a (suc k))

  number : SFits w64 a
  number = search rules

  floor : s.args.q ≡ floor_by a (suc k)
  floor = s.requires.2 ∙ ap (floor_by a) (add-one k)

  bit : to_z w64 r ≡ pos r
  bit = to_z_pos w64 (omega (arith, s.args.self.bit))

  value_fits : SFits w64 (a +ℤ pos r)
  value_fits = omega (ints, size_range (2 ^ 62) a s.requires.1, plus_law a (pos r), s.args.self.bit)

  odd : to_z w64 (bit_and (of_z w64 s.args.q) 1) ≡ pos (digit a (suc k))
  unfolding digit
  odd = lowest_machine s.args.q s.ranges.q ∙ ap (λ (z : ℤ). pos (lowest z)) floor

  even-fits : SFits w64 even
  even-fits = small-fits even (bits_small 1 (digit a (suc k)) one (digit_le a (suc k)))

  -- the middle lies within half a new unit of a + r, and so inside an i64, also with a small number more
  up_fits : (x : ℤ) → nat_abs x ≤ 1 → SFits w64 (middle a k +ℤ x)
  up_fits x h =
      let half : 2 ^ k ≤ 2 ^ 60 = pow_mono {i = k} {j = 60} s.requires.0 in
      omega (
        ints,
        half,
        size_range (2 ^ 62) a s.requires.1,
        s.args.self.bit,
        plus_law a (pos r),
        above_law r a k,
        below_range a (suc k),
        pow-succ' 2 k,
        plus_law (middle a k) x,
        abs_range 1 x h,
      )

module _ (c : goal.After-middle) where
  middle-fits : SFits w64 c.middle.result
  middle-fits = record { sfits = c.middle.type_inv }

  there : c.middle.result ≡ middle (a c.before) (k c.before)
  there = c.middle.ensures ∙ rw (to_z-of_z c.ranges.q) (from-floor (a c.before) (k c.before) (floor c.before))

pub middle-requires : goal.middle-requires
middle-requires c = (c.requires.0, rw (to_z-of_z c.ranges.q) (floor-small (a c) (k c) c.requires.0 c.requires.1 (floor c)))

pub overflow_add-least : goal.overflow_add-least
overflow_add-least c =
    let s = c.before in
    rw (to_z-of_z (middle-fits c), there c, odd s) (search (up_fits s, to_z-of_z, small-fits, bits_small, digit_le (a s) (suc (k s)), one))

-- what the code tests is that the value goes up
tested : (c : goal.After-middle) →
    le_z (to_z w64 (of_z w64 (to_z w64 (of_z w64 c.middle.result) +ℤ to_z w64 (of_z w64 (pos 1 -ℤ to_z w64 (bit_and (of_z w64 c.args.q) 1))))))
    (to_z w64 (of_z w64 (to_z w64 (of_z w64 c.args.self.number.0) +ℤ to_z w64 c.args.self.number.1))) ≡ goes_up (r c.before) (a c.before) (k c.before)
tested c =
    let s = c.before in
    rw (
      to_z-of_z (middle-fits c),
      there c,
      odd s,
      to_z-of_z (even-fits s),
      to_z-of_z (up_fits s (even s) (bits_small 1 (digit (a s) (suc (k s))) one (digit_le (a s) (suc (k s))))),
      to_z-of_z (number s),
      bit s,
      to_z-of_z (value_fits s),
    ) (goes_up_value (r s) (a s) (k s))

by-test : (s : goal.After-struct_told-1) (t : Bool) → t ≡ goes_up (r s) (a s) (k s) → bool_byte t ≡ even_round_bit (r s) (a s) (k s)
by-test s t e = rw e (as_bit (goes_up (r s) (a s) (k s)) ∙ sym (even_round_bit_lem (r s) (a s) (k s) s.args.self.bit))
  where
    as_bit : (v : Bool) → bool_byte v ≡ cond v 1 0
    as_bit true = refl
    as_bit false = refl

pub returns : goal.returns
returns c = c.from.ensures ∙ by-test c.before.before _ (tested c.before)
