-- What the refusals 5, 6 and 7 tell of a format, and when they are not given. Assumes nothing.
-- Proved here: `unit_good`, `digits_left`, `narrower_right`, `narrower_done`, `answer_right`, `answer_done`,
-- `narrower_narrower`, `narrower_wider`, `narrower_none`, `narrower_passes`, `narrower_first`, `narrower_then`.
use Prim.Native.Nat.{ℕ, ◌+◌, ◌-◌, ◌≤◌}
use native.Mathlib.Omega.{arith}
use mathlib.Core.Path.{◌≡◌}
use mathlib.Core.Bool.{false}
use lib.Dec.{ltb}
use lib.IntN.{ℤ, pos, neg_ℤ, ◌+ℤ◌, ◌-ℤ◌}
use lib.Signed.{◌≤ℤ◌}
use borrow.Author.Tests.{not-false, ltb-false, le-ltb}
use Rattle.integers.specs.Numbers.{lies}
use Rattle.integers.proofs.Kit.{ints, plus_law, minus_law}
use Rattle.integers.proofs.Width.{lies_true, lies_low, lies_high}
use Rattle.words.specs.Words.{bad_unit}
use Rattle.words.specs.Refusals.{refuse_for}
use Rattle.words.specs.Formats.{narrower, narrower_check, wider, answer_check}
use Rattle.words.specs.declared.Cause.TheVariants.{Depth, WidthPast, UnitPast}
use Rattle.words.specs.Outcomes.{Done}
use Rattle.words.specs.declared.Format.{Format}
use Rattle.words.proofs.Laws.{passed, both_passed, RightFormat}

-- ---- a unit in its range, both ways
unit_low : (e : ℤ) → bad_unit e ≡ false → neg_ℤ (pos 127) ≤ℤ e
unit_low e h = omega (ints, lies_low (neg_ℤ (pos 127)) (pos 127) e (not-false (lies (neg_ℤ (pos 127)) (pos 127) e) h))

unit_high : (e : ℤ) → bad_unit e ≡ false → e ≤ℤ pos 127
unit_high e h = omega (ints, lies_high (neg_ℤ (pos 127)) (pos 127) e (not-false (lies (neg_ℤ (pos 127)) (pos 127) e) h))

pub unit_good : (e : ℤ) → neg_ℤ (pos 127) ≤ℤ e → e ≤ℤ pos 127 → bad_unit e ≡ false
unit_good e h k = rw (lies_true (neg_ℤ (pos 127)) (pos 127) e (omega (ints, h)) (omega (ints, k)))

-- ---- a cut's format
pub digits_left : (f : Format) (d : ℕ) → narrower_check f d ≡ Done → d + 2 ≤ f.width
unfolding narrower_check
digits_left f d e =
    let p = both_passed (refuse_for Depth (ltb (f.width - d) 2)) (refuse_for UnitPast (bad_unit (f.unit +ℤ pos d))) e in
    omega (arith, ltb-false (f.width - d) 2 (passed Depth (ltb (f.width - d) 2) p.0))

pub narrower_right : (f : Format) (d : ℕ) → RightFormat f → narrower_check f d ≡ Done → RightFormat (narrower f d)
unfolding narrower_check
narrower_right f d g e =
    let p = both_passed (refuse_for Depth (ltb (f.width - d) 2)) (refuse_for UnitPast (bad_unit (f.unit +ℤ pos d))) e in
    let u = passed UnitPast (bad_unit (f.unit +ℤ pos d)) p.1 in
    record {
      narrow = ltb-false (f.width - d) 2 (passed Depth (ltb (f.width - d) 2) p.0);
      wide = omega (arith, g.wide);
      fine = unit_low (f.unit +ℤ pos d) u;
      coarse = unit_high (f.unit +ℤ pos d) u;
    }

-- what it takes: 2 digits left, and a unit that is not too coarse
pub narrower_done : (f : Format) (d : ℕ) → RightFormat f → d + 2 ≤ f.width → (f.unit +ℤ pos d) ≤ℤ pos 127 → narrower_check f d ≡ Done
unfolding narrower_check
narrower_done f d g h k =
    rw (le-ltb (f.width - d) 2 (omega arith), unit_good (f.unit +ℤ pos d) (omega (ints, g.fine, plus_law f.unit (pos d))) k)

-- ---- the format of any other answer
pub answer_right : (f : Format) → 2 ≤ f.width → answer_check f ≡ Done → RightFormat f
unfolding answer_check
answer_right f h e =
    let p = both_passed (refuse_for WidthPast (ltb 63 f.width)) (refuse_for UnitPast (bad_unit f.unit)) e in
    let u = passed UnitPast (bad_unit f.unit) p.1 in
    record {
      narrow = h;
      wide = ltb-false 63 f.width (passed WidthPast (ltb 63 f.width) p.0);
      fine = unit_low f.unit u;
      coarse = unit_high f.unit u;
    }

pub answer_done : (f : Format) → RightFormat f → answer_check f ≡ Done
unfolding answer_check
answer_done f g = rw (le-ltb 63 f.width g.wide, unit_good f.unit g.fine g.coarse)

-- ---- a cut's format: one depth after another is one depth, and widening goes back
pub narrower_narrower : (f : Format) (a b : ℕ) → narrower (narrower f a) b ≡ narrower f (a + b)
narrower_narrower f a b =
    let u = f.unit in
    let width : f.width - a - b ≡ f.width - (a + b) = omega arith in
    let unit : u +ℤ pos a +ℤ pos b ≡ u +ℤ pos (a + b) = omega (ints, plus_law u (pos a), plus_law (u +ℤ pos a) (pos b), plus_law u (pos (a + b))) in
    rw (width, unit)

pub narrower_wider : (f : Format) (d : ℕ) → narrower (wider f d) d ≡ f
narrower_wider f d =
    let width : f.width + d - d ≡ f.width = omega arith in
    let unit : f.unit -ℤ pos d +ℤ pos d ≡ f.unit = omega (ints, minus_law f.unit (pos d), plus_law (f.unit -ℤ pos d) (pos d)) in
    rw (width, unit)

pub narrower_none : (f : Format) → narrower f 0 ≡ f
narrower_none f =
    let width : f.width - 0 ≡ f.width = omega arith in
    let unit : f.unit +ℤ pos 0 ≡ f.unit = omega (ints, plus_law f.unit (pos 0)) in
    rw (width, unit)

-- the check lets every depth through that leaves a right format, so a depth in two steps too
pub narrower_passes : (f : Format) (d : ℕ) → RightFormat f → RightFormat (narrower f d) → narrower_check f d ≡ Done
narrower_passes f d g h = narrower_done f d g (omega (arith, h.narrow)) h.coarse

pub narrower_first : (f : Format) (a b : ℕ) → RightFormat f → narrower_check f (a + b) ≡ Done → narrower_check f a ≡ Done
narrower_first f a b g e =
    narrower_done f a g (omega (arith, digits_left f (a + b) e))
    (omega (ints, (narrower_right f (a + b) g e).coarse, plus_law f.unit (pos a), plus_law f.unit (pos (a + b))))

pub narrower_then : (f : Format) (a b : ℕ) → RightFormat f → narrower_check f (a + b) ≡ Done → narrower_check (narrower f a) b ≡ Done
narrower_then f a b g e =
    narrower_passes (narrower f a) b (narrower_right f a g (narrower_first f a b g e)) (rw (narrower_narrower f a b) (narrower_right f (a + b) g e))
