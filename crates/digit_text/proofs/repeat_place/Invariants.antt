use Prim.Native.Nat.{ℕ, ◌<◌}
use mathlib.Core.Path.{◌≡◌}
use mathlib.Core.Bool.{false}
use Rattle.digit_text.specs.Digits.{sign_before}
use Rattle.digit_text.specs.Reading.{repeats_at}
use Rattle.digit_text.proofs.repeat_place.Given as goal

-- `before` is the sign before the next place, and no place that was passed repeats
abbrev pub invariant-loop-k : goal.invariant-loop-k
invariant-loop-k l = (l.before.1 ≡ sign_before l.text l.k) × ((j : ℕ) → j < l.k → repeats_at l.text j ≡ false)
