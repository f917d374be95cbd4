use Prim.Native.Nat.{ℕ, ◌-◌, ◌≤◌}
use mathlib.Core.Path.{◌≡◌}
use lib.IntN.{ℤ, pos, ◌-ℤ◌}
use lib.ListN.{length}
use Rattle.integers.specs.Numbers.{floor_by, digit}
use Rattle.integers.specs.Lists.{over}
use Rattle.digit_text.specs.Digits.{byte_of}
use Rattle.digit_text.proofs.put_text.Given as goal

-- the bytes of a picture of n columns, from left to right, by its two rows
abbrev pub bytes : ℤ → ℤ → ℕ → ℕ → ℕ
bytes top bottom n k = byte_of (pos (digit top (n - 1 - k)) -ℤ pos (digit bottom (n - 1 - k)))

abbrev pub invariant-loop-k : goal.invariant-loop-k
invariant-loop-k l =
    let f = bytes l.initial.top_row l.initial.bottom_row l.n in
    (l.k ≤ l.n)
    × (length l.text ≡ length l.initial.text)
    × (l.top_row ≡ floor_by l.initial.top_row (l.n - l.k))
    × (l.bottom_row ≡ floor_by l.initial.bottom_row (l.n - l.k))
    × (over l.k f l.text ≡ over l.n f l.initial.text)
