use mathlib.Core.Path.{◌≡◌, refl, sym, ap, ◌∙◌}
use mathlib.Core.Bool.{Bool, true, false, not}
use Prim.Native.Nat.{ℕ, ◌≤◌}
use lib.Dec.{eqb}
use lib.IntN.{ℤ}
use native.Mathlib.Omega.{arith}
use borrow.Author.Tests.{eqb-true, eqb-false}
use mir.Syntax.{w64}
use mir.Val.{SFits, of_z, bool_byte}
use mir.Facts.{to_z-of_z}
use Rattle.integers.specs.Numbers.{any_below, low_digits}
use Rattle.integers.proofs.LowDigits.{any_le, low_none, none_low}
use Rattle.integers.proofs.Machine.{by_bits}
use Rattle.integers.proofs.any_below.Goals as goal

one : (n : ℕ) → n ≤ 1 → (n ≡ 0 → ⊥) → n ≡ 1
one n h k = omega arith

-- of the machine's low digits l
told : (x : ℤ) (k : ℕ) (l : ℤ) → SFits w64 l → l ≡ low_digits x k → bool_byte (not (eqb (of_z w64 l) 0)) ≡ any_below x k
told x k l f e = go (eqb (of_z w64 l) 0) refl
  where
    go : (b : Bool) → eqb (of_z w64 l) 0 ≡ b → bool_byte (not b) ≡ any_below x k
    go true t = sym (none_low x k (sym e ∙ by_bits 0 f (eqb-true (of_z w64 l) 0 t)))
    go false t = sym (one (any_below x k) (any_le x k) (λ n. eqb-false (of_z w64 l) 0 t (ap (of_z w64) (e ∙ low_none x k n))))

pub returns : goal.returns
returns c =
    let l = c.low_digits in
    c.from.ensures ∙ told c.args.x c.args.k l.result (record { sfits = l.type_inv }) (l.ensures ∙ rw (to_z-of_z c.ranges.x))
