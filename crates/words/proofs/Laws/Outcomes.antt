-- What "done" says of a test, and of two and three outcomes: `refused_not_done`, `passed`, `both_passed`, `three_passed`,
-- `both_pass`, `or-false`. Assumes nothing.
use Rattle.std.specs.Prelude.{Ok, Err}
use Prim.Native.Nat.{ℕ}
use native.Mathlib.Omega.{arith}
use mathlib.Core.Path.{◌≡◌, refl}
use mathlib.Core.Bool.{Bool, true, false, ◌||◌}
use Rattle.words.specs.Refusals.{refuse_for, ◌or_else◌}
use Rattle.words.specs.declared.Cause.{Cause}
use Rattle.words.specs.Outcomes.{Outcome}
use Rattle.words.specs.Outcomes.{Done, Refused}

pub refused_not_done : {c : Cause} → Refused c ≡ Done → ⊥
refused_not_done e = let z : ◌≡◌ {A = ℕ} 0 1 = cc in omega arith

pub passed : (c : Cause) (b : Bool) → refuse_for c b ≡ Done → b ≡ false
passed c true e = absurd (refused_not_done e)
passed c false e = refl

pub both_passed : (o p : Outcome) → (o or_else p) ≡ Done → (o ≡ Done) × (p ≡ Done)
both_passed (Ok _) p e = (refl, e)
both_passed (Err c) p e = absurd (refused_not_done e)

pub three_passed : (o p q : Outcome) → (o or_else p or_else q) ≡ Done → (o ≡ Done) × (p ≡ Done) × (q ≡ Done)
three_passed o p q e =
    let a = both_passed o (p or_else q) e in
    let b = both_passed p q a.1 in
    (a.0, b.0, b.1)

pub both_pass : {o p : Outcome} → o ≡ Done → p ≡ Done → (o or_else p) ≡ Done
both_pass e f = rw (e, f)

pub or-false : (a b : Bool) → (a || b) ≡ false → (a ≡ false) × (b ≡ false)
or-false true b e = (e, let z : ◌≡◌ {A = Bool} true false = e in cc)
or-false false b e = (refl, e)
