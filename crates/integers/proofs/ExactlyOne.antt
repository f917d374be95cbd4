-- Exactly one of two tests: it turns with either, it does not matter which comes first, and it is the code's test. Assumes nothing.
-- Proved here: `one_not`, `one_comm`, `exactly_one_lem`.
use mathlib.Core.Path.{◌≡◌, refl}
use mathlib.Core.Bool.{Bool, true, false, not, beq}
use Rattle.integers.specs.Numbers.{exactly_one}

pub one_not : (c d : Bool) → exactly_one (not c) d ≡ not (exactly_one c d)
one_not true true = refl
one_not true false = refl
one_not false true = refl
one_not false false = refl

pub one_comm : (c d : Bool) → exactly_one c d ≡ exactly_one d c
one_comm true true = refl
one_comm true false = refl
one_comm false true = refl
one_comm false false = refl

pub exactly_one_lem : (a b : Bool) → not (beq a b) ≡ exactly_one a b
exactly_one_lem true true = refl
exactly_one_lem true false = refl
exactly_one_lem false true = refl
exactly_one_lem false false = refl
