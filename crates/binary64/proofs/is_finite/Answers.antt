use mathlib.Core.Bool.{not}
use mathlib.Core.Path.{ap, ◌∙◌}
use Prim.Native.Nat.{ℕ}
use lib.Dec.{eqb}
use lib.Ieee.{binary64, ones}
use Rattle.binary64.proofs.Fields.{bits_finite}
use Rattle.binary64.proofs.is_finite.Goals as goal

pub returns : goal.returns
returns c = ap (λ (x : ℕ). not (eqb x (ones binary64))) c.field.ensures ∙ bits_finite c.args.bits
