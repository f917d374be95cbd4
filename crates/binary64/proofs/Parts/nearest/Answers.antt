use mathlib.Core.Path.{ap, ◌∙◌}
use Prim.Native.Nat.{ℕ, ◌+◌}
use Rattle.binary64.specs.Parts.{nearest_of}
use Rattle.binary64.proofs.Parts.nearest.Goals as goal

pub returns : goal.returns
unfolding nearest_of
returns c = ap (λ (n : ℕ). c.args.self.whole + n) (c.from.ensures ∙ c.goes_up.ensures)
