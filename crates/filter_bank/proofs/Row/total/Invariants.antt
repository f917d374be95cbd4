use Rattle.filter_bank.proofs.Summing.{Kept}
use Rattle.filter_bank.proofs.Row.total.Given as goal

abbrev pub invariant-loop-i : goal.invariant-loop-i
invariant-loop-i l = Kept l.self.taps l.self.window l.i l.sum
