use mathlib.Core.Path.{◌≡◌}
use lib.ListN.{drop}
use Rattle.filter_bank.specs.Bank.{words_check}
use Rattle.filter_bank.proofs.words_check.Given as goal

abbrev pub invariant-loop-x : goal.invariant-loop-x
invariant-loop-x l = words_check l.w ≡ words_check (drop l.x-index l.w)
