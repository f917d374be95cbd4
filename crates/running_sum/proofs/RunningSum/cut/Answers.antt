use mathlib.Core.Path.{sym, ◌∙◌}
use borrow.Author.Rules.{rules}
use Rattle.words.specs.declared.Cause.TheVariants.{Depth}
use Rattle.words.proofs.Laws.{passed}
use Rattle.running_sum.proofs.Checks.{cut_handed, cut_none}
use Rattle.running_sum.proofs.RunningSum.cut.Goals as goal

pub returns-in_err-refuse_for : goal.returns-in_err-refuse_for
returns-in_err-refuse_for c = rw (← cut_none c.args.self _ (sym c.in_ok-check.ensures) (sym c.in_err-refuse_for.ensures)) (search rules)

pub returns : goal.returns
returns c = c.cut_in_two.ensures ∙ cut_handed c.args.self (passed Depth _ (sym c.in_ok-refuse_for.ensures))
