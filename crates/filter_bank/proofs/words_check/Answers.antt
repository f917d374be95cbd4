use native.Mathlib.Omega.{arith}
use mathlib.Core.Path.{sym, ◌∙◌}
use borrow.Author.Rules.{rules}
use Rattle.filter_bank.proofs.Along.{check_refused, check_passed, check_end}
use Rattle.filter_bank.proofs.words_check.Goals as goal

pub returns-in_err-check : goal.returns-in_err-check
returns-in_err-check c =
    rw (c.loop-x.invariant, check_refused c.args.w.now c.loop-x.x-index _ c.check.ensures (omega arith) _ c.in_err-check.was) (search rules)

pub loop-x-preserved : goal.loop-x-preserved
loop-x-preserved c = c.loop-x.invariant ∙ check_passed c.args.w.now c.loop-x.x-index _ c.check.ensures (omega arith) c.in_ok-check.was

pub returns : goal.returns
returns c = sym (c.loop-x.invariant ∙ check_end c.args.w.now c.loop-x.x-index 8 (omega arith) (omega arith))
