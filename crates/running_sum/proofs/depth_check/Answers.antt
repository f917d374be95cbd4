use borrow.Author.Rules.{rules}
use Rattle.running_sum.proofs.Checks.{depth_is}
use Rattle.running_sum.proofs.depth_check.Goals as goal

pub returns-in_err-refuse_for : goal.returns-in_err-refuse_for
returns-in_err-refuse_for c = rw (← depth_is c.args.format c.args.depth) (search rules)

pub returns : goal.returns
returns c = rw (← depth_is c.args.format c.args.depth) (search rules)
