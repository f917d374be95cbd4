use borrow.Author.Rules.{rules}
use Rattle.running_sum.proofs.Checks.{put_is}
use Rattle.running_sum.proofs.RunningSum.sum_with.Goals as goal

pub returns-in_err-sum_check : goal.returns-in_err-sum_check
returns-in_err-sum_check c = rw (put_is c.args.self c.args.word, ← c.in_err-sum_check.ensures) (search rules)

pub returns-in_err-depth_check : goal.returns-in_err-depth_check
returns-in_err-depth_check c =
    rw (put_is c.args.self c.args.word, ← c.in_ok-sum_check.ensures, ← c.in_err-depth_check.ensures) (search rules)

pub returns-in_err-answer : goal.returns-in_err-answer
returns-in_err-answer c =
    rw (← c.sum-answer.ensures, c.in_err-answer.was, put_is c.args.self c.args.word, ← c.in_ok-sum_check.ensures, ← c.in_ok-depth_check.ensures) (search rules)

pub returns : goal.returns
returns c =
    rw (← c.sum-answer.ensures, c.in_ok-answer.was, put_is c.args.self c.args.word, ← c.in_ok-sum_check.ensures, ← c.in_ok-depth_check.ensures)
