use Rattle.running_sum.specs.Steps.{stepped, step_of}
use Rattle.running_sum.proofs.RunningSum.empty.Goals as goal

pub returns-in-Err : goal.returns-in-Err
unfolding step_of stepped
returns-in-Err c = rw (c.refused.ensures, ← c.in-Err.ensures)

pub returns : goal.returns
unfolding step_of stepped
returns c = rw (← c.in_default.ensures, c.keeping-self.ensures)
