use Rattle.words.proofs.Given.{ok_given, err_given}
use Rattle.running_sum.specs.Steps.{stepped, step_of}
use Rattle.running_sum.proofs.RunningSum.put.Goals as goal
use Rattle.running_sum.proofs.RunningSum.put.Goals.{in-Ok, in_default}

pub returns : goal.returns
unfolding step_of stepped
returns c = elim c.match-sum.branch [
  | in-Ok w ↦
      let p = ok_given _ _ _ w.in-Ok.ensures in
      rw (c.and.ensures, w.sum-is, w.self-is, w.keeping-self.ensures, p.0, p.1)
  | in_default w ↦ rw (c.and.ensures, w.sum-is, w.self-is, w.in_default.is, err_given _ _ _ w.in_default.ensures)
]
