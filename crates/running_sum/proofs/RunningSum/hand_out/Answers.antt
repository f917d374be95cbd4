use mir.Syntax.{w64}
use mir.Val.{SFits}
use mir.Facts.{to_z-of_z}
use Rattle.words.proofs.Given.{ok_given, err_given}
use Rattle.running_sum.specs.Steps.{stepped, step_of}
use borrow.Author.Rules.{rules}
use Rattle.running_sum.proofs.RunningSum.hand_out.Goals as goal

pub returns-in-Err : goal.returns-in-Err
unfolding step_of stepped
returns-in-Err c = rw (c.refused.ensures, err_given _ _ _ c.in-Err.ensures)

pub returns-in-Ok : goal.returns-in-Ok
unfolding step_of stepped
returns-in-Ok c =
    let p = ok_given _ _ _ c.in-Ok.ensures in
    let rest : SFits w64 c.in-Ok.field-0.rest.number.0 = search rules in
    rw (p.0, c.keeping-self.ensures, to_z-of_z rest, p.1)
