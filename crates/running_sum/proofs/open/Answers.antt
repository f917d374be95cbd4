use mir.Facts.{to_z-of_z}
use Rattle.words.proofs.Given.{ok_given, err_given}
use Rattle.running_sum.specs.Steps.{open_answer, open_of}
use Rattle.running_sum.proofs.open.Goals as goal

pub returns-in-Ok : goal.returns-in-Ok
unfolding open_of open_answer
returns-in-Ok c =
    let p = ok_given _ _ _ (rw (to_z-of_z c.ranges.unit) at c.in-Ok.ensures) in
    rw (p.0, p.1)

pub returns-in-Err : goal.returns-in-Err
unfolding open_of open_answer
returns-in-Err c = rw (err_given _ _ _ (rw (to_z-of_z c.ranges.unit) at c.in-Err.ensures), c.blank.ensures)
