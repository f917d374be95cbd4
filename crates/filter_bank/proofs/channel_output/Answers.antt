use native.Mathlib.Omega.{arith}
use Rattle.words.proofs.Given.{ok_given, err_given}
use Rattle.filter_bank.proofs.Checked.{channel_refused, channel_cut}
use Rattle.filter_bank.proofs.channel_output.Goals as goal

pub returns-in-Err : goal.returns-in-Err
returns-in-Err c =
    rw c.from.ensures (channel_refused c.args.taps c.args.window c.args.channel _ (err_given _ _ _ c.in-Err.ensures))

pub returns-in-Ok : goal.returns-in-Ok
returns-in-Ok c =
    let p = ok_given _ _ _ c.in-Ok.ensures in
    rw (c.cut.ensures, p.1) (channel_cut c.args.taps c.args.window c.args.channel p.0 (omega arith) (omega arith))
