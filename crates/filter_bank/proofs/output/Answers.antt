use Prim.Native.Nat.{◌%◌, ◌≤◌}
use native.Mathlib.Omega.{arith}
use mathlib.Core.Path.{◌≡◌, ap, ◌∙◌}
use Rattle.filter_bank.specs.Bank.{row_of}
use Rattle.filter_bank.proofs.Checked.{taps_alone}
use Rattle.filter_bank.proofs.output.Goals as goal

pub returns : goal.returns
returns c =
    let n = c.args.channel in
    let same : n ≤ 3 → row_of c.args.bank (n % 4) ≡ row_of c.args.bank n = λ h. ap (row_of c.args.bank) (omega arith) in
    c.channel_output.ensures ∙ taps_alone _ (row_of c.args.bank n) c.args.window n same
