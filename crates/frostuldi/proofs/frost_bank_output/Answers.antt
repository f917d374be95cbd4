use Prim.Native.Nat.{◌%◌, ◌≤◌}
use native.Mathlib.Omega.{arith}
use mathlib.Core.Path.{◌≡◌, ap, ◌∙◌}
use Rattle.filter_bank.specs.Bank.{row_of, output_of}
use Rattle.filter_bank.proofs.Checked.{taps_alone}
use Rattle.frostuldi.specs.Boundary.{bank_in, window_in}
use Rattle.frostuldi.proofs.frost_bank_output.Goals as goal

pub returns : goal.returns
returns c =
    let a = c.args in
    let bank = bank_in a.bank in
    let window = window_in a.window in
    let n = a.channel in
    let own : n ≤ 3 → row_of bank (n % 4) ≡ row_of bank n = λ h. ap (row_of bank) (omega arith) in
    let same = taps_alone (row_of bank (n % 4)) (row_of bank n) window n own in
    let answer : c.channel_output.result ≡ output_of bank window n =
    c.channel_output.ensures ∙ rw (c.eight_in.ensures, c.row_in-taps.ensures) same
    in
    rw (c.into.ensures, answer)
