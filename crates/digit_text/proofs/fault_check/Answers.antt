use mathlib.Core.Path.{◌≡◌, ◌∙◌}
use Rattle.std.proofs.Common.{rules, Err}
use Rattle.digit_text.proofs.Places.{byte_told, repeat_told}
use Rattle.digit_text.proofs.fault_check.Goals as goal

pub returns-in_err-fault_at : goal.returns-in_err-fault_at
returns-in_err-fault_at c =
    let e : c.from_residual.result ≡ Err c.in_err-fault_at.field-0.0 = search rules in
    e ∙ byte_told _ _ (rw c.strange_place.ensures at c.in_err-fault_at.ensures)

pub returns : goal.returns
returns c = rw (c.fault_at-2.ensures, c.repeat_place.ensures) (repeat_told _ (rw c.strange_place.ensures at c.in_ok-fault_at.ensures))
