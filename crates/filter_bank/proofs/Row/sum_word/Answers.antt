use native.Mathlib.Omega.{arith}
use mathlib.Core.Path.{sym, ◌∙◌}
use Rattle.words.proofs.Given.{ok_given, given_is}
use Rattle.filter_bank.proofs.Summing.{total_format}
use Rattle.filter_bank.proofs.Row.sum_word.Goals as goal

pub returns : goal.returns
returns c =
    let p = ok_given _ _ _ c.in_ok-format.ensures in
    let f = p.1 ∙ sym (total_format c.args.self.now.taps c.args.self.now.window (omega arith) (omega arith)) in
    given_is p.0 (λ i. record { number = c.total.ensures i; format = f i })
