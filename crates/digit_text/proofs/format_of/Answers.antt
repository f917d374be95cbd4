use mathlib.Core.Path.{◌≡◌, sym, ◌∙◌}
use lib.ListN.{length}
use Rattle.std.proofs.Common.{rules}
use Rattle.words.specs.Refusals.{format_check}
use Rattle.words.specs.Formats.{format}
use Rattle.words.specs.declared.Format.{Format}
use Rattle.digit_text.proofs.Places.{untold, format_told}
use Rattle.digit_text.proofs.format_of.Goals as goal

pub returns-in_err-map_err : goal.returns-in_err-map_err
unfolding format_check
returns-in_err-map_err c =
    let f : Format = format (length c.args.text.now) c.args.unit in
    let e : c.from_residual.result ≡ untold (format_check f) f = search rules in
    e ∙ sym (format_told c.args.text.now f f)
