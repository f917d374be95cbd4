use mir.Syntax.{w64}
use mir.Val.{SFits}
use mir.Facts.{to_z-of_z}
use Rattle.words.specs.Formats.{answer_check}
use Rattle.filter_bank.proofs.Rows.{first_unit}
use Rattle.filter_bank.proofs.Row.sum_format.Goals as goal

pub returns : goal.returns
unfolding answer_check
returns c =
    let u : SFits w64 c.units_multiplied.result = record { sfits = c.units_multiplied.type_inv } in
    rw (
      ← c.in_ok-check.ensures,
      c.formed.ensures,
      to_z-of_z u,
      c.units_multiplied.ensures,
      first_unit c.args.self.now.taps,
      first_unit c.args.self.now.window,
    )
