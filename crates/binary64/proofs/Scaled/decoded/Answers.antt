use Rattle.binary64.proofs.Fields.{subnormal_bits, normal_bits}
use Rattle.binary64.proofs.Scaled.decoded.Goals.{then-field-eq0, else-field-eq0}
use Rattle.binary64.proofs.Scaled.decoded.Goals as goal

pub returns : goal.returns
returns c =
    elim c.if-field-eq0.branch [
      | then-field-eq0 w ↦ rw w.lead-is (subnormal_bits c.args.bits c.field-field.ensures w.if-field-eq0.true)
      | else-field-eq0 w ↦ rw w.lead-is (normal_bits c.args.bits c.field-field.ensures w.if-field-eq0.false c.requires)
    ]
