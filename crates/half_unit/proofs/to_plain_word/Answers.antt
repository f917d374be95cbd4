use native.Mathlib.Omega.{arith}
use mir.Facts.{to_z-of_z}
use Rattle.words.proofs.Given.{ok_given}
use Rattle.words.proofs.Laws.{small, machine}
use Rattle.words.proofs.Operands.{wider_right}
use Rattle.half_unit.proofs.to_plain_word.Goals as goal

pub doubled-requires : goal.doubled-requires
doubled-requires c =
    let g = (wider_right _ _ _ _ (ok_given _ _ _ c.in_ok-format.ensures).0).0 in
    (rw (to_z-of_z (machine g)) (small g), omega arith)
