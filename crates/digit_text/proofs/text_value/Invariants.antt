use mathlib.Core.Path.{◌≡◌}
use lib.ListN.{take}
use Rattle.digit_text.specs.Digits.{text_value}
use Rattle.digit_text.proofs.text_value.Given as goal

abbrev pub invariant-loop-b : goal.invariant-loop-b
invariant-loop-b l = l.value ≡ text_value (take l.b-index l.text)
