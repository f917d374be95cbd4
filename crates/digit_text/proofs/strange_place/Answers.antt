use Rattle.std.proofs.Common.{rules, tests}
use Rattle.std.proofs.lemmas.Iterator.{YieldsList-from_slice}
use Rattle.std.proofs.lemmas.Iterator.Search.{position_from_yields_List}
use Rattle.digit_text.specs.Reading.{strange}
use Rattle.digit_text.proofs.Places.{strange_position}
use Rattle.digit_text.proofs.strange_place.Goals as goal

pub returns : goal.returns
returns c =
    let t = c.args.text.now in
    let ran = c.position.ensures.ran in
    let found = position_from_yields_List strange _ _ c.position.result ran (YieldsList-from_slice t (cc)) (λ x b q k. search (rules, tests)) in
    rw (← strange_position t, ← found) (search rules)
