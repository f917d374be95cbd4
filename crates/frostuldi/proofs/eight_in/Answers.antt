use native.Mathlib.Omega.{arith}
use mathlib.Core.Path.{◌≡◌, sym, ◌∙◌}
use lib.IntN.{pos}
use lib.ListN.{get_or, get_or-map, length-map}
use Rattle.std.proofs.Common.{rules}
use Rattle.std.proofs.lemmas.List.{ext_get_or}
use Rattle.frostuldi.specs.Boundary.{round_bit_in}
use Rattle.frostuldi.specs.declared.FrostRoundBit.{FrostRoundBit}
use Rattle.frostuldi.proofs.eight_in.Goals as goal

abbrev nothing : FrostRoundBit
nothing = record { number = pos 0; width = 0; unit = pos 0; round = 0 }

-- each word is what the closure gave for the one at its place
pub returns : goal.returns
returns c =
    let m = c.map.ensures.items in
    ext_get_or (round_bit_in nothing) _ _ (m.long ∙ sym (length-map c.args.w round_bit_in ∙ omega arith)) (λ i h.
    let t = m.at i nothing (round_bit_in nothing) (rw m.long at h) in
    let called = t.2 in
    let e : get_or c.map.result i (round_bit_in nothing) ≡ round_bit_in (get_or c.args.w i nothing) = search rules in
    e ∙ sym (get_or-map round_bit_in c.args.w i nothing))
