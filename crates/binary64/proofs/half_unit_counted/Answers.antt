use mathlib.Core.Path.{sym}
use lib.IntN.{ℤ}
use borrow.Author.Rules.{rules}
use Rattle.words.specs.HalfUnit.{half_unit_word}
use Rattle.words.proofs.Given.{then_is}
use Rattle.binary64.specs.Import.{sample, in_units, nearest_half_odd, half_odd_count}
use Rattle.binary64.specs.Parts.{half_odd_of}
use Rattle.binary64.proofs.Stands.{half_odd_stands, fitted_answer}
use Rattle.binary64.proofs.Checks.{below_pos, import_passed, asked, parts_told}
use Rattle.binary64.proofs.half_unit_counted.Goals as goal

pub in_units-requires : goal.in_units-requires
in_units-requires c = asked c.args.bits c.args.f (search rules) (sym c.in_ok-import_check.ensures)

pub returns : goal.returns
unfolding half_odd_count
returns c =
    let bits = c.args.bits in
    let f = c.args.f in
    let passed = sym c.in_ok-import_check.ensures in
    let p = c.in_units in
    let w = c.half_odd in
    then_is passed
    (fitted_answer (λ (i : ℤ). half_unit_word i f) half_odd_of nearest_half_odd half_odd_stands f (in_units (sample bits) f.unit) p.result w.result _
    (import_passed bits f passed).1.wide (below_pos (sample bits) f.unit) (parts_told bits f.unit (search rules) p.ensures.0) w.ensures (search rules))
