-- Answers laid flat: two that the test takes for the same are the same. Assumes nothing.
-- Proved here: `same_flat_lem`.
use mathlib.Core.Path.{◌≡◌}
use mathlib.Core.Bool.{true, ◌&&◌}
use lib.Dec.{eqb}
use borrow.Author.Tests.{eqb-true}
use Rattle.integers.specs.Numbers.{eq_z}
use Rattle.integers.proofs.Kit.{and_both}
use Rattle.integers.proofs.Width.{eq_z_same}
use Rattle.words.specs.Flat.{Flat, same_flat}

-- the test is taken apart from its last field to its first
pub same_flat_lem : (a b : Flat) → same_flat a b ≡ true → a ≡ b
same_flat_lem a b e =
    let refusal = eqb a.refusal b.refusal in
    let number = eq_z a.number b.number in
    let round = eqb a.round b.round in
    let width = eqb a.width b.width in
    let unit = eq_z a.unit b.unit in
    let u = and_both (refusal && number && round && width) unit e in
    let w = and_both (refusal && number && round) width u.0 in
    let r = and_both (refusal && number) round w.0 in
    let n = and_both refusal number r.0 in
    λ i. record {
      refusal = eqb-true a.refusal b.refusal n.0 i;
      number = eq_z_same a.number b.number n.1 i;
      round = eqb-true a.round b.round r.1 i;
      width = eqb-true a.width b.width w.1 i;
      unit = eq_z_same a.unit b.unit u.1 i;
    }
