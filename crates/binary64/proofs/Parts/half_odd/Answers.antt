use mathlib.Core.Path.{◌≡◌, sym, ap, ◌∙◌}
use mathlib.Core.Bool.{Bool, true, false, cond}
use lib.Bits.{bit_or}
use lib.IntN.{pos}
use mir.Syntax.{w64}
use mir.Val.{SFits}
use mir.Facts.{to_z_pos, to_z-of_z}
use borrow.Author.Tests.{eq-eqb, ne_eqb}
use Rattle.integers.specs.Numbers.{turned, cleared}
use Rattle.integers.proofs.Kit.{ints}
use Rattle.integers.proofs.Machine.{turned_machine}
use Rattle.binary64.specs.declared.Parts.{Parts}
use Rattle.binary64.specs.Import.{signed}
use Rattle.binary64.specs.Parts.{half_odd_of}
use Rattle.binary64.proofs.Parts.half_odd.Goals as goal

-- the definition, by how the two tests fall
whole-case : (p : Parts) → bit_or p.half p.more ≡ 0 → half_odd_of p ≡ cleared (signed p.negative p.whole)
unfolding half_odd_of
whole-case p e = rw (eq-eqb (bit_or p.half p.more) 0 e)

between-case : (p : Parts) (b : Bool) → (bit_or p.half p.more ≡ 0 → ⊥) → p.negative ≡ b → half_odd_of p ≡ cond b (turned (pos p.whole)) (pos p.whole)
unfolding half_odd_of
between-case p b n e = rw (ne_eqb (bit_or p.half p.more) 0 n, e)

pub returns-then-behind-eq0 : goal.returns-then-behind-eq0
returns-then-behind-eq0 c =
    let p = c.args.self in
    let sign = to_z-of_z {w = w64} (record { sfits = c.signed.type_inv }) ∙ c.signed.ensures in
    to_z-of_z {w = w64} (record { sfits = c.cleared.type_inv }) ∙ c.cleared.ensures ∙ ap cleared sign ∙ sym (whole-case p c.if-behind-eq0.true)

pub returns-then-self : goal.returns-then-self
returns-then-self c =
    let n = c.args.self.whole in
    let small : SFits w64 (pos n) = omega (ints, c.requires) in
    rw (turned_machine small) (sym (between-case c.args.self true c.if-behind-eq0.false c.if-self.true))

pub returns-else-self : goal.returns-else-self
returns-else-self c =
    to_z_pos w64 c.requires ∙ sym (between-case c.args.self false c.if-behind-eq0.false c.if-self.false)
