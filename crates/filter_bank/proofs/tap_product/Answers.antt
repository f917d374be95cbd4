use mathlib.Core.Path.{◌≡◌, ◌∙◌}
use mir.Syntax.{w64}
use mir.Val.{SFits, to_z, of_z}
use mir.Facts.{to_z-of_z}
use lib.IntN.{ℤ, pos, ◌+ℤ◌}
use borrow.Author.Rules.{rules}
use Rattle.filter_bank.proofs.Times.{product_made}
use Rattle.filter_bank.proofs.tap_product.Goals as goal

-- an i64, as the machine has it
as_is : (x y : ℤ) → SFits w64 x → x ≡ y → to_z w64 (of_z w64 x) ≡ y
as_is x y f e = to_z-of_z f ∙ e

pub returns : goal.returns
returns c =
    let t = c.args.t in
    let s = c.args.s in
    let x = as_is c.worth.result (t.number.0 +ℤ pos t.number.1) (record { sfits = c.worth.type_inv }) (search rules) in
    let y = as_is c.worth-2.result (s.number.0 +ℤ pos s.number.1) (record { sfits = c.worth-2.type_inv }) (search rules) in
    rw c.from.ensures (product_made t.number s.number c.requires.0 t.bit c.requires.1 s.bit _ _ _ x y c.product_bit-bit.ensures)
