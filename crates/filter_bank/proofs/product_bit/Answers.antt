use mir.Syntax.{w64}
use mir.Val.{SFits}
use mir.Facts.{to_z-of_z}
use Rattle.integers.proofs.ExactlyOne.{exactly_one_lem}
use Rattle.round_bit.specs.Arithmetic.{negative}
use Rattle.filter_bank.proofs.Times.{product_bit_is}
use borrow.Author.Rules.{rules}
use Rattle.filter_bank.proofs.product_bit.Goals as goal

pub returns : goal.returns
returns c =
    let t = c.args.t in
    let s = c.args.s in
    let f : SFits w64 t.number.0 = search rules in
    let g : SFits w64 s.number.0 = search rules in
    rw (
      c.magnitude_bit.ensures,
      c.magnitude_bit-2.ensures,
      c.from.ensures,
      to_z-of_z f,
      to_z-of_z g,
      exactly_one_lem (negative t.number) (negative s.number),
    )
    (product_bit_is t.number s.number t.bit)
