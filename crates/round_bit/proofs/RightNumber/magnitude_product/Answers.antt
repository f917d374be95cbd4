use Prim.Native.Nat.{ℕ, ◌≤◌, ◌<◌, ◌+◌, ◌*◌, ◌^◌}
use mathlib.Core.Path.{◌≡◌, ◌∙◌, ap, sym}
use native.Mathlib.Omega.{arith}
use native.Mathlib.Nat.{mul-le-mul_left}
use lib.IntN.{ℤ, pos, nat_abs}
use Rattle.std.specs.Prelude.{◌≤ℤ◌}
use lib.Signed.{mag}
use mir.Syntax.{w64}
use mir.Val.{SFits, to_z, of_z}
use mir.Facts.{to_z-of_z, to_z_pos}
use borrow.Author.Rules.{rules}
use Rattle.integers.proofs.Machine.{by_cast}
use Rattle.words.specs.declared.RoundBit.{RoundBit}
use Rattle.round_bit.proofs.Magnitudes.{is_pos, magnitude_product_is}
use Rattle.round_bit.proofs.RightNumber.magnitude_product.Goals as goal

-- an operand, which is not negative, as a natural number
as_natural : (x : ℤ) → SFits w64 x → pos 0 ≤ℤ x → nat_abs (to_z w64 (of_z w64 x)) ≡ mag x
as_natural x f h = ap nat_abs (to_z-of_z f ∙ is_pos x h)

-- the operands' product, from what the call of it ensures
product_is : (m n : RoundBit) (p : ℕ) → SFits w64 m.0 → SFits w64 n.0 → pos 0 ≤ℤ m.0 → pos 0 ≤ℤ n.0 →
    p ≡ nat_abs (to_z w64 (of_z w64 m.0)) * nat_abs (to_z w64 (of_z w64 n.0)) + nat_abs (to_z w64 (of_z w64 m.0)) * n.1 + nat_abs (to_z w64 (of_z w64 n.0)) *
    m.1 →
    p ≡ mag m.0 * mag n.0 + mag m.0 * n.1 + mag n.0 * m.1
product_is m n p f g h k e = e ∙ rw (as_natural m.0 f h, as_natural n.0 g k)

product_small : (m n : RoundBit) (p : ℕ) → p ≡ mag m.0 * mag n.0 + mag m.0 * n.1 + mag n.0 * m.1 → m.1 ≤ 1 → n.1 ≤ 1 →
    (mag m.0 + 1) * (mag n.0 + 1) ≤ 2 ^ 62 → p < 2 ^ 63
product_small m n p number b c most =
    omega (arith, number, most, mul-le-mul_left (mag m.0) c, mul-le-mul_left (mag n.0) b)

pub overflow_cast-a : goal.overflow_cast-a
overflow_cast-a c =
    let f : SFits w64 c.args.self.number.0 = search rules in
    by_cast (mag c.args.self.number.0) (to_z-of_z f ∙ is_pos c.args.self.number.0 c.requires.0) (omega (arith, f.sfits))

pub overflow_cast-b : goal.overflow_cast-b
overflow_cast-b c =
    let f : SFits w64 c.args.other.number.0 = search rules in
    by_cast (mag c.args.other.number.0) (to_z-of_z f ∙ is_pos c.args.other.number.0 c.requires.1) (omega (arith, f.sfits))

pub cross_product-p-requires : goal.cross_product-p-requires
cross_product-p-requires c =
    let m = c.args.self in
    let n = c.args.other in
    let f : SFits w64 m.number.0 = search rules in
    let g : SFits w64 n.number.0 = search rules in
    let r = c.requires in
    (m.bit, n.bit, rw (as_natural m.number.0 f r.0, as_natural n.number.0 g r.1) r.2)

module _ (c : goal.After-cross_product-p) where
  abbrev m : RoundBit
  m = c.args.self.number

  abbrev n : RoundBit
  n = c.args.other.number

  number : c.cross_product-p.result ≡ mag m.0 * mag n.0 + mag m.0 * n.1 + mag n.0 * m.1
  number = product_is m n _ (search rules) (search rules) c.requires.0 c.requires.1 c.cross_product-p.ensures

  small : c.cross_product-p.result < 2 ^ 63
  small = product_small m n _ number c.args.self.bit c.args.other.bit c.requires.2

pub overflow_cast-result : goal.overflow_cast-result
overflow_cast-result c = record { sfits = small c }

pub returns : goal.returns
returns c =
    let s = c.before in
    rw (to_z_pos w64 (small s), number s) (sym (magnitude_product_is (m s) (n s) c.requires.0 c.requires.1))
