use Prim.Native.Nat.{ℕ, ◌+◌, ◌-◌, ◌≤◌}
use native.Mathlib.Omega.{arith}
use mathlib.Core.Path.{◌≡◌, ap, ◌∙◌}
use lib.IntN.{ℤ}
use mir.Syntax.{w64}
use mir.Val.{SFits}
use mir.Facts.{to_z-of_z}
use borrow.Author.Rules.{rules}
use Rattle.integers.specs.Numbers.{floor_by}
use Rattle.words.specs.Outcomes.{Done}
use Rattle.words.specs.Kinds.{RoundBitWord}
use Rattle.words.proofs.Laws.{small}
use Rattle.words.proofs.Formats.{digits_left}
use Rattle.words.proofs.Given.{ok_given, given_is}
use Rattle.round_bit.specs.Cuts.{cut_by, cut_check, even_round_bit}
use Rattle.round_bit.proofs.Checks.{cut_made, cut_bit}
use Rattle.round_bit.proofs.Laws.Cuts.{cut_tells}
use Rattle.round_bit.proofs.even_cut_word.Goals as goal

depth : (w : RoundBitWord) (d : ℕ) → cut_check w d ≡ Done → d - 1 ≤ 60
depth w d e = let t = cut_tells w d e in omega (arith, digits_left w.format d t.1, t.0.format.wide)

one_more : (x : ℤ) (d : ℕ) → (d ≡ 0 → ⊥) → floor_by x d ≡ floor_by x (d - 1 + 1)
one_more x d h = ap (floor_by x) (omega arith)

pub invariant_of-n : goal.invariant_of-n
invariant_of-n c =
    record { bit = (cut_tells c.args.w c.args.d (ok_given _ _ _ c.in_ok-format.ensures).0).0.bit }

pub even_round_bit-even-requires : goal.even_round_bit-even-requires
even_round_bit-even-requires c =
    let w = c.args.w in
    let e : cut_check w c.args.d ≡ Done = (ok_given _ _ _ c.in_ok-format.ensures).0 in
    let x : SFits w64 w.number.0 = search rules in
    let q : SFits w64 c.floor_by-q.result = record { sfits = c.floor_by-q.type_inv } in (
      depth w c.args.d e,
      small (cut_tells w c.args.d e).0,
      to_z-of_z q ∙ c.floor_by-q.ensures ∙ rw (to_z-of_z x) (one_more w.number.0 c.args.d c.if-d-eq0.false),
    )

pub returns-then-d-eq0 : goal.returns-then-d-eq0
unfolding cut_by
returns-then-d-eq0 c =
    let w = c.args.w in
    let p = ok_given _ _ _ c.in_ok-format.ensures in
    let x : SFits w64 w.number.0 = search rules in
    let q = c.floor_by-q in
    let even = even_round_bit w.number.1 in
    given_is p.0 (cut_made even w c.args.d _ _ _ x p.1 (record { sfits = q.type_inv }) q.ensures (rw c.if-d-eq0.true))

pub returns-else-d-eq0 : goal.returns-else-d-eq0
returns-else-d-eq0 c =
    let w = c.args.w in
    let p = ok_given _ _ _ c.in_ok-format.ensures in
    let x : SFits w64 w.number.0 = search rules in
    let q = c.floor_by-q in
    let even = even_round_bit w.number.1 in
    let bit = cut_bit even w c.args.d _ c.if-d-eq0.false x (c.even_round_bit-even.ensures ∙ rw (to_z-of_z x)) in
    given_is p.0 (cut_made even w c.args.d _ _ _ x p.1 (record { sfits = q.type_inv }) q.ensures bit)
