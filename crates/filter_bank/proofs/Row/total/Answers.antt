use native.Mathlib.Omega.{arith}
use mathlib.Core.Path.{sym}
use Rattle.filter_bank.proofs.Summing.{times_small, first_kept, next_kept, all_kept}
use Rattle.filter_bank.proofs.Row.total.Goals as goal

pub loop-i-init : goal.loop-i-init
loop-i-init c = rw c.product-sum.ensures (first_kept c.args.self.now.taps c.args.self.now.window c.requires (omega arith) (omega arith))

pub summed-sum-requires : goal.summed-sum-requires
summed-sum-requires c =
    let l = c.loop-i in
    let p = times_small c.args.self.now.taps c.args.self.now.window c.requires (omega arith) (omega arith) l.i (omega arith) in
    (omega (arith, l.invariant.size), rw c.product.ensures (omega (arith, p.size)))

pub loop-i-preserved : goal.loop-i-preserved
loop-i-preserved c =
    let l = c.loop-i in
    let k = next_kept c.args.self.now.taps c.args.self.now.window c.requires (omega arith) (omega arith) l.i l.sum (omega arith) l.invariant in
    rw (c.summed-sum.ensures, c.product.ensures) k

pub returns : goal.returns
returns c =
    let l = c.loop-i in
    sym (all_kept c.args.self.now.taps c.args.self.now.window c.requires (omega arith) (omega arith) l.i l.sum (omega arith) l.invariant)
