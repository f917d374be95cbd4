use mathlib.Core.Path.{◌≡◌}
use Prim.Native.Nat.{◌*◌, ◌-◌, ◌%◌, ◌^◌, ◌≤◌, min}
use native.Mathlib.Omega.{arith}
use native.Mathlib.Nat.{mul-le-mul}
use lib.Pow.{pow_mono}
use Rattle.binary64.specs.Parts.{too_many}
use Rattle.binary64.proofs.Split.{raised_parts}
use Rattle.binary64.proofs.Scaled.raised.Goals as goal

pub returns-then-l-gt10 : goal.returns-then-l-gt10
returns-then-l-gt10 c =
    let a = c.args in
    let large : 2 ^ 52 * 2 ^ 11 ≤ a.self.significand * 2 ^ a.l = mul-le-mul c.requires (pow_mono {i = 11} {j = a.l} (omega arith)) in
    let most : min (a.self.significand * 2 ^ a.l) too_many ≡ too_many = omega arith in
    rw (raised_parts a.self.negative (a.self.significand * 2 ^ a.l), most)

pub returns-else-l-gt10 : goal.returns-else-l-gt10
returns-else-l-gt10 c =
    let a = c.args in
    let under : a.self.significand ≤ 2 ^ 53 - 1 = omega (arith, c.args.self.short) in
    let small : a.self.significand * 2 ^ a.l ≤ (2 ^ 53 - 1) * 2 ^ 10 = mul-le-mul under (pow_mono {i = a.l} {j = 10} (omega arith)) in
    let same : (a.self.significand * 2 ^ a.l) % 2 ^ 64 ≡ a.self.significand * 2 ^ a.l = omega arith in
    let all : min (a.self.significand * 2 ^ a.l) too_many ≡ a.self.significand * 2 ^ a.l = omega arith in
    rw (raised_parts a.self.negative (a.self.significand * 2 ^ a.l), all, same)
