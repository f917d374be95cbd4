use Prim.Native.Nat.{◌+◌, ◌-◌, ◌*◌, ◌^◌, ◌≤◌}
use native.Mathlib.Omega.{arith}
use native.Mathlib.Nat.{mul-le-mul, le_trans}
use mathlib.Core.Path.{◌≡◌, sym}
use lib.IntN.{ℤ}
use lib.Pow.{pow-add, pow_mono}
use lib.Signed.{mag}
use mir.Facts.{to_z-of_z}
use Rattle.words.specs.declared.Format.{Format}
use Rattle.words.specs.Formats.{answer_check}
use Rattle.words.specs.Outcomes.{Done}
use Rattle.words.proofs.Given.{ok_given}
use Rattle.words.proofs.Laws.{Right, half_unit_right, machine}
use Rattle.words.proofs.Formats.{answer_right}
use Rattle.half_unit.specs.Arithmetic.{product_format}
use Rattle.half_unit.proofs.product_word.Goals as goal

-- n + m ≤ 63: the sizes' product is far inside an i64
room : (f g : Format) (x y : ℤ) → Right f x 0 → Right g y 0 → answer_check (product_format f g) ≡ Done → (mag x + 1) * (mag y + 1) ≤ 2 ^ 61
room f g x y p q e =
    let i = f.width - 1 in
    let j = g.width - 1 in
    let w = (answer_right (product_format f g) (omega (arith, p.format.narrow)) e).wide in
    let a : mag x + 1 ≤ 2 ^ i = omega (arith, p.size) in
    let b : mag y + 1 ≤ 2 ^ j = omega (arith, q.size) in
    let s : (mag x + 1) * (mag y + 1) ≤ 2 ^ (i + j) = rw (pow-add 2 i j) (mul-le-mul a b) in
    le_trans s (pow_mono {i = i + j} {j = 61} (omega (arith, w, p.format.narrow, q.format.narrow)))

pub multiplied-requires : goal.multiplied-requires
multiplied-requires c =
    let p = half_unit_right c.args.x (sym c.in_ok-check.ensures) in
    let q = half_unit_right c.args.y (sym c.in_ok-check-2.ensures) in
    rw (to_z-of_z (machine p), to_z-of_z (machine q)) (room _ _ _ _ p q (ok_given _ _ _ c.in_ok-format.ensures).0)
