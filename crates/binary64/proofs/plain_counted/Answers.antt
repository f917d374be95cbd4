use mathlib.Core.Path.{◌≡◌, sym, ap, ◌∙◌}
use Rattle.std.specs.Prelude.{Result}
use Prim.Native.Nat.{ℕ, ◌+◌, ◌%◌, ◌^◌, ◌<◌}
use native.Mathlib.Omega.{arith}
use lib.Bits.{bit_or, and_le_r}
use lib.IntN.{ℤ}
use mir.Syntax.{w32}
use mir.Val.{SFits, to_z, of_z}
use borrow.Author.Rules.{rules}
use Rattle.words.specs.Words.{outside}
use Rattle.words.specs.Refusals.{refuse}
use Rattle.words.specs.Plain.{plain_word}
use Rattle.words.specs.Kinds.{PlainWord}
use Rattle.words.specs.declared.Cause.{Cause}
use Rattle.words.specs.declared.Format.{Format}
use Rattle.words.specs.Outcomes.{Done, ◌then◌, given}
use Rattle.words.proofs.Given.{then_is}
use Rattle.binary64.specs.declared.Parts.{Parts}
use Rattle.binary64.specs.Import.{import_check, sample, signed, in_units, nearest_whole, whole_count}
use Rattle.binary64.specs.Parts.{parts_of, nearest_of}
use Rattle.binary64.proofs.Stands.{whole_stands, fitted_answer}
use Rattle.binary64.proofs.Checks.{below_pos, import_passed, asked, parts_told}
use Rattle.binary64.proofs.plain_counted.Goals as goal

-- the count is below 2^63
nearest-small : (p : Parts) → p.whole + p.half < 2 ^ 63 → nearest_of p < 2 ^ 63
unfolding nearest_of
nearest-small p h = omega (arith, h, and_le_r (bit_or p.more (p.whole % 2)) p.half)

pub in_units-p-requires : goal.in_units-p-requires
in_units-p-requires c = asked c.args.bits c.args.f (search rules) (sym c.in_ok-import_check.ensures)

-- what is given a sign has room for it
room : (p : Parts) (n : ℕ) → n ≡ nearest_of p → p.whole + p.half < 2 ^ 63 → (n < 2 ^ 63) × (p.whole < 2 ^ 63)
room p n e h = (rw e (nearest-small p h), omega (arith, h))

pub signed-requires : goal.signed-requires
signed-requires c = omega (arith, room c.in_units-p.result c.nearest-count.result c.nearest-count.ensures c.in_units-p.ensures.1)

pub signed-requires-2 : goal.signed-requires-2
signed-requires-2 c = omega (arith, room c.in_units-p.result c.nearest-count.result c.nearest-count.ensures c.in_units-p.ensures.1)

exact : (bits : ℕ) (f : Format) (p : Parts) (n : ℕ) (x : ℤ) (r : Result PlainWord Cause) → import_check bits f ≡ Done → SFits w32 f.unit →
    p ≡ parts_of (in_units (sample bits) (to_z w32 (of_z w32 f.unit))) → n ≡ nearest_of p → x ≡ signed p.negative n →
    r ≡ given (refuse 8 (outside f x)) (plain_word x f) →
    r ≡ (import_check bits f then given (refuse 8 (outside f (whole_count bits f.unit))) (plain_word (whole_count bits f.unit) f))
unfolding whole_count parts_of
exact bits f p n x r passed unit is counted signed_is a =
    then_is passed
    (fitted_answer (λ (i : ℤ). plain_word i f) (λ (v : Parts). signed v.negative (nearest_of v)) nearest_whole whole_stands f
    (in_units (sample bits) f.unit) p x r (import_passed bits f passed).1.wide (below_pos (sample bits) f.unit) (parts_told bits f.unit unit is)
    (signed_is ∙ ap (signed p.negative) counted) a)

pub returns-in_err-refuse_for : goal.returns-in_err-refuse_for
returns-in_err-refuse_for c =
    let p = c.in_units-p in
    let n = c.nearest-count in
    let x = c.signed in
    exact c.args.bits c.args.f p.result n.result x.result _ (sym c.in_ok-import_check.ensures) (search rules) p.ensures.0 n.ensures x.ensures (search rules)

pub returns : goal.returns
returns c =
    let p = c.in_units-p in
    let n = c.nearest-count in
    let x = c.signed in
    exact c.args.bits c.args.f p.result n.result x.result _ (sym c.in_ok-import_check.ensures) (search rules) p.ensures.0 n.ensures x.ensures (search rules)
