-- What is taken so far is the front of the text.
use Rattle.std.proofs.Common.{◌≡◌, ℕ, ◌+◌, ◌≤◌, List, ◌++◌, arith, length, length-drop, take, slice_range, sym, ap, ◌∙◌, subst}
use Rattle.std.proofs.lemmas.List.{take_rest}
use Rattle.std.proofs.Math.Seq.{take-add}
use Rattle.std.specs.Io.KnownBytes.{Appends}
use Rattle.std.proofs.KnownBytes.{Appends-trans}
use Rattle.listing.proofs.whole_io.write_whole.Goals as goal

-- n more, of what is behind the front
front_more : (at n : ℕ) (xs : List ℕ) → at ≤ length xs → n ≤ length (slice_range xs at (length xs))
    → (at + n ≤ length xs) × (take at xs ++ take n (slice_range xs at (length xs)) ≡ take (at + n) xs)
front_more at n xs within fits =
    let rest = take_rest xs at in (
      omega (arith, ap length rest, length-drop at xs),
      ap (λ l. take at xs ++ take n l) rest ∙ sym (take-add at n xs),
    )

pub loop-count-preserved : goal.loop-count-preserved
loop-count-preserved g c =
    let put = c.in-Ok.ensures in
    let before = c.loop-count.invariant in
    let more = front_more c.loop-count.count c.in-Ok.n c.args.text.now before.0 put.bound in
    (more.0, subst (Appends _ _) more.1 (Appends-trans _ _ _ _ _ before.1 put.bytes))
