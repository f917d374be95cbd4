-- What is read so far is the front of the buffer.
use Rattle.std.proofs.Common.{◌≡◌, ℕ, ◌+◌, ◌-◌, ◌≤◌, List, ◌++◌, rules, length, take, sym, ap, ◌∙◌, subst, length-take-le}
use Rattle.std.proofs.Math.Seq.{take-append-add}
use Rattle.std.proofs.lemmas.List.{take-append-le}
use Rattle.std.specs.Io.KnownBytes.{Consumes}
use Rattle.std.proofs.KnownBytes.{Consumes-trans}
use borrow.Rule.Slice.PartMut.{put_mid, post_of}
use Rattle.listing.proofs.whole_io.read_to_end.Goals as goal

-- the front of a list behind which part is put
front_put : (at n : ℕ) (old part : List ℕ) → at ≤ length old → n ≤ length part
    → take at old ++ take n part ≡ take (at + n) (put_mid at (length old - at) old part)
front_put at n old part within fits =
    let behind = part ++ post_of at (length old - at) old in
    let front = ap (λ m. take (m + n) (take at old ++ behind)) (sym (length-take-le at old within)) in
    let more = take-append-le n part (post_of at (length old - at) old) fits in
    sym (front ∙ take-append-add (take at old) behind n ∙ ap (λ l. take at old ++ l) more)

pub loop-count-preserved : goal.loop-count-preserved
loop-count-preserved g c =
    let read = c.in-Ok.ensures in
    let before = c.loop-count.invariant in (
      search rules,
      search rules,
      subst (Consumes _ _) (front_put c.loop-count.count c.in-Ok.n c.loop-count.buf c.read_once.new.buf before.1 read.bound.0)
          (Consumes-trans _ _ _ _ _ before.2 read.bytes.0),
    )
