-- What fills the buffer, or ends before, is the front of the input.
use Rattle.std.proofs.Common.{◌≡◌, ◌≤◌, ◌<◌, ◌+◌, ℕ, Option, None, Some, IfSome, List, [], ◌++◌, take, length, subst, sym, ap, ◌∙◌, append-nil, rules, inl, inr}
use Rattle.std.proofs.Math.Nat.{eq-or-lt_of_le}
use Rattle.std.proofs.Math.Seq.{take-append_seam}
use Rattle.std.proofs.lemmas.List.{take_all}
use Rattle.std.specs.Io.KnownBytes.{Consumes, IsAtEnd}
use Rattle.block_file.specs.Versions.{number_size, record_size}
use Rattle.block_file.specs.Layout.{layout_of, file_size, longest_file}
use Rattle.listing.specs.Endings.{LeavesListing}
use Rattle.listing.proofs.list_file.Goals as goal

front_is : (bs more : List ℕ) (room : ℕ) → length bs ≤ room → (length bs < room → more ≡ []) → take room (bs ++ more) ≡ bs
front_is bs more room within ended = elim (eq-or-lt_of_le within) [
  | inl full ↦ ap (λ n. take n (bs ++ more)) (sym full) ∙ take-append_seam bs more
  | inr less ↦ ap (λ l. take room (bs ++ l)) (ended less) ∙ ap (take room) (append-nil bs) ∙ take_all room bs within
]

front_read : (a b : Option (List ℕ)) (bs : List ℕ) (room : ℕ) (P : List ℕ → Type 0) →
    Consumes a b bs → length bs ≤ room → (length bs < room → IsAtEnd b) → P bs → IfSome a (λ xs. P (take room xs))
front_read None b bs room P read within ended p = tt
front_read (Some xs) None bs room P read within ended p = absurd read
front_read (Some xs) (Some ys) bs room P read within ended p =
    subst P (sym (ap (take room) read ∙ front_is bs ys room within ended)) p

pub returns-in-Whole : goal.returns-in-Whole
unfolding layout_of record_size number_size file_size
returns-in-Whole g c =
    let read = c.read_to_end-run.ensures in
    let old = g.W.Write.contents c.args.out.now in
    let new = g.W.Write.contents c.write_listing.new.out in
    front_read _ _ _ (longest_file + 1) (λ file. LeavesListing c.write_listing.result file old new)
    read.bytes (search rules) (search rules) c.write_listing.ensures
