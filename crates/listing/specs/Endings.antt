-- What a run of the program leaves on its output, by how it ended.
use Rattle.std.specs.Prelude.{◌≡◌, ◌≢◌, ◌<◌, ◌+◌, ℕ, Option, List, length, take}
use Rattle.std.specs.Io.KnownBytes.{Appends, Keeps}
use Rattle.words.specs.Outcomes.{Done}
use Rattle.block_file.specs.Layout.{longest_file}
use Rattle.listing_text.specs.Listing.{listing, list_check}
use Rattle.listing.specs.declared.whole_io.End.TheVariants.{Whole, Stuck}
use Rattle.listing.specs.declared.Ended.{Ended}
use Rattle.listing.specs.declared.Ended.TheVariants.{Listed, Refused, NotRead, NotWritten}

-- what is read of an input: one byte more than the longest good file tells that it is longer
abbrev pub read_of : List ℕ → List ℕ
read_of input = take (longest_file + 1) input

-- a file's listing stands behind what the output had; nothing does, where a read failed; and a part
-- of it, where a write failed or took nothing
abbrev pub LeavesListing : Ended → List ℕ → Option (List ℕ) → Option (List ℕ) → Type 0
LeavesListing Listed file old new = (list_check file ≡ Done) × Appends old new (listing file)
LeavesListing Refused file old new = (list_check file ≢ Done) × Appends old new (listing file)
LeavesListing (NotRead end) file old new = (end ≢ Whole) × (end ≢ Stuck) × Keeps old new
LeavesListing (NotWritten end) file old new =
    (end ≢ Whole)
    × ((n : ℕ) × (n < length (listing file)) × Appends old new (take n (listing file)))
