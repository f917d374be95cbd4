-- The buffer holds any listing, so `list` never refuses here: what is handed on is the listing, whole, and its
-- first byte tells whether the file was refused.
use Rattle.std.specs.Prelude.{Ok, Err}
use Rattle.std.proofs.Common.{ℕ, ℤ, Bool, false, ◌≡◌, refl, sym, List, ◌++◌, length, take, take_at, get_or, eqb, le-ltb, append_assoc, arith}
use Rattle.integers.specs.Lists.{at_front}
use Rattle.io.proofs.Counting.{prefix_len_of_le}
use Rattle.words.specs.Outcomes.{Outcome}
use Rattle.words.specs.Outcomes.{Done, Refused}
use Rattle.words.specs.declared.WriteAnswer.{WriteAnswer}
use Rattle.words.specs.Refusals.{write_answer, lent_after}
use Rattle.block_file.specs.declared.Head.{Head}
use Rattle.block_file.specs.Kinds.{KindRow, kind_row}
use Rattle.block_file.proofs.Laws.Kinds.{each_row}
use Rattle.listing_text.specs.Listing.{listing, longest_listing, listed, list_check, head_line, refused_line, room_check, list_of, text_after}
use Rattle.listing_text.proofs.Laws.Lengths.{longest_listing_lem}
use Rattle.listing.proofs.list_into.Goals as goal

abbrev Begins : KindRow → Type 0
Begins row = (more : List ℕ) → eqb (get_or (row.name ++ more) 0 0) 114 ≡ false

-- no kind's name begins as a refusal does
first-of-kind : (byte : ℕ) → Begins (kind_row byte)
first-of-kind = each_row Begins ((λ more. refl), ((λ more. refl), ((λ more. refl), record {})))

abbrev tells : List ℕ → Bool
tells text = eqb (get_or text 0 0) 114

first_of : (o : Outcome) (h : Head) (x : ℕ → ℤ) (r : ℕ → ℕ) (more : List ℕ) →
    (tells (listed o h x r ++ more) ≡ false → o ≡ Done) × (o ≡ Done → tells (listed o h x r ++ more) ≡ false)
unfolding listed head_line refused_line
first_of (Ok _) h x r more = (λ e. refl, λ e. simp append_assoc (first-of-kind _ _))
first_of (Err c) h x r more = (λ e. cc, λ e. cc)

module _ (file text : List ℕ) (long : length text ≡ longest_listing) where
  roomy : room_check file (length text) ≡ Done
  unfolding room_check
  roomy = rw (le-ltb (length text) (length (listing file)) (omega (arith, longest_listing_lem file)))

  count-is : (a : WriteAnswer) → a ≡ list_of file (length text) → a.count ≡ length (listing file)
  unfolding list_of write_answer
  count-is a e = rw (e, roomy)

  text_is : text_after file text ≡ at_front (listing file) text
  unfolding text_after lent_after
  text_is = rw roomy

  whole : (a : WriteAnswer) → a ≡ list_of file (length text) → take a.count (text_after file text) ≡ listing file
  whole a e = rw text_is (take_at (listing file) _ a.count (sym (count-is a e)))

  told : (tells (text_after file text) ≡ false → list_check file ≡ Done) × (list_check file ≡ Done → tells (text_after file text) ≡ false)
  unfolding listing
  told = rw text_is (first_of (list_check file) _ _ _ _)

pub returns : goal.returns
returns c =
    let file = c.args.file.now in
    let text = c.args.text.now in
    let long : length text ≡ longest_listing = c.told-text in
    let count = count-is file text long _ c.list-a.ensures.value in
    let after = c.list-a.ensures.text_new in
    let first = told file text long in
    record {
      prefix_len = prefix_len_of_le _ _ (omega (arith, longest_listing_lem file, count, long, c.list-a.auto.text));
      text_new = rw after (whole file text long _ c.list-a.ensures.value);
      file_value = rw after first.0;
      refused_value = rw after first.1;
    }
