-- Document 02, Ask 8, "Cuts and sign changes mixed", of round-bit words. What a run is, and what is
-- claimed of its end, stands once for both kinds of word, in specs/Moves.antt of `words`.
use Rattle.std.specs.Prelude.{ℕ, suc, ◌+◌, ◌≡◌, List}
use Rattle.words.specs.Outcomes.{Done}
use Rattle.words.specs.Kinds.{RoundBitWord}
use Rattle.words.specs.RoundBit.{round_bit_value, round_bit_check}
use Rattle.words.specs.Moves.{Move, cut, sign_change, Moved, ran_by, Within, ClaimedBy}
use Rattle.round_bit.specs.Cuts.{sign_change_of, cut_of, even_cut_of}

-- what a move answers is what the operation answers
abbrev pub moved : RoundBitWord → Move → Moved RoundBitWord
moved w (cut d) = record { outcome = (cut_of w d).outcome; word = (cut_of w d).word }
moved w sign_change = record {
  outcome = (sign_change_of w).outcome;
  word = (sign_change_of w).word;
}

abbrev pub ran : RoundBitWord → List Move → Moved RoundBitWord
ran w moves = ran_by moved w moves

-- "within half its unit": exactly half of it is allowed
abbrev pub Near : ℕ → ℕ → Type 0
Near far half = Within far half

-- what is claimed of moves on a word, and of their end
abbrev pub Claimed : RoundBitWord → List Move → Moved RoundBitWord → Type 0
Claimed w moves end = ClaimedBy moved round_bit_value (λ w. w.format) Near w moves end

-- "any run of cuts and sign changes" on a word that 1, 2 and 3 do not refuse
abbrev pub AnyRun : Type 0
AnyRun =
    (w : RoundBitWord) (moves : List Move) → round_bit_check w ≡ Done →
    Claimed w moves (ran w moves)

-- "The even rules are not part of this." If they were, this would have to hold, and does not, see
-- below: an even cut by at least 1, after a `first` cut, plain or even, by at least 1, is one even
-- cut
abbrev pub OneEvenCut : (RoundBitWord → ℕ → RoundBitWord) → Type 0
OneEvenCut first =
    (w : RoundBitWord) (j k : ℕ) → (even_cut_of w (suc j + suc k)).outcome ≡ Done →
    even_cut_of (first w (suc j)) (suc k) ≡ even_cut_of w (suc j + suc k)

-- what is true of the even cut beside the cut, and what is not
pub record EvenBeside : Type 0 where
  -- even cut and sign change commute: refused alike, and where they are done the word is the same
  pub turned_outcome : (w : RoundBitWord) (d : ℕ) → round_bit_check w ≡ Done →
      (even_cut_of (sign_change_of w).word d).outcome ≡ (even_cut_of w d).outcome
  pub turned_word : (w : RoundBitWord) (d : ℕ) → (even_cut_of w d).outcome ≡ Done →
      (even_cut_of (sign_change_of w).word d).word ≡ (sign_change_of (even_cut_of w d).word).word
  -- a cut by at least 1 after an even cut is one cut,
  pub then_cut : (w : RoundBitWord) (d k : ℕ) → (cut_of w (d + suc k)).outcome ≡ Done →
      ((even_cut_of w d).outcome ≡ Done) ×
      (cut_of (even_cut_of w d).word (suc k) ≡ cut_of w (d + suc k))
  -- but an even cut after a cut is not always one even cut, nor is one after an even cut
  pub after_cut : OneEvenCut (λ w d. (cut_of w d).word) → ⊥
  pub after_even_cut : OneEvenCut (λ w d. (even_cut_of w d).word) → ⊥
