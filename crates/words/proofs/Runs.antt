-- Tables of runs of cuts and sign changes, of either kind of word: what the crates above compute.
use mathlib.Core.Bool.{Bool}
use mathlib.Core.List.{List}
use lib.ListN.{length, get_or}
use Rattle.integers.specs.Lists.{all}
use Rattle.words.specs.Flat.{Flat, same_flat}
use Rattle.words.specs.Moves.{Move, Moved, ran_by}
use Rattle.words.specs.Outcomes.{Outcome}

-- a word, moves on it, and what they are to end in, or must not
pub record Run (W : Type 0) : Type 0 where
  pub first : W
  pub moves : List Move
  pub end : Flat

abbrev pub run : {W : Type 0} → W → List Move → Flat → Run W
run w moves x = record { first = w; moves = moves; end = x }

-- the moves end in it; `flat_word` lays an outcome and a word flat
abbrev pub ends_in : {W : Type 0} → (W → Move → Moved W) → (Outcome → W → Flat) → Run W → Bool
ends_in moved flat_word r = let a = ran_by moved r.first r.moves in same_flat (flat_word a.outcome a.word) r.end

-- every run of a table is so; `other` is never asked for
abbrev pub all_runs : {W : Type 0} → (Run W → Bool) → Run W → List (Run W) → Bool
all_runs good other runs = all (length runs) (λ k. good (get_or runs k other))
