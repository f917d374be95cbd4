-- Document 02, Ask 8, "Cuts and sign changes mixed", of half-unit words. What a run is, and what is
-- claimed of its end, stands once for both kinds of word, in specs/Moves.antt of `words`.
use Rattle.std.specs.Prelude.{ℕ, ◌≡◌, List}
use Rattle.words.specs.Outcomes.{Done}
use Rattle.words.specs.Kinds.{HalfUnitWord}
use Rattle.words.specs.HalfUnit.{half_unit_value, half_unit_check}
use Rattle.words.specs.Moves.{Move, cut, sign_change, Moved, ran_by, Closer, ClaimedBy}
use Rattle.half_unit.specs.Cuts.{sign_change_of, cut_of}

-- what a move answers is what the operation answers
abbrev pub moved : HalfUnitWord → Move → Moved HalfUnitWord
moved w (cut d) = record { outcome = (cut_of w d).outcome; word = (cut_of w d).word }
moved w sign_change = record {
  outcome = (sign_change_of w).outcome;
  word = (sign_change_of w).word;
}

abbrev pub ran : HalfUnitWord → List Move → Moved HalfUnitWord
ran w moves = ran_by moved w moves

-- "strictly closer for half-unit words if anything was cut": if nothing was, it is not off at all,
-- which is closer than half its unit as well
abbrev pub Near : ℕ → ℕ → Type 0
Near far half = Closer far half

-- what is claimed of moves on a word, and of their end
abbrev pub Claimed : HalfUnitWord → List Move → Moved HalfUnitWord → Type 0
Claimed w moves end = ClaimedBy moved half_unit_value (λ w. w.format) Near w moves end

-- "any run of cuts and sign changes" on a word that 1, 2 and 3 do not refuse
abbrev pub AnyRun : Type 0
AnyRun =
    (w : HalfUnitWord) (moves : List Move) → half_unit_check w ≡ Done →
    Claimed w moves (ran w moves)
