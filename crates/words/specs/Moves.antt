-- Document 02, Ask 8, "Cuts and sign changes mixed": what round-bit and half-unit words share.
use Rattle.std.specs.Prelude.{◌<◌}
use Rattle.std.specs.Prelude.{ℕ, zero, suc, ◌+◌, ◌^◌, ◌≤◌, ◌≡◌, Bool, false, not, cond, List, []}
use Rattle.std.specs.Prelude.{◌∷◌, ℤ, pos, neg_ℤ, nat_abs, ◌-ℤ◌, ◌*ℤ◌}
use Rattle.words.specs.Outcomes.{Outcome}
use Rattle.words.specs.Outcomes.{Done}
use Rattle.words.specs.declared.Format.{Format}
use Rattle.words.specs.Words.{least_width, bad_unit}
use Rattle.words.specs.Refusals.{after}
use Rattle.words.specs.Formats.{narrower}

-- "cuts and sign changes": a move is a cut by a depth, or a sign change
pub data Move : Type 0 where
  cut : ℕ → Move
  sign_change : Move

-- what a move answers, W being the type of the words
pub record Moved (W : Type 0) : Type 0 where
  pub outcome : Outcome
  pub word : W

-- "any run": the moves one after the other, each on the word that the one before answered, up to
-- the first that is refused
unfoldable pub ran_by : {W : Type 0} → (W → Move → Moved W) → W → List Move → Moved W
ran_by moved w [] = record { outcome = Done; word = w }
ran_by moved w (m ∷ more) =
    let a = moved w m in after (λ c. a) a.outcome (ran_by moved a.word more)

-- "all depths together"
unfoldable pub depths : List Move → ℕ
depths [] = 0
depths (cut d ∷ more) = d + depths more
depths (sign_change ∷ more) = depths more

-- the number of sign changes,
unfoldable pub turns : List Move → ℕ
turns [] = 0
turns (cut d ∷ more) = turns more
turns (sign_change ∷ more) = 1 + turns more

-- "if their number was odd"
unfoldable pub is_odd : ℕ → Bool
is_odd zero = false
is_odd (suc n) = not (is_odd n)

-- "one cut by all depths together, followed by a sign change if their number was odd"
abbrev pub at_once : List Move → List Move
at_once moves = cut (depths moves) ∷ cond (is_odd (turns moves)) (sign_change ∷ []) []

-- "provided that at least 2 digits remain and the unit stays in range at the end", of a first word
-- of this format
pub record Provided (f : Format) (moves : List Move) : Type 0 where
  pub digits : least_width ≤ (narrower f (depths moves)).width
  pub range : bad_unit (narrower f (depths moves)).unit ≡ false

-- "half its unit", the last word's, in halves of the first word's
abbrev pub half_its_unit : List Move → ℕ
half_its_unit moves = 2 ^ depths moves

-- "within", and "strictly closer"
abbrev pub Within : ℕ → ℕ → Type 0
Within far half = far ≤ half

abbrev pub Closer : ℕ → ℕ → Type 0
Closer far half = far < half

module _ {W : Type 0} (value : W → ℤ) where
  -- the last word's value "apart from the sign"
  abbrev pub apart_from_sign : List Move → W → ℤ
  apart_from_sign moves last = cond (is_odd (turns moves)) (neg_ℤ (value last)) (value last)

  -- how far that is from the first word's. A value is in halves of its word's unit, and one of the
  -- last word's is 2 ^ depths of the first word's; this is in the first word's
  abbrev pub far_from : W → List Move → W → ℕ
  far_from w moves last =
      nat_abs ((apart_from_sign moves last *ℤ pos (2 ^ depths moves)) -ℤ value w)

-- what is claimed of moves on a word, and of their end. `Near` is `Within` or `Closer`
module _ {W : Type 0} (moved : W → Move → Moved W) (value : W → ℤ) (format : W → Format)
    (Near : ℕ → ℕ → Type 0) where
  pub record MixedBy (w : W) (moves : List Move) (end : Moved W) : Type 0 where
    -- no move is refused,
    pub done : end.outcome ≡ Done
    -- and the run "ends in the same word as one cut by all depths together, followed by a sign
    -- change if their number was odd", digit for digit, round bit, width and unit
    pub same : end ≡ ran_by moved w (at_once moves)
    -- all depths are gone from its width, and its unit is so much coarser
    pub form : format end.word ≡ narrower (format w) (depths moves)
    -- "That word, apart from the sign, is within half its unit of the first word's value, strictly
    -- closer for half-unit words if anything was cut."
    pub near : Near (far_from value w moves end.word) (half_its_unit moves)
    -- If nothing was, it has that value
    pub equal : depths moves ≡ 0 → apart_from_sign value moves end.word ≡ value w
    -- any other moves of the same depths together, whose sign changes are odd in number exactly if
    -- these are, end in the same word
    pub alike : (others : List Move) → depths others ≡ depths moves →
        is_odd (turns others) ≡ is_odd (turns moves) → ran_by moved w others ≡ end

  pub record ClaimedBy (w : W) (moves : List Move) (end : Moved W) : Type 0 where
    -- all this, "provided that at least 2 digits remain and the unit stays in range at the end";
    pub provided : Provided (format w) moves → MixedBy w moves end
    -- where that is not so, some move is refused
    pub otherwise : (Provided (format w) moves → ⊥) → end.outcome ≡ Done → ⊥
