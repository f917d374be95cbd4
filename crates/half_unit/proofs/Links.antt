-- Document 02, Ask 8, of the code itself: what specs/Moves.antt claims holds of any chain of answers that meet the contracts of `cut` and
-- `sign_change`, each asked with the word that the last one answered. `Post` is generated from a function's `ensures`. Assumes nothing.
-- Proved here: `linked_claimed`, `linked_alike`.
use mathlib.Core.Path.{◌≡◌, sym, ap}
use mathlib.Core.List.{List}
use Rattle.words.specs.Moves.{Move, cut, sign_change, depths, turns, is_odd, Provided}
use Rattle.words.specs.HalfUnit.{half_unit_check}
use Rattle.words.specs.Outcomes.{Outcome}
use Rattle.words.specs.Outcomes.{Done}
use Rattle.words.specs.Kinds.{HalfUnitWord}
use Rattle.words.specs.Kinds.{HalfUnitAnswer}
use Rattle.words.specs.Kinds.{HalfUnitCutAnswer}
use Rattle.words.proofs.MoveLinks.{Made, moves_of, reached, MoveLinks, links_claimed, links_alike}
use Rattle.half_unit.specs.Moves.{moved, Claimed}
use Rattle.half_unit.proofs.cut.Reads as cut-function
use Rattle.half_unit.proofs.sign_change.Reads as sign-change-function
use Rattle.half_unit.proofs.Laws.Moves.{claimed}

-- the answer meets the contract of the move's function
abbrev pub Meets : HalfUnitWord → Move → Outcome → HalfUnitWord → Type 0
Meets w (cut d) o v = cut-function.Post tt (w, (d, tt)) (record { outcome = o; word = v }) (w, (d, tt))
Meets w sign_change o v = sign-change-function.Post tt (w, tt) (record { outcome = o; word = v }) (w, tt)

meets_moved : (w v : HalfUnitWord) (m : Move) (o : Outcome) → Meets w m o v → moved w m ≡ record { outcome = o; word = v }
meets_moved w v (cut d) o p = ap (λ (a : HalfUnitCutAnswer). record { outcome = a.outcome; word = a.word }) (sym p)
meets_moved w v sign_change o p = ap (λ (a : HalfUnitAnswer). record { outcome = a.outcome; word = a.word }) (sym p)

-- ---- from a right word, by these moves and their outcomes, to the last word
module _ (w last : HalfUnitWord) (made : List Made) (g : half_unit_check w ≡ Done) (chain : MoveLinks Meets w made last) where
  pub linked_claimed : Claimed w (moves_of made) (reached made last)
  linked_claimed = links_claimed moved Meets meets_moved w (λ moves. claimed w moves g) chain

  -- any other chain from it of the same depths together, with sign changes odd in number if these are, ends in the same word
  pub linked_alike : (other : HalfUnitWord) (others : List Made) → MoveLinks Meets w others other → Provided w.format (moves_of made) →
      depths (moves_of others) ≡ depths (moves_of made) → is_odd (turns (moves_of others)) ≡ is_odd (turns (moves_of made)) → other ≡ last
  linked_alike other others second p d o = links_alike moved Meets meets_moved w (λ moves. claimed w moves g) chain second p d o
