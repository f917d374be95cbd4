-- Document 02, Ask 8, of code: a link is a word, a move made on it, its outcome and the word that it answered. Any chain of links is the run of its
-- moves by the definitions, so what is claimed of that holds of it, for every kind of word. Assumes nothing.
-- Proved here: `links_ran`, `links_claimed`, `links_alike`.
use Rattle.std.specs.Prelude.{Ok, Err}
use Prim.Native.Nat.{ℕ}
use mathlib.Core.Path.{◌≡◌, refl, sym, ap, ◌∙◌, subst}
use mathlib.Core.List.{List, [], ◌∷◌, map}
use lib.IntN.{ℤ}
use Rattle.integers.specs.Chains.{Chain, no_link, link}
use Rattle.words.specs.Refusals.{◌or_else◌, after}
use Rattle.words.specs.Moves.{Move, Moved, ran_by, depths, turns, is_odd, Provided, MixedBy, ClaimedBy}
use Rattle.words.specs.declared.Format.{Format}
use Rattle.words.specs.Outcomes.{Outcome}
use Rattle.words.specs.Outcomes.{Done}
use Rattle.words.proofs.Laws.{refused_not_done}

-- a move and its outcome; the word that it answered is where the next link begins
pub record Made : Type 0 where
  pub move : Move
  pub outcome : Outcome

abbrev pub moves_of : List Made → List Move
moves_of made = map (λ (a : Made). a.move) made

-- the first refusal among the outcomes; done where there is none
abbrev pub first_refusal : List Made → Outcome
first_refusal [] = Done
first_refusal (a ∷ more) = a.outcome or_else first_refusal more

-- what a chain ends in
abbrev pub reached : {W : Type 0} → List Made → W → Moved W
reached made last = record { outcome = first_refusal made; word = last }

-- from the first word, by these moves and their outcomes, to the last: what a move answers meets its contract, `Meets`
abbrev pub MoveLinks : {W : Type 0} → (W → Move → Outcome → W → Type 0) → W → List Made → W → Type 0
MoveLinks {W} Meets w made last = Chain (λ (w : W) (a : Made) (v : W). Meets w a.move a.outcome v) w made last

-- ---- a chain refuses as the run of its moves does, and where neither does they end alike
abbrev Alike : {W : Type 0} → (W → Move → Moved W) → W → List Move → Outcome → W → Type 0
Alike moved w moves o last = (o ≡ (ran_by moved w moves).outcome) × (o ≡ Done → record { outcome = o; word = last } ≡ ran_by moved w moves)

alike_step : {W : Type 0} (moved : W → Move → Moved W) (w v last : W) (m : Move) (more : List Move) (o rest : Outcome) →
    moved w m ≡ record { outcome = o; word = v } → Alike moved v more rest last → Alike moved w (m ∷ more) (o or_else rest) last
unfolding ran_by
alike_step {W} moved w v last m more o rest e r = rw e (go o)
  where
    go : (o : Outcome) →
        let end : Moved W = after (λ c. record { outcome = o; word = v }) o (ran_by moved v more) in
        ((o or_else rest) ≡ end.outcome) × ((o or_else rest) ≡ Done → record { outcome = o or_else rest; word = last } ≡ end)
    go (Ok _) = r
    go (Err c) = (refl, λ d. absurd (refused_not_done d))

module _ {W : Type 0} (moved : W → Move → Moved W) (Meets : W → Move → Outcome → W → Type 0)
    (meets : (w v : W) (m : Move) (o : Outcome) → Meets w m o v → moved w m ≡ record { outcome = o; word = v }) where
  pub links_ran : {w last : W} {made : List Made} → MoveLinks Meets w made last →
      (first_refusal made ≡ (ran_by moved w (moves_of made)).outcome) × (first_refusal made ≡ Done → reached made last ≡ ran_by moved w (moves_of made))
  unfolding ran_by
  links_ran no_link = (refl, λ e. refl)
  links_ran (link {s = w} {t = v} {u = last} {a = a} {more = more} m l) =
      alike_step moved w v last a.move (moves_of more) a.outcome (first_refusal more) (meets w v a.move a.outcome m) (links_ran l)

  -- ---- so it has what is claimed of the run
  module _ {value : W → ℤ} {format : W → Format} {Near : ℕ → ℕ → Type 0} (w : W)
      (claimed : (moves : List Move) → ClaimedBy moved value format Near w moves (ran_by moved w moves)) where
    pub links_claimed : {last : W} {made : List Made} → MoveLinks Meets w made last → ClaimedBy moved value format Near w (moves_of made) (reached made last)
    links_claimed {last} {made} chain =
        let same = links_ran chain in
        let ran = claimed (moves_of made) in
        record {
          provided = λ p.
              let mixed = ran.provided p in
              subst (MixedBy moved value format Near w (moves_of made)) (sym (same.1 (same.0 ∙ mixed.done))) mixed;
          otherwise = λ p e. ran.otherwise p (sym same.0 ∙ e);
        }

    -- ---- two chains of the same depths together, with sign changes odd in number in both or in neither, end in the same word
    pub links_alike : {last other : W} {made others : List Made} → MoveLinks Meets w made last → MoveLinks Meets w others other →
        Provided (format w) (moves_of made) → depths (moves_of others) ≡ depths (moves_of made) →
        is_odd (turns (moves_of others)) ≡ is_odd (turns (moves_of made)) → other ≡ last
    links_alike {last} {other} {made} {others} chain second p d o =
        let also : Provided (format w) (moves_of others) = record { digits = rw d p.digits; range = rw d p.range } in
        let ends = (links_ran second).1 ((links_claimed second).provided also).done in
        ap (λ (a : Moved W). a.word) (ends ∙ ((links_claimed chain).provided p).alike (moves_of others) d o)
