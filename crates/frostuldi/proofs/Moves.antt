-- Document 02, Ask 8, of the C functions: what specs/Moves.antt of round_bit and of half_unit claims holds of any chain of their cuts and sign
-- changes, each asked with the word that the last one answered. Such a chain is a chain of the Rattle functions. Assumes nothing.
-- Proved here: `round_bit_moves_claimed`, `half_unit_moves_claimed`.
use Prim.Native.Nat.{ℕ}
use mathlib.Core.Path.{◌≡◌, ap, ◌∙◌}
use mathlib.Core.List.{List, map}
use Rattle.integers.specs.Chains.{Chain}
use Rattle.integers.proofs.Chains.{chain_map}
use Rattle.words.specs.Moves.{Move, cut, sign_change}
use Rattle.words.specs.RoundBit.{round_bit_check}
use Rattle.words.specs.HalfUnit.{half_unit_check}
use Rattle.words.specs.Outcomes.{Outcome, Done}
use Rattle.words.specs.Kinds.{RoundBitWord, HalfUnitWord}
use Rattle.words.proofs.MoveLinks.{Made, moves_of, reached, MoveLinks}
use Rattle.round_bit.specs.Moves.{Claimed as RoundBitClaimed}
use Rattle.round_bit.proofs.Links.{Meets as RoundBitMeets, linked_claimed as round-bit-linked}
use Rattle.half_unit.specs.Moves.{Claimed as HalfUnitClaimed}
use Rattle.half_unit.proofs.Links.{Meets as HalfUnitMeets, linked_claimed as half-unit-linked}
use Rattle.frostuldi.specs.declared.{FrostRoundBit.FrostRoundBit, FrostRoundBitAnswer.FrostRoundBitAnswer}
use Rattle.frostuldi.specs.declared.{FrostHalfUnit.FrostHalfUnit, FrostHalfUnitAnswer.FrostHalfUnitAnswer}
use Rattle.frostuldi.specs.Boundary.{round_bit_in, half_unit_in, round_bit_out, half_unit_out}
use Rattle.frostuldi.proofs.frost_round_bit_cut.Reads as frost-round-bit-cut
use Rattle.frostuldi.proofs.frost_round_bit_sign_change.Reads as frost-round-bit-sign-change
use Rattle.frostuldi.proofs.frost_half_unit_cut.Reads as frost-half-unit-cut
use Rattle.frostuldi.proofs.frost_half_unit_sign_change.Reads as frost-half-unit-sign-change
use Rattle.frostuldi.proofs.Outcomes.{outcome_in, outcome_back}

-- a move and all that its function answered, A being the type of the answers
pub record FrostMade (A : Type 0) : Type 0 where
  pub move : Move
  pub answer : A

-- the same as a move of the Rattle functions, `refusal` being that of an answer
abbrev pub made_in : {A : Type 0} → (A → ℕ) → FrostMade A → Made
made_in refusal a = record { move = a.move; outcome = outcome_in (refusal a.answer) }

-- from the first word, by these moves and their answers, to the last; `Meets` has the contracts, and `word` is that of an answer
abbrev pub FrostMoves : {F A : Type 0} → (F → Move → A → Type 0) → (A → F) → F → List (FrostMade A) → F → Type 0
FrostMoves {F} {A} Meets word w made last = Chain (λ (w : F) (a : FrostMade A) (v : F). Meets w a.move a.answer × (v ≡ word a.answer)) w made last

-- ---- where a move of the C functions is one of the Rattle functions, a chain is a chain
module _ {F A W : Type 0} (word_in : F → W) (refusal : A → ℕ) (word : A → F) (Flat : F → Move → A → Type 0) (Meets : W → Move → Outcome → W → Type 0)
    (meets-in : (w : F) (m : Move) (a : A) → Flat w m a → Meets (word_in w) m (outcome_in (refusal a)) (word_in (word a))) where
  moves_in : {w last : F} {made : List (FrostMade A)} → FrostMoves Flat word w made last →
      MoveLinks Meets (word_in w) (map (made_in refusal) made) (word_in last)
  moves_in chain = chain_map word_in (made_in refusal) (λ s t a m. rw m.1 (meets-in s a.move a.answer m.0)) chain

-- ---- round-bit words: on this word the move may answer this, by the contract of its function, frost_round_bit_cut or frost_round_bit_sign_change
abbrev pub FrostRoundBitMeets : FrostRoundBit → Move → FrostRoundBitAnswer → Type 0
FrostRoundBitMeets w (cut d) a = frost-round-bit-cut.Post tt (w, (d, tt)) a (w, (d, tt))
FrostRoundBitMeets w sign_change a = frost-round-bit-sign-change.Post tt (w, tt) a (w, tt)

round_bit_answer_back : {a : FrostRoundBitAnswer} (o : Outcome) (w : RoundBitWord) → a ≡ round_bit_out o w →
    (outcome_in a.refusal ≡ o) × (round_bit_in a.word ≡ w)
round_bit_answer_back o w m = (
  ap (λ (a : FrostRoundBitAnswer). outcome_in a.refusal) m ∙ outcome_back o,
  ap (λ (a : FrostRoundBitAnswer). round_bit_in a.word) m,
)

round_bit_in_lem : (w : FrostRoundBit) (m : Move) (a : FrostRoundBitAnswer) → FrostRoundBitMeets w m a →
    RoundBitMeets (round_bit_in w) m (outcome_in a.refusal) (round_bit_in a.word)
round_bit_in_lem w (cut d) a m = let p = round_bit_answer_back _ _ m in λ i. record { outcome = p.0 i; word = p.1 i }
round_bit_in_lem w sign_change a m = let p = round_bit_answer_back _ _ m in λ i. record { outcome = p.0 i; word = p.1 i }

pub round_bit_moves_claimed : (w last : FrostRoundBit) (made : List (FrostMade FrostRoundBitAnswer)) → round_bit_check (round_bit_in w) ≡ Done →
    FrostMoves FrostRoundBitMeets (λ a. a.word) w made last →
    let calls =
    map (made_in (λ (a : FrostRoundBitAnswer). a.refusal)) made in RoundBitClaimed (round_bit_in w) (moves_of calls) (reached calls (round_bit_in last))
round_bit_moves_claimed w last made g chain =
    round-bit-linked (round_bit_in w) (round_bit_in last) _ g
    (moves_in round_bit_in (λ (a : FrostRoundBitAnswer). a.refusal) (λ (a : FrostRoundBitAnswer). a.word) FrostRoundBitMeets RoundBitMeets round_bit_in_lem
    chain)

-- ---- half-unit words: on this word the move may answer this, by the contract of its function, frost_half_unit_cut or frost_half_unit_sign_change
abbrev pub FrostHalfUnitMeets : FrostHalfUnit → Move → FrostHalfUnitAnswer → Type 0
FrostHalfUnitMeets w (cut d) a = frost-half-unit-cut.Post tt (w, (d, tt)) a (w, (d, tt))
FrostHalfUnitMeets w sign_change a = frost-half-unit-sign-change.Post tt (w, tt) a (w, tt)

half_unit_answer_back : {a : FrostHalfUnitAnswer} (o : Outcome) (w : HalfUnitWord) → a ≡ half_unit_out o w →
    (outcome_in a.refusal ≡ o) × (half_unit_in a.word ≡ w)
half_unit_answer_back o w m = (
  ap (λ (a : FrostHalfUnitAnswer). outcome_in a.refusal) m ∙ outcome_back o,
  ap (λ (a : FrostHalfUnitAnswer). half_unit_in a.word) m,
)

half_unit_in_lem : (w : FrostHalfUnit) (m : Move) (a : FrostHalfUnitAnswer) → FrostHalfUnitMeets w m a →
    HalfUnitMeets (half_unit_in w) m (outcome_in a.refusal) (half_unit_in a.word)
half_unit_in_lem w (cut d) a m = let p = half_unit_answer_back _ _ m in λ i. record { outcome = p.0 i; word = p.1 i }
half_unit_in_lem w sign_change a m = let p = half_unit_answer_back _ _ m in λ i. record { outcome = p.0 i; word = p.1 i }

pub half_unit_moves_claimed : (w last : FrostHalfUnit) (made : List (FrostMade FrostHalfUnitAnswer)) → half_unit_check (half_unit_in w) ≡ Done →
    FrostMoves FrostHalfUnitMeets (λ a. a.word) w made last →
    let calls =
    map (made_in (λ (a : FrostHalfUnitAnswer). a.refusal)) made in HalfUnitClaimed (half_unit_in w) (moves_of calls) (reached calls (half_unit_in last))
half_unit_moves_claimed w last made g chain =
    half-unit-linked (half_unit_in w) (half_unit_in last) _ g
    (moves_in half_unit_in (λ (a : FrostHalfUnitAnswer). a.refusal) (λ (a : FrostHalfUnitAnswer). a.word) FrostHalfUnitMeets HalfUnitMeets half_unit_in_lem
    chain)
