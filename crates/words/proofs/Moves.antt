-- Document 02, Ask 8: what a run of cuts and sign changes ends in, by induction over the moves, for every kind of word whose cut and sign change
-- have the laws that are asked for here. Assumes nothing.
-- Proved here: `provided_passes`, `passed_provided`, `step`, `steps_done`, `run_ends`, `run_provided`, `mixed`, `run_claimed`.
use Rattle.std.specs.Prelude.{Ok, Err}
use Prim.Native.Nat.{ℕ, suc, ◌+◌, ◌-◌, ◌^◌}
use native.Mathlib.Omega.{arith}
use mathlib.Core.Path.{◌≡◌, refl, sym, ap, ◌∙◌, subst}
use mathlib.Core.Bool.{Bool, true, false, not, cond}
use mathlib.Core.List.{List, [], ◌∷◌}
use lib.IntN.{ℤ, pos, neg_ℤ, neg_ℤ-neg_ℤ, nat_abs, ◌+ℤ◌, ◌-ℤ◌, ◌*ℤ◌}
use borrow.Author.Tests.{le-ltb}
use Rattle.words.specs.Refusals.{after}
use Rattle.words.specs.Formats.{narrower, narrower_check}
use Rattle.words.specs.Moves.{Move, cut, sign_change, Moved, ran_by, depths, turns, is_odd, at_once, Provided, apart_from_sign, MixedBy, ClaimedBy}
use Rattle.words.specs.declared.Format.{Format}
use Rattle.words.specs.Outcomes.{Outcome}
use Rattle.words.specs.Outcomes.{Done}
use Rattle.words.proofs.Laws.{RightFormat}
use Rattle.words.proofs.Formats.{unit_good, narrower_right, narrower_none, narrower_passes, narrower_first, narrower_then, narrower_narrower}

abbrev pub move_done : {W : Type 0} → W → Moved W
move_done w = record { outcome = Done; word = w }

-- ---- what is asked for: the words of a done cut and of a done sign change, when these are done, and what they do to each other
pub record MoveLaws {W : Type 0} (moved : W → Move → Moved W) (value : W → ℤ) (format : W → Format) (Near : ℕ → ℕ → Type 0) (check : W → Outcome)
    (cut_word : W → ℕ → W) (sign_word : W → W) : Type 0 where
  pub right_form : (w : W) → check w ≡ Done → RightFormat (format w)
  pub cut_made : (w : W) (d : ℕ) → check w ≡ Done → narrower_check (format w) d ≡ Done → moved w (cut d) ≡ move_done (cut_word w d)
  pub cut_asks : (w : W) (d : ℕ) → (moved w (cut d)).outcome ≡ Done → narrower_check (format w) d ≡ Done
  pub cut_right : (w : W) (d : ℕ) → check w ≡ Done → narrower_check (format w) d ≡ Done → check (cut_word w d) ≡ Done
  pub cut_form : (w : W) (d : ℕ) → format (cut_word w d) ≡ narrower (format w) d
  pub cut_none : (w : W) → cut_word w 0 ≡ w
  pub cut_cut : (w : W) (a b : ℕ) → cut_word (cut_word w a) b ≡ cut_word w (a + b)
  pub cut_sign : (w : W) (d : ℕ) → cut_word (sign_word w) d ≡ sign_word (cut_word w d)
  pub cut_near : (w : W) (d : ℕ) → check w ≡ Done → narrower_check (format w) d ≡ Done →
      Near (nat_abs ((value (cut_word w d) *ℤ pos (2 ^ d)) -ℤ value w)) (2 ^ d)
  pub sign_made : (w : W) → check w ≡ Done → moved w sign_change ≡ move_done (sign_word w)
  pub sign_right : (w : W) → check w ≡ Done → check (sign_word w) ≡ Done
  pub sign_form : (w : W) → format (sign_word w) ≡ format w
  pub sign_twice : (w : W) → check w ≡ Done → sign_word (sign_word w) ≡ w
  pub sign_value : (w : W) → check w ≡ Done → value (sign_word w) ≡ neg_ℤ (value w)

-- ---- the proviso is what one cut by that depth asks of a word
pub provided_passes : (f : Format) (moves : List Move) → Provided f moves → narrower_check f (depths moves) ≡ Done
unfolding narrower_check
provided_passes f moves p = rw (le-ltb (f.width - depths moves) 2 p.digits, p.range)

pub passed_provided : (f : Format) (moves : List Move) → RightFormat f → narrower_check f (depths moves) ≡ Done → Provided f moves
passed_provided f moves g e =
    let r = narrower_right f (depths moves) g e in
    record { digits = r.narrow; range = unit_good (f.unit +ℤ pos (depths moves)) r.fine r.coarse }

-- ---- one sign change more turns "odd" over, and the one cut and the one sign change have the same depth and the same parity
odd_more : (n : ℕ) → is_odd (1 + n) ≡ not (is_odd n)
unfolding is_odd
odd_more n = let same : 1 + n ≡ suc n = omega arith in ap is_odd same

once_depths : (d : ℕ) (c : Bool) → depths (cut d ∷ cond c (sign_change ∷ []) []) ≡ d
unfolding depths
once_depths d true = omega arith
once_depths d false = omega arith

once_odd : (d : ℕ) (c : Bool) → is_odd (turns (cut d ∷ cond c (sign_change ∷ []) [])) ≡ c
unfolding turns is_odd
once_odd d true = refl
once_odd d false = refl

-- ---- one move, and then the others
module _ {W : Type 0} (moved : W → Move → Moved W) where
  pub step : (w v : W) (m : Move) (more : List Move) → moved w m ≡ move_done v → ran_by moved w (m ∷ more) ≡ ran_by moved v more
  unfolding ran_by
  step w v m more e = ap (λ (a : Moved W). after (λ c. a) a.outcome (ran_by moved a.word more)) e

  pub steps_done : (w : W) (m : Move) (more : List Move) → (ran_by moved w (m ∷ more)).outcome ≡ Done → (moved w m).outcome ≡ Done
  unfolding ran_by
  steps_done w m more e = go (moved w m).outcome refl e
    where
      go : (o : Outcome) → (moved w m).outcome ≡ o → (after (λ c. moved w m) o (ran_by moved (moved w m).word more)).outcome ≡ Done → (moved w m).outcome ≡ Done
      go (Ok _) p e = p
      go (Err c) p e = e

module _ {W : Type 0} {moved : W → Move → Moved W} {value : W → ℤ} {format : W → Format} {Near : ℕ → ℕ → Type 0} {check : W → Outcome}
    {cut_word : W → ℕ → W} {sign_word : W → W} (l : MoveLaws moved value format Near check cut_word sign_word) where
  abbrev turned_if : Bool → W → W
  turned_if c w = cond c (sign_word w) w

  turned_more : (c : Bool) (w : W) → check w ≡ Done → turned_if c (sign_word w) ≡ turned_if (not c) w
  turned_more true w e = l.sign_twice w e
  turned_more false w e = refl

  -- ---- the end of a run that the proviso lets through: the cut by all depths together, with its sign changed if their number was odd
  pub run_ends : (w : W) (moves : List Move) → check w ≡ Done → narrower_check (format w) (depths moves) ≡ Done →
      ran_by moved w moves ≡ move_done (turned_if (is_odd (turns moves)) (cut_word w (depths moves)))
  unfolding ran_by depths turns is_odd
  run_ends w [] g e = ap move_done (sym (l.cut_none w))
  run_ends w (cut d ∷ more) g e =
      let f = l.right_form w g in
      let first = narrower_first (format w) d (depths more) f e in
      let then : narrower_check (format (cut_word w d)) (depths more) ≡ Done = rw (l.cut_form w d) (narrower_then (format w) d (depths more) f e) in
      step moved w (cut_word w d) (cut d) more (l.cut_made w d g first)
      ∙ run_ends (cut_word w d) more (l.cut_right w d g first) then
      ∙ ap (λ (v : W). move_done (turned_if (is_odd (turns more)) v)) (l.cut_cut w d (depths more))
  run_ends w (sign_change ∷ more) g e =
      let d = depths more in
      let then : narrower_check (format (sign_word w)) d ≡ Done = rw (l.sign_form w) e in
      step moved w (sign_word w) sign_change more (l.sign_made w g)
      ∙ run_ends (sign_word w) more (l.sign_right w g) then
      ∙ ap (λ (v : W). move_done (turned_if (is_odd (turns more)) v)) (l.cut_sign w d)
      ∙ ap move_done (turned_more (is_odd (turns more)) (cut_word w d) (l.cut_right w d g e))
      ∙ ap (λ (c : Bool). move_done (turned_if c (cut_word w d))) (sym (odd_more (turns more)))

  -- ---- and the converse: a run that is done leaves 2 digits and a unit in range
  pub run_provided : (w : W) (moves : List Move) → check w ≡ Done → (ran_by moved w moves).outcome ≡ Done → narrower_check (format w) (depths moves) ≡ Done
  unfolding depths
  run_provided w [] g e = let f = l.right_form w g in narrower_passes (format w) 0 f (rw (narrower_none (format w)) f)
  run_provided w (cut d ∷ more) g e =
      let f = l.right_form w g in
      let first = l.cut_asks w d (steps_done moved w (cut d) more e) in
      let made = step moved w (cut_word w d) (cut d) more (l.cut_made w d g first) in
      let rest = run_provided (cut_word w d) more (l.cut_right w d g first) (sym (ap (λ (a : Moved W). a.outcome) made) ∙ e) in
      let then : narrower_check (narrower (format w) d) (depths more) ≡ Done = rw (← l.cut_form w d) rest in
      let end = narrower_right (narrower (format w) d) (depths more) (narrower_right (format w) d f first) then in
      narrower_passes (format w) (d + depths more) f (rw (← narrower_narrower (format w) d (depths more)) end)
  run_provided w (sign_change ∷ more) g e =
      let made = step moved w (sign_word w) sign_change more (l.sign_made w g) in
      let rest = run_provided (sign_word w) more (l.sign_right w g) (sym (ap (λ (a : Moved W). a.outcome) made) ∙ e) in
      rw (← l.sign_form w) rest

  -- ---- the claim
  turned_form : (c : Bool) (w : W) → format (turned_if c w) ≡ format w
  turned_form true w = l.sign_form w
  turned_form false w = refl

  turned_value : (c : Bool) (w : W) → check w ≡ Done → cond c (neg_ℤ (value (turned_if c w))) (value (turned_if c w)) ≡ value w
  turned_value true w e = ap neg_ℤ (l.sign_value w e) ∙ neg_ℤ-neg_ℤ (value w)
  turned_value false w e = refl

  module _ (w : W) (moves : List Move) (g : check w ≡ Done) (p : Provided (format w) moves) where
    passes : narrower_check (format w) (depths moves) ≡ Done
    passes = provided_passes (format w) moves p

    abbrev last : W
    last = turned_if (is_odd (turns moves)) (cut_word w (depths moves))

    ends : ran_by moved w moves ≡ move_done last
    ends = run_ends w moves g passes

    others_end : (others : List Move) → depths others ≡ depths moves → is_odd (turns others) ≡ is_odd (turns moves) → ran_by moved w others ≡ move_done last
    others_end others d o =
        run_ends w others g (rw d passes)
        ∙ rw (d, o)

    last_value : apart_from_sign value moves last ≡ value (cut_word w (depths moves))
    last_value = turned_value (is_odd (turns moves)) (cut_word w (depths moves)) (l.cut_right w (depths moves) g passes)

    of_last : MixedBy moved value format Near w moves (move_done last)
    of_last =
        record {
          done = refl;
          same = sym (others_end (at_once moves) (once_depths (depths moves) (is_odd (turns moves))) (once_odd (depths moves) (is_odd (turns moves))));
          form = turned_form (is_odd (turns moves)) (cut_word w (depths moves)) ∙ l.cut_form w (depths moves);
          near = rw last_value (l.cut_near w (depths moves) g passes);
          equal = λ z. last_value ∙ ap (λ (d : ℕ). value (cut_word w d)) z ∙ ap value (l.cut_none w);
          alike = others_end;
        }

    pub mixed : MixedBy moved value format Near w moves (ran_by moved w moves)
    mixed = subst (MixedBy moved value format Near w moves) (sym ends) of_last

  pub run_claimed : (w : W) (moves : List Move) → check w ≡ Done → ClaimedBy moved value format Near w moves (ran_by moved w moves)
  run_claimed w moves g =
      record {
        provided = mixed w moves g;
        otherwise = λ p e. p (passed_provided (format w) moves (l.right_form w g) (run_provided w moves g e));
      }
