-- What specs/Moves.antt claims of runs of cuts and sign changes holds, and what it states of the even cut beside them. Assumes nothing.
-- Proved here: `move_laws`, `claimed`, `even_beside`.
use Prim.Native.Nat.{ℕ, suc, ◌+◌}
use native.Mathlib.Omega.{arith}
use mathlib.Core.Path.{◌≡◌, refl, sym, ap, ◌∙◌}
use lib.IntN.{pos}
use Rattle.integers.specs.Numbers.{fits_width, floor_by, lowest, digit}
use Rattle.words.specs.RoundBit.{round_bit_value, round_bit_check}
use Rattle.words.specs.Refusals.{format_check, word_check}
use Rattle.words.specs.Formats.{narrower_check}
use Rattle.words.specs.Flat.{round_bit_at as at}
use Rattle.words.specs.Outcomes.{Done}
use Rattle.words.specs.Kinds.{RoundBitWord}
use Rattle.words.proofs.Laws.{round_bit_right, round_bit_passes}
use Rattle.words.proofs.Formats.{narrower_then}
use Rattle.words.proofs.Moves.{MoveLaws, run_claimed}
use Rattle.words.specs.Kinds.{RoundBitCutAnswer}
use Rattle.round_bit.specs.Cuts.{sign_change_word, sign_change_of, cut_by, cut_word, cut_check, cut_of, even_round_bit, even_cut_word, even_cut_of}
use Rattle.round_bit.specs.Moves.{moved, Near, AnyRun, OneEvenCut, EvenBeside}
use Rattle.round_bit.proofs.Laws.Signs.{sign_change_passed, sign_change_value, sign_change_twice}
use Rattle.round_bit.proofs.Laws.Cuts.{cut_done, cut_tells, cut_passes, cut_right, cut_near, cut_by_format, cut_format, cut_by_then_cut}
use Rattle.round_bit.proofs.Laws.Cuts.{cut_word_twice, cut_cut, cut_sign_word}
use Rattle.round_bit.proofs.Laws.EvenCuts.{even_cut_done, even_cut_refuses, even_cut_closed, even_cut_sign_outcome, even_cut_sign}

-- ---- what a run asks of cut and sign change
checked : (w : RoundBitWord) (d : ℕ) → round_bit_check w ≡ Done → narrower_check w.format d ≡ Done → cut_check w d ≡ Done
checked w d g e = cut_passes w d (round_bit_right w g) e

pub move_laws : MoveLaws moved round_bit_value (λ w. w.format) Near round_bit_check cut_word sign_change_word
unfolding cut_by sign_change_word
move_laws =
    record {
      right_form = λ w g. (round_bit_right w g).format;
      cut_made = λ w d g e. rw (checked w d g e);
      cut_asks = λ w d e. (cut_tells w d (cut_done w d e).0).1;
      cut_right = λ w d g e. round_bit_passes (cut_word w d) (cut_right w d (checked w d g e));
      cut_form = cut_format;
      cut_none = λ w. refl;
      cut_cut = cut_word_twice;
      cut_sign = cut_sign_word;
      cut_near = λ w d g e. omega (arith, cut_near w d (round_bit_right w g).bit);
      sign_made = λ w g. rw g;
      sign_right = sign_change_passed;
      sign_form = λ w. refl;
      sign_twice = sign_change_twice;
      sign_value = sign_change_value;
    }

pub claimed : AnyRun
claimed w moves g = run_claimed move_laws w moves g

-- ---- the even cut beside them
even_then_cut : (w : RoundBitWord) (d k : ℕ) → (cut_of w (d + suc k)).outcome ≡ Done →
    ((even_cut_of w d).outcome ≡ Done) × (cut_of (even_cut_of w d).word (suc k) ≡ cut_of w (d + suc k))
even_then_cut w d k e =
    let c = (cut_done w (d + suc k) e).0 in
    let t = cut_tells w (d + suc k) c in
    let first = even_cut_refuses w d ∙ (cut_cut w d (suc k) e).0 in
    let v = (even_cut_done w d first).1 in
    let right = round_bit_right (even_cut_word w d) (rw v at (even_cut_closed w d first)) in
    let form = cut_by_format (even_round_bit w.number.1) w d in
    let then : narrower_check (even_cut_word w d).format (suc k) ≡ Done = rw form (narrower_then w.format d (suc k) t.0.format t.1) in
    let second = cut_passes (even_cut_word w d) (suc k) right then in
    (first, rw (v, second, c, cut_by_then_cut (even_round_bit w.number.1) w d k))

signed : (w : RoundBitWord) → round_bit_check w ≡ Done → (sign_change_of w).word ≡ sign_change_word w
signed w g = rw g

even_turned : (w : RoundBitWord) (d : ℕ) → (even_cut_of w d).outcome ≡ Done →
    (even_cut_of (sign_change_of w).word d).word ≡ (sign_change_of (even_cut_of w d).word).word
even_turned w d e =
    let g = round_bit_passes w (cut_tells w d (even_cut_done w d e).0).0 in
    ap (λ (v : RoundBitWord). (even_cut_of v d).word) (signed w g)
    ∙ even_cut_sign w d e
    ∙ sym (signed (even_cut_of w d).word (even_cut_closed w d e))

bits_differ : (a b : RoundBitCutAnswer) → a.word.number.1 ≡ 0 → b.word.number.1 ≡ 1 → a ≡ b → ⊥
bits_differ a b x y e = omega (arith, x, y, ap (λ (c : RoundBitCutAnswer). c.word.number.1) e)

-- (2,1) at width 4: cut by 1 it is (1,0), a tie of the even cut by 1, which answers (0,0); at once it is no tie, and answers (0,1)
after_cut_differs : OneEvenCut (λ w a. (cut_of w a).word) → ⊥
unfolding floor_by fits_width lowest digit format_check word_check narrower_check cut_by even_round_bit
after_cut_differs one = bits_differ _ _ refl refl (one (at 4 (pos 2) 1) 0 0 refl)

-- (5,0) at width 5: even cut by 1 is a tie and answers (2,0), a tie again by 2, which answers (0,0); at once it is no tie, and answers (0,1)
after_even_cut_differs : OneEvenCut (λ w a. (even_cut_of w a).word) → ⊥
unfolding floor_by fits_width lowest digit format_check word_check narrower_check cut_by even_round_bit
after_even_cut_differs one = bits_differ _ _ refl refl (one (at 5 (pos 5) 0) 0 1 refl)

pub even_beside : EvenBeside
even_beside =
    record {
      turned_outcome = λ w d g. ap (λ (v : RoundBitWord). (even_cut_of v d).outcome) (signed w g) ∙ even_cut_sign_outcome w d g;
      turned_word = even_turned;
      then_cut = even_then_cut;
      after_cut = after_cut_differs;
      after_even_cut = after_even_cut_differs;
    }
