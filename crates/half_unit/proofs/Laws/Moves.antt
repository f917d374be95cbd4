-- What specs/Moves.antt claims of runs of cuts and sign changes holds. Assumes nothing.
-- Proved here: `move_laws`, `claimed`.
use Prim.Native.Nat.{ℕ}
use native.Mathlib.Omega.{arith}
use mathlib.Core.Path.{◌≡◌, refl, ◌∙◌}
use Rattle.integers.proofs.Floor.{floor_none}
use Rattle.words.specs.Formats.{narrower_check}
use Rattle.words.specs.HalfUnit.{half_unit_value, half_unit_check}
use Rattle.words.specs.Outcomes.{Done}
use Rattle.words.specs.Kinds.{HalfUnitWord}
use Rattle.words.proofs.Laws.{half_unit_right}
use Rattle.words.proofs.Formats.{narrower_none}
use Rattle.words.proofs.Moves.{MoveLaws, run_claimed}
use Rattle.half_unit.specs.Cuts.{sign_change_word, cut_word, cut_check}
use Rattle.half_unit.specs.Moves.{moved, Near, AnyRun}
use Rattle.half_unit.proofs.Laws.Cuts.{cut_done, cut_tells, cut_asks, sign_change_check, cut_word_passes, sign_change_value, sign_change_twice}
use Rattle.half_unit.proofs.Laws.Cuts.{cut_near, cut_word_twice, cut_word_sign}

-- ---- what a run asks of cut and sign change
checked : (w : HalfUnitWord) (d : ℕ) → half_unit_check w ≡ Done → narrower_check w.format d ≡ Done → cut_check w d ≡ Done
checked w d g e = cut_asks w d (half_unit_right w g) e

pub move_laws : MoveLaws moved half_unit_value (λ w. w.format) Near half_unit_check cut_word sign_change_word
unfolding cut_word sign_change_word
move_laws =
    record {
      right_form = λ w g. (half_unit_right w g).format;
      cut_made = λ w d g e. rw (checked w d g e);
      cut_asks = λ w d e. (cut_tells w d (cut_done w d e).0).1;
      cut_right = λ w d g e. cut_word_passes w d (checked w d g e);
      cut_form = λ w d. refl;
      cut_none = λ w. rw (floor_none w.number.0, narrower_none w.format);
      cut_cut = cut_word_twice;
      cut_sign = cut_word_sign;
      cut_near = λ w d g e. omega (arith, cut_near w d);
      sign_made = λ w g. rw g;
      sign_right = λ w g. sign_change_check w ∙ g;
      sign_form = λ w. refl;
      sign_twice = λ w g. sign_change_twice w;
      sign_value = λ w g. sign_change_value w;
    }

pub claimed : AnyRun
claimed w moves g = run_claimed move_laws w moves g
