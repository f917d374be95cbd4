-- Runs of cuts and sign changes, computed from the definitions: ends worked out by hand from document 01, and ends that a run must not have.
-- Assumes nothing.
-- Proved here: `ends_right`, `ends_wrong`, `just_closer`.
use mathlib.Core.Path.{◌≡◌, refl}
use mathlib.Core.Bool.{Bool, true, not}
use mathlib.Core.List.{List, [], ◌∷◌}
use lib.IntN.{pos, negsuc}
use Rattle.integers.specs.Numbers.{fits_width, floor_by}
use Rattle.integers.specs.Lists.{first_bad}
use Rattle.words.specs.Words.{value}
use Rattle.words.specs.Refusals.{format_check, word_check}
use Rattle.words.specs.Formats.{format, narrower_check}
use Rattle.words.specs.HalfUnit.{half_unit_word, half_unit_value}
use Rattle.words.specs.Flat.{Flat, flat, laid_flat, half_unit_at as at, done, refused}
use Rattle.words.specs.Moves.{cut, sign_change, ran_by, depths, turns, is_odd, half_its_unit, far_from}
use Rattle.words.specs.Outcomes.{Outcome}
use Rattle.words.specs.Kinds.{HalfUnitWord}
use Rattle.words.proofs.Runs.{Run, run, ends_in, all_runs}
use Rattle.half_unit.specs.Cuts.{sign_change_word, cut_word}
use Rattle.half_unit.specs.Moves.{moved, ran}

abbrev flat_word : Outcome → HalfUnitWord → Flat
flat_word o w = laid_flat o w.number.0 0 w.format

abbrev ends : Run HalfUnitWord → Bool
ends r = ends_in moved flat_word r

-- 5 in width 5, in the last unit but one
abbrev near_end : HalfUnitWord
near_end = half_unit_word (pos 5) (format 5 (pos 126))

abbrev right : List (Run HalfUnitWord)
right =
    -- 11: by 1 it is 5, turned -6, by 1 again -3, turned 2; at once by 2 it is 2
    run (at 5 (pos 11)) (cut 1 ∷ sign_change ∷ cut 1 ∷ sign_change ∷ []) (flat 0 (pos 2) 0 3 (pos 2))
    ∷ run (at 5 (pos 11)) (cut 2 ∷ []) (flat 0 (pos 2) 0 3 (pos 2))
    -- turned once: -3
    ∷ run (at 5 (pos 11)) (cut 1 ∷ sign_change ∷ cut 1 ∷ []) (flat 0 (negsuc 2) 0 3 (pos 2))
    -- no moves, and moves that cut nothing: the word
    ∷ run (at 5 (pos 11)) [] (done 5 (pos 11) 0)
    ∷ run (at 5 (pos 11)) (cut 0 ∷ sign_change ∷ cut 0 ∷ sign_change ∷ []) (done 5 (pos 11) 0)
    -- down to 2 digits; one more is 5, and so is what comes after it
    ∷ run (at 4 (pos 5)) (cut 1 ∷ sign_change ∷ cut 1 ∷ []) (flat 0 (negsuc 1) 0 2 (pos 2))
    ∷ run (at 4 (pos 5)) (cut 1 ∷ sign_change ∷ cut 2 ∷ sign_change ∷ []) (refused 5)
    -- the unit leaves its range by the first cut, which is 7; at once 2 digits do not remain, which is 5
    ∷ run near_end (cut 2 ∷ cut 2 ∷ []) (refused 7)
    ∷ run near_end (cut 4 ∷ []) (refused 5)
    ∷ run near_end (cut 1 ∷ sign_change ∷ []) (flat 0 (negsuc 2) 0 4 (pos 127))
    -- the narrowest width in the last unit, -2: turned 1, cut by nothing 1, turned -2, turned 1
    ∷ run (half_unit_word (negsuc 1) (format 2 (pos 127))) (sign_change ∷ cut 0 ∷ sign_change ∷ sign_change ∷ []) (flat 0 (pos 1) 0 2 (pos 127))
    -- -1, worth -1/2: by 1 it is -1, turned 0, by 1 again 0; at once by 2 it is -1, turned 0
    ∷ run (at 4 (negsuc 0)) (cut 1 ∷ sign_change ∷ cut 1 ∷ []) (flat 0 (pos 0) 0 2 (pos 2))
    -- a depth of 2^64, which C cannot hand over
    ∷ run (at 5 (pos 5)) (sign_change ∷ cut 18446744073709551616 ∷ []) (refused 5)
    -- a word that is not right is refused by the first move
    ∷ run (at 5 (pos 16)) (sign_change ∷ cut 1 ∷ []) (refused 3)
    ∷ []

abbrev wrong : List (Run HalfUnitWord)
wrong =
    -- a turn dropped, or one too many
    run (at 5 (pos 11)) (cut 1 ∷ sign_change ∷ cut 1 ∷ []) (flat 0 (pos 2) 0 3 (pos 2))
    ∷ run (at 5 (pos 11)) (cut 1 ∷ sign_change ∷ cut 1 ∷ sign_change ∷ []) (flat 0 (negsuc 2) 0 3 (pos 2))
    -- -w for -1-w; division toward zero
    ∷ run (at 5 (pos 11)) (sign_change ∷ cut 1 ∷ []) (flat 0 (negsuc 4) 0 4 (pos 1))
    ∷ run (at 5 (negsuc 10)) (cut 1 ∷ cut 1 ∷ []) (flat 0 (negsuc 1) 0 3 (pos 2))
    -- the last cut alone; the old width, the old unit
    ∷ run (at 5 (pos 11)) (cut 1 ∷ cut 1 ∷ []) (flat 0 (pos 5) 0 4 (pos 1))
    ∷ run (at 5 (pos 11)) (cut 1 ∷ cut 1 ∷ []) (flat 0 (pos 2) 0 4 (pos 2))
    ∷ run (at 5 (pos 11)) (cut 1 ∷ cut 1 ∷ []) (flat 0 (pos 2) 0 3 (pos 1))
    -- the blank word turned after a refusal; the refusal of the cut at once
    ∷ run (at 4 (pos 5)) (cut 1 ∷ cut 2 ∷ sign_change ∷ []) (flat 5 (negsuc 0) 0 2 (pos 0))
    ∷ run near_end (cut 2 ∷ cut 2 ∷ []) (refused 5)
    ∷ []

ends_right : all_runs ends (run near_end [] (refused 0)) right ≡ true
unfolding first_bad fits_width floor_by format_check word_check narrower_check ran_by sign_change_word cut_word
ends_right = refl

ends_wrong : all_runs (λ r. not (ends r)) (run near_end [] (refused 0)) wrong ≡ true
unfolding first_bad fits_width floor_by format_check word_check narrower_check ran_by sign_change_word cut_word
ends_wrong = refl

-- ---- how near to half its unit an end may be: 8 by 2 is 2, so 8 1/2 units came out as 10, off by 3 half units where half of the new unit is 4
just_closer : (far_from half_unit_value (at 5 (pos 8)) (cut 2 ∷ []) (ran (at 5 (pos 8)) (cut 2 ∷ [])).word ≡ 3) × (half_its_unit (cut 2 ∷ []) ≡ 4)
unfolding value fits_width floor_by format_check word_check narrower_check ran_by cut_word depths turns is_odd
just_closer = (refl, refl)
