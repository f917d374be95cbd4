-- Runs of cuts and sign changes, computed from the definitions: ends worked out by hand from document 01, ends that a run must not have, how far an
-- end may be off, and even cuts, which are not part of this. Assumes nothing.
-- Proved here: `ends_right`, `ends_wrong`, `blank_goes_on`, `just_half`, `not_strictly`, `cut_then_even`, `even_then_even`, `even_twice_at_4`.
use Prim.Native.Nat.{ℕ}
use native.Mathlib.Omega.{arith}
use mathlib.Core.Path.{◌≡◌, refl}
use mathlib.Core.Bool.{Bool, true, not}
use mathlib.Core.List.{List, [], ◌∷◌}
use lib.IntN.{ℤ, pos, negsuc, ◌-ℤ◌}
use Rattle.integers.specs.Numbers.{fits_width, floor_by, lowest, digit}
use Rattle.integers.specs.Lists.{first_bad, all}
use Rattle.words.specs.Words.{value}
use Rattle.words.specs.Refusals.{number_of, format_check, word_check}
use Rattle.words.specs.Formats.{format, narrower_check}
use Rattle.words.specs.RoundBit.{round_bit_word, round_bit_value, round_bit_check, round_bit_done}
use Rattle.words.specs.Flat.{Flat, flat, laid_flat, same_flat, round_bit_at as at, done, refused}
use Rattle.words.specs.Moves.{Move, cut, sign_change, ran_by, depths, turns, is_odd, half_its_unit, far_from, Closer, ClaimedBy}
use Rattle.words.specs.declared.Format.{Format}
use Rattle.words.specs.Outcomes.{Outcome}
use Rattle.words.specs.Outcomes.{Done}
use Rattle.words.specs.Kinds.{RoundBitWord}
use Rattle.words.proofs.Moves.{move_done}
use Rattle.words.proofs.Runs.{Run, run, ends_in, all_runs}
use Rattle.words.specs.Kinds.{RoundBitCutAnswer}
use Rattle.words.specs.Answers.{cut_answer}
use Rattle.round_bit.specs.Cuts.{sign_change_word, cut_by, cut_of, even_round_bit, even_cut_of}
use Rattle.round_bit.specs.Moves.{moved, ran}

abbrev flat_word : Outcome → RoundBitWord → Flat
flat_word o w = laid_flat o w.number.0 w.number.1 w.format

abbrev ends : Run RoundBitWord → Bool
ends r = ends_in moved flat_word r

-- (5,0) in width 5, in the last unit but one
abbrev near_end : RoundBitWord
near_end = round_bit_word (pos 5) 0 (format 5 (pos 126))

abbrev right : List (Run RoundBitWord)
right =
    -- P6's word, (-718,0): by 1 it is (-359,0), turned (358,1), by 1 again (179,0); at once by 2 it is (-180,1), turned (179,0)
    run (at 11 (negsuc 717) 0) (cut 1 ∷ sign_change ∷ cut 1 ∷ []) (flat 0 (pos 179) 0 9 (pos 2))
    ∷ run (at 11 (negsuc 717) 0) (cut 2 ∷ sign_change ∷ []) (flat 0 (pos 179) 0 9 (pos 2))
    -- turned twice: (-180,1)
    ∷ run (at 11 (negsuc 717) 0) (sign_change ∷ cut 1 ∷ sign_change ∷ cut 1 ∷ []) (flat 0 (negsuc 179) 1 9 (pos 2))
    -- no moves, and moves that cut nothing: the word, with its round bit
    ∷ run (at 5 (pos 4) 1) [] (done 5 (pos 4) 1)
    ∷ run (at 5 (pos 4) 1) (cut 0 ∷ sign_change ∷ cut 0 ∷ sign_change ∷ []) (done 5 (pos 4) 1)
    -- down to 2 digits; one more is 5, and so is what comes after it
    ∷ run (at 4 (pos 5) 1) (cut 1 ∷ sign_change ∷ cut 1 ∷ []) (flat 0 (negsuc 1) 1 2 (pos 2))
    ∷ run (at 4 (pos 5) 1) (cut 1 ∷ sign_change ∷ cut 2 ∷ sign_change ∷ []) (refused 5)
    -- the unit leaves its range by the first cut, which is 7; at once 2 digits do not remain, which is 5
    ∷ run near_end (cut 2 ∷ cut 2 ∷ []) (refused 7)
    ∷ run near_end (cut 4 ∷ []) (refused 5)
    ∷ run near_end (cut 1 ∷ sign_change ∷ []) (flat 0 (negsuc 2) 0 4 (pos 127))
    -- the narrowest width in the last unit, (-2,1): turned (1,0), cut by nothing (1,0), turned (-2,1), turned (1,0)
    ∷ run (round_bit_word (negsuc 1) 1 (format 2 (pos 127))) (sign_change ∷ cut 0 ∷ sign_change ∷ sign_change ∷ []) (flat 0 (pos 1) 0 2 (pos 127))
    -- the widest width in the first unit, (-1,1), worth 0: all its digits are 1, so by 61 it is (-1,1), turned (0,0)
    ∷ run (round_bit_word (negsuc 0) 1 (format 63 (negsuc 126))) (cut 61 ∷ sign_change ∷ []) (flat 0 (pos 0) 0 2 (negsuc 65))
    -- a depth of 2^64, which C cannot hand over
    ∷ run (at 5 (pos 5) 0) (sign_change ∷ cut 18446744073709551616 ∷ []) (refused 5)
    -- a word that is not right is refused by the first move
    ∷ run (at 5 (pos 16) 0) (sign_change ∷ cut 1 ∷ []) (refused 3)
    ∷ []

abbrev wrong : List (Run RoundBitWord)
wrong =
    -- a turn dropped, or one too many
    run (at 11 (negsuc 717) 0) (cut 1 ∷ sign_change ∷ cut 1 ∷ []) (flat 0 (negsuc 179) 1 9 (pos 2))
    ∷ run (at 11 (negsuc 717) 0) (sign_change ∷ cut 1 ∷ sign_change ∷ cut 1 ∷ []) (flat 0 (pos 179) 0 9 (pos 2))
    -- the round bit dropped by the sign change; the old one kept by the cut
    ∷ run (at 11 (negsuc 717) 0) (cut 2 ∷ sign_change ∷ []) (flat 0 (pos 179) 1 9 (pos 2))
    ∷ run (at 5 (pos 4) 1) (cut 1 ∷ cut 1 ∷ []) (flat 0 (pos 1) 1 3 (pos 2))
    -- each cut rounded for itself: (5,1) is 6, by 1 it is 3, by 1 again 2
    ∷ run (at 5 (pos 5) 1) (cut 1 ∷ cut 1 ∷ []) (flat 0 (pos 2) 0 3 (pos 2))
    -- the last cut alone; the old width, the old unit
    ∷ run (at 11 (negsuc 717) 0) (cut 1 ∷ cut 1 ∷ []) (flat 0 (negsuc 358) 0 10 (pos 1))
    ∷ run (at 11 (negsuc 717) 0) (cut 1 ∷ cut 1 ∷ []) (flat 0 (negsuc 179) 1 10 (pos 2))
    ∷ run (at 11 (negsuc 717) 0) (cut 1 ∷ cut 1 ∷ []) (flat 0 (negsuc 179) 1 9 (pos 1))
    -- the blank word turned after a refusal; the refusal of the cut at once
    ∷ run (at 4 (pos 5) 1) (cut 1 ∷ cut 2 ∷ sign_change ∷ []) (flat 5 (negsuc 0) 1 2 (pos 0))
    ∷ run near_end (cut 2 ∷ cut 2 ∷ []) (refused 5)
    ∷ []

ends_right : all_runs ends (run near_end [] (refused 0)) right ≡ true
unfolding first_bad fits_width floor_by lowest digit format_check word_check narrower_check ran_by sign_change_word cut_by
ends_right = refl

ends_wrong : all_runs (λ r. not (ends r)) (run near_end [] (refused 0)) wrong ≡ true
unfolding first_bad fits_width floor_by lowest digit format_check word_check narrower_check ran_by sign_change_word cut_by
ends_wrong = refl

-- ---- why a run stops at a refusal: the blank word that a refused move answers is a right one, so whoever goes on from it is told done
blank_goes_on : let refused = ran (at 4 (pos 5) 1) (cut 1 ∷ cut 2 ∷ []) in
    (number_of refused.outcome ≡ 5) × (moved refused.word sign_change ≡ move_done (round_bit_word (negsuc 0) 1 (format 2 (pos 0))))
unfolding fits_width floor_by lowest digit format_check word_check narrower_check ran_by sign_change_word cut_by
blank_goes_on = (refl, refl)

-- ---- (1,0) by 1 is (0,1): 1 unit came out as 2, which is just half of the new one. So "within" cannot be made strict
just_half : far_from round_bit_value (at 5 (pos 1) 0) (cut 1 ∷ []) (ran (at 5 (pos 1) 0) (cut 1 ∷ [])).word ≡ half_its_unit (cut 1 ∷ [])
unfolding value fits_width floor_by lowest digit format_check word_check narrower_check ran_by cut_by depths turns is_odd
just_half = refl

not_strictly :
    ((w : RoundBitWord) (moves : List Move) → round_bit_check w ≡ Done → ClaimedBy moved round_bit_value (λ v. v.format) Closer w moves (ran w moves)) → ⊥
unfolding fits_width floor_by lowest digit format_check word_check depths
not_strictly strict =
    let near = ((strict (at 5 (pos 1) 0) (cut 1 ∷ []) refl).provided (record { digits = omega arith; range = refl })).near in
    omega (arith, near, just_half)

-- ---- even cuts
abbrev even_done : ℤ → ℕ → Format → RoundBitCutAnswer
even_done a r f = cut_answer (round_bit_done (round_bit_word a r f))

-- (2,1) at width 4: cut by 1 it is (1,0), and even cut by 1 then (0,0); even cut at once by 2 it is (0,1)
cut_then_even : (even_cut_of (cut_of (at 4 (pos 2) 1) 1).word 1 ≡ even_done (pos 0) 0 (format 2 (pos 2)))
    × (even_cut_of (at 4 (pos 2) 1) 2 ≡ even_done (pos 0) 1 (format 2 (pos 2)))
unfolding fits_width floor_by lowest digit format_check word_check narrower_check cut_by even_round_bit
cut_then_even = (refl, refl)

-- (5,0) at width 5: even cut by 1 it is (2,0), and by 2 then (0,0); at once by 3 it is (0,1)
even_then_even : (even_cut_of (even_cut_of (at 5 (pos 5) 0) 1).word 2 ≡ even_done (pos 0) 0 (format 2 (pos 3)))
    × (even_cut_of (at 5 (pos 5) 0) 3 ≡ even_done (pos 0) 1 (format 2 (pos 3)))
unfolding fits_width floor_by lowest digit format_check word_check narrower_check cut_by even_round_bit
even_then_even = (refl, refl)

-- every word of width 4, by 1 and 1, the only two cuts that it takes: there an even cut after an even cut is one still
abbrev twice : ℕ → ℕ → Bool
twice k r =
    let w = at 4 (pos k -ℤ pos 8) r in
    let a = even_cut_of (even_cut_of w 1).word 1 in
    let b = even_cut_of w 2 in
    same_flat (flat_word a.outcome a.word) (flat_word b.outcome b.word)

even_twice_at_4 : all 16 (λ k. all 2 (twice k)) ≡ true
unfolding first_bad fits_width floor_by lowest digit format_check word_check narrower_check cut_by even_round_bit
even_twice_at_4 = refl
