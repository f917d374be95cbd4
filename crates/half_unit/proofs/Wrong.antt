-- Wrong answers: rows of an operation, its arguments and an answer that it must not give, each tried against the definition by one
-- computed test. With the uniqueness of each contract this shuts them out of the code.
use Prim.Native.Nat.{ℕ}
use mathlib.Core.Bool.{Bool, true, not}
use mathlib.Core.List.{List, [], ◌∷◌, ◌++◌}
use mathlib.Core.Path.{◌≡◌, refl}
use lib.IntN.{pos, negsuc}
use lib.ListN.{length, get_or}
use Rattle.integers.specs.Numbers.{fits_width, floor_by, lowest, cleared, digit, any_below}
use Rattle.integers.specs.Lists.{first_bad, all}
use Rattle.words.specs.Refusals.{format_check, word_check}
use Rattle.words.specs.Formats.{narrower_check, answer_check}
use Rattle.words.specs.HalfUnit.{half_unit_fitted}
use Rattle.words.specs.Flat.{Flat, flat, laid_flat, flat_plain, flat_round_bit, flat_half_unit, same_flat, plain_at, round_bit_at, half_unit_at as at, done}
use Rattle.words.specs.Flat.{refused}
use Rattle.words.specs.Kinds.{PlainWord}
use Rattle.words.specs.Kinds.{RoundBitWord}
use Rattle.words.specs.Kinds.{HalfUnitWord}
use Rattle.half_unit.specs.Cuts.{sign_change_word, sign_change_of, cut_word, cut_of}
use Rattle.half_unit.specs.Conversions.{from_plain_up_word, from_plain_up_of, even_floor, from_plain_even_word, from_plain_even_of}
use Rattle.half_unit.specs.Conversions.{to_plain_word, to_plain_of, to_round_bit_word, to_round_bit_of, from_round_bit_word, from_round_bit_of}
use Rattle.half_unit.specs.Arithmetic.{sum_up_word, sum_up_of, sum_even_word, sum_even_of, multiplied, product_word, product_of}

data Row : Type 0 where
  sign_change to_plain to_round_bit : HalfUnitWord → Flat → Row
  cut : HalfUnitWord → ℕ → Flat → Row
  from_plain_up from_plain_even : PlainWord → ℕ → Flat → Row
  from_round_bit : RoundBitWord → Flat → Row
  sum_up sum_even product : HalfUnitWord → HalfUnitWord → Flat → Row

abbrev answer : Row → Flat
answer (sign_change w x) = flat_half_unit (sign_change_of w)
answer (to_plain w x) = flat_plain (to_plain_of w)
answer (to_round_bit w x) = flat_round_bit (to_round_bit_of w)
answer (cut w d x) = let a = cut_of w d in laid_flat a.outcome a.word.number.0 0 a.word.format
answer (from_plain_up w d x) = flat_half_unit (from_plain_up_of w d)
answer (from_plain_even w d x) = flat_half_unit (from_plain_even_of w d)
answer (from_round_bit w x) = flat_half_unit (from_round_bit_of w)
answer (sum_up v w x) = flat_half_unit (sum_up_of v w)
answer (sum_even v w x) = flat_half_unit (sum_even_of v w)
answer (product v w x) = flat_half_unit (product_of v w)

abbrev claimed : Row → Flat
claimed (sign_change w x) = x
claimed (to_plain w x) = x
claimed (to_round_bit w x) = x
claimed (cut w d x) = x
claimed (from_plain_up w d x) = x
claimed (from_plain_even w d x) = x
claimed (from_round_bit w x) = x
claimed (sum_up v w x) = x
claimed (sum_even v w x) = x
claimed (product v w x) = x

-- a stand-in that reports done and answers the blank word, whatever it is handed
abbrev fixed : Flat
fixed = refused 0

-- of each operation the three stand-ins: one that refuses, one that answers a fixed word, one that copies its input through
abbrev stand_ins : List Row
stand_ins =
    sign_change (at 5 (pos 3)) (refused 3)
    ∷ sign_change (at 5 (pos 3)) fixed
    ∷ sign_change (at 5 (pos 3)) (done 5 (pos 3) 0)
    ∷ cut (at 5 (pos 4)) 1 (refused 5)
    ∷ cut (at 5 (pos 4)) 1 fixed
    ∷ cut (at 5 (pos 4)) 1 (done 5 (pos 4) 0)
    ∷ from_plain_up (plain_at 5 (pos 6)) 1 (refused 5)
    ∷ from_plain_up (plain_at 5 (pos 6)) 1 fixed
    ∷ from_plain_up (plain_at 5 (pos 6)) 1 (done 5 (pos 6) 0)
    ∷ from_plain_even (plain_at 5 (pos 6)) 1 (refused 5)
    ∷ from_plain_even (plain_at 5 (pos 6)) 1 fixed
    ∷ from_plain_even (plain_at 5 (pos 6)) 1 (done 5 (pos 6) 0)
    ∷ to_plain (at 5 (pos 3)) (refused 6)
    ∷ to_plain (at 5 (pos 3)) fixed
    ∷ to_plain (at 5 (pos 3)) (done 5 (pos 3) 0)
    ∷ to_round_bit (at 5 (pos 3)) (refused 6)
    ∷ to_round_bit (at 5 (pos 3)) fixed
    ∷ to_round_bit (at 5 (pos 3)) (done 5 (pos 3) 0)
    ∷ from_round_bit (round_bit_at 5 (pos 3) 1) (refused 6)
    ∷ from_round_bit (round_bit_at 5 (pos 3) 1) fixed
    ∷ from_round_bit (round_bit_at 5 (pos 3) 1) (done 5 (pos 3) 0)
    ∷ sum_up (at 5 (pos 5)) (at 5 (pos 3)) (refused 4)
    ∷ sum_up (at 5 (pos 5)) (at 5 (pos 3)) fixed
    ∷ sum_up (at 5 (pos 5)) (at 5 (pos 3)) (done 5 (pos 5) 0)
    ∷ sum_even (at 5 (pos 5)) (at 5 (pos 3)) (refused 4)
    ∷ sum_even (at 5 (pos 5)) (at 5 (pos 3)) fixed
    ∷ sum_even (at 5 (pos 5)) (at 5 (pos 3)) (done 5 (pos 5) 0)
    ∷ product (at 5 (pos 5)) (at 5 (pos 2)) (refused 6)
    ∷ product (at 5 (pos 5)) (at 5 (pos 2)) fixed
    ∷ product (at 5 (pos 5)) (at 5 (pos 2)) (done 5 (pos 5) 0)
    ∷ []

-- and the mistakes that were met, or are near
abbrev mistakes : List Row
mistakes =
    -- -w for -1-w; division toward zero; the even rule for the up rule
    sign_change (at 5 (pos 3)) (done 5 (negsuc 2) 0)
    ∷ cut (at 5 (negsuc 2)) 1 (flat 0 (negsuc 0) 0 4 (pos 1))
    ∷ from_plain_up (plain_at 5 (pos 6)) 1 (flat 0 (pos 2) 0 4 (pos 1))
    -- the up rule; the digit cleared always; at depth 0 not cleared
    ∷ from_plain_even (plain_at 5 (pos 6)) 1 (flat 0 (pos 3) 0 4 (pos 1))
    ∷ from_plain_even (plain_at 5 (pos 7)) 1 (flat 0 (pos 2) 0 4 (pos 1))
    ∷ from_plain_even (plain_at 5 (pos 7)) 0 (done 5 (pos 7) 0)
    -- the half forgotten; the old width
    ∷ to_plain (at 5 (pos 3)) (flat 0 (pos 6) 0 6 (negsuc 0))
    ∷ to_plain (at 5 (pos 3)) (flat 0 (pos 7) 0 5 (negsuc 0))
    -- round bit 1 for the half; the old unit
    ∷ to_round_bit (at 5 (pos 3)) (flat 0 (pos 6) 1 6 (negsuc 0))
    ∷ to_round_bit (at 5 (pos 3)) (flat 0 (pos 7) 0 6 (pos 0))
    -- the round bit dropped; the value instead of the interval's middle
    ∷ from_round_bit (round_bit_at 5 (pos 3) 1) (flat 0 (pos 6) 0 6 (negsuc 0))
    ∷ from_round_bit (round_bit_at 5 (pos 3) 1) (flat 0 (pos 8) 0 6 (negsuc 0))
    -- the 1 forgotten; the fit tested before the 1 is added
    ∷ sum_up (at 5 (pos 5)) (at 5 (pos 3)) (done 5 (pos 8) 0)
    ∷ sum_up (at 5 (negsuc 15)) (at 5 (negsuc 0)) (refused 8)
    -- the up rule; cleared when it is even already
    ∷ sum_even (at 5 (pos 5)) (at 5 (pos 3)) (done 5 (pos 9) 0)
    ∷ sum_even (at 5 (pos 5)) (at 5 (pos 2)) (done 5 (pos 6) 0)
    -- the lowest digit lost; a width of n + m - 1
    ∷ product (at 5 (pos 5)) (at 5 (pos 2)) (flat 0 (pos 26) 0 10 (negsuc 0))
    ∷ product (at 5 (pos 5)) (at 5 (pos 2)) (flat 0 (pos 27) 0 9 (negsuc 0))
    ∷ []

abbrev differs : Row → Bool
differs r = not (same_flat (answer r) (claimed r))

abbrev wrong : List Row
wrong = stand_ins ++ mistakes

all_wrong : all (length wrong) (λ k. differs (get_or wrong k (sign_change (at 5 (pos 3)) (refused 3)))) ≡ true
unfolding first_bad fits_width floor_by lowest cleared digit any_below format_check word_check narrower_check answer_check half_unit_fitted sign_change_word
    cut_word from_plain_up_word even_floor from_plain_even_word to_plain_word to_round_bit_word from_round_bit_word sum_up_word sum_even_word multiplied
    product_word
all_wrong = refl
