-- Wrong answers: rows of an operation, its arguments and an answer that it must not give, each tried against the definition by one
-- computed test. With the uniqueness of each contract this shuts them out of the code.
use Prim.Native.Nat.{ℕ}
use mathlib.Core.Bool.{Bool, true, not}
use mathlib.Core.List.{List, [], ◌∷◌, ◌++◌}
use mathlib.Core.Path.{◌≡◌, refl}
use lib.IntN.{pos, negsuc}
use lib.ListN.{length, get_or}
use Rattle.integers.specs.Numbers.{fits_width, floor_by, lowest, digit, digits_below, low_digits}
use Rattle.integers.specs.Lists.{first_bad, all}
use Rattle.words.specs.Refusals.{format_check, word_check}
use Rattle.words.specs.Formats.{narrower_check, answer_check}
use Rattle.words.specs.Plain.{plain_fitted}
use Rattle.words.specs.RoundBit.{round_bit_fitted}
use Rattle.words.specs.Flat.{Flat, flat, laid_flat, flat_plain, flat_round_bit, same_flat, plain_at, round_bit_at as at, done, refused}
use Rattle.words.specs.Kinds.{PlainWord}
use Rattle.words.specs.Kinds.{RoundBitWord}
use Rattle.round_bit.specs.Cuts.{sign_change_word, sign_change_of, cut_by, cut_of, rest_word, rest_of, even_round_bit, even_cut_of, widen_word, widen_of}
use Rattle.round_bit.specs.Arithmetic.{sum_word, sum_of, difference_of, magnitude_product, multiplied}
use Rattle.round_bit.specs.Arithmetic.{product_word, product_of, to_plain_word, to_plain_of, from_plain_word, from_plain_of}

data Row : Type 0 where
  sign_change to_plain : RoundBitWord → Flat → Row
  cut rest even_cut widen : RoundBitWord → ℕ → Flat → Row
  sum difference product : RoundBitWord → RoundBitWord → Flat → Row
  from_plain : PlainWord → Flat → Row

abbrev answer : Row → Flat
answer (sign_change w x) = flat_round_bit (sign_change_of w)
answer (to_plain w x) = flat_plain (to_plain_of w)
answer (cut w d x) = let a = cut_of w d in laid_flat a.outcome a.word.number.0 a.word.number.1 a.word.format
answer (rest w d x) = flat_round_bit (rest_of w d)
answer (even_cut w d x) = let a = even_cut_of w d in laid_flat a.outcome a.word.number.0 a.word.number.1 a.word.format
answer (widen w d x) = flat_round_bit (widen_of w d)
answer (sum v w x) = flat_round_bit (sum_of v w)
answer (difference v w x) = flat_round_bit (difference_of v w)
answer (product v w x) = flat_round_bit (product_of v w)
answer (from_plain w x) = flat_round_bit (from_plain_of w)

abbrev claimed : Row → Flat
claimed (sign_change w x) = x
claimed (to_plain w x) = x
claimed (cut w d x) = x
claimed (rest w d x) = x
claimed (even_cut w d x) = x
claimed (widen w d x) = x
claimed (sum v w x) = x
claimed (difference v w x) = x
claimed (product v w x) = x
claimed (from_plain w x) = x

-- a stand-in that reports done and answers the blank word, whatever it is handed
abbrev fixed : Flat
fixed = refused 0

-- of each operation the three stand-ins: one that refuses, one that answers a fixed word, one that copies its input through
abbrev stand_ins : List Row
stand_ins =
    sign_change (at 5 (pos 3) 1) (refused 3)
    ∷ sign_change (at 5 (pos 3) 1) fixed
    ∷ sign_change (at 5 (pos 3) 1) (done 5 (pos 3) 1)
    ∷ cut (at 5 (pos 4) 1) 1 (refused 5)
    ∷ cut (at 5 (pos 4) 1) 1 fixed
    ∷ cut (at 5 (pos 4) 1) 1 (done 5 (pos 4) 1)
    ∷ rest (at 5 (pos 6) 1) 2 (refused 5)
    ∷ rest (at 5 (pos 6) 1) 2 fixed
    ∷ rest (at 5 (pos 6) 1) 2 (done 5 (pos 6) 1)
    ∷ even_cut (at 5 (pos 6) 0) 2 (refused 5)
    ∷ even_cut (at 5 (pos 6) 0) 2 fixed
    ∷ even_cut (at 5 (pos 6) 0) 2 (done 5 (pos 6) 0)
    ∷ widen (at 4 (pos 5) 1) 2 (refused 6)
    ∷ widen (at 4 (pos 5) 1) 2 fixed
    ∷ widen (at 4 (pos 5) 1) 2 (done 4 (pos 5) 1)
    ∷ sum (at 5 (pos 3) 1) (at 5 (pos 4) 1) (refused 4)
    ∷ sum (at 5 (pos 3) 1) (at 5 (pos 4) 1) fixed
    ∷ sum (at 5 (pos 3) 1) (at 5 (pos 4) 1) (done 5 (pos 3) 1)
    ∷ difference (at 5 (pos 5) 0) (at 5 (pos 5) 0) (refused 4)
    ∷ difference (at 5 (pos 5) 0) (at 5 (pos 5) 0) fixed
    ∷ difference (at 5 (pos 5) 0) (at 5 (pos 5) 0) (done 5 (pos 5) 0)
    ∷ product (at 5 (pos 11) 1) (at 5 (pos 9) 1) (refused 6)
    ∷ product (at 5 (pos 11) 1) (at 5 (pos 9) 1) fixed
    ∷ product (at 5 (pos 11) 1) (at 5 (pos 9) 1) (done 5 (pos 11) 1)
    ∷ to_plain (at 5 (pos 3) 1) (refused 8)
    ∷ to_plain (at 5 (pos 3) 1) fixed
    ∷ to_plain (at 5 (pos 3) 1) (done 5 (pos 3) 0)
    ∷ from_plain (plain_at 5 (pos 3)) (refused 3)
    ∷ from_plain (plain_at 5 (pos 3)) fixed
    -- the answer of a good word is its copy; a copy of a bad one is not
    ∷ from_plain (plain_at 5 (pos 16)) (done 5 (pos 16) 0)
    ∷ []

-- and the mistakes that were met, or are near
abbrev mistakes : List Row
mistakes =
    -- the digits turned over but for the round bit; the negated number
    sign_change (at 5 (pos 3) 1) (done 5 (negsuc 3) 1)
    ∷ sign_change (at 5 (pos 3) 1) (done 5 (negsuc 2) 0)
    -- division toward zero; the old round bit kept
    ∷ cut (at 11 (negsuc 717) 0) 2 (flat 0 (negsuc 178) 1 9 (pos 2))
    ∷ cut (at 5 (pos 4) 1) 1 (flat 0 (pos 2) 1 4 (pos 1))
    -- without the old round bit; the digits read without their sign
    ∷ rest (at 5 (pos 4) 1) 2 (done 5 (pos 0) 0)
    ∷ rest (at 11 (negsuc 717) 0) 2 (done 11 (pos 2) 0)
    -- a tie rounded up; the plain cut's refusal let through
    ∷ even_cut (at 5 (pos 2) 0) 2 (flat 0 (pos 0) 1 3 (pos 2))
    ∷ even_cut (at 3 (pos 3) 0) 2 (flat 0 (pos 0) 1 1 (pos 2))
    -- the old rule, with the tie looked for at a: (1,1) was 2 and came out 0, (2,1) was 3 and came out 2, (-2,1) was -1 and came out -2
    ∷ even_cut (at 5 (pos 1) 1) 1 (flat 0 (pos 0) 0 4 (pos 1))
    ∷ even_cut (at 5 (pos 2) 1) 1 (flat 0 (pos 1) 0 4 (pos 1))
    ∷ even_cut (at 5 (negsuc 1) 1) 1 (flat 0 (negsuc 0) 0 4 (pos 1))
    -- a tie to the odd side, from an odd floor and from an even one, where it is also a tie rounded up
    ∷ even_cut (at 5 (pos 6) 0) 2 (flat 0 (pos 1) 0 3 (pos 2))
    ∷ even_cut (at 5 (pos 0) 1) 1 (flat 0 (pos 0) 1 4 (pos 1))
    -- the right value with other digits, those of a + r; so also at depth 0
    ∷ even_cut (at 5 (pos 1) 1) 1 (flat 0 (pos 1) 0 4 (pos 1))
    ∷ even_cut (at 5 (pos 1) 1) 0 (done 5 (pos 2) 0)
    -- the round bit dropped in the number, and altogether
    ∷ widen (at 4 (pos 5) 1) 2 (flat 0 (pos 20) 1 6 (negsuc 1))
    ∷ widen (at 4 (pos 5) 1) 2 (flat 0 (pos 20) 0 6 (negsuc 1))
    -- the fit tested on the value; the carry of two round bits lost
    ∷ sum (at 5 (negsuc 15) 0) (at 5 (negsuc 0) 1) (done 5 (negsuc 16) 1)
    ∷ sum (at 5 (pos 3) 1) (at 5 (pos 4) 1) (done 5 (pos 7) 1)
    -- x less x as (0,0); the sign change of (-x) + y
    ∷ difference (at 5 (pos 5) 0) (at 5 (pos 5) 0) (done 5 (pos 0) 0)
    ∷ difference (at 5 (pos 0) 0) (at 5 (pos 1) 0) (done 5 (negsuc 0) 0)
    -- a cross term dropped; the sign forgotten
    ∷ product (at 5 (pos 11) 1) (at 5 (pos 9) 1) (done 9 (pos 108) 1)
    ∷ product (at 5 (negsuc 11) 0) (at 5 (pos 9) 1) (done 9 (pos 119) 1)
    -- 2^(n-1) let through; the round bit set
    ∷ to_plain (at 5 (pos 15) 1) (done 5 (pos 16) 0)
    ∷ from_plain (plain_at 5 (pos 3)) (done 5 (pos 3) 1)
    ∷ []

abbrev differs : Row → Bool
differs r = not (same_flat (answer r) (claimed r))

abbrev wrong : List Row
wrong = stand_ins ++ mistakes

all_wrong : all (length wrong) (λ k. differs (get_or wrong k (to_plain (at 5 (pos 3) 1) (refused 3)))) ≡ true
unfolding first_bad fits_width floor_by lowest digit digits_below low_digits format_check word_check narrower_check answer_check plain_fitted round_bit_fitted
    sign_change_word cut_by rest_word even_round_bit widen_word sum_word magnitude_product multiplied product_word to_plain_word from_plain_word
all_wrong = refl
