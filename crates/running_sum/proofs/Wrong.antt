-- Wrong answers: rows of a call, the sum that it is made on, and an answer that it must not give, each tried against the definition by one
-- computed test. With the uniqueness of each contract this shuts them out of the code.
use Prim.Native.Nat.{ℕ}
use mathlib.Core.Bool.{Bool, true, not, ◌&&◌}
use mathlib.Core.List.{List, [], ◌∷◌, ◌++◌}
use mathlib.Core.Path.{◌≡◌, refl}
use lib.Dec.{eqb}
use lib.IntN.{ℤ, pos, negsuc}
use lib.ListN.{length, get_or}
use Rattle.integers.specs.Numbers.{fits_width, floor_by, lowest, digit, digits_below, low_digits}
use Rattle.integers.specs.Lists.{first_bad, all}
use Rattle.words.specs.Refusals.{format_check, word_check}
use Rattle.words.specs.Formats.{format, narrower_check}
use Rattle.words.specs.RoundBit.{round_bit_word, round_bit_fitted}
use Rattle.words.specs.Flat.{Flat, flat, laid_flat, same_flat, round_bit_at, refused as no_word}
use Rattle.words.specs.Outcomes.{Outcome}
use Rattle.words.specs.Kinds.{RoundBitWord}
use Rattle.round_bit.specs.Cuts.{cut_by, rest_word}
use Rattle.round_bit.specs.Arithmetic.{sum_word}
use Rattle.running_sum.specs.declared.RunningSum.{RunningSum}
use Rattle.running_sum.specs.Steps.{blank, made, depth_check, open_answer, open_of, Call, put, hand_out, empty, stepped, put_check, step_of}

-- an answer laid flat: outcome and word, then what is kept (with no outcome of its own) and the depth
record Answer : Type 0 where
  word : Flat
  kept : Flat
  depth : ℕ

abbrev laid : Outcome → RoundBitWord → RunningSum → Answer
laid o w s = record {
  word = laid_flat o w.number.0 w.number.1 w.format;
  kept = flat 0 s.kept.number.0 s.kept.number.1 s.kept.format.width s.kept.format.unit;
  depth = s.depth;
}

data Row : Type 0 where
  opening : ℕ → ℤ → ℕ → Answer → Row
  call : RunningSum → Call → Answer → Row

abbrev answer : Row → Answer
answer (opening n e d x) = let a = open_of n e d in laid a.outcome blank a.sum
answer (call s c x) = let t = step_of s c in laid t.outcome t.word t.sum

abbrev claimed : Row → Answer
claimed (opening n e d x) = x
claimed (call s c x) = x

-- a word of width 8 and unit 0, a sum that keeps it at depth 2, and answers about such
abbrev at : ℤ → ℕ → RoundBitWord
at a r = round_bit_at 8 a r

abbrev keeps : ℤ → ℕ → RunningSum
keeps a r = made (at a r) 2

abbrev gives : Flat → ℤ → ℕ → Answer
gives w a r = record { word = w; kept = flat 0 a r 8 (pos 0); depth = 2 }

abbrev coarse : ℤ → ℕ → Flat
coarse a r = flat 0 a r 6 (pos 2)

-- refused by a number with the sum as it was, of a kept word, width, unit and depth
abbrev refuses : ℕ → RunningSum → Answer
refuses o s =
    record { word = no_word o; kept = flat 0 s.kept.number.0 s.kept.number.1 s.kept.format.width s.kept.format.unit; depth = s.depth }

-- a sum of width n and unit e that keeps (a, r) at a depth
abbrev sum_at : ℕ → ℤ → ℕ → ℤ → ℕ → RunningSum
sum_at n e d a r = made (round_bit_word a r (format n e)) d

-- of each call the three stand-ins: one that refuses, one that gives a fixed answer, one that copies the sum through and reports done
abbrev stand_ins : List Row
stand_ins =
    opening 8 (pos 0) 2 (record { word = no_word 5; kept = no_word 0; depth = 0 })
    ∷ opening 8 (pos 0) 2 (record { word = no_word 0; kept = no_word 0; depth = 0 })
    -- an opening has no sum to copy; this one copies a depth that it refuses
    ∷ opening 8 (pos 0) 7 (record { word = no_word 0; kept = flat 0 (pos 0) 0 8 (pos 0); depth = 7 })
    ∷ call (keeps (pos 3) 0) (put (at (pos 3) 0)) (refuses 8 (keeps (pos 3) 0))
    ∷ call (keeps (pos 3) 0) (put (at (pos 3) 0)) (gives (no_word 0) (pos 0) 0)
    -- works on the first call and afterwards only reports done
    ∷ call (keeps (pos 3) 0) (put (at (pos 3) 0)) (gives (no_word 0) (pos 3) 0)
    ∷ call (keeps (pos 3) 0) hand_out (refuses 5 (keeps (pos 3) 0))
    ∷ call (keeps (pos 3) 0) hand_out (gives (no_word 0) (pos 0) 0)
    ∷ call (keeps (pos 3) 0) hand_out (gives (coarse (pos 0) 1) (pos 3) 0)
    ∷ call (keeps (pos 3) 1) empty (refuses 5 (keeps (pos 3) 1))
    ∷ call (keeps (pos 3) 1) empty (gives (no_word 0) (pos 0) 0)
    ∷ call (keeps (pos 3) 1) empty (gives (flat 0 (pos 3) 1 8 (pos 0)) (pos 3) 1)
    ∷ []

abbrev mistakes : List Row
mistakes =
    -- opened with something kept already; a refused opening that hands out a sum which works
    opening 8 (pos 0) 2 (gives (no_word 0) (pos 0) 1)
    ∷ opening 8 (pos 0) 7 (record { word = no_word 5; kept = flat 0 (pos 0) 0 8 (pos 0); depth = 7 })
    -- the round bit lost; a refused put that clears the round bit
    ∷ call (keeps (negsuc 1) 0) (put (at (pos 0) 1)) (gives (no_word 0) (negsuc 1) 0)
    ∷ call (keeps (pos 127) 1) (put (at (pos 1) 0)) (gives (no_word 8) (pos 127) 0)
    -- the rest without the old round bit; the blank word, done, where kept's round bit is 1
    ∷ call (keeps (negsuc 1) 1) hand_out (gives (coarse (negsuc 0) 1) (negsuc 1) 0)
    ∷ call (keeps (negsuc 1) 1) hand_out (gives (no_word 0) (negsuc 1) 1)
    -- keeps a unit; hands out the cut instead of the word
    ∷ call (keeps (pos 3) 1) empty (gives (flat 0 (pos 3) 1 8 (pos 0)) (pos 1) 0)
    ∷ call (keeps (pos 3) 1) empty (gives (coarse (pos 0) 1) (pos 0) 0)
    ∷ []

-- orders of causes: a sum and a word with two faults, refused for the later one
abbrev orders : List Row
orders =
    -- the word's 1 before kept's 3; 4, 5 and 8 before the word's 3
    call (sum_at 8 (pos 0) 2 (pos 0) 2) (put (round_bit_word (pos 0) 0 (format 1 (pos 0)))) (refuses 1 (sum_at 8 (pos 0) 2 (pos 0) 2))
    ∷ call (keeps (pos 3) 0) (put (round_bit_word (pos 0) 2 (format 7 (pos 0)))) (refuses 4 (keeps (pos 3) 0))
    ∷ call (sum_at 8 (pos 0) 0 (pos 3) 0) (put (at (pos 0) 2)) (refuses 5 (sum_at 8 (pos 0) 0 (pos 3) 0))
    ∷ call (keeps (pos 127) 0) (put (at (pos 1) 2)) (refuses 8 (keeps (pos 127) 0))
    -- 5 and 7 before 4; 8 before 5 and before 7; 7 before 5
    ∷ call (sum_at 8 (pos 0) 0 (pos 3) 0) (put (round_bit_at 7 (pos 3) 0)) (refuses 5 (sum_at 8 (pos 0) 0 (pos 3) 0))
    ∷ call (sum_at 8 (pos 126) 2 (pos 3) 0) (put (at (pos 3) 0)) (refuses 7 (sum_at 8 (pos 126) 2 (pos 3) 0))
    ∷ call (sum_at 8 (pos 0) 0 (pos 127) 0) (put (at (pos 1) 0)) (refuses 8 (sum_at 8 (pos 0) 0 (pos 127) 0))
    ∷ call (sum_at 8 (pos 126) 2 (pos 127) 0) (put (round_bit_word (pos 1) 0 (format 8 (pos 126)))) (refuses 8 (sum_at 8 (pos 126) 2 (pos 127) 0))
    ∷ call (sum_at 8 (pos 127) 7 (pos 3) 0) (put (round_bit_word (pos 1) 0 (format 8 (pos 127)))) (refuses 7 (sum_at 8 (pos 127) 7 (pos 3) 0))
    -- 5 before kept's 3, of a hand-out and of an emptying
    ∷ call (sum_at 8 (pos 0) 0 (pos 0) 2) hand_out (refuses 5 (sum_at 8 (pos 0) 0 (pos 0) 2))
    ∷ call (sum_at 8 (pos 0) 0 (pos 0) 2) empty (refuses 5 (sum_at 8 (pos 0) 0 (pos 0) 2))
    ∷ []

abbrev wrong : List Row
wrong = stand_ins ++ mistakes ++ orders

abbrev same_answer : Answer → Answer → Bool
same_answer a b = same_flat a.word b.word && same_flat a.kept b.kept && eqb a.depth b.depth

abbrev differs : Row → Bool
differs r = not (same_answer (answer r) (claimed r))

all_wrong : all (length wrong) (λ k. differs (get_or wrong k (opening 8 (pos 0) 2 (gives (no_word 0) (pos 0) 0)))) ≡ true
unfolding first_bad fits_width floor_by lowest digit digits_below low_digits format_check word_check narrower_check round_bit_fitted cut_by rest_word sum_word
    depth_check open_answer open_of stepped put_check step_of
all_wrong = refl
