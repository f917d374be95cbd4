-- Wrong answers: rows of a writing or a reading and an answer that it must not give, each tried against the definition by one computed
-- test. With the uniqueness of each contract this shuts them out of the code.
use Prim.Native.Nat.{ℕ}
use mathlib.Core.Bool.{Bool, true, not, ◌&&◌}
use mathlib.Core.List.{List, [], ◌∷◌, ◌++◌}
use mathlib.Core.Path.{◌≡◌, refl}
use lib.Dec.{eqb}
use lib.IntN.{ℤ, pos, negsuc}
use lib.ListN.{length, get_or, replicate}
use Rattle.integers.specs.Numbers.{fits_width, floor_by, lowest, digit}
use Rattle.integers.specs.Lists.{first_bad, all}
use Rattle.integers.specs.Bytes.{same_bytes}
use Rattle.words.specs.Refusals.{number_of, format_check, word_check, lent_after, write_answer}
use Rattle.words.specs.Flat.{Flat, flat, laid_flat, same_flat, round_bit_at as at, done, refused}
use Rattle.words.specs.Kinds.{RoundBitWord}
use Rattle.digit_text.specs.Digits.{plus, none, minus, signed_digit, byte_of, digit_of, byte_at, text, text_value, sign_before, write_check, write_of}
use Rattle.digit_text.specs.Digits.{buffer_of}
use Rattle.digit_text.specs.Reading.{strange_at, repeats_at, strange_place, repeat_place, fault_check, read_check, place_of, read_round, read_word, read_of}

-- of a writing: the number of its outcome, the count and the whole buffer; of a reading: outcome, word and place
data Row : Type 0 where
  write : RoundBitWord → List ℕ → ℕ → ℕ → List ℕ → Row
  read : List ℕ → ℤ → Flat → ℕ → Row

abbrev differs : Row → Bool
differs (write w buffer o n after) =
    let a = write_of w (length buffer) in
    not (eqb (number_of a.outcome) o && eqb a.count n && same_bytes (buffer_of w buffer) after)
differs (read t e x k) =
    let a = read_of t e in
    not (same_flat (laid_flat a.outcome a.word.number.0 a.word.number.1 a.word.format) x && eqb a.place k)

-- of each way the three stand-ins: one that refuses, one that gives a fixed answer, one that copies its input through. (2,0) of width 3
-- is `+-0`: a writer that leaves the lent bytes as they are copies, a reader that takes the first byte for a number too
abbrev stand_ins : List Row
stand_ins =
    write (at 3 (pos 2) 0) (9 ∷ 9 ∷ 9 ∷ 9 ∷ []) 10 0 (9 ∷ 9 ∷ 9 ∷ 9 ∷ [])
    ∷ write (at 3 (pos 2) 0) (9 ∷ 9 ∷ 9 ∷ 9 ∷ []) 0 3 (none ∷ none ∷ none ∷ 9 ∷ [])
    ∷ write (at 3 (pos 2) 0) (9 ∷ 9 ∷ 9 ∷ 9 ∷ []) 0 3 (9 ∷ 9 ∷ 9 ∷ 9 ∷ [])
    ∷ read (plus ∷ minus ∷ []) (pos 0) (refused 9) 1
    ∷ read (plus ∷ minus ∷ []) (pos 0) (refused 0) 0
    ∷ read (plus ∷ minus ∷ []) (pos 0) (done 2 (pos plus) 0) 0
    ∷ []

abbrev mistakes : List Row
mistakes =
    -- (2,0) of width 3 is `+-0` and (0,1) `00+`: least significant first; r taken for 0; one byte more
    write (at 3 (pos 2) 0) (9 ∷ 9 ∷ 9 ∷ 9 ∷ []) 0 3 (none ∷ minus ∷ plus ∷ 9 ∷ [])
    ∷ write (at 3 (pos 0) 1) (9 ∷ 9 ∷ 9 ∷ 9 ∷ []) 0 3 (none ∷ none ∷ none ∷ 9 ∷ [])
    ∷ write (at 3 (pos 2) 0) (9 ∷ 9 ∷ 9 ∷ 9 ∷ []) 0 3 (plus ∷ minus ∷ none ∷ none ∷ [])
    -- the picture drawn wrong: top and bottom exchanged; of (-2,1), `0-+`, the doubled row without the round bit, and with r = 1 in (2,0)
    ∷ write (at 3 (pos 2) 0) (9 ∷ 9 ∷ 9 ∷ 9 ∷ []) 0 3 (minus ∷ plus ∷ none ∷ 9 ∷ [])
    ∷ write (at 3 (negsuc 1) 1) (9 ∷ 9 ∷ 9 ∷ 9 ∷ []) 0 3 (none ∷ minus ∷ none ∷ 9 ∷ [])
    ∷ write (at 3 (pos 2) 0) (9 ∷ 9 ∷ 9 ∷ 9 ∷ []) 0 3 (plus ∷ minus ∷ plus ∷ 9 ∷ [])
    -- a refusal that writes what there is room for; one that answers a count
    ∷ write (at 3 (pos 2) 0) (9 ∷ 9 ∷ []) 10 0 (plus ∷ minus ∷ [])
    ∷ write (at 3 (pos 2) 0) (9 ∷ 9 ∷ []) 10 3 (9 ∷ 9 ∷ [])
    -- a last `+` read with round bit 0; repeated signs let through over a zero; a strange byte taken for 0
    ∷ read (none ∷ plus ∷ []) (pos 0) (done 2 (pos 1) 0) 0
    ∷ read (plus ∷ none ∷ plus ∷ []) (pos 0) (done 3 (pos 4) 1) 0
    ∷ read (plus ∷ 120 ∷ []) (pos 0) (done 2 (pos 1) 1) 0
    -- all zeros as the other word that is nothing
    ∷ read (none ∷ none ∷ []) (pos 0) (done 2 (negsuc 0) 1) 0
    ∷ []

-- the right cause and another place: of `+0+` the first of the two signs; of `++00` counted from the right; of `++` counted from 1; of
-- `++++` the rightmost repeat, of ` + ` the rightmost blank; of `++ `, which has both faults, the repeat; left behind by a done `+-`, by
-- the 1 of 64 bytes, by the 2 of a wrong unit
abbrev misplaced : List Row
misplaced =
    read (plus ∷ none ∷ plus ∷ []) (pos 0) (refused 9) 0
    ∷ read (plus ∷ plus ∷ none ∷ none ∷ []) (pos 0) (refused 9) 2
    ∷ read (plus ∷ plus ∷ []) (pos 0) (refused 9) 2
    ∷ read (plus ∷ plus ∷ plus ∷ plus ∷ []) (pos 0) (refused 9) 3
    ∷ read (32 ∷ plus ∷ 32 ∷ []) (pos 0) (refused 13) 2
    ∷ read (plus ∷ plus ∷ 32 ∷ []) (pos 0) (refused 13) 1
    ∷ read (plus ∷ minus ∷ []) (pos 0) (done 2 (pos 1) 0) 2
    ∷ read (replicate 64 120) (pos 0) (refused 1) 64
    ∷ read (plus ∷ plus ∷ []) (pos 128) (refused 2) 1
    -- a strange byte as it was, by 9; a word beside the 13
    ∷ read (plus ∷ 32 ∷ []) (pos 0) (refused 9) 1
    ∷ read (plus ∷ 32 ∷ []) (pos 0) (flat 13 (pos 1) 1 2 (pos 0)) 1
    -- the causes in another order: 9 before 13, where the repeat stands first and where it stands last; 9 and 13 before 2; 2, 9 and 13
    -- before 1
    ∷ read (plus ∷ plus ∷ 32 ∷ []) (pos 0) (refused 9) 1
    ∷ read (32 ∷ plus ∷ plus ∷ []) (pos 0) (refused 9) 2
    ∷ read (plus ∷ plus ∷ []) (pos 128) (refused 9) 1
    ∷ read (plus ∷ 32 ∷ []) (pos 128) (refused 13) 1
    ∷ read (replicate 64 none) (pos 128) (refused 2) 0
    ∷ read (replicate 64 plus) (pos 0) (refused 9) 1
    ∷ read (replicate 64 120) (pos 0) (refused 13) 0
    ∷ []

abbrev wrong : List Row
wrong = stand_ins ++ mistakes ++ misplaced

all_wrong : all (length wrong) (λ k. differs (get_or wrong k (read [] (pos 0) (refused 1) 0))) ≡ true
unfolding first_bad fits_width floor_by lowest digit format_check word_check signed_digit byte_of digit_of byte_at text_value sign_before write_answer
    lent_after text write_check write_of buffer_of strange_at repeats_at strange_place repeat_place fault_check read_check place_of read_round read_word read_of
all_wrong = refl
