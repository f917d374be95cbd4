-- Document 01's bench sheet, P1 to P14: one table, and what it is for the table to be right; with
-- it a table of the examples that came with later requests. A line of the sheet is a row; each of
-- its checks compares an entire answer with what the sheet says: the number of the outcome, number,
-- round bit, width and unit, the blank word where it is refused. Widths and units that the sheet
-- leaves to the rules are written as the rules have them, n - d and e + d.
use Rattle.std.specs.Prelude.{ℕ, ◌+◌, ◌-◌, Bool, true, ◌&&◌, List, [], ◌∷◌, ◌++◌, length, eqb, ℤ}
use Rattle.std.specs.Prelude.{pos, negsuc, ◌*ℤ◌}
use Rattle.integers.specs.Names.{eq_z, fits_width, same_bytes}
use Rattle.std.specs.Prelude.{replicate}
use Rattle.words.specs.Outcomes.{Outcome}
use Rattle.words.specs.Outcomes.{Done}
use Rattle.words.specs.Kinds.{PlainWord}
use Rattle.words.specs.Kinds.{RoundBitWord}
use Rattle.words.specs.Kinds.{HalfUnitWord}
use Rattle.words.specs.Refusals.{number_of}
use Rattle.words.specs.RoundBit.{round_bit_value}
use Rattle.words.specs.Flat.{Flat, flat, laid_flat, flat_round_bit, flat_half_unit, same_flat}
use Rattle.words.specs.Flat.{plain_at, round_bit_at, half_unit_at, done, refused}
use Rattle.words.specs.Kinds.{RoundBitCutAnswer}
use Rattle.round_bit.specs.Cuts.{cut_of, rest_of, even_cut_of, widen_of}
use Rattle.round_bit.specs.Arithmetic.{sum_word, sum_of, difference_of, product_of}
use Rattle.half_unit.specs.Conversions.{from_plain_up_of, from_plain_even_of}
use Rattle.half_unit.specs.Arithmetic.{sum_up_of, sum_even_of, product_of as half_product_of}
use Rattle.digit_text.specs.Digits.{write_of, buffer_of}
use Rattle.digit_text.specs.Reading.{read_of}
use Rattle.running_sum.specs.declared.RunningSum.{RunningSum}
use Rattle.running_sum.specs.Steps.{Call, put, hand_out, open_of, step_of}

-- an outcome and a word, laid flat; the answers of a cut and of an even cut; a word alone
abbrev pub flat_of : Outcome → RoundBitWord → Flat
flat_of o w = laid_flat o w.number.0 w.number.1 w.format

abbrev pub flat_cut : RoundBitCutAnswer → Flat
flat_cut a = flat_of a.outcome a.word

abbrev pub flat_even_cut : RoundBitCutAnswer → Flat
flat_even_cut a = flat_of a.outcome a.word

abbrev pub flat_word : RoundBitWord → Flat
flat_word w = flat_of Done w

-- a call on a running sum, what it answers (a put the blank word), and what is then kept
pub data Called : Type 0 where
  called : Call → Flat → Flat → Called

pub data Check : Type 0 where
  -- an operation's operands, and its answer
  sum difference product : RoundBitWord → RoundBitWord → Flat → Check
  cut rest even_cut widen : RoundBitWord → ℕ → Flat → Check
  up even : PlainWord → ℕ → Flat → Check
  sum_up sum_even half_product : HalfUnitWord → HalfUnitWord → Flat → Check
  -- a word, and its value in units
  worth : RoundBitWord → ℤ → Check
  -- a number, and a width that it lies inside
  fits : ℤ → ℕ → Check
  -- a word whose digit text is written, the buffer lent, the buffer then, and the count
  text : RoundBitWord → List ℕ → List ℕ → ℕ → Check
  -- a text that is read at unit 0, its answer and its place
  reading : List ℕ → Flat → ℕ → Check
  -- a running sum's width, unit and depth, and the calls on it in order
  run : ℕ → ℤ → ℕ → List Called → Check

-- the calls answer and keep what the sheet says, each made on the sum that the call before left
abbrev pub ran : RunningSum → List Called → Bool
ran s [] = true
ran s (called c answer kept ∷ more) =
    let t = step_of s c in
    same_flat (flat_of t.outcome t.word) answer && same_flat (flat_word t.sum.kept) kept
    && ran t.sum more

-- by the definitions it is what the sheet says
abbrev pub right : Check → Bool
right (sum x y a) = same_flat (flat_round_bit (sum_of x y)) a
right (difference x y a) = same_flat (flat_round_bit (difference_of x y)) a
right (product x y a) = same_flat (flat_round_bit (product_of x y)) a
right (cut w d a) = same_flat (flat_cut (cut_of w d)) a
right (rest w d a) = same_flat (flat_round_bit (rest_of w d)) a
right (even_cut w d a) = same_flat (flat_even_cut (even_cut_of w d)) a
right (widen w d a) = same_flat (flat_round_bit (widen_of w d)) a
right (up w d a) = same_flat (flat_half_unit (from_plain_up_of w d)) a
right (even w d a) = same_flat (flat_half_unit (from_plain_even_of w d)) a
right (sum_up x y a) = same_flat (flat_half_unit (sum_up_of x y)) a
right (sum_even x y a) = same_flat (flat_half_unit (sum_even_of x y)) a
right (half_product x y a) = same_flat (flat_half_unit (half_product_of x y)) a
right (worth w units) = eq_z (round_bit_value w) (pos 2 *ℤ units)
right (fits x n) = fits_width x n
right (text w lent then count) =
    let a = write_of w (length lent) in
    eqb (number_of a.outcome) 0 && eqb a.count count && same_bytes (buffer_of w lent) then
right (reading t a k) =
    let r = read_of t (pos 0) in
    same_flat (flat_of r.outcome r.word) a && eqb r.place k
right (run n e d calls) =
    let a = open_of n e d in
    eqb (number_of a.outcome) 0 && same_flat (flat_word a.sum.kept) (flat 0 (pos 0) 0 n e)
    && ran a.sum calls

-- the test holds of every member of the list
abbrev pub every : {A : Type 0} → (A → Bool) → List A → Bool
every test [] = true
every test (x ∷ more) = test x && every test more

-- "Width 5, unit 0, unless said."
abbrev pub five : ℤ → ℕ → RoundBitWord
five = round_bit_at 5

abbrev pub half : ℤ → HalfUnitWord
half = half_unit_at 5

-- P6's word; its digit text `-+-0+0-0+-0`; a buffer of one byte more, each of them `?`
abbrev pub word_718 : RoundBitWord
word_718 = round_bit_at 11 (negsuc 717) 0

abbrev pub text_718 : List ℕ
text_718 = 45 ∷ 43 ∷ 45 ∷ 48 ∷ 43 ∷ 48 ∷ 45 ∷ 48 ∷ 43 ∷ 45 ∷ 48 ∷ []

abbrev pub lent_12 : List ℕ
lent_12 = replicate 12 63

-- a put's answer
abbrev pub none : Flat
none = refused 0

abbrev pub bench : List (List Check)
bench =
    -- P1 (3,1)+(4,1) = (8,1).
    (sum (five (pos 3) 1) (five (pos 4) 1) (done 5 (pos 8) 1) ∷ [])
    -- P2 (15,0)+(0,1) = (15,1).
    ∷ (sum (five (pos 15) 0) (five (pos 0) 1) (done 5 (pos 15) 1) ∷ [])
    -- P3 (15,0)+(1,0): 8.
    ∷ (sum (five (pos 15) 0) (five (pos 1) 0) (refused 8) ∷ [])
    -- P4 (-16,0)+(-1,1): 8, though the value -16 would fit.
    ∷ (sum (five (negsuc 15) 0) (five (negsuc 0) 1) (refused 8)
    ∷ worth (sum_word (five (negsuc 15) 0) (five (negsuc 0) 1)) (negsuc 15)
    ∷ fits (negsuc 15) 5
    ∷ [])
    -- P5 (5,0)-(5,0) = (-1,1), value 0.
    ∷ (difference (five (pos 5) 0) (five (pos 5) 0) (done 5 (negsuc 0) 1)
    ∷ worth (difference_of (five (pos 5) 0) (five (pos 5) 0)).word (pos 0)
    ∷ [])
    -- P6 width 11, (-718,0) cut by 2 = (-180,1), rest (-2,0). Digit text before: `-+-0+0-0+-0`.
    ∷ (cut word_718 2 (flat 0 (negsuc 179) 1 (11 - 2) (pos 2))
    ∷ rest word_718 2 (done 11 (negsuc 1) 0)
    ∷ text word_718 lent_12 (text_718 ++ 63 ∷ []) 11
    ∷ [])
    -- P7 width 3 cut by 1 is done; cut by 2 is 5.
    -- It names no word: here it is (0,0), and in proofs/ every word (`width_3_cuts`).
    ∷ (cut (round_bit_at 3 (pos 0) 0) 1 (flat 0 (pos 0) 0 (3 - 1) (pos 1))
    ∷ cut (round_bit_at 3 (pos 0) 0) 2 (refused 5)
    ∷ [])
    -- P8 width 4, (5,1) widened by 2 = (23,1).
    ∷ (widen (round_bit_at 4 (pos 5) 1) 2 (flat 0 (pos 23) 1 (4 + 2) (negsuc 1)) ∷ [])
    -- P9 (11,1) times (9,1) = (119,1), width 9; (-12,0) times (9,1) = (-120,0);
    -- (-1,1) times (9,1) = (-1,1).
    ∷ (product (five (pos 11) 1) (five (pos 9) 1) (done 9 (pos 119) 1)
    ∷ product (five (negsuc 11) 0) (five (pos 9) 1) (done 9 (negsuc 119) 0)
    ∷ product (five (negsuc 0) 1) (five (pos 9) 1) (done 9 (negsuc 0) 1)
    ∷ [])
    -- P10 plain 6, depth 1, to half-unit: up 3, even 2. Plain 7: 3 by both.
    ∷ (up (plain_at 5 (pos 6)) 1 (flat 0 (pos 3) 0 (5 - 1) (pos 1))
    ∷ even (plain_at 5 (pos 6)) 1 (flat 0 (pos 2) 0 (5 - 1) (pos 1))
    ∷ up (plain_at 5 (pos 7)) 1 (flat 0 (pos 3) 0 (5 - 1) (pos 1))
    ∷ even (plain_at 5 (pos 7)) 1 (flat 0 (pos 3) 0 (5 - 1) (pos 1))
    ∷ [])
    -- P11 half-unit 5+3: up 9, even 8.
    ∷ (sum_up (half (pos 5)) (half (pos 3)) (done 5 (pos 9) 0)
    ∷ sum_even (half (pos 5)) (half (pos 3)) (done 5 (pos 8) 0)
    ∷ [])
    -- P12 half-unit 5 times 2 = 27.
    ∷ (half_product (half (pos 5)) (half (pos 2)) (flat 0 (pos 27) 0 (5 + 5) (negsuc 0)) ∷ [])
    -- P13 (6,0) even cut by 2 = (1,1); (2,0) gives (0,0).
    ∷ (even_cut (five (pos 6) 0) 2 (flat 0 (pos 1) 1 (5 - 2) (pos 2))
    ∷ even_cut (five (pos 2) 0) 2 (flat 0 (pos 0) 0 (5 - 2) (pos 2))
    ∷ [])
    -- P14 running sum N = 8, d = 2: put (3,0), hand out (0,1), kept (-1,0); put (3,0),
    -- hand out (0,1), kept (-2,0); put (0,1), hand out (-1,1), kept (-2,1).
    ∷ (run 8 (pos 0) 2
    (called (put (round_bit_at 8 (pos 3) 0)) none (done 8 (pos 3) 0)
    ∷ called hand_out (flat 0 (pos 0) 1 (8 - 2) (pos 2)) (done 8 (negsuc 0) 0)
    ∷ called (put (round_bit_at 8 (pos 3) 0)) none (done 8 (pos 2) 0)
    ∷ called hand_out (flat 0 (pos 0) 1 (8 - 2) (pos 2)) (done 8 (negsuc 1) 0)
    ∷ called (put (round_bit_at 8 (pos 0) 1)) none (done 8 (negsuc 1) 1)
    ∷ called hand_out (flat 0 (negsuc 0) 1 (8 - 2) (pos 2)) (done 8 (negsuc 1) 1)
    ∷ [])
    ∷ [])
    ∷ []

-- the examples of the requests that came later, document 02, of operations that the sheet has
abbrev pub requested : List (List Check)
requested =
    -- Ask 2. "So (1,1) cut by 1 gives (0,1)"; by 1, with r = 1, a lower part of 0 is a tie, from
    -- which (0,1) goes down to 0 and (2,1), worth 3, up to 2 units of the new size, which are 4.
    (even_cut (five (pos 1) 1) 1 (flat 0 (pos 0) 1 (5 - 1) (pos 1))
    ∷ even_cut (five (pos 0) 1) 1 (flat 0 (pos 0) 0 (5 - 1) (pos 1))
    ∷ even_cut (five (pos 2) 1) 1 (flat 0 (pos 1) 1 (5 - 1) (pos 1))
    ∷ worth (five (pos 2) 1) (pos 3)
    ∷ worth (even_cut_of (five (pos 2) 1) 1).word (pos 2)
    ∷ [])
    -- Ask 3, which names no text. "a stray blank": `+ +`; "two plus signs": `++-`, and with a zero
    -- between them `+0+`; "a text with both faults gives 13": `+0-0-+?`; "Done and the other
    -- refusals give place 0": `+-`, and 64 times `x`.
    ∷ (reading (43 ∷ 32 ∷ 43 ∷ []) (refused 13) 1
    ∷ reading (43 ∷ 43 ∷ 45 ∷ []) (refused 9) 1
    ∷ reading (43 ∷ 48 ∷ 43 ∷ []) (refused 9) 2
    ∷ reading (43 ∷ 48 ∷ 45 ∷ 48 ∷ 45 ∷ 43 ∷ 63 ∷ []) (refused 13) 6
    ∷ reading (43 ∷ 45 ∷ []) (done 2 (pos 1) 0) 0
    ∷ reading (replicate 64 120) (refused 1) 0
    ∷ [])
    ∷ []
