-- Document 01's bench sheet, P1 to P14, and the examples of later requests: the tables are right by
-- the definitions, and whatever the contracts of the code admit is what the tables have. P7 names no
-- word, and is shown of every one.
-- Assumes nothing.
use Prim.Native.Nat.{ℕ}
use mathlib.Core.Bool.{Bool, true, ◌&&◌}
use mathlib.Core.List.{List, [], ◌∷◌}
use mathlib.Core.Path.{◌≡◌, refl, ap, ◌∙◌}
use lib.Dec.{eqb}
use lib.IntN.{ℤ, pos, ◌*ℤ◌}
use lib.ListN.{length}
use borrow.Author.Tests.{eqb-true}
use Rattle.integers.specs.Numbers.{fits_width, floor_by, lowest, cleared}
use Rattle.integers.specs.Numbers.{digit, digits_below, any_below, low_digits}
use Rattle.integers.specs.Bytes.{same_bytes}
use Rattle.integers.specs.Lists.{first_bad, Each}
use Rattle.integers.specs.Lists.Each.{none, next}
use Rattle.integers.proofs.Kit.{and_both}
use Rattle.integers.proofs.Width.{eq_z_same}
use Rattle.integers.proofs.Bytes.{same_bytes_lem}
use Rattle.words.specs.Words.{value}
use Rattle.words.specs.Refusals.{number_of, format_check, word_check, lent_after, write_answer}
use Rattle.words.specs.Formats.{format, narrower_check, answer_check}
use Rattle.words.specs.Plain.{plain_check}
use Rattle.words.specs.RoundBit.{round_bit_value, round_bit_check, round_bit_fitted}
use Rattle.words.specs.HalfUnit.{half_unit_check, half_unit_fitted}
use Rattle.words.specs.Flat.{Flat, flat, flat_round_bit, flat_half_unit, same_flat}
use Rattle.words.specs.declared.Cause.TheVariants.{Depth, UnitPast}
use Rattle.words.specs.Outcomes.{Done, Refused}
use Rattle.words.specs.declared.Format.{Format}
use Rattle.words.specs.Kinds.{RoundBitWord}
use Rattle.words.specs.declared.WriteAnswer.{WriteAnswer}
use Rattle.words.proofs.Flat.{same_flat_lem}
use Rattle.words.specs.Kinds.{RoundBitCutAnswer}
use Rattle.round_bit.specs.Cuts.{sign_change_word, cut_by, cut_word, cut_check, cut_of}
use Rattle.round_bit.specs.Cuts.{rest_word, even_round_bit, widen_word}
use Rattle.round_bit.specs.Arithmetic.{sum_word, magnitude_product, multiplied, product_word}
use Rattle.round_bit.proofs.Checks.{word_outcome}
use Rattle.half_unit.specs.Conversions.{from_plain_up_word, even_floor, from_plain_even_word}
use Rattle.half_unit.specs.Arithmetic.{sum_up_word, sum_even_word}
use Rattle.half_unit.specs.Arithmetic.{multiplied as half_multiplied, product_word as half_product_word}
use Rattle.digit_text.specs.Digits.{signed_digit, byte_of, byte_at, text as text_of}
use Rattle.digit_text.specs.Digits.{write_check, write_of, buffer_of, digit_of, text_value, sign_before}
use Rattle.digit_text.specs.Reading.{strange_at, repeats_at, strange_place, repeat_place, fault_check}
use Rattle.digit_text.specs.Reading.{read_check, place_of, read_round, read_word, read_of}
use Rattle.digit_text.specs.declared.ReadAnswer.{ReadAnswer}
use Rattle.running_sum.specs.declared.RunningSum.{RunningSum}
use Rattle.running_sum.specs.declared.SumAnswer.{SumAnswer}
use Rattle.running_sum.specs.Steps.{depth_check, open_answer, open_of, stepped, put_check, step_of}
use Rattle.running_sum.proofs.Links.{meets_step}
use Rattle.bench_sheet.specs.Bench.{flat_of, flat_cut, flat_even_cut, flat_word, Called, called}
use Rattle.bench_sheet.specs.Bench.{Check, sum, difference, product, cut, rest, even_cut}
use Rattle.bench_sheet.specs.Bench.{widen, up, even, sum_up, sum_even, half_product}
use Rattle.bench_sheet.specs.Bench.{worth, fits, text, reading, run, ran, right, every}
use Rattle.bench_sheet.specs.Bench.{bench, requested}
use Rattle.bench_sheet.specs.Met.{Answers, Runs, Met, EveryCut}

-- there is a row for each of P1 to P14, and every check of every row holds; so does every check of
-- the later examples
bench_holds : (length bench ≡ 14) × (every (every right) bench ≡ true)
    × (every (every right) requested ≡ true)
unfolding fits_width floor_by lowest cleared digit digits_below any_below low_digits value format_check word_check narrower_check answer_check round_bit_fitted
    half_unit_fitted lent_after write_answer sign_change_word cut_by rest_word even_round_bit widen_word sum_word magnitude_product multiplied product_word
    from_plain_up_word even_floor from_plain_even_word sum_up_word sum_even_word half_multiplied half_product_word signed_digit byte_of byte_at text_of
    write_check write_of buffer_of depth_check open_answer open_of stepped put_check step_of first_bad digit_of text_value sign_before strange_at repeats_at
    strange_place repeat_place fault_check read_check place_of read_round read_word read_of
bench_holds = (refl, refl, refl)

-- ---- from the definitions to the contracts: a contract says that the answer is the definition's
three_hold : (a b c : Bool) → (a && b && c) ≡ true → (a ≡ true) × (b ≡ true) × (c ≡ true)
three_hold a b c h =
    let p = and_both (a && b) c h in
    let q = and_both a b p.0 in
    (q.0, q.1, p.1)

same_answers : {X E : Type 0} (lay : X → Flat) {o : X} (a : Flat) →
    same_flat (lay o) a ≡ true → Answers {E = E} lay (λ r e. r ≡ o) a
same_answers lay {o} a h r e p = ap lay p ∙ same_flat_lem (lay o) a h

text_met : (w : RoundBitWord) (lent then : List ℕ) (count : ℕ) →
    right (text w lent then count) ≡ true → Met (text w lent then count)
text_met w lent then count h κs before after r l p =
    let a = write_of w (length lent) in
    let b = buffer_of w lent in
    let o = number_of a.outcome in
    let holds = three_hold (eqb o 0) (eqb a.count count) (same_bytes b then) h in
    let same : r ≡ a = p.0 ∙ ap (λ (b : List ℕ). write_of w (length b)) l in (
      ap (λ (r : WriteAnswer). number_of r.outcome) same ∙ eqb-true o 0 holds.0,
      ap (λ (r : WriteAnswer). r.count) same ∙ eqb-true a.count count holds.1,
      p.1 ∙ ap (buffer_of w) l ∙ same_bytes_lem b then holds.2,
    )

reading_met : (t : List ℕ) (a : Flat) (k : ℕ) → right (reading t a k) ≡ true → Met (reading t a k)
reading_met t a k h κs before after r l p =
    let b = read_of t (pos 0) in
    let f = flat_of b.outcome b.word in
    let holds = and_both (same_flat f a) (eqb b.place k) h in
    let same : r ≡ b = p ∙ ap (λ (t : List ℕ). read_of t (pos 0)) l in (
      ap (λ (r : ReadAnswer). flat_of r.outcome r.word) same ∙ same_flat_lem f a holds.0,
      ap (λ (r : ReadAnswer). r.place) same ∙ eqb-true b.place k holds.1,
    )

ran_runs : (s : RunningSum) (calls : List Called) → ran s calls ≡ true → Runs s calls
ran_runs s [] h = tt
ran_runs s (called c answer kept ∷ more) h = λ o w t m.
    let u = step_of s c in
    let a = flat_of u.outcome u.word in
    let k = flat_word u.sum.kept in
    let p = meets_step s c o w t m in
    let holds = three_hold (same_flat a answer) (same_flat k kept) (ran u.sum more) h in
    let laid : flat_of o w ≡ a = λ i. flat_of (p.0 i) (p.1 i) in (
      laid ∙ same_flat_lem a answer holds.0,
      ap (λ (s : RunningSum). flat_word s.kept) p.2 ∙ same_flat_lem k kept holds.1,
      ran_runs t more (ap (λ (s : RunningSum). ran s more) p.2 ∙ holds.2),
    )

run_met : (n : ℕ) (e : ℤ) (d : ℕ) (calls : List Called) →
    right (run n e d calls) ≡ true → Met (run n e d calls)
run_met n e d calls h a p =
    let b = open_of n e d in
    let o = number_of b.outcome in
    let k = flat_word b.sum.kept in
    let nothing = flat 0 (pos 0) 0 n e in
    let holds = three_hold (eqb o 0) (same_flat k nothing) (ran b.sum calls) h in (
      ap (λ (a : SumAnswer). number_of a.outcome) p ∙ eqb-true o 0 holds.0,
      ap (λ (a : SumAnswer). flat_word a.sum.kept) p ∙ same_flat_lem k nothing holds.1,
      ran_runs a.sum calls (ap (λ (a : SumAnswer). ran a.sum calls) p ∙ holds.2),
    )

right_met : (c : Check) → right c ≡ true → Met c
right_met (sum x y a) h = same_answers flat_round_bit a h
right_met (difference x y a) h = same_answers flat_round_bit a h
right_met (product x y a) h = same_answers flat_round_bit a h
right_met (cut w d a) h = same_answers flat_cut a h
right_met (rest w d a) h = same_answers flat_round_bit a h
right_met (even_cut w d a) h = same_answers flat_even_cut a h
right_met (widen w d a) h = same_answers flat_round_bit a h
right_met (up w d a) h = same_answers flat_half_unit a h
right_met (even w d a) h = same_answers flat_half_unit a h
right_met (sum_up x y a) h = same_answers flat_half_unit a h
right_met (sum_even x y a) h = same_answers flat_half_unit a h
right_met (half_product x y a) h = same_answers flat_half_unit a h
right_met (worth w units) h = eq_z_same (round_bit_value w) (pos 2 *ℤ units) h
right_met (fits x n) h = h
right_met (text w lent then count) h = text_met w lent then count h
right_met (reading t a k) h = reading_met t a k h
right_met (run n e d calls) h = run_met n e d calls h

every_each : {A : Type 0} (test : A → Bool) {P : A → Type 0} →
    ((x : A) → test x ≡ true → P x) → (xs : List A) → every test xs ≡ true → Each P xs
every_each test each [] h = none
every_each test each (x ∷ more) h =
    let p = and_both (test x) (every test more) h in
    next (each x p.0) (every_each test each more p.1)

-- every check of every row, of the code: whatever meets the contracts is what the table has
bench_met : Each (Each Met) bench
bench_met = every_each (every right) (every_each right right_met) bench bench_holds.1

requested_met : Each (Each Met) requested
requested_met = every_each (every right) (every_each right right_met) requested bench_holds.2

-- ---- P7 of every word: a right word's cut is refused as its format is
cut_outcome : (w : RoundBitWord) (d : ℕ) {f : Format} →
    round_bit_check w ≡ Done → w.format ≡ f → (cut_of w d).outcome ≡ narrower_check f d
cut_outcome w d e g = word_outcome (cut_check w d) (cut_word w d) ∙ rw (e, g)

width_3_cuts : (w : RoundBitWord) → round_bit_check w ≡ Done → w.format ≡ format 3 (pos 0) →
    ((cut_of w 1).outcome ≡ Done) × ((cut_of w 2).outcome ≡ Refused Depth)
unfolding narrower_check
width_3_cuts w e g = (cut_outcome w 1 e g, cut_outcome w 2 e g)

-- at the coarsest unit there is none for the cut by 1
width_3_cuts_at_127 : (w : RoundBitWord) → round_bit_check w ≡ Done → w.format ≡ format 3 (pos 127) →
    ((cut_of w 1).outcome ≡ Refused UnitPast) × ((cut_of w 2).outcome ≡ Refused Depth)
unfolding narrower_check
width_3_cuts_at_127 w e g = (cut_outcome w 1 e g, cut_outcome w 2 e g)

-- the same of the code, by the numbers of the outcomes
every_cut : (f : Format) (d : ℕ) → EveryCut f d (number_of (narrower_check f d))
every_cut f d w e g r x p =
    ap (λ (a : RoundBitCutAnswer). number_of a.outcome) p ∙ ap number_of (cut_outcome w d e g)

width_3_cuts_met : EveryCut (format 3 (pos 0)) 1 0 × EveryCut (format 3 (pos 0)) 2 5
unfolding narrower_check
width_3_cuts_met = (every_cut (format 3 (pos 0)) 1, every_cut (format 3 (pos 0)) 2)

width_3_cuts_at_127_met : EveryCut (format 3 (pos 127)) 1 7 × EveryCut (format 3 (pos 127)) 2 5
unfolding narrower_check
width_3_cuts_at_127_met = (every_cut (format 3 (pos 127)) 1, every_cut (format 3 (pos 127)) 2)
