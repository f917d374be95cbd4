-- What is claimed of an import: `claimed`, `valued` and `refuses` prove specs/Claims' `Claimed`, `Valued` and `Refuses`. Beside them what a done
-- answer tells, of every kind of word. Assumes nothing.
-- Proved here: `import_answer`, `done_answer`, `done_value`, `import_passes`, `claimed`, `valued`, `refuses`.
use Rattle.std.specs.Prelude.{Ok, Err}
use Prim.Native.Nat.{ℕ, ◌<◌}
use native.Mathlib.Nat.{mul-pos}
use native.Mathlib.Omega.{arith}
use mathlib.Core.Bool.{Bool, true, false, cond, true≢false}
use mathlib.Core.Path.{◌≡◌, refl, sym, ap, ◌∙◌}
use lib.IntN.{ℤ}
use lib.Ieee.{Float, nan, inf, fin}
use lib.Ieee.Exact.{HasValue}
use lib.Ieee.Fits.{up_pos}
use lib.Ieee.Positive.{num, den, den_pos}
use lib.Ieee.Scale.{finite}
use Rattle.words.specs.declared.Cause.{Cause}
use Rattle.words.specs.declared.Cause.TheVariants.{NumberPast}
use Rattle.words.specs.Outcomes.{Outcome}
use Rattle.words.specs.Outcomes.{Done}
use Rattle.words.specs.declared.Format.{Format}
use Rattle.words.specs.Words.{Kind, value, outside}
use Rattle.words.specs.Words.Kind.{plain, round_bit, half_unit}
use Rattle.words.specs.Refusals.{cause_number, refuse, format_check, after}
use Rattle.words.specs.Plain.{plain_word, plain_refused, plain_done, plain_fitted}
use Rattle.words.specs.RoundBit.{round_bit_word, round_bit_refused, round_bit_done, round_bit_fitted}
use Rattle.words.specs.HalfUnit.{half_unit_word, half_unit_refused, half_unit_done, half_unit_fitted}
use Rattle.words.specs.Flat.{Flat, flat, flat_plain, flat_round_bit, flat_half_unit, refused}
use Rattle.words.proofs.Laws.{cause_some}
use Rattle.binary64.specs.Import.{sample, whole_count, half_odd_count, import_check}
use Rattle.binary64.specs.Claims.{imported, number, value_of, Claimed, Valued, Refuses}
use Rattle.binary64.proofs.Laws.Near.{Near, near_nearest, near_only}
use Rattle.binary64.proofs.Laws.Closest.{whole_near, half_odd_near}
use Rattle.binary64.proofs.Laws.Fractions.{whole_count_is, half_odd_count_is}

-- ---- an answer laid flat, of every kind of word: a refusal of the check, then 8, then the word
abbrev checked : Outcome → Bool → Flat → Flat
checked o t a = after (λ c. refused (cause_number c)) o (cond t (refused 8) a)

-- `refusing` makes the refusals of a kind
laid_checked : {A : Type 0} (laid : A → Flat) (refusing : Cause → A) → ((c : Cause) → laid (refusing c) ≡ refused (cause_number c)) →
    (o : Outcome) (t : Bool) (a : A) → laid (after refusing o (after refusing (refuse 8 t) a)) ≡ checked o t (laid a)
laid_checked laid refusing told (Ok _) true a = told NumberPast
laid_checked laid refusing told (Ok _) false a = refl
laid_checked laid refusing told (Err c) t a = told c

module _ (bits : ℕ) (f : Format) where
  abbrev done : Kind → Flat
  done k = flat 0 (number k bits f.unit) 0 f.width f.unit

  import_is : (k : Kind) → imported k bits f ≡ checked (import_check bits f) (outside f (number k bits f.unit)) (done k)
  unfolding plain_fitted round_bit_fitted half_unit_fitted
  import_is plain =
      let x = whole_count bits f.unit in
      laid_checked flat_plain plain_refused (λ c. refl) (import_check bits f) (outside f x) (plain_done (plain_word x f))
  import_is round_bit =
      let x = whole_count bits f.unit in
      laid_checked flat_round_bit round_bit_refused (λ c. refl) (import_check bits f) (outside f x) (round_bit_done (round_bit_word x 0 f))
  import_is half_unit =
      let x = half_odd_count bits f.unit in
      laid_checked flat_half_unit half_unit_refused (λ c. refl) (import_check bits f) (outside f x) (half_unit_done (half_unit_word x f))

  -- what it is behind a passed check, and what a done one tells: no refusal is numbered 0
  pub import_answer : (k : Kind) → import_check bits f ≡ Done → imported k bits f ≡ cond (outside f (number k bits f.unit)) (refused 8) (done k)
  import_answer k e = import_is k ∙ rw e

  pub done_answer : (k : Kind) → (imported k bits f).refusal ≡ 0 → (import_check bits f ≡ Done) × (imported k bits f ≡ done k)
  done_answer k e =
      let d = go (import_check bits f) (outside f (number k bits f.unit)) (sym (ap (λ (a : Flat). a.refusal) (import_is k)) ∙ e) in
      (d.0, import_is k ∙ d.1)
    where
      go : (o : Outcome) (t : Bool) → (checked o t (done k)).refusal ≡ 0 → (o ≡ Done) × (checked o t (done k) ≡ done k)
      go (Ok _) true g = absurd (omega arith)
      go (Ok _) false g = (refl, refl)
      go (Err c) t g = absurd (omega (arith, cause_some c))

  pub done_value : (k : Kind) → (imported k bits f).refusal ≡ 0 → value_of k (imported k bits f) ≡ value k (number k bits f.unit) 0
  done_value k e = ap (value_of k) (done_answer k e).1

-- ---- a sample that has a value is finite, so a right format leaves only 8 to be refused
value_finite : (x : Float) (s : Bool) (a c : ℕ) → HasValue x s a c → finite x ≡ true
value_finite nan s a c v = absurd v
value_finite (inf t) s a c v = absurd v
value_finite (fin t m x) s a c v = refl

pub import_passes : (bits : ℕ) (f : Format) (s : Bool) (a c : ℕ) → format_check f ≡ Done → HasValue (sample bits) s a c → import_check bits f ≡ Done
unfolding import_check
import_passes bits f s a c g v = rw (g, value_finite (sample bits) s a c v)

-- ---- the number of each kind is near
number_near : (k : Kind) (bits : ℕ) (e : ℤ) (s : Bool) (a c : ℕ) → 0 < c → HasValue (sample bits) s a c → Near k e s a c (number k bits e)
number_near plain bits e s a c h v = rw (whole_count_is bits e s a c h v) (whole_near e a c h plain s refl)
number_near round_bit bits e s a c h v = rw (whole_count_is bits e s a c h v) (whole_near e a c h round_bit s refl)
number_near half_unit bits e s a c h v = rw (half_odd_count_is bits e s a c h v) (half_odd_near e a c h s)

pub claimed : Claimed
claimed k bits f s a c g h v =
    let e = f.unit in
    let n = number_near k bits e s a c h v in
    record {
      nearest = near_nearest k e s a c (number k bits e) n;
      only = λ x m. near_only k e s a c (mul-pos (up_pos e) h) x (number k bits e) n m;
      answer = import_answer bits f k (import_passes bits f s a c g v);
    }

-- ---- a finite sample has the library's fraction as its size
value_of_lem : (x : Float) → finite x ≡ true → (s : Bool) × (a : ℕ) × (c : ℕ) × (0 < c) × HasValue x s a c
value_of_lem nan f = absurd (true≢false (sym f))
value_of_lem (inf s) f = absurd (true≢false (sym f))
value_of_lem (fin s m x) f = (s, num (fin s m x), den (fin s m x), den_pos (fin s m x), (refl, refl))

pub valued : Valued
valued bits f = value_of_lem (sample bits) f

-- ---- the refusals before 8
pub refuses : Refuses
unfolding import_check
refuses k bits f = (λ c e. import_is bits f k ∙ rw e, λ e g. import_is bits f k ∙ rw (e, g))
