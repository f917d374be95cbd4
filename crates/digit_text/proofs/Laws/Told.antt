-- Which place a reading tells, and that it refuses by 13 and by 9 exactly so (document 02, Ask 3). Assumes nothing.
-- Proved here: `inside`, `byte`, `before`, `known`, `sign`, `same`, `earlier`, `strange_told`, `repeat_told`, `none_told`, `strange_refused`,
-- `repeated_refused`.
use Rattle.std.specs.Prelude.{Ok, Err}
use Prim.Native.Nat.{ℕ, ◌<◌}
use native.Mathlib.Omega.{arith}
use mathlib.Core.Path.{◌≡◌, refl, sym, ap, ◌∙◌}
use mathlib.Core.Bool.{Bool, true, false, true≢false}
use mathlib.Core.List.{List}
use mathlib.Core.Logic.{◌⊎◌, inl, inr}
use lib.Dec.{eqb}
use lib.IntN.{ℤ}
use lib.ListN.{length, get_or}
use borrow.Author.Tests.{ltb-true, le-ltb, ne_eqb, eqb-false}
use Rattle.words.specs.Words.{bad_width, bad_unit}
use Rattle.words.specs.Refusals.{cause_number, number_of, refuse_for, ◌or_else◌, format_check, after}
use Rattle.words.specs.Formats.{format}
use Rattle.words.specs.RoundBit.{round_bit_done}
use Rattle.words.specs.declared.Cause.TheVariants.{Width, Unit, Byte, DigitText}
use Rattle.words.specs.Outcomes.{Outcome}
use Rattle.words.specs.Outcomes.{Done, Refused}
use Rattle.words.proofs.Laws.{RightFormat, format_right, cause_one}
use Rattle.words.proofs.Operands.{outcome_kept}
use Rattle.digit_text.specs.Digits.{plus, none, minus}
use Rattle.digit_text.specs.Reading.{strange, strange_at, repeats_at, strange_place, repeat_place, found, fault_check, read_check, place_of}
use Rattle.digit_text.specs.Reading.{read_word, read_answer, read_refused, read_of}
use Rattle.digit_text.proofs.Places.{leftmost_holds, leftmost_before, leftmost_none, not_found}
use Rattle.digit_text.proofs.Laws.Signs.{Nearest}
use Rattle.digit_text.proofs.Laws.GoodTexts.{Byte as Kind, a_plus, a_none, a_minus, byte_kind}
use Rattle.digit_text.proofs.Laws.Faults.{Strange, Repeated, repeats_tells, tells_repeats, strange_found, repeated_found}

-- ---- the byte at k is none of the three, and every byte before it is one
pub record FirstStrange (t : List ℕ) (k : ℕ) : Type 0 where
  pub inside : k < length t
  pub byte : strange (get_or t k none) ≡ true
  pub before : (j : ℕ) → j < k → strange (get_or t j none) ≡ false

-- ---- all bytes are of the three, the byte at k is a sign, the nearest sign before it is the same, and no earlier place is so
pub record FirstRepeated (t : List ℕ) (k : ℕ) : Type 0 where
  pub inside : k < length t
  pub known : (j : ℕ) → j < length t → strange (get_or t j none) ≡ false
  pub sign : (get_or t k none ≡ plus) ⊎ (get_or t k none ≡ minus)
  pub same : Nearest t k (get_or t k none)
  pub earlier : (j : ℕ) → j < k → (get_or t j none ≡ none → ⊥) → Nearest t j (get_or t j none) → ⊥

a_sign : (b : ℕ) → strange b ≡ false → (b ≡ none → ⊥) → (b ≡ plus) ⊎ (b ≡ minus)
a_sign b s n = go (byte_kind b s) n
  where
    go : {b : ℕ} → Kind b → (b ≡ none → ⊥) → (b ≡ plus) ⊎ (b ≡ minus)
    go a_plus n = inl refl
    go a_none n = absurd (n refl)
    go a_minus n = inr refl

-- ---- by which of its four tests a reading refuses
other_outcome : (o p : Outcome) → eqb (number_of o) (number_of p) ≡ false → o ≡ p → ⊥
other_outcome o p f e = eqb-false (number_of o) (number_of p) f (ap number_of e)

which : (w u s r : Bool) →
    let o = (refuse_for Width w or_else refuse_for Unit u) or_else refuse_for Byte s or_else refuse_for DigitText r in
    (o ≡ Refused Byte → s ≡ true) × (o ≡ Refused DigitText → (s ≡ false) × (r ≡ true))
which true u s r = (λ e. absurd (other_outcome (Refused Width) (Refused Byte) refl e), λ e. absurd (other_outcome (Refused Width) (Refused DigitText) refl e))
which false true s r = (λ e. absurd (other_outcome (Refused Unit) (Refused Byte) refl e), λ e. absurd (other_outcome (Refused Unit) (Refused DigitText) refl e))
which false false true r = (λ e. refl, λ e. absurd (other_outcome (Refused Byte) (Refused DigitText) refl e))
which false false false true = (λ e. absurd (other_outcome (Refused DigitText) (Refused Byte) refl e), λ e. (refl, refl))
which false false false false = (λ e. absurd (other_outcome Done (Refused Byte) refl e), λ e. absurd (other_outcome Done (Refused DigitText) refl e))

module _ (t : List ℕ) (e : ℤ) where
  read_outcome : (read_of t e).outcome ≡ read_check t e
  unfolding read_of
  read_outcome = outcome_kept (read_refused t) (λ a. a.outcome) (λ c. refl) (read_check t e) (read_answer (round_bit_done (read_word t e))) refl

  read_place : (read_of t e).place ≡ place_of t (read_check t e)
  unfolding read_of place_of
  read_place = go (read_check t e)
    where
      go : (o : Outcome) → (after (read_refused t) o (read_answer (round_bit_done (read_word t e)))).place ≡ place_of t o
      go (Ok _) = refl
      go (Err c) = refl

  tested : let o = read_check t e in
      (o ≡ Refused Byte → found (strange_place t) t ≡ true)
      × (o ≡ Refused DigitText → (found (strange_place t) t ≡ false) × (found (repeat_place t) t ≡ true))
  unfolding read_check format_check fault_check
  tested = which (bad_width (length t)) (bad_unit e) (found (strange_place t) t) (found (repeat_place t) t)

  -- ---- at 13
  pub strange_told : (read_of t e).outcome ≡ Refused Byte → FirstStrange t (read_of t e).place
  unfolding place_of strange_place strange_at
  strange_told d =
      let check = sym read_outcome ∙ d in
      let here = tested.0 check in
      let first : FirstStrange t (strange_place t) = record {
        inside = ltb-true (strange_place t) (length t) here;
        byte = leftmost_holds t (strange_at t) here;
        before = leftmost_before t (strange_at t);
      } in
      rw (read_place, check) first

  -- ---- at 9
  pub repeat_told : (read_of t e).outcome ≡ Refused DigitText → FirstRepeated t (read_of t e).place
  unfolding place_of strange_place strange_at repeat_place
  repeat_told d = rw (read_place, check) first
    where
      check : read_check t e ≡ Refused DigitText
      check = sym read_outcome ∙ d

      here : found (repeat_place t) t ≡ true
      here = (tested.1 check).1

      k : ℕ
      k = repeat_place t

      known : (j : ℕ) → j < length t → strange (get_or t j none) ≡ false
      known = not_found t (strange_at t) (tested.1 check).0

      inside : k < length t
      inside = ltb-true k (length t) here

      repeated : (get_or t k none ≡ none → ⊥) × Nearest t k (get_or t k none)
      repeated = repeats_tells t k (leftmost_holds t (repeats_at t) here)

      first : FirstRepeated t k
      first = record {
        inside = inside;
        known = known;
        sign = a_sign (get_or t k none) (known k inside) repeated.0;
        same = repeated.1;
        earlier = λ j h n p. true≢false (sym (tells_repeats t j n p) ∙ leftmost_before t (repeats_at t) j h);
      }

  -- ---- else there is none
  pub none_told : ((read_of t e).outcome ≡ Refused Byte → ⊥) → ((read_of t e).outcome ≡ Refused DigitText → ⊥) → (read_of t e).place ≡ 0
  unfolding place_of
  none_told b r = read_place ∙ untold (read_check t e) (λ d. b (read_outcome ∙ d)) (λ d. r (read_outcome ∙ d))
    where
      untold : (o : Outcome) → (o ≡ Refused Byte → ⊥) → (o ≡ Refused DigitText → ⊥) → place_of t o ≡ 0
      untold (Ok _) b r = refl
      untold (Err c) b r =
          rw (ne_eqb (cause_number c) 13 (λ d. b (ap Refused (cause_one c Byte d))), ne_eqb (cause_number c) 9 (λ d. r (ap Refused (cause_one c DigitText d))))

  -- ---- a text of a right length and unit is refused by 13 where a byte is none of the three, whatever else is wrong with it, and by 9 where
  -- all bytes are of the three and a sign repeats the sign before it
  pub strange_refused : RightFormat (format (length t) e) → Strange t → (read_of t e).outcome ≡ Refused Byte
  unfolding read_check fault_check
  strange_refused g s = read_outcome ∙ rw (format_right (format (length t) e) g, strange_found t s)

  pub repeated_refused : RightFormat (format (length t) e) → ((j : ℕ) → j < length t → strange (get_or t j none) ≡ false) → Repeated t →
      (read_of t e).outcome ≡ Refused DigitText
  unfolding read_check fault_check strange_place strange_at
  repeated_refused g k r =
      let all_Known = leftmost_none t (strange_at t) k in
      read_outcome ∙ rw (format_right (format (length t) e) g, all_Known, le-ltb (length t) (length t) (omega arith), repeated_found t r)
