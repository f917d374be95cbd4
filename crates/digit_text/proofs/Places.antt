-- The leftmost place in a text that a test holds of, and the tests of the two faults: what a turn of their searches asks, what a check finds,
-- and what a passed check tells. Assumes nothing.
-- Proved here: `leftmost_holds`, `leftmost_before`, `found_leftmost`, `not_found`, `leftmost_none`, `leftmost_at`, `leftmost_found`,
-- `leftmost_not_found`, `strange_position`, `repeats_is`, `fault_free`, `free_fault`, `found_small`, `byte_told`,
-- `repeat_told`, `format_told`, `read_right`, `ok_told`, `err_told`, `err_first`, `answer_told`.
use Rattle.std.specs.Prelude.{Result, Ok, Err}
use Prim.Native.Nat.{ℕ, ◌≤◌, ◌<◌}
use native.Mathlib.Omega.{arith}
use mathlib.Core.Path.{◌≡◌, refl, sym, ap}
use mathlib.Core.Bool.{Bool, true, false, not, cond, ◌&&◌, ◌||◌}
use mathlib.Core.List.{List}
use lib.Dec.{eqb}
use lib.IntN.{ℤ}
use lib.ListN.{length, get_or}
use Rattle.std.specs.Prelude.{Some, None}
use Rattle.std.specs.Option.{unwrap_or}
use Rattle.std.specs.List.{position_or_len}
use Rattle.std.proofs.lemmas.List.Sums.{position_or_len_is}
use borrow.Author.Tests.{ltb-true, lt-ltb, le-ltb, not-true, not-false}
use Rattle.integers.proofs.Found.{none_found}
use Rattle.integers.proofs.Lists.{first_bad_le, first_bad_most, first_bad_before, first_bad_at, first_bad_none, first_bad_fails}
use Rattle.words.specs.Refusals.{refuse_for, ◌or_else◌, format_check, after}
use Rattle.words.specs.Words.{bad_width, bad_unit}
use Rattle.words.specs.Formats.{format}
use Rattle.words.specs.declared.Cause.TheVariants.{Width, Unit as BadUnit, Byte, DigitText}
use Rattle.words.specs.declared.Format.{Format}
use Rattle.words.specs.Outcomes.{Outcome, Done}
use Rattle.words.specs.Kinds.{RoundBitWord}
use Rattle.words.specs.RoundBit.{round_bit_done}
use Rattle.words.proofs.Laws.{RightFormat, right_format, both_passed, passed, or-false}
use Rattle.digit_text.specs.declared.Fault.{Fault}
use Rattle.digit_text.specs.Digits.{none, sign_before}
use Rattle.digit_text.specs.Reading.{strange, strange_at, repeats_at, leftmost, strange_place, repeat_place, found, if_found}
use Rattle.digit_text.specs.Reading.{fault_check, read_check, place_of, fault_at, telling, read_answer, read_refused, answer_of}
use Rattle.digit_text.proofs.Scan.{get_d_any}

-- ---- the leftmost place that a test holds of
module _ (t : List ℕ) (test : ℕ → Bool) where
  leftmost_le : leftmost t test ≤ length t
  leftmost_le = first_bad_le (length t) _

  -- where it is found the test holds of it, and of none before it
  pub leftmost_holds : found (leftmost t test) t ≡ true → test (leftmost t test) ≡ true
  leftmost_holds e = not-false _ (first_bad_fails (length t) _ (ltb-true (leftmost t test) (length t) e))

  pub leftmost_before : (k : ℕ) → k < leftmost t test → test k ≡ false
  leftmost_before k h = not-true _ (first_bad_before (length t) _ k h)

  -- it is found where the test holds of a place inside, and else it is the length
  pub found_leftmost : (k : ℕ) → k < length t → test k ≡ true → found (leftmost t test) t ≡ true
  found_leftmost k h e = lt-ltb (leftmost t test) (length t) (omega (arith, first_bad_most (length t) k (λ i. not (test i)) (ap not e)))

  pub not_found : found (leftmost t test) t ≡ false → (k : ℕ) → k < length t → test k ≡ false
  not_found = none_found (length t) test

  pub leftmost_none : ((k : ℕ) → k < length t → test k ≡ false) → leftmost t test ≡ length t
  leftmost_none p = first_bad_none (length t) _ (λ k h. ap not (p k h))

  -- a search that has passed the places before k and stops there has found it
  pub leftmost_at : (k : ℕ) → k < length t → ((j : ℕ) → j < k → test j ≡ false) → test k ≡ true → k ≡ leftmost t test
  leftmost_at k h p e = sym (first_bad_at (length t) k _ h (λ j l. ap not (p j l)) (ap not e))

  -- what such a search then answers, and what one that has passed them all
  pub leftmost_found : (k : ℕ) → k < length t → ((j : ℕ) → j < k → test j ≡ false) → test k ≡ true → Some k ≡ if_found (leftmost t test) t
  leftmost_found k h p e = rw (← leftmost_at k h p e, lt-ltb k (length t) h)

  pub leftmost_not_found : ((k : ℕ) → k < length t → test k ≡ false) → None ≡ if_found (leftmost t test) t
  leftmost_not_found p = rw (leftmost_none p, le-ltb (length t) (length t) (omega arith))

-- ---- the first byte that is none of the three stands at the place of 13
pub strange_position : (t : List ℕ) → position_or_len strange t ≡ strange_place t
unfolding strange_place strange_at
strange_position t =
    position_or_len_is strange t (leftmost t (strange_at t)) none (leftmost_le t (strange_at t)) (leftmost_before t (strange_at t))
    (λ h. leftmost_holds t (strange_at t) (lt-ltb _ _ h))

-- ---- the test of 9 at a byte that a search has read
pub repeats_is : (t : List ℕ) (k s : ℕ) → k < length t → s ≡ sign_before t k → repeats_at t k ≡ (not (eqb (get_or t k 0) none) && eqb (get_or t k 0) s)
unfolding repeats_at
repeats_is t k s h e = rw (get_d_any t k none 0 h, e)

-- ---- a text is faulty where either place is found, which is where its check refuses
abbrev pub faulty : List ℕ → Bool
faulty t = found (strange_place t) t || found (repeat_place t) t

pub fault_free : (t : List ℕ) → fault_check t ≡ Done → faulty t ≡ false
unfolding fault_check
fault_free t d =
    let s = found (strange_place t) t in
    let r = found (repeat_place t) t in
    let p = both_passed (refuse_for Byte s) (refuse_for DigitText r) d in
    rw (passed Byte s p.0, passed DigitText r p.1)

pub free_fault : (t : List ℕ) → faulty t ≡ false → fault_check t ≡ Done
unfolding fault_check
free_fault t e = let p = or-false (found (strange_place t) t) (found (repeat_place t) t) e in rw (p.0, p.1)

-- ---- a place that is found is one of the text
pub found_small : (t : List ℕ) (k n : ℕ) → length t ≤ n → unwrap_or (if_found k t) 0 ≤ n
found_small t k n h = go (found k t) refl
  where
    go : (b : Bool) → found k t ≡ b → unwrap_or (cond b (Some k) None) 0 ≤ n
    go true e = omega (arith, ltb-true k (length t) e, h)
    go false e = omega arith

-- ---- what the two searches tell: the fault of the first, and where it finds none that of the second
abbrev pub told : List ℕ → Outcome → Result Unit Fault
told t o = telling t o tt

pub byte_told : (t : List ℕ) (f : Fault) → ◌≡◌ {A = Result Unit Fault} (Err f) (fault_at Byte (if_found (strange_place t) t)) → Err f ≡ told t (fault_check t)
unfolding fault_check place_of
byte_told t f = go (found (strange_place t) t)
  where
    go : (b : Bool) → ◌≡◌ {A = Result Unit Fault} (Err f) (fault_at Byte (cond b (Some (strange_place t)) None)) →
        Err f ≡ told t (refuse_for Byte b or_else refuse_for DigitText (found (repeat_place t) t))
    go true e = e
    go false e = absurd cc

pub repeat_told : (t : List ℕ) → ◌≡◌ {A = Result Unit Fault} (Ok tt) (fault_at Byte (if_found (strange_place t) t)) →
    fault_at DigitText (if_found (repeat_place t) t) ≡ told t (fault_check t)
unfolding fault_check place_of
repeat_told t = go (found (strange_place t) t) (found (repeat_place t) t)
  where
    go : (b c : Bool) → ◌≡◌ {A = Result Unit Fault} (Ok tt) (fault_at Byte (cond b (Some (strange_place t)) None)) →
        fault_at DigitText (cond c (Some (repeat_place t)) None) ≡ told t (refuse_for Byte b or_else refuse_for DigitText c)
    go true c e = absurd cc
    go false true e = refl
    go false false e = refl

-- ---- 1 and 2 tell no place
abbrev pub untold : {A : Type 0} → Outcome → A → Result A Fault
untold (Ok _) a = Ok a
untold (Err c) a = Err (record { cause = c; place = 0 })

pub format_told : {A : Type 0} (t : List ℕ) (f : Format) (a : A) → telling t (format_check f) a ≡ untold (format_check f) a
unfolding format_check place_of
format_told t f a = go (bad_width f.width) (bad_unit f.unit)
  where
    go : (w u : Bool) → telling t (refuse_for Width w or_else refuse_for BadUnit u) a ≡ untold (refuse_for Width w or_else refuse_for BadUnit u) a
    go true u = refl
    go false true = refl
    go false false = refl

-- ---- what a passed check of a reading tells
pub read_right : (t : List ℕ) (e : ℤ) → read_check t e ≡ Done → RightFormat (format (length t) e) × (faulty t ≡ false)
unfolding read_check
read_right t e d =
    let p = both_passed (format_check (format (length t) e)) (fault_check t) d in
    (right_format (format (length t) e) p.0, fault_free t p.1)

-- ---- what is known behind a `?`: the check passed, and that is what was given; or its fault is that of any checks that it begins
pub ok_told : {A : Type 0} (t : List ℕ) (o : Outcome) (a b : A) → Ok b ≡ telling t o a → (o ≡ Done) × (b ≡ a)
ok_told t (Ok _) a b e = (refl, cc)
ok_told t (Err c) a b e = absurd cc

pub err_told : {A B : Type 0} (t : List ℕ) (o : Outcome) (a : A) (b : B) (f : Fault) → Err f ≡ telling t o a → Err f ≡ telling t o b
err_told t (Ok _) a b f e = absurd cc
err_told t (Err c) a b f e = cc

pub err_first : {A B : Type 0} (t : List ℕ) (o p : Outcome) (a : A) (b : B) (f : Fault) → Err f ≡ telling t o a → Err f ≡ telling t (o or_else p) b
err_first t (Ok _) p a b f e = absurd cc
err_first t (Err c) p a b f e = cc

-- ---- what a word or a fault is answered by
pub answer_told : (t : List ℕ) (o : Outcome) (w : RoundBitWord) → answer_of (telling t o w) ≡ after (read_refused t) o (read_answer (round_bit_done w))
answer_told t (Ok _) w = refl
answer_told t (Err c) w = refl
