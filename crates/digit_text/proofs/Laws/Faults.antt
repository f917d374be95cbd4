-- Which texts are faulty, and that a good text is one whose cuts are roundings (000, Definition 1 and Theorem 2). Assumes nothing.
-- Proved here: `place`, `inside`, `byte`, `first`, `second`, `order`, `nonzero`, `same`, `between`, `repeats_tells`, `tells_repeats`, `faulty_tells`,
-- `strange_found`, `repeated_found`, `strange_faulty`, `repeated_faulty`, `good_rounds`, `rounds_good`.
use Prim.Native.Nat.{ℕ, suc, ◌+◌, ◌-◌, ◌^◌, ◌≤◌, ◌<◌}
use native.Mathlib.Omega.{arith}
use mathlib.Core.Path.{◌≡◌, refl, sym, ◌∙◌}
use mathlib.Core.Bool.{Bool, true, false, not, ◌||◌, true≢false, or-true}
use mathlib.Core.List.{List, ◌∷◌}
use mathlib.Core.Logic.{◌⊎◌, inl, inr}
use lib.Dec.{eqb}
use lib.IntN.{pos, nat_abs, ◌-ℤ◌, ◌*ℤ◌}
use lib.ListN.{length, get_or, take, drop, length-drop}
use lib.Seq.{drop-cons, get_or-drop}
use borrow.Author.Tests.{eq-eqb, ne_eqb, eqb-true, eqb-false, ltb-true, not-true}
use Rattle.integers.proofs.Kit.{up, down, abs_range, and_both, is_true, is_false}
use Rattle.digit_text.specs.Digits.{plus, none, minus, digit_of, text_value, sign_before}
use Rattle.digit_text.specs.Reading.{strange, strange_at, repeats_at, strange_place, repeat_place, found}
use Rattle.digit_text.proofs.Laws.Steps.{cons_law, cut_off, steps_rest, steps_near}
use Rattle.digit_text.proofs.Laws.Signs.{Nearest, sign_found, found_sign, leads}
use Rattle.digit_text.proofs.Laws.GoodTexts.{Byte, a_plus, a_none, a_minus, byte_kind, good_stepping}
use Rattle.digit_text.proofs.Places.{leftmost_holds, found_leftmost, faulty}

-- ---- a text is faulty exactly where a byte is none of the three, or two nonzero digits of one sign have nothing or only zeros between them
pub record Strange (t : List ℕ) : Type 0 where
  pub place : ℕ
  pub inside : place < length t
  pub byte : strange (get_or t place none) ≡ true

pub record Repeated (t : List ℕ) : Type 0 where
  pub first : ℕ
  pub second : ℕ
  pub order : first < second
  pub inside : second < length t
  pub nonzero : get_or t second none ≡ none → ⊥
  pub same : get_or t first none ≡ get_or t second none
  pub between : (k : ℕ) → first < k → k < second → get_or t k none ≡ none

-- a sign that repeats the one before it, and where that stands
pub repeats_tells : (t : List ℕ) (k : ℕ) → repeats_at t k ≡ true → (get_or t k none ≡ none → ⊥) × Nearest t k (get_or t k none)
unfolding repeats_at
repeats_tells t k e =
    let b = get_or t k none in
    let p = and_both (not (eqb b none)) (eqb b (sign_before t k)) e in
    let same = eqb-true b (sign_before t k) p.1 in
    let nonzero = eqb-false b none (not-true (eqb b none) p.0) in
    (nonzero, rw (← same) at (sign_found t k (λ q. nonzero (same ∙ q))))

pub tells_repeats : (t : List ℕ) (k : ℕ) → (get_or t k none ≡ none → ⊥) → Nearest t k (get_or t k none) → repeats_at t k ≡ true
unfolding repeats_at
tells_repeats t k n p = let b = get_or t k none in rw (found_sign t k b p n, ne_eqb b none n, eq-eqb b b refl)

pub faulty_tells : (t : List ℕ) → faulty t ≡ true → Strange t ⊎ Repeated t
unfolding strange_place repeat_place strange_at
faulty_tells t = go (found (strange_place t) t) refl (found (repeat_place t) t) refl
  where
    go : (s : Bool) → found (strange_place t) t ≡ s → (r : Bool) → found (repeat_place t) t ≡ r → (s || r) ≡ true → Strange t ⊎ Repeated t
    go true e r f h = inl (record { place = strange_place t; inside = ltb-true (strange_place t) (length t) e; byte = leftmost_holds t (strange_at t) e })
    go false e true f h =
        let k = repeat_place t in
        let p = repeats_tells t k (leftmost_holds t (repeats_at t) f) in
        let n = p.1 in
        inr (record {
          first = n.place;
          second = k;
          order = n.before;
          inside = ltb-true k (length t) f;
          nonzero = p.0;
          same = n.sign;
          between = n.between;
        })
    go false e false f h = absurd (true≢false (sym h))

pub strange_found : (t : List ℕ) → Strange t → found (strange_place t) t ≡ true
unfolding strange_place strange_at
strange_found t s = found_leftmost t (strange_at t) s.place s.inside s.byte

pub repeated_found : (t : List ℕ) → Repeated t → found (repeat_place t) t ≡ true
unfolding repeat_place
repeated_found t r =
    let n : Nearest t r.second (get_or t r.second none) = record { place = r.first; before = r.order; sign = r.same; between = r.between } in
    found_leftmost t (repeats_at t) r.second r.inside (tells_repeats t r.second r.nonzero n)

pub strange_faulty : (t : List ℕ) → Strange t → faulty t ≡ true
strange_faulty t s = rw (strange_found t s)

pub repeated_faulty : (t : List ℕ) → Repeated t → faulty t ≡ true
repeated_faulty t r = rw (repeated_found t r, or-true)

-- ---- a text of the three bytes is good exactly when cutting off its last k bytes, for every k from 1 to its length, moves its value by
-- at most 2 ^ (k - 1)
abbrev pub Rounds : List ℕ → Type 0
Rounds t = (k : ℕ) → 1 ≤ k → k ≤ length t → nat_abs (text_value t -ℤ (text_value (take (length t - k) t) *ℤ pos (2 ^ k))) ≤ 2 ^ (k - 1)

pub good_rounds : (t : List ℕ) → faulty t ≡ false → Rounds t
good_rounds t g k l h =
    let j = length t - k in
    let rest : length (drop j t) ≡ k = length-drop j t ∙ omega arith in
    let near = steps_near (steps_rest (good_stepping t g).stepping j).1 (rw rest l) in
    rw (cut_off t k h) (rw rest at near)

-- the last bytes from the first of two repeated signs on are worth more than that sign alone
repeated_moves : (t : List ℕ) (p : Repeated t) → strange (get_or t p.second none) ≡ false →
    nat_abs (text_value (drop p.first t)) ≤ 2 ^ (length t - p.first - 1) → ⊥
unfolding digit_of
repeated_moves t p o r = go (get_or t p.second none) (byte_kind _ o) refl
  where
    rest : List ℕ
    rest = drop (suc p.first) t

    m : ℕ
    m = p.second - suc p.first

    back : suc p.first + m ≡ p.second
    back = omega (arith, p.order)

    count : length t - p.first - 1 ≡ length rest
    count = omega (arith, length-drop (suc p.first) t)

    here : (c : ℕ) → get_or t p.second none ≡ c → get_or rest m none ≡ c
    here c e = get_or-drop (suc p.first) t m none ∙ rw back e

    zeros : (i : ℕ) → i < m → get_or rest i none ≡ none
    zeros i h = get_or-drop (suc p.first) t i none ∙ p.between (suc p.first + i) (omega arith) (omega arith)

    far : (c : ℕ) → get_or t p.second none ≡ c → nat_abs (text_value (c ∷ rest)) ≤ 2 ^ length rest
    far c e = rw (drop-cons t p.first none (omega (arith, p.order, p.inside)), p.same ∙ e, count) at r

    lead : (get_or rest m none ≡ plus → down (text_value rest) < up (text_value rest)) ×
        (get_or rest m none ≡ minus → up (text_value rest) < down (text_value rest))
    lead = leads rest m (omega (arith, p.order, p.inside, length-drop (suc p.first) t)) zeros

    go : (c : ℕ) → Byte c → get_or t p.second none ≡ c → ⊥
    go c a_plus e = omega (arith, cons_law plus rest, lead.0 (here plus e), abs_range (2 ^ length rest) (text_value (plus ∷ rest)) (far plus e))
    go c a_none e = p.nonzero e
    go c a_minus e = omega (arith, cons_law minus rest, lead.1 (here minus e), abs_range (2 ^ length rest) (text_value (minus ∷ rest)) (far minus e))

pub rounds_good : (t : List ℕ) → ((k : ℕ) → k < length t → strange (get_or t k none) ≡ false) → Rounds t → faulty t ≡ false
rounds_good t h r = is_false (faulty t) (λ e. tells (faulty_tells t (is_true (faulty t) e)))
  where
    tells : Strange t ⊎ Repeated t → ⊥
    tells (inl s) = true≢false (sym s.byte ∙ h s.place s.inside)
    tells (inr p) =
        let k = length t - p.first in
        let back : length t - k ≡ p.first = omega (arith, p.order, p.inside) in
        let moved = r k (omega (arith, p.order, p.inside)) (omega arith) in
        repeated_moves t p (h p.second p.inside) (rw (cut_off t k (omega arith), back) at moved)
