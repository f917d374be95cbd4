-- Which texts neither search finds a fault in, and that those are the steps of bits. Assumes nothing.
-- Proved here: `steps_no_fault`, `byte_kind`, `bit`, `tells`, `stepping`, `good_stepping`.
use Prim.Native.Nat.{ℕ, zero, suc, ◌≤◌, ◌<◌}
use native.Mathlib.Nat.{not-suc-le-zero, le_of_suc-le-suc}
use native.Mathlib.Omega.{arith}
use mathlib.Core.Path.{◌≡◌, refl, sym}
use mathlib.Core.Bool.{Bool, true, false, not, ◌&&◌, ◌||◌, true≢false}
use mathlib.Core.List.{List, [], ◌∷◌}
use lib.Dec.{eqb}
use lib.IntN.{pos, ◌-ℤ◌}
use lib.ListN.{length, get_or}
use borrow.Author.Tests.{ne_eqb, eqb-true, eqb-false, not-true}
use Rattle.integers.proofs.Digits.{both_bits}
use Rattle.words.proofs.Laws.{or-false}
use Rattle.digit_text.specs.Digits.{plus, none, minus, byte_of}
use Rattle.digit_text.specs.Reading.{strange, strange_at, repeats_at, strange_place, repeat_place, found}
use Rattle.digit_text.proofs.Laws.Steps.{Steps, ends, steps, steps_bits}
use Rattle.digit_text.proofs.Scan.{bit_le}
use Rattle.digit_text.proofs.Places.{leftmost_none, not_found, faulty}
use Rattle.digit_text.proofs.Laws.Signs.{after, sign_from, sign_from_none, sign_from_cons, plus_bit}

-- ---- a byte that is good behind the sign s, and a text that is good behind it
abbrev fault : ℕ → ℕ → Bool
fault b s = strange b || (not (eqb b none) && eqb b s)

abbrev good_byte : ℕ → ℕ → Bool
good_byte s b = not (fault b s)

abbrev Good : ℕ → List ℕ → Type 0
Good s t = (k : ℕ) → k < length t → good_byte (sign_from s t k) (get_or t k none) ≡ true

-- what a sign tells of the bit below it
abbrev pub Tells : ℕ → ℕ → Type 0
Tells s b = (s ≡ plus → b ≡ 1) × (s ≡ minus → b ≡ 0)

-- ---- steps are good behind a sign that tells the bit above them
step_good : (s c b : ℕ) → c ≤ 1 → b ≤ 1 → Tells s b → (good_byte s (byte_of (pos c -ℤ pos b)) ≡ true) × Tells (after s (byte_of (pos c -ℤ pos b))) c
unfolding byte_of
step_good s =
    both_bits (λ c b. Tells s b → (good_byte s (byte_of (pos c -ℤ pos b)) ≡ true) × Tells (after s (byte_of (pos c -ℤ pos b))) c)
    (λ n. (refl, n))
    (λ n. (rw (ne_eqb minus s (λ e. let z = n.1 (sym e) in omega arith)), omega arith))
    (λ n. (rw (ne_eqb plus s (λ e. let z = n.0 (sym e) in omega arith)), omega arith))
    (λ n. (refl, n))

steps_good : {b r : ℕ} {t : List ℕ} (s : ℕ) → Tells s b → Steps b t r → Good s t
steps_good s n (ends h) k l = absurd (not-suc-le-zero l)
steps_good s n (steps {b = b} {c = c} h k p) zero l = (step_good s c b k h n).0
steps_good s n (steps {b = b} {c = c} {t = t} h k p) (suc i) l =
    rw (sign_from_cons s (byte_of (pos c -ℤ pos b)) t i) (steps_good _ (step_good s c b k h n).1 p i (le_of_suc-le-suc l))

-- neither of two faults
neither : (a r : Bool) → not (a || r) ≡ true → (a ≡ false) × (r ≡ false)
neither a r e = or-false a r (not-true (a || r) e)

pub steps_no_fault : {b r : ℕ} {t : List ℕ} → Steps b t r → (strange_place t ≡ length t) × (repeat_place t ≡ length t)
unfolding strange_place repeat_place strange_at repeats_at
steps_no_fault {t = t} p = (leftmost_none t (strange_at t) (λ k l. (good k l).0), leftmost_none t (repeats_at t) (λ k l. rw (sign_from_none t k) (good k l).1))
  where
    good : (k : ℕ) → k < length t → (strange (get_or t k none) ≡ false) ×
        ((not (eqb (get_or t k none) none) && eqb (get_or t k none) (sign_from none t k)) ≡ false)
    good k l = neither _ _ (steps_good none (omega arith) p k l)

-- ---- the three bytes
pub data Byte : ℕ → Type 0 where
  a_plus : Byte plus
  a_none : Byte none
  a_minus : Byte minus

pub byte_kind : (b : ℕ) → strange b ≡ false → Byte b
byte_kind b = go (eqb b plus) refl (eqb b none) refl (eqb b minus) refl
  where
    go : (p : Bool) → eqb b plus ≡ p → (n : Bool) → eqb b none ≡ n → (m : Bool) → eqb b minus ≡ m → not (p || n || m) ≡ false → Byte b
    go true e n f m g h = rw (eqb-true b plus e) a_plus
    go false e true f m g h = rw (eqb-true b none f) a_none
    go false e false f true g h = rw (eqb-true b minus g) a_minus
    go false e false f false g h = absurd (true≢false h)

-- ---- a good text is steps, with the bit below it 1 exactly where its last sign is `+`
pub record Stepping (s : ℕ) (t : List ℕ) : Type 0 where
  pub bit : ℕ
  pub tells : Tells s bit
  pub stepping : Steps bit t (plus_bit (sign_from s t (length t)))

stay : (b : ℕ) {r : ℕ} {t : List ℕ} → Steps b t r → Steps b (none ∷ t) r
unfolding byte_of
stay zero p = steps {b = 0} {c = 0} (omega arith) (omega arith) p
stay (suc zero) p = steps {b = 1} {c = 1} (omega arith) (omega arith) p
stay (suc (suc b)) p = absurd (omega (arith, steps_bits p))

stepping_more : (s b : ℕ) (t : List ℕ) → Byte b → good_byte s b ≡ true → Stepping (after s b) t → Stepping s (b ∷ t)
unfolding byte_of
stepping_more s b t a_none g p =
    record { bit = p.bit; tells = p.tells; stepping = rw (sign_from_cons s none t (length t)) (stay p.bit p.stepping) }
stepping_more s b t a_plus g p =
    let rising = rw (p.tells.0 refl) at p.stepping in
    record {
      bit = 0;
      tells = (λ e. absurd (eqb-false plus s (not-true _ g) (sym e)), λ e. refl);
      stepping = rw (sign_from_cons s plus t (length t)) (steps {b = 0} {c = 1} (omega arith) (omega arith) rising);
    }
stepping_more s b t a_minus g p =
    let falling = rw (p.tells.1 refl) at p.stepping in
    record {
      bit = 1;
      tells = (λ e. refl, λ e. absurd (eqb-false minus s (not-true _ g) (sym e)));
      stepping = rw (sign_from_cons s minus t (length t)) (steps {b = 1} {c = 0} (omega arith) (omega arith) falling);
    }

good_steps : (s : ℕ) (t : List ℕ) → Good s t → Stepping s t
good_steps s [] g = record { bit = plus_bit s; tells = (λ e. rw e, λ e. rw e); stepping = ends (bit_le (eqb s plus)) }
good_steps s (b ∷ t) g =
    let here = g zero (omega arith) in
    stepping_more s b t (byte_kind b (neither (strange b) _ here).0) here
    (good_steps (after s b) t (λ k l. rw (sign_from_cons s b t k) at (g (suc k) (omega arith))))

-- ---- a text that is not faulty is good at each index, so it is steps behind no sign
each_good : (t : List ℕ) → faulty t ≡ false → Good none t
unfolding strange_place repeat_place strange_at repeats_at
each_good t g k l =
    let p = or-false (found (strange_place t) t) (found (repeat_place t) t) g in
    rw (not_found t (strange_at t) p.0 k l, rw (sign_from_none t k) at (not_found t (repeats_at t) p.1 k l))

pub good_stepping : (t : List ℕ) → faulty t ≡ false → Stepping none t
good_stepping t g = good_steps none t (each_good t g)
