-- The integer kit: linear facts of ℤ by `omega`, which reads ℕ alone. A number z is the difference of two naturals, up z - down z, of
-- which one is 0. Each operation has one law on these two, and orders, equality, tests and machine ranges are rules, so that
-- `omega (ints, plus_law a b, times_law c d)` proves a fact of ℤ as `omega arith` proves one of ℕ. A product is exact in its monomials:
-- hand over a law times a factor, `ap (λ (k : ℕ). k * m) (plus_law a b)`. Assumes nothing.
-- Proved here: `plus_law`, `neg_law`, `minus_law`, `times_law`, `size_law`, `one_zero`, `eq_rule`, `by_eq`, `le_rule`, `by_le`, `lt_rule`, `by_lt`,
-- `is_true`, `is_false`, `and_both`, `le_true`, `le_false`, `lt_true`, `lt_false`, `by_le_true`, `by_le_false`, `by_lt_true`, `by_lt_false`,
-- `size_range`, `by_size`, `abs_range`, `by_abs`, `abs_law`, `abs_apart`, `machine_rule`, `by_machine`.
use mathlib.Core.Path.{◌≡◌, refl, sym, ap, ◌∙◌, subst}
use mathlib.Core.Bool.{Bool, true, false, not, cond, ◌&&◌}
use Prim.Native.Nat.{ℕ, zero, suc, ◌+◌, ◌*◌, ◌-◌, ◌^◌, ◌<◌, ◌≤◌, max, min}
use native.Mathlib.Nat.{add-zero, zero-add}
use native.Mathlib.Omega.{arith}
use lib.Dec.{T, leb, ltb, leb→le, ltb→lt, nltb→le, le→leb, lt→ltb, leb-suc-suc}
use lib.IntN.{ℤ, pos, negsuc, neg_ℤ, nat_abs, sub_ℕ, ◌+ℤ◌, ◌-ℤ◌, ◌*ℤ◌}
use lib.Signed.{mag, lt_z, le_z, ◌≤ℤ◌, ◌<ℤ◌}
use mir.Syntax.{Width}
use mir.Val.{SFits, hbits}
use borrow.Author.Tests.{ltb-true, ltb-false, leb-true, leb-false, lt-ltb, le-ltb, le-leb, lt-leb}

-- z = up z - down z
abbrev pub up : ℤ → ℕ
up (pos n) = n
up (negsuc n) = 0

abbrev pub down : ℤ → ℕ
down (pos n) = 0
down (negsuc n) = suc n

-- ---- the operations
by_cases : (c : Bool) (x y : ℤ) (Q : ℤ → Type 0) → (T c → Q x) → (T (not c) → Q y) → Q (cond c x y)
by_cases true x y Q f g = f tt
by_cases false x y Q f g = g tt

subℕ_law : (a b : ℕ) → up (sub_ℕ a b) + b ≡ a + down (sub_ℕ a b)
subℕ_law a b =
    by_cases (ltb a b) (negsuc (b - suc a)) (pos (a - b)) (λ (z : ℤ). up z + b ≡ a + down z)
    (λ t. let h = ltb→lt a b t in omega arith)
    (λ t. let h = nltb→le a b t in omega arith)

pub plus_law : (a b : ℤ) → up (a +ℤ b) + (down a + down b) ≡ (up a + up b) + down (a +ℤ b)
plus_law (pos a) (pos b) = omega arith
plus_law (pos a) (negsuc b) = omega (arith, subℕ_law a (suc b))
plus_law (negsuc a) (pos b) = omega (arith, subℕ_law b (suc a))
plus_law (negsuc a) (negsuc b) = omega arith

pub neg_law : (a : ℤ) → (up (neg_ℤ a) ≡ down a) × (down (neg_ℤ a) ≡ up a)
neg_law (pos zero) = (refl, refl)
neg_law (pos (suc n)) = (refl, refl)
neg_law (negsuc n) = (refl, refl)

pub minus_law : (a b : ℤ) → up (a -ℤ b) + (down a + up b) ≡ (up a + down b) + down (a -ℤ b)
minus_law a b = omega (arith, plus_law a (neg_ℤ b), neg_law b)

pub times_law : (a b : ℤ) → (up (a *ℤ b) ≡ up a * up b + down a * down b) × (down (a *ℤ b) ≡ up a * down b + down a * up b)
times_law (pos a) (pos b) = omega arith
times_law (pos a) (negsuc b) = omega (arith, neg_law (pos (a * suc b)))
times_law (negsuc a) (pos b) = omega (arith, neg_law (pos (suc a * b)))
times_law (negsuc a) (negsuc b) = omega arith

-- the size: mag z is n for n and for -1 - n. One of up and down is 0
pub size_law : (z : ℤ) → (up z ≤ mag z) × (down z ≤ mag z + 1)
size_law (pos n) = omega arith
size_law (negsuc n) = omega arith

pub one_zero : (z : ℤ) → min (up z) (down z) ≡ 0
one_zero (pos n) = omega arith
one_zero (negsuc n) = omega arith

-- ---- equality and the orders, both ways: an order's test is that of the halves
pub eq_rule : {a b : ℤ} → a ≡ b → up a + down b ≡ up b + down a
eq_rule {a} e = subst (λ (z : ℤ). up a + down z ≡ up z + down a) e refl

pub by_eq : (a b : ℤ) → up a + down b ≡ up b + down a → a ≡ b
by_eq (pos a) (pos b) h = ap pos (omega arith)
by_eq (pos a) (negsuc b) h = absurd (omega arith)
by_eq (negsuc a) (pos b) h = absurd (omega arith)
by_eq (negsuc a) (negsuc b) h = ap negsuc (omega arith)

le_z_is : (a b : ℤ) → le_z a b ≡ leb (up a + down b) (up b + down a)
le_z_is (pos a) (pos b) = rw (add-zero a, add-zero b)
le_z_is (pos a) (negsuc b) = sym (lt-leb (a + suc b) 0 (omega arith))
le_z_is (negsuc a) (pos b) = sym (le-leb 0 (b + suc a) (omega arith))
le_z_is (negsuc a) (negsuc b) = rw (zero-add (suc b), zero-add (suc a), leb-suc-suc b a)

lt_z_is : (a b : ℤ) → lt_z a b ≡ ltb (up a + down b) (up b + down a)
lt_z_is (pos a) (pos b) = rw (add-zero a, add-zero b)
lt_z_is (pos a) (negsuc b) = sym (le-ltb (a + suc b) 0 (omega arith))
lt_z_is (negsuc a) (pos b) = sym (lt-ltb 0 (b + suc a) (omega arith))
lt_z_is (negsuc a) (negsuc b) = rw (zero-add (suc b), zero-add (suc a), leb-suc-suc (suc b) a)

pub le_rule : {a b : ℤ} → a ≤ℤ b → up a + down b ≤ up b + down a
le_rule {a} {b} h = leb→le _ _ (rw (le_z_is a b) at h.le)

pub by_le : (a b : ℤ) → up a + down b ≤ up b + down a → a ≤ℤ b
by_le a b h = record { le = rw (le_z_is a b) (le→leb _ _ h) }

pub lt_rule : {a b : ℤ} → a <ℤ b → up a + down b < up b + down a
lt_rule {a} {b} h = ltb→lt _ _ (rw (lt_z_is a b) at h.lt)

pub by_lt : (a b : ℤ) → up a + down b < up b + down a → a <ℤ b
by_lt a b h = record { lt = rw (lt_z_is a b) (lt→ltb _ _ h) }

-- ---- tests, both ways and both answers
pub is_true : (t : Bool) → T t → t ≡ true
is_true true h = refl
is_true false h = absurd h

pub is_false : (t : Bool) → (T t → ⊥) → t ≡ false
is_false true h = absurd (h tt)
is_false false h = refl

pub and_both : (a b : Bool) → (a && b) ≡ true → (a ≡ true) × (b ≡ true)
and_both true b e = (refl, e)
and_both false b e = (e, let z : ◌≡◌ {A = Bool} false true = e in cc)

pub le_true : (a b : ℤ) → le_z a b ≡ true → up a + down b ≤ up b + down a
le_true a b e = leb-true _ _ (sym (le_z_is a b) ∙ e)

pub le_false : (a b : ℤ) → le_z a b ≡ false → up b + down a < up a + down b
le_false a b e = leb-false _ _ (sym (le_z_is a b) ∙ e)

pub lt_true : (a b : ℤ) → lt_z a b ≡ true → up a + down b < up b + down a
lt_true a b e = ltb-true _ _ (sym (lt_z_is a b) ∙ e)

pub lt_false : (a b : ℤ) → lt_z a b ≡ false → up b + down a ≤ up a + down b
lt_false a b e = ltb-false _ _ (sym (lt_z_is a b) ∙ e)

pub by_le_true : (a b : ℤ) → up a + down b ≤ up b + down a → le_z a b ≡ true
by_le_true a b h = le_z_is a b ∙ le-leb _ _ h

pub by_le_false : (a b : ℤ) → up b + down a < up a + down b → le_z a b ≡ false
by_le_false a b h = le_z_is a b ∙ lt-leb _ _ h

pub by_lt_true : (a b : ℤ) → up a + down b < up b + down a → lt_z a b ≡ true
by_lt_true a b h = lt_z_is a b ∙ lt-ltb _ _ h

pub by_lt_false : (a b : ℤ) → up b + down a ≤ up a + down b → lt_z a b ≡ false
by_lt_false a b h = lt_z_is a b ∙ le-ltb _ _ h

-- ---- a size below a bound is a range: -p ≤ z < p. Each side is one statement, since `omega` applies one rule to a hypothesis
pub size_range : (p : ℕ) (z : ℤ) → mag z < p → max (up z + 1) (down z) ≤ p
size_range p (pos n) h = omega arith
size_range p (negsuc n) h = omega arith

pub by_size : (p : ℕ) (z : ℤ) → max (2 * up z + 1) (2 * down z) ≤ p + (up z + down z) → mag z < p
by_size p (pos n) h = omega arith
by_size p (negsuc n) h = omega arith

-- ---- the distance from 0, as one bound
pub abs_range : (k : ℕ) (z : ℤ) → nat_abs z ≤ k → max (up z) (down z) ≤ k
abs_range k (pos n) h = omega arith
abs_range k (negsuc n) h = omega arith

pub by_abs : (k : ℕ) (z : ℤ) → max (2 * up z) (2 * down z) ≤ k + (up z + down z) → nat_abs z ≤ k
by_abs k (pos n) h = omega arith
by_abs k (negsuc n) h = omega arith

pub abs_law : (z : ℤ) → nat_abs z ≡ up z + down z
abs_law (pos n) = omega arith
abs_law (negsuc n) = omega arith

-- ---- how far apart two naturals are, which is the distance from 0 of their difference
abbrev pub apart : ℕ → ℕ → ℕ
apart x y = (x - y) + (y - x)

pub abs_apart : (z : ℤ) (x y : ℕ) → up z + y ≡ x + down z → nat_abs z ≡ apart x y
abs_apart (pos n) x y h = omega arith
abs_apart (negsuc n) x y h = omega arith

-- ---- machine ranges, as rules
pub machine_rule : {w : Width} {z : ℤ} → SFits w z → max (up z + 1) (down z) ≤ 2 ^ hbits w
machine_rule {w} {z} f = size_range (2 ^ hbits w) z f.sfits

pub by_machine : {w : Width} {z : ℤ} → max (2 * up z + 1) (2 * down z) ≤ 2 ^ hbits w + (up z + down z) → SFits w z
by_machine {w} {z} h = record { sfits = by_size (2 ^ hbits w) z h }

-- what `omega` is handed
pub ruleset ints = (
  arith,
  machine_rule,
  by_machine,
  le_rule,
  lt_rule,
  eq_rule,
  by_le,
  by_lt,
  by_eq,
  lt_true,
  lt_false,
  le_true,
  le_false,
  by_lt_true,
  by_lt_false,
  by_le_true,
  by_le_false,
)
