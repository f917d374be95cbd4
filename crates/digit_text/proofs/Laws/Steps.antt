-- What a list of bytes is worth, in parts and at most, and the texts whose digits are the steps of bits. Assumes nothing.
-- Proved here: `nothing_worth`, `cons_law`, `cut_off`, `value_small`, `steps_bits`, `steps_rest`, `step_law`, `steps_low`, `steps_high`, `steps_fit`,
-- `steps_near`, `bit_below_le`, `digits_length`, `digits_steps`, `digits_value`, `steps_read`.
use Prim.Native.Nat.{ℕ, zero, suc, ◌+◌, ◌-◌, ◌*◌, ◌^◌, ◌≤◌, ◌<◌}
use native.Mathlib.Nat.{pow-succ', mul-le-mul_right, not-suc-le-zero}
use native.Mathlib.Omega.{arith}
use mathlib.Core.Path.{◌≡◌, refl, ap, ◌∙◌}
use mathlib.Core.List.{List, [], ◌∷◌}
use lib.IntN.{ℤ, pos, neg_ℤ, nat_abs, ◌-ℤ◌, ◌*ℤ◌}
use lib.ListN.{length, take, drop, length-drop, take-append-drop}
use lib.Signed.{mag}
use Rattle.integers.specs.Numbers.{floor_by, digit, digits_below}
use Rattle.integers.proofs.Kit.{up, down, ints, plus_law, minus_law, neg_law, times_law, size_range, by_size, by_abs, abs_law}
use Rattle.integers.proofs.Floor.{floor_only}
use Rattle.integers.proofs.Digits.{digit_le, both_bits, split_digit}
use Rattle.integers.proofs.LowDigits.{below_law, below_more, below_range}
use Rattle.words.specs.declared.RoundBit.{RoundBit}
use Rattle.digit_text.specs.Digits.{byte_of, digit_of, text_value}
use Rattle.digit_text.proofs.Scan.{value_append, value_range}

-- ---- what a text is worth: nothing, a byte more, and in two parts
pub nothing_worth : text_value [] ≡ pos 0
unfolding text_value
nothing_worth = refl

pub cons_law : (b : ℕ) (t : List ℕ) →
    up (text_value (b ∷ t)) + down (digit_of b) * 2 ^ length t + down (text_value t) ≡
    up (digit_of b) * 2 ^ length t + up (text_value t) + down (text_value (b ∷ t))
unfolding text_value
cons_law b t =
    let p = pos (2 ^ length t) in omega (arith, plus_law (digit_of b *ℤ p) (text_value t), times_law (digit_of b) p)

-- cutting off the last k bytes moves the value by what they are worth
pub cut_off : (t : List ℕ) (k : ℕ) → k ≤ length t → text_value t -ℤ (text_value (take (length t - k) t) *ℤ pos (2 ^ k)) ≡ text_value (drop (length t - k) t)
cut_off t k h =
    let j = length t - k in
    let x = text_value (take j t) *ℤ pos (2 ^ k) in
    let rest : length (drop j t) ≡ k = length-drop j t ∙ omega arith in
    let split = rw (take-append-drop j t, rest) at (value_append (take j t) (drop j t)) in
    omega (ints, split, plus_law x (text_value (drop j t)), minus_law (text_value t) x)

-- n bytes are worth less than 2 ^ n, either way
pub value_small : (t : List ℕ) → (up (text_value t) < 2 ^ length t + down (text_value t)) × (down (text_value t) < 2 ^ length t + up (text_value t))
value_small t = omega (arith, value_range t, abs_law (text_value t))

-- ---- the digits of a text as the steps of bits: each is the bit below it less the bit above it. b is the bit above the text, r the one
-- below it
pub data Steps : ℕ → List ℕ → ℕ → Type 0 where
  ends : {b : ℕ} → b ≤ 1 → Steps b [] b
  steps : {b c r : ℕ} {t : List ℕ} → b ≤ 1 → c ≤ 1 → Steps c t r → Steps b (byte_of (pos c -ℤ pos b) ∷ t) r

pub steps_bits : {b r : ℕ} {t : List ℕ} → Steps b t r → (b ≤ 1) × (r ≤ 1)
steps_bits (ends h) = (h, h)
steps_bits (steps h k s) = (h, (steps_bits s).1)

-- the last bytes of steps are steps
pub steps_rest : {b r : ℕ} {t : List ℕ} → Steps b t r → (j : ℕ) → (c : ℕ) × Steps c (drop j t) r
steps_rest {b = b} (ends h) zero = (b, ends h)
steps_rest {b = b} (ends h) (suc j) = (b, ends h)
steps_rest {b = b} (steps h k s) zero = (b, steps h k s)
steps_rest (steps h k s) (suc j) = steps_rest s j

-- ---- what steps are worth
step_digit : (c b : ℕ) → c ≤ 1 → b ≤ 1 → digit_of (byte_of (pos c -ℤ pos b)) ≡ pos c -ℤ pos b
unfolding byte_of digit_of
step_digit = both_bits (λ c b. digit_of (byte_of (pos c -ℤ pos b)) ≡ pos c -ℤ pos b) refl refl refl refl

pub step_law : (c b : ℕ) (t : List ℕ) → c ≤ 1 → b ≤ 1 →
    up (text_value (byte_of (pos c -ℤ pos b) ∷ t)) + b * 2 ^ length t + down (text_value t)
    ≡ c * 2 ^ length t + up (text_value t) + down (text_value (byte_of (pos c -ℤ pos b) ∷ t))
step_law c b t h k =
    omega (
      arith,
      rw (step_digit c b h k) at (cons_law (byte_of (pos c -ℤ pos b)) t),
      ap (λ (i : ℕ). i * 2 ^ length t) (minus_law (pos c) (pos b)),
    )

-- with b * 2 ^ n for the bit above them, n steps are worth r at least, and less than r + 2 ^ n
pub steps_low : {b r : ℕ} {t : List ℕ} → Steps b t r → r + down (text_value t) ≤ up (text_value t) + b * 2 ^ length t
steps_low (ends h) = rw nothing_worth (omega arith)
steps_low (steps {b = b} {c = c} {t = t} h k s) =
    omega (arith, steps_low s, step_law c b t k h, ap (λ (i : ℕ). b * i) (pow-succ' 2 (length t)))

pub steps_high : {b r : ℕ} {t : List ℕ} → Steps b t r → up (text_value t) + b * 2 ^ length t < r + 2 ^ length t + down (text_value t)
steps_high (ends h) = rw nothing_worth (omega arith)
steps_high (steps {b = b} {c = c} {t = t} h k s) =
    let p = 2 ^ length t in
    omega (
      arith,
      steps_high s,
      step_law c b t k h,
      pow-succ' 2 (length t),
      ap (λ (i : ℕ). b * i) (pow-succ' 2 (length t)),
      mul-le-mul_right {m = b} {n = 1} p h,
    )

-- less the bit below them they fit their count, so they are worth at most 2 ^ (n - 1) either way
pub steps_fit : {b r : ℕ} {t : List ℕ} → Steps b t r → 1 ≤ length t → mag (text_value t -ℤ pos r) < 2 ^ (length t - 1)
steps_fit (ends h) l = absurd (not-suc-le-zero l)
steps_fit (steps {b = b} {c = c} {r = r} {t = t} h k s) l =
    let v = text_value (byte_of (pos c -ℤ pos b) ∷ t) in
    let one_less : suc (length t) - 1 ≡ length t = omega arith in
    rw one_less (by_size (2 ^ length t) (v -ℤ pos r) (omega (
      arith,
      steps_low s,
      steps_high s,
      step_law c b t k h,
      minus_law v (pos r),
      mul-le-mul_right {m = b} {n = 1} (2 ^ length t) h,
    )))

pub steps_near : {b r : ℕ} {t : List ℕ} → Steps b t r → 1 ≤ length t → nat_abs (text_value t) ≤ 2 ^ (length t - 1)
steps_near {r = r} {t = t} s l =
    let p = 2 ^ (length t - 1) in
    let v = text_value t in
    by_abs p v (omega (arith, size_range p (v -ℤ pos r) (steps_fit s l), minus_law v (pos r), steps_bits s))

-- ---- the digits below n from the top, as steps: each is the bit below it less the digit of a, and r is the bit below the lowest
abbrev pub bit_below : RoundBit → ℕ → ℕ
bit_below x zero = x.1
bit_below x (suc i) = digit x.0 i

abbrev pub digits_text : RoundBit → ℕ → List ℕ
digits_text x zero = []
digits_text x (suc i) = byte_of (pos (bit_below x i) -ℤ pos (digit x.0 i)) ∷ digits_text x i

pub bit_below_le : (x : RoundBit) → x.1 ≤ 1 → (i : ℕ) → bit_below x i ≤ 1
bit_below_le x h zero = h
bit_below_le x h (suc i) = digit_le x.0 i

pub digits_length : (x : RoundBit) (n : ℕ) → length (digits_text x n) ≡ n
digits_length x zero = refl
digits_length x (suc n) = ap suc (digits_length x n)

pub digits_steps : (x : RoundBit) → x.1 ≤ 1 → (n : ℕ) → Steps (bit_below x n) (digits_text x n) x.1
digits_steps x h zero = ends h
digits_steps x h (suc n) = steps (digit_le x.0 n) (bit_below_le x h n) (digits_steps x h n)

-- they are worth r and the digits of a below n, less the highest of these at twice its weight
pub digits_value : (x : RoundBit) → x.1 ≤ 1 → (n : ℕ) →
    up (text_value (digits_text x n)) + bit_below x n * 2 ^ n ≡ x.1 + digits_below x.0 n + down (text_value (digits_text x n))
unfolding digits_below
digits_value x h zero = rw nothing_worth (omega arith)
digits_value x h (suc n) =
    omega (
      arith,
      digits_value x h n,
      rw (digits_length x n) at (step_law (bit_below x n) (digit x.0 n) (digits_text x n) (bit_below_le x h n) (digit_le x.0 n)),
      ap (λ (i : ℕ). digit x.0 n * i) (pow-succ' 2 n),
    )

-- ---- the steps t, from the bit b above them to the bit r below them, are the digits of every number whose digits below n are worth as much
steps_written : {b r : ℕ} {t : List ℕ} (a : ℤ) → Steps b t r → up (text_value t) + b * 2 ^ length t ≡ r + digits_below a (length t) + down (text_value t) →
    (bit_below (record { 0 = a; 1 = r }) (length t) ≡ b) × (digits_text (record { 0 = a; 1 = r }) (length t) ≡ t)
steps_written a (ends h) e = (refl, refl)
steps_written a (steps {b = b} {c = c} {r = r} {t = t} h k s) e =
    let n = length t in
    let v = text_value t in
    let law = step_law c b t k h in
    let more = below_more a n in
    let twice = ap (λ (i : ℕ). b * i) (pow-succ' 2 n) in
    let x = up v + c * 2 ^ n - (r + down v) in
    let low : x < 2 ^ n = omega (arith, steps_low s, steps_high s) in
    let same = split_digit (2 ^ n) x (digits_below a n) low (below_range a n) (digit a n) b (digit_le a n) h (omega (arith, steps_low s)) in
    let rest = steps_written a s (omega (arith, ap (λ (i : ℕ). i * 2 ^ n) same)) in
    (same, rw (rest.0, rest.1, same))

-- such a number is their value less r
pub steps_read : {b r : ℕ} {t : List ℕ} → Steps b t r → digits_text (record { 0 = text_value t -ℤ pos r; 1 = r }) (length t) ≡ t
steps_read {b} {r} {t} s = (steps_written a s (omega (arith, rw (← floor) at (below_law a n), minus_law v (pos r), scaled))).1
  where
    n : ℕ
    n = length t

    v : ℤ
    v = text_value t

    a : ℤ
    a = v -ℤ pos r

    q : ℤ
    q = neg_ℤ (pos b)

    scaled : (up q * 2 ^ n ≡ 0) × (down q * 2 ^ n ≡ b * 2 ^ n)
    scaled = (ap (λ (i : ℕ). i * 2 ^ n) (neg_law (pos b)).0 ∙ omega arith, ap (λ (i : ℕ). i * 2 ^ n) (neg_law (pos b)).1)

    floor : q ≡ floor_by a n
    floor = floor_only a q n (omega (arith, scaled, steps_low s, minus_law v (pos r))) (omega (arith, scaled, steps_high s, minus_law v (pos r)))
