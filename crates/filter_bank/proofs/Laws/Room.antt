-- Words of one format that are small for it always add up: how many, and how small. Assumes nothing.
-- Proved here: `good`, `size`, `within_good`, `within_turned`, `done`, `last`, `within`, `sum_within`, `adds_up`, `enough_room`.
use Prim.Native.Nat.{ℕ, suc, ◌+◌, ◌-◌, ◌*◌, ◌^◌, ◌≤◌, ◌<◌}
use native.Mathlib.Omega.{arith}
use native.Mathlib.Nat.{mul-le-mul, le_refl}
use mathlib.Core.Path.{◌≡◌, refl, sym, ◌∙◌}
use mathlib.Core.List.{List, [], ◌∷◌, reverse_aux}
use lib.ListN.{length}
use lib.Pow.{pow-add}
use lib.Signed.{mag}
use Rattle.words.specs.RoundBit.{round_bit_done}
use Rattle.words.specs.declared.Format.{Format}
use Rattle.words.specs.Kinds.{RoundBitWord}
use Rattle.words.proofs.Laws.{RightRoundBit}
use Rattle.round_bit.specs.Arithmetic.{sum_word, sum_of}
use Rattle.round_bit.proofs.Laws.Added.{added_size, added_bit}
use Rattle.round_bit.proofs.Laws.Sums.{sum_fits}
use Rattle.filter_bank.specs.Bank.{added_to, total}
use Rattle.filter_bank.specs.Claims.{AllDone, sum_answers, last_word, additions, last_sum}
use Rattle.filter_bank.proofs.Rows.{Good, AllGood}

-- a right word of this format whose number has a size under b
pub record Within (f : Format) (b : ℕ) (w : RoundBitWord) : Type 0 where
  pub good : Good f w
  pub size : mag w.number.0 < b

abbrev pub AllWithin : Format → ℕ → List RoundBitWord → Type 0
AllWithin f b [] = record {}
AllWithin f b (w ∷ more) = Within f b w × AllWithin f b more

pub within_good : (f : Format) (b : ℕ) (ws : List RoundBitWord) → AllWithin f b ws → AllGood f ws
within_good f b [] h = record {}
within_good f b (w ∷ more) h = (h.0.good, within_good f b more h.1)

-- the same words from the last one down
pub within_turned : (f : Format) (b : ℕ) (ws more : List RoundBitWord) → AllWithin f b ws → AllWithin f b more → AllWithin f b (reverse_aux ws more)
within_turned f b [] more g h = h
within_turned f b (w ∷ ws) more g h = within_turned f b ws (w ∷ more) g.1 (g.0, h)

-- to the word the others, one by one: every addition is done, the last one answers the sum, and that is under b
pub record AddsUp (f : Format) (b : ℕ) (w : RoundBitWord) (ps : List RoundBitWord) : Type 0 where
  pub done : AllDone (sum_answers w ps)
  pub last : last_word w (sum_answers w ps) ≡ added_to w ps
  pub within : Within f b (added_to w ps)

-- words under i and j add up where there is room for i + j, and the sum is under i + j
pub sum_within : (f : Format) (i j : ℕ) (x y : RoundBitWord) → Within f i x → Within f j y → i + j ≤ 2 ^ (f.width - 1) →
    (sum_of x y ≡ round_bit_done (sum_word x y)) × Within f (i + j) (sum_word x y)
unfolding sum_word
sum_within f i j x y g h e =
    let p = g.good.right in
    let q = h.good.right in
    let small = added_size x.number y.number i j g.size h.size p.bit in
    let fits : mag (sum_word x y).number.0 < 2 ^ (x.format.width - 1) = rw g.good.same (omega arith) in
    let right : RightRoundBit (sum_word x y) =
    record { format = p.format; size = fits; bit = added_bit x.number y.number p.bit q.bit } in
    (sum_fits x y p q (g.good.same ∙ sym h.good.same) fits, record { good = record { right = right; same = g.good.same }; size = small })

-- a word under k times b and others that are each under b
pub adds_up : (f : Format) (b k : ℕ) (w : RoundBitWord) (ps : List RoundBitWord) → Within f (k * b) w → AllWithin f b ps →
    (k + length ps) * b ≤ 2 ^ (f.width - 1) → AddsUp f ((k + length ps) * b) w ps
unfolding sum_answers added_to
adds_up f b k w [] g h e =
    let count : k + 0 ≡ k = omega arith in
    record { done = record {}; last = refl; within = rw count g }
adds_up f b k w (p ∷ more) g h e =
    let count : k + suc (length more) ≡ suc k + length more = omega arith in
    let one : suc k * b ≡ k * b + b = omega arith in
    let s = sum_within f (k * b) b w p g h.0 (omega (arith, e)) in
    let t = adds_up f b (suc k) (sum_word w p) more (rw one s.1) h.1 (rw count at e) in
    record { done = rw s.0 (refl, t.done); last = rw s.0 t.last; within = rw count t.within }

-- words of which to the first the others are added
pub record AddUp (f : Format) (b : ℕ) (ps : List RoundBitWord) : Type 0 where
  pub done : AllDone (additions ps)
  pub last : last_sum ps ≡ total ps
  pub within : Within f b (total ps)

-- at most 2 ^ m words, each with a number of n + 1 digits, add up in n + 1 + m digits
pub enough_room : (f : Format) (n m : ℕ) (ps : List RoundBitWord) → f.width ≡ suc n + m → AllWithin f (2 ^ n) ps → 1 ≤ length ps → length ps ≤ 2 ^ m →
    AddUp f (length ps * 2 ^ n) ps
enough_room f n m [] e h k c = absurd (omega arith)
enough_room f n m (p ∷ more) e h k c =
    let one : 1 * 2 ^ n ≡ 2 ^ n = omega arith in
    let count : 1 + length more ≡ suc (length more) = omega arith in
    let digits : f.width - 1 ≡ m + n = omega arith in
    let s =
    rw count at (adds_up f (2 ^ n) 1 p more (rw one h.0) h.1 (rw (digits, count, pow-add 2 m n) (mul-le-mul c (le_refl (2 ^ n)))))
    in
    record { done = s.done; last = s.last; within = s.within }
