-- The sum of two words, whether it fits or not: its value, its round bit, its order and its grouping. Assumes nothing.
-- Proved here: `sum_word_value`, `sum_word_bit`, `sum_word_comm`, `added_assoc`, `sum_word_assoc`.
use Prim.Native.Nat.{◌≤◌}
use native.Mathlib.Nat.{add_assoc}
use mathlib.Core.Path.{◌≡◌, sym, ◌∙◌}
use lib.IntN.{pos, ◌+ℤ◌, +ℤ_assoc}
use Rattle.integers.proofs.Times.{times_plus}
use Rattle.words.specs.Words.{value}
use Rattle.words.specs.RoundBit.{round_bit_value}
use Rattle.words.specs.declared.RoundBit.{RoundBit}
use Rattle.words.specs.Kinds.{RoundBitWord}
use Rattle.round_bit.specs.Arithmetic.{added, sum_word}
use Rattle.round_bit.proofs.Laws.Added.{added_value, added_bit, added_comm, counted_one, counted_both}

pub sum_word_value : (x y : RoundBitWord) → round_bit_value (sum_word x y) ≡ round_bit_value x +ℤ round_bit_value y
unfolding sum_word value
sum_word_value x y =
    rw (added_value x.number y.number) (times_plus (pos 2) (x.number.0 +ℤ pos x.number.1) (y.number.0 +ℤ pos y.number.1))

pub sum_word_bit : (x y : RoundBitWord) → x.number.1 ≤ 1 → y.number.1 ≤ 1 → (sum_word x y).number.1 ≤ 1
unfolding sum_word
sum_word_bit x y g h = added_bit x.number y.number g h

-- ---- of words of one format the order, and of round bits 0 and 1 the grouping, does not matter to any digit
pub sum_word_comm : (x y : RoundBitWord) → x.format ≡ y.format → sum_word x y ≡ sum_word y x
unfolding sum_word
sum_word_comm x y e = λ i. record { number = added_comm x.number y.number i; format = e i }

pub added_assoc : (m n p : RoundBit) → m.1 ≤ 1 → n.1 ≤ 1 → p.1 ≤ 1 → added (added m n) p ≡ added m (added n p)
added_assoc m n p g h k =
    let x = counted_one m g in
    let y = counted_one n h in
    let z = counted_one p k in
    (counted_both (counted_both x y) z).is
    ∙ rw (+ℤ_assoc m.0 n.0 p.0, add_assoc m.1 n.1 p.1) (sym (counted_both x (counted_both y z)).is)

pub sum_word_assoc : (x y z : RoundBitWord) → x.number.1 ≤ 1 → y.number.1 ≤ 1 → z.number.1 ≤ 1 → sum_word (sum_word x y) z ≡ sum_word x (sum_word y z)
unfolding sum_word
sum_word_assoc x y z g h k = rw (added_assoc x.number y.number z.number g h k)
