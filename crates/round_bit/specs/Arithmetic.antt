-- Document 01, "Round-bit words": sum and difference, product, to plain and from plain.
use Rattle.std.specs.Prelude.{◌+◌, ◌-◌, Bool, true, false, bit_and, bit_or, pos, ◌+ℤ◌, ◌*ℤ◌}
use Rattle.integers.specs.Names.{exactly_one, lt_z}
use Rattle.words.specs.Outcomes.{Outcome}
use Rattle.words.specs.declared.Format.{Format}
use Rattle.words.specs.Kinds.{PlainWord}
use Rattle.words.specs.Kinds.{PlainAnswer}
use Rattle.words.specs.declared.RoundBit.{RoundBit}
use Rattle.words.specs.Kinds.{RoundBitWord}
use Rattle.words.specs.Kinds.{RoundBitAnswer}
use Rattle.words.specs.Refusals.{refuse, ◌or_else◌, differ}
use Rattle.words.specs.Formats.{format, units_multiplied, answer_check}
use Rattle.words.specs.Plain.{plain_word, plain_check, plain_fitted, ◌and_then◌ as ◌and_then_plain◌}
use Rattle.words.specs.RoundBit.{round_bit_word, round_bit_check, round_bit_done, round_bit_fitted}
use Rattle.words.specs.RoundBit.{◌and_then◌}
use Rattle.round_bit.specs.Cuts.{sign_changed, sign_change_word}

-- "Sum: (a + b + (ra and rb), ra or rb)"
abbrev pub added : RoundBit → RoundBit → RoundBit
added m n = record { 0 = (m.0 +ℤ n.0) +ℤ pos (bit_and m.1 n.1); 1 = bit_or m.1 n.1 }

-- "in the common width"
unfoldable pub sum_word : RoundBitWord → RoundBitWord → RoundBitWord
sum_word x y = record { number = added x.number y.number; format = x.format }

-- 1, 2, 3 of the first, 1, 2, 3 of the second, then 4
abbrev pub sum_check : RoundBitWord → RoundBitWord → Outcome
sum_check x y =
    round_bit_check x or_else round_bit_check y or_else refuse 4 (differ x.format y.format)

-- then 8, of the number and not of the value
abbrev pub sum_of : RoundBitWord → RoundBitWord → RoundBitAnswer
sum_of x y = sum_check x y and_then round_bit_fitted (sum_word x y)

-- "Difference: the sum with the second operand's sign changed."
abbrev pub difference_of : RoundBitWord → RoundBitWord → RoundBitAnswer
difference_of x y = sum_check x y and_then round_bit_fitted (sum_word x (sign_change_word y))

-- "for operands with a, b >= 0 it is (ab + a rb + b ra, ra rb) (000, Definition 10)"
unfoldable pub magnitude_product : RoundBit → RoundBit → RoundBit
magnitude_product m n = record {
  0 = ((m.0 *ℤ n.0) +ℤ (m.0 *ℤ pos n.1)) +ℤ (n.0 *ℤ pos m.1);
  1 = bit_and m.1 n.1;
}

abbrev pub negative : RoundBit → Bool
negative n = lt_z n.0 (pos 0)

abbrev pub sign_changed_if : Bool → RoundBit → RoundBit
sign_changed_if true n = sign_changed n
sign_changed_if false n = n

-- "An operand with a negative number is sign-changed first,"
abbrev pub magnitude : RoundBit → RoundBit
magnitude n = sign_changed_if (negative n) n

-- "and the answer is sign-changed if exactly one was."
unfoldable pub multiplied : RoundBit → RoundBit → RoundBit
multiplied m n =
    sign_changed_if (exactly_one (negative m) (negative n))
    (magnitude_product (magnitude m) (magnitude n))

-- "Product, width n+m-1, units multiplied"
abbrev pub product_format : Format → Format → Format
product_format f g = format (f.width + g.width - 1) (units_multiplied f g)

unfoldable pub product_word : RoundBitWord → RoundBitWord → RoundBitWord
product_word x y = record {
  number = multiplied x.number y.number;
  format = product_format x.format y.format;
}

-- 1, 2, 3 of the first, 1, 2, 3 of the second, then 6, then 7
abbrev pub product_check : RoundBitWord → RoundBitWord → Outcome
product_check x y =
    round_bit_check x or_else round_bit_check y
    or_else answer_check (product_format x.format y.format)

abbrev pub product_of : RoundBitWord → RoundBitWord → RoundBitAnswer
product_of x y = product_check x y and_then round_bit_done (product_word x y)

-- "To plain: number a + r, same width and unit;"
unfoldable pub to_plain_word : RoundBitWord → PlainWord
to_plain_word w = plain_word (w.number.0 +ℤ pos w.number.1) w.format

-- "8 if that is 2^(n-1)."
abbrev pub to_plain_of : RoundBitWord → PlainAnswer
to_plain_of w = round_bit_check w and_then_plain plain_fitted (to_plain_word w)

-- "From plain: (x, 0)."
unfoldable pub from_plain_word : PlainWord → RoundBitWord
from_plain_word w = round_bit_word w.number.0 0 w.format

abbrev pub from_plain_of : PlainWord → RoundBitAnswer
from_plain_of w = plain_check w and_then round_bit_done (from_plain_word w)
