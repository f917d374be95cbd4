-- Document 01, "Half-unit words": the two sums, and product.
use Rattle.std.specs.Prelude.{◌+◌, ℤ, pos, ◌+ℤ◌, ◌-ℤ◌, ◌*ℤ◌}
use Rattle.integers.specs.Names.{floor_by, cleared}
use Rattle.words.specs.Outcomes.{Outcome}
use Rattle.words.specs.declared.Format.{Format}
use Rattle.words.specs.Kinds.{HalfUnitWord}
use Rattle.words.specs.Kinds.{HalfUnitAnswer}
use Rattle.words.specs.Refusals.{refuse, ◌or_else◌, differ}
use Rattle.words.specs.Formats.{format, units_multiplied, answer_check}
use Rattle.words.specs.HalfUnit.{half_unit_word, half_unit_check, half_unit_done, half_unit_fitted}
use Rattle.words.specs.HalfUnit.{◌and_then◌}

-- "Sum, same width and unit": 1, 2, 3 of the first, 1, 2, 3 of the second, then 4
abbrev pub sum_check : HalfUnitWord → HalfUnitWord → Outcome
sum_check x y =
    half_unit_check x or_else half_unit_check y or_else refuse 4 (differ x.format y.format)

-- "x+y+1 by the up rule;"
unfoldable pub sum_up_word : HalfUnitWord → HalfUnitWord → HalfUnitWord
sum_up_word x y = half_unit_word ((x.number.0 +ℤ y.number.0) +ℤ pos 1) x.format

-- "Only the final number is tested for 8."
abbrev pub sum_up_of : HalfUnitWord → HalfUnitWord → HalfUnitAnswer
sum_up_of x y = sum_check x y and_then half_unit_fitted (sum_up_word x y)

-- "the same with its lowest digit cleared by the even rule."
unfoldable pub sum_even_word : HalfUnitWord → HalfUnitWord → HalfUnitWord
sum_even_word x y = half_unit_word (cleared (sum_up_word x y).number.0) x.format

abbrev pub sum_even_of : HalfUnitWord → HalfUnitWord → HalfUnitAnswer
sum_even_of x y = sum_check x y and_then half_unit_fitted (sum_even_word x y)

-- "((2x+1)(2y+1) - 1) / 2": both factors are odd, so nothing is left over
unfoldable pub multiplied : ℤ → ℤ → ℤ
multiplied x y = floor_by ((((pos 2 *ℤ x) +ℤ pos 1) *ℤ ((pos 2 *ℤ y) +ℤ pos 1)) -ℤ pos 1) 1

-- "width n+m, unit exponent the two added, less 1"
abbrev pub product_format : Format → Format → Format
product_format f g = format (f.width + g.width) (units_multiplied f g -ℤ pos 1)

unfoldable pub product_word : HalfUnitWord → HalfUnitWord → HalfUnitWord
product_word x y =
    half_unit_word (multiplied x.number.0 y.number.0) (product_format x.format y.format)

-- 1, 2, 3 of the first, 1, 2, 3 of the second, then 6, then 7
abbrev pub product_check : HalfUnitWord → HalfUnitWord → Outcome
product_check x y =
    half_unit_check x or_else half_unit_check y
    or_else answer_check (product_format x.format y.format)

abbrev pub product_of : HalfUnitWord → HalfUnitWord → HalfUnitAnswer
product_of x y = product_check x y and_then half_unit_done (product_word x y)
