-- Only one outcome meets each public function's contract.
use mathlib.Core.Path.{sym, ◌∙◌}
use Rattle.integers.specs.OneOutcome.{OneResult}
use Rattle.integers.proofs.floor_by.Reads as floor-by
use Rattle.integers.proofs.cleared.Reads as cleared
use Rattle.integers.proofs.digit.Reads as digit
use Rattle.integers.proofs.low_digits.Reads as low-digits
use Rattle.integers.proofs.low_byte.Reads as low_byte
use Rattle.integers.proofs.fits_width.Reads as fits_width
use Rattle.integers.proofs.absolute.Reads as absolute
use Rattle.integers.proofs.any_below.Reads as any_below

floor_by_one : OneResult (floor-by.Post tt)
floor_by_one a x y e f p q = p ∙ sym q

cleared_one : OneResult (cleared.Post tt)
cleared_one a x y e f p q = p ∙ sym q

digit_one : OneResult (digit.Post tt)
digit_one a x y e f p q = p ∙ sym q

low_digits_one : OneResult (low-digits.Post tt)
low_digits_one a x y e f p q = p ∙ sym q

low_byte_one : OneResult (low_byte.Post tt)
low_byte_one a x y e f p q = p ∙ sym q

fits_width_one : OneResult (fits_width.Post tt)
fits_width_one a x y e f p q = p ∙ sym q

absolute_one : OneResult (absolute.Post tt)
absolute_one a x y e f p q = p ∙ sym q

any_below_one : OneResult (any_below.Post tt)
any_below_one a x y e f p q = p ∙ sym q
