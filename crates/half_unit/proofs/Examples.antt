-- Document 01's examples of half-unit words that are not in the bench sheet's table, computed from the definitions.
use mathlib.Core.Path.{◌≡◌, refl}
use lib.IntN.{pos, negsuc}
use Rattle.integers.specs.Numbers.{fits_width, floor_by}
use Rattle.words.specs.Refusals.{format_check, word_check}
use Rattle.words.specs.declared.Cause.TheVariants.{WidthPast}
use Rattle.words.specs.Formats.{format, answer_check}
use Rattle.words.specs.HalfUnit.{half_unit_word, half_unit_refused, half_unit_done}
use Rattle.words.specs.Flat.{half_unit_at as at}
use Rattle.half_unit.specs.Arithmetic.{multiplied, product_word, product_of}

-- "Widths 32 and 32: .. half-unit product 6. Widths 32 and 31: half-unit product done."
widths : (product_of (at 32 (pos 0)) (at 32 (pos 0)) ≡ half_unit_refused WidthPast)
    × (product_of (at 32 (pos 0)) (at 31 (pos 0)) ≡ half_unit_done (half_unit_word (pos 0) (format 63 (negsuc 0))))
unfolding fits_width floor_by format_check word_check answer_check multiplied product_word
widths = (refl, refl)
