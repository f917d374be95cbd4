-- Wrong answers: rows of an import and an answer that it must not give, each tried against the definitions by one computed test. With the
-- uniqueness of each contract this shuts them out of the code.
use Prim.Native.Nat.{◌+◌}
use mathlib.Core.Bool.{true, not}
use mathlib.Core.List.{List, [], ◌∷◌, ◌++◌}
use mathlib.Core.Path.{◌≡◌, refl}
use lib.Count.{count_trailing_zeros}
use lib.IntN.{pos, negsuc}
use lib.ListN.{length, get_or}
use lib.Ieee.{odd, of_fields, of_bits}
use Rattle.integers.specs.Numbers.{fits_width, lowest, cleared}
use Rattle.integers.specs.Lists.{first_bad, all}
use Rattle.words.specs.Words.Kind.{plain, round_bit, half_unit}
use Rattle.words.specs.Refusals.{format_check}
use Rattle.words.specs.Plain.{plain_fitted}
use Rattle.words.specs.RoundBit.{round_bit_fitted}
use Rattle.words.specs.HalfUnit.{half_unit_fitted}
use Rattle.words.specs.Flat.{flat, refused}
use Rattle.binary64.specs.Import.{in_units, nearest_whole, floor_of, nearest_half_odd, whole_count, half_odd_count, import_check}
use Rattle.binary64.proofs.Samples.{minus_zero, least_subnormal, most_finite, infinite, quiet, signalling, half, one, one_and_a_half, two}
use Rattle.binary64.proofs.Samples.{two_and_a_half, three, minus_half, minus_one, minus_one_and_a_half, minus_two_and_a_half}
use Rattle.binary64.proofs.Samples.{one_and_three_quarters, minus_quarter, unit, finest, Row, gives, same, is}

-- of each import the three stand-ins: one that refuses, one that answers a fixed word, the blank one, and one that copies its bits through
abbrev stand_ins : List Row
stand_ins =
    gives plain three 8 unit (refused 15)
    ∷ gives plain three 8 unit (refused 0)
    ∷ is plain least_subnormal 8 finest (pos 1)
    ∷ gives round_bit three 8 unit (refused 15)
    ∷ gives round_bit three 8 unit (refused 0)
    ∷ is round_bit least_subnormal 8 finest (pos 1)
    ∷ gives half_unit three 8 unit (refused 15)
    ∷ gives half_unit three 8 unit (refused 0)
    ∷ is half_unit least_subnormal 8 finest (pos 1)
    ∷ []

abbrev mistakes : List Row
mistakes =
    -- a tie away from zero; up; down; to the odd count
    is plain half 8 unit (pos 1)
    ∷ is plain minus_half 8 unit (negsuc 0)
    ∷ is plain minus_one_and_a_half 8 unit (negsuc 0)
    ∷ is plain one_and_a_half 8 unit (pos 1)
    ∷ is plain two_and_a_half 8 unit (pos 3)
    ∷ is round_bit minus_two_and_a_half 8 unit (negsuc 2)
    -- truncation; the floor
    ∷ is plain one_and_three_quarters 8 unit (pos 1)
    ∷ is plain minus_quarter 8 unit (negsuc 0)
    -- 8 tested before rounding: 1.5 let into 2 digits as 2, and -2.5, which is -2 there, refused; the end of the width for what is past it
    ∷ is plain one_and_a_half 2 unit (pos 2)
    ∷ gives plain minus_two_and_a_half 2 unit (refused 8)
    ∷ is plain two 2 unit (pos 1)
    -- an exponent off by one, either way; the unit the wrong way round
    ∷ is plain one 8 unit (pos 2)
    ∷ is plain two 8 unit (pos 1)
    ∷ is plain two 8 (pos 1) (pos 4)
    -- a round bit for the half; the value that a round bit would make fit
    ∷ gives round_bit one_and_a_half 8 unit (flat 0 (pos 1) 1 8 unit)
    ∷ gives round_bit two 2 unit (flat 0 (pos 1) 1 2 unit)
    -- the hidden digit given where the exponent's field is 0: it shows at minus zero
    ∷ is half_unit minus_zero 8 unit (negsuc 0)
    -- a half-unit tie uncleared; down; toward zero; a tie looked for at the half
    ∷ is half_unit one 8 unit (pos 1)
    ∷ is half_unit two 8 unit (pos 1)
    ∷ is half_unit minus_one 8 unit (negsuc 0)
    ∷ is half_unit one_and_a_half 8 unit (pos 0)
    -- toward zero; to the nearest whole count
    ∷ is half_unit minus_quarter 8 unit (pos 0)
    ∷ is half_unit one_and_three_quarters 8 unit (pos 2)
    -- a subnormal taken for zero, or refused; a not-a-number as 0; the greatest one as an infinity
    ∷ is half_unit (minus_zero + least_subnormal) 8 finest (pos 0)
    ∷ gives plain least_subnormal 8 finest (refused 15)
    ∷ is plain quiet 8 unit (pos 0)
    ∷ is plain signalling 8 unit (pos 0)
    ∷ gives plain most_finite 8 unit (refused 15)
    -- a refusal with its word
    ∷ gives plain two 2 unit (flat 8 (pos 2) 0 2 unit)
    ∷ gives half_unit infinite 8 unit (flat 15 (pos 0) 0 8 unit)
    ∷ []

-- two causes, refused for the later one
abbrev orders : List Row
orders =
    gives plain infinite 8 unit (refused 8)
    ∷ gives plain quiet 64 unit (refused 15)
    ∷ gives half_unit quiet 8 (pos 128) (refused 15)
    ∷ gives round_bit one 64 (pos 128) (refused 2)
    ∷ gives half_unit most_finite 1 unit (refused 8)
    ∷ gives plain most_finite 8 (pos 128) (refused 8)
    ∷ []

abbrev wrong : List Row
wrong = stand_ins ++ mistakes ++ orders

all_wrong : all (length wrong) (λ k. not (same (get_or wrong k (gives plain three 8 unit (refused 15))))) ≡ true
unfolding first_bad in_units nearest_whole floor_of nearest_half_odd whole_count half_odd_count import_check cleared lowest fits_width plain_fitted
    round_bit_fitted half_unit_fitted format_check of_bits of_fields odd count_trailing_zeros
all_wrong = refl
