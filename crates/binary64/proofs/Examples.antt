-- Document 02's words on Ask 6, computed from the definitions: rows of samples and what their imports answer.
use Prim.Native.Nat.{ℕ, ◌+◌, ◌-◌, ◌*◌, ◌^◌}
use mathlib.Core.Bool.{Bool, true, cond, ◌&&◌}
use mathlib.Core.List.{List, [], ◌∷◌}
use mathlib.Core.Path.{◌≡◌, refl}
use lib.Count.{count_trailing_zeros}
use lib.Dec.{eqb, leb}
use lib.IntN.{ℤ, pos, negsuc, neg_ℤ}
use lib.ListN.{length, get_or}
use lib.Ieee.{odd, of_fields, of_bits}
use Rattle.integers.specs.Numbers.{fits_width, lowest, cleared}
use Rattle.integers.specs.Lists.{first_bad, all}
use Rattle.words.specs.Words.{Kind}
use Rattle.words.specs.Words.Kind.{plain, round_bit, half_unit}
use Rattle.words.specs.Refusals.{format_check}
use Rattle.words.specs.Plain.{plain_fitted}
use Rattle.words.specs.RoundBit.{round_bit_fitted}
use Rattle.words.specs.HalfUnit.{half_unit_fitted}
use Rattle.words.specs.Flat.{refused}
use Rattle.binary64.specs.Import.{in_units, nearest_whole, floor_of, nearest_half_odd, whole_count, half_odd_count, import_check}
use Rattle.binary64.proofs.Samples.{plus_zero, minus_zero, least_subnormal, most_subnormal, least_normal, most_finite, infinite, minus_infinite, quiet}
use Rattle.binary64.proofs.Samples.{signalling, half, one, one_and_a_half, two, two_and_a_half, three, minus_half, minus_one, minus_one_and_a_half}
use Rattle.binary64.proofs.Samples.{minus_two_and_a_half, unit, finest, coarsest, Row, gives, same, is}

-- half of the finest unit, 2^-127, and one and a half of it; the same of the coarsest, 2^127
abbrev half_finest : ℕ
half_finest = 0x37f0_0000_0000_0000

abbrev more_finest : ℕ
more_finest = 0x3808_0000_0000_0000

abbrev half_coarsest : ℕ
half_coarsest = 0x47d0_0000_0000_0000

abbrev more_coarsest : ℕ
more_coarsest = 0x47e8_0000_0000_0000

abbrev rows : List Row
rows =
    -- "the nearest whole count of units, a tie going to the even count"
    is plain half 8 unit (pos 0)
    ∷ is plain one_and_a_half 8 unit (pos 2)
    ∷ is plain two_and_a_half 8 unit (pos 2)
    ∷ is plain minus_half 8 unit (pos 0)
    ∷ is plain minus_one_and_a_half 8 unit (negsuc 1)
    ∷ is plain minus_two_and_a_half 8 unit (negsuc 1)
    ∷ is plain half_finest 8 finest (pos 0)
    ∷ is plain more_finest 8 finest (pos 2)
    ∷ is plain half_coarsest 8 coarsest (pos 0)
    ∷ is plain more_coarsest 8 coarsest (pos 2)
    -- "round-bit gets round bit 0"
    ∷ is round_bit two_and_a_half 8 unit (pos 2)
    ∷ is round_bit three 8 unit (pos 3)
    -- "the nearest half-odd count, a tie going to the one with the lower digit clear"
    ∷ is half_unit half 8 unit (pos 0)
    ∷ is half_unit one 8 unit (pos 0)
    ∷ is half_unit one_and_a_half 8 unit (pos 1)
    ∷ is half_unit two 8 unit (pos 2)
    ∷ is half_unit two_and_a_half 8 unit (pos 2)
    ∷ is half_unit three 8 unit (pos 2)
    ∷ is half_unit minus_half 8 unit (negsuc 0)
    ∷ is half_unit minus_one 8 unit (negsuc 1)
    ∷ is half_unit half_finest 8 finest (pos 0)
    ∷ is half_unit more_coarsest 8 coarsest (pos 1)
    ∷ gives half_unit two 2 unit (refused 8)
    -- "Subnormals and both zeros count by their value"
    ∷ is plain plus_zero 8 unit (pos 0)
    ∷ is plain minus_zero 8 unit (pos 0)
    ∷ is half_unit plus_zero 8 unit (pos 0)
    ∷ is half_unit minus_zero 8 unit (pos 0)
    ∷ is plain least_subnormal 8 finest (pos 0)
    ∷ is plain most_subnormal 8 finest (pos 0)
    ∷ is plain least_normal 8 finest (pos 0)
    ∷ is half_unit least_subnormal 8 finest (pos 0)
    ∷ is half_unit most_subnormal 8 finest (pos 0)
    ∷ is half_unit least_normal 8 finest (pos 0)
    ∷ is half_unit (minus_zero + least_subnormal) 8 finest (negsuc 0)
    -- "Refusals: 1, 2, then 15 for an infinity or a not-a-number, then 8"
    ∷ gives plain most_finite 63 coarsest (refused 8)
    ∷ gives half_unit most_finite 63 coarsest (refused 8)
    ∷ gives plain infinite 8 unit (refused 15)
    ∷ gives plain minus_infinite 8 unit (refused 15)
    ∷ gives round_bit quiet 8 unit (refused 15)
    ∷ gives half_unit signalling 8 unit (refused 15)
    ∷ gives plain quiet 8 (pos 128) (refused 2)
    ∷ gives half_unit quiet 64 (pos 128) (refused 1)
    ∷ gives plain infinite 1 unit (refused 1)
    ∷ []

all_right : all (length rows) (λ i. same (get_or rows i (is plain half 8 unit (pos 0)))) ≡ true
unfolding first_bad in_units nearest_whole floor_of nearest_half_odd whole_count half_odd_count import_check cleared lowest fits_width plain_fitted
    round_bit_fitted half_unit_fitted format_check of_bits of_fields odd count_trailing_zeros
all_right = refl

-- ---- both ends of every width: the last sample that is done, and the next, which is refused
-- the sample of 2^(n - 1)
abbrev whole : ℕ → ℕ
whole n = (1022 + n) * 2 ^ 52

-- 2^(n - 1) - 1/2 is a tie and goes up to 2^(n - 1); past width 53 no sample lies between the two
abbrev upper : ℕ → ℕ
upper n = whole n - cond (leb n 53) (2 ^ (53 - n)) 0

-- -2^(n - 1) - 1/2 is a tie and goes up to -2^(n - 1); past width 52 no sample lies between the two
abbrev lower : ℕ → ℕ
lower n = minus_zero + whole n + cond (leb n 52) (2 ^ (52 - n)) 0

-- the greatest number, and past width 53 the greatest that has 53 digits. At width 54 that is odd, and a tie of half-unit words
abbrev last : ℕ → ℕ
last n = 2 ^ (n - 1) - 2 ^ (n - 54)

abbrev last_half_odd : ℕ → ℕ
last_half_odd n = last n - cond (eqb n 54) 1 0

abbrev least : ℕ → ℤ
least n = neg_ℤ (pos (2 ^ (n - 1)))

abbrev whole_ends : Kind → ℕ → Bool
whole_ends k n =
    same (is k (upper n - 1) n unit (pos (last n)))
    && same (gives k (upper n) n unit (refused 8))
    && same (is k (lower n) n unit (least n))
    && same (gives k (lower n + 1) n unit (refused 8))

-- a half-unit word's number is refused from 2^(n - 1) on; -2^(n - 1) is a tie, and goes up
abbrev half_odd_ends : ℕ → Bool
half_odd_ends n =
    same (is half_unit (whole n - 1) n unit (pos (last_half_odd n)))
    && same (gives half_unit (whole n) n unit (refused 8))
    && same (is half_unit (minus_zero + whole n) n unit (least n))
    && same (gives half_unit (minus_zero + whole n + 1) n unit (refused 8))

abbrev ends : ℕ → Bool
ends n = whole_ends plain n && whole_ends round_bit n && half_odd_ends n

all_ends : all 62 (λ i. ends (2 + i)) ≡ true
unfolding first_bad in_units nearest_whole floor_of nearest_half_odd whole_count half_odd_count import_check cleared lowest fits_width plain_fitted
    round_bit_fitted half_unit_fitted format_check of_bits of_fields odd count_trailing_zeros
all_ends = refl
