-- Digit texts that are written, those of document 01 that are read back, and texts whose fault has a place, computed from the definitions.
use mathlib.Core.Path.{◌≡◌, refl}
use mathlib.Core.List.{[], ◌∷◌}
use Prim.Native.Nat.{ℕ}
use lib.IntN.{ℤ, pos, negsuc}
use lib.ListN.{replicate}
use Rattle.integers.specs.Numbers.{floor_by, lowest, digit}
use Rattle.integers.specs.Lists.{first_bad}
use Rattle.words.specs.declared.Cause.{Cause}
use Rattle.words.specs.declared.Cause.TheVariants.{Width, Byte, DigitText}
use Rattle.words.specs.Refusals.{format_check}
use Rattle.words.specs.Formats.{format}
use Rattle.words.specs.RoundBit.{round_bit_word}
use Rattle.words.specs.Outcomes.{Done, Refused}
use Rattle.digit_text.specs.declared.ReadAnswer.{ReadAnswer}
use Rattle.digit_text.specs.Digits.{plus, none, minus, signed_digit, byte_of, byte_at, text, digit_of, text_value, sign_before}
use Rattle.digit_text.specs.Reading.{strange_at, repeats_at, strange_place, repeat_place, fault_check, read_check, place_of, read_round, read_word, read_of}

-- the three words of docs/DIGITS.md: P6, its sign change, and its cut by 2
drawn : (text (round_bit_word (negsuc 717) 0 (format 11 (pos 0))) ≡ minus ∷ plus ∷ minus ∷ none ∷ plus ∷ none ∷ minus ∷ none ∷ plus ∷ minus ∷ none ∷ [])
    × (text (round_bit_word (pos 717) 1 (format 11 (pos 0))) ≡ plus ∷ minus ∷ plus ∷ none ∷ minus ∷ none ∷ plus ∷ none ∷ minus ∷ plus ∷ none ∷ [])
    × (text (round_bit_word (negsuc 179) 1 (format 9 (pos 2))) ≡ minus ∷ plus ∷ minus ∷ none ∷ plus ∷ none ∷ minus ∷ none ∷ plus ∷ [])
unfolding floor_by lowest digit signed_digit byte_of byte_at text
drawn = (refl, refl, refl)

-- a word of width 2 and unit 0, and a refusal with its place
abbrev reads : ℤ → ℕ → ReadAnswer
reads a r = record { outcome = Done; word = round_bit_word a r (format 2 (pos 0)); place = 0 }

abbrev refuses : Cause → ℕ → ReadAnswer
refuses c k = record { outcome = Refused c; word = round_bit_word (pos 0) 0 (format 2 (pos 0)); place = k }

-- "Digit text `+0+` gives 9; `+-` with unit 0 reads as (1,0), width 2." "`0+` is (0,1)" "All zeros reads as (0,0)"
readings : (read_of (plus ∷ none ∷ plus ∷ []) (pos 0) ≡ refuses DigitText 2)
    × (read_of (plus ∷ minus ∷ []) (pos 0) ≡ reads (pos 1) 0)
    × (read_of (none ∷ plus ∷ []) (pos 0) ≡ reads (pos 0) 1)
    × (read_of (none ∷ none ∷ []) (pos 0) ≡ reads (pos 0) 0)
unfolding first_bad format_check digit_of text_value sign_before strange_at repeats_at strange_place repeat_place fault_check read_check place_of read_round
    read_word read_of
readings = (refl, refl, refl, refl)

-- a blank and a question mark
abbrev blank : ℕ
blank = 32

abbrev asked : ℕ
asked = 63

-- `+ +`, `++-`, `+0-0-+?`, which has both faults, and 64 bytes of `x`, which are too many
places : (read_of (plus ∷ blank ∷ plus ∷ []) (pos 0) ≡ refuses Byte 1)
    × (read_of (plus ∷ plus ∷ minus ∷ []) (pos 0) ≡ refuses DigitText 1)
    × (read_of (plus ∷ none ∷ minus ∷ none ∷ minus ∷ plus ∷ asked ∷ []) (pos 0) ≡ refuses Byte 6)
    × (read_of (replicate 64 120) (pos 0) ≡ refuses Width 0)
unfolding first_bad format_check digit_of text_value sign_before strange_at repeats_at strange_place repeat_place fault_check read_check place_of read_round
    read_word read_of
places = (refl, refl, refl, refl)
