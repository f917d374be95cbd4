-- Document 01, "Digit text": the digits, their bytes, writing a word as text, and what a text is
-- worth.
use Rattle.std.specs.Prelude.{ℕ, zero, suc, ◌-◌, ◌^◌, cond, List, [], ◌∷◌, eqb, ltb, ℤ, pos}
use Rattle.std.specs.Prelude.{negsuc, ◌+ℤ◌, ◌-ℤ◌, ◌*ℤ◌, length, get_or}
use Rattle.integers.specs.Names.{digit, tab}
use Rattle.words.specs.Outcomes.{Outcome}
use Rattle.words.specs.declared.RoundBit.{RoundBit}
use Rattle.words.specs.Kinds.{RoundBitWord}
use Rattle.words.specs.declared.WriteAnswer.{WriteAnswer}
use Rattle.words.specs.Refusals.{refuse, ◌or_else◌, lent_after, write_answer}
use Rattle.words.specs.RoundBit.{round_bit_check}

-- "Digit i is (digit i-1 of a) minus (digit i of a), with r below the lowest"
unfoldable pub signed_digit : RoundBit → ℕ → ℤ
signed_digit n zero = pos n.1 -ℤ pos (digit n.0 0)
signed_digit n (suc i) = pos (digit n.0 i) -ℤ pos (digit n.0 (suc i))

-- the three bytes: "`+` is 1, `-` is -1", `0` is 0
abbrev pub plus : ℕ
plus = 43

abbrev pub none : ℕ
none = 48

abbrev pub minus : ℕ
minus = 45

unfoldable pub byte_of : ℤ → ℕ
byte_of (pos zero) = none
byte_of (pos (suc d)) = plus
byte_of (negsuc d) = minus

unfoldable pub digit_of : ℕ → ℤ
digit_of b = cond (eqb b plus) (pos 1) (cond (eqb b minus) (negsuc 0) (pos 0))

-- "n bytes, most significant first"
unfoldable pub byte_at : RoundBitWord → ℕ → ℕ
byte_at w k = byte_of (signed_digit w.number (w.format.width - 1 - k))

unfoldable pub text : RoundBitWord → List ℕ
text w = tab w.format.width (byte_at w)

-- 1, 2, 3, then 10: "a lent buffer is too short for what would be written"
unfoldable pub write_check : RoundBitWord → ℕ → Outcome
write_check w room = round_bit_check w or_else refuse 10 (ltb room w.format.width)

unfoldable pub write_of : RoundBitWord → ℕ → WriteAnswer
write_of w room = write_answer (write_check w room) w.format.width

-- "Only n bytes of the buffer are written"; none where it refuses
unfoldable pub buffer_of : RoundBitWord → List ℕ → List ℕ
buffer_of w buffer = lent_after (write_check w (length buffer)) (text w) buffer

-- what a text is worth: the sum of digit_i * 2^i
unfoldable pub text_value : List ℕ → ℤ
text_value [] = pos 0
text_value (b ∷ t) = (digit_of b *ℤ pos (2 ^ length t)) +ℤ text_value t

-- the sign nearest before index k, or `0` where there is none
unfoldable pub sign_before : List ℕ → ℕ → ℕ
sign_before t zero = none
sign_before t (suc k) = cond (eqb (get_or t k none) none) (sign_before t k) (get_or t k none)
