-- An answer laid flat, of whichever kind: the number of its outcome and every field of its word.
-- What a table of wrong answers compares, and what its rows are made of.
use Rattle.std.specs.Prelude.{ℕ, Bool, ◌&&◌, eqb, ℤ, pos}
use Rattle.integers.specs.Numbers.{eq_z}
use Rattle.words.specs.Refusals.{number_of}
use Rattle.words.specs.Formats.{format}
use Rattle.words.specs.Plain.{plain_word}
use Rattle.words.specs.RoundBit.{round_bit_word}
use Rattle.words.specs.HalfUnit.{half_unit_word}
use Rattle.words.specs.Outcomes.{Outcome}
use Rattle.words.specs.declared.Format.{Format}
use Rattle.words.specs.Kinds.{PlainWord}
use Rattle.words.specs.Kinds.{RoundBitWord}
use Rattle.words.specs.Kinds.{HalfUnitWord}
use Rattle.words.specs.Kinds.{PlainAnswer}
use Rattle.words.specs.Kinds.{RoundBitAnswer}
use Rattle.words.specs.Kinds.{HalfUnitAnswer}

pub record Flat : Type 0 where
  pub refusal : ℕ
  pub number : ℤ
  pub round : ℕ
  pub width : ℕ
  pub unit : ℤ

abbrev pub flat : ℕ → ℤ → ℕ → ℕ → ℤ → Flat
flat o x r n e = record { refusal = o; number = x; round = r; width = n; unit = e }

abbrev pub laid_flat : Outcome → ℤ → ℕ → Format → Flat
laid_flat o x r f = flat (number_of o) x r f.width f.unit

abbrev pub flat_plain : PlainAnswer → Flat
flat_plain a = laid_flat a.outcome a.word.number.0 0 a.word.format

abbrev pub flat_round_bit : RoundBitAnswer → Flat
flat_round_bit a = laid_flat a.outcome a.word.number.0 a.word.number.1 a.word.format

abbrev pub flat_half_unit : HalfUnitAnswer → Flat
flat_half_unit a = laid_flat a.outcome a.word.number.0 0 a.word.format

abbrev pub same_flat : Flat → Flat → Bool
same_flat a b =
    eqb a.refusal b.refusal && eq_z a.number b.number && eqb a.round b.round
    && eqb a.width b.width && eq_z a.unit b.unit

-- words of width n and unit 0; a done answer of unit 0; the blank answer of a refusal
abbrev pub plain_at : ℕ → ℤ → PlainWord
plain_at n x = plain_word x (format n (pos 0))

abbrev pub round_bit_at : ℕ → ℤ → ℕ → RoundBitWord
round_bit_at n a r = round_bit_word a r (format n (pos 0))

abbrev pub half_unit_at : ℕ → ℤ → HalfUnitWord
half_unit_at n w = half_unit_word w (format n (pos 0))

abbrev pub done : ℕ → ℤ → ℕ → Flat
done n x r = flat 0 x r n (pos 0)

abbrev pub refused : ℕ → Flat
refused o = flat o (pos 0) 0 2 (pos 0)
