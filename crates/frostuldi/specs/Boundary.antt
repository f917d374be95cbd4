-- The C boundary: how a flat word is read, and how an answer is laid flat. An outcome is its number
-- in the table of refusals, 0 for done.
use Rattle.std.specs.Prelude.{map}
use Rattle.std.specs.Prelude.{ℕ, List}
use Rattle.words.specs.Outcomes.{Outcome}
use Rattle.words.specs.Kinds.{PlainWord}
use Rattle.words.specs.Kinds.{RoundBitWord}
use Rattle.words.specs.Kinds.{HalfUnitWord}
use Rattle.words.specs.declared.WriteAnswer.{WriteAnswer}
use Rattle.words.specs.Refusals.{number_of}
use Rattle.words.specs.Formats.{format}
use Rattle.words.specs.Plain.{plain_word}
use Rattle.words.specs.RoundBit.{round_bit_word}
use Rattle.words.specs.HalfUnit.{half_unit_word}
use Rattle.running_sum.specs.declared.RunningSum.{RunningSum}
use Rattle.digit_text.specs.declared.ReadAnswer.{ReadAnswer as TextAnswer}
use Rattle.block_file.specs.declared.ReadAnswer.{ReadAnswer}
use Rattle.reading.specs.declared.Reading.{Reading}
use Rattle.reading.specs.declared.ReadingAnswer.{ReadingAnswer}
use Rattle.block_sum.specs.declared.BlockSumAnswer.{BlockSumAnswer}
use Rattle.frostuldi.specs.declared.FrostPlain.{FrostPlain}
use Rattle.frostuldi.specs.declared.FrostHalfUnit.{FrostHalfUnit}
use Rattle.frostuldi.specs.declared.FrostRoundBit.{FrostRoundBit}
use Rattle.frostuldi.specs.declared.FrostPlainAnswer.{FrostPlainAnswer}
use Rattle.frostuldi.specs.declared.FrostHalfUnitAnswer.{FrostHalfUnitAnswer}
use Rattle.frostuldi.specs.declared.FrostRoundBitAnswer.{FrostRoundBitAnswer}
use Rattle.frostuldi.specs.declared.FrostRunningSum.{FrostRunningSum}
use Rattle.frostuldi.specs.declared.FrostSumAnswer.{FrostSumAnswer}
use Rattle.frostuldi.specs.declared.FrostTaps.{FrostTaps}
use Rattle.frostuldi.specs.declared.FrostBank.{FrostBank}
use Rattle.frostuldi.specs.declared.FrostWindow.{FrostWindow}
use Rattle.frostuldi.specs.declared.FrostTextAnswer.{FrostTextAnswer}
use Rattle.frostuldi.specs.declared.FrostFileHead.{FrostFileHead}
use Rattle.frostuldi.specs.declared.FrostWritten.{FrostWritten}
use Rattle.frostuldi.specs.declared.FrostReading.{FrostReading}
use Rattle.frostuldi.specs.declared.FrostReadingAnswer.{FrostReadingAnswer}
use Rattle.frostuldi.specs.declared.FrostBlockSumAnswer.{FrostBlockSumAnswer}

-- which library this is: 10000 * major + 100 * minor + patch
abbrev pub version : ℕ
version = 30100

-- what comes in
abbrev pub plain_in : FrostPlain → PlainWord
plain_in w = plain_word w.number (format w.width w.unit)

abbrev pub half_unit_in : FrostHalfUnit → HalfUnitWord
half_unit_in w = half_unit_word w.number (format w.width w.unit)

abbrev pub round_bit_in : FrostRoundBit → RoundBitWord
round_bit_in w = round_bit_word w.number w.round (format w.width w.unit)

abbrev pub sum_in : FrostRunningSum → RunningSum
sum_in s = record { kept = round_bit_in s.kept; depth = s.depth }

-- a row and a window are lists of their words, a bank is the list of its rows
abbrev pub taps_in : FrostTaps → List RoundBitWord
taps_in t = map round_bit_in t.taps

abbrev pub bank_in : FrostBank → List (List RoundBitWord)
bank_in b = map taps_in b.channels

abbrev pub window_in : FrostWindow → List RoundBitWord
window_in w = map round_bit_in w.samples

-- what goes out
abbrev pub flat_plain : PlainWord → FrostPlain
flat_plain w = record { number = w.number.0; width = w.format.width; unit = w.format.unit }

abbrev pub flat_half_unit : HalfUnitWord → FrostHalfUnit
flat_half_unit w = record { number = w.number.0; width = w.format.width; unit = w.format.unit }

abbrev pub flat_round_bit : RoundBitWord → FrostRoundBit
flat_round_bit w = record {
  number = w.number.0;
  width = w.format.width;
  unit = w.format.unit;
  round = w.number.1;
}

abbrev pub flat_sum : RunningSum → FrostRunningSum
flat_sum s = record { kept = flat_round_bit s.kept; depth = s.depth }

abbrev pub plain_out : Outcome → PlainWord → FrostPlainAnswer
plain_out o w = record { word = flat_plain w; refusal = number_of o }

abbrev pub half_unit_out : Outcome → HalfUnitWord → FrostHalfUnitAnswer
half_unit_out o w = record { word = flat_half_unit w; refusal = number_of o }

abbrev pub round_bit_out : Outcome → RoundBitWord → FrostRoundBitAnswer
round_bit_out o w = record { word = flat_round_bit w; refusal = number_of o }

abbrev pub sum_out : Outcome → RoundBitWord → RunningSum → FrostSumAnswer
sum_out o w s = record {
  sum = flat_sum s;
  word = flat_round_bit w;
  refusal = number_of o;
}

abbrev pub text_out : TextAnswer → FrostTextAnswer
text_out a = record {
  word = flat_round_bit a.word;
  refusal = number_of a.outcome;
  place = a.place;
}

abbrev pub head_out : ReadAnswer → FrostFileHead
head_out a = record {
  refusal = number_of a.outcome;
  kind = a.head.kind;
  width = a.head.format.width;
  unit = a.head.format.unit;
  count = a.head.count;
}

abbrev pub written_out : WriteAnswer → FrostWritten
written_out a = record { bytes = a.count; refusal = number_of a.outcome }

abbrev pub flat_reading : Reading → FrostReading
flat_reading n = record { lowest = n.lowest; highest = n.highest; first = n.first }

abbrev pub reading_out : ReadingAnswer → FrostReadingAnswer
reading_out a = record { reading = flat_reading a.reading; refusal = number_of a.outcome }

abbrev pub block_sum_out : BlockSumAnswer → FrostBlockSumAnswer
block_sum_out a = record {
  word = flat_round_bit a.word;
  index = a.index;
  refusal = number_of a.outcome;
}
