-- The types of the three kinds of word, and of the answers that have one.
use Rattle.words.specs.declared.Plain.{Plain}
use Rattle.words.specs.declared.RoundBit.{RoundBit}
use Rattle.words.specs.declared.HalfUnit.{HalfUnit}
use Rattle.words.specs.declared.Word.{Word}
use Rattle.words.specs.declared.Answer.{Answer}
use Rattle.words.specs.declared.CutAnswer.{CutAnswer}

abbrev pub PlainWord : Type 0
PlainWord = Word Plain

abbrev pub RoundBitWord : Type 0
RoundBitWord = Word RoundBit

abbrev pub HalfUnitWord : Type 0
HalfUnitWord = Word HalfUnit

abbrev pub PlainAnswer : Type 0
PlainAnswer = Answer Plain

abbrev pub RoundBitAnswer : Type 0
RoundBitAnswer = Answer RoundBit

abbrev pub HalfUnitAnswer : Type 0
HalfUnitAnswer = Answer HalfUnit

abbrev pub RoundBitCutAnswer : Type 0
RoundBitCutAnswer = CutAnswer RoundBit

abbrev pub HalfUnitCutAnswer : Type 0
HalfUnitCutAnswer = CutAnswer HalfUnit
