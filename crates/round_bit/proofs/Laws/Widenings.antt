-- Widening on the right: it keeps the value, and a cut by the same depth takes it back. Assumes nothing.
-- Proved here: `widen_done`, `widen_tells`, `widen_closed`, `widen_value`, `widen_cut_word`, `widen_cut`.
use Prim.Native.Nat.{ℕ, zero, suc, ◌-◌, ◌*◌, ◌^◌, ◌≤◌}
use mathlib.Core.Path.{◌≡◌, sym, ap, ◌∙◌}
use lib.Pow.{suc_ones}
use lib.IntN.{pos, ◌+ℤ◌, ◌*ℤ◌}
use Rattle.integers.proofs.Kit.{ints, plus_law, times_law}
use Rattle.integers.proofs.Floor.{floor_none, floor_widened}
use Rattle.integers.proofs.Digits.{digit_widened}
use Rattle.words.specs.Formats.{wider}
use Rattle.words.specs.RoundBit.{round_bit_value, round_bit_check, round_bit_done}
use Rattle.words.specs.Outcomes.{Done}
use Rattle.words.specs.Kinds.{RoundBitWord}
use Rattle.words.proofs.Laws.{RightFormat, RightRoundBit, round_bit_passes, round_bit_law}
use Rattle.words.proofs.Formats.{narrower_none, narrower_passes, narrower_wider}
use Rattle.words.proofs.Rights.{widened_right}
use Rattle.words.proofs.Operands.{wider_right}
use Rattle.words.specs.Answers.{cut_answer}
use Rattle.round_bit.specs.Cuts.{cut_by, cut_word, cut_of, widen_word, widen_check, widen_of}
use Rattle.round_bit.proofs.Checks.{word_done}
use Rattle.round_bit.proofs.Laws.Cuts.{cut_passes}

-- ---- what a done answer and its check tell
pub widen_done : (w : RoundBitWord) (d : ℕ) → (widen_of w d).outcome ≡ Done → (widen_check w d ≡ Done) × ((widen_of w d).word ≡ widen_word w d)
widen_done w d e = word_done (widen_check w d) (widen_word w d) e

pub widen_tells : (w : RoundBitWord) (d : ℕ) → widen_check w d ≡ Done → RightRoundBit w × RightFormat (wider w.format d)
widen_tells w d c = wider_right w.format w.number.0 w.number.1 d c

-- ---- closed: the word of a done answer passes its own check
widen_right : (w : RoundBitWord) (d : ℕ) → widen_check w d ≡ Done → RightRoundBit (widen_word w d)
unfolding widen_word
widen_right w d c = let t = widen_tells w d c in widened_right d t.0 t.1

pub widen_closed : (w : RoundBitWord) (d : ℕ) → (widen_of w d).outcome ≡ Done → round_bit_check (widen_of w d).word ≡ Done
widen_closed w d e = let c = widen_done w d e in rw c.1 (round_bit_passes _ (widen_right w d c.0))

-- ---- widening keeps the value; a cut by the same depth gives the first word back, round bit and all
pub widen_value : (w : RoundBitWord) (d : ℕ) → round_bit_value (widen_word w d) ≡ round_bit_value w *ℤ pos (2 ^ d)
unfolding widen_word
widen_value w d =
    let record { 0 = a; 1 = r } = w.number in
    let x = a *ℤ pos (2 ^ d) in
    let p = pos (r * (2 ^ d - 1)) in
    let whole = ap (λ (i : ℕ). i * 2 ^ d) (round_bit_law a r) in
    let ones = ap (λ (i : ℕ). r * i) (suc_ones d) in
    omega (ints, round_bit_law (x +ℤ p) r, plus_law x p, times_law a (pos (2 ^ d)), times_law (round_bit_value w) (pos (2 ^ d)))

pub widen_cut_word : (w : RoundBitWord) (d : ℕ) → w.number.1 ≤ 1 → cut_word (widen_word w d) d ≡ w
unfolding cut_by widen_word
widen_cut_word w zero h =
    let same : wider w.format 0 ≡ w.format = sym (narrower_none (wider w.format 0)) ∙ narrower_wider w.format 0 in
    rw (sym (floor_none _) ∙ floor_widened w.number.0 w.number.1 0 h, same)
widen_cut_word w (suc k) h =
    let record { 0 = a; 1 = r } = w.number in
    rw (floor_widened a r (suc k) h, digit_widened a r k h, narrower_wider w.format (suc k))

pub widen_cut : (w : RoundBitWord) (d : ℕ) → (widen_of w d).outcome ≡ Done → cut_of (widen_of w d).word d ≡ cut_answer (round_bit_done w)
unfolding widen_word
widen_cut w d e =
    let c = widen_done w d e in
    let g = widen_tells w d c.0 in
    let narrows = narrower_passes (wider w.format d) d g.1 (rw (narrower_wider w.format d) g.0.format) in
    let passes = cut_passes (widen_word w d) d (widen_right w d c.0) narrows in
    rw (c.1, passes, widen_cut_word w d g.0.bit)
