use Prim.Native.Nat.{ℕ, ◌≤◌}
use mathlib.Core.List.{List}
use mathlib.Core.Path.{◌≡◌, ◌∙◌}
use lib.IntN.{ℤ, pos, ◌-ℤ◌}
use lib.ListN.{length}
use mir.Facts.{to_z-of_z}
use mir.Syntax.{w64}
use mir.Val.{SFits}
use Rattle.std.specs.Prelude.{Ok, Err}
use Rattle.integers.proofs.Kit.{ints, abs_law, minus_law}
use Rattle.words.specs.Refusals.{format_check}
use Rattle.words.specs.Formats.{format}
use Rattle.words.specs.Outcomes.{Done}
use Rattle.words.specs.declared.Format.{Format}
use Rattle.words.proofs.Laws.{right_format}
use Rattle.digit_text.specs.Digits.{text_value}
use Rattle.digit_text.specs.Reading.{telling, fault_check, read_round, read_check, read_word}
use Rattle.digit_text.proofs.Scan.{value_small, round_le}
use Rattle.digit_text.proofs.Places.{ok_told, err_told, err_first}
use borrow.Author.Rules.{rules}
use Rattle.digit_text.proofs.read_word.Goals as goal

-- the format that was given behind 1 and 2, and how long the text is then
module _ (t : List ℕ) (e : ℤ) (f : Format) (given : Ok f ≡ telling t (format_check (format (length t) e)) (format (length t) e)) where
  formed : (format_check (format (length t) e) ≡ Done) × (f ≡ format (length t) e)
  formed = ok_told t _ _ _ given

  short : length t ≤ 63
  short = (right_format _ formed.0).wide

-- the value less the round bit
less : (t : List ℕ) → length t ≤ 63 → SFits w64 (text_value t -ℤ pos (read_round t))
less t h =
    let v = text_value t in
    let r = read_round t in
    omega (ints, value_small t 63 h, round_le t, abs_law v, minus_law v (pos r))

pub returns-in_err-format : goal.returns-in_err-format
unfolding read_check
returns-in_err-format c =
    let t = c.args.text.now in
    let e : c.from_residual.result ≡ Err c.in_err-format.field-0.0 = search rules in
    e ∙ err_first t _ (fault_check t) _ _ _ (rw (to_z-of_z c.ranges.unit) at c.in_err-format.ensures)

pub fault_check-requires : goal.fault_check-requires
fault_check-requires c = short _ _ _ c.in_ok-format.ensures

pub returns-in_err-fault_check : goal.returns-in_err-fault_check
unfolding read_check
returns-in_err-fault_check c =
    let t = c.args.text.now in
    let g = rw (to_z-of_z c.ranges.unit) at c.in_ok-format.ensures in
    let e : c.from_residual-in_err-fault_check.result ≡ Err c.in_err-fault_check.field-0.0 = search rules in
    e ∙ rw (formed t _ _ g).0 (err_told t (fault_check t) _ _ _ c.in_err-fault_check.ensures)

pub text_value-requires : goal.text_value-requires
text_value-requires c = short _ _ _ c.in_ok-format.ensures

pub overflow_sub-number : goal.overflow_sub-number
overflow_sub-number c =
    let t = c.args.text.now in
    let f : SFits w64 c.text_value.result = search rules in
    let g : SFits w64 c.from.result = search rules in
    rw (to_z-of_z f, to_z-of_z g, c.text_value.ensures, c.from.ensures, c.read_round-round.ensures) (less t (short t _ _ c.in_ok-format.ensures))

pub returns : goal.returns
unfolding read_check read_word
returns c =
    let t = c.args.text.now in
    let f : SFits w64 c.text_value.result = search rules in
    let g : SFits w64 c.from.result = search rules in
    let p = formed t _ _ (rw (to_z-of_z c.ranges.unit) at c.in_ok-format.ensures) in
    rw (
      to_z-of_z (overflow_sub-number c),
      to_z-of_z f,
      to_z-of_z g,
      c.text_value.ensures,
      c.from.ensures,
      c.read_round-round.ensures,
      p.0,
      p.1,
      (ok_told t _ _ _ c.in_ok-fault_check.ensures).0,
    )
