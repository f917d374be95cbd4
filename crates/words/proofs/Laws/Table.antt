-- The table of refusals, whose numbers may leave gaps: `number_of_cause`, `cause_of_number`, `cause_some`, `cause_small`,
-- `cause_one`. What a test says of every row holds of the row that is found, by one argument over the rows. Assumes nothing.
use Rattle.std.specs.Prelude.{Ok, Err}
use Prim.Native.Nat.{ℕ, ◌≤◌}
use mathlib.Core.Path.{◌≡◌, refl, sym, ap, ◌∙◌}
use mathlib.Core.Bool.{Bool, true, false, ◌&&◌}
use mathlib.Core.List.{List, [], ◌∷◌}
use lib.Dec.{eqb, leb}
use borrow.Author.Tests.{eqb-true, leb-true}
use Rattle.integers.proofs.Kit.{and_both}
use Rattle.words.specs.Refusals.{causes, cause_number, first_of, row_in, row}
use Rattle.words.specs.declared.Cause.{Cause}
use Rattle.words.specs.declared.Cause.TheVariants.{Width, Unit, Number, Mismatch}
use Rattle.words.specs.declared.Cause.TheVariants.{Depth, WidthPast, UnitPast, NumberPast}
use Rattle.words.specs.declared.Cause.TheVariants.{DigitText, Buffer, Mark, Form, Byte, Run, NotFinite, Channel}
use Rattle.words.specs.Outcomes.{Outcome}
use Rattle.words.specs.Outcomes.{Refused}
use Rattle.words.proofs.Laws.Outcomes.{refused_not_done}

-- the test holds of every row
abbrev every : (Cause → Bool) → List Cause → Bool
every test [] = true
every test (c ∷ more) = test c && every test more

-- the cause of a refusal, and some other of done
abbrev pub found : Cause → Outcome → Cause
found d (Ok _) = d
found d (Err c) = c

module _ (test : Cause → Bool) where
  row_has : (l : List Cause) (n : ℕ) (c : Cause) → every test l ≡ true → row_in l n ≡ Refused c → (cause_number c ≡ n) × (test c ≡ true)
  row_has [] n c a e = absurd (refused_not_done (sym e))
  row_has (d ∷ more) n c a e =
      let p = and_both (test d) (every test more) a in
      go (eqb (cause_number d) n) refl p.0 e (λ f. row_has more n c p.1 f)
    where
      go : (b : Bool) → eqb (cause_number d) n ≡ b → test d ≡ true → first_of b d (row_in more n) ≡ Refused c →
          (row_in more n ≡ Refused c → (cause_number c ≡ n) × (test c ≡ true)) → (cause_number c ≡ n) × (test c ≡ true)
      go true z t e r = let same : d ≡ c = ap (found d) e in (rw same at (eqb-true (cause_number d) n z), rw same at t)
      go false z t e r = r e

-- every cause stands in the table, beside its number
pub cause_of_number : (c : Cause) → row (cause_number c) ≡ Refused c
cause_of_number Width = refl
cause_of_number Unit = refl
cause_of_number Number = refl
cause_of_number Mismatch = refl
cause_of_number Depth = refl
cause_of_number WidthPast = refl
cause_of_number UnitPast = refl
cause_of_number NumberPast = refl
cause_of_number DigitText = refl
cause_of_number Buffer = refl
cause_of_number Mark = refl
cause_of_number Form = refl
cause_of_number Byte = refl
cause_of_number Run = refl
cause_of_number NotFinite = refl
cause_of_number Channel = refl

-- no number is 0, which is done, and none has over two digits
abbrev ranged : Cause → Bool
ranged c = leb 1 (cause_number c) && leb (cause_number c) 99

in_range : (n : ℕ) (c : Cause) → row n ≡ Refused c → (cause_number c ≡ n) × (ranged c ≡ true)
in_range n c e = row_has ranged causes n c refl e

-- the row that is found has the number that was looked for
pub number_of_cause : (n : ℕ) (c : Cause) → row n ≡ Refused c → cause_number c ≡ n
number_of_cause n c e = (in_range n c e).0

pub cause_some : (c : Cause) → 1 ≤ cause_number c
cause_some c = leb-true 1 (cause_number c) (and_both (leb 1 (cause_number c)) _ (in_range (cause_number c) c (cause_of_number c)).1).0

pub cause_small : (c : Cause) → cause_number c ≤ 99
cause_small c = leb-true (cause_number c) 99 (and_both (leb 1 (cause_number c)) _ (in_range (cause_number c) c (cause_of_number c)).1).1

-- no two causes share a number
pub cause_one : (c d : Cause) → cause_number c ≡ cause_number d → c ≡ d
cause_one c d e = ap (found c) (sym (cause_of_number c) ∙ ap row e ∙ cause_of_number d)
