use Prim.Native.Nat.{ℕ, zero, suc, ◌+◌, ◌-◌, ◌≤◌, ◌<◌}
use native.Mathlib.Nat.{not-suc-le-zero, le_of_suc-le-suc}
use native.Mathlib.Omega.{arith}
use mathlib.Core.Path.{◌≡◌, refl, sym, ap, ap₂, ◌∙◌, fun_ext}
use mathlib.Core.List.{List, [], ◌∷◌}
use lib.IntN.{ℤ, pos, ◌-ℤ◌}
use lib.ListN.{length, set, length-set}
use mir.Facts.{to_z-of_z}
use mir.Syntax.{w64}
use mir.Val.{SFits, to_z, of_z}
use Rattle.integers.specs.Numbers.{floor_by, digit}
use Rattle.integers.specs.Lists.{over}
use Rattle.integers.proofs.Floor.{floor_none, floor_floor}
use Rattle.integers.proofs.Digits.{digit_floor}
use Rattle.integers.proofs.Lists.{over_none}
use Rattle.words.specs.Kinds.{RoundBitWord}
use Rattle.words.proofs.Laws.{round_bit_right, machine}
use Rattle.digit_text.specs.Digits.{byte_of, byte_at}
use Rattle.digit_text.proofs.Laws.Picture.{top_row, top_less_bottom}
use borrow.Author.Rules.{rules}
use Rattle.digit_text.proofs.put_text.Invariants.{bytes}
use Rattle.digit_text.proofs.put_text.Goals as goal

-- ---- the bytes of the picture are the word's
picture : (w : RoundBitWord) (n : ℕ) → w.number.1 ≤ 1 → n ≡ w.format.width → bytes (top_row w.number) w.number.0 n ≡ byte_at w
unfolding byte_at
picture w n h e = rw e (fun_ext (λ k. ap byte_of (top_less_bottom w.number h (w.format.width - 1 - k))))

-- ---- before the first turn nothing is struck off
whole : (row : ℤ) (n : ℕ) → row ≡ floor_by row (n - n)
whole row n = let none : n - n ≡ 0 = omega arith in rw none (sym (floor_none row))

-- ---- a turn: where m columns are still to be written, the others are struck off a row
struck : (row x : ℤ) (n m : ℕ) → 0 < m → m ≤ n → x ≡ floor_by row (n - m) → floor_by x 1 ≡ floor_by row (n - (m - 1))
struck row x n m h k e = let more : n - m + 1 ≡ n - (m - 1) = omega arith in rw e (floor_floor row (n - m) 1 ∙ ap (floor_by row) more)

rightmost : (row x : ℤ) (n m : ℕ) → 0 < m → m ≤ n → x ≡ floor_by row (n - m) → digit x 0 ≡ digit row (n - 1 - (m - 1))
rightmost row x n m h k e = let there : n - m + 0 ≡ n - 1 - (m - 1) = omega arith in rw e (digit_floor row (n - m) 0 ∙ ap (digit row) there)

-- what is stored in the last place to be written over need not be written over again
over_last : (f : ℕ → ℕ) (l : List ℕ) (k v : ℕ) → k < length l → v ≡ f k → over k f (set l k v) ≡ over (suc k) f l
unfolding over
over_last f [] k v h e = absurd (not-suc-le-zero h)
over_last f (x ∷ l) zero v h e = ap (λ b. b ∷ l) e
over_last f (x ∷ l) (suc k) v h e = ap (λ t. f zero ∷ t) (over_last (λ j. f (suc j)) l k v (le_of_suc-le-suc h) e)

pub loop-k-init : goal.loop-k-init
loop-k-init c = (search rules, refl, whole _ _, whole _ _, refl)

-- the byte of the rightmost column of the two rows that are left
column : (top bottom x y : ℤ) (n m : ℕ) → 0 < m → m ≤ n → x ≡ floor_by top (n - m) → y ≡ floor_by bottom (n - m) →
    byte_of (pos (digit x 0) -ℤ pos (digit y 0)) ≡ bytes top bottom n (m - 1)
column top bottom x y n m h k e f =
    ap₂ (λ (a b : ℕ). byte_of (pos a -ℤ pos b)) (rightmost top x n m h k e) (rightmost bottom y n m h k f)

pub loop-k-preserved : goal.loop-k-preserved
loop-k-preserved c =
    let b = c.loop-k in
    let some = c.loop-k-test.true in
    let top : SFits w64 c.floor_by-top_row.result = search rules in
    let bottom : SFits w64 c.floor_by-bottom_row.result = search rules in
    let digit_fits : SFits w64 c.top_less_bottom.result = search rules in
    let byte = c.byte_of.ensures ∙ ap byte_of (to_z-of_z digit_fits ∙ c.top_less_bottom.ensures)
    ∙ column _ _ _ _ _ _ some b.invariant.0 b.invariant.2 b.invariant.3 in
    let one : suc (b.k - 1) ≡ b.k = omega (arith, some) in (
      search rules,
      simp length-set b.invariant.1,
      to_z-of_z top ∙ c.floor_by-top_row.ensures ∙ struck _ _ _ _ some b.invariant.0 b.invariant.2,
      to_z-of_z bottom ∙ c.floor_by-bottom_row.ensures ∙ struck _ _ _ _ some b.invariant.0 b.invariant.3,
      over_last _ b.text (b.k - 1) _ (omega (arith, some)) byte ∙ rw one b.invariant.4,
    )

pub returns : goal.returns
returns c =
    let w = c.args.w in
    let n = c.args.n in
    let right = round_bit_right w c.requires.0 in
    let fits : SFits w64 c.doubled-top_row.result = search rules in
    let top : to_z w64 (of_z w64 c.doubled-top_row.result) ≡ top_row w.number = to_z-of_z fits ∙ c.doubled-top_row.ensures in
    let none : c.loop-k.k ≡ 0 = omega arith in
    let all = rw (none, top, to_z-of_z (machine right)) at c.loop-k.invariant.4 in
    over_none _ _ ∙ all ∙ ap (λ (f : ℕ → ℕ). over n f c.args.text.now) (picture w n right.bit c.requires.1)
