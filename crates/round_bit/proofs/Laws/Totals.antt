-- What is gathered over the words of a list: of two lists one behind the other, and of a list in another order. Assumes nothing.
-- Proved here: `total_append`, `round_bits_append`, `total_permuted`, `round_bits_permuted`, `some_bits`.
use Prim.Native.Nat.{ℕ, zero, suc, ◌+◌, ◌≤◌, min}
use native.Mathlib.Nat.{zero-add, add_assoc, ℕ_set}
use native.Mathlib.Omega.{arith}
use mathlib.Core.Bool.{◌||◌}
use mathlib.Core.List.Perm
use mathlib.Core.List.Permᴰ
use mathlib.Core.List.{List, [], ◌∷◌, ◌++◌, Permᴰ as Permuted, map, map-append, sum, sum-append}
use mathlib.Core.Path.{◌≡◌, refl, ap, ◌∙◌}
use lib.Dec.{eqb}
use lib.IntN.{ℤ, ℤ_set, pos, ◌+ℤ◌, +ℤ_assoc, +ℤ_idl}
use Rattle.integers.specs.Lists.Each.{next}
use Rattle.integers.proofs.Kit.{ints, plus_law}
use Rattle.words.specs.declared.Format.{Format}
use Rattle.words.specs.Kinds.{RoundBitWord}
use Rattle.words.proofs.Laws.{round_bit_right}
use Rattle.round_bit.specs.Groupings.{total_of, round_bits, some_round_bit, EachRight}

-- ---- a sum over the words
module _ (f : RoundBitWord → ℤ) where
  pub total_append : (ws us : List RoundBitWord) → total_of f (ws ++ us) ≡ total_of f ws +ℤ total_of f us
  total_append ws us = ap (sum ◌+ℤ◌ (pos 0)) (map-append f ws us) ∙ sum-append ◌+ℤ◌ (pos 0) +ℤ_idl +ℤ_assoc (map f ws) (map f us)

  pub total_permuted : {ws us : List RoundBitWord} → Permuted ws us → total_of f ws ≡ total_of f us
  unfolding sum
  total_permuted d =
      Perm.foldr-eq ℤ_set ◌+ℤ◌ (λ x y z. omega (ints, plus_law x (y +ℤ z), plus_law y z, plus_law y (x +ℤ z), plus_law x z)) ∣ Permᴰ.map f d ∣₁ (pos 0)

-- ---- and of the round bits
abbrev bit_of : RoundBitWord → ℕ
bit_of w = w.number.1

pub round_bits_append : (ws us : List RoundBitWord) → round_bits (ws ++ us) ≡ round_bits ws + round_bits us
round_bits_append ws us = ap (sum ◌+◌ 0) (map-append bit_of ws us) ∙ sum-append ◌+◌ 0 zero-add add_assoc (map bit_of ws) (map bit_of us)

pub round_bits_permuted : {ws us : List RoundBitWord} → Permuted ws us → round_bits ws ≡ round_bits us
unfolding sum
round_bits_permuted d = Perm.foldr-eq ℕ_set ◌+◌ (λ x y z. omega arith) ∣ Permᴰ.map bit_of d ∣₁ 0

-- ---- some round bit is 1 exactly if there are any
bit_more : (r c : ℕ) → r ≤ 1 → eqb (min (r + c) 1) 1 ≡ (eqb r 1 || eqb (min c 1) 1)
bit_more zero c h = rw (zero-add c)
bit_more (suc zero) c h = let one : min (1 + c) 1 ≡ 1 = omega arith in rw one
bit_more (suc (suc r)) c h = absurd (omega arith)

pub some_bits : (f : Format) (ws : List RoundBitWord) → EachRight f ws → eqb (min (round_bits ws) 1) 1 ≡ some_round_bit ws
unfolding sum some_round_bit
some_bits f [] h = refl
some_bits f (w ∷ ws) (next p h) = bit_more w.number.1 (round_bits ws) (round_bit_right w p.right).bit ∙ rw (some_bits f ws h)
