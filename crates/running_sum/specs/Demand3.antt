-- Demand 3 of the README, of the sum that an opening gave, done or refused, and of any calls on it.
-- In half units of the sum, half a coarse unit is 2 ^ depth.
use Rattle.std.specs.Prelude.{ℕ, ◌^◌, ◌≤◌, ◌≡◌, List, [], ◌∷◌, ◌++◌, ℤ, nat_abs, ◌+ℤ◌, ◌-ℤ◌}
use Rattle.words.specs.Outcomes.{Done}
use Rattle.words.specs.RoundBit.{round_bit_value}
use Rattle.running_sum.specs.declared.RunningSum.{RunningSum}
use Rattle.running_sum.specs.Steps.{open_of, Call, hand_out, empty, step_of}
use Rattle.running_sum.specs.Totals.{answered, left, accepted, handed_out}

module _ (n : ℕ) (e : ℤ) (d : ℕ) where
  abbrev pub opened : RunningSum
  opened = (open_of n e d).sum

  abbrev pub total_in : List Call → ℤ
  total_in cs = accepted opened.kept.format.unit (answered opened cs)

  abbrev pub total_out : List Call → ℤ
  total_out cs = handed_out opened.kept.format.unit (answered opened cs)

  abbrev pub kept_after : List Call → ℤ
  kept_after cs = round_bit_value (left opened cs).kept

  pub record Demand3 (cs : List Call) : Type 0 where
    -- "words accepted = words handed out, each in its own unit, plus what is kept."
    pub nothing_lost : total_in cs ≡ total_out cs +ℤ kept_after cs
    -- "Right after a hand-out the kept value is at most half a coarse unit."
    pub small : (step_of (left opened cs) hand_out).outcome ≡ Done →
        nat_abs (kept_after (cs ++ hand_out ∷ [])) ≤ 2 ^ opened.depth
    -- and so is the difference of the totals
    pub near : (step_of (left opened cs) hand_out).outcome ≡ Done →
        nat_abs (total_in (cs ++ hand_out ∷ []) -ℤ total_out (cs ++ hand_out ∷ [])) ≤ 2 ^
        opened.depth
    -- "Right after emptying the two totals are equal."
    pub equal : (step_of (left opened cs) empty).outcome ≡ Done →
        total_in (cs ++ empty ∷ []) ≡ total_out (cs ++ empty ∷ [])
