use mathlib.Core.List.{List, [], ◌∷◌}
use mathlib.Core.Path.{◌≡◌, refl, ap, ◌∙◌}
use mathlib.Core.Bool.{◌||◌}
use Rattle.std.proofs.Common.{rules, tests}
use Rattle.std.proofs.lemmas.Iterator.{YieldsList-from_slice}
use Rattle.std.proofs.lemmas.Iterator.Search.{any_from_yields_List}
use Rattle.std.specs.List.{list_any}
use Rattle.words.specs.Refusals.{differ}
use Rattle.words.specs.declared.Format.{Format}
use Rattle.words.specs.Kinds.{RoundBitWord}
use Rattle.filter_bank.specs.Bank.{any_differ}
use Rattle.filter_bank.proofs.any_differ.Goals as goal

any_is : (f : Format) (ws : List RoundBitWord) → list_any (λ w. differ w.format f) ws ≡ any_differ f ws
unfolding any_differ
any_is f [] = refl
any_is f (w ∷ more) = ap (λ b. differ w.format f || b) (any_is f more)

pub returns : goal.returns
returns c =
    let ws = c.args.w.now in
    let f = c.args.f in
    any_from_yields_List (λ (w : RoundBitWord). differ w.format f) _ _ c.any.result c.any.ensures.ran (YieldsList-from_slice ws (cc))
    (λ x b q k. search (rules, tests))
    ∙ any_is f ws
