-- Chains of calls: one link more, and a chain whose states and answers are seen otherwise. Assumes nothing.
-- Proved here: `chain_more`, `chain_map`.
use mathlib.Core.List.{List, [], ◌∷◌, ◌++◌, map}
use Rattle.integers.specs.Chains.{Chain, no_link, link}

-- one link more
pub chain_more : {S A : Type 0} {Link : S → A → S → Type 0} {s t u : S} {done : List A} (a : A) → Chain Link s done t → Link t a u →
    Chain Link s (done ++ a ∷ []) u
chain_more a no_link m = link m no_link
chain_more a (link n l) m = link n (chain_more a l m)

-- where each link is, seen otherwise, a link of another sort, the chain is one of that sort
pub chain_map : {S A R B : Type 0} {Link : S → A → S → Type 0} {Other : R → B → R → Type 0} {s u : S} {done : List A} (state : S → R) (answer : A → B) →
    ((s t : S) (a : A) → Link s a t → Other (state s) (answer a) (state t)) → Chain Link s done u → Chain Other (state s) (map answer done) (state u)
chain_map state answer each no_link = no_link
chain_map state answer each (link {s = s} {t = t} {a = a} m l) = link (each s t a m) (chain_map state answer each l)
