-- What a chain of calls is, whatever is called. A link is a state, a call with its answer, and the
-- state that came back; of the code it is one where the answer meets the function's contract, its
-- generated `Post`.
use Rattle.std.specs.Prelude.{List, [], ◌∷◌}

-- from the first state, by these calls and answers, to the last: each link begins where the one
-- before ended
pub data Chain {S A : Type 0} (Link : S → A → S → Type 0) : S → List A → S → Type 0 where
  no_link : {s : S} → Chain Link s [] s
  link : {s t u : S} {a : A} {more : List A} → Link s a t → Chain Link t more u →
      Chain Link s (a ∷ more) u
