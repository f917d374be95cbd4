-- What it is that only one outcome meets a contract. A function's generated `Post` is its contract
-- as the source has it: of the arguments, the result and the parameters at exit. Each crate's
-- Unique.antt shows these of every public function.
use Rattle.std.specs.Prelude.{◌≡◌, List}

-- two results that a contract admits on the same arguments are one
abbrev pub OneResult : {A X E : Type 0} → (A → X → E → Type 0) → Type 0
OneResult {A} {X} {E} post = (a : A) (x y : X) (e f : E) → post a x e → post a y f → x ≡ y

-- and so are two contents that it admits of a lent buffer, which `at` reads off the parameters at
-- exit
abbrev pub OneBuffer : {A X E B : Type 0} → (E → List B) → (A → X → E → Type 0) → Type 0
OneBuffer {A} {X} {E} {B} at post =
    (a : A) (x y : X) (e f : E) → post a x e → post a y f → at e ≡ at f
