-- What a cabinet has for each name: how a call leaves it.
use Rattle.std.specs.Prelude.{◌≡◌, ◌≢◌, ℕ, List}

-- the same for every name
abbrev pub SameAtAll : {X : Type 0} → (List ℕ → X) → (List ℕ → X) → Type 0
SameAtAll old new = (n : List ℕ) → new n ≡ old n

-- the same for every name but this one
abbrev pub SameAtOthers : {X : Type 0} → (List ℕ → X) → (List ℕ → X) → List ℕ → Type 0
SameAtOthers old new name = (n : List ℕ) → n ≢ name → new n ≡ old n

-- no name is forgotten
abbrev pub StaysKnown : (List ℕ → Type 0) → (List ℕ → Type 0) → Type 0
StaysKnown old new = (n : List ℕ) → old n → new n
