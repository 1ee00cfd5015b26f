-- What a printer leaves behind the bytes from before.
use Rattle.std.specs.Prelude.{◌≡◌, ℕ, List, ◌++◌, Result, Ok, Err}

-- bytes that are those from before, followed by a part of a text from its start on
pub record AppendsPart (old new text : List ℕ) : Type 0 where
  pub written : List ℕ
  pub rest : List ℕ
  pub behind : new ≡ old ++ written
  pub begins : text ≡ written ++ rest

-- a printer that is done appends exactly this text, and one that wants memory a part of it from its start on
abbrev pub Appends : {T E : Type 0} → Result T E → List ℕ → List ℕ → List ℕ → Type 0
Appends (Ok done) old new text = new ≡ old ++ text
Appends (Err error) old new text = AppendsPart old new text
