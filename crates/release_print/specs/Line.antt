-- Printed lines: a word, fields behind commas, and a line feed.
use Rattle.std.specs.Prelude.{ℕ, List, [], ◌∷◌, ◌++◌, codes, decimal, slice_index_or}

-- what stands behind a line's word: its fields, each behind a comma, and a line feed
abbrev pub fields_text : List (List ℕ) → List ℕ
fields_text [] = codes "\n"
fields_text (field ∷ fields) = codes "," ++ (field ++ fields_text fields)

-- the text of a line of a word and its fields
abbrev pub line_text : List ℕ → List (List ℕ) → List ℕ
line_text word fields = word ++ fields_text fields

-- the name of the item of a number
abbrev pub name_of : List (List ℕ) → ℕ → List ℕ
name_of names item = slice_index_or names item []

-- a line of a word and a front
abbrev pub edge_line : List ℕ → ℕ → List ℕ
edge_line word front = line_text word (decimal front ∷ [])
