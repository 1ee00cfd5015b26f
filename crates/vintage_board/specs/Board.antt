-- A board of tables: those that are shown, and those that are staged to be shown next. It is this product's own.
use Rattle.std.specs.Prelude.{ℕ, List, [], ◌∷◌, length, replicate, slice_set, Option, Some, None}

-- the front of what is shown, the shown table of each item, and for each item the table that is staged, or none
pub record BoardOf (Table : Type 0) : Type 0 where
  pub front : ℕ
  pub shown : List Table
  pub staged : List (Option Table)

-- the board that begins with these tables: at the front 0, with nothing staged
abbrev pub first_board : {Table : Type 0} → List Table → BoardOf Table
first_board tables = record { front = 0; shown = tables; staged = replicate (length tables) None }

-- the board with a table staged for an item
abbrev pub with_staged : {Table : Type 0} → BoardOf Table → ℕ → Table → BoardOf Table
with_staged board item table = record {
  front = board.front;
  shown = board.shown;
  staged = slice_set board.staged item (Some table);
}

-- the staged one of two tables, where there is one
abbrev pub staged_or : {Table : Type 0} → Option Table → Table → Table
staged_or None shown = shown
staged_or (Some staged) shown = staged

-- the same item by item
abbrev pub put_over : {Table : Type 0} → List (Option Table) → List Table → List Table
put_over [] tables = tables
put_over (staged ∷ rest) [] = []
put_over (staged ∷ rest) (shown ∷ tables) = staged_or staged shown ∷ put_over rest tables

-- the board once all that is staged is shown at a front
abbrev pub with_shown : {Table : Type 0} → BoardOf Table → ℕ → BoardOf Table
with_shown board front = record {
  front = front;
  shown = put_over board.staged board.shown;
  staged = replicate (length board.shown) None;
}
