-- What is held of the fields of a line.
use Rattle.std.specs.Prelude.{ℕ, List, length}
use Rattle.csv.specs.Records.{fields_of}
use Rattle.line_form.specs.Commas.{cut_at, Rising}
use Rattle.line_form.specs.declared.row.Held.{Held}
use Rattle.line_form.specs.declared.row.Held.TheVariants.{Cut, Read}

-- the fields: cut at the commas of the line, or of the record that was read
abbrev pub fields_in : Held → List (List ℕ)
fields_in (Cut text ends) = cut_at 0 ends.items text.now
fields_in (Read row) = fields_of row

-- the commas lie in the line, in their order
abbrev pub IsHeld : Held → Type 0
IsHeld (Cut text ends) = Rising 0 ends.items (length text.now)
IsHeld (Read row) = Unit {0}
