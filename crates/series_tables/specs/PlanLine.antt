-- What one line of a plan says.
use Rattle.std.specs.Prelude.{ℕ, ◌&&◌, List, [], ◌∷◌, codes, Option, Some, None, if◌then◌else◌}
use Rattle.std.specs.Option.{option_map, option_and_then}
use Rattle.std.specs.Str.{bytes_eq}
use Rattle.line_form.specs.Lines.{TextLine}
use Rattle.line_form.specs.Fields.{record_of}
use Rattle.line_form.specs.Name.{is_name}
use Rattle.period_keys.specs.Period.{year_of}

-- what a line of the three forms says: the first year, the reference year, or an item by its name and its parent's,
-- which is empty for a root
pub data PlanEntry : Type 0 where
  start_entry : (year : ℕ) → PlanEntry
  reference_entry : (year : ℕ) → PlanEntry
  item_entry : (name parent : List ℕ) → PlanEntry

-- a record of a word and a year
abbrev pub year_entry : List ℕ → List ℕ → Option PlanEntry
year_entry word year =
    if bytes_eq word (codes "start") then option_map start_entry (year_of year)
    else if bytes_eq word (codes "reference") then option_map reference_entry (year_of year)
    else None

-- a record of a word, a name and a parent
abbrev pub named_entry : List ℕ → List ℕ → List ℕ → Option PlanEntry
named_entry word name parent =
    if bytes_eq word (codes "item") && is_name name then Some (item_entry name parent) else None

-- what a record says, or none where it is of none of the three forms
unfoldable pub entry_of : List (List ℕ) → Option PlanEntry
entry_of (word ∷ year ∷ []) = year_entry word year
entry_of (word ∷ name ∷ parent ∷ []) = named_entry word name parent
entry_of _ = None

-- what a line says, or none where it is long, isn't a record, or is of none of the three forms
abbrev pub said : TextLine → Option PlanEntry
said line = if line.long then None else option_and_then entry_of (record_of line.text)
