-- What the code holds of a plan's entries.
use Rattle.std.specs.Prelude.{ℕ, ◌<◌, ◌≤◌, ◌+◌, IsTrue, Option, Some, None}
use Rattle.line_form.specs.Name.{is_name}
use Rattle.series_tables.specs.declared.entry.Entry.{Entry}
use Rattle.series_tables.specs.declared.entry.Entry.TheVariants.{Start, Reference, Item}
use Rattle.series_tables.specs.PlanLine.{PlanEntry, start_entry, reference_entry, item_entry}

-- what the code's entry says
abbrev pub entry_view : Entry → PlanEntry
entry_view (Start year) = start_entry year
entry_view (Reference year) = reference_entry year
entry_view (Item name parent) = item_entry name.now parent.now

-- a first year in range, or none
abbrev pub IsStartInRange : Option ℕ → Type 0
IsStartInRange None = Unit {0}
IsStartInRange (Some start) = (1900 ≤ start) × (start ≤ 2200)

-- a reference year is one of the 64 from the first year on; without a first year there is none
abbrev pub IsReferenceInRange : Option ℕ → Option ℕ → Type 0
IsReferenceInRange start None = Unit {0}
IsReferenceInRange None (Some year) = ⊥
IsReferenceInRange (Some start) (Some year) = (start ≤ year) × (year < start + 64)

-- an item's name is a name
abbrev pub IsNamed : PlanEntry → Type 0
IsNamed (start_entry year) = Unit {0}
IsNamed (reference_entry year) = Unit {0}
IsNamed (item_entry name parent) = IsTrue (is_name name)
