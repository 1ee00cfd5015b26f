-- Plans: the first year, the reference year and the items, and the text that spells them or the first line of it that
-- is refused.
use Rattle.std.specs.Prelude.{ℕ, ◌-◌, Bool, false, not, ◌&&◌, ◌==◌, nat_le, List, [], ◌∷◌, ◌++◌, length, position}
use Rattle.std.specs.Prelude.{Option, Some, None, is_some, unwrap_or, Result, Ok, Err, if◌then◌else◌}
use Rattle.std.specs.Option.{option_map, option_or}
use Rattle.std.specs.List.{list_any, filter_map}
use Rattle.std.specs.Str.{bytes_eq}
use Rattle.line_form.specs.Lines.{TextLine, lines_of, next_number, is_passed_over}
use Rattle.period_keys.specs.Period.{is_within}
use Rattle.series_tables.specs.declared.cause.PlanCause.{PlanCause}
use Rattle.series_tables.specs.declared.cause.PlanCause.TheVariants.{Form, NoStart, Twice, Year, NoParent, TooMany}
use Rattle.series_tables.specs.PlanLine.{PlanEntry, start_entry, reference_entry, item_entry, said}

-- what a plan holds: its first year, the reference year counted from it, and the items' names and parents in the order
-- of their numbers
pub record PlanShape : Type 0 where
  pub start : ℕ
  pub reference : ℕ
  pub names : List (List ℕ)
  pub parents : List (Option ℕ)

-- the number of the item that has a name
abbrev pub item_with_name : PlanShape → List ℕ → Option ℕ
item_with_name plan name = position (bytes_eq name) plan.names

-- whether an item is the parent of another
abbrev pub is_parent : ℕ → Option ℕ → Bool
is_parent node None = false
is_parent node (Some parent) = parent == node

-- whether an item is a leaf: no item of the whole plan names it as its parent
abbrev pub is_leaf : PlanShape → ℕ → Bool
is_leaf plan node = not (list_any (is_parent node) plan.parents)

-- the first year that an entry gives, or none
abbrev pub start_year : PlanEntry → Option ℕ
start_year (start_entry year) = Some year
start_year (reference_entry year) = None
start_year (item_entry name parent) = None

-- the reference year that an entry gives, or none
abbrev pub reference_year : PlanEntry → Option ℕ
reference_year (start_entry year) = None
reference_year (reference_entry year) = Some year
reference_year (item_entry name parent) = None

-- the name of the item that an entry gives, or none
abbrev pub item_name : PlanEntry → Option (List ℕ)
item_name (start_entry year) = None
item_name (reference_entry year) = None
item_name (item_entry name parent) = Some name

-- the first of some years, or none
abbrev pub earliest : List ℕ → Option ℕ
earliest [] = None
earliest (year ∷ years) = Some year

-- the number of the item that has the name in a parent's field, or none where the field is empty
abbrev pub parent_among : List (List ℕ) → List ℕ → Option ℕ
parent_among names [] = None
parent_among names (byte ∷ bytes) = position (bytes_eq (byte ∷ bytes)) names

-- the numbers of the items' parents, each among the items before it, behind items of these names
unfoldable pub parents_from : List (List ℕ) → List PlanEntry → List (Option ℕ)
parents_from names [] = []
parents_from names (start_entry year ∷ entries) = parents_from names entries
parents_from names (reference_entry year ∷ entries) = parents_from names entries
parents_from names (item_entry name parent ∷ entries) =
    parent_among names parent ∷ parents_from (names ++ name ∷ []) entries

-- what is gathered of entries: the first year and the reference year, each where an entry gives one, and the items'
-- names and parents
pub record Gathered : Type 0 where
  pub start : Option ℕ
  pub reference : Option ℕ
  pub names : List (List ℕ)
  pub parents : List (Option ℕ)

-- what these entries give
unfoldable pub gathered : List PlanEntry → Gathered
gathered entries = record {
  start = earliest (filter_map start_year entries);
  reference = earliest (filter_map reference_year entries);
  names = filter_map item_name entries;
  parents = parents_from [] entries;
}

-- whether an item has a name
abbrev pub has_item : Gathered → List ℕ → Bool
has_item before name = list_any (bytes_eq name) before.names

-- whether an entry stands before the first year: no start stands before it, and it isn't one
abbrev pub is_early : Gathered → PlanEntry → Bool
is_early before (start_entry year) = false
is_early before (reference_entry year) = not (is_some before.start)
is_early before (item_entry name parent) = not (is_some before.start)

-- whether an entry is a second start, a second reference, or an item with a name that an item has
abbrev pub is_second : Gathered → PlanEntry → Bool
is_second before (start_entry year) = is_some before.start
is_second before (reference_entry year) = is_some before.reference
is_second before (item_entry name parent) = has_item before name

-- whether an entry's year is out of range: a first year is from 1900 to 2200, a reference year one of the 64 from the
-- first
abbrev pub is_out_of_range : Gathered → PlanEntry → Bool
is_out_of_range before (start_entry year) = not (nat_le 1900 year && nat_le year 2200)
is_out_of_range before (reference_entry year) = not (is_within (unwrap_or before.start 0) year)
is_out_of_range before (item_entry name parent) = false

-- whether an entry names a parent that no item before it has as its name
abbrev pub is_orphan : Gathered → PlanEntry → Bool
is_orphan before (start_entry year) = false
is_orphan before (reference_entry year) = false
is_orphan before (item_entry name parent) = not (length parent == 0) && not (has_item before parent)

-- whether an entry is an item that comes after 512 items
abbrev pub is_past_last : Gathered → PlanEntry → Bool
is_past_last before (start_entry year) = false
is_past_last before (reference_entry year) = false
is_past_last before (item_entry name parent) = nat_le 512 (length before.names)

-- the cause for which an entry is refused behind those before it: the first that applies, or none
unfoldable pub cause_of_entry : Gathered → PlanEntry → Option PlanCause
cause_of_entry before entry =
    if is_early before entry then Some NoStart
    else if is_second before entry then Some Twice
    else if is_out_of_range before entry then Some Year
    else if is_orphan before entry then Some NoParent
    else if is_past_last before entry then Some TooMany
    else None

-- the same of what a line says: a line that says nothing breaks the form
abbrev pub cause_of : Gathered → Option PlanEntry → Option PlanCause
cause_of before None = Some Form
cause_of before (Some entry) = cause_of_entry before entry

-- what a line gives: nothing where it is passed over
abbrev pub given : TextLine → Option PlanEntry
given line = if is_passed_over line then None else said line

-- a line that is refused, and why
pub record PlanRefusal : Type 0 where
  pub line : ℕ
  pub cause : PlanCause

-- the refusal of a line behind the lines before it, or none
unfoldable pub refusal_of : List TextLine → TextLine → Option PlanRefusal
refusal_of before line =
    if is_passed_over line then None
    else option_map (λ cause. record { line = line.number; cause = cause })
    (cause_of (gathered (filter_map given before)) (said line))

-- the first refusal of a line, where these lines stand before them
unfoldable pub first_refusal : List TextLine → List TextLine → Option PlanRefusal
first_refusal before [] = None
first_refusal before (line ∷ lines) = option_or (refusal_of before line) (first_refusal (before ++ line ∷ []) lines)

-- the reference year counted from the first year, which it is where no line gives one
abbrev pub years_on : ℕ → Option ℕ → ℕ
years_on start None = 0
years_on start (Some year) = year - start

-- the plan of what all lines give; without a first year it is refused at this line
abbrev pub plan_given : Gathered → ℕ → Result PlanShape PlanRefusal
plan_given all missing = elim all.start [
  | None ↦ Err (record { line = missing; cause = NoStart })
  | Some start ↦ Ok (record {
    start = start;
    reference = years_on start all.reference;
    names = all.names;
    parents = all.parents;
  })
]

-- the plan of all lines, of which none is refused; without a first year that is the line after the last
unfoldable pub plan_of_all : List TextLine → Result PlanShape PlanRefusal
plan_of_all lines = plan_given (gathered (filter_map given lines)) (next_number (length lines))

-- a refusal, or else a plan
abbrev pub unless_refused : Option PlanRefusal → Result PlanShape PlanRefusal → Result PlanShape PlanRefusal
unless_refused None plan = plan
unless_refused (Some refusal) plan = Err refusal

-- the plan that a text spells, or the first of its lines that is refused
unfoldable pub plan_of : List ℕ → Result PlanShape PlanRefusal
plan_of text = unless_refused (first_refusal [] (lines_of text)) (plan_of_all (lines_of text))
