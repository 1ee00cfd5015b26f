-- What a line of an input asks for, by its form alone (this product's own).
use Rattle.std.specs.Prelude.{ℕ, ℤ, pos, ◌+◌, ◌-◌, ◌*◌, ◌^◌, Bool, false, ◌&&◌, int_le, List, [], ◌∷◌, codes}
use Rattle.std.specs.Prelude.{Option, Some, None, Result, Ok, Err, option_map, if◌then◌else◌}
use Rattle.std.specs.Str.{bytes_eq}
use Rattle.series_tables.specs.declared.input.Kind.{Kind}
use Rattle.series_tables.specs.declared.input.Kind.TheVariants.{Indicator, Benchmark, Price}
use Rattle.line_form.specs.Lines.{TextLine, is_passed_over}
use Rattle.line_form.specs.Fields.{record_of}
use Rattle.line_form.specs.Number.{number_of, cut_to}
use Rattle.period_keys.specs.Period.{Named, year_of, quarter_of, is_within}
use Rattle.input_rules.specs.declared.lines.Cause.{Cause}
use Rattle.input_rules.specs.declared.lines.Cause.TheVariants.{Long, Form}

-- an input as a line spells it: its period is none where the year isn't one of the plan's 64, and its value is cut to
-- 10^15 on either side
pub record SpelledInput : Type 0 where
  pub kind : Kind
  pub name : List ℕ
  pub period : Option ℕ
  pub value : ℤ

-- what a line asks for: to take an input, to print the whole release, that of one item or the certificate of a leaf, or
-- to be told the published front once all that came before is in it
pub data Asked : Type 0 where
  input : SpelledInput → Asked
  release : Asked
  release_of : List ℕ → Asked
  certificate_of : List ℕ → Asked
  sync : Asked

-- the kind that a first word names
abbrev pub kind_of : List ℕ → Option Kind
kind_of word =
    if bytes_eq word (codes "ind") then Some Indicator
    else (if bytes_eq word (codes "bench") then Some Benchmark
    else (if bytes_eq word (codes "price") then Some Price else None))

-- the place of a year among the 64 from a start year, from 0
abbrev pub year_place : ℕ → ℕ → Option ℕ
year_place start year = if is_within start year then Some (year - start) else None

-- the place of a quarter among those of these years, from 0
abbrev pub quarter_place : ℕ → Named → Option ℕ
quarter_place start quarter =
    if is_within start quarter.year then Some (4 * (quarter.year - start) + (quarter.number - 1)) else None

-- the place of the period that a field spells, a year for a benchmark and else a quarter; no place at all where it
-- spells none
abbrev pub period_of : Kind → ℕ → List ℕ → Option (Option ℕ)
period_of Indicator start field = option_map (quarter_place start) (quarter_of field)
period_of Benchmark start field = option_map (year_place start) (year_of field)
period_of Price start field = option_map (quarter_place start) (quarter_of field)

-- the bound to which values are cut; it is above the values of every kind
abbrev pub value_bound : ℤ
value_bound = pos (10 ^ 15)

-- the value that a field spells, cut to the bound
abbrev pub value_of : List ℕ → Option ℤ
value_of field = option_map (cut_to value_bound) (number_of field)

-- whether a number is one of a desk: from 1 to 16
abbrev pub is_desk : Option ℤ → Bool
is_desk None = false
is_desk (Some number) = int_le (pos 1) number && int_le number (pos 16)

-- an input with this name, where its period and its value are spelled right
abbrev pub input_with : Kind → List ℕ → Option (Option ℕ) → Option ℤ → Option Asked
input_with kind name (Some period) (Some value) =
    Some (input (record { kind = kind; name = name; period = period; value = value }))
input_with kind name (Some period) None = None
input_with kind name None value = None

-- the input of a kind that fields spell, where there is a kind
abbrev pub input_of_kind : Option Kind → ℕ → List ℕ → List ℕ → List ℕ → Option Asked
input_of_kind None start name period value = None
input_of_kind (Some kind) start name period value = input_with kind name (period_of kind start period) (value_of value)

-- what fields ask for, from a plan's start year on: an input has four fields, or a desk's number behind them; none
-- where they have none of the forms
abbrev pub request_of : ℕ → List (List ℕ) → Option Asked
request_of start (word ∷ []) =
    if bytes_eq word (codes "release") then Some release
    else (if bytes_eq word (codes "sync") then Some sync else None)
request_of start (word ∷ name ∷ []) =
    if bytes_eq word (codes "release") then Some (release_of name)
    else (if bytes_eq word (codes "cert") then Some (certificate_of name) else None)
request_of start (word ∷ name ∷ period ∷ value ∷ []) = input_of_kind (kind_of word) start name period value
request_of start (word ∷ name ∷ period ∷ value ∷ desk ∷ []) =
    if is_desk (number_of desk) then input_of_kind (kind_of word) start name period value else None
request_of start fields = None

-- the record's fields, or the cause where there is no record
abbrev pub fields_or_form : Option (List (List ℕ)) → Result (Option (List (List ℕ))) Cause
fields_or_form None = Err Form
fields_or_form (Some fields) = Ok (Some fields)

-- the fields of a line, none of a line that is passed over, or why a line has none
abbrev pub fields_of_line : TextLine → Result (Option (List (List ℕ))) Cause
fields_of_line line =
    if is_passed_over line then Ok None
    else (if line.long then Err Long else fields_or_form (record_of line.text))

-- the request, or the cause where there is none
abbrev pub request_or_form : Option Asked → Result (Option Asked) Cause
request_or_form None = Err Form
request_or_form (Some request) = Ok (Some request)

-- what the fields of a line ask for
abbrev pub meaning_of_fields : ℕ → Result (Option (List (List ℕ))) Cause → Result (Option Asked) Cause
meaning_of_fields start (Err cause) = Err cause
meaning_of_fields start (Ok None) = Ok None
meaning_of_fields start (Ok (Some fields)) = request_or_form (request_of start fields)

-- what a line asks for, from a plan's start year on; nothing where it is passed over; or why its form is refused
abbrev pub meaning_of : ℕ → TextLine → Result (Option Asked) Cause
meaning_of start line = meaning_of_fields start (fields_of_line line)
