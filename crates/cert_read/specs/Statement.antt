-- What one line of a certificate says, read from its fields. The form of certificates is this product's own.
use Rattle.std.specs.Prelude.{ℕ, ℤ, if◌then◌else◌, List, [], ◌∷◌, codes, Option, Some, None, option_map}
use Rattle.std.specs.Str.{bytes_eq}
use Rattle.period_keys.specs.Period.{Named, year_of, quarter_of}
use Rattle.line_form.specs.Number.{number_of}
use Rattle.cert_read.specs.declared.entry.NamedQuarter.{NamedQuarter}
use Rattle.cert_read.specs.declared.entry.Entry.{Entry}
use Rattle.cert_read.specs.declared.entry.Entry.TheVariants as entry

-- what a line says: the leaf's name and the front, the scale, the start year, an indicator, a benchmark, a value, a
-- multiplier, the gap, or the end
pub data Statement : Type 0 where
  certificate_line : (name : List ℕ) (front : ℤ) → Statement
  scale_line : (k : ℤ) → Statement
  start_line : (year : ℕ) → Statement
  indicator_line : (quarter : Named) (value : ℤ) → Statement
  benchmark_line : (year : ℕ) (value : ℤ) → Statement
  value_line : (quarter : Named) (value : ℤ) → Statement
  multiplier_line : (year : ℕ) (value : ℤ) → Statement
  gap_line : (value : ℤ) → Statement
  end_line : Statement

-- both, where both are there
abbrev pub both : {A B C : Type 0} → (A → B → C) → Option A → Option B → Option C
both make (Some a) (Some b) = Some (make a b)
both make _ _ = None

-- a line of one field
abbrev pub single : List ℕ → Option Statement
single word = if bytes_eq word (codes "end") then Some end_line else None

-- a line of a word and one field
abbrev pub plain : List ℕ → List ℕ → Option Statement
plain word field =
    if bytes_eq word (codes "scale") then option_map scale_line (number_of field)
    else if bytes_eq word (codes "start") then option_map start_line (year_of field)
    else if bytes_eq word (codes "gap") then option_map gap_line (number_of field)
    else None

-- a line of a word, a period and a number
abbrev pub periodic : List ℕ → List ℕ → List ℕ → Option Statement
periodic word period number =
    if bytes_eq word (codes "i") then both indicator_line (quarter_of period) (number_of number)
    else if bytes_eq word (codes "b") then both benchmark_line (year_of period) (number_of number)
    else if bytes_eq word (codes "x") then both value_line (quarter_of period) (number_of number)
    else if bytes_eq word (codes "u") then both multiplier_line (year_of period) (number_of number)
    else None

-- a line of a word, a name or a period, and a number
abbrev pub dated : List ℕ → List ℕ → List ℕ → Option Statement
dated word field number =
    if bytes_eq word (codes "cert") then option_map (certificate_line field) (number_of number)
    else periodic word field number

-- what a record says; none where it is no line of a certificate
unfoldable pub statement_of : List (List ℕ) → Option Statement
statement_of (word ∷ []) = single word
statement_of (word ∷ field ∷ []) = plain word field
statement_of (word ∷ field ∷ number ∷ []) = dated word field number
statement_of _ = None

-- a quarter by its year and its number in it
abbrev pub named_view : NamedQuarter → Named
named_view q = record { year = q.year; number = q.number }

-- what the code's entry says
abbrev pub entry_view : Entry → Statement
entry_view (entry.Certificate name front) = certificate_line name.items front
entry_view (entry.Scale k) = scale_line k
entry_view (entry.Start year) = start_line year
entry_view (entry.Indicator quarter value) = indicator_line (named_view quarter) value
entry_view (entry.Benchmark year value) = benchmark_line year value
entry_view (entry.Value quarter value) = value_line (named_view quarter) value
entry_view (entry.Multiplier year value) = multiplier_line year value
entry_view (entry.Gap value) = gap_line value
entry_view entry.End = end_line
