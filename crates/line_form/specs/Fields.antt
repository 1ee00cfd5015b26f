-- The one record of a line, as the crate `csv` reads it.
use Rattle.std.specs.Prelude.{ℕ, Bool, ◌==◌, ◌||◌, if◌then◌else◌, List, [], ◌∷◌, ◌++◌, Option, None, option_map}
use Rattle.std.specs.List.{list_any}
use Rattle.csv.specs.Machine.{next_record, carriage_return, line_feed}
use Rattle.csv.specs.Writing.{comma, quote_mark}
use Rattle.csv.specs.Reading.{default_config, strip_bom}
use Rattle.csv.specs.declared.parser.State.TheVariants as st

-- the first record that `csv` reads from some bytes: commas, double quotes, no header and no trimming
abbrev pub csv_record : List ℕ → Option (List (List ℕ))
csv_record bytes = option_map (λ p. p.0) (next_record default_config st.StartRecord [] [] (strip_bom bytes))

-- the record of a line: none where a carriage return is left in it, or where `csv` reads none
unfoldable pub record_of : List ℕ → Option (List (List ℕ))
record_of text = if list_any (λ b. b == carriage_return) text then None else csv_record text

-- the parts of some bytes between commas, where `part` stands before the bytes
unfoldable pub parts_from : List ℕ → List ℕ → List (List ℕ)
parts_from part [] = part ∷ []
parts_from part (b ∷ bs) = if b == comma then part ∷ parts_from [] bs else parts_from (part ++ b ∷ []) bs

-- whether a byte is more than a part of a field or a comma: a double quote, a line feed or a carriage return
abbrev pub is_special : ℕ → Bool
is_special b = b == quote_mark || b == line_feed || b == carriage_return
