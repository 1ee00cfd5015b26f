-- The texts of years and quarters, and how a period counts from a start year.
use Rattle.std.specs.Prelude.{ℕ, ◌+◌, ◌-◌, ◌*◌, ◌/◌, ◌%◌, Bool, ◌&&◌, ◌||◌, ◌==◌, nat_le, nat_lt, if◌then◌else◌}
use Rattle.std.specs.Prelude.{List, [], ◌∷◌, ◌++◌, Option, Some, None, Result, Ok, Err}
use Rattle.std.specs.Char.{is_ascii_digit}
use Rattle.period_keys.specs.declared.Year.{Year}
use Rattle.period_keys.specs.declared.Quarter.{Quarter}
use Rattle.period_keys.specs.declared.PeriodFault.{PeriodFault}
use Rattle.period_keys.specs.declared.PeriodFault.TheVariants as fault

-- the number that four digits spell
abbrev pub four_digits : ℕ → ℕ → ℕ → ℕ → ℕ
four_digits a b c d = 1000 * (a - 48) + 100 * (b - 48) + 10 * (c - 48) + (d - 48)

-- the year of a text: four digits and nothing else
abbrev pub year_of : List ℕ → Option ℕ
year_of (a ∷ b ∷ c ∷ d ∷ []) =
    if is_ascii_digit a && is_ascii_digit b && is_ascii_digit c && is_ascii_digit d
    then Some (four_digits a b c d) else None
year_of _ = None

-- the number of a quarter in its year: the letter Q or q, and a digit from 1 to 4
abbrev pub number_of : ℕ → ℕ → Option ℕ
number_of letter digit =
    if (letter == 81 || letter == 113) && nat_le 49 digit && nat_le digit 52 then Some (digit - 48) else None

-- a quarter as its year and its number in the year, from 1 to 4
pub record Named : Type 0 where
  pub year : ℕ
  pub number : ℕ

-- both parts, where both are there
abbrev pub named : Option ℕ → Option ℕ → Option Named
named (Some y) (Some n) = Some (record { year = y; number = n })
named _ _ = None

-- the quarter of a text: a year, a hyphen or none, the letter and the digit
abbrev pub quarter_of : List ℕ → Option Named
quarter_of (a ∷ b ∷ c ∷ d ∷ letter ∷ digit ∷ []) = named (year_of (a ∷ b ∷ c ∷ d ∷ [])) (number_of letter digit)
quarter_of (a ∷ b ∷ c ∷ d ∷ hyphen ∷ letter ∷ digit ∷ []) =
    if hyphen == 45 then named (year_of (a ∷ b ∷ c ∷ d ∷ [])) (number_of letter digit) else None
quarter_of _ = None

-- whether a year is one of the 64 from the start year
abbrev pub is_within : ℕ → ℕ → Bool
is_within start year = nat_le start year && nat_lt year (start + 64)

-- the year's place among the 64
abbrev pub year_from : ℕ → Option ℕ → Result Year PeriodFault
year_from start None = Err fault.Form
year_from start (Some year) = if is_within start year then Ok (record { 0 = year - start }) else Err fault.Range

-- the quarter's place among the quarters of the 64 years
abbrev pub quarter_from : ℕ → Option Named → Result Quarter PeriodFault
quarter_from start None = Err fault.Form
quarter_from start (Some q) =
    if is_within start q.year then Ok (record { 0 = 4 * (q.year - start) + (q.number - 1) }) else Err fault.Range

-- the canonical text of a year of four digits
abbrev pub year_text : ℕ → List ℕ
year_text year = (48 + year / 1000) ∷ (48 + year / 100 % 10) ∷ (48 + year / 10 % 10) ∷ (48 + year % 10) ∷ []

-- the canonical text of a quarter: its year, Q and its number
abbrev pub quarter_text : Named → List ℕ
quarter_text q = year_text q.year ++ (81 ∷ (48 + q.number) ∷ [])

-- the year that a place stands for
abbrev pub year_at : ℕ → Year → ℕ
year_at start y = start + y.0

-- the quarter that a place stands for
abbrev pub quarter_at : ℕ → Quarter → Named
quarter_at start q = record { year = start + q.0 / 4; number = q.0 % 4 + 1 }
