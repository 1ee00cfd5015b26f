-- What a certificate says so far, which line may follow, which numbers are in range, and the lines that spell it.
use Rattle.std.specs.Prelude.{◌≡◌, ℕ, suc, ◌+◌, ◌-◌, ◌*◌, ◌/◌, ◌%◌, ◌^◌, ◌≤◌, ℤ, pos, ◌≤ℤ◌, int_le, unsigned_abs, Bool}
use Rattle.std.specs.Prelude.{◌&&◌, ◌==◌, nat_le, nat_lt, IsTrue, List, [], ◌∷◌, ◌++◌, take, length, slice_index}
use Rattle.std.specs.Prelude.{slice_index_or, EachIndex}
use Rattle.period_keys.specs.Period.{Named}
use Rattle.denton_parts.specs.Year.{IsBenchmark, IsMultiplier}
use Rattle.denton_parts.specs.Years.{ArePlaces}
use Rattle.line_form.specs.Name.{is_name}
use Rattle.dual_cert.specs.Document.{IsQuarterValue}
use Rattle.cert_read.specs.Statement.{Statement, certificate_line, scale_line, start_line, indicator_line}
use Rattle.cert_read.specs.Statement.{benchmark_line, value_line, multiplier_line, gap_line, end_line}

-- what the lines so far say: of the three lines at the head and of the two at the end as many as stand, and the places
-- of the benchmarked years, counted from the start year
pub record Content : Type 0 where
  pub heads : ℕ
  pub name : List ℕ
  pub front : ℤ
  pub scale : ℤ
  pub start : ℕ
  pub ind : List ℤ
  pub places : List ℕ
  pub bench : List ℤ
  pub x : List ℤ
  pub u : List ℤ
  pub gap : ℤ
  pub tail : ℕ

-- the quarter at a place, counted from the start year's first
abbrev pub quarter_from : ℕ → ℕ → Named
quarter_from start t = record { year = start + t / 4; number = t % 4 + 1 }

-- whether a quarter is the one at a place
abbrev pub is_quarter : ℕ → ℕ → Named → Bool
is_quarter start t q = q.year == start + t / 4 && q.number == t % 4 + 1

-- the first place behind these, each of which is behind the one before
abbrev pub place_behind : ℕ → List ℕ → ℕ
place_behind free [] = free
place_behind free (place ∷ places) = place_behind (suc place) places

-- whether a year is behind the places of a run of so many quarters, and has its four quarters there
abbrev pub is_year_behind : ℕ → List ℕ → ℕ → ℕ → Bool
is_year_behind start places quarters year =
    nat_le (start + place_behind 0 places) year && nat_le (4 * (year - start) + 4) quarters

-- whether a line may follow: the certificate's name, its scale and start year, the indicators, the benchmarks, the
-- values, the multipliers, the gap and the end, in this order; the quarters without a gap from the start year on, a
-- benchmark for whole years alone, each year behind the one before, as many values as indicators, and a multiplier
-- between each benchmarked year and the next, at the first of the two
abbrev pub follows : Content → Statement → Bool
follows d (certificate_line name front) = d.heads == 0 && is_name name
follows d (scale_line k) = d.heads == 1
follows d (start_line year) = d.heads == 2
follows d (indicator_line q v) = d.heads == 3 && length d.bench == 0 && is_quarter d.start (length d.ind) q
follows d (benchmark_line y v) = length d.x == 0 && is_year_behind d.start d.places (length d.ind) y
follows d (value_line q v) =
    nat_le 1 (length d.bench) && nat_lt (length d.x) (length d.ind) && is_quarter d.start (length d.x) q
follows d (multiplier_line y v) =
    length d.x == length d.ind && nat_lt (length d.u + 1) (length d.bench)
    && y == d.start + slice_index d.places (length d.u)
follows d (gap_line v) = d.tail == 0 && length d.x == length d.ind && length d.u + 1 == length d.bench
follows d end_line = d.tail == 1

-- the content with one more line
abbrev pub with_line : Content → Statement → Content
with_line d (certificate_line name front) = record d { heads = d.heads + 1; name = name; front = front }
with_line d (scale_line k) = record d { heads = d.heads + 1; scale = k }
with_line d (start_line year) = record d { heads = d.heads + 1; start = year }
with_line d (indicator_line q v) = record d { ind = d.ind ++ v ∷ [] }
with_line d (benchmark_line y v) = record d { places = d.places ++ (y - d.start) ∷ []; bench = d.bench ++ v ∷ [] }
with_line d (value_line q v) = record d { x = d.x ++ v ∷ [] }
with_line d (multiplier_line y v) = record d { u = d.u ++ v ∷ [] }
with_line d (gap_line v) = record d { tail = d.tail + 1; gap = v }
with_line d end_line = record d { tail = d.tail + 1 }

-- whether a number lies between two
abbrev pub is_between : ℤ → ℤ → ℤ → Bool
is_between least v most = int_le least v && int_le v most

-- the greatest size of the value that comes next: 10^16 times its indicator, over 10^k
abbrev pub value_bound : Content → ℕ
value_bound d = 10 ^ 16 * unsigned_abs (slice_index_or d.ind (length d.x) (pos 0)) / 10 ^ unsigned_abs d.scale

-- whether the number of a line that follows is in range, and an indicator is one of the first 256
abbrev pub is_in_range : Content → Statement → Bool
is_in_range d (certificate_line name front) = is_between (pos 0) front (pos 262144)
is_in_range d (scale_line k) = is_between (pos 0) k (pos 15)
is_in_range d (start_line year) = nat_le 1900 year && nat_le year 2200
is_in_range d (indicator_line q v) = is_between (pos 1) v (pos (10 ^ 9)) && nat_lt (length d.ind) 256
is_in_range d (benchmark_line y v) = nat_le (unsigned_abs v) (10 ^ 12)
is_in_range d (value_line q v) = nat_le (unsigned_abs v) (value_bound d)
is_in_range d (multiplier_line y v) = nat_le (unsigned_abs v) (10 ^ 15)
is_in_range d (gap_line v) = is_between (pos 0) v (pos (10 ^ 36))
is_in_range d end_line = 0 == 0

-- a line for each quarter's number, from a place on
abbrev pub quarterly : (Named → ℤ → Statement) → ℕ → ℕ → List ℤ → List Statement
quarterly line start t [] = []
quarterly line start t (v ∷ vs) = line (quarter_from start t) v ∷ quarterly line start (t + 1) vs

-- a line for each number of a year at a place, counted from the start year
abbrev pub yearly : (ℕ → ℤ → Statement) → ℕ → List ℕ → List ℤ → List Statement
yearly line start (place ∷ places) (v ∷ vs) = line (start + place) v ∷ yearly line start places vs
yearly line start _ _ = []

-- the lines that spell a content, in their order: a multiplier stands at the first of the two years that it is between
unfoldable pub spelled : Content → List Statement
spelled d =
    take d.heads (certificate_line d.name d.front ∷ scale_line d.scale ∷ start_line d.start ∷ [])
    ++ (quarterly indicator_line d.start 0 d.ind ++ (yearly benchmark_line d.start d.places d.bench
    ++ (quarterly value_line d.start 0 d.x ++ (yearly multiplier_line d.start d.places d.u
    ++ take d.tail (gap_line d.gap ∷ end_line ∷ [])))))

-- no line so far
abbrev pub nothing : Content
nothing = record {
  heads = 0;
  name = [];
  front = pos 0;
  scale = pos 0;
  start = 0;
  ind = [];
  places = [];
  bench = [];
  x = [];
  u = [];
  gap = pos 0;
  tail = 0;
}

-- the lines so far stand in their order: none of a later kind without those before it
pub record IsInOrder (d : Content) : Type 0 where
  pub heads : d.heads ≤ 3
  pub named : 1 ≤ d.heads → IsTrue (is_name d.name)
  pub indicators : 1 ≤ length d.ind → 3 ≤ d.heads
  pub placed : length d.places ≡ length d.bench
  pub benchmarks : ArePlaces (length d.ind) d.places
  pub values : length d.x ≤ length d.ind
  pub valued : 1 ≤ length d.x → 1 ≤ length d.bench
  pub multiplied : 1 ≤ length d.u → length d.ind ≤ length d.x
  pub multipliers : 1 ≤ length d.u → length d.u + 1 ≤ length d.bench
  pub closed : 1 ≤ d.tail → length d.ind ≤ length d.x
  pub joined : 1 ≤ d.tail → length d.u + 1 ≡ length d.bench
  pub tail : d.tail ≤ 2

-- the numbers of the lines at the head are in range
pub record AreHeadRanges (heads : ℕ) (front scale : ℤ) (start : ℕ) : Type 0 where
  pub least_front : pos 0 ≤ℤ front
  pub most_front : front ≤ℤ pos 262144
  pub least_scale : pos 0 ≤ℤ scale
  pub most_scale : scale ≤ℤ pos 15
  pub first_start : 3 ≤ heads → 1900 ≤ start
  pub last_start : start ≤ 2200

-- at most 256 indicators, each from 1 to 10^9
pub record AreIndicatorRanges (indicators : List ℤ) : Type 0 where
  pub most : length indicators ≤ 256
  pub least_each : EachIndex indicators (λ t. pos 1 ≤ℤ slice_index_or indicators t (pos 0))
  pub most_each : EachIndex indicators (λ t. slice_index_or indicators t (pos 0) ≤ℤ pos (10 ^ 9))

-- the numbers so far are in range
pub record HasRanges (d : Content) : Type 0 where
  pub head : AreHeadRanges d.heads d.front d.scale d.start
  pub indicators : AreIndicatorRanges d.ind
  pub benchmarks : EachIndex d.bench (λ y. IsBenchmark (slice_index_or d.bench y (pos 0)))
  pub values : EachIndex d.x (λ t.
      IsQuarterValue (unsigned_abs d.scale) (unsigned_abs (slice_index_or d.ind t (pos 0)))
      (slice_index_or d.x t (pos 0)))
  pub multipliers : EachIndex d.u (λ y. IsMultiplier (slice_index_or d.u y (pos 0)))
  pub gap : (pos 0 ≤ℤ d.gap) × (d.gap ≤ℤ pos (10 ^ 36))
