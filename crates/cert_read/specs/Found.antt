-- What is found of a certificate's text: the verdict on what it says, or why it says nothing, and what a yes is worth.
use Rattle.std.specs.Prelude.{◌≡◌, ℕ, ◌+◌, ◌^◌, ℤ, pos, unsigned_abs, if◌then◌else◌, List, [], ◌∷◌, map, Option, Some}
use Rattle.std.specs.Prelude.{None, Result, Ok, Err}
use Rattle.std.specs.Ordering.{int_eq}
use Rattle.denton_parts.specs.Benchmarks.{MeetsBenchmarks, year_total}
use Rattle.denton_parts.specs.Ratios.{IsWithinGap}
use Rattle.denton_parts.specs.Changes.{changes}
use Rattle.denton_parts.specs.Gap.{gap_by}
use Rattle.denton_parts.specs.Year.{BenchmarkedYear}
use Rattle.denton_parts.specs.Years.{years_at}
use Rattle.dual_cert.specs.declared.verdict.Verdict.{Verdict}
use Rattle.dual_cert.specs.declared.verdict.Verdict.TheVariants.{Yes, Sum, Gap}
use Rattle.cert_read.specs.declared.fault.CertFault.{CertFault}
use Rattle.cert_read.specs.declared.fault.CertFault.TheVariants.{Shape, Range, Memory}
use Rattle.cert_read.specs.Content.{Content}
use Rattle.cert_read.specs.Reading.{reading}

-- the indicators that a certificate says, each above 0
abbrev pub indicators_of : Content → List ℕ
indicators_of said = map unsigned_abs said.ind

-- the benchmarked years that it says
abbrev pub years_of : Content → List BenchmarkedYear
years_of said = years_at (indicators_of said) said.places said.bench

-- the gap of a certificate's own series, indicators and multipliers
abbrev pub gap_of_content : Content → ℤ
gap_of_content said =
    gap_by (pos (10 ^ unsigned_abs said.scale)) (indicators_of said) said.x
    (changes (years_of said) said.u (indicators_of said))

-- the place of the first of the years whose quarters don't add up to its benchmark
abbrev pub first_missed_among : List ℤ → List BenchmarkedYear → Option ℕ
first_missed_among quarters [] = None
first_missed_among quarters (year ∷ later) =
    if int_eq (year_total quarters year.place) year.benchmark then first_missed_among quarters later
    else Some year.place

-- the verdict where the first year that is missed is this one, or none is
abbrev pub verdict_with : Content → Option ℕ → Verdict
verdict_with said (Some place) = Sum (said.start + place)
verdict_with said None =
    if int_eq said.gap (gap_of_content said) then Yes else Gap said.gap (gap_of_content said)

-- the verdict on what a certificate says
unfoldable pub verdict_of : Content → Verdict
verdict_of said = verdict_with said (first_missed_among said.x (years_of said))

-- the verdict on what is read, or why nothing is
abbrev pub judge : Result Content CertFault → Result Verdict CertFault
judge (Ok said) = Ok (verdict_of said)
judge (Err fault) = Err fault

-- what is found of a text: the verdict on the certificate that it spells, or why it spells none
unfoldable pub found : List ℕ → Result Verdict CertFault
found text = judge (reading text)

-- an answer is what is found, unless memory ran out
abbrev pub IsFound : Result Verdict CertFault → Result Verdict CertFault → Type 0
IsFound (Ok verdict) found = found ≡ Ok verdict
IsFound (Err Memory) found = Unit {0}
IsFound (Err (Shape line)) found = found ≡ Err (Shape line)
IsFound (Err (Range line)) found = found ≡ Err (Range line)

-- the text spells a certificate whose series meets its benchmarks, and no series that meets them is better by more than
-- the gap that stands there
unfoldable pub CertifiesItsGap : List ℕ → Type 0
CertifiesItsGap text =
    (said : Content) × (reading text ≡ Ok said) × MeetsBenchmarks (years_of said) (pos 1) said.x
    × IsWithinGap (indicators_of said) (years_of said) said.x said.gap (pos (10 ^ unsigned_abs said.scale))
