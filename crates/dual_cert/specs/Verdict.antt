-- What a certificate's verdict says, over the document's own numbers.
use Rattle.std.specs.Prelude.{◌≡◌, ℕ, ◌+◌, ◌^◌, ℤ, pos, List}
use Rattle.denton_parts.specs.Benchmarks.{MeetsBenchmarks}
use Rattle.denton_parts.specs.Ratios.{IsWithinGap}
use Rattle.denton_parts.specs.Changes.{changes}
use Rattle.denton_parts.specs.Gap.{gap_by}
use Rattle.denton_parts.specs.Year.{BenchmarkedYear}
use Rattle.denton_parts.specs.Years.{years_at}
use Rattle.dual_cert.specs.declared.document.CertDoc.{CertDoc}
use Rattle.dual_cert.specs.Sums.{IsFirstMissed}

-- the document's benchmarked years
abbrev pub years_of_document : CertDoc → List BenchmarkedYear
years_of_document doc = years_at doc.ind.items doc.years.items doc.bench.items

-- the document's quarters add up to its benchmarks in each benchmarked year
abbrev pub MeetsAll : CertDoc → Type 0
MeetsAll doc = MeetsBenchmarks (years_of_document doc) (pos 1) doc.x.items

-- the calendar year is the first whose quarters don't add up
abbrev pub IsFirstMissedYear : CertDoc → ℕ → Type 0
IsFirstMissedYear doc year =
    (place : ℕ) × (year ≡ doc.start + place) × IsFirstMissed (years_of_document doc) doc.x.items place

-- the gap of the document's own series, indicators and multipliers
abbrev pub gap_of_document : CertDoc → ℤ
gap_of_document doc =
    gap_by (pos (10 ^ doc.scale)) doc.ind.items doc.x.items (changes (years_of_document doc) doc.u.items doc.ind.items)

-- no series that meets the document's benchmarks is better than its series by more than its gap
abbrev pub IsWithinItsGap : CertDoc → Type 0
IsWithinItsGap doc =
    IsWithinGap doc.ind.items (years_of_document doc) doc.x.items doc.gap (pos (10 ^ doc.scale))
