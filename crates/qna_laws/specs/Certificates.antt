-- What a printed certificate is worth to its reader.
use Rattle.std.specs.Prelude.{◌≡◌, ℕ, List, [], ◌∷◌, length, codes, decimal, unsigned_abs, Some, IfSome, Ok, IfOk}
use Rattle.std.specs.Fmt.{signed_decimal}
use Rattle.price_base.specs.declared.Cell.{Cell}
use Rattle.dual_cert.specs.declared.document.CertDoc.{CertDoc}
use Rattle.dual_cert.specs.Verdict.{MeetsAll, gap_of_document}
use Rattle.dual_cert.specs.declared.verdict.Verdict.TheVariants.{Yes}
use Rattle.cert_read.specs.Content.{Content}
use Rattle.cert_read.specs.Found.{found}
use Rattle.cert_read.specs.Reading.{reading, content_of as content_of_document}
use Rattle.series_tables.specs.Plan.{PlanShape}
use Rattle.node_compile.specs.Table.{Certificate, Table}
use Rattle.release_print.specs.Certificate.{certificate_or_none, certificate_text, content_of}
use Rattle.release_print.specs.Line.{line_text, name_of}
use Rattle.release_print.specs.Release.{gap_line}

-- the printed certificate is read as what it says, and a document that says the same meets its benchmarks and states
-- the gap of its own numbers
abbrev pub IsReadAndTrue : ℕ → List ℕ → ℕ → Certificate → List Cell → Type 0
IsReadAndTrue start name front certificate values =
    (reading (certificate_or_none start name front (Some certificate) values)
    ≡ Ok (content_of start name front certificate values))
    × ((doc : CertDoc) → content_of_document doc ≡ content_of start name front certificate values
    → MeetsAll doc × (doc.gap ≡ gap_of_document doc))

-- the line of a release that shows what a certificate says: the name, how many years are benchmarked, the scale and the
-- gap
abbrev pub shown_line : Content → List ℕ
shown_line said = line_text (codes "g")
    (said.name ∷ decimal (length said.bench) ∷ decimal (unsigned_abs said.scale) ∷ signed_decimal said.gap ∷ [])

-- a check of the certificate that is printed of an item's table finds yes, and what the certificate says is what the
-- item's line in the release shows, with the gap of the table
pub record IsFoundTrue (plan : PlanShape) (front item : ℕ) (table : Table) : Type 0 where
  pub yes : found (certificate_text plan front item table) ≡ Ok Yes
  pub shown : IfOk (reading (certificate_text plan front item table))
      (λ said. gap_line (name_of plan.names item) table.leaf ≡ shown_line said)
  pub gap : IfOk (reading (certificate_text plan front item table))
      (λ said. IfSome table.leaf (λ certificate. said.gap ≡ certificate.gap))
