-- The line that says what is found of a certificate's text.
use Rattle.std.specs.Prelude.{List, [], ℕ, codes, decimal, Result, Ok, Err}
use Rattle.std.specs.Fmt.{signed_decimal}
use Rattle.dual_cert.specs.declared.verdict.Verdict.{Verdict}
use Rattle.dual_cert.specs.declared.verdict.Verdict.TheVariants.{Yes, Sum, Gap}
use Rattle.cert_read.specs.declared.fault.CertFault.{CertFault}
use Rattle.cert_read.specs.declared.fault.CertFault.TheVariants.{Shape, Range, Memory}
use Rattle.cert_read.specs.Found.{found}
use Rattle.qna_parts.specs.StatusLine.{word_line, named_line, pair_line}

-- the report's line of what is found; want of memory has none
abbrev pub found_line : Result Verdict CertFault → List ℕ
found_line (Ok Yes) = word_line (codes "yes")
found_line (Ok (Sum year)) = named_line (codes "no,sum") (decimal year)
found_line (Ok (Gap said found)) = pair_line (codes "no,gap") (signed_decimal said) (signed_decimal found)
found_line (Err (Shape line)) = named_line (codes "no,shape") (decimal line)
found_line (Err (Range line)) = named_line (codes "no,range") (decimal line)
found_line (Err Memory) = []

-- the report's line on a text
unfoldable pub verdict_text : List ℕ → List ℕ
verdict_text text = found_line (found text)
