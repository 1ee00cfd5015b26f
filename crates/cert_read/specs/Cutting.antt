-- Lines with their numbers cut at a bound that no range reaches, and what is read of them.
use Rattle.std.specs.Prelude.{ℕ, ◌^◌, ℤ, pos, List, option_map, Result}
use Rattle.line_form.specs.Number.{cut_to}
use Rattle.cert_read.specs.declared.fault.CertFault.{CertFault}
use Rattle.cert_read.specs.Statement.{Statement, certificate_line, scale_line, start_line, indicator_line}
use Rattle.cert_read.specs.Statement.{benchmark_line, value_line, multiplier_line, gap_line, end_line}
use Rattle.cert_read.specs.Content.{Content, nothing}
use Rattle.cert_read.specs.Reading.{Placed, whole_from, out_from, judged}

-- a number cut to 10^37 on either side
abbrev pub cut_number : ℤ → ℤ
cut_number v = cut_to (pos (10 ^ 37)) v

-- a statement with its number cut
abbrev pub cut_line : Statement → Statement
cut_line (certificate_line name front) = certificate_line name (cut_number front)
cut_line (scale_line k) = scale_line (cut_number k)
cut_line (start_line year) = start_line year
cut_line (indicator_line quarter value) = indicator_line quarter (cut_number value)
cut_line (benchmark_line year value) = benchmark_line year (cut_number value)
cut_line (value_line quarter value) = value_line quarter (cut_number value)
cut_line (multiplier_line year value) = multiplier_line year (cut_number value)
cut_line (gap_line value) = gap_line (cut_number value)
cut_line end_line = end_line

-- the lines with the number of each cut
abbrev pub cut_placed : Placed → Placed
cut_placed line = record { number = line.number; says = option_map cut_line line.says }

-- what lines say, or their first fault; `missing` is the number of a missing line
abbrev pub read_placed : ℕ → List Placed → Result Content CertFault
read_placed missing lines = judged (whole_from missing nothing lines) (out_from nothing lines)
