use Rattle.std.proofs.Common.{map, drop, pos}
use Rattle.cert_read.specs.Statement.{indicator_line}
use Rattle.cert_read.specs.Content.{quarterly}
use Rattle.release_print.specs.Certificate.{statements_text}
use Rattle.release_print.proofs.Parts.{Wrote}
use Rattle.release_print.proofs.certificate.push_indicators.Given as goal

-- the lines so far are written, and those of what is left are to come
abbrev pub invariant-loop-quarter : goal.invariant-loop-quarter
invariant-loop-quarter l = Wrote l.fn.out.items l.out.items (statements_text (quarterly indicator_line l.start l.quarter (map pos (drop l.quarter l.indicators)))) (statements_text (quarterly indicator_line l.start 0 (map pos l.indicators)))
