use Rattle.std.proofs.Common.{drop}
use Rattle.cert_read.specs.Statement.{value_line}
use Rattle.cert_read.specs.Content.{quarterly}
use Rattle.node_compile.specs.Laws.{numbers_in}
use Rattle.release_print.specs.Certificate.{statements_text}
use Rattle.release_print.proofs.Parts.{Wrote}
use Rattle.release_print.proofs.certificate.push_values.Given as goal

-- the lines so far are written, and those of what is left are to come
abbrev pub invariant-loop-quarter : goal.invariant-loop-quarter
invariant-loop-quarter l = Wrote l.fn.out.items l.out.items (statements_text (quarterly value_line l.start l.quarter (numbers_in (drop l.quarter l.cells)))) (statements_text (quarterly value_line l.start 0 (numbers_in l.cells)))
