use Rattle.std.proofs.Common.{drop}
use Rattle.cert_read.specs.Statement.{multiplier_line}
use Rattle.cert_read.specs.Content.{yearly}
use Rattle.release_print.specs.Certificate.{statements_text}
use Rattle.release_print.proofs.Parts.{Wrote}
use Rattle.release_print.proofs.certificate.push_multipliers.Given as goal

-- the lines so far are written, and those of what is left are to come
abbrev pub invariant-loop-y : goal.invariant-loop-y
invariant-loop-y l =
    Wrote l.fn.out.items l.out.items
    (statements_text (yearly multiplier_line l.start (drop l.y l.years) (drop l.y l.multipliers)))
    (statements_text (yearly multiplier_line l.start l.years l.multipliers))
