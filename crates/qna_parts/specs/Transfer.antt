-- How a transfer from a source to a sink ends at a write that failed.
use Rattle.std.specs.Prelude.{◌≡◌, ◌≤◌, ◌+◌, ℕ, List, length, codes}
use Rattle.qna_edges.specs.Count.{Rose}
use Rattle.qna_edges.specs.Paper.{Paper, BreaksOff}
use Rattle.qna_edges.specs.Stock.{Stock, OnLeft, OnLeftAndRest}
use Rattle.series_tables.specs.Plan.{PlanShape}
use Rattle.input_rules.specs.Accepted.{accepted}
use Rattle.qna_parts.specs.Intake.{most_bytes, refusals_text, IsTakenWhole}
use Rattle.qna_parts.specs.Making.{Making}
use Rattle.qna_parts.specs.Report.{ReportsThen}
use Rattle.qna_parts.specs.StatusLine.{named_line}

-- a source, a sink and a report
pub record Transfer : Type 0 where
  pub source : Stock
  pub sink : Paper
  pub report : Paper

abbrev pub transfer_of : Stock → Paper → Paper → Transfer
transfer_of source sink report = record { source = source; sink = sink; report = report }

-- the report can't be written: it is broken off within the refused lines, nothing was written to the sink, and no more
-- of the source was taken than its limit
pub record ReportBreaks (plan : PlanShape) (old new : Transfer) : Type 0 where
  pub rose : Rose old.report.faults new.report.faults
  pub told : OnLeft old.source (λ text. BreaksOff old.report new.report (refusals_text plan text))
  pub within : OnLeftAndRest old.source new.source (λ text rest. length text ≤ most_bytes + length rest)
  pub unwritten : new.sink ≡ old.sink

-- the sink can't be written: it is broken off within what is made, the source was read to its end, and the report has
-- each refused line, and then the line with the sink's name
pub record OutputBreaks (made : Making) (plan : PlanShape) (old new : Transfer) (name : List ℕ) : Type 0 where
  pub rose : Rose old.sink.faults new.sink.faults
  pub broken : OnLeft old.source (λ text. BreaksOff old.sink new.sink (made plan (accepted plan text)))
  pub told : OnLeft old.source (λ text.
      ReportsThen old.report new.report (refusals_text plan text) (named_line (codes "write") name))
  pub taken : IsTakenWhole old.source new.source
