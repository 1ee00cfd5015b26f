-- What the end of a desk is worth. It is this product's own.
use Rattle.std.specs.Prelude.{◌≡◌, ℕ, ◌-◌, ◌+◌, ◌≤◌, List, length, take}
use Rattle.line_form.specs.Lines.{ended_lines, lines_of}
use Rattle.series_tables.specs.Plan.{PlanShape}
use Rattle.qna_edges.specs.Count.{Rose}
use Rattle.qna_edges.specs.Paper.{Paper, WasWritten}
use Rattle.qna_edges.specs.Stock.{OnLeft, OnLeftAndRest, Stock, WasRead}
use Rattle.qna_edges.specs.declared.refused.Refused.{Refused}
use Rattle.qna_edges.specs.declared.refused.Refused.TheVariants.{Failed, Memory as Wanting}
use Rattle.qna_parts.specs.Intake.{IsTakenWhole, most_bytes}
use Rattle.qna_parts.specs.Trace.{Passes}
use Rattle.accounts_history.specs.History.{Sent}
use Rattle.compile_workers.specs.Serving.{HasPart, HasWhole}
use Rattle.compile_workers.specs.declared.desk.DeskEnd.{DeskEnd}
use Rattle.compile_workers.specs.declared.desk.DeskEnd.TheVariants.{Ended, Memory, ReadFault, TooMuch, WriteFault}

-- what a desk's source and sink tell
pub record Ends : Type 0 where
  pub source : Stock
  pub sink : Paper

-- what a source and a sink tell
abbrev pub ends_told : Stock → Paper → Ends
ends_told source sink = record { source = source; sink = sink }

-- of so many bytes more than a desk's limit were taken, but no more than a piece beyond it
abbrev pub PassesLimit : List ℕ → List ℕ → Type 0
PassesLimit text rest = Passes most_bytes 65536 (length text) (length rest)

-- a desk was served over a journal, and this was its end
pub record IsDeskEnd (plan : PlanShape) (party : ℕ) (old new : Ends) (end : DeskEnd) (journal : List Sent)
    : Type 0 where
  -- at its end the whole input was read, and its whole transcript stands in the sink
  pub whole : end ≡ Ended → OnLeft old.source (λ text.
      HasWhole plan party (lines_of text) old.sink new.sink journal)
  pub taken : end ≡ Ended → IsTakenWhole old.source new.source
  -- whatever its end, the sink has the beginning of a transcript
  pub part : OnLeft old.source (λ text. HasPart plan party (lines_of text) old.sink new.sink journal)
  -- where a read failed, the sink has the whole transcript of the lines that line feeds ended until then
  pub read : end ≡ ReadFault → OnLeftAndRest old.source new.source (λ text rest.
      HasWhole plan party (ended_lines (take (length text - length rest) text)) old.sink new.sink journal)
  -- past the limit it has that of the lines that line feeds end within the limit
  pub passed : end ≡ TooMuch → OnLeftAndRest old.source new.source PassesLimit
  pub passed_whole : end ≡ TooMuch → OnLeft old.source (λ text.
      HasWhole plan party (ended_lines (take most_bytes text)) old.sink new.sink journal)
  -- at no other end is it passed
  pub within : ¬ (end ≡ TooMuch) → OnLeftAndRest old.source new.source (λ text rest.
      length text ≤ most_bytes + length rest)
  -- only a device of the desk's own is blamed, and the first failure of one ends the desk
  pub read_failed : end ≡ ReadFault → Rose old.source.faults new.source.faults
  pub write_failed : end ≡ WriteFault → Rose old.sink.faults new.sink.faults
  pub read_stands : ¬ (end ≡ ReadFault) → new.source.faults ≡ old.source.faults
  pub write_stands : ¬ (end ≡ WriteFault) → new.sink.faults ≡ old.sink.faults
  pub only_read : WasRead old.source new.source
  pub only_written : WasWritten old.sink new.sink

-- the end of a desk whose answer was refused
abbrev pub end_for : Refused → DeskEnd
end_for Failed = WriteFault
end_for Wanting = Memory
