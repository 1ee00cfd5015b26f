-- What a refusal by the report means for an input.
use Rattle.qna_edges.specs.declared.refused.Refused.{Refused}
use Rattle.qna_edges.specs.declared.refused.Refused.TheVariants as refused
use Rattle.qna_parts.specs.declared.intake.Untaken.{Untaken}
use Rattle.qna_parts.specs.declared.intake.Untaken.TheVariants.{Memory, Report}

-- a refused write of the report is a fault of the report, or want of memory
abbrev pub untaken_of : Refused → Untaken
untaken_of refused.Failed = Report
untaken_of refused.Memory = Memory
