-- The exit status of the program.
use Rattle.std.specs.Prelude.{ℕ}
use Rattle.qna_edges.specs.declared.status.Status.{Status}
use Rattle.qna_edges.specs.declared.status.Status.TheVariants.{Done, Memory, Usage, PlanFault, OpenFault}
use Rattle.qna_edges.specs.declared.status.Status.TheVariants.{ReadFault, WriteFault, CheckNo, TooMuch}

-- the number of each way in which a command ends
abbrev pub number_of : Status → ℕ
number_of Done = 0
number_of Memory = 1
number_of Usage = 2
number_of PlanFault = 3
number_of OpenFault = 4
number_of ReadFault = 5
number_of WriteFault = 6
number_of CheckNo = 7
number_of TooMuch = 8
