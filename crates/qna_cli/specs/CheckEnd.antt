-- What `check` leaves, and why it ended as it did.
use Rattle.std.specs.Prelude.{◌≡◌, ◌≢◌, ◌≤◌, ◌⊎◌, ℕ, Bool, true, false, IsTrue, List, length, codes, Some, Ok}
use Rattle.qna_edges.specs.Count.{Rose}
use Rattle.qna_edges.specs.Paper.{Paper, grown, BreaksOff, Writes}
use Rattle.qna_edges.specs.Shelves.{Shelves, OnFile, OpenRose, ReadRose, OnlyRead}
use Rattle.qna_edges.specs.declared.status.Status.{Status}
use Rattle.qna_edges.specs.declared.status.Status.TheVariants.{Done, Memory, OpenFault, ReadFault, WriteFault}
use Rattle.qna_edges.specs.declared.status.Status.TheVariants.{CheckNo, TooMuch}
use Rattle.dual_cert.specs.declared.verdict.Verdict.TheVariants.{Yes}
use Rattle.qna_parts.specs.Trace.{trace_of, IsReadWhole, IsUnfailed, EndsUnread}
use Rattle.cert_read.specs.Found.{found, CertifiesItsGap}
use Rattle.qna_cli.specs.Check.{verdict_text}

-- the most bytes of a certificate
abbrev pub certificate_limit : ℕ
certificate_limit = 1048576

-- an end at the verdict yes: its line was written, or refused by the report
abbrev pub ends_at_yes : Status → Bool
ends_at_yes Done = true
ends_at_yes WriteFault = true
ends_at_yes status = false

-- an end once the whole text was read, at a verdict
abbrev pub ends_at_verdict : Status → Bool
ends_at_verdict CheckNo = true
ends_at_verdict status = ends_at_yes status

-- how `check` can end
abbrev pub ends_a_check : Status → Bool
ends_a_check Memory = true
ends_a_check OpenFault = true
ends_a_check ReadFault = true
ends_a_check TooMuch = true
ends_a_check status = ends_at_verdict status

-- `check` with this certificate took the cabinet and the report from the old to the new, and ended with this status
pub record IsCheckEnd (old new : Shelves) (before after : Paper) (name : List ℕ) (status : Status) : Type 0 where
  -- at yes: that is what is found of the text, so no series that meets the certificate's benchmarks is better by more
  -- than the gap that stands in it; and the line is reported whole, or its writing failed
  pub yes : ends_at_yes status ≡ true → OnFile old name (λ text. (found text ≡ Ok Yes) × CertifiesItsGap text)
  pub told_yes : status ≡ Done → after ≡ grown before (codes "yes\n")
  pub cut_yes : status ≡ WriteFault → Rose before.faults after.faults × BreaksOff before after (codes "yes\n")
  -- at no: something else is found, and its line is reported
  pub no : status ≡ CheckNo → OnFile old name (λ text. (found text ≢ Ok Yes) × Writes before after (verdict_text text))
  -- for want of memory nothing failed, and nothing is written; or yes is found, and its line is broken off since the
  -- report wanted memory
  pub memory : status ≡ Memory → (after ≡ before) ⊎ (Rose before.wants after.wants
      × BreaksOff before after (codes "yes\n") × OnFile old name (λ text. found text ≡ Ok Yes))
  pub unfailed : status ≡ Memory → IsUnfailed (trace_of old new name) × (after.faults ≡ before.faults)
  -- at a verdict the text was read to its end, within the limit; before one, why it wasn't is reported
  pub read : ends_at_verdict status ≡ true → IsReadWhole certificate_limit (trace_of old new name)
  pub unread : EndsUnread certificate_limit (trace_of old new name) before after status
  pub ends : ends_a_check status ≡ true
  -- however it ended, nothing but the certificate was opened and read, and its source was handed back
  pub only : OnlyRead old new name

-- where no count of the certificate or of the report rose, and it is within the limit, the end is at a verdict or for
-- want of memory
abbrev pub CheckCompletes : Shelves → Shelves → Paper → Paper → List ℕ → Status → Type 0
CheckCompletes old new before after name status =
    (text : List ℕ) → IsTrue old.tells → (old.under name).file ≡ Some text → length text ≤ certificate_limit
    → ¬ OpenRose old new name → ¬ ReadRose old new name → ¬ Rose before.faults after.faults
    → (status ≡ Done) ⊎ ((status ≡ CheckNo) ⊎ (status ≡ Memory))

-- every end of `check` does so
abbrev pub ChecksComplete : Type 0
ChecksComplete =
    (old new : Shelves) (before after : Paper) (name : List ℕ) (status : Status)
    → IsCheckEnd old new before after name status → CheckCompletes old new before after name status
