-- The serving of desks between files that are open.
use Rattle.std.specs.Prelude.{◌≡◌, ◌⊎◌, List, length}
use Rattle.qna_edges.specs.Paper.{Paper}
use Rattle.qna_edges.specs.declared.status.Status.{Status}
use Rattle.qna_edges.specs.declared.status.Status.TheVariants.{Done, Memory}
use Rattle.series_tables.specs.Plan.{PlanShape}
use Rattle.accounts_history.specs.History.{IsLawful, journal}
use Rattle.accounts_history.specs.declared.entry.Entry.{Entry}
use Rattle.release_print.specs.Journal.{journal_text}
use Rattle.compile_workers.specs.DeskEnd.{Ends}
use Rattle.compile_workers.specs.Parties.{AreOfDesks, AreServed}
use Rattle.compile_workers.specs.declared.desk.DeskEnd.{DeskEnd}
use Rattle.qna_live.specs.Live.{IsTextWritten, status_of_run, whole_release}

-- the desks, with these ends, were served over one history, lawful under the plan, whose inputs are theirs; its journal
-- was written to a sink, and its release to the report
pub record HasServedAll (plan : PlanShape) (olds news : List Ends) (kept keeps before after : Paper) (status : Status)
    : Type 0 where
  pub history : List Entry
  pub lawful : IsLawful plan history
  pub senders : AreOfDesks (length olds) (journal history)
  pub ended : List DeskEnd
  pub served : AreServed plan (journal history) 1 olds news ended
  pub shared : Status
  pub shared_is : (shared ≡ Done) ⊎ (shared ≡ Memory)
  pub all : shared ≡ Done → length ended ≡ length olds
  pub written : Status
  pub journaled : IsTextWritten (journal_text plan history) kept keeps written
  pub reported : Status
  pub told : IsTextWritten (whole_release plan history) before after reported
  pub status_is : status ≡ status_of_run ended shared written reported

-- or memory was wanting before the first desk began, and nothing was written
pub record HasServedNone (olds news : List Ends) (kept keeps before after : Paper) (status : Status) : Type 0 where
  pub ends : news ≡ olds
  pub journal : keeps ≡ kept
  pub report : after ≡ before
  pub status_is : status ≡ Memory
