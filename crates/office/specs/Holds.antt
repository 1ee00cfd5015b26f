-- One hold of the lock is one event of the core. It is this product's own.
use Rattle.std.specs.Prelude.{◌≡◌, ℕ, ◌≤◌, ◌^◌, length, Some, Result, Ok, Err}
use Rattle.qna_base.specs.declared.Memory.{Memory}
use Rattle.series_tables.specs.Plan.{PlanShape}
use Rattle.accounts_history.specs.History.{IsLawful, party_of}
use Rattle.accounts_history.specs.declared.entry.Entry.{Entry}
use Rattle.round_works.specs.Jobs.{job_in, job_made}
use Rattle.round_works.specs.declared.work.Compiled.{Compiled}
use Rattle.round_works.specs.declared.work.Job.{Job}
use Rattle.accounts_core.specs.Sound.{IsSound}
use Rattle.accounts_core.specs.State.{CoreState, IsOutNow}
use Rattle.accounts_core.specs.Step.{HandsIn, PutsBack}
use Rattle.accounts_core.specs.declared.replies.Done.TheVariants.{Kept}
use Rattle.accounts_core.specs.declared.replies.PutBack.{PutBack}
use Rattle.desk_lock.specs.Passes.{GrewBy, IsSameButSeen, IsTested, Knowledge}
use Rattle.office.specs.Seen.{MadeNothing}
use Rattle.office.specs.declared.replies.Ran.{Ran}
use Rattle.office.specs.declared.replies.Ran.TheVariants.{Finished, NotOut, Wanting}

-- what a pass of an office knows
abbrev pub Known : Type 0
Known = Knowledge Entry PlanShape

-- a pass later on: it knows the same but for what it has seen, and that is lawful under its plan
abbrev pub IsLater : Known → Known → Type 0
IsLater before after = IsSameButSeen before after × IsTested IsLawful after

-- the answer of a call that may want memory, and then changes nothing
abbrev pub Answers : {A : Type 0} → (A → CoreState → CoreState → Type 0) → Result A Memory
    → CoreState → CoreState → Type 0
Answers step (Ok reply) found left = step reply found left
Answers step (Err error) found left = left ≡ found

-- an event leaves the plan and the history as they were
abbrev pub Stays : CoreState → CoreState → Type 0
Stays found left = (left.plan ≡ found.plan) × (left.history ≡ found.history) × IsSound left

-- an event leaves the plan as it was, and the history with one entry more, which is the party's, or with none
abbrev pub Grows : ℕ → CoreState → CoreState → Type 0
Grows party found left =
    (left.plan ≡ found.plan) × GrewBy party_of party found.history left.history
    × (length left.history ≤ 2 ^ 40) × IsSound left

-- in one hold a pass found a core of its plan, to whose history others alone had added, and one event left the core
-- whose history it has then seen
pub record OneHold (event : CoreState → CoreState → Type 0) (before after : Known) : Type 0 where
  pub found : CoreState
  pub left : CoreState
  pub plan : Some found.plan ≡ before.label
  pub others : MadeNothing before.party before.seen found.history
  pub sound : IsSound left
  pub seen : after.seen ≡ left.history
  pub happened : event found left

-- a job was run: what is made of it was kept, or it isn't out any more, or memory was wanted and it came back
abbrev pub Runs : Job → Ran → Known → Known → Type 0
Runs job Finished before after =
    OneHold (λ found left. (made : Compiled) × (job_made made ≡ job_in job) × HandsIn found made Kept left) before after
Runs job NotOut before after = OneHold (λ found left. ¬ IsOutNow found (job_in job) × (left ≡ found)) before after
Runs job Wanting before after =
    OneHold (λ found left. (reply : PutBack) × PutsBack found job reply left) before after
