-- What finishing the rounds does, call by call, and what it takes.
use Rattle.std.specs.Prelude.{◌≡◌, ◌≢◌, ℕ, ◌+◌, ◌<◌, ◌≤◌, Bool, true, false, IsFalse, IsTrue, List, [], ◌++◌}
use Rattle.std.specs.Prelude.{All, length, slice_set, sum_by, take, if◌then◌else◌, Option, Some, None}
use Rattle.std.specs.Option.{ForSome, IsSomeAnd, option_map}
use Rattle.series_tables.specs.Plan.{PlanShape}
use Rattle.series_tables.specs.declared.input.Input.{Input}
use Rattle.dirty_plan.specs.Round.{is_left, is_ready, state_of}
use Rattle.dirty_plan.specs.Touched.{is_touched_between, items_of}
use Rattle.dirty_plan.specs.declared.job.JobState.{JobState}
use Rattle.dirty_plan.specs.declared.job.JobState.TheVariants.{Out, Done, Waiting}
use Rattle.accounts_history.specs.History.{inputs_of, journal}
use Rattle.accounts_history.specs.declared.entry.Entry.{Entry}
use Rattle.accounts_history.specs.declared.entry.Entry.TheVariants.{Accept, Publish}
use Rattle.round_works.specs.Rounds.{IsCopyOut, Round}
use Rattle.round_works.specs.Works.{most_steps_of, work_after, work_in}
use Rattle.round_works.specs.declared.work.Job.{Job}
use Rattle.accounts_core.specs.State.{CoreState, accepted, inputs_to, published, with_round}

-- an entry is a publication of a party
abbrev pub IsPublicationOf : ℕ → Entry → Type 0
IsPublicationOf party (Accept sender input) = ⊥
IsPublicationOf party (Publish publisher front jobs) = publisher ≡ party

-- a core has the same plan and the same journal, and nothing was added to its history but publications of a party
pub record HasOnlyPublished (party : ℕ) (old new : CoreState) : Type 0 where
  pub plan : new.plan ≡ old.plan
  pub journal : journal new.history ≡ journal old.history
  pub added : List Entry
  pub publications : All (IsPublicationOf party) added
  pub history : new.history ≡ old.history ++ added

-- all that was accepted is published, and no round is open
pub record IsFinished (state : CoreState) : Type 0 where
  pub all : published state ≡ accepted state
  pub closed : state.round ≡ None

-- the most steps for an item after the first so many inputs
abbrev pub steps_at : PlanShape → List Input → ℕ → ℕ → ℕ
steps_at plan inputs front item = most_steps_of (work_after plan (take front inputs) item)

-- the most steps of a round from one front to a later one: those of the items that the inputs between them touch
abbrev pub steps_over : PlanShape → List Input → ℕ → ℕ → ℕ
steps_over plan inputs front later = sum_by (λ item.
    if is_touched_between plan inputs front later item then steps_at plan inputs later item else 0) (items_of plan)

-- the same of a core's inputs
abbrev pub item_steps : CoreState → ℕ → ℕ → ℕ
item_steps state front item = steps_at state.plan (inputs_of state.history) front item

abbrev pub steps_between : CoreState → ℕ → ℕ → ℕ
steps_between state front later = steps_over state.plan (inputs_of state.history) front later

-- the front up to which a round is compiled next: that of the open one, or all that was accepted
abbrev pub front_ahead : CoreState → Option Round → ℕ
front_ahead state None = accepted state
front_ahead state (Some round) = round.front

abbrev pub next_front : CoreState → ℕ
next_front state = front_ahead state state.round

-- the most steps of the rounds that are left: one up to the next front, and one from there up to all that was accepted
abbrev pub steps_ahead : CoreState → ℕ
steps_ahead state =
    steps_between state (published state) (next_front state) + steps_between state (next_front state) (accepted state)

-- one round was run to its end: what is published goes up to the front that was the next, and no round is open
pub record IsRoundEnded (old new : CoreState) : Type 0 where
  pub published : published new ≡ next_front old
  pub closed : new.round ≡ None

-- where the jobs of the open round stand
abbrev pub jobs_in : Option Round → List JobState
jobs_in None = []
jobs_in (Some round) = round.jobs

abbrev pub jobs_now : CoreState → List JobState
jobs_now state = jobs_in state.round

-- the core whose open round has these jobs
abbrev pub with_jobs : CoreState → List JobState → CoreState
with_jobs state jobs = with_round state (option_map (λ round. record { front = round.front; jobs = jobs }) state.round)

-- a core is as it was but for where its jobs stand
abbrev pub IsSameRound : CoreState → CoreState → Type 0
IsSameRound old new = new ≡ with_jobs old (jobs_now new)

-- no job is out; none is out that wasn't; no job is left
abbrev pub NoneOut : List JobState → Type 0
NoneOut jobs = (item : ℕ) → state_of jobs item ≢ Out

abbrev pub NoMoreOut : List JobState → List JobState → Type 0
NoMoreOut old new = (item : ℕ) → state_of old item ≢ Out → state_of new item ≢ Out

abbrev pub NoneLeft : List JobState → Type 0
NoneLeft jobs = (item : ℕ) → IsFalse (is_left jobs item)

-- a job isn't out any more, and no other is that wasn't
pub record IsBack (item : ℕ) (old new : List JobState) : Type 0 where
  pub here : state_of new item ≢ Out
  pub others : NoMoreOut old new

-- a copy of an item's job that is out now, or none where it isn't
abbrev pub IsCopyOf : CoreState → ℕ → Option Job → Type 0
IsCopyOf state item None =
    ForSome state.round (λ round. IsCopyOut state.plan (inputs_to state round.front) round item None)
IsCopyOf state item (Some job) =
    IsSomeAnd state.round (λ round. IsCopyOut state.plan (inputs_to state round.front) round item (Some job))

-- the most steps of the jobs that aren't done
abbrev pub steps_left : CoreState → ℕ
steps_left state = sum_by (λ item.
    if is_left (jobs_now state) item then item_steps state (next_front state) item else 0) (items_of state.plan)

-- the most steps of a job
abbrev pub work_steps : Job → ℕ
work_steps job = most_steps_of (work_in job.work)

-- the core in whose round the job of an item stands elsewhere
abbrev pub with_state_of : CoreState → ℕ → JobState → CoreState
with_state_of state item job = with_jobs state (slice_set (jobs_now state) item job)

-- one job that wasn't done is, and what its steps and those that are left come to hasn't grown
pub record RunsItem (old new : CoreState) (before after : ℕ) : Type 0 where
  pub item : ℕ
  pub left : IsTrue (is_left (jobs_now old) item)
  pub done : new ≡ with_state_of old item Done
  pub steps : after + steps_left new ≤ before + steps_left old

-- no job is ready, and nothing changed
pub record RunsNothing (old new : CoreState) (before after : ℕ) : Type 0 where
  pub none : (item : ℕ) → item < length (jobs_now old) → IsFalse (is_ready old.plan.parents (jobs_now old) item)
  pub same : new ≡ old
  pub steps : after ≡ before

-- one job was run, or none is ready
abbrev pub RunsOne : CoreState → Bool → CoreState → ℕ → ℕ → Type 0
RunsOne old true new before after = RunsItem old new before after
RunsOne old false new before after = RunsNothing old new before after
