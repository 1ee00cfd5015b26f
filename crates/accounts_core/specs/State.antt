-- What the core stands for: its plan, its history and its open round. No table is a part of it. It is this product's
-- own.
use Rattle.std.specs.Prelude.{◌≡◌, ℕ, List, [], ◌∷◌, ◌++◌, take, length, Option, Some, None}
use Rattle.std.specs.Option.{IsSomeAnd}
use Rattle.series_tables.specs.Plan.{PlanShape}
use Rattle.series_tables.specs.declared.input.Input.{Input}
use Rattle.dirty_plan.specs.Touched.{inputs_between, names_leaf}
use Rattle.dirty_plan.specs.declared.job.JobState.{JobState}
use Rattle.accounts_history.specs.History.{front_of, inputs_of, journal}
use Rattle.accounts_history.specs.declared.entry.Entry.{Entry}
use Rattle.round_works.specs.Jobs.{ItemJob}
use Rattle.round_works.specs.Rounds.{IsOut, Round, opened, with_job}

pub record CoreState : Type 0 where
  pub plan : PlanShape
  pub history : List Entry
  pub round : Option Round

-- how many inputs were accepted
abbrev pub accepted : CoreState → ℕ
accepted state = length (journal state.history)

-- the front of the last published release
abbrev pub published : CoreState → ℕ
published state = front_of state.history

-- the first so many accepted inputs
abbrev pub inputs_to : CoreState → ℕ → List Input
inputs_to state front = take front (inputs_of state.history)

-- the core of a plan before anything was accepted
abbrev pub first_core : PlanShape → CoreState
first_core plan = record { plan = plan; history = []; round = None }

-- the core with one more entry, or with another round
abbrev pub with_entry : CoreState → Entry → CoreState
with_entry state entry = record { plan = state.plan; history = state.history ++ entry ∷ []; round = state.round }

abbrev pub with_round : CoreState → Option Round → CoreState
with_round state round = record { plan = state.plan; history = state.history; round = round }

-- the core in whose round the job of an item stands elsewhere
abbrev pub with_job_at : CoreState → Round → ℕ → JobState → CoreState
with_job_at state round item job = with_round state (Some (with_job round item job))

-- the round that begins: up to all that was accepted, with a job for each item that was touched since the published
-- front
abbrev pub next_round : CoreState → Round
next_round state = opened state.plan (accepted state)
    (names_leaf (inputs_between (inputs_of state.history) (published state) (accepted state)))

-- a job is out in an open round: its item's is, and its front, its reference year and its work are those of the item
-- there
abbrev pub IsOutAt : CoreState → ItemJob → Round → Type 0
IsOutAt state job round = IsOut state.plan (inputs_to state round.front) round job

abbrev pub IsOutNow : CoreState → ItemJob → Type 0
IsOutNow state job = IsSomeAnd state.round (IsOutAt state job)
