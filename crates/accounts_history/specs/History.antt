-- The history of the accounts: what was accepted and what was published, in order. It is this product's own.
use Rattle.std.specs.Prelude.{◌≡◌, ℕ, ◌+◌, ◌<◌, ◌≤◌, List, [], ◌∷◌, ◌++◌, map, drop, length, Option, Some, None}
use Rattle.std.specs.List.{filter_map}
use Rattle.series_tables.specs.Fits.{FitsPlan}
use Rattle.series_tables.specs.Plan.{PlanShape}
use Rattle.series_tables.specs.declared.input.Input.{Input}
use Rattle.dirty_plan.specs.Touched.{inputs_between, names_leaf, touched_count}
use Rattle.accounts_history.specs.declared.entry.Entry.{Entry}
use Rattle.accounts_history.specs.declared.entry.Entry.TheVariants.{Accept, Publish}

-- an accepted input with the party that sent it
pub record Sent : Type 0 where
  pub party : ℕ
  pub input : Input

-- what an entry accepts, or none
abbrev pub sent_in : Entry → Option Sent
sent_in (Accept party input) = Some (record { party = party; input = input })
sent_in (Publish party front jobs) = None

-- the front that an entry publishes, or none
abbrev pub front_in : Entry → Option ℕ
front_in (Accept party input) = None
front_in (Publish party front jobs) = Some front

-- the party that an entry is of
abbrev pub party_of : Entry → ℕ
party_of (Accept party input) = party
party_of (Publish party front jobs) = party

-- the journal of a history: what was accepted, in order
abbrev pub journal : List Entry → List Sent
journal history = filter_map sent_in history

-- the inputs that stand in the journal, in order
abbrev pub inputs_of : List Entry → List Input
inputs_of history = map (λ sent. sent.input) (journal history)

-- the last of some numbers, or another where there is none
abbrev pub last_or : ℕ → List ℕ → ℕ
last_or other [] = other
last_or other (number ∷ numbers) = last_or number numbers

-- the front of a history: that of the last publication, or 0 before the first
abbrev pub front_of : List Entry → ℕ
front_of history = last_or 0 (filter_map front_in history)

-- a journal has at most so many inputs
abbrev pub most_inputs : ℕ
most_inputs = 262144

-- a journal is at most so many inputs ahead of the front
abbrev pub most_ahead : ℕ
most_ahead = 1024

-- how many items the inputs from one front to a later one touch
abbrev pub touched_between : PlanShape → List Input → ℕ → ℕ → ℕ
touched_between plan inputs front later = touched_count plan (names_leaf (inputs_between inputs front later))

-- an input may be accepted behind a history: it fits the plan, and the journal is neither full nor as far ahead of the
-- front as it may be
pub record MayAccept (plan : PlanShape) (history : List Entry) (input : Input) : Type 0 where
  pub fits : FitsPlan plan input
  pub room : length (journal history) < most_inputs
  pub near : length (journal history) < front_of history + most_ahead

-- a front may be published behind a history: it is a later one, its inputs were accepted, and there was a job for each
-- item that was touched since the one before
pub record MayPublish (plan : PlanShape) (history : List Entry) (front jobs : ℕ) : Type 0 where
  pub later : front_of history < front
  pub accepted : front ≤ length (journal history)
  pub touched : jobs ≡ touched_between plan (inputs_of history) (front_of history) front

-- an entry may follow a history
abbrev pub MayFollow : PlanShape → List Entry → Entry → Type 0
MayFollow plan history (Accept party input) = MayAccept plan history input
MayFollow plan history (Publish party front jobs) = MayPublish plan history front jobs

-- a history is lawful: each of its entries may follow those before it
abbrev pub IsLawful : PlanShape → List Entry → Type 0
IsLawful plan history =
    (before after : List Entry) (entry : Entry) → before ++ entry ∷ after ≡ history → MayFollow plan before entry
