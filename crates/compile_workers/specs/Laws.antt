-- What a transcript is worth. It is this product's own.
use Rattle.std.specs.Prelude.{◌≡◌, ℕ, ◌≤◌, List, [], ◌++◌, length, All}
use Rattle.line_form.specs.Lines.{TextLine}
use Rattle.series_tables.specs.Plan.{PlanShape}
use Rattle.input_rules.specs.Accepted.{accepted_of}
use Rattle.accounts_history.specs.History.{Sent, most_inputs}
use Rattle.compile_workers.specs.Served.{IsPartlyServed, IsServed, inputs_in}
use Rattle.compile_workers.specs.Transcript.{of_party}

-- a journal grows by what others send
pub record IsOthers (party : ℕ) (journal later : List Sent) : Type 0 where
  pub few : length (journal ++ later) ≤ most_inputs
  pub others : of_party party later ≡ []

-- a whole transcript stays one when its journal grows by what others send
abbrev pub ServedStays : Type 0
ServedStays =
    (plan : PlanShape) (party : ℕ) (lines : List TextLine) (text : List ℕ) (journal later : List Sent)
    → IsOthers party journal later
    → IsServed plan party lines text journal → IsServed plan party lines text (journal ++ later)

-- and so does the beginning of one
abbrev pub PartStays : Type 0
PartStays =
    (plan : PlanShape) (party : ℕ) (lines : List TextLine) (text : List ℕ) (journal later : List Sent)
    → IsOthers party journal later
    → IsPartlyServed plan party lines text journal → IsPartlyServed plan party lines text (journal ++ later)

-- where one desk alone was served, the journal has the accepted inputs of its lines
abbrev pub SoleDeskSends : Type 0
SoleDeskSends =
    (plan : PlanShape) (party : ℕ) (lines : List TextLine) (text : List ℕ) (journal : List Sent)
    → length journal ≤ most_inputs → All (λ sent. sent.party ≡ party) journal
    → IsServed plan party lines text journal → inputs_in journal ≡ accepted_of plan lines
