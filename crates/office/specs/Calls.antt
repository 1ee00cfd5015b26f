-- What each call of the office answers, between what its pass knew before and knows after. It is this product's own.
use Rattle.std.specs.Prelude.{◌≡◌, ℕ, List, length, slice_get, Some}
use Rattle.std.specs.Option.{ForSome}
use Rattle.series_tables.specs.declared.input.Input.{Input}
use Rattle.node_compile.specs.Table.{Table}
use Rattle.accounts_history.specs.History.{front_of, inputs_of, journal, most_inputs, touched_between}
use Rattle.office.specs.Holds.{Known}
use Rattle.office.specs.Seen.{IsBehind, IsWholeAt, MadeNothing, PublishedOne, SentNothing, SentOne, released}
use Rattle.office.specs.declared.replies.Submitted.{Submitted}
use Rattle.office.specs.declared.replies.Submitted.TheVariants.{Accepted, Full, Memory as Wanting}
use Rattle.office.specs.declared.replies.Helped.{Helped}
use Rattle.office.specs.declared.replies.Helped.TheVariants.{Compiled, Idle, Opened, Published, Quiet}
use Rattle.office.specs.declared.replies.Helped.TheVariants.{Memory as HelpWanting}

-- an input is submitted: it is accepted as the last of what is then seen, or the journal is full, or memory was wanted
abbrev pub Submits : Input → Submitted → Known → Known → Type 0
Submits input (Accepted number) before after = SentOne before.party input number before.seen after.seen
Submits input Full before after =
    SentNothing before.party before.seen after.seen × (length (journal after.seen) ≡ most_inputs)
Submits input Wanting before after = SentNothing before.party before.seen after.seen

-- so many jobs as items that the inputs touch which aren't published
abbrev pub CountsTouched : ℕ → Known → Type 0
CountsTouched jobs pass = ForSome pass.label (λ plan.
    jobs ≡ touched_between plan (inputs_of pass.seen) (front_of pass.seen) (length (journal pass.seen)))

-- a party helps: it published a front, or it made no entry
abbrev pub Helps : Helped → Known → Known → Type 0
Helps (Published front) before after = PublishedOne before.party front before.seen after.seen
Helps (Quiet front) before after = MadeNothing before.party before.seen after.seen × IsWholeAt front after.seen
Helps Idle before after = MadeNothing before.party before.seen after.seen × IsBehind after.seen
Helps (Compiled node) before after = MadeNothing before.party before.seen after.seen × IsBehind after.seen
Helps (Opened front jobs) before after =
    MadeNothing before.party before.seen after.seen × IsBehind after.seen
    × (length (journal after.seen) ≡ front) × CountsTouched jobs after
Helps HelpWanting before after = MadeNothing before.party before.seen after.seen

-- an item's table of the last release that a pass has seen, with its front
abbrev pub ShowsTable : Known → ℕ → ℕ → Table → Type 0
ShowsTable pass item front table =
    (front ≡ front_of pass.seen) × ForSome pass.label (λ plan. slice_get (released plan pass.seen) item ≡ Some table)

-- the last release that a pass has seen
abbrev pub ShowsRelease : Known → ℕ → List Table → Type 0
ShowsRelease pass front tables =
    (front ≡ front_of pass.seen) × ForSome pass.label (λ plan. tables ≡ released plan pass.seen)
