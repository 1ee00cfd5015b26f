-- What a written journal is worth to its reader.
use Rattle.std.specs.Prelude.{◌≡◌, ℕ, ◌≤◌, List, [], All}
use Rattle.series_tables.specs.IsPlan.{IsPlan}
use Rattle.series_tables.specs.Plan.{PlanShape}
use Rattle.input_rules.specs.Accepted.{accepted, refusals}
use Rattle.accounts_history.specs.History.{IsLawful, inputs_of, journal}
use Rattle.accounts_history.specs.declared.entry.Entry.{Entry}
use Rattle.release_print.specs.Journal.{journal_text}

-- what was accepted came from desks, which are numbered from 1 to 16
abbrev pub IsOfDesks : List Entry → Type 0
IsOfDesks history = All (λ sent. (1 ≤ sent.party) × (sent.party ≤ 16)) (journal history)

-- a written journal, read as an input, gives back the inputs that were accepted, and no line of it is refused
abbrev pub AreJournalsRead : Type 0
AreJournalsRead = (plan : PlanShape) (history : List Entry) →
    IsPlan plan → IsLawful plan history → IsOfDesks history →
    (accepted plan (journal_text plan history) ≡ inputs_of history)
    × (refusals plan (journal_text plan history) ≡ [])

-- a written journal fixes what was accepted, and from whom
abbrev pub AreJournalsFixed : Type 0
AreJournalsFixed = (plan : PlanShape) (one other : List Entry) →
    IsPlan plan → IsLawful plan one → IsLawful plan other → IsOfDesks one → IsOfDesks other →
    journal_text plan one ≡ journal_text plan other → journal one ≡ journal other
