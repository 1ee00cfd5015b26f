-- What the releases are worth that `live` shows and reports.
use Rattle.std.specs.Prelude.{◌≡◌, ℕ, List, take, Ok}
use Rattle.series_tables.specs.Plan.{PlanShape, plan_of}
use Rattle.input_rules.specs.Accepted.{accepted}
use Rattle.accounts_history.specs.History.{IsLawful, inputs_of}
use Rattle.accounts_history.specs.declared.entry.Entry.{Entry}
use Rattle.qna_laws.specs.Journals.{IsOfDesks}
use Rattle.qna_laws.specs.Releases.{IsCertified}

-- the first so many inputs of a journal are those that are accepted of some text, and what is compiled of them is worth
-- what every release is
pub record IsWorth (plan : PlanShape) (history : List Entry) (front : ℕ) : Type 0 where
  pub text : List ℕ
  pub sent : accepted plan text ≡ take front (inputs_of history)
  pub certified : IsCertified plan text

-- so it is of every beginning of a desks' journal, whatever the plan
unfoldable pub JournalsAreCertified : Type 0
JournalsAreCertified =
    (spelled : List ℕ) (plan : PlanShape) (history : List Entry) (front : ℕ) → plan_of spelled ≡ Ok plan
    → IsLawful plan history → IsOfDesks history → IsWorth plan history front
