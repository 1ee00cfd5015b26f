-- How far a desk's lines are answered while the answers wait to be written. It is this product's own.
use Rattle.std.specs.Prelude.{◌≡◌, ℕ, List, [], ◌∷◌, ◌++◌, Result, OnOk, OnErr}
use mathlib.Core.List.{IsPrefix}
use Rattle.qna_base.specs.declared.Memory.{Memory}
use Rattle.line_form.specs.Lines.{TextLine}
use Rattle.series_tables.specs.Plan.{PlanShape}
use Rattle.qna_edges.specs.Paper.{Paper, grown}
use Rattle.qna_edges.specs.declared.refused.Refused.{Refused}
use Rattle.accounts_history.specs.History.{journal}
use Rattle.accounts_history.specs.declared.entry.Entry.{Entry}
use Rattle.compile_workers.specs.Served.{IsPartlyServed}
use Rattle.compile_workers.specs.Serving.{HasAdded, IsAnswered}

-- where a desk has come: the text of the answers that wait, the number of its last accepted input, and what its pass
-- has seen
pub record Reached : Type 0 where
  pub text : List ℕ
  pub own : ℕ
  pub seen : List Entry

abbrev pub reached : List ℕ → ℕ → List Entry → Reached
reached text own seen = record { text = text; own = own; seen = seen }

-- some more lines were answered, whatever was written before: all of them at success, and else a part
abbrev pub AnswersMore : PlanShape → ℕ → List TextLine → Reached → Reached → Result (Unit {0}) Memory → Type 0
AnswersMore plan party more old new said =
    (lines : List TextLine) (written : List ℕ) → IsAnswered plan party lines (written ++ old.text) old.own old.seen
    → OnOk said (IsAnswered plan party (lines ++ more) (written ++ new.text) new.own new.seen)
    × IsPartlyServed plan party (lines ++ more) (written ++ new.text) (journal new.seen)

-- one more line was answered
abbrev pub AnswersLine : PlanShape → ℕ → TextLine → Reached → Reached → Result (Unit {0}) Memory → Type 0
AnswersLine plan party line = AnswersMore plan party (line ∷ [])

-- a beginning of a text was added to a sink
pub record HasBegun (old new : Paper) (text : List ℕ) : Type 0 where
  pub begun : List ℕ
  pub begins : IsPrefix begun text
  pub added : HasAdded old new begun

-- the first of the answers that waited were written and the others wait; or a beginning of them was
pub record HasMoved (old new : Paper) (before after : List ℕ) (said : Result (Unit {0}) Refused) : Type 0 where
  pub moved : OnOk said ((written : List ℕ) × (before ≡ written ++ after) × (new ≡ grown old written))
  pub begun : OnErr said (HasBegun old new before)
