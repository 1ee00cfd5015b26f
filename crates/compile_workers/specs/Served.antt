-- Transcripts: the text of what a desk is answered, whole and in part. It is this product's own.
use Rattle.std.specs.Prelude.{◌≡◌, ℕ, List, [], ◌∷◌, ◌++◌, take, map, codes, decimal, slice_get, Option, Some, None}
use mathlib.Core.List.{IsPrefix}
use Rattle.series_tables.specs.Plan.{PlanShape}
use Rattle.series_tables.specs.declared.input.Input.{Input}
use Rattle.line_form.specs.Lines.{TextLine}
use Rattle.input_rules.specs.Lines.{cause_text}
use Rattle.node_compile.specs.Release.{compilation}
use Rattle.node_compile.specs.Table.{Table}
use Rattle.release_print.specs.Certificate.{certificate_text}
use Rattle.release_print.specs.Release.{node_text, release_text}
use Rattle.qna_parts.specs.StatusLine.{named_line}
use Rattle.accounts_history.specs.History.{Sent}
use Rattle.compile_workers.specs.Transcript.{Answer, refused, accepted, shown, item_shown, certificate_shown, synced}
use Rattle.compile_workers.specs.Transcript.{AnswersAll, HasNoneAfter, after_all, at_first, questions}

-- the inputs of a journal
abbrev pub inputs_in : List Sent → List Input
inputs_in journal = map (λ sent. sent.input) journal

-- the text of an item's table, and none where there is no such item
abbrev pub text_or_none : (Table → List ℕ) → Option Table → List ℕ
text_or_none text None = []
text_or_none text (Some table) = text table

-- the item's table in the compilation from scratch of the first so many inputs
abbrev pub table_at : PlanShape → List Input → ℕ → ℕ → Option Table
table_at plan inputs front item = slice_get (compilation plan (take front inputs)) item

-- the release of a front: the whole compilation from scratch of the first so many inputs
unfoldable pub release_block : PlanShape → List Input → ℕ → List ℕ
release_block plan inputs front = release_text plan front (compilation plan (take front inputs))

-- the block of one item of it
unfoldable pub item_block : PlanShape → List Input → ℕ → ℕ → List ℕ
item_block plan inputs front item = text_or_none (node_text plan front item) (table_at plan inputs front item)

-- the certificate of one leaf of it
unfoldable pub certificate_block : PlanShape → List Input → ℕ → ℕ → List ℕ
certificate_block plan inputs front leaf =
    text_or_none (certificate_text plan front leaf) (table_at plan inputs front leaf)

-- the text of an answer
abbrev pub answer_text : PlanShape → List Input → Answer → List ℕ
answer_text plan inputs (refused cause) = named_line (codes "no") (cause_text cause)
answer_text plan inputs (accepted number) = named_line (codes "ok") (decimal number)
answer_text plan inputs (shown front) = release_block plan inputs front
answer_text plan inputs (item_shown front item) = item_block plan inputs front item
answer_text plan inputs (certificate_shown front leaf) = certificate_block plan inputs front leaf
answer_text plan inputs (synced front) = named_line (codes "synced") (decimal front)

-- the text of answers, one behind the other
abbrev pub answers_text : PlanShape → List Input → List Answer → List ℕ
answers_text plan inputs [] = []
answers_text plan inputs (answer ∷ answers) = answer_text plan inputs answer ++ answers_text plan inputs answers

-- a text is the whole transcript of a desk's lines over a journal: each line that isn't passed over is answered in
-- order, the journal has nothing of the desk after its last accepted input, and the text is that of the answers
pub record IsServed (plan : PlanShape) (party : ℕ) (lines : List TextLine) (text : List ℕ) (journal : List Sent)
    : Type 0 where
  pub answers : List Answer
  pub answered : AnswersAll plan party journal at_first (questions plan lines) answers
  pub nothing_more : HasNoneAfter party (after_all at_first answers).own journal
  pub spelled : text ≡ answers_text plan (inputs_in journal) answers

-- a text begins the whole transcript of the first of a desk's lines, some number of them
pub record IsPartlyServed (plan : PlanShape) (party : ℕ) (lines : List TextLine) (text : List ℕ) (journal : List Sent)
    : Type 0 where
  pub first : List TextLine
  pub begins_lines : IsPrefix first lines
  pub whole : List ℕ
  pub served : IsServed plan party first whole journal
  pub begins_text : IsPrefix text whole
