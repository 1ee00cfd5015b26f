-- The journal of a history from an entry on: what the entry adds to it, and the lines of the rest.
use Rattle.std.proofs.Common.{◌≡◌, ◌∙◌, ℕ, zero, suc, ◌+◌, ◌<◌, List, [], ◌∷◌, ◌++◌, length, drop, get_or, map, refl, sym, ap, arith, append_assoc}
use Rattle.std.specs.List.{All}
use Rattle.accounts_history.specs.History.{Sent, journal, inputs_of}
use Rattle.accounts_history.specs.declared.entry.Entry.{Entry}
use Rattle.accounts_history.specs.declared.entry.Entry.TheVariants.{Accept, Publish}
use Rattle.series_tables.specs.Fits.{FitsPlan}
use Rattle.series_tables.specs.Plan.{PlanShape}
use Rattle.series_tables.specs.declared.input.Input.{Input}
use Rattle.release_print.specs.Journal.{sent_line, sent_lines}
use Rattle.release_print.specs.Part.{AppendsPart}
use Rattle.release_print.proofs.Parts.{Wrote, wrote_more, wrote_some, from_place}

-- a journal is what its first entry adds, and the journal of the rest
journal_first : (entry : Entry) (history : List Entry) → journal (entry ∷ history) ≡ journal (entry ∷ []) ++ journal history
journal_first (Accept party input) history = refl
journal_first (Publish party front jobs) history = refl

-- the lines of some inputs and then of others
lines_append : (plan : PlanShape) (first second : List Sent) → sent_lines plan (first ++ second) ≡ sent_lines plan first ++ sent_lines plan second
lines_append plan [] second = refl
lines_append plan (sent ∷ first) second =
    ap (λ (lines : List ℕ). sent_line plan sent ++ lines) (lines_append plan first second) ∙ sym (append_assoc (sent_line plan sent) (sent_lines plan first) (sent_lines plan second))

-- the lines from an entry on are that of its input, if it has one, and those of the entries behind it
lines_next : (plan : PlanShape) (history : List Entry) (i : ℕ) (d : Entry) → i < length history
    → sent_lines plan (journal (drop i history)) ≡ sent_lines plan (journal (get_or history i d ∷ [])) ++ sent_lines plan (journal (drop (i + 1) history))
lines_next plan history i d inside =
    ap (λ (entries : List Entry). sent_lines plan (journal entries)) (from_place history i d inside)
    ∙ ap (sent_lines plan) (journal_first (get_or history i d) (drop (i + 1) history))
    ∙ lines_append plan (journal (get_or history i d ∷ [])) (journal (drop (i + 1) history))

-- one more entry is written, or a part of it
pub entry_more : (old mid new whole : List ℕ) (plan : PlanShape) (history : List Entry) (i : ℕ) (d : Entry) → i < length history → Wrote old mid (sent_lines plan (journal (drop i history))) whole
    → new ≡ mid ++ sent_lines plan (journal (get_or history i d ∷ [])) → Wrote old new (sent_lines plan (journal (drop (i + 1) history))) whole
entry_more old mid new whole plan history i d inside w grown =
    wrote_more old mid new (sent_lines plan (journal (get_or history i d ∷ []))) (sent_lines plan (journal (drop i history))) (sent_lines plan (journal (drop (i + 1) history))) whole w (lines_next plan history i d inside) grown

pub entry_part : (old mid new whole : List ℕ) (plan : PlanShape) (history : List Entry) (i : ℕ) (d : Entry) → i < length history → Wrote old mid (sent_lines plan (journal (drop i history))) whole
    → AppendsPart mid new (sent_lines plan (journal (get_or history i d ∷ []))) → AppendsPart old new whole
entry_part old mid new whole plan history i d inside w some =
    wrote_some old mid new (sent_lines plan (journal (get_or history i d ∷ []))) (sent_lines plan (journal (drop i history))) (sent_lines plan (journal (drop (i + 1) history))) whole w (lines_next plan history i d inside) some

-- where all inputs of a history fit a plan, that of an entry does
pub entry_fits : (plan : PlanShape) (history : List Entry) (i : ℕ) (d : Entry) → All (FitsPlan plan) (inputs_of history) → i < length history → All (FitsPlan plan) (inputs_of (get_or history i d ∷ []))
entry_fits plan [] i d each inside = absurd (omega arith)
entry_fits plan (Accept party input ∷ history) zero d each inside = one
  where
    one : All (FitsPlan plan) (input ∷ [])
    one zero e below = each 0 e (omega arith)
    one (suc k) e below = absurd (omega arith)
entry_fits plan (Publish party front jobs ∷ history) zero d each inside = λ k e below. absurd (omega arith)
entry_fits plan (Accept party input ∷ history) (suc i) d each inside = entry_fits plan history i d (λ k e below. each (suc k) e (omega arith)) (omega arith)
entry_fits plan (Publish party front jobs ∷ history) (suc i) d each inside = entry_fits plan history i d each (omega arith)
