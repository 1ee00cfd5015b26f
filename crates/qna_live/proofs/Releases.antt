-- The release of all that was accepted.
use Rattle.std.proofs.Common.{◌≡◌, ◌∙◌, ℕ, ◌≤◌, List, [], ◌++◌, length, map, take, refl, sym, ap, subst, arith}
use Rattle.std.proofs.lemmas.List.{length-map, take_all}
use Rattle.std.proofs.lemmas.List.FromFn.{length-map-range_with_len}
use Rattle.series_tables.specs.Plan.{PlanShape}
use Rattle.series_tables.specs.LastValue.{last_value}
use Rattle.series_tables.specs.declared.input.Input.{Input}
use Rattle.node_compile.specs.Release.{compilation, item_table}
use Rattle.node_compile.specs.Table.{Table}
use Rattle.accounts_history.specs.History.{Sent, inputs_of, journal}
use Rattle.accounts_history.specs.declared.entry.Entry.{Entry}
use Rattle.accounts_core.specs.State.{CoreState}
use Rattle.accounts_core.specs.Step.{ReadsAll}
use Rattle.accounts_core.specs.Finishing.{HasOnlyPublished, IsFinished}
use Rattle.release_print.specs.Release.{release_text}
use Rattle.compile_workers.specs.Release.{release_of}
use Rattle.qna_live.specs.Live.{whole_release}

length_inputs : (history : List Entry) → length (inputs_of history) ≡ length (journal history)
length_inputs history = length-map (journal history) (λ (sent : Sent). sent.input)

-- the compilation has a table for each item
pub length_compilation : (plan : PlanShape) (inputs : List Input) → length (compilation plan inputs) ≡ length plan.names
unfolding compilation
length_compilation plan inputs = length-map-range_with_len (item_table (last_value inputs) plan) 0 (length plan.names)

-- a finished core shows the compilation of all that was accepted
pub shown-whole : (old new : CoreState) (plan : PlanShape) (front : ℕ) (tables : List Table) → old.plan ≡ plan → HasOnlyPublished 0 old new → IsFinished new → ReadsAll new front tables →
    (front ≡ length (inputs_of old.history)) × (tables ≡ compilation plan (inputs_of old.history))
shown-whole old new plan front tables is published finished reads =
    let inputs : inputs_of new.history ≡ inputs_of old.history = ap (map (λ (sent : Sent). sent.input)) published.journal in
    let count : front ≡ length (inputs_of new.history) = reads.0 ∙ finished.all ∙ sym (length_inputs new.history) in (
      count ∙ ap (λ (xs : List Input). length xs) inputs,
      reads.1 ∙ ap (λ (n : ℕ). compilation new.plan (take n (inputs_of new.history))) (sym reads.0 ∙ count)
          ∙ ap (compilation new.plan) (take_all (length (inputs_of new.history)) (inputs_of new.history) (omega arith))
          ∙ ap (compilation new.plan) inputs ∙ ap (λ (p : PlanShape). compilation p (inputs_of old.history)) (published.plan ∙ is),
    )

-- its text is the release of the whole history
pub printed-whole : (plan : PlanShape) (history : List Entry) (front : ℕ) (tables : List Table) (empty text : List ℕ) → (front ≡ length (inputs_of history)) × (tables ≡ compilation plan (inputs_of history)) → empty ≡ [] →
    text ≡ empty ++ release_text plan front tables → text ≡ whole_release plan history
unfolding release_of
printed-whole plan history front tables empty text shows none is =
    is ∙ ap (λ (bytes : List ℕ). bytes ++ release_text plan front tables) none
    ∙ ap (λ (n : ℕ). release_text plan n tables) shows.0 ∙ ap (release_text plan (length (inputs_of history))) shows.1
