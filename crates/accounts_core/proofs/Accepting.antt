-- What holds of the core holds once an input is accepted.
use Rattle.std.proofs.Common.{◌≡◌, ◌∙◌, ap, sym, subst, ℕ, ◌+◌, ◌≤◌, ◌<◌, ℤ, List, [], ◌∷◌, ◌++◌, length, take, cond, Option, Some, None, arith}
use Rattle.std.specs.Prelude.{◌≢◌}
use Rattle.series_tables.specs.Cells.{Rows, after_input, cell}
use Rattle.series_tables.specs.Fits.{FitsPlan}
use Rattle.series_tables.specs.LastValue.{last_value, speaks_of}
use Rattle.series_tables.specs.Plan.{PlanShape}
use Rattle.series_tables.specs.declared.input.Input.{Input}
use Rattle.series_tables.specs.declared.input.Kind.{Kind}
use Rattle.vintage_board.specs.Board.{BoardOf}
use Rattle.accounts_history.specs.History.{MayAccept, MayFollow, inputs_of, journal, most_ahead, most_inputs}
use Rattle.accounts_history.specs.Laws.{IsWithinBounds}
use Rattle.accounts_history.specs.declared.entry.Entry.{Entry}
use Rattle.accounts_history.specs.declared.entry.Entry.TheVariants.{Accept}
use Rattle.accounts_history.proofs.Histories.{front_of-accept, inputs_of-accept, length-inputs_of, length-journal-accept, take-inputs_of-accept}
use Rattle.accounts_history.proofs.Lawful.{lawful_more, within_bounds}
use Rattle.round_works.specs.Rounds.{round_in}
use Rattle.round_works.specs.declared.round.OpenRound.{OpenRound}
use Rattle.accounts_core.specs.Kept.{IsKept, IsOpen, IsShown, Shared}
use Rattle.accounts_core.proofs.Rounds.{front_within}
use Rattle.accounts_core.proofs.Untouched.{last_from-append}

-- what was accepted is bounded, and the published front is among it
pub few_accepted : (plan : PlanShape) (history : List Entry) (accepted : ℕ) (rows : Rows) (board : BoardOf Shared) (round : Option OpenRound) → IsKept plan history accepted rows board round → accepted ≤ most_inputs
few_accepted plan history accepted rows board round kept = let bounds = within_bounds plan history kept.lawful in omega (arith, bounds.few, kept.count)

pub front_accepted : (plan : PlanShape) (history : List Entry) (accepted : ℕ) (rows : Rows) (board : BoardOf Shared) (round : Option OpenRound) → IsKept plan history accepted rows board round → board.front ≤ accepted
front_accepted plan history accepted rows board round kept = let bounds = within_bounds plan history kept.lawful in omega (arith, bounds.accepted, kept.count, kept.front)

pub accept_kept : (plan : PlanShape) (history next : List Entry) (accepted : ℕ) (rows next_rows : Rows) (board : BoardOf Shared) (round : Option OpenRound) (party : ℕ) (input : Input)
    → IsKept plan history accepted rows board round → FitsPlan plan input → accepted ≢ most_inputs → accepted ≢ board.front + most_ahead
    → next ≡ history ++ Accept party input ∷ [] → next_rows.items ≡ rows.items
    → ((kind : Kind) (leaf period : ℕ) → cell next_rows kind leaf period ≡ after_input input kind leaf period (cell rows kind leaf period))
    → IsKept plan next (accepted + 1) next_rows board round
accept_kept plan history next accepted rows next_rows board round party input kept fits not_full not_behind e items cells =
    subst (λ (es : List Entry). IsKept plan es (accepted + 1) next_rows board round) (sym e) after
  where
    bounds : IsWithinBounds plan history
    bounds = within_bounds plan history kept.lawful

    may : MayAccept plan history input
    may = record {
      fits = fits;
      room = omega (arith, kept.count, bounds.few, not_full);
      near = omega (arith, kept.count, bounds.near, kept.front, not_behind);
    }

    value_after : (kind : Kind) (leaf period : ℕ) → cell next_rows kind leaf period ≡ last_value (inputs_of (history ++ Accept party input ∷ [])) kind leaf period
    value_after kind leaf period =
        cells kind leaf period ∙ ap (λ (v : Option ℤ). cond (speaks_of kind leaf period input) (Some input.value) v) (kept.values kind leaf period)
        ∙ sym (last_from-append None (inputs_of history) (input ∷ []) kind leaf period)
        ∙ ap (λ (l : List Input). last_value l kind leaf period) (sym (inputs_of-accept history party input))

    open_after : (r : OpenRound) → round ≡ Some r → IsOpen plan board.front (take (round_in r).front (inputs_of (history ++ Accept party input ∷ []))) board r
    open_after r is =
        let one = kept.open_round r is in
        subst (λ (l : List Input). IsOpen plan board.front l board r)
        (sym (take-inputs_of-accept history party input (round_in r).front (front_within plan history board r one))) one

    after : IsKept plan (history ++ Accept party input ∷ []) (accepted + 1) next_rows board round
    after = record {
      parents = kept.parents;
      lawful = lawful_more plan history (Accept party input) kept.lawful may;
      count = omega (arith, length-journal-accept history party input, kept.count);
      front = kept.front ∙ sym (front_of-accept history party input);
      items = items ∙ kept.items;
      values = value_after;
      published = subst (λ (l : List Input). IsShown plan l board)
          (sym (take-inputs_of-accept history party input board.front (omega (arith, bounds.accepted, kept.front)))) kept.published;
      open_round = open_after;
      nothing_staged = kept.nothing_staged;
    }
