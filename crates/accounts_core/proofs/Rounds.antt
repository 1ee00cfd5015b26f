-- What holds of the open round holds where the job of one item stands elsewhere.
use Rattle.std.proofs.Common.{◌≡◌, ◌∙◌, ap, sym, subst, inl, inr, ℕ, ◌≤◌, ◌<◌, true, List, length, map, take, get_or, Option, Some, None, arith}
use Rattle.std.proofs.Math.ListN.{length-set}
use Rattle.std.proofs.Math.Seq.{map-set_same}
use Rattle.std.proofs.lemmas.Bool.{cases_eq}
use Rattle.std.proofs.lemmas.List.{get_or-set_same, get_or-set_other, length-take-le, length-take}
use Rattle.std.specs.Prelude.{◌≢◌, slice_set}
use Rattle.series_tables.specs.Cells.{Rows}
use Rattle.series_tables.specs.Plan.{PlanShape}
use Rattle.series_tables.specs.declared.input.Input.{Input}
use Rattle.dirty_plan.specs.Round.{is_job, opened_jobs, state_of}
use Rattle.dirty_plan.specs.Touched.{names_leaf}
use Rattle.dirty_plan.specs.declared.job.JobState.{JobState}
use Rattle.dirty_plan.specs.declared.job.JobState.TheVariants.{Clean}
use Rattle.vintage_board.specs.Board.{BoardOf}
use Rattle.accounts_history.specs.History.{inputs_of, journal}
use Rattle.accounts_history.specs.declared.entry.Entry.{Entry}
use Rattle.accounts_history.proofs.Histories.{length-inputs_of}
use Rattle.round_works.specs.Rounds.{IsRoundOver, Round, round_in, with_job}
use Rattle.round_works.specs.Tables.{shared_table}
use Rattle.round_works.specs.declared.round.OpenRound.{OpenRound}
use Rattle.accounts_core.specs.Kept.{AreTouched, IsKept, IsOpen, IsShown, IsStaged, Shared, staged_at}
use Rattle.accounts_core.proofs.Lists.{within_jobs}

-- the front of an open round is at most the number of inputs
pub front_within : (plan : PlanShape) (history : List Entry) (board : BoardOf Shared) (r : OpenRound) → IsOpen plan board.front (take (round_in r).front (inputs_of history)) board r
    → (round_in r).front ≤ length (journal history)
front_within plan history board r is_open =
    let whole : (round_in r).front ≡ length (take (round_in r).front (inputs_of history)) = is_open.over.whole in
    omega (arith, whole, length-take (round_in r).front (inputs_of history), length-inputs_of history)

-- an item with a job is one of the plan's
pub item_within : (plan : PlanShape) (published : ℕ) (inputs : List Input) (board : BoardOf Shared) (r : OpenRound) (item : ℕ) (state : JobState) → IsOpen plan published inputs board r
    → state_of (round_in r).jobs item ≡ state → is_job state ≡ true → item < length plan.names
item_within plan published inputs board r item state is_open at job =
    omega (arith, within_jobs (round_in r).jobs item state at job, is_open.over.items, is_open.over.named)

-- a round in which one item's job stands elsewhere, with a board on which at most that item's table is staged anew
pub open_set : (plan : PlanShape) (published : ℕ) (inputs : List Input) (board next : BoardOf Shared) (r new : OpenRound) (k : ℕ) (state : JobState) → IsOpen plan published inputs board r
    → round_in new ≡ with_job (round_in r) k state → IsRoundOver plan inputs new → is_job state ≡ is_job (state_of (round_in r).jobs k) → k < length (round_in r).jobs
    → IsStaged plan inputs k state (staged_at next k) → ((item : ℕ) → item ≢ k → staged_at next item ≡ staged_at board item)
    → IsOpen plan published inputs next new
open_set plan published inputs board next r new k state is_open set over same_job within staged_here staged_there = record {
  over = over;
  above = subst (λ (n : ℕ). published < n) (sym (ap (λ (o : Round). o.front) set)) is_open.above;
  touched = subst (AreTouched plan published inputs) (sym jobs) (map-set_same is_job (round_in r).jobs k state Clean same_job ∙ is_open.touched);
  staged = staged;
}
  where
    jobs : (round_in new).jobs ≡ slice_set (round_in r).jobs k state
    jobs = ap (λ (o : Round). o.jobs) set

    staged : (item : ℕ) → item < length plan.names → IsStaged plan inputs item (state_of (round_in new).jobs item) (staged_at next item)
    staged item inside = subst (λ (js : List JobState). IsStaged plan inputs item (state_of js item) (staged_at next item)) (sym jobs) (elim (cases_eq item k) [
      | inl here ↦
          subst (λ (i : ℕ). IsStaged plan inputs i (state_of (slice_set (round_in r).jobs k state) i) (staged_at next i)) (sym here)
          (subst (λ (s : JobState). IsStaged plan inputs k s (staged_at next k)) (sym (get_or-set_same (round_in r).jobs k state Clean within)) staged_here)
      | inr other ↦
          subst (λ (s : JobState). IsStaged plan inputs item s (staged_at next item)) (sym (get_or-set_other (round_in r).jobs k item state Clean other))
          (subst (λ (o : Option Shared). IsStaged plan inputs item (state_of (round_in r).jobs item) o) (sym (staged_there item other)) (is_open.staged item inside))
    ])

-- the core with another round of the same front, and another board that shows the same
pub round_kept : (plan : PlanShape) (history : List Entry) (accepted : ℕ) (rows : Rows) (board next : BoardOf Shared) (round : Option OpenRound) (r new : OpenRound) → IsKept plan history accepted rows board round
    → next.front ≡ board.front → next.shown ≡ board.shown → length next.staged ≡ length board.staged
    → (round_in new).front ≡ (round_in r).front → IsOpen plan next.front (take (round_in r).front (inputs_of history)) next new → IsKept plan history accepted rows next (Some new)
round_kept plan history accepted rows board next round r new kept front shown staged same is_open = record {
  parents = kept.parents;
  lawful = kept.lawful;
  count = kept.count;
  front = front ∙ kept.front;
  items = kept.items;
  values = kept.values;
  published = subst (λ (n : ℕ). IsShown plan (take n (inputs_of history)) next) (sym front) (record {
    tables = ap (λ (ts : List Shared). map shared_table ts) shown ∙ kept.published.tables;
    shown = ap (λ (ts : List Shared). length ts) shown ∙ kept.published.shown;
    staged = staged ∙ kept.published.staged;
  });
  open_round = λ q is.
      let one : new ≡ q = cc in
      subst (λ (o : OpenRound). IsOpen plan next.front (take (round_in o).front (inputs_of history)) next o) one
      (subst (λ (n : ℕ). IsOpen plan next.front (take n (inputs_of history)) next new) (sym same) is_open);
  nothing_staged = λ never. absurd (cc);
}
