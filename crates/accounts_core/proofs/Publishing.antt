-- What holds of the core holds once a round is published.
use Rattle.std.proofs.Common.{◌≡◌, ◌∙◌, ap, sym, refl, subst, ℕ, zero, suc, ◌+◌, ◌≤◌, ◌<◌, Bool, true, false, cond, List, [], ◌∷◌, ◌++◌, length, map, take, drop, replicate, get_or, Option, Some, None, arith}
use Rattle.std.specs.Prelude.{slice_get}
use Rattle.std.specs.List.{range_with_len}
use Rattle.std.specs.Option.{IsSomeAnd}
use Rattle.std.proofs.lemmas.List.FromFn.{length-map-range_with_len, get_or-map-range_with_len}
use Rattle.std.proofs.lemmas.List.Sums.{sum_by-cons}
use Rattle.series_tables.specs.Cells.{Rows}
use Rattle.series_tables.specs.LastValue.{last_value}
use Rattle.series_tables.specs.Plan.{PlanShape}
use Rattle.series_tables.specs.declared.input.Input.{Input}
use Rattle.dirty_plan.specs.Round.{IsLeast, first_state, is_job, is_left, is_unfinished, job_count, opened_jobs, state_of}
use Rattle.dirty_plan.specs.Touched.{inputs_between, is_touched, is_touched_between, names_leaf}
use Rattle.dirty_plan.specs.declared.job.JobState.{JobState}
use Rattle.dirty_plan.specs.declared.job.JobState.TheVariants.{Clean, Waiting, Out, Done}
use Rattle.dirty_plan.proofs.Counts.{job_count-opened_jobs}
use Rattle.vintage_board.specs.Board.{BoardOf, put_over, staged_or, with_shown}
use Rattle.node_compile.specs.Release.{compilation, item_table}
use Rattle.accounts_history.specs.History.{MayPublish, front_of, inputs_of, journal, touched_between}
use Rattle.accounts_history.specs.declared.entry.Entry.{Entry}
use Rattle.accounts_history.specs.declared.entry.Entry.TheVariants.{Publish}
use Rattle.accounts_history.proofs.Histories.{front_of-publish, inputs_of-publish, journal-publish, length-inputs_of}
use Rattle.accounts_history.proofs.Lawful.{lawful_more}
use Rattle.round_works.specs.Rounds.{Round, round_in}
use Rattle.round_works.specs.Tables.{shared_table}
use Rattle.round_works.specs.Works.{table_after}
use Rattle.round_works.specs.declared.round.OpenRound.{OpenRound}
use Rattle.accounts_core.specs.Kept.{IsKept, IsOpen, IsShown, IsStaged, Shared, staged_at}
use Rattle.accounts_core.specs.State.{CoreState}
use Rattle.accounts_core.specs.Step.{Publishes}
use Rattle.accounts_core.specs.declared.replies.Publish.TheVariants.{Published, Waiting as WaitingFor}
use Rattle.accounts_core.proofs.Handling.{inputs_under, state_of_parts}
use Rattle.accounts_core.proofs.Lists.{job_at, length-none, length-put_over, made_at, put_made, there}
use Rattle.accounts_core.proofs.Rounds.{front_within}
use Rattle.accounts_core.proofs.Untouched.{same_table}

-- as many jobs where the same items have one
pub job_count-same : (xs ys : List JobState) → map is_job xs ≡ map is_job ys → job_count xs ≡ job_count ys
job_count-same [] [] e = refl
job_count-same [] (y ∷ ys) e = absurd (cc)
job_count-same (x ∷ xs) [] e = absurd (cc)
job_count-same (x ∷ xs) (y ∷ ys) e =
    let head : is_job x ≡ is_job y = cc in
    let tail : map is_job xs ≡ map is_job ys = cc in
    sum_by-cons (λ j. cond (is_job j) 1 0) x xs ∙ ap (λ (n : ℕ). cond (is_job x) 1 0 + n) (job_count-same xs ys tail) ∙ ap (λ (b : Bool). cond b 1 0 + job_count ys) head ∙ sym (sum_by-cons (λ j. cond (is_job j) 1 0) y ys)

is_job-first_state : (b : Bool) → is_job (first_state b) ≡ b
is_job-first_state true = refl
is_job-first_state false = refl

-- an item has a job exactly where it is touched
pub touched_at : (plan : PlanShape) (is_named : ℕ → Bool) (jobs : List JobState) (k : ℕ) → map is_job jobs ≡ map is_job (opened_jobs plan is_named) → k < length jobs → k < length plan.parents → is_job (state_of jobs k) ≡ is_touched plan is_named k
unfolding opened_jobs
touched_at plan is_named jobs k same within inside =
    let at : get_or (opened_jobs plan is_named) k Clean ≡ first_state (is_touched plan is_named k) = get_or-map-range_with_len (λ item. first_state (is_touched plan is_named item)) 0 (length plan.parents) k k Clean inside (omega arith) in
    let long : length (opened_jobs plan is_named) ≡ length plan.parents = length-map-range_with_len (λ item. first_state (is_touched plan is_named item)) 0 (length plan.parents) in
    job_at jobs k within ∙ ap (λ (l : List Bool). get_or l k false) same ∙ sym (job_at (opened_jobs plan is_named) k (omega (arith, long, inside))) ∙ ap is_job at ∙ is_job-first_state (is_touched plan is_named k)

-- the table of one item after the round: the staged one, or the one that was shown and that no input touched
table_put : (plan : PlanShape) (inputs : List Input) (published front item : ℕ) (state : JobState) (staged : Option Shared) (shown : Shared) → published ≤ front → item < length plan.parents
    → is_unfinished state ≡ false → is_job state ≡ is_touched_between plan inputs published front item → shared_table shown ≡ table_after plan (take published inputs) item → IsStaged plan (take front inputs) item state staged
    → shared_table (staged_or staged shown) ≡ table_after plan (take front inputs) item
table_put plan inputs published front item Waiting staged shown before inside finished touched was is = absurd (cc)
table_put plan inputs published front item Out staged shown before inside finished touched was is = absurd (cc)
table_put plan inputs published front item Done None shown before inside finished touched was is = absurd is
table_put plan inputs published front item Done (Some new) shown before inside finished touched was is = is
table_put plan inputs published front item Clean staged shown before inside finished touched was is =
    ap (λ (s : Option Shared). shared_table (staged_or s shown)) is ∙ was ∙ same_table plan inputs published front item before inside (sym touched)

-- the board once a round's tables are shown
pub shown_put : (plan : PlanShape) (inputs : List Input) (board : BoardOf Shared) (r : OpenRound) → IsShown plan (take board.front inputs) board → IsOpen plan board.front (take (round_in r).front inputs) board r
    → IsLeast (is_left (round_in r).jobs) (length (round_in r).jobs) None → IsShown plan (take (round_in r).front inputs) (with_shown board (round_in r).front)
unfolding compilation
shown_put plan inputs board r shows is_open all_done = record { tables = tables; shown = shown; staged = length-none Shared (length board.shown) ∙ shows.shown }
  where
    front : ℕ
    front = (round_in r).front

    same : length board.staged ≡ length board.shown
    same = shows.staged ∙ sym shows.shown

    shown : length (put_over board.staged board.shown) ≡ length plan.names
    shown = length-put_over board.staged board.shown same ∙ shows.shown

    each : (k : ℕ) (table : Shared) → slice_get board.shown k ≡ Some table → shared_table (staged_or (get_or board.staged k None) table) ≡ table_after plan (take (round_in r).front inputs) (0 + k)
    each k table at =
        let within : k < length plan.names = omega (arith, there board.shown k table at, shows.shown) in
        let inside : k < length plan.parents = omega (arith, within, is_open.over.named) in
        let has : k < length (round_in r).jobs = omega (arith, inside, is_open.over.items) in
        let zero_more : k ≡ 0 + k = omega arith in
        table_put plan inputs board.front (round_in r).front k (state_of (round_in r).jobs k) (get_or board.staged k None) table (omega (arith, is_open.above)) inside (all_done k has)
        (touched_at plan (names_leaf (inputs_between inputs board.front (round_in r).front)) (round_in r).jobs k is_open.touched has inside)
        (made_at shared_table (table_after plan (take board.front inputs)) 0 (length plan.names) board.shown k table shows.tables at ∙ ap (table_after plan (take board.front inputs)) (sym zero_more))
        (is_open.staged k within) ∙ ap (table_after plan (take (round_in r).front inputs)) zero_more

    tables : map shared_table (put_over board.staged board.shown) ≡ map (item_table (last_value (take (round_in r).front inputs)) plan) (range_with_len 0 (length plan.names))
    tables = put_made shared_table (table_after plan (take (round_in r).front inputs)) 0 board.staged board.shown same each ∙ ap (λ (m : ℕ). map (table_after plan (take (round_in r).front inputs)) (range_with_len 0 m)) shows.shown

pub publish_kept : (plan : PlanShape) (history next : List Entry) (accepted : ℕ) (rows : Rows) (board next_board : BoardOf Shared) (round : Option OpenRound) (r : OpenRound) (left : Option OpenRound) (party front jobs : ℕ)
    → IsKept plan history accepted rows board round → round ≡ Some r → IsLeast (is_left (round_in r).jobs) (length (round_in r).jobs) None
    → front ≡ (round_in r).front → jobs ≡ job_count (round_in r).jobs → next ≡ history ++ Publish party front jobs ∷ [] → next_board ≡ with_shown board front → left ≡ None
    → IsKept plan next accepted rows next_board left
publish_kept plan history next accepted rows board next_board round r left party front jobs kept is all_done at counted e e_board gone =
    subst (λ (l : Option OpenRound). IsKept plan next accepted rows next_board l) (sym gone)
    (subst (λ (b : BoardOf Shared). IsKept plan next accepted rows b None) (sym e_board)
    (subst (λ (es : List Entry). IsKept plan es accepted rows (with_shown board front) None) (sym e) after))
  where
    is_open : IsOpen plan board.front (take (round_in r).front (inputs_of history)) board r
    is_open = kept.open_round r is

    may : MayPublish plan history front jobs
    may = record {
      later = omega (arith, is_open.above, kept.front, at);
      accepted = omega (arith, front_within plan history board r is_open, at);
      touched =
          counted ∙ job_count-same (round_in r).jobs _ is_open.touched
          ∙ job_count-opened_jobs plan (names_leaf (inputs_between (inputs_of history) board.front (round_in r).front))
          ∙ ap (λ (f : ℕ). touched_between plan (inputs_of history) f (round_in r).front) kept.front ∙ ap (touched_between plan (inputs_of history) (front_of history)) (sym at);
    }

    same : inputs_of (history ++ Publish party front jobs ∷ []) ≡ inputs_of history
    same = inputs_of-publish history party front jobs

    after : IsKept plan (history ++ Publish party front jobs ∷ []) accepted rows (with_shown board front) None
    after = record {
      parents = kept.parents;
      lawful = lawful_more plan history (Publish party front jobs) kept.lawful may;
      count = kept.count ∙ ap (λ sent. length sent) (sym (journal-publish history party front jobs));
      front = sym (front_of-publish history party front jobs);
      items = kept.items;
      values = λ kind leaf period. kept.values kind leaf period ∙ ap (λ (l : List Input). last_value l kind leaf period) (sym same);
      published =
          subst (λ (l : List Input). IsShown plan (take front l) (with_shown board front)) (sym same)
          (subst (λ (n : ℕ). IsShown plan (take n (inputs_of history)) (with_shown board n)) (sym at) (shown_put plan (inputs_of history) board r kept.published is_open all_done));
      open_round = λ other never. absurd (cc);
      nothing_staged = λ none. ap (λ (m : ℕ). replicate m None) kept.published.shown;
    }
