-- A round that begins, and the core with which all begins.
use Rattle.std.proofs.Common.{◌≡◌, ◌∙◌, ap, sym, refl, subst, ℕ, zero, suc, ◌+◌, ◌≤◌, ◌<◌, Bool, true, false, ◌||◌, List, [], ◌∷◌, length, map, take, drop, replicate, get_or, Option, Some, None, arith}
use Rattle.std.proofs.lemmas.Bool.Decides.{nat_tests}
use Rattle.std.specs.Prelude.{All, Err, IfOk, IsFalse, Ok, Result, IsTrue, ◌==◌, ◌≢◌, slice_get}
use Rattle.std.specs.List.{list_any}
use Rattle.std.specs.Option.{option_map}
use Rattle.std.proofs.Math.Path.{fun_ext}
use Rattle.std.proofs.lemmas.List.{length-map, take_all}
use Rattle.std.proofs.Math.Seq.{take-nil}
use Rattle.std.proofs.lemmas.List.Elements.{All-drop, All-head, All-tail, All-take}
use Rattle.std.proofs.lemmas.List.FromFn.{get_or-map-range_with_len}
use Rattle.std.proofs.lemmas.Bool.{cases_lt}
use Rattle.series_tables.specs.Cells.{Rows, cell}
use Rattle.series_tables.specs.Fits.{FitsPlan}
use Rattle.series_tables.specs.Plan.{PlanShape, is_leaf}
use Rattle.series_tables.specs.declared.input.Input.{Input}
use Rattle.series_tables.specs.declared.input.Kind.{Kind}
use Rattle.series_tables.specs.LastValue.{last_value}
use Rattle.dirty_plan.specs.Round.{first_state, has_flag, is_job, job_count, opened_jobs, state_of}
use Rattle.dirty_plan.specs.Touched.{NamesLeaves, inputs_between, is_touched, names_leaf}
use Rattle.dirty_plan.specs.declared.job.JobState.{JobState}
use Rattle.dirty_plan.specs.declared.job.JobState.TheVariants.{Clean, Waiting}
use Rattle.vintage_board.specs.Board.{BoardOf, first_board}
use Rattle.node_compile.specs.Release.{compilation}
use Rattle.node_compile.specs.Table.{Table}
use Rattle.accounts_history.specs.History.{IsLawful, front_of, inputs_of, journal}
use Rattle.accounts_history.specs.Laws.{IsWithinBounds}
use Rattle.accounts_history.specs.Naming.{AreNamed}
use Rattle.accounts_history.specs.declared.entry.Entry.{Entry}
use Rattle.accounts_history.proofs.Histories.{length-inputs_of}
use Rattle.accounts_history.proofs.Lawful.{lawful_none, within_bounds}
use Rattle.round_works.specs.Rounds.{CanOpen, IsOpening, IsRoundOver, Round, opened, round_in}
use Rattle.round_works.specs.Tables.{shared_table}
use Rattle.round_works.specs.declared.round.OpenRound.{OpenRound}
use Rattle.accounts_core.specs.Kept.{AreTouched, IsFirstBoard, IsKept, IsOpen, IsShown, IsStaged, Shared, staged_at}
use Rattle.accounts_core.specs.State.{CoreState, next_round}
use Rattle.accounts_core.specs.Step.{Begins}
use Rattle.accounts_core.specs.declared.replies.Begin.TheVariants.{Opened}
use Rattle.accounts_core.proofs.Handling.{state_of_parts}
use Rattle.accounts_core.proofs.Lists.{length-none, none_at}
use Rattle.accounts_core.proofs.Untouched.{untouched_stay}

-- inputs that fit a plan name leaves
named_leaf : (plan : PlanShape) (inputs : List Input) (leaf : ℕ) → All (FitsPlan plan) inputs → names_leaf inputs leaf ≡ true → IsTrue (is_leaf plan leaf)
named_leaf plan [] leaf fit named = absurd (cc)
named_leaf plan (input ∷ inputs) leaf fit named = by (input.leaf == leaf) refl named (λ rest. named_leaf plan inputs leaf (All-tail (FitsPlan plan) input inputs fit) rest)
  where
    by : (b : Bool) → (input.leaf == leaf) ≡ b → (b || names_leaf inputs leaf) ≡ true → (names_leaf inputs leaf ≡ true → IsTrue (is_leaf plan leaf)) → IsTrue (is_leaf plan leaf)
    by true e h more = let same : input.leaf ≡ leaf = grind (arith, nat_tests) in subst (λ (n : ℕ). IsTrue (is_leaf plan n)) same (All-head (FitsPlan plan) input inputs fit).leaf
    by false e h more = more h

pub flags_name_leaves : (plan : PlanShape) (history : List Entry) (accepted : ℕ) (rows : Rows) (board : BoardOf Shared) (round : Option OpenRound) (flags : List Bool) → IsKept plan history accepted rows board round
    → AreNamed flags (inputs_between (inputs_of history) board.front accepted) → NamesLeaves plan (has_flag flags)
flags_name_leaves plan history accepted rows board round flags kept named item flag =
    named_leaf plan (inputs_between (inputs_of history) board.front accepted) item
    (All-drop (FitsPlan plan) board.front (take accepted (inputs_of history)) (All-take (FitsPlan plan) accepted (inputs_of history) (within_bounds plan history kept.lawful).fit))
    (sym (named item) ∙ flag)

-- all that was accepted
pub take_accepted : (plan : PlanShape) (history : List Entry) (accepted : ℕ) (rows : Rows) (board : BoardOf Shared) (round : Option OpenRound) → IsKept plan history accepted rows board round → take accepted (inputs_of history) ≡ inputs_of history
take_accepted plan history accepted rows board round kept = take_all accepted (inputs_of history) (omega (arith, length-inputs_of history, kept.count))

flags_are : (flags : List Bool) (inputs : List Input) → AreNamed flags inputs → has_flag flags ≡ names_leaf inputs
flags_are flags inputs named = fun_ext (λ leaf. named leaf)

-- with what a round opens
pub opening : (plan : PlanShape) (history : List Entry) (accepted : ℕ) (rows : Rows) (board : BoardOf Shared) (round : Option OpenRound) (flags : List Bool) → IsKept plan history accepted rows board round
    → AreNamed flags (inputs_between (inputs_of history) board.front accepted) → IsOpening plan (inputs_of history) accepted rows (has_flag flags) board.shown
opening plan history accepted rows board round flags kept named = record {
  whole = kept.count ∙ sym (length-inputs_of history);
  fits = bounds.fit;
  values = kept.values;
  clean = λ item inside clean.
      ap (λ (ts : List Table). slice_get ts item) kept.published.tables
      ∙ untouched_stay plan (inputs_of history) board.front accepted item (omega (arith, bounds.accepted, kept.count, kept.front))
      (omega (arith, kept.count, length-inputs_of history)) (omega (arith, inside, kept.parents))
      (subst (λ (f : ℕ → Bool). IsFalse (is_touched plan f item)) (flags_are flags (inputs_between (inputs_of history) board.front accepted) named) clean)
      ∙ ap (λ (inputs : List Input). slice_get (compilation plan inputs) item) (take_accepted plan history accepted rows board round kept);
}
  where
    bounds : IsWithinBounds plan history
    bounds = within_bounds plan history kept.lawful

pub can_open : (plan : PlanShape) (history : List Entry) (accepted : ℕ) (rows : Rows) (board : BoardOf Shared) (round : Option OpenRound) (flags : List Bool) → IsKept plan history accepted rows board round
    → AreNamed flags (inputs_between (inputs_of history) board.front accepted) → CanOpen plan accepted rows (has_flag flags) board.shown
can_open plan history accepted rows board round flags kept named = (inputs_of history, opening plan history accepted rows board round flags kept named)

-- the round that begins
pub begun : (plan : PlanShape) (history : List Entry) (accepted : ℕ) (rows : Rows) (board : BoardOf Shared) (round : Option OpenRound) (flags : List Bool) (r : OpenRound) → IsKept plan history accepted rows board round
    → AreNamed flags (inputs_between (inputs_of history) board.front accepted) → round_in r ≡ opened plan accepted (has_flag flags)
    → round_in r ≡ opened plan (length (journal history)) (names_leaf (inputs_between (inputs_of history) (front_of history) (length (journal history))))
begun plan history accepted rows board round flags r kept named is =
    is ∙ ap (opened plan accepted) (flags_are flags (inputs_between (inputs_of history) board.front accepted) named)
    ∙ ap (λ (n : ℕ). opened plan n (names_leaf (inputs_between (inputs_of history) board.front n))) kept.count
    ∙ ap (λ (n : ℕ). opened plan (length (journal history)) (names_leaf (inputs_between (inputs_of history) n (length (journal history))))) kept.front

-- nothing is staged of an item whose job waits or that has none
staged_none : (plan : PlanShape) (inputs : List Input) (item : ℕ) (touched : Bool) (staged : Option Shared) → staged ≡ None → IsStaged plan inputs item (first_state touched) staged
staged_none plan inputs item true staged none = none
staged_none plan inputs item false staged none = none

state_first : (plan : PlanShape) (is_named : ℕ → Bool) (item : ℕ) → item < length plan.parents → state_of (opened_jobs plan is_named) item ≡ first_state (is_touched plan is_named item)
unfolding opened_jobs
state_first plan is_named item inside = get_or-map-range_with_len (λ k. first_state (is_touched plan is_named k)) 0 (length plan.parents) item item Clean inside (omega arith)

pub begin_kept : (plan : PlanShape) (history : List Entry) (accepted : ℕ) (rows : Rows) (board : BoardOf Shared) (round : Option OpenRound) (flags : List Bool) (r : OpenRound) → IsKept plan history accepted rows board round
    → round ≡ None → accepted ≢ board.front → AreNamed flags (inputs_between (inputs_of history) board.front accepted) → round_in r ≡ opened plan accepted (has_flag flags)
    → IsRoundOver plan (inputs_of history) r → IsKept plan history accepted rows board (Some r)
begin_kept plan history accepted rows board round flags r kept none more named is over = record {
  parents = kept.parents;
  lawful = kept.lawful;
  count = kept.count;
  front = kept.front;
  items = kept.items;
  values = kept.values;
  published = kept.published;
  open_round = λ q same.
      let one : r ≡ q = cc in
      subst (λ (o : OpenRound). IsOpen plan board.front (take (round_in o).front (inputs_of history)) board o) one
      (subst (λ (inputs : List Input). IsOpen plan board.front inputs board r) (sym (ap (λ (n : ℕ). take n (inputs_of history)) front ∙ take_accepted plan history accepted rows board round kept)) is_open);
  nothing_staged = λ never. absurd (cc);
}
  where
    front : (round_in r).front ≡ accepted
    front = ap (λ (o : Round). o.front) is

    jobs : (round_in r).jobs ≡ opened_jobs plan (names_leaf (inputs_between (inputs_of history) board.front accepted))
    jobs = ap (λ (o : Round). o.jobs) is ∙ ap (λ (f : ℕ → Bool). opened_jobs plan f) (flags_are flags (inputs_between (inputs_of history) board.front accepted) named)

    bounds : IsWithinBounds plan history
    bounds = within_bounds plan history kept.lawful

    is_open : IsOpen plan board.front (inputs_of history) board r
    is_open = record {
      over = over;
      above = omega (arith, front, more, bounds.accepted, kept.count, kept.front);
      touched = ap (map is_job) (jobs ∙ ap (λ (inputs : List Input). opened_jobs plan (names_leaf (drop board.front inputs))) (take_accepted plan history accepted rows board round kept));
      staged = λ item inside.
          subst (λ (js : List JobState). IsStaged plan (inputs_of history) item (state_of js item) (staged_at board item)) (sym jobs)
          (subst (λ (s : JobState). IsStaged plan (inputs_of history) item s (staged_at board item))
          (sym (state_first plan (names_leaf (inputs_between (inputs_of history) board.front accepted)) item (omega (arith, inside, kept.parents))))
          (staged_none plan (inputs_of history) item (is_touched plan (names_leaf (inputs_between (inputs_of history) board.front accepted)) item) (staged_at board item)
          (ap (λ (slots : List (Option Shared)). get_or slots item None) (kept.nothing_staged none) ∙ none_at Shared (length plan.names) item)));
    }

-- the core of a plan before anything was accepted
pub new_kept : (plan : PlanShape) (history : List Entry) (accepted : ℕ) (rows : Rows) (board : BoardOf Shared) (round : Option OpenRound) → length plan.parents ≡ length plan.names → history ≡ [] → accepted ≡ 0
    → rows.items ≡ length plan.names → ((kind : Kind) (leaf period : ℕ) → cell rows kind leaf period ≡ None) → IsFirstBoard plan board → round ≡ None → IsKept plan history accepted rows board round
new_kept plan history accepted rows board round parents empty zero_accepted items none first closed = record {
  parents = parents;
  lawful = subst (IsLawful plan) (sym empty) (lawful_none plan);
  count = zero_accepted ∙ ap (λ (h : List Entry). length (journal h)) (sym empty);
  front = first.front ∙ ap front_of (sym empty);
  items = items;
  values = λ kind leaf period. none kind leaf period ∙ ap (λ (h : List Entry). last_value (inputs_of h) kind leaf period) (sym empty);
  published = subst (λ (h : List Entry). IsShown plan (take board.front (inputs_of h)) board) (sym empty) (subst (λ (inputs : List Input). IsShown plan inputs board) (sym (take-nil board.front)) first.shown);
  open_round = λ q never. absurd (cc);
  nothing_staged = λ _. first.nothing_staged;
}

-- flags for what was named since the board's front
pub named_from : (flags same : List Bool) (given history : List Entry) (front shown accepted : ℕ) → AreNamed flags (inputs_between (inputs_of given) front accepted) → same ≡ flags → given ≡ history → front ≡ shown
    → AreNamed same (inputs_between (inputs_of history) shown accepted)
named_from flags same given history front shown accepted named one two three =
    subst (λ (n : ℕ). AreNamed same (inputs_between (inputs_of history) n accepted)) three
    (subst (λ (h : List Entry). AreNamed same (inputs_between (inputs_of h) front accepted)) two
    (subst (λ (f : List Bool). AreNamed f (inputs_between (inputs_of given) front accepted)) (sym one) named))

-- a round begins
pub begin_step : (plan : PlanShape) (history next : List Entry) (accepted : ℕ) (rows : Rows) (board : BoardOf Shared) (round : Option OpenRound) (flags : List Bool) (r : OpenRound) (jobs : ℕ) → IsKept plan history accepted rows board round
    → round ≡ None → accepted ≢ board.front → AreNamed flags (inputs_between (inputs_of history) board.front accepted) → round_in r ≡ opened plan accepted (has_flag flags)
    → jobs ≡ job_count (round_in r).jobs → next ≡ history → Begins (state_of_parts plan history round) (Opened accepted jobs) (state_of_parts plan next (Some r))
begin_step plan history next accepted rows board round flags r jobs kept none more named is counted same = (
  ap (option_map round_in) none,
  (λ e. more (kept.count ∙ e ∙ sym kept.front)),
  kept.count,
  counted ∙ ap (λ (o : Round). job_count o.jobs) begins,
  ap (λ (h : List Entry). state_of_parts plan h (Some r)) same ∙ ap (λ (o : Round). let state : CoreState = record { plan = plan; history = history; round = Some o } in state) begins,
)
  where
    begins : round_in r ≡ next_round (state_of_parts plan history round)
    begins = begun plan history accepted rows board round flags r kept named is

-- the board with which a core begins
pub first_board_is : {E : Type 0} (plan : PlanShape) (nodes : List Shared) (reply : Result (BoardOf Shared) E) → map shared_table nodes ≡ compilation plan [] → length (map shared_table nodes) ≡ length plan.names
    → IfOk reply (λ board. board ≡ first_board nodes) → IfOk reply (IsFirstBoard plan)
first_board_is plan nodes (Err error) tables all is = is
first_board_is plan nodes (Ok board) tables all is =
    let long : length nodes ≡ length plan.names = sym (length-map nodes shared_table) ∙ all in
    subst (IsFirstBoard plan) (sym is) (record {
      front = refl;
      shown = record { tables = tables; shown = long; staged = length-none Shared (length nodes) ∙ long };
      nothing_staged = ap (λ (n : ℕ). replicate n None) long;
    })
