-- What holds of a round when it opens.
use Rattle.std.proofs.Common.{◌≡◌, ◌∙◌, ap, sym, refl, subst, inl, inr, ℕ, zero, suc, ◌+◌, ◌-◌, ◌/◌, ◌≤◌, ◌<◌, ℤ, pos, unsigned_abs, Bool, true, false, ◌||◌, List, [], ◌∷◌, ◌++◌, length, map, drop, get_or, Option, Some, None, arith}
use Rattle.std.specs.Prelude.{slice_get}
use Rattle.std.specs.List.{list_any, range_with_len}
use Rattle.std.specs.Option.{option_map}
use Rattle.std.specs.declared.alloc.Global.{Global}
use Rattle.std.specs.declared.sync.Arc.{Arc}
use Rattle.std.proofs.Math.Path.{fun_ext}
use Rattle.std.proofs.Math.ListN.{get_or-append}
use Rattle.std.proofs.lemmas.Bool.{cases_eq, cases_lt}
use Rattle.std.proofs.lemmas.List.{drop-map, drop_all, get_or_past, get_or_push, length-map}
use Rattle.std.proofs.lemmas.List.FromFn.{get_or-map-range_with_len, length-map-range_with_len, length-range_with_len}
use Rattle.series_tables.specs.Cells.{Rows, cell, cells_from, IsInputOf}
use Rattle.series_tables.specs.LastValue.{run_of, last_value}
use Rattle.series_tables.specs.Plan.{PlanShape, is_leaf}
use Rattle.series_tables.specs.Tree.{of_children, leaves_from, leaves_under}
use Rattle.series_tables.specs.declared.input.Input.{Input}
use Rattle.series_tables.specs.declared.input.Kind.{Kind}
use Rattle.series_tables.specs.declared.input.Kind.TheVariants.{Indicator, Benchmark, Price}
use Rattle.series_tables.proofs.Leaves.{leaves_count, of_children-map}
use Rattle.node_compile.specs.Release.{compilation, item_table}
use Rattle.node_compile.specs.Table.{Table}
use Rattle.node_compile.specs.declared.table.NodeTable.{NodeTable}
use Rattle.dirty_plan.specs.Round.{RoundShape, first_state, has_touched_child, has_unfinished_child, is_job, is_unfinished, opened_jobs, opened_round, state_of}
use Rattle.dirty_plan.specs.Touched.{NamesLeaves, is_touched, items_of}
use Rattle.dirty_plan.specs.declared.job.JobState.{JobState}
use Rattle.dirty_plan.specs.declared.job.JobState.TheVariants.{Clean, Waiting, Out, Done}
use Rattle.dirty_plan.proofs.Marks.{touched_here}
use Rattle.round_works.specs.Making.{AreParts, AreWorks, IsPartWork, IsWholeWork, work_at}
use Rattle.round_works.specs.Opening.{AreFirstWorks, IsBeginning, IsOnePerItem}
use Rattle.round_works.specs.Rounds.{IsOpening}
use Rattle.round_works.specs.Tables.{shared_table}
use Rattle.round_works.specs.Works.{ItemWork, leaf_work, table_after, work_after, work_of_leaf}
use Rattle.round_works.specs.declared.work.Work.{Work}
use Rattle.round_works.proofs.States.{within_jobs}
use Rattle.round_works.proofs.Works.{get_made, part_whole}

-- numbers that are not negative are their sizes
sizes : (indicators : List ℕ) → map unsigned_abs (map (λ n. pos n) indicators) ≡ indicators
sizes [] = refl
sizes (i ∷ indicators) = ap (λ (rest : List ℕ). i ∷ rest) (sizes indicators)

-- the same of prices or none
price_sizes : (prices : List (Option ℕ)) → map (option_map unsigned_abs) (map (option_map (λ n. pos n)) prices) ≡ prices
price_sizes [] = refl
price_sizes (None ∷ prices) = ap (λ (rest : List (Option ℕ)). None ∷ rest) (price_sizes prices)
price_sizes (Some price ∷ prices) = ap (λ (rest : List (Option ℕ)). Some price ∷ rest) (price_sizes prices)

-- what a leaf is compiled from is its work
input_work : (value_at : Kind → ℕ → Option ℤ) (indicators : List ℕ) (prices : List (Option ℕ)) (benchmarks : List (Option ℤ)) → IsInputOf value_at indicators prices benchmarks →
    leaf_work indicators prices benchmarks ≡ work_of_leaf value_at
input_work value_at indicators prices benchmarks input =
    ap (λ (is : List ℕ). leaf_work is prices benchmarks) (sym (sizes indicators) ∙ ap (map unsigned_abs) input.run)
    ∙ ap (λ (ps : List (Option ℕ)). leaf_work (map unsigned_abs (run_of (value_at Indicator))) ps benchmarks)
    (sym (price_sizes prices) ∙ ap (map (option_map unsigned_abs)) (input.priced ∙ ap (λ (n : ℕ). cells_from (value_at Price) n 0) count))
    ∙ ap (λ (bs : List (Option ℤ)). leaf_work (map unsigned_abs (run_of (value_at Indicator))) (map (option_map unsigned_abs) (cells_from (value_at Price) (length (run_of (value_at Indicator))) 0)) bs)
    (input.benchmarked ∙ ap (λ (n : ℕ). cells_from (value_at Benchmark) (n / 4) 0) count)
  where
    count : length indicators ≡ length (run_of (value_at Indicator))
    count = sym (length-map indicators (λ n. pos n)) ∙ ap (λ (run : List ℤ). length run) input.run

-- so the input of a leaf, read from tables that have the last values, is the leaf's work after the inputs
pub first_leaf : (plan : PlanShape) (inputs : List Input) (rows : Rows) (item : ℕ) (indicators : List ℕ) (prices : List (Option ℕ)) (benchmarks : List (Option ℤ)) → is_leaf plan item ≡ true →
    ((kind : Kind) (leaf period : ℕ) → cell rows kind leaf period ≡ last_value inputs kind leaf period) → IsInputOf (λ kind period. cell rows kind item period) indicators prices benchmarks →
    leaf_work indicators prices benchmarks ≡ work_after plan inputs item
first_leaf plan inputs rows item indicators prices benchmarks leaf values input =
    input_work (λ kind period. cell rows kind item period) indicators prices benchmarks input
    ∙ ap work_of_leaf (fun_ext (λ kind. fun_ext (λ period. values kind item period)))
    ∙ (let own : work_after plan inputs item ≡ work_of_leaf (λ kind period. last_value inputs kind item period) = rw leaf refl in sym own)

-- one work more
pub works_more : (P : ℕ → Option Work → Type 0) (works new : List (Option Work)) (k : ℕ) (slot : Option Work) → length works ≡ k → new ≡ works ++ slot ∷ [] →
    ((item : ℕ) → item < k → P item (work_at works item)) → P k slot → (item : ℕ) → item < k + 1 → P item (work_at new item)
works_more P works new k slot long is before here item below = elim (cases_eq item k) [
  | inl same ↦
      subst (λ (i : ℕ). P i (work_at new i)) (sym same)
      (subst (P k) (sym (ap (λ (l : List (Option Work)). work_at l k) is ∙ get_or_push works slot None k long)) here)
  | inr other ↦
      subst (P item) (sym (ap (λ (l : List (Option Work)). work_at l item) is ∙ get_or-append works (slot ∷ []) None item (omega arith))) (before item (omega arith))
]

-- the state of an item's job when a round opens
state_opened : (plan : PlanShape) (is_named : ℕ → Bool) (item : ℕ) → item < length plan.parents → state_of (opened_jobs plan is_named) item ≡ first_state (is_touched plan is_named item)
unfolding opened_jobs
state_opened plan is_named item inside = get_or-map-range_with_len (λ i. first_state (is_touched plan is_named i)) 0 (length plan.parents) item item Clean inside (omega arith)

-- there is a job or none for each item
pub count_opened : (plan : PlanShape) (is_named : ℕ → Bool) → length (opened_jobs plan is_named) ≡ length plan.parents
unfolding opened_jobs
count_opened plan is_named = length-map-range_with_len (λ i. first_state (is_touched plan is_named i)) 0 (length plan.parents)

-- past the items there is none
state_past : (plan : PlanShape) (is_named : ℕ → Bool) (item : ℕ) → length plan.parents ≤ item → state_of (opened_jobs plan is_named) item ≡ Clean
state_past plan is_named item past = get_or_past (opened_jobs plan is_named) item Clean (omega (arith, past, count_opened plan is_named))

-- it waits or isn't there
opened_cases : (plan : PlanShape) (is_named : ℕ → Bool) (item : ℕ) → is_job (state_of (opened_jobs plan is_named) item) ≡ true → state_of (opened_jobs plan is_named) item ≡ Waiting
opened_cases plan is_named item job = elim (cases_lt item (length plan.parents)) [
  | inl inside ↦ let e = state_opened plan is_named item inside in e ∙ by (is_touched plan is_named item) (sym (ap is_job e) ∙ job)
  | inr past ↦ absurd (let never : false ≡ true = sym (ap is_job (state_past plan is_named item past)) ∙ job in cc)
]
  where
    by : (b : Bool) → is_job (first_state b) ≡ true → first_state b ≡ Waiting
    by true e = refl
    by false e = absurd (let never : false ≡ true = e in cc)

-- an item without a job isn't touched
untouched : (plan : PlanShape) (is_named : ℕ → Bool) (item : ℕ) → state_of (opened_jobs plan is_named) item ≡ Clean → is_touched plan is_named item ≡ false
untouched plan is_named item clean = elim (cases_lt item (length plan.parents)) [
  | inl inside ↦ by (is_touched plan is_named item) (sym (state_opened plan is_named item inside) ∙ clean)
  | inr past ↦ ap (list_any is_named) (get_or_past (leaves_from 0 plan.parents) item [] (omega (arith, past, leaves_count 0 plan.parents)))
]
  where
    by : (b : Bool) → first_state b ≡ Clean → b ≡ false
    by false e = refl
    by true e = absurd (let never : Waiting ≡ Clean = e in cc)

-- an item has an unfinished child where a child of it is touched
unfinished_touched : (plan : PlanShape) (is_named : ℕ → Bool) (item : ℕ) → has_unfinished_child plan.parents (opened_jobs plan is_named) item ≡ has_touched_child plan is_named item
unfolding opened_jobs
unfinished_touched plan is_named item =
    ap (λ (js : List JobState). list_any is_unfinished (of_children item (drop (suc item) plan.parents) js)) (drop-map state (suc item) (items_of plan))
    ∙ ap (list_any is_unfinished) (of_children-map state item (drop (suc item) plan.parents) (drop (suc item) (items_of plan)))
    ∙ any_state (of_children item (drop (suc item) plan.parents) (drop (suc item) (items_of plan)))
  where
    state : ℕ → JobState
    state i = first_state (is_touched plan is_named i)

    of_first : (b : Bool) → is_unfinished (first_state b) ≡ b
    of_first true = refl
    of_first false = refl

    any_state : (items : List ℕ) → list_any is_unfinished (map state items) ≡ list_any (is_touched plan is_named) items
    any_state [] = refl
    any_state (i ∷ items) = ap (λ (b : Bool). b || list_any is_unfinished (map state items)) (of_first (is_touched plan is_named i)) ∙ ap (λ (b : Bool). is_touched plan is_named i || b) (any_state items)

-- such an item waits
opened_waits : (plan : PlanShape) (is_named : ℕ → Bool) (item : ℕ) → NamesLeaves plan is_named → has_unfinished_child plan.parents (opened_jobs plan is_named) item ≡ true → state_of (opened_jobs plan is_named) item ≡ Waiting
opened_waits plan is_named item leaves some = elim (cases_lt item (length plan.parents)) [
  | inl inside ↦
      state_opened plan is_named item inside
      ∙ ap first_state (touched_here plan is_named item leaves inside ∙ ap (λ (b : Bool). is_named item || b) (sym (unfinished_touched plan is_named item) ∙ some) ∙ or_true (is_named item))
  | inr past ↦ absurd (let none : has_unfinished_child plan.parents (opened_jobs plan is_named) item ≡ false = ap (λ (ps : List (Option ℕ)). list_any is_unfinished (of_children item ps (drop (suc item) (opened_jobs plan is_named)))) (drop_all (suc item) plan.parents (omega arith)) in
      let never : false ≡ true = sym none ∙ some in cc)
]
  where
    or_true : (b : Bool) → (b || true) ≡ true
    or_true true = refl
    or_true false = refl

-- what opens a round is that from which its works begin
pub opening_begins : (plan : PlanShape) (inputs : List Input) (front : ℕ) (rows : Rows) (is_named : ℕ → Bool) (shown : List (Arc NodeTable Global)) (round : RoundShape) →
    IsOpening plan inputs front rows is_named shown → round ≡ opened_round plan is_named → IsBeginning plan inputs rows round.jobs shown
unfolding compilation
opening_begins plan inputs front rows is_named shown round opening is =
    subst (λ (jobs : List JobState). IsBeginning plan inputs rows jobs shown) (sym (ap (λ (r : RoundShape). r.jobs) is)) (record {
      values = opening.values;
      shows = record {
        fits = opening.fits;
        items = count_opened plan is_named;
        waiting = opened_cases plan is_named;
        others = λ item inside clean. opening.clean item inside (untouched plan is_named item clean) ∙ compiled item inside;
      };
    })
  where
    compiled : (item : ℕ) → item < length plan.names → slice_get (compilation plan inputs) item ≡ Some (table_after plan inputs item)
    compiled item inside = get_made (item_table (last_value inputs) plan) 0 (length plan.names) item inside ∙ ap (λ (n : ℕ). Some (table_after plan inputs n)) (let none : 0 + item ≡ item = omega arith in none)

-- the parts of the round that opens
pub opened_parts : (plan : PlanShape) (inputs : List Input) (front : ℕ) (rows : Rows) (is_named : ℕ → Bool) (shown : List (Arc NodeTable Global)) (round : RoundShape) (kept ready : List (Option Work)) →
    (count : ℕ) → IsOnePerItem plan count → NamesLeaves plan is_named → IsOpening plan inputs front rows is_named shown → round ≡ opened_round plan is_named →
    AreFirstWorks plan inputs round.jobs kept → AreFirstWorks plan inputs round.jobs ready → AreParts plan inputs front round kept ready
opened_parts plan inputs front rows is_named shown round kept ready count each leaves opening is first_kept first_ready =
    subst (λ (r : RoundShape). AreParts plan inputs front r kept ready) (sym is) (record {
      whole = opening.whole;
      fits = opening.fits;
      few = omega (arith, each.parents, each.few);
      named = sym each.parents ∙ each.names;
      parents = refl;
      items = count_opened plan is_named;
      works = record {
        waits = λ item some. opened_waits plan is_named item leaves some;
        in_making = λ item some. (of_kept item (opened_waits plan is_named item leaves some), of_ready item (opened_waits plan is_named item leaves some));
        waiting = λ item waits none. (whole item waits none kept of_kept, whole item waits none ready of_ready);
        out = λ item is_out. absurd (let waits : state_of jobs item ≡ Waiting = opened_cases plan is_named item (ap is_job is_out) in let never : Waiting ≡ Out = sym waits ∙ is_out in cc);
      };
    })
  where
    jobs : List JobState
    jobs = opened_jobs plan is_named

    of_kept : AreFirstWorks plan inputs (opened_jobs plan is_named) kept
    of_kept = subst (λ (js : List JobState). AreFirstWorks plan inputs js kept) (ap (λ (r : RoundShape). r.jobs) is) first_kept

    of_ready : AreFirstWorks plan inputs (opened_jobs plan is_named) ready
    of_ready = subst (λ (js : List JobState). AreFirstWorks plan inputs js ready) (ap (λ (r : RoundShape). r.jobs) is) first_ready

    whole : (item : ℕ) → state_of (opened_jobs plan is_named) item ≡ Waiting → has_unfinished_child plan.parents (opened_jobs plan is_named) item ≡ false →
        (works : List (Option Work)) → AreFirstWorks plan inputs (opened_jobs plan is_named) works → IsWholeWork plan inputs item (work_at works item)
    whole item waits none works first =
        part_whole plan inputs (opened_jobs plan is_named) item (work_at works item) (count_opened plan is_named)
        (omega (arith, within_jobs (opened_jobs plan is_named) item Waiting waits refl, count_opened plan is_named)) none (first item waits)

-- there are as many works as jobs
pub all_opened : (plan : PlanShape) (is_named : ℕ → Bool) (round : RoundShape) (works : List (Option Work)) → round ≡ opened_round plan is_named → IsOnePerItem plan (length works) → length works ≡ length round.jobs
all_opened plan is_named round works is each = each.parents ∙ sym (count_opened plan is_named) ∙ sym (ap (λ (r : RoundShape). length r.jobs) is)
