-- The sum of an item's children that have no job, from the last item to the item's first child.
use Rattle.std.proofs.Common.{◌≡◌, ◌∙◌, ap, sym, refl, subst, inl, inr, ℕ, zero, suc, ◌+◌, ◌-◌, ◌≤◌, ◌<◌, Bool, true, false, cond, ◌&&◌, List, [], ◌∷◌, length, map, drop, get_or, Option, Some, None, arith}
use Rattle.std.specs.Prelude.{slice_get, not}
use Rattle.std.specs.Arc.{arc_value}
use Rattle.std.specs.List.{range_with_len}
use Rattle.std.specs.Option.{option_map}
use Rattle.std.specs.declared.alloc.Global.{Global}
use Rattle.std.specs.declared.sync.Arc.{Arc}
use Rattle.std.proofs.Math.Seq.{drop-cons}
use Rattle.std.proofs.lemmas.List.{drop_all}
use Rattle.std.proofs.lemmas.Option.{slice_get-map}
use Rattle.aggregate_tree.specs.Sum.{Sum, empty_sum, with_child}
use Rattle.aggregate_tree.specs.Tallies.{IsSumOf, with_cells}
use Rattle.aggregate_tree.proofs.Places.{sum_more, length-with_cells}
use Rattle.price_base.specs.declared.Cell.{Cell}
use Rattle.series_tables.specs.Plan.{PlanShape, is_parent}
use Rattle.series_tables.specs.Tree.{leaves_under}
use Rattle.series_tables.specs.declared.input.Input.{Input}
use Rattle.node_compile.specs.Items.{IsKnownItem}
use Rattle.node_compile.specs.Table.{Table, table_in}
use Rattle.node_compile.specs.declared.table.NodeTable.{NodeTable}
use Rattle.dirty_plan.specs.Round.{is_job, is_unfinished, state_of}
use Rattle.dirty_plan.specs.declared.job.JobState.{JobState}
use Rattle.dirty_plan.specs.declared.job.JobState.TheVariants.{Clean, Waiting, Out, Done}
use Rattle.round_works.specs.Making.{settled, settled_from, values_after, volumes_after, IsSumFrom}
use Rattle.round_works.specs.Opening.{ShowsOthers, is_other_child}
use Rattle.round_works.specs.Tables.{shared_table}
use Rattle.round_works.specs.Works.{table_after}
use Rattle.round_works.proofs.Bounds.{CanTake, can_take}
use Rattle.node_compile.proofs.Figures.{items_sized}

-- the settled children from an item on: the item itself where it is one, and those behind it
settled_at : {X : Type 0} (plan : PlanShape) (jobs : List JobState) (f : ℕ → X) (item first : ℕ) → first < length plan.parents → length jobs ≡ length plan.parents →
    settled_from plan jobs f item first
    ≡ cond (is_parent item (get_or plan.parents first None) && not (is_unfinished (state_of jobs first))) (f first ∷ settled_from plan jobs f item (suc first)) (settled_from plan jobs f item (suc first))
settled_at {X} plan jobs f item first inside same =
    ap (λ (ps : List (Option ℕ)). settled item ps (drop first jobs) xs) (drop-cons plan.parents first None inside)
    ∙ ap (λ (js : List JobState). settled item (get_or plan.parents first None ∷ drop (suc first) plan.parents) js xs) (drop-cons jobs first Clean (omega (arith, same, inside)))
    ∙ ap (λ (l : List X). settled item (get_or plan.parents first None ∷ drop (suc first) plan.parents) (get_or jobs first Clean ∷ drop (suc first) jobs) l) range
  where
    xs : List X
    xs = map f (range_with_len first (length plan.parents - first))

    range : xs ≡ f first ∷ map f (range_with_len (suc first) (length plan.parents - suc first))
    range =
        ap (λ (n : ℕ). map f (range_with_len first n)) (let more : length plan.parents - first ≡ suc (length plan.parents - suc first) = omega arith in more)
        ∙ ap (λ (n : ℕ). f first ∷ map f (range_with_len n (length plan.parents - suc first))) (let next : first + 1 ≡ suc first = omega arith in next)

-- a job that waits, where there is one, is an unfinished one
job_waits : (state : JobState) → (is_job state ≡ true → state ≡ Waiting) → is_unfinished state ≡ is_job state
job_waits Clean waits = refl
job_waits Waiting waits = refl
job_waits Out waits = refl
job_waits Done waits = absurd (let never : Done ≡ Waiting = waits refl in cc)

-- without a job the state is this one
clean_state : (state : JobState) → is_job state ≡ false → state ≡ Clean
clean_state Clean none = refl
clean_state Waiting none = absurd (cc)
clean_state Out none = absurd (cc)
clean_state Done none = absurd (cc)

-- so an item without a job that is a child is a settled one
settled_other_child : (plan : PlanShape) (inputs : List Input) (jobs : List JobState) (shown : List (Arc NodeTable Global)) (item child : ℕ) → ShowsOthers plan inputs jobs shown →
    (is_parent item (get_or plan.parents child None) && not (is_unfinished (state_of jobs child))) ≡ is_other_child plan jobs item child
settled_other_child plan inputs jobs shown item child shows =
    ap (λ (b : Bool). is_parent item (get_or plan.parents child None) && not b) (job_waits (state_of jobs child) (shows.waiting child))

-- where both hold, the second test fails
both_true : (a b : Bool) → (a && not b) ≡ true → b ≡ false
both_true true false e = refl
both_true true true e = absurd (cc)
both_true false b e = absurd (cc)

-- what is shown of it is its table after the inputs
shown_table : (plan : PlanShape) (inputs : List Input) (jobs : List JobState) (shown : List (Arc NodeTable Global)) (item child : ℕ) (node : Arc NodeTable Global) → ShowsOthers plan inputs jobs shown →
    child < length plan.names → is_other_child plan jobs item child ≡ true → slice_get shown child ≡ Some node → table_in (arc_value node) ≡ table_after plan inputs child
shown_table plan inputs jobs shown item child node shows inside other there =
    let clean : state_of jobs child ≡ Clean = clean_state (state_of jobs child) (both_true (is_parent item (get_or plan.parents child None)) (is_job (state_of jobs child)) other) in
    let mapped : slice_get (map shared_table shown) child ≡ Some (shared_table node) = slice_get-map shared_table shown child ∙ ap (option_map shared_table) there in
    let both : Some (shared_table node) ≡ Some (table_after plan inputs child) = sym mapped ∙ shows.others child inside clean in
    cc

-- behind the last item nothing is summed
pub sum_none : (plan : PlanShape) (inputs : List Input) (jobs : List JobState) (item first : ℕ) (sum : Sum) → length plan.parents ≤ first → sum ≡ empty_sum 256 → IsSumOf [] sum.value → IsSumOf [] sum.prev →
    length sum.value ≡ 256 → length sum.prev ≡ 256 → IsSumFrom plan inputs jobs item first sum
sum_none plan inputs jobs item first sum past is value prev room room_prev = record {
  room = room;
  room_prev = room_prev;
  count = ap (λ (s : Sum). s.children) is ∙ sym (ap length (nothing (values_after plan inputs)));
  value = subst (λ (l : List (List Cell)). IsSumOf l sum.value) (sym (nothing (values_after plan inputs))) value;
  prev = subst (λ (l : List (List Cell)). IsSumOf l sum.prev) (sym (nothing (volumes_after plan inputs))) prev;
}
  where
    nothing : (f : ℕ → List Cell) → settled_from plan jobs f item first ≡ []
    nothing f = ap (λ (ps : List (Option ℕ)). settled item ps (drop first jobs) (map f (range_with_len first (length plan.parents - first)))) (drop_all first plan.parents past)

-- one item more, which is a child without a job and whose flows are added
sum_with : (plan : PlanShape) (inputs : List Input) (jobs : List JobState) (shown : List (Arc NodeTable Global)) (item first : ℕ) (sum : Sum) → ShowsOthers plan inputs jobs shown →
    first < length plan.parents → is_other_child plan jobs item first ≡ true → IsSumFrom plan inputs jobs item (suc first) sum →
    IsSumFrom plan inputs jobs item first (with_child (values_after plan inputs first) (volumes_after plan inputs first) sum)
sum_with plan inputs jobs shown item first sum shows inside other from = record {
  room = length-with_cells (values_after plan inputs first) sum.value ∙ from.room;
  room_prev = length-with_cells (volumes_after plan inputs first) sum.prev ∙ from.room_prev;
  count = (let more : sum.children + 1 ≡ suc (length (settled_from plan jobs (values_after plan inputs) item (suc first))) = omega (arith, from.count) in more) ∙ sym (ap length (one_more (values_after plan inputs)));
  value = subst (λ (l : List (List Cell)). IsSumOf l (with_cells (values_after plan inputs first) sum.value)) (sym (one_more (values_after plan inputs)))
      (sum_more (values_after plan inputs first) (settled_from plan jobs (values_after plan inputs) item (suc first)) sum.value (omega (arith, known.value.few, from.room)) from.value);
  prev = subst (λ (l : List (List Cell)). IsSumOf l (with_cells (volumes_after plan inputs first) sum.prev)) (sym (one_more (volumes_after plan inputs)))
      (sum_more (volumes_after plan inputs first) (settled_from plan jobs (volumes_after plan inputs) item (suc first)) sum.prev (omega (arith, known.prev.few, from.room_prev)) from.prev);
}
  where
    known : IsKnownItem (length (leaves_under plan first)) (table_after plan inputs first)
    known = items_sized plan inputs first shows.fits inside

    one_more : (f : ℕ → List Cell) → settled_from plan jobs f item first ≡ f first ∷ settled_from plan jobs f item (suc first)
    one_more f =
        settled_at plan jobs f item first inside shows.items
        ∙ ap (λ (b : Bool). cond b (f first ∷ settled_from plan jobs f item (suc first)) (settled_from plan jobs f item (suc first))) (settled_other_child plan inputs jobs shown item first shows ∙ other)

-- one item more, which is none
pub sum_past : (plan : PlanShape) (inputs : List Input) (jobs : List JobState) (shown : List (Arc NodeTable Global)) (item first : ℕ) (sum : Sum) → ShowsOthers plan inputs jobs shown →
    first < length plan.parents → is_other_child plan jobs item first ≡ false → IsSumFrom plan inputs jobs item (suc first) sum →
    IsSumFrom plan inputs jobs item first sum
sum_past plan inputs jobs shown item first sum shows inside none from = record {
  room = from.room;
  room_prev = from.room_prev;
  count = from.count ∙ sym (ap length (as_before (values_after plan inputs)));
  value = subst (λ (l : List (List Cell)). IsSumOf l sum.value) (sym (as_before (values_after plan inputs))) from.value;
  prev = subst (λ (l : List (List Cell)). IsSumOf l sum.prev) (sym (as_before (volumes_after plan inputs))) from.prev;
}
  where
    as_before : (f : ℕ → List Cell) → settled_from plan jobs f item first ≡ settled_from plan jobs f item (suc first)
    as_before f =
        settled_at plan jobs f item first inside shows.items
        ∙ ap (λ (b : Bool). cond b (f first ∷ settled_from plan jobs f item (suc first)) (settled_from plan jobs f item (suc first))) (settled_other_child plan inputs jobs shown item first shows ∙ none)

-- a turn of the loop at a child without a job, whose table is lent
pub record IsTurn (plan : PlanShape) (jobs : List JobState) (shown : List (Arc NodeTable Global)) (item child next : ℕ) (lent : NodeTable) : Type 0 where
  pub node : Arc NodeTable Global
  pub behind : item < child
  pub inside : child < length plan.parents
  pub named : child < length plan.names
  pub follows : suc child ≡ next
  pub other : is_other_child plan jobs item child ≡ true
  pub there : slice_get shown child ≡ Some node
  pub lends : lent ≡ arc_value node

-- the lent table is the child's after the inputs
lent_table : (plan : PlanShape) (inputs : List Input) (jobs : List JobState) (shown : List (Arc NodeTable Global)) (item child next : ℕ) (lent : NodeTable) → ShowsOthers plan inputs jobs shown →
    IsTurn plan jobs shown item child next lent → table_in lent ≡ table_after plan inputs child
lent_table plan inputs jobs shown item child next lent shows turn =
    ap table_in turn.lends ∙ shown_table plan inputs jobs shown item child turn.node shows turn.named turn.other turn.there

-- so the sum with its flows is the sum from the child on
sum_with_turn : (plan : PlanShape) (inputs : List Input) (jobs : List JobState) (shown : List (Arc NodeTable Global)) (item child next : ℕ) (lent : NodeTable) (sum : Sum) → ShowsOthers plan inputs jobs shown →
    IsTurn plan jobs shown item child next lent → IsSumFrom plan inputs jobs item next sum → IsSumFrom plan inputs jobs item child (with_child (values_after plan inputs child) (volumes_after plan inputs child) sum)
sum_with_turn plan inputs jobs shown item child next lent sum shows turn from =
    sum_with plan inputs jobs shown item child sum shows turn.inside turn.other (subst (λ (n : ℕ). IsSumFrom plan inputs jobs item n sum) (sym turn.follows) from)

-- the sum has the child's flows after it
pub turn_sums : (plan : PlanShape) (inputs : List Input) (jobs : List JobState) (shown : List (Arc NodeTable Global)) (item child next : ℕ) (lent : NodeTable) (sum new : Sum) → ShowsOthers plan inputs jobs shown →
    IsTurn plan jobs shown item child next lent → IsSumFrom plan inputs jobs item next sum → new ≡ with_child lent.flows.value lent.flows.prev sum → IsSumFrom plan inputs jobs item child new
turn_sums plan inputs jobs shown item child next lent sum new shows turn from is =
    subst (λ (s : Sum). IsSumFrom plan inputs jobs item child s)
    (sym (is ∙ ap (λ (t : Table). with_child t.value t.prev sum) (lent_table plan inputs jobs shown item child next lent shows turn)))
    (sum_with_turn plan inputs jobs shown item child next lent sum shows turn from)

-- and could take them
pub turn_takes : (plan : PlanShape) (inputs : List Input) (jobs : List JobState) (shown : List (Arc NodeTable Global)) (item child next : ℕ) (lent : NodeTable) (sum : Sum) → length plan.parents ≤ 512 → ShowsOthers plan inputs jobs shown →
    IsTurn plan jobs shown item child next lent → IsSumFrom plan inputs jobs item next sum → CanTake lent.flows.value lent.flows.prev sum
turn_takes plan inputs jobs shown item child next lent sum few shows turn from =
    subst (λ (t : Table). CanTake t.value t.prev sum) (sym (lent_table plan inputs jobs shown item child next lent shows turn))
    (can_take plan inputs jobs item child child sum turn.behind turn.inside few shows.fits from.room (sum_with_turn plan inputs jobs shown item child next lent sum shows turn from))
