-- What holds of the parts of a round once a call changed them.
use Rattle.std.proofs.Common.{◌≡◌, ◌∙◌, ap, sym, refl, subst, inl, inr, ℕ, zero, suc, ◌+◌, ◌-◌, ◌≤◌, ◌<◌, Bool, true, false, List, [], ◌∷◌, ◌++◌, length, take, drop, get_or, Option, Some, None, arith, append-nil}
use Rattle.std.specs.Prelude.{slice_set, IfSome, ℤ}
use Rattle.std.specs.List.{All}
use Rattle.std.proofs.lemmas.Bool.Decides.{nat_tests}
use Rattle.std.proofs.lemmas.List.{drop_all, take_all}
use Rattle.std.proofs.Math.ListN.{length-set}
use Rattle.price_base.specs.declared.Cell.{Cell}
use Rattle.series_tables.specs.Fits.{FitsPlan}
use Rattle.series_tables.specs.LastValue.{last_value}
use Rattle.series_tables.specs.Plan.{PlanShape, is_leaf, is_parent}
use Rattle.series_tables.specs.declared.input.Input.{Input}
use Rattle.series_tables.specs.declared.input.Kind.{Kind}
use Rattle.node_compile.specs.Release.{item_table}
use Rattle.node_compile.specs.Table.{Table}
use Rattle.dirty_plan.specs.Round.{RoundShape, has_unfinished_child, is_ready, is_unfinished, state_of, with_state, IsLeast}
use Rattle.dirty_plan.specs.declared.job.JobState.{JobState}
use Rattle.dirty_plan.specs.declared.job.JobState.TheVariants.{Clean, Waiting, Out, Done}
use Rattle.round_works.specs.Adding.{added_to, with_flows, CanAdd, CanAddTo}
use Rattle.round_works.specs.Jobs.{ItemJob, job_of, job_after, job_made}
use Rattle.round_works.specs.Making.{AreParts, AreWorks, IsPartWork, IsWholeWork, values_after, volumes_after, work_at}
use Rattle.round_works.specs.Sameness.{IsWork}
use Rattle.round_works.specs.Tables.{shared_table}
use Rattle.round_works.specs.Works.{ItemWork, item_work, table_after, table_of_work, work_after, work_in}
use Rattle.round_works.specs.declared.work.Compiled.{Compiled}
use Rattle.round_works.specs.declared.work.Work.{Work}
use Rattle.round_works.specs.declared.work.Work.TheVariants.{Leaf, Inner}
use Rattle.round_works.proofs.Bounds.{CanTake, can_take}
use Rattle.node_compile.proofs.Figures.{items_sized}
use Rattle.round_works.proofs.States.{ready_waits, within_jobs, works_taken, works_back}
use Rattle.round_works.proofs.Works.{added_length, part_done, unfinished_at, unfinished_own, works_done}

-- an item's work is worth its table
pub work_worth : (value_at : Kind → ℕ → ℕ → Option ℤ) (plan : PlanShape) (item : ℕ) → table_of_work plan.reference (item_work value_at plan item) ≡ item_table value_at plan item
work_worth value_at plan item = by (is_leaf plan item) refl
  where
    by : (b : Bool) → is_leaf plan item ≡ b → table_of_work plan.reference (item_work value_at plan item) ≡ item_table value_at plan item
    by true e = rw e refl
    by false e = rw e refl

-- a job is an item's where its front, its reference year and its work are
pub same_job : (plan : PlanShape) (inputs : List Input) (front item reference : ℕ) (work : ItemWork) → front ≡ length inputs → reference ≡ plan.reference → work ≡ work_after plan inputs item →
    job_of front item reference work ≡ job_after plan inputs item
same_job plan inputs front item reference work e_front e_reference e_work =
    ap (λ (n : ℕ). job_of n item reference work) e_front ∙ ap (λ (n : ℕ). job_of (length inputs) item n work) e_reference ∙ ap (job_of (length inputs) item plan.reference) e_work

-- the parts with other works and another state of a job
parts_with : (plan : PlanShape) (inputs : List Input) (front : ℕ) (round : RoundShape) (kept ready new_kept new_ready : List (Option Work)) (item : ℕ) (state : JobState) →
    AreParts plan inputs front round kept ready → AreWorks plan inputs (slice_set round.jobs item state) new_kept new_ready → AreParts plan inputs front (with_state round item state) new_kept new_ready
parts_with plan inputs front round kept ready new_kept new_ready item state parts works = record {
  whole = parts.whole;
  fits = parts.fits;
  few = parts.few;
  named = parts.named;
  parents = parts.parents;
  items = length-set round.jobs item state ∙ parts.items;
  works = works;
}

-- the same parts, as they are told otherwise
pub parts_as : (plan : PlanShape) (inputs : List Input) (front : ℕ) (round new_round : RoundShape) (kept ready new_kept new_ready : List (Option Work)) →
    new_round ≡ round → new_kept ≡ kept → new_ready ≡ ready → AreParts plan inputs front round kept ready → AreParts plan inputs front new_round new_kept new_ready
parts_as plan inputs front round new_round kept ready new_kept new_ready e_round e_kept e_ready parts =
    subst (λ (r : RoundShape). AreParts plan inputs front r new_kept new_ready) (sym e_round)
    (subst (λ (works : List (Option Work)). AreParts plan inputs front round works new_ready) (sym e_kept)
    (subst (λ (works : List (Option Work)). AreParts plan inputs front round kept works) (sym e_ready) parts))

-- what is ready by the parents that the round keeps is so by the plan's
pub ready_in : (plan : PlanShape) (inputs : List Input) (front : ℕ) (round : RoundShape) (kept ready : List (Option Work)) (item : ℕ) → AreParts plan inputs front round kept ready →
    is_ready round.parents round.jobs item ≡ is_ready plan.parents round.jobs item
ready_in plan inputs front round kept ready item parts = ap (λ (ps : List (Option ℕ)). is_ready ps round.jobs item) parts.parents

-- the work of a ready job is there, and is the item's
pub ready_work : (plan : PlanShape) (inputs : List Input) (front : ℕ) (round : RoundShape) (kept ready : List (Option Work)) (item : ℕ) → AreParts plan inputs front round kept ready →
    is_ready round.parents round.jobs item ≡ true → IsWholeWork plan inputs item (work_at ready item)
ready_work plan inputs front round kept ready item parts is =
    let waits = ready_waits plan.parents round.jobs item (sym (ready_in plan inputs front round kept ready item parts) ∙ is) in
    (parts.works.waiting item waits.0 waits.1).1

-- the parts once a ready job is handed out
pub parts_taken : (plan : PlanShape) (inputs : List Input) (front : ℕ) (round : RoundShape) (kept ready : List (Option Work)) (item : ℕ) → AreParts plan inputs front round kept ready →
    is_ready round.parents round.jobs item ≡ true → AreParts plan inputs front (with_state round item Out) kept (slice_set ready item None)
parts_taken plan inputs front round kept ready item parts is =
    parts_with plan inputs front round kept ready kept (slice_set ready item None) item Out parts
    (works_taken plan inputs round.jobs kept ready item parts.works (sym (ready_in plan inputs front round kept ready item parts) ∙ is))

-- and once a job comes back with its work
pub parts_back : (plan : PlanShape) (inputs : List Input) (front : ℕ) (round : RoundShape) (kept ready : List (Option Work)) (item : ℕ) (work : Work) → AreParts plan inputs front round kept ready →
    length ready ≡ length round.jobs → state_of round.jobs item ≡ Out → work_in work ≡ work_after plan inputs item →
    AreParts plan inputs front (with_state round item Waiting) kept (slice_set ready item (Some work))
parts_back plan inputs front round kept ready item work parts all is whole =
    parts_with plan inputs front round kept ready kept (slice_set ready item (Some work)) item Waiting parts
    (works_back plan inputs round.jobs kept ready item work parts.works all is whole)

-- the work that is kept of a job that is out is the item's
pub out_work : (plan : PlanShape) (inputs : List Input) (front : ℕ) (round : RoundShape) (kept ready : List (Option Work)) (item : ℕ) (work : ItemWork) → AreParts plan inputs front round kept ready →
    state_of round.jobs item ≡ Out → IsWork work (work_at kept item) → work ≡ work_after plan inputs item
out_work plan inputs front round kept ready item work parts is same = by (work_at kept item) (parts.works.out item is) same
  where
    by : (slot : Option Work) → IsWholeWork plan inputs item slot → IsWork work slot → work ≡ work_after plan inputs item
    by None whole same = absurd whole
    by (Some own) whole same = sym same ∙ whole

-- and the item's work is the one that is kept
pub out_work_back : (plan : PlanShape) (inputs : List Input) (front : ℕ) (round : RoundShape) (kept ready : List (Option Work)) (item : ℕ) (work : ItemWork) → AreParts plan inputs front round kept ready →
    state_of round.jobs item ≡ Out → work ≡ work_after plan inputs item → IsWork work (work_at kept item)
out_work_back plan inputs front round kept ready item work parts is same = by (work_at kept item) (parts.works.out item is)
  where
    by : (slot : Option Work) → IsWholeWork plan inputs item slot → IsWork work slot
    by None whole = absurd whole
    by (Some own) whole = whole ∙ sym same

-- a parent that is smaller than an item, where there is one
smaller_parent : (parent : Option ℕ) (k : ℕ) → IfSome parent (λ p. p < k) → (p : ℕ) → parent ≡ Some p → p < k
smaller_parent None k smaller p e = absurd (cc)
smaller_parent (Some q) k smaller p e = let same : q ≡ p = cc in omega (arith, smaller, same)

-- the parts once a job is done and its parent has got its flows
pub parts_done : (plan : PlanShape) (inputs : List Input) (front : ℕ) (round : RoundShape) (kept ready : List (Option Work)) (item : ℕ) (parent : Option ℕ) → AreParts plan inputs front round kept ready →
    length kept ≡ length round.jobs → length ready ≡ length round.jobs → state_of round.jobs item ≡ Out → parent ≡ get_or plan.parents item None → IfSome parent (λ p. p < item) →
    AreParts plan inputs front (with_state round item Done) (added_to parent (values_after plan inputs item) (volumes_after plan inputs item) kept)
    (added_to parent (values_after plan inputs item) (volumes_after plan inputs item) ready)
parts_done plan inputs front round kept ready item parent parts all_kept all_ready is e_parent smaller =
    let inside : item < length plan.parents = omega (arith, within_jobs round.jobs item Out is refl, parts.items) in
    let known = items_sized plan inputs item parts.fits inside in
    parts_with plan inputs front round kept ready _ _ item Done parts
    (works_done plan inputs round.jobs kept ready item parent parts.items all_kept all_ready parts.works is e_parent (smaller_parent parent item smaller) known.value.few known.prev.few)

-- a work in the making takes the flows of a child that isn't done
can_add : (plan : PlanShape) (inputs : List Input) (jobs : List JobState) (item k : ℕ) (slot : Option Work) → length plan.parents ≤ 512 → All (FitsPlan plan) inputs → item < k → k < length plan.parents → k < length jobs →
    is_parent item (get_or plan.parents k None) ≡ true → is_unfinished (state_of jobs k) ≡ true → IsPartWork plan inputs jobs item slot →
    CanAdd (values_after plan inputs k) (volumes_after plan inputs k) slot
can_add plan inputs jobs item k None few fits before inside within own unfinished part = tt
can_add plan inputs jobs item k (Some (Leaf input)) few fits before inside within own unfinished part = tt
can_add plan inputs jobs item k (Some (Inner sum)) few fits before inside within own unfinished part =
    let known = items_sized plan inputs k fits inside in
    let made = part_done plan inputs jobs item k (Some (Inner sum)) inside (unfinished_at plan jobs item k before inside within own unfinished) known.value.few known.prev.few part in
    let take = can_take plan inputs (slice_set jobs k Done) item (suc item) k sum (omega arith) inside few fits part.1.room made.1 in
    (take.children, take.quarters, take.values, take.volumes)

-- the parent's works take the flows of a job that is out
pub can_add_to : (plan : PlanShape) (inputs : List Input) (front : ℕ) (round : RoundShape) (kept ready : List (Option Work)) (item : ℕ) (parent : Option ℕ) → AreParts plan inputs front round kept ready →
    state_of round.jobs item ≡ Out → parent ≡ get_or plan.parents item None → IfSome parent (λ p. p < item) →
    CanAddTo parent (values_after plan inputs item) (volumes_after plan inputs item) kept × CanAddTo parent (values_after plan inputs item) (volumes_after plan inputs item) ready
can_add_to plan inputs front round kept ready item None parts is e smaller = (tt, tt)
can_add_to plan inputs front round kept ready item (Some p) parts is e smaller =
    let within : item < length round.jobs = within_jobs round.jobs item Out is refl in
    let inside : item < length plan.parents = omega (arith, within, parts.items) in
    let own : is_parent p (get_or plan.parents item None) ≡ true = ap (is_parent p) (sym e) ∙ (let same : is_parent p (Some p) ≡ true = grind (arith, nat_tests) in same) in
    let unfinished : is_unfinished (state_of round.jobs item) ≡ true = ap is_unfinished is in
    let making = parts.works.in_making p (unfinished_own plan round.jobs p item smaller inside within own unfinished) in (
      can_add plan inputs round.jobs p item (work_at kept p) parts.few parts.fits smaller inside within own unfinished making.0,
      can_add plan inputs round.jobs p item (work_at ready p) parts.few parts.fits smaller inside within own unfinished making.1,
    )

-- what is made of an item's job is the item's table
pub made_table : (plan : PlanShape) (inputs : List Input) (made : Compiled) → job_made made ≡ job_after plan inputs made.node → shared_table made.table ≡ table_after plan inputs made.node
made_table plan inputs made is = made.worth ∙ ap (λ (job : ItemJob). table_of_work job.reference job.work) is ∙ work_worth (last_value inputs) plan made.node

-- what a vector holds once its list was written
written : {X : Type 0} (n : ℕ) (old new whole : List X) → n ≡ length old → new ≡ whole → length whole ≡ length old → take n (new ++ drop (length new) old) ≡ whole
written n old new whole size is same =
    let long : length new ≡ length old = ap length is ∙ same in
    ap (λ l. take n (new ++ l)) (drop_all (length new) old (omega arith)) ∙ ap (take n) (append-nil new) ∙ take_all n new (omega arith) ∙ is

-- the works of a parent once they were written with a child's flows
pub written_flows : (plan : PlanShape) (inputs : List Input) (n item : ℕ) (parent : Option ℕ) (table : Table) (old lent new : List (Option Work)) → table ≡ table_after plan inputs item → n ≡ length old → lent ≡ old →
    new ≡ added_to parent table.value table.prev lent → take n (new ++ drop (length new) old) ≡ added_to parent (values_after plan inputs item) (volumes_after plan inputs item) old
written_flows plan inputs n item parent table old lent new is size same e =
    written n old new (added_to parent (values_after plan inputs item) (volumes_after plan inputs item) old) size
    (e ∙ ap (λ (l : List (Option Work)). added_to parent table.value table.prev l) same ∙ ap (λ (t : Table). added_to parent t.value t.prev old) is)
    (added_length parent (values_after plan inputs item) (volumes_after plan inputs item) old)

-- a job that is out is one of a plan's items
pub out_within : (plan : PlanShape) (inputs : List Input) (front : ℕ) (round : RoundShape) (kept ready : List (Option Work)) (item : ℕ) → AreParts plan inputs front round kept ready → state_of round.jobs item ≡ Out →
    item < length plan.names
out_within plan inputs front round kept ready item parts is = omega (arith, within_jobs round.jobs item Out is refl, parts.items, parts.named)
