-- The works of a round once a job is done and its parent has got its flows.
use Rattle.std.proofs.Common.{◌≡◌, ◌∙◌, ap, sym, refl, subst, inl, inr, ℕ, zero, suc, ◌+◌, ◌-◌, ◌≤◌, ◌<◌, Bool, true, false, cond, ◌||◌, List, [], ◌∷◌, length, map, drop, get_or, Option, Some, None, arith, length-drop}
use Rattle.std.specs.Prelude.{slice_get, slice_set}
use Rattle.std.specs.List.{list_any, range_with_len}
use Rattle.std.proofs.Math.ListN.{length-set}
use Rattle.std.proofs.lemmas.Bool.{cases_eq, cases_lt}
use Rattle.std.proofs.lemmas.Bool.Decides.{nat_tests}
use Rattle.std.proofs.lemmas.List.{get_or-set_same, get_or-set_other, get_or-drop}
use Rattle.std.proofs.lemmas.List.FromFn.{length-map-range_with_len}
use Rattle.aggregate_tree.specs.Leaves.{added}
use Rattle.aggregate_tree.specs.Sum.{with_child}
use Rattle.aggregate_tree.specs.Tallies.{IsSumOf, cells_of, with_cells}
use Rattle.aggregate_tree.specs.declared.tally.Tally.{Tally}
use Rattle.aggregate_tree.proofs.Places.{length-with_cells}
use Rattle.price_base.specs.declared.Cell.{Cell}
use Rattle.series_tables.specs.LastValue.{last_value}
use Rattle.series_tables.specs.Plan.{PlanShape, is_parent}
use Rattle.series_tables.specs.Tree.{of_children, leaves_under}
use Rattle.series_tables.specs.declared.input.Input.{Input}
use Rattle.node_compile.specs.Release.{values_of_leaves, volumes_of_leaves}
use Rattle.dirty_plan.specs.Round.{state_of, is_unfinished, has_unfinished_child}
use Rattle.dirty_plan.specs.declared.job.JobState.{JobState}
use Rattle.dirty_plan.specs.declared.job.JobState.TheVariants.{Clean, Waiting, Out, Done}
use Rattle.round_works.specs.Adding.{with_flows, added_to}
use Rattle.round_works.specs.Making.{settled, settled_from, values_after, volumes_after, IsPartWork, IsWholeWork, BothPass, work_at, AreWorks}
use Rattle.round_works.specs.Works.{inner_work, work_in, work_after}
use Rattle.round_works.specs.declared.work.Work.{Work}
use Rattle.round_works.specs.declared.work.Work.TheVariants.{Leaf, Inner}
use Rattle.node_compile.proofs.Leaves.{values_over_children, volumes_over_children}
use Rattle.round_works.proofs.Settling.{sum_settled_more, settled_count, settled_other, whole_cells}
use Rattle.round_works.proofs.States.{within_jobs}

-- a change behind the first few is a change of what is behind them
drop_set : {X : Type 0} (n j : ℕ) (xs : List X) (x : X) → drop n (slice_set xs (n + j) x) ≡ slice_set (drop n xs) j x
drop_set zero j xs x = ap (λ (k : ℕ). slice_set xs k x) (let e : 0 + j ≡ j = omega arith in e)
drop_set (suc n) j [] x = refl
drop_set (suc n) j (y ∷ xs) x =
    ap (λ (k : ℕ). drop (suc n) (slice_set (y ∷ xs) k x)) (let e : suc n + j ≡ suc (n + j) = omega arith in e) ∙ drop_set n j xs x

-- and one before them is none
drop_before : {X : Type 0} (n k : ℕ) (xs : List X) (x : X) → k < n → drop n (slice_set xs k x) ≡ drop n xs
drop_before zero k xs x before = absurd (omega arith)
drop_before (suc n) k [] x before = refl
drop_before (suc n) zero (y ∷ xs) x before = refl
drop_before (suc n) (suc k) (y ∷ xs) x before = drop_before n k xs x (omega arith)

-- the job of another item's child tells nothing of an item's children
any_other : (item : ℕ) (parents : List (Option ℕ)) (jobs : List JobState) (k : ℕ) (state : JobState) → is_parent item (get_or parents k None) ≡ false →
    list_any is_unfinished (of_children item parents (slice_set jobs k state)) ≡ list_any is_unfinished (of_children item parents jobs)
any_other item [] jobs k state other = refl
any_other item (p ∷ ps) [] k state other = refl
any_other item (p ∷ ps) (j ∷ jobs) zero state other =
    ap (λ (b : Bool). list_any is_unfinished (cond b (state ∷ of_children item ps jobs) (of_children item ps jobs))) other
    ∙ sym (ap (λ (b : Bool). list_any is_unfinished (cond b (j ∷ of_children item ps jobs) (of_children item ps jobs))) other)
any_other item (p ∷ ps) (j ∷ jobs) (suc k) state other = by (is_parent item p) (any_other item ps jobs k state other)
  where
    by : (b : Bool) → list_any is_unfinished (of_children item ps (slice_set jobs k state)) ≡ list_any is_unfinished (of_children item ps jobs) →
        list_any is_unfinished (cond b (j ∷ of_children item ps (slice_set jobs k state)) (of_children item ps (slice_set jobs k state)))
        ≡ list_any is_unfinished (cond b (j ∷ of_children item ps jobs) (of_children item ps jobs))
    by true rest = ap (λ (b : Bool). is_unfinished j || b) rest
    by false rest = rest

-- a child with an unfinished job is one
any_own : (item : ℕ) (parents : List (Option ℕ)) (jobs : List JobState) (k : ℕ) → k < length parents → k < length jobs →
    is_parent item (get_or parents k None) ≡ true → is_unfinished (get_or jobs k Clean) ≡ true → list_any is_unfinished (of_children item parents jobs) ≡ true
any_own item [] jobs k inside within own unfinished = absurd (omega arith)
any_own item (p ∷ ps) [] k inside within own unfinished = absurd (omega arith)
any_own item (p ∷ ps) (j ∷ jobs) zero inside within own unfinished =
    ap (λ (b : Bool). list_any is_unfinished (cond b (j ∷ of_children item ps jobs) (of_children item ps jobs))) own
    ∙ ap (λ (b : Bool). b || list_any is_unfinished (of_children item ps jobs)) unfinished
any_own item (p ∷ ps) (j ∷ jobs) (suc k) inside within own unfinished =
    by (is_parent item p) (is_unfinished j) refl (any_own item ps jobs k (omega arith) (omega arith) own unfinished)
  where
    by : (b u : Bool) → is_unfinished j ≡ u → list_any is_unfinished (of_children item ps jobs) ≡ true →
        list_any is_unfinished (cond b (j ∷ of_children item ps jobs) (of_children item ps jobs)) ≡ true
    by false u e rest = rest
    by true true e rest = ap (λ (b : Bool). b || list_any is_unfinished (of_children item ps jobs)) e
    by true false e rest = ap (λ (b : Bool). b || list_any is_unfinished (of_children item ps jobs)) e ∙ rest

-- a place behind an item, counted from there
record IsBehind (item k : ℕ) : Type 0 where
  place : ℕ
  is : k ≡ suc item + place

-- each place behind an item is one
behind : (item k : ℕ) → item < k → IsBehind item k
behind item k before = record { place = k - suc item; is = omega arith }

-- what stands at a place of what is made of a range
pub get_made : {X : Type 0} (g : ℕ → X) (first count j : ℕ) → j < count → slice_get (map g (range_with_len first count)) j ≡ Some (g (first + j))
get_made g first zero j below = absurd (omega arith)
get_made g first (suc count) zero below = ap (λ (n : ℕ). Some (g n)) (let same : first ≡ first + 0 = omega arith in same)
get_made g first (suc count) (suc j) below =
    get_made g (first + 1) count j (omega arith) ∙ ap (λ (n : ℕ). Some (g n)) (let same : first + 1 + j ≡ first + suc j = omega arith in same)

-- a child with an unfinished job, by its place behind its parent
pub record IsUnfinishedAt (plan : PlanShape) (jobs : List JobState) (item k : ℕ) : Type 0 where
  pub place : ℕ
  pub is : k ≡ suc item + place
  pub inside : place < length (drop (suc item) plan.parents)
  pub within : place < length (drop (suc item) jobs)
  pub own : is_parent item (get_or (drop (suc item) plan.parents) place None) ≡ true
  pub unfinished : is_unfinished (get_or (drop (suc item) jobs) place Clean) ≡ true

-- each child with an unfinished job is at one
pub unfinished_at : (plan : PlanShape) (jobs : List JobState) (item k : ℕ) → item < k → k < length plan.parents → k < length jobs →
    is_parent item (get_or plan.parents k None) ≡ true → is_unfinished (state_of jobs k) ≡ true → IsUnfinishedAt plan jobs item k
unfinished_at plan jobs item k before inside within own unfinished =
    let b = behind item k before in
    let e : k ≡ suc item + b.place = b.is in
    record {
      place = b.place;
      is = e;
      inside = omega (arith, length-drop (suc item) plan.parents, e, inside);
      within = omega (arith, length-drop (suc item) jobs, e, within);
      own = ap (is_parent item) (get_or-drop (suc item) plan.parents b.place None ∙ ap (λ (n : ℕ). get_or plan.parents n None) (sym e)) ∙ own;
      unfinished = ap is_unfinished (get_or-drop (suc item) jobs b.place Clean ∙ ap (λ (n : ℕ). get_or jobs n Clean) (sym e)) ∙ unfinished;
    }

-- the jobs behind an item once that of a child is done
drop_done : (plan : PlanShape) (jobs : List JobState) (item k : ℕ) (at : IsUnfinishedAt plan jobs item k) →
    drop (suc item) (slice_set jobs k Done) ≡ slice_set (drop (suc item) jobs) at.place Done
drop_done plan jobs item k at = ap (λ (n : ℕ). drop (suc item) (slice_set jobs n Done)) at.is ∙ drop_set (suc item) at.place jobs Done

-- a sum of settled children with one more
settled_done : (plan : PlanShape) (jobs : List JobState) (f : ℕ → List Cell) (item k : ℕ) (tallies : List Tally) → k < length plan.parents → IsUnfinishedAt plan jobs item k →
    length (f k) ≤ length tallies → IsSumOf (settled_from plan jobs f item (suc item)) tallies →
    IsSumOf (settled_from plan (slice_set jobs k Done) f item (suc item)) (with_cells (f k) tallies)
settled_done plan jobs f item k tallies inside at short sum =
    let xs : List (List Cell) = map f (range_with_len (suc item) (length plan.parents - suc item)) in
    let e : k ≡ suc item + at.place = at.is in
    let there : slice_get xs at.place ≡ Some (f k) = get_made f (suc item) (length plan.parents - suc item) at.place (omega (arith, e, inside)) ∙ ap (λ (n : ℕ). Some (f n)) (sym e) in
    subst (λ (js : List JobState). IsSumOf (settled item (drop (suc item) plan.parents) js xs) (with_cells (f k) tallies)) (sym (drop_done plan jobs item k at))
    (sum_settled_more item (drop (suc item) plan.parents) (drop (suc item) jobs) xs at.place (f k) tallies at.inside at.within at.own at.unfinished there short sum)

-- and there is one settled child more
count_done : {X : Type 0} (plan : PlanShape) (jobs : List JobState) (f : ℕ → X) (item k : ℕ) → k < length plan.parents → IsUnfinishedAt plan jobs item k →
    length (settled_from plan (slice_set jobs k Done) f item (suc item)) ≡ length (settled_from plan jobs f item (suc item)) + 1
count_done {X} plan jobs f item k inside at =
    let xs : List X = map f (range_with_len (suc item) (length plan.parents - suc item)) in
    let e : k ≡ suc item + at.place = at.is in
    ap (λ (js : List JobState). length (settled item (drop (suc item) plan.parents) js xs)) (drop_done plan jobs item k at)
    ∙ settled_count item (drop (suc item) plan.parents) (drop (suc item) jobs) xs at.place at.inside at.within
    (omega (arith, length-map-range_with_len f (suc item) (length plan.parents - suc item), e, inside)) at.own at.unfinished

-- a work of the parent in the making, with the child's flows, is one once the child's job is done
pub part_done : (plan : PlanShape) (inputs : List Input) (jobs : List JobState) (item k : ℕ) (slot : Option Work) → k < length plan.parents → IsUnfinishedAt plan jobs item k →
    length (values_after plan inputs k) ≤ 256 → length (volumes_after plan inputs k) ≤ 256 → IsPartWork plan inputs jobs item slot →
    IsPartWork plan inputs (slice_set jobs k Done) item (with_flows (values_after plan inputs k) (volumes_after plan inputs k) slot)
part_done plan inputs jobs item k None inside at short short_prev part = part
part_done plan inputs jobs item k (Some (Leaf input)) inside at short short_prev part = part
part_done plan inputs jobs item k (Some (Inner sum)) inside at short short_prev part = (
  part.0,
  record {
    room = length-with_cells (values_after plan inputs k) sum.value ∙ part.1.room;
    room_prev = length-with_cells (volumes_after plan inputs k) sum.prev ∙ part.1.room_prev;
    count = ap (λ (n : ℕ). n + 1) part.1.count ∙ sym (count_done plan jobs (values_after plan inputs) item k inside at);
    value = settled_done plan jobs (values_after plan inputs) item k sum.value inside at (omega (arith, short, part.1.room)) part.1.value;
    prev = settled_done plan jobs (volumes_after plan inputs) item k sum.prev inside at (omega (arith, short_prev, part.1.room_prev)) part.1.prev;
  },
)

-- once no child has an unfinished job, a work in the making is whole
pub part_whole : (plan : PlanShape) (inputs : List Input) (jobs : List JobState) (item : ℕ) (slot : Option Work) → length jobs ≡ length plan.parents → item < length plan.parents →
    has_unfinished_child plan.parents jobs item ≡ false → IsPartWork plan inputs jobs item slot → IsWholeWork plan inputs item slot
part_whole plan inputs jobs item None same inside none part = part
part_whole plan inputs jobs item (Some (Leaf input)) same inside none part = part
part_whole plan inputs jobs item (Some (Inner sum)) same inside none part =
    let values : cells_of sum.value ≡ added (values_of_leaves (last_value inputs) plan.reference (leaves_under plan item)) =
    whole_cells item (drop (suc item) plan.parents) (drop (suc item) jobs) _ sum.value (long (values_after plan inputs)) none part.1.value
    ∙ values_over_children (last_value inputs) plan item inside part.0.1 in
    let volumes : cells_of sum.prev ≡ added (volumes_of_leaves (last_value inputs) plan.reference (leaves_under plan item)) =
    whole_cells item (drop (suc item) plan.parents) (drop (suc item) jobs) _ sum.prev (long (volumes_after plan inputs)) none part.1.prev
    ∙ volumes_over_children (last_value inputs) plan item inside part.0.1 in
    rw part.0.0 (ap (λ (v : List Cell). inner_work v (cells_of sum.prev)) values
    ∙ ap (λ (v : List Cell). inner_work (added (values_of_leaves (last_value inputs) plan.reference (leaves_under plan item))) v) volumes)
  where
    long : (f : ℕ → List Cell) → length (drop (suc item) jobs) ≡ length (map f (range_with_len (suc item) (length plan.parents - suc item)))
    long f = omega (arith, length-drop (suc item) jobs, length-map-range_with_len f (suc item) (length plan.parents - suc item))

-- an item is the parent that it is
is_own : (i : ℕ) (parent : Option ℕ) → is_parent i parent ≡ true → parent ≡ Some i
is_own i None e = absurd (let never : false ≡ true = e in cc)
is_own i (Some q) e = ap (λ (n : ℕ). Some n) (let same : q ≡ i = grind (arith, nat_tests) in same)

-- the work of an item that isn't the parent is as it was
added_other : (parent : Option ℕ) (i : ℕ) (value prev : List Cell) (works : List (Option Work)) → is_parent i parent ≡ false →
    work_at (added_to parent value prev works) i ≡ work_at works i
added_other None i value prev works e = refl
added_other (Some q) i value prev works e =
    get_or-set_other works q i (with_flows value prev (work_at works q)) None
    (λ same. let yes : is_parent i (Some q) ≡ true = grind (arith, nat_tests) in let never : true ≡ false = sym yes ∙ e in cc)

-- that of the parent has the flows
added_own : (parent : Option ℕ) (i : ℕ) (value prev : List Cell) (works : List (Option Work)) → parent ≡ Some i → i < length works →
    work_at (added_to parent value prev works) i ≡ with_flows value prev (work_at works i)
added_own parent i value prev works e within =
    ap (λ (p : Option ℕ). work_at (added_to p value prev works) i) e ∙ get_or-set_same works i (with_flows value prev (work_at works i)) None within

-- as many works as before
pub added_length : (parent : Option ℕ) (value prev : List Cell) (works : List (Option Work)) → length (added_to parent value prev works) ≡ length works
added_length None value prev works = refl
added_length (Some q) value prev works = length-set works q (with_flows value prev (work_at works q))

-- the job of another item's child tells nothing of an item's children
unfinished_other : (plan : PlanShape) (jobs : List JobState) (i k : ℕ) (state : JobState) → is_parent i (get_or plan.parents k None) ≡ false →
    has_unfinished_child plan.parents (slice_set jobs k state) i ≡ has_unfinished_child plan.parents jobs i
unfinished_other plan jobs i k state other = elim (cases_lt i k) [
  | inl before ↦
      let b = behind i k before in
      ap (λ (n : ℕ). list_any is_unfinished (of_children i (drop (suc i) plan.parents) (drop (suc i) (slice_set jobs n state)))) b.is
      ∙ ap (λ (js : List JobState). list_any is_unfinished (of_children i (drop (suc i) plan.parents) js)) (drop_set (suc i) b.place jobs state)
      ∙ any_other i (drop (suc i) plan.parents) (drop (suc i) jobs) b.place state (ap (is_parent i) (get_or-drop (suc i) plan.parents b.place None ∙ ap (λ (n : ℕ). get_or plan.parents n None) (sym b.is)) ∙ other)
  | inr after ↦ ap (λ (js : List JobState). list_any is_unfinished (of_children i (drop (suc i) plan.parents) js)) (drop_before (suc i) k jobs state (omega (arith, after)))
]

-- so are the settled children
settled_as : {X : Type 0} (plan : PlanShape) (jobs : List JobState) (f : ℕ → X) (i k : ℕ) (state : JobState) → is_parent i (get_or plan.parents k None) ≡ false →
    settled_from plan (slice_set jobs k state) f i (suc i) ≡ settled_from plan jobs f i (suc i)
settled_as {X} plan jobs f i k state other = elim (cases_lt i k) [
  | inl before ↦
      let b = behind i k before in
      let xs : List X = map f (range_with_len (suc i) (length plan.parents - suc i)) in
      ap (λ (n : ℕ). settled i (drop (suc i) plan.parents) (drop (suc i) (slice_set jobs n state)) xs) b.is
      ∙ ap (λ (js : List JobState). settled i (drop (suc i) plan.parents) js xs) (drop_set (suc i) b.place jobs state)
      ∙ settled_other i (drop (suc i) plan.parents) (drop (suc i) jobs) xs b.place state (ap (is_parent i) (get_or-drop (suc i) plan.parents b.place None ∙ ap (λ (n : ℕ). get_or plan.parents n None) (sym b.is)) ∙ other)
  | inr after ↦ ap (λ (js : List JobState). settled i (drop (suc i) plan.parents) js (map f (range_with_len (suc i) (length plan.parents - suc i)))) (drop_before (suc i) k jobs state (omega (arith, after)))
]

-- and a work in the making stays one
part_other : (plan : PlanShape) (inputs : List Input) (jobs : List JobState) (i k : ℕ) (state : JobState) (slot : Option Work) → is_parent i (get_or plan.parents k None) ≡ false →
    IsPartWork plan inputs jobs i slot → IsPartWork plan inputs (slice_set jobs k state) i slot
part_other plan inputs jobs i k state None other part = part
part_other plan inputs jobs i k state (Some (Leaf input)) other part = part
part_other plan inputs jobs i k state (Some (Inner sum)) other part = (
  part.0,
  record {
    room = part.1.room;
    room_prev = part.1.room_prev;
    count = part.1.count ∙ sym (ap length (settled_as plan jobs (values_after plan inputs) i k state other));
    value = subst (λ (l : List (List Cell)). IsSumOf l sum.value) (sym (settled_as plan jobs (values_after plan inputs) i k state other)) part.1.value;
    prev = subst (λ (l : List (List Cell)). IsSumOf l sum.prev) (sym (settled_as plan jobs (volumes_after plan inputs) i k state other)) part.1.prev;
  },
)

-- the parent of an item with an unfinished job has one
pub unfinished_own : (plan : PlanShape) (jobs : List JobState) (i k : ℕ) → i < k → k < length plan.parents → k < length jobs →
    is_parent i (get_or plan.parents k None) ≡ true → is_unfinished (state_of jobs k) ≡ true → has_unfinished_child plan.parents jobs i ≡ true
unfinished_own plan jobs i k before inside within own unfinished =
    let at = unfinished_at plan jobs i k before inside within own unfinished in
    any_own i (drop (suc i) plan.parents) (drop (suc i) jobs) at.place at.inside at.within at.own at.unfinished

-- the works once a job is done
pub works_done : (plan : PlanShape) (inputs : List Input) (jobs : List JobState) (kept ready : List (Option Work)) (k : ℕ) (parent : Option ℕ) →
    length jobs ≡ length plan.parents → length kept ≡ length jobs → length ready ≡ length jobs → AreWorks plan inputs jobs kept ready → state_of jobs k ≡ Out →
    parent ≡ get_or plan.parents k None → ((q : ℕ) → parent ≡ Some q → q < k) → length (values_after plan inputs k) ≤ 256 → length (volumes_after plan inputs k) ≤ 256 →
    AreWorks plan inputs (slice_set jobs k Done) (added_to parent (values_after plan inputs k) (volumes_after plan inputs k) kept)
    (added_to parent (values_after plan inputs k) (volumes_after plan inputs k) ready)
works_done plan inputs jobs kept ready k parent long all_kept all_ready works is e_parent smaller short short_prev = record {
  waits = λ item some.
      let old : has_unfinished_child plan.parents jobs item ≡ true = before item (is_parent item (get_or plan.parents k None)) refl some in
      let waits : state_of jobs item ≡ Waiting = works.waits item old in
      get_or-set_other jobs k item Done Clean (λ here. let both : Waiting ≡ Out = sym waits ∙ ap (state_of jobs) here ∙ is in cc) ∙ waits;
  in_making = λ item some. (
    making item (is_parent item (get_or plan.parents k None)) refl some kept all_kept (works.in_making item (before item (is_parent item (get_or plan.parents k None)) refl some)).0,
    making item (is_parent item (get_or plan.parents k None)) refl some ready all_ready (works.in_making item (before item (is_parent item (get_or plan.parents k None)) refl some)).1,
  );
  waiting = λ item waits none. whole item (is_parent item (get_or plan.parents k None)) refl (old_state item Waiting waits refl) none;
  out = λ item is_out. still_out item (is_parent item (get_or plan.parents k None)) refl (old_state item Out is_out refl);
}
  where
    v : List Cell
    v = values_after plan inputs k

    p : List Cell
    p = volumes_after plan inputs k

    within : k < length jobs
    within = within_jobs jobs k Out is refl

    inside : k < length plan.parents
    inside = omega (arith, within, long)

    unfinished : is_unfinished (state_of jobs k) ≡ true
    unfinished = ap is_unfinished is

    old_state : (item : ℕ) (state : JobState) → state_of (slice_set jobs k Done) item ≡ state → is_unfinished state ≡ true → state_of jobs item ≡ state
    old_state item state at un = elim (cases_eq item k) [
      | inl here ↦ absurd (let now : state_of (slice_set jobs k Done) item ≡ Done = ap (state_of (slice_set jobs k Done)) here ∙ get_or-set_same jobs k Done Clean within in let never : is_unfinished Done ≡ true = ap is_unfinished (sym now ∙ at) ∙ un in cc)
      | inr other ↦ sym (get_or-set_other jobs k item Done Clean other) ∙ at
    ]

    own : (item : ℕ) → is_parent item (get_or plan.parents k None) ≡ true → parent ≡ Some item
    own item e = e_parent ∙ is_own item (get_or plan.parents k None) e

    other_parent : (item : ℕ) → is_parent item (get_or plan.parents k None) ≡ false → is_parent item parent ≡ false
    other_parent item e = ap (is_parent item) e_parent ∙ e

    -- an item with an unfinished child had one before
    before : (item : ℕ) (b : Bool) → is_parent item (get_or plan.parents k None) ≡ b → has_unfinished_child plan.parents (slice_set jobs k Done) item ≡ true →
        has_unfinished_child plan.parents jobs item ≡ true
    before item false e some = sym (unfinished_other plan jobs item k Done e) ∙ some
    before item true e some = unfinished_own plan jobs item k (smaller item (own item e)) inside within e unfinished

    with_child_done : (item : ℕ) → is_parent item (get_or plan.parents k None) ≡ true → (works : List (Option Work)) → length works ≡ length jobs →
        IsPartWork plan inputs jobs item (work_at works item) → IsPartWork plan inputs (slice_set jobs k Done) item (work_at (added_to parent v p works) item)
    with_child_done item e these all part =
        let less : item < k = smaller item (own item e) in
        subst (λ (w : Option Work). IsPartWork plan inputs (slice_set jobs k Done) item w) (sym (added_own parent item v p these (own item e) (omega (arith, less, within, all))))
        (part_done plan inputs jobs item k (work_at these item) inside (unfinished_at plan jobs item k less inside within e unfinished) short short_prev part)

    making : (item : ℕ) (b : Bool) → is_parent item (get_or plan.parents k None) ≡ b → has_unfinished_child plan.parents (slice_set jobs k Done) item ≡ true →
        (works : List (Option Work)) → length works ≡ length jobs → IsPartWork plan inputs jobs item (work_at works item) →
        IsPartWork plan inputs (slice_set jobs k Done) item (work_at (added_to parent v p works) item)
    making item false e some these all part =
        subst (λ (w : Option Work). IsPartWork plan inputs (slice_set jobs k Done) item w) (sym (added_other parent item v p these (other_parent item e)))
        (part_other plan inputs jobs item k Done (work_at these item) e part)
    making item true e some these all part = with_child_done item e these all part

    whole : (item : ℕ) (b : Bool) → is_parent item (get_or plan.parents k None) ≡ b → state_of jobs item ≡ Waiting → has_unfinished_child plan.parents (slice_set jobs k Done) item ≡ false →
        BothPass (IsWholeWork plan inputs item) (added_to parent v p kept) (added_to parent v p ready) item
    whole item false e waits none =
        let old = works.waiting item waits (sym (unfinished_other plan jobs item k Done e) ∙ none) in (
          subst (λ (w : Option Work). IsWholeWork plan inputs item w) (sym (added_other parent item v p kept (other_parent item e))) old.0,
          subst (λ (w : Option Work). IsWholeWork plan inputs item w) (sym (added_other parent item v p ready (other_parent item e))) old.1,
        )
    whole item true e waits none =
        let less : item < k = smaller item (own item e) in
        let old = works.in_making item (unfinished_own plan jobs item k less inside within e unfinished) in
        let same : length (slice_set jobs k Done) ≡ length plan.parents = length-set jobs k Done ∙ long in (
          part_whole plan inputs (slice_set jobs k Done) item (work_at (added_to parent v p kept) item) same (omega (arith, less, inside)) none (with_child_done item e kept all_kept old.0),
          part_whole plan inputs (slice_set jobs k Done) item (work_at (added_to parent v p ready) item) same (omega (arith, less, inside)) none (with_child_done item e ready all_ready old.1),
        )

    still_out : (item : ℕ) (b : Bool) → is_parent item (get_or plan.parents k None) ≡ b → state_of jobs item ≡ Out → IsWholeWork plan inputs item (work_at (added_to parent v p kept) item)
    still_out item false e is_out =
        subst (λ (w : Option Work). IsWholeWork plan inputs item w) (sym (added_other parent item v p kept (other_parent item e))) (works.out item is_out)
    still_out item true e is_out =
        absurd (let waits : state_of jobs item ≡ Waiting = works.waits item (unfinished_own plan jobs item k (smaller item (own item e)) inside within e unfinished) in
        let both : Waiting ≡ Out = sym waits ∙ is_out in cc)
