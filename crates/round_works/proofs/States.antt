-- What holds of the works of a round once a job is handed out or comes back.
use Rattle.std.proofs.Common.{◌≡◌, ◌∙◌, ap, sym, refl, subst, inl, inr, ℕ, zero, suc, ◌+◌, ◌-◌, ◌≤◌, ◌<◌, Bool, true, false, cond, ◌&&◌, List, [], ◌∷◌, length, map, drop, get_or, Option, Some, None, arith}
use Rattle.std.specs.Prelude.{slice_set, not}
use Rattle.std.specs.List.{list_any, range_with_len}
use Rattle.std.proofs.Math.ListN.{length-set}
use Rattle.std.proofs.lemmas.Bool.{cases_eq, cases_lt}
use Rattle.std.proofs.lemmas.List.{get_or-set_same, get_or-set_other, get_or_past}
use Rattle.aggregate_tree.specs.Tallies.{IsSumOf}
use Rattle.price_base.specs.declared.Cell.{Cell}
use Rattle.series_tables.specs.Plan.{PlanShape, is_parent}
use Rattle.series_tables.specs.Tree.{of_children}
use Rattle.series_tables.specs.declared.input.Input.{Input}
use Rattle.dirty_plan.specs.Round.{state_of, is_job, is_waiting, is_unfinished, is_ready, has_unfinished_child}
use Rattle.dirty_plan.specs.declared.job.JobState.{JobState}
use Rattle.dirty_plan.specs.declared.job.JobState.TheVariants.{Clean, Waiting, Out, Done}
use Rattle.round_works.specs.Making.{settled, settled_from, values_after, volumes_after, IsPartWork, IsWholeWork, work_at, AreWorks}
use Rattle.round_works.specs.Works.{work_in, work_after}
use Rattle.round_works.specs.declared.work.Work.{Work}
use Rattle.round_works.specs.declared.work.Work.TheVariants.{Leaf, Inner}

-- where one place passes a test as before, all pass as before
pub map_set : {X Y : Type 0} (f : X → Y) (xs : List X) (k : ℕ) (new d : X) → f new ≡ f (get_or xs k d) →
    map f (slice_set xs k new) ≡ map f xs
map_set f [] k new d same = refl
map_set {Y = Y} f (x ∷ xs) zero new d same = ap (λ (y : Y). y ∷ map f xs) same
map_set {Y = Y} f (x ∷ xs) (suc k) new d same = ap (λ (ys : List Y). f x ∷ ys) (map_set f xs k new d same)

-- whether a child has an unfinished job depends on which jobs are unfinished alone
any_same : (item : ℕ) (parents : List (Option ℕ)) (one two : List JobState) → map is_unfinished one ≡ map is_unfinished two →
    list_any is_unfinished (of_children item parents one) ≡ list_any is_unfinished (of_children item parents two)
any_same item [] one two e = refl
any_same item (p ∷ ps) [] [] e = refl
any_same item (p ∷ ps) [] (y ∷ two) e = absurd (cc)
any_same item (p ∷ ps) (x ∷ one) [] e = absurd (cc)
any_same item (p ∷ ps) (x ∷ one) (y ∷ two) e =
    by (is_parent item p) (let head : is_unfinished x ≡ is_unfinished y = cc in head)
    (any_same item ps one two (let tail : map is_unfinished one ≡ map is_unfinished two = cc in tail))
  where
    by : (b : Bool) → is_unfinished x ≡ is_unfinished y →
        list_any is_unfinished (of_children item ps one) ≡ list_any is_unfinished (of_children item ps two) →
        list_any is_unfinished (cond b (x ∷ of_children item ps one) (of_children item ps one))
        ≡ list_any is_unfinished (cond b (y ∷ of_children item ps two) (of_children item ps two))
    by true head tail = cc
    by false head tail = tail

-- so do the settled children
settled_same : {X : Type 0} (item : ℕ) (parents : List (Option ℕ)) (one two : List JobState) (xs : List X) →
    map is_unfinished one ≡ map is_unfinished two → settled item parents one xs ≡ settled item parents two xs
settled_same item [] one two xs e = refl
settled_same item (p ∷ ps) [] [] xs e = refl
settled_same item (p ∷ ps) [] (y ∷ two) xs e = absurd (cc)
settled_same item (p ∷ ps) (x ∷ one) [] xs e = absurd (cc)
settled_same item (p ∷ ps) (x ∷ one) (y ∷ two) [] e = refl
settled_same {X} item (p ∷ ps) (x ∷ one) (y ∷ two) (z ∷ xs) e =
    let head : is_unfinished x ≡ is_unfinished y = cc in
    let rest = settled_same item ps one two xs (let tail : map is_unfinished one ≡ map is_unfinished two = cc in tail) in
    ap (λ (b : Bool). cond (is_parent item p && not b) (z ∷ settled item ps one xs) (settled item ps one xs)) head
    ∙ ap (λ (l : List X). cond (is_parent item p && not (is_unfinished y)) (z ∷ l) l) rest

-- lists with the same tests have the same tests behind the first few
drop_same : {X Y : Type 0} (f : X → Y) (n : ℕ) (one two : List X) → map f one ≡ map f two → map f (drop n one) ≡ map f (drop n two)
drop_same f zero one two e = e
drop_same f (suc n) [] [] e = refl
drop_same f (suc n) [] (y ∷ two) e = absurd (cc)
drop_same f (suc n) (x ∷ one) [] e = absurd (cc)
drop_same f (suc n) (x ∷ one) (y ∷ two) e = drop_same f n one two (let tail : map f one ≡ map f two = cc in tail)

-- so whether an item has an unfinished child is the same
pub unfinished_same : (parents : List (Option ℕ)) (one two : List JobState) (item : ℕ) → map is_unfinished one ≡ map is_unfinished two →
    has_unfinished_child parents one item ≡ has_unfinished_child parents two item
unfinished_same parents one two item e =
    any_same item (drop (suc item) parents) (drop (suc item) one) (drop (suc item) two) (drop_same is_unfinished (suc item) one two e)

-- so are its settled children
settled_from_same : {X : Type 0} (plan : PlanShape) (one two : List JobState) (f : ℕ → X) (item : ℕ) → map is_unfinished one ≡ map is_unfinished two →
    settled_from plan one f item (suc item) ≡ settled_from plan two f item (suc item)
settled_from_same plan one two f item e =
    settled_same item (drop (suc item) plan.parents) (drop (suc item) one) (drop (suc item) two)
    (map f (range_with_len (suc item) (length plan.parents - suc item))) (drop_same is_unfinished (suc item) one two e)

-- and a work in the making stays one
part_same : (plan : PlanShape) (inputs : List Input) (one two : List JobState) (item : ℕ) (work : Option Work) → map is_unfinished one ≡ map is_unfinished two →
    IsPartWork plan inputs one item work → IsPartWork plan inputs two item work
part_same plan inputs one two item None e part = part
part_same plan inputs one two item (Some (Leaf input)) e part = part
part_same plan inputs one two item (Some (Inner sum)) e part = (
  part.0,
  record {
    room = part.1.room;
    room_prev = part.1.room_prev;
    count = part.1.count ∙ ap length (settled_from_same plan one two (values_after plan inputs) item e);
    value = subst (λ (l : List (List Cell)). IsSumOf l sum.value) (settled_from_same plan one two (values_after plan inputs) item e) part.1.value;
    prev = subst (λ (l : List (List Cell)). IsSumOf l sum.prev) (settled_from_same plan one two (volumes_after plan inputs) item e) part.1.prev;
  },
)

-- a ready job waits, and no child of its item has an unfinished one
pub ready_waits : (parents : List (Option ℕ)) (jobs : List JobState) (item : ℕ) → is_ready parents jobs item ≡ true →
    (state_of jobs item ≡ Waiting) × (has_unfinished_child parents jobs item ≡ false)
ready_waits parents jobs item e = by (state_of jobs item) (has_unfinished_child parents jobs item) e
  where
    by : (s : JobState) (b : Bool) → (is_waiting s && not b) ≡ true → (s ≡ Waiting) × (b ≡ false)
    by Waiting false h = (refl, refl)
    by Waiting true h = absurd (cc)
    by Clean b h = absurd (cc)
    by Out b h = absurd (cc)
    by Done b h = absurd (cc)

-- an item with a job is one of all
pub within_jobs : (jobs : List JobState) (item : ℕ) (state : JobState) → state_of jobs item ≡ state → is_job state ≡ true → item < length jobs
within_jobs jobs item state e job = elim (cases_lt item (length jobs)) [
  | inl below ↦ below
  | inr past ↦ absurd (let none : state_of jobs item ≡ Clean = get_or_past jobs item Clean past in let never : is_job Clean ≡ true = ap is_job (sym none ∙ e) ∙ job in cc)
]

-- two copies of the works once a job goes from one unfinished state to another, which the item's own works allow
moved : (plan : PlanShape) (inputs : List Input) (jobs : List JobState) (kept ready : List (Option Work)) (k : ℕ) (state : JobState) (slot : Option Work) →
    AreWorks plan inputs jobs kept ready → is_unfinished (state_of jobs k) ≡ true → is_unfinished state ≡ true → k < length jobs →
    has_unfinished_child plan.parents jobs k ≡ false → IsWholeWork plan inputs k (work_at kept k) →
    (state ≡ Waiting → IsWholeWork plan inputs k (work_at (slice_set ready k slot) k)) →
    AreWorks plan inputs (slice_set jobs k state) kept (slice_set ready k slot)
moved plan inputs jobs kept ready k state slot works before now within none whole again = record {
  waits = λ item some. elim (cases_eq item k) [
    | inl here ↦ absurd (never item here some)
    | inr other ↦ get_or-set_other jobs k item state Clean other ∙ works.waits item (sym (unfinished_as item) ∙ some)
  ];
  in_making = λ item some. elim (cases_eq item k) [
    | inl here ↦ absurd (never item here some)
    | inr other ↦
        let old = works.in_making item (sym (unfinished_as item) ∙ some) in (
          part_same plan inputs jobs (slice_set jobs k state) item (work_at kept item) (sym same) old.0,
          part_same plan inputs jobs (slice_set jobs k state) item (work_at (slice_set ready k slot) item) (sym same)
              (subst (λ (w : Option Work). IsPartWork plan inputs jobs item w) (sym (get_or-set_other ready k item slot None other)) old.1),
        )
  ];
  waiting = λ item waits childless. elim (cases_eq item k) [
    | inl here ↦
        let at : state ≡ Waiting = sym at_k ∙ ap (state_of (slice_set jobs k state)) (sym here) ∙ waits in (
          subst (λ (i : ℕ). IsWholeWork plan inputs i (work_at kept i)) (sym here) whole,
          subst (λ (i : ℕ). IsWholeWork plan inputs i (work_at (slice_set ready k slot) i)) (sym here) (again at),
        )
    | inr other ↦
        let old = works.waiting item (sym (get_or-set_other jobs k item state Clean other) ∙ waits) (sym (unfinished_as item) ∙ childless) in
        (old.0, subst (λ (w : Option Work). IsWholeWork plan inputs item w) (sym (get_or-set_other ready k item slot None other)) old.1)
  ];
  out = λ item is_out. elim (cases_eq item k) [
    | inl here ↦ subst (λ (i : ℕ). IsWholeWork plan inputs i (work_at kept i)) (sym here) whole
    | inr other ↦ works.out item (sym (get_or-set_other jobs k item state Clean other) ∙ is_out)
  ];
}
  where
    at_k : state_of (slice_set jobs k state) k ≡ state
    at_k = get_or-set_same jobs k state Clean within

    same : map is_unfinished (slice_set jobs k state) ≡ map is_unfinished jobs
    same = map_set is_unfinished jobs k state Clean (now ∙ sym before)

    unfinished_as : (item : ℕ) → has_unfinished_child plan.parents (slice_set jobs k state) item ≡ has_unfinished_child plan.parents jobs item
    unfinished_as item = unfinished_same plan.parents (slice_set jobs k state) jobs item same

    never : (item : ℕ) → item ≡ k → has_unfinished_child plan.parents (slice_set jobs k state) item ≡ true → ⊥
    never item here some =
        let both : true ≡ false = sym some ∙ unfinished_as item ∙ ap (has_unfinished_child plan.parents jobs) here ∙ none in
        cc

-- an item whose job is out has no child with an unfinished one
pub out_is_childless : (plan : PlanShape) (inputs : List Input) (jobs : List JobState) (kept ready : List (Option Work)) (item : ℕ) →
    AreWorks plan inputs jobs kept ready → state_of jobs item ≡ Out → has_unfinished_child plan.parents jobs item ≡ false
out_is_childless plan inputs jobs kept ready item works is = by (has_unfinished_child plan.parents jobs item) refl
  where
    by : (b : Bool) → has_unfinished_child plan.parents jobs item ≡ b → b ≡ false
    by false e = refl
    by true e = absurd (let both : Waiting ≡ Out = sym (works.waits item e) ∙ is in cc)

-- the works once a ready job is handed out
pub works_taken : (plan : PlanShape) (inputs : List Input) (jobs : List JobState) (kept ready : List (Option Work)) (k : ℕ) →
    AreWorks plan inputs jobs kept ready → is_ready plan.parents jobs k ≡ true → AreWorks plan inputs (slice_set jobs k Out) kept (slice_set ready k None)
works_taken plan inputs jobs kept ready k works is =
    let waits = ready_waits plan.parents jobs k is in
    moved plan inputs jobs kept ready k Out None works (ap is_unfinished waits.0) refl (within_jobs jobs k Waiting waits.0 refl) waits.1
    (works.waiting k waits.0 waits.1).0 (λ never. absurd (cc))

-- and once a job comes back with its work
pub works_back : (plan : PlanShape) (inputs : List Input) (jobs : List JobState) (kept ready : List (Option Work)) (k : ℕ) (work : Work) →
    AreWorks plan inputs jobs kept ready → length ready ≡ length jobs → state_of jobs k ≡ Out → work_in work ≡ work_after plan inputs k →
    AreWorks plan inputs (slice_set jobs k Waiting) kept (slice_set ready k (Some work))
works_back plan inputs jobs kept ready k work works as_many is whole =
    let within : k < length jobs = within_jobs jobs k Out is refl in
    moved plan inputs jobs kept ready k Waiting (Some work) works (ap is_unfinished is) refl within
    (out_is_childless plan inputs jobs kept ready k works is) (works.out k is)
    (λ waits. subst (λ (w : Option Work). IsWholeWork plan inputs k w) (sym (get_or-set_same ready k (Some work) None (omega (arith, within, as_many)))) whole)
