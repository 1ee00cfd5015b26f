-- The jobs while they are marked from the last item to the first: each item's own flag, and a job for its parent.
use Rattle.std.proofs.Common.{◌≡◌, ◌∙◌, ap, sym, refl, subst, inl, inr, ℕ, zero, suc, ◌+◌, ◌≤◌, ◌<◌, Bool, true, false, not, ◌||◌, ◌&&◌, List, [], ◌∷◌, ◌++◌, length, map, take, drop, get_or, Option, None, Some, arith, append-nil}
use Rattle.std.specs.Prelude.{slice_set, IfSome}
use Rattle.std.specs.List.{list_any, flat_map}
use Rattle.std.proofs.Math.ListN.{length-set, get_or-map}
use Rattle.std.proofs.lemmas.Bool.{cases_eq}
use Rattle.std.proofs.lemmas.Bool.Decides.{nat_tests}
use Rattle.std.proofs.lemmas.List.{drop-map, drop_all, take_all, get_or_default, get_or-set_same, get_or-set_other, length-map}
use Rattle.std.proofs.lemmas.List.Folds.{list_any-append}
use Rattle.std.proofs.lemmas.List.FromFn.{fill_by_all, get_or-range_with_len, length-range_with_len}
use Rattle.series_tables.specs.Plan.{PlanShape, is_parent, is_leaf}
use Rattle.series_tables.specs.Tree.{of_children, leaves_of, leaves_from, leaves_under}
use Rattle.series_tables.proofs.Leaves.{leaves_count, leaves_drop, leaves_under_item, no_children, of_children-map}
use Rattle.dirty_plan.specs.Round.{state_of, is_job, first_state, has_flag, marked, opened_jobs, opened_round, RoundShape}
use Rattle.dirty_plan.specs.Touched.{NamesLeaves, is_touched, items_of}
use Rattle.dirty_plan.specs.declared.job.JobState.{JobState}
use Rattle.dirty_plan.specs.declared.job.JobState.TheVariants.{Clean, Waiting}
use Rattle.dirty_plan.proofs.Children.{any_child-drop}

-- whether a child of an item, among the items from one on, is touched
abbrev pub touched_from : PlanShape → (ℕ → Bool) → ℕ → ℕ → Bool
touched_from plan is_named item k = list_any (is_touched plan is_named) (of_children item (drop k plan.parents) (drop k (items_of plan)))

-- the jobs once the items from one on are marked: these are done with, and an item before them has a job where it is named or one of them is its touched child
pub record AreMarked (plan : PlanShape) (is_named : ℕ → Bool) (k : ℕ) (jobs : List JobState) : Type 0 where
  pub count : length jobs ≡ length plan.parents
  pub behind : (item : ℕ) → k ≤ item → item < length plan.parents → state_of jobs item ≡ first_state (is_touched plan is_named item)
  pub before : (item : ℕ) → item < k → item < length plan.parents → state_of jobs item ≡ first_state (is_named item || touched_from plan is_named item k)

-- some leaf in lists of them is named where one in some list is
any_flat_map : (is_named : ℕ → Bool) (f : ℕ → List ℕ) (xs : List ℕ) → list_any is_named (flat_map (λ l. l) (map f xs)) ≡ list_any (λ x. list_any is_named (f x)) xs
any_flat_map is_named f [] = refl
any_flat_map is_named f (x ∷ xs) =
    list_any-append is_named (f x) (flat_map (λ l. l) (map f xs)) ∙ ap (λ (b : Bool). list_any is_named (f x) || b) (any_flat_map is_named f xs)

-- the leaves under each item
all_leaves : (plan : PlanShape) → leaves_from 0 plan.parents ≡ map (leaves_under plan) (items_of plan)
all_leaves plan = fill_by_all (leaves_under plan) (leaves_from 0 plan.parents) (length plan.parents) [] (leaves_count 0 plan.parents) (λ k below. refl)

-- what passes a test behind the first few passes it
any-drop : {X : Type 0} (test : X → Bool) (n : ℕ) (xs : List X) → list_any test (drop n xs) ≡ true → list_any test xs ≡ true
any-drop test zero xs e = e
any-drop test (suc n) [] e = e
any-drop test (suc n) (x ∷ xs) e = by_first (test x) (any-drop test n xs e)
  where
    by_first : (b : Bool) → list_any test xs ≡ true → (b || list_any test xs) ≡ true
    by_first true rest = refl
    by_first false rest = rest

-- an item is touched where it is named or a child is touched
pub touched_here : (plan : PlanShape) (is_named : ℕ → Bool) (item : ℕ) → NamesLeaves plan is_named → item < length plan.parents
    → is_touched plan is_named item ≡ (is_named item || touched_from plan is_named item (suc item))
touched_here plan is_named item leaves inside =
    ap (list_any is_named) own ∙ by_children children refl (is_named item) refl
  where
    parents : List (Option ℕ)
    parents = drop (suc item) plan.parents

    children : List ℕ
    children = of_children item parents (drop (suc item) (items_of plan))

    lists : leaves_from (suc item) parents ≡ map (leaves_under plan) (drop (suc item) (items_of plan))
    lists =
        let next : 0 + suc item ≡ suc item = omega arith in
        ap (λ (n : ℕ). leaves_from n parents) (sym next) ∙ sym (leaves_drop (suc item) 0 plan.parents) ∙ ap (drop (suc item)) (all_leaves plan)
        ∙ drop-map (leaves_under plan) (suc item) (items_of plan)

    own : leaves_under plan item ≡ leaves_of item (map (leaves_under plan) children)
    own =
        leaves_under_item plan item inside ∙ ap (λ (l : List (List ℕ)). leaves_of item (of_children item parents l)) lists
        ∙ ap (leaves_of item) (of_children-map (leaves_under plan) item parents (drop (suc item) (items_of plan)))

    inner : (ks : List ℕ) (k : ℕ) → children ≡ k ∷ ks → (b : Bool) → list_any (is_parent item) parents ≡ b → is_leaf plan item ≡ false
    inner ks k e true some = ap not (any-drop (is_parent item) (suc item) plan.parents some)
    inner ks k e false none = absurd (let never : [] ≡ k ∷ ks = sym (no_children item parents (drop (suc item) (items_of plan)) none) ∙ e in cc)

    by_children : (ks : List ℕ) → children ≡ ks → (b : Bool) → is_named item ≡ b
        → list_any is_named (leaves_of item (map (leaves_under plan) ks)) ≡ (b || list_any (is_touched plan is_named) ks)
    by_children [] e b named = ap (λ (n : Bool). n || false) named
    by_children (k ∷ ks) e true named = absurd (let never : true ≡ false = sym (leaves item named) ∙ inner ks k e (list_any (is_parent item) parents) refl in cc)
    by_children (k ∷ ks) e false named = any_flat_map is_named (leaves_under plan) (k ∷ ks)

-- before any item is marked the states are those of the flags
pub marked_none : (plan : PlanShape) (flags : List Bool) (jobs : List JobState) (k : ℕ) → length flags ≡ length plan.parents → jobs ≡ map first_state flags → length plan.parents ≤ k
    → AreMarked plan (has_flag flags) k jobs
marked_none plan flags jobs k same is past = record {
  count = ap (λ (l : List JobState). length l) is ∙ length-map flags first_state ∙ same;
  behind = λ item above inside. absurd (omega (arith, above, inside, past));
  before = λ item under inside. ap (λ (l : List JobState). state_of l item) is ∙ get_or-map first_state flags item false ∙ ap first_state (sym (no_child (has_flag flags item) item));
}
  where
    or_false : (b : Bool) → (b || false) ≡ b
    or_false true = refl
    or_false false = refl

    no_child : (b : Bool) (item : ℕ) → (b || touched_from plan (has_flag flags) item k) ≡ b
    no_child b item =
        ap (λ (ps : List (Option ℕ)). b || list_any (is_touched plan (has_flag flags)) (of_children item ps (drop k (items_of plan)))) (drop_all k plan.parents past)
        ∙ or_false b

-- once all are marked the jobs are those of a round that begins
pub marked_all : (plan : PlanShape) (is_named : ℕ → Bool) (jobs : List JobState) → AreMarked plan is_named 0 jobs → jobs ≡ opened_jobs plan is_named
unfolding opened_jobs
marked_all plan is_named jobs all =
    fill_by_all (λ item. first_state (is_touched plan is_named item)) jobs (length plan.parents) Clean all.count (λ k inside. all.behind k (omega arith) inside)

job_is : (b : Bool) → is_job (first_state b) ≡ b
job_is true = refl
job_is false = refl

-- the items from one on have a touched child of an item where that item is one or those behind it have one
touched_step : (plan : PlanShape) (is_named : ℕ → Bool) (k item : ℕ) → k < length plan.parents
    → touched_from plan is_named item k ≡ ((is_parent item (get_or plan.parents k None) && is_touched plan is_named k) || touched_from plan is_named item (suc k))
touched_step plan is_named k item inside =
    any_child-drop (is_touched plan is_named) item k (suc k) plan.parents (items_of plan) 0 (sym counted) (omega (arith, inside, counted)) refl
    ∙ ap (λ (n : ℕ). (is_parent item (get_or plan.parents k None) && is_touched plan is_named n) || touched_from plan is_named item (suc k)) (get_or-range_with_len 0 (length plan.parents) k 0 inside ∙ none)
  where
    counted : length (items_of plan) ≡ length plan.parents
    counted = length-range_with_len 0 (length plan.parents)

    none : 0 + k ≡ k
    none = omega arith

-- an item of which the next isn't a touched child is as it was
no_child_here : (plan : PlanShape) (is_named : ℕ → Bool) (k item : ℕ) → k < length plan.parents → (is_parent item (get_or plan.parents k None) && is_touched plan is_named k) ≡ false
    → touched_from plan is_named item (suc k) ≡ touched_from plan is_named item k
no_child_here plan is_named k item inside none = sym (touched_step plan is_named k item inside ∙ ap (λ (b : Bool). b || touched_from plan is_named item (suc k)) none)

-- the next item is done with
at_next : (plan : PlanShape) (is_named : ℕ → Bool) (k : ℕ) (jobs : List JobState) → NamesLeaves plan is_named → AreMarked plan is_named (suc k) jobs → k < length plan.parents
    → state_of jobs k ≡ first_state (is_touched plan is_named k)
at_next plan is_named k jobs leaves m inside = m.before k (omega arith) inside ∙ ap first_state (sym (touched_here plan is_named k leaves inside))

-- so are the items from it on, as they were
from_next : (plan : PlanShape) (is_named : ℕ → Bool) (k : ℕ) (jobs : List JobState) → NamesLeaves plan is_named → AreMarked plan is_named (suc k) jobs → k < length plan.parents
    → (item : ℕ) → k ≤ item → item < length plan.parents → state_of jobs item ≡ first_state (is_touched plan is_named item)
from_next plan is_named k jobs leaves m inside item above within = elim (cases_eq item k) [
  | inl here ↦ ap (state_of jobs) here ∙ at_next plan is_named k jobs leaves m inside ∙ ap (λ (n : ℕ). first_state (is_touched plan is_named n)) (sym here)
  | inr other ↦ m.behind item (omega (arith, above, other)) within
]

and_false : (b : Bool) → (b && false) ≡ false
and_false true = refl
and_false false = refl

or_true : (b c : Bool) → (b || (true || c)) ≡ true
or_true true c = refl
or_true false c = refl

-- an item without a job marks no parent
pub mark_no : (plan : PlanShape) (is_named : ℕ → Bool) (k : ℕ) (jobs : List JobState) → NamesLeaves plan is_named → AreMarked plan is_named (suc k) jobs → k < length plan.parents
    → is_job (state_of jobs k) ≡ false → AreMarked plan is_named k jobs
mark_no plan is_named k jobs leaves m inside without = record {
  count = m.count;
  behind = from_next plan is_named k jobs leaves m inside;
  before = λ item under within. m.before item (omega (arith, under)) within ∙ ap (λ (b : Bool). first_state (is_named item || b)) (no_child_here plan is_named k item inside (by_parent (is_parent item (get_or plan.parents k None))));
}
  where
    untouched : is_touched plan is_named k ≡ false
    untouched = sym (job_is (is_touched plan is_named k)) ∙ ap is_job (sym (at_next plan is_named k jobs leaves m inside)) ∙ without

    by_parent : (b : Bool) → (b && is_touched plan is_named k) ≡ false
    by_parent b = ap (λ (t : Bool). b && t) untouched ∙ and_false b

-- an item with a job gives its parent one
pub mark_yes : (plan : PlanShape) (is_named : ℕ → Bool) (k : ℕ) (jobs : List JobState) (parent : Option ℕ) → NamesLeaves plan is_named → AreMarked plan is_named (suc k) jobs → k < length plan.parents
    → is_job (state_of jobs k) ≡ true → get_or plan.parents k None ≡ parent → ((p : ℕ) → parent ≡ Some p → p < k) → AreMarked plan is_named k (marked parent jobs)
mark_yes plan is_named k jobs None leaves m inside with_job e smaller = record {
  count = m.count;
  behind = from_next plan is_named k jobs leaves m inside;
  before = λ item under within. m.before item (omega (arith, under)) within ∙ ap (λ (b : Bool). first_state (is_named item || b)) (no_child_here plan is_named k item inside (ap (λ (p : Option ℕ). is_parent item p && is_touched plan is_named k) e));
}
mark_yes plan is_named k jobs (Some q) leaves m inside with_job e smaller = record {
  count = length-set jobs q Waiting ∙ m.count;
  behind = λ item above within. get_or-set_other jobs q item Waiting Clean (λ same. absurd (omega (arith, same, above, smaller q refl))) ∙ from_next plan is_named k jobs leaves m inside item above within;
  before = λ item under within. elim (cases_eq item q) [
    | inl here ↦ ap (state_of (slice_set jobs q Waiting)) here ∙ at_parent ∙ ap (λ (n : ℕ). first_state (is_named n || touched_from plan is_named n k)) (sym here)
    | inr other ↦ get_or-set_other jobs q item Waiting Clean other ∙ m.before item (omega (arith, under)) within
        ∙ ap (λ (b : Bool). first_state (is_named item || b)) (no_child_here plan is_named k item inside (not_own item other))
  ];
}
  where
    touched : is_touched plan is_named k ≡ true
    touched = sym (job_is (is_touched plan is_named k)) ∙ ap is_job (sym (at_next plan is_named k jobs leaves m inside)) ∙ with_job

    own : is_parent q (Some q) ≡ true
    own = grind (arith, nat_tests)

    from_child : touched_from plan is_named q k ≡ (true || touched_from plan is_named q (suc k))
    from_child =
        touched_step plan is_named k q inside ∙ ap (λ (p : Option ℕ). (is_parent q p && is_touched plan is_named k) || touched_from plan is_named q (suc k)) e
        ∙ ap (λ (b : Bool). (b && is_touched plan is_named k) || touched_from plan is_named q (suc k)) own
        ∙ ap (λ (b : Bool). b || touched_from plan is_named q (suc k)) touched

    at_parent : state_of (slice_set jobs q Waiting) q ≡ first_state (is_named q || touched_from plan is_named q k)
    at_parent =
        get_or-set_same jobs q Waiting Clean (omega (arith, smaller q refl, inside, m.count))
        ∙ ap first_state (sym (ap (λ (b : Bool). is_named q || b) from_child ∙ or_true (is_named q) (touched_from plan is_named q (suc k))))

    not_own : (item : ℕ) → (item ≡ q → ⊥) → (is_parent item (get_or plan.parents k None) && is_touched plan is_named k) ≡ false
    not_own item other =
        let apart : is_parent item (Some q) ≡ false = grind (arith, nat_tests) in
        ap (λ (p : Option ℕ). is_parent item p && is_touched plan is_named k) e ∙ ap (λ (b : Bool). b && is_touched plan is_named k) apart

-- a parent that is smaller than an item, where there is one
smaller_parent : (parent : Option ℕ) (k : ℕ) → IfSome parent (λ p. p < k) → (p : ℕ) → parent ≡ Some p → p < k
smaller_parent None k smaller p e = absurd (cc)
smaller_parent (Some q) k smaller p e = let same : q ≡ p = cc in omega (arith, smaller, same)

-- what is read at the next item is its state
read_state : (jobs : List JobState) (k : ℕ) (here : JobState) → k < length jobs → here ≡ get_or jobs k here → state_of jobs k ≡ here
read_state jobs k here inside read = get_or_default jobs k Clean here inside ∙ sym read

-- the next item without a job
pub skip_next : (plan : PlanShape) (is_named : ℕ → Bool) (next k : ℕ) (jobs : List JobState) (here : JobState) → NamesLeaves plan is_named → AreMarked plan is_named next jobs → suc k ≡ next
    → next ≤ length plan.parents → here ≡ get_or jobs k here → is_job here ≡ false → AreMarked plan is_named k jobs
skip_next plan is_named next k jobs here leaves m e inside read without =
    mark_no plan is_named k jobs leaves (subst (λ (n : ℕ). AreMarked plan is_named n jobs) (sym e) m) (omega (arith, e, inside))
    (ap is_job (read_state jobs k here (omega (arith, e, inside, m.count)) read) ∙ without)

-- the next item with a job, whose parent's state is written into the same vector
pub mark_next : (plan : PlanShape) (is_named : ℕ → Bool) (next k size : ℕ) (jobs lent new : List JobState) (here : JobState) (parent : Option ℕ) → NamesLeaves plan is_named
    → AreMarked plan is_named next jobs → suc k ≡ next → next ≤ length plan.parents → here ≡ get_or jobs k here → is_job here ≡ true
    → parent ≡ get_or plan.parents k None → IfSome parent (λ p. p < k) → lent ≡ jobs → length lent ≡ size → new ≡ marked parent lent
    → AreMarked plan is_named k (take size (new ++ drop (length new) jobs))
mark_next plan is_named next k size jobs lent new here parent leaves m e inside read with_job own smaller same whole is =
    subst (λ (l : List JobState). AreMarked plan is_named k l) (sym written) there
  where
    there : AreMarked plan is_named k (marked parent jobs)
    there =
        mark_yes plan is_named k jobs parent leaves (subst (λ (n : ℕ). AreMarked plan is_named n jobs) (sym e) m) (omega (arith, e, inside))
        (ap is_job (read_state jobs k here (omega (arith, e, inside, m.count)) read) ∙ with_job) (sym own) (smaller_parent parent k smaller)

    new_is : new ≡ marked parent jobs
    new_is = is ∙ ap (marked parent) same

    as_long : length new ≡ length jobs
    as_long = ap (λ (l : List JobState). length l) new_is ∙ there.count ∙ sym m.count

    written : take size (new ++ drop (length new) jobs) ≡ marked parent jobs
    written =
        ap (λ (l : List JobState). take size (new ++ l)) (drop_all (length new) jobs (omega (arith, as_long))) ∙ ap (take size) (append-nil new)
        ∙ take_all size new (omega (arith, as_long, whole, ap (λ (l : List JobState). length l) same)) ∙ new_is

-- the round that begins
pub opened_round_is : (plan : PlanShape) (is_named : ℕ → Bool) (k : ℕ) (parents : List (Option ℕ)) (jobs : List JobState) → parents ≡ plan.parents → k ≤ 0 → AreMarked plan is_named k jobs
    → record { parents = parents; jobs = jobs } ≡ opened_round plan is_named
opened_round_is plan is_named k parents jobs same down m =
    ap (λ (ps : List (Option ℕ)). round_of ps jobs) same
    ∙ ap (round_of plan.parents) (marked_all plan is_named jobs (subst (λ (n : ℕ). AreMarked plan is_named n jobs) (let none : k ≡ 0 = omega (arith, down) in none) m))
  where
    round_of : List (Option ℕ) → List JobState → RoundShape
    round_of ps js = record { parents = ps; jobs = js }
