-- How many jobs a round has.
use Rattle.std.proofs.Common.{◌≡◌, ◌∙◌, ap, sym, refl, ℕ, ◌+◌, Bool, true, false, cond, List, [], ◌∷◌, map}
use Rattle.std.specs.List.{count_by}
use Rattle.std.proofs.lemmas.List.Sums.{sum_by-cons}
use Rattle.series_tables.specs.Plan.{PlanShape}
use Rattle.dirty_plan.specs.Round.{is_job, first_state, job_count, opened_jobs}
use Rattle.dirty_plan.specs.Touched.{is_touched, items_of, touched_count}
use Rattle.dirty_plan.specs.declared.job.JobState.{JobState}

-- as many jobs as items pass the test by which they get one
count_by-first_state : (test : ℕ → Bool) (items : List ℕ) → count_by is_job (map (λ item. first_state (test item)) items) ≡ count_by test items
count_by-first_state test [] = refl
count_by-first_state test (item ∷ items) =
    sum_by-cons (λ (state : JobState). cond (is_job state) 1 0) (first_state (test item)) (map (λ i. first_state (test i)) items)
    ∙ by_test (test item) ∙ ap (λ (n : ℕ). cond (test item) 1 0 + n) (count_by-first_state test items)
    ∙ sym (sum_by-cons (λ (i : ℕ). cond (test i) 1 0) item items)
  where
    by_test : (b : Bool) → cond (is_job (first_state b)) 1 0 + count_by is_job (map (λ i. first_state (test i)) items) ≡ cond b 1 0 + count_by is_job (map (λ i. first_state (test i)) items)
    by_test true = refl
    by_test false = refl

-- a round that begins has a job for each touched item
pub job_count-opened_jobs : (plan : PlanShape) (is_named : ℕ → Bool) → job_count (opened_jobs plan is_named) ≡ touched_count plan is_named
unfolding opened_jobs
job_count-opened_jobs plan is_named = count_by-first_state (is_touched plan is_named) (items_of plan)
