-- Jobs that are put back, handed out and handed in while a round is run to its end.
use Rattle.std.proofs.Common.{◌≡◌, ◌∙◌, ap, sym, refl, subst, inl, inr, ℕ, zero, suc, ◌+◌, ◌≤◌, ◌<◌, Bool, true, false, List, [], ◌∷◌, length, map, take, get_or, Option, Some, None, arith}
use Rattle.std.specs.Prelude.{IfOk, IsFalse, IsTrue, Result, Ok, Err, ◌≢◌, count_by, slice_set, sum_by}
use Rattle.std.specs.List.{range_with_len}
use Rattle.std.proofs.lemmas.Bool.{cases_eq, cases_lt}
use Rattle.std.proofs.lemmas.List.{get_or-set_same, get_or-set_other, get_or_past}
use Rattle.series_tables.specs.Plan.{PlanShape}
use Rattle.dirty_plan.specs.Round.{is_job, is_left, is_ready, is_unfinished, state_of}
use Rattle.dirty_plan.specs.declared.job.JobState.{JobState}
use Rattle.dirty_plan.specs.declared.job.JobState.TheVariants.{Clean, Waiting, Out, Done}
use Rattle.accounts_history.specs.History.{inputs_of}
use Rattle.accounts_history.specs.declared.entry.Entry.{Entry}
use Rattle.round_works.specs.Jobs.{ItemJob, job_after, job_in, job_made, job_of}
use Rattle.round_works.specs.Rounds.{IsCopyOut, IsOut, Round, round_in, with_job}
use Rattle.round_works.specs.Works.{ItemWork, most_steps_of, work_in}
use Rattle.round_works.specs.declared.round.OpenRound.{OpenRound}
use Rattle.round_works.specs.declared.work.Compiled.{Compiled}
use Rattle.round_works.specs.declared.work.Job.{Job}
use Rattle.round_works.specs.declared.work.Work.{Work}
use Rattle.period_keys.specs.declared.Year.{Year}
use Rattle.accounts_core.specs.Finishing.{IsBack, IsCopyOf, IsSameRound, NoMoreOut, NoneOut, RunsItem, RunsOne, item_steps, jobs_in, jobs_now, next_front, steps_left, with_jobs, with_state_of, work_steps}
use Rattle.accounts_core.specs.Sound.{IsSound}
use Rattle.accounts_core.specs.State.{CoreState, IsOutAt, IsOutNow}
use Rattle.accounts_core.specs.Step.{HandsIn, PutsBack, Takes}
use Rattle.accounts_core.specs.declared.replies.Take.TheVariants.{Job as Handed}
use Rattle.accounts_core.specs.declared.replies.Done.{Done as DoneReply}
use Rattle.accounts_core.specs.declared.replies.Done.TheVariants.{NotOut as NotMadeOut, Kept as KeptMade}
use Rattle.accounts_core.specs.declared.replies.PutBack.{PutBack as PutBackReply}
use Rattle.accounts_core.specs.declared.replies.PutBack.TheVariants.{NotOut as NotOutJob, Kept as KeptJob}
use Rattle.accounts_core.proofs.Costs.{cost_done, count_done, left_within}
use Rattle.accounts_core.proofs.Handling.{inputs_under, ready_waits, state_of_parts}
use Rattle.accounts_core.proofs.Lists.{within_jobs}

-- the core of a plan with this history and this round
abbrev pub core_of : PlanShape → List Entry → Option Round → CoreState
core_of plan history round = record { plan = plan; history = history; round = round }

-- a core with other jobs is as it was but for them
same_from : (plan : PlanShape) (history : List Entry) (round : Option Round) (new : CoreState) (jobs : List JobState) → new ≡ with_jobs (core_of plan history round) jobs → IsSameRound (core_of plan history round) new
same_from plan history None new jobs e = e
same_from plan history (Some r) new jobs e = e ∙ ap (λ (s : CoreState). with_jobs (core_of plan history (Some r)) (jobs_now s)) (sym e)

pub same_with : (old new : CoreState) (jobs : List JobState) → new ≡ with_jobs old jobs → IsSameRound old new
same_with old new jobs e = same_from old.plan old.history old.round new jobs e

same_again : (plan : PlanShape) (history : List Entry) (round : Option Round) (jobs : List JobState) → with_jobs (core_of plan history round) (jobs_in round) ≡ core_of plan history round
same_again plan history None jobs = refl
same_again plan history (Some r) jobs = refl

pub same_none : (state : CoreState) → IsSameRound state state
same_none state = sym (same_again state.plan state.history state.round [])

join_from : (plan : PlanShape) (history : List Entry) (round : Option Round) (between new : CoreState) → IsSameRound (core_of plan history round) between → IsSameRound between new → IsSameRound (core_of plan history round) new
join_from plan history None between new first second = second ∙ ap (λ (s : CoreState). with_jobs s (jobs_now new)) first
join_from plan history (Some r) between new first second = second ∙ ap (λ (s : CoreState). with_jobs s (jobs_now new)) first

pub same_join : (old between new : CoreState) → IsSameRound old between → IsSameRound between new → IsSameRound old new
same_join old between new first second = join_from old.plan old.history old.round between new first second

-- where the jobs stand once an item's stands elsewhere
jobs_from : (plan : PlanShape) (history : List Entry) (round : Option Round) (item : ℕ) (state : JobState) → jobs_now (with_state_of (core_of plan history round) item state) ≡ slice_set (jobs_in round) item state
jobs_from plan history None item state = refl
jobs_from plan history (Some r) item state = refl

pub jobs_with : (old new : CoreState) (item : ℕ) (state : JobState) → new ≡ with_state_of old item state → jobs_now new ≡ slice_set (jobs_now old) item state
jobs_with old new item state e = ap (λ (s : CoreState). jobs_now s) e ∙ jobs_from old.plan old.history old.round item state

-- what was made of a job that is out is kept
handed_from : (plan : PlanShape) (history : List Entry) (round : Option Round) (new : CoreState) (job : ItemJob) (made : Compiled) (reply : DoneReply) → IsOutNow (core_of plan history round) job → job_made made ≡ job
    → HandsIn (core_of plan history round) made reply new → new ≡ with_state_of (core_of plan history round) made.node Done
handed_from plan history None new job made reply out same handed = absurd out
handed_from plan history (Some r) new job made KeptMade out same handed = handed.1
handed_from plan history (Some r) new job made (NotMadeOut back) out same handed =
    absurd (handed.0 (subst (λ (j : ItemJob). IsOutAt (core_of plan history (Some r)) j r) (sym same) out))

pub handed_in : (old new : CoreState) (job : Job) (made : Compiled) (reply : DoneReply) → IsOutNow old (job_in job) → job_made made ≡ job_in job → HandsIn old made reply new → new ≡ with_state_of old job.node Done
handed_in old new job made reply out same handed =
    handed_from old.plan old.history old.round new (job_in job) made reply out same handed ∙ ap (λ (j : ItemJob). with_state_of old j.item Done) same

-- a job that is out waits again
back_from : (plan : PlanShape) (history : List Entry) (round : Option Round) (new : CoreState) (job : Job) (reply : PutBackReply) → IsOutNow (core_of plan history round) (job_in job)
    → PutsBack (core_of plan history round) job reply new → new ≡ with_state_of (core_of plan history round) job.node Waiting
back_from plan history None new job reply out put = absurd out
back_from plan history (Some r) new job KeptJob out put = put.1
back_from plan history (Some r) new job (NotOutJob back) out put = absurd (put.0 out)

pub put_back_from : (old new : CoreState) (job : Job) (reply : PutBackReply) → IsOutNow old (job_in job) → PutsBack old job reply new → new ≡ with_state_of old job.node Waiting
put_back_from old new job reply out put = back_from old.plan old.history old.round new job reply out put

-- a job that is out is left
out_left : (plan : PlanShape) (history : List Entry) (round : Option Round) (job : ItemJob) → IsOutNow (core_of plan history round) job → state_of (jobs_in round) job.item ≡ Out
out_left plan history None job out = absurd out
out_left plan history (Some r) job out = out.0

pub out_state : (state : CoreState) (job : ItemJob) → IsOutNow state job → state_of (jobs_now state) job.item ≡ Out
out_state state job out = out_left state.plan state.history state.round job out

-- a copy of a job that is out is out
copy_from : (plan : PlanShape) (history : List Entry) (round : Option Round) (item : ℕ) (job : Job) → IsCopyOf (core_of plan history round) item (Some job) → IsOutNow (core_of plan history round) (job_in job) × (job.node ≡ item)
copy_from plan history None item job copy = absurd copy
copy_from plan history (Some r) item job copy =
    let node : job.node ≡ item = ap (λ (j : ItemJob). j.item) copy.1 in
    ((ap (state_of r.jobs) node ∙ copy.0, copy.1 ∙ ap (job_after plan (take r.front (inputs_of history))) (sym node)), node)

pub copy_out_now : (state : CoreState) (item : ℕ) (job : Job) → IsCopyOf state item (Some job) → IsOutNow state (job_in job) × (job.node ≡ item)
copy_out_now state item job copy = copy_from state.plan state.history state.round item job copy

-- an item without a copy isn't out
not_from : (plan : PlanShape) (history : List Entry) (round : Option Round) (item : ℕ) → IsCopyOf (core_of plan history round) item None → state_of (jobs_in round) item ≢ Out
not_from plan history None item none out = let clean : Clean ≡ Out = out in absurd (cc)
not_from plan history (Some r) item none out = none r refl out

pub not_out_now : (state : CoreState) (item : ℕ) → IsCopyOf state item None → state_of (jobs_now state) item ≢ Out
not_out_now state item none = not_from state.plan state.history state.round item none

-- a copy of a round's job is one of the core's
copied_from : {E : Type 0} (plan : PlanShape) (history : List Entry) (r : OpenRound) (item : ℕ) (reply : Result (Option Job) E) → IfOk reply (IsCopyOut plan (inputs_under history r) (round_in r) item) → IfOk reply (IsCopyOf (state_of_parts plan history (Some r)) item)
copied_from plan history r item (Err e) copy = copy
copied_from plan history r item (Ok None) copy = λ o same. subst (λ (q : Round). IsCopyOut plan (take q.front (inputs_of history)) q item None) (let one : round_in r ≡ o = cc in one) copy
copied_from plan history r item (Ok (Some job)) copy = copy

pub copied : {E : Type 0} (plan : PlanShape) (history : List Entry) (round : Option OpenRound) (r : OpenRound) (item : ℕ) (reply : Result (Option Job) E) → round ≡ Some r
    → IfOk reply (IsCopyOut plan (inputs_under history r) (round_in r) item) → IfOk reply (IsCopyOf (state_of_parts plan history round) item)
copied plan history round r item reply is copy = subst (λ (o : Option OpenRound). IfOk reply (IsCopyOf (state_of_parts plan history o) item)) (sym is) (copied_from plan history r item reply copy)

-- a job that was put back isn't out
pub is_back : (old new : CoreState) (item node : ℕ) → new ≡ with_state_of old item Waiting → state_of (jobs_now old) item ≡ Out → item ≡ node → IsBack node (jobs_now old) (jobs_now new)
is_back old new item node e out same = record {
  here = λ is. (let never : Waiting ≡ Out = sym (get_or-set_same (jobs_now old) item Waiting Clean (within_jobs (jobs_now old) item Out out refl)) ∙ sym (ap (λ (js : List JobState). state_of js item) jobs) ∙ ap (state_of (jobs_now new)) same ∙ is in cc);
  others = λ other was is. (elim (cases_eq other item) [
    | inl here ↦ was (ap (state_of (jobs_now old)) here ∙ out)
    | inr there ↦ was (sym (get_or-set_other (jobs_now old) item other Waiting Clean there) ∙ sym (ap (λ (js : List JobState). state_of js other) jobs) ∙ is)
  ]);
}
  where
    jobs : jobs_now new ≡ slice_set (jobs_now old) item Waiting
    jobs = jobs_with old new item Waiting e

-- a job that was handed out is out
taken_from : (plan : PlanShape) (history : List Entry) (round : Option Round) (mid : CoreState) (job : Job) → Takes (core_of plan history round) (Handed job) mid
    → IsTrue (is_ready plan.parents (jobs_in round) job.node) × (mid ≡ with_state_of (core_of plan history round) job.node Out) × IsOutNow mid (job_in job)
    × (job_in job ≡ job_after plan (take (next_front (core_of plan history round)) (inputs_of history)) job.node)
taken_from plan history None mid job taken = absurd taken
taken_from plan history (Some r) mid job taken =
    let waits : state_of r.jobs job.node ≡ Waiting = ready_waits plan.parents r.jobs job.node taken.0 in
    (taken.0, taken.2, subst (λ (s : CoreState). IsOutNow s (job_in job)) (sym taken.2) (get_or-set_same r.jobs job.node Out Clean (within_jobs r.jobs job.node Waiting waits refl), taken.1), taken.1)

pub taken_out : (old mid : CoreState) (job : Job) → Takes old (Handed job) mid
    → IsTrue (is_ready old.plan.parents (jobs_now old) job.node) × (mid ≡ with_state_of old job.node Out) × IsOutNow mid (job_in job)
    × (job_in job ≡ job_after old.plan (take (next_front old) (inputs_of old.history)) job.node)
taken_out old mid job taken = taken_from old.plan old.history old.round mid job taken

-- a place that is set twice has what was set last
set_twice : {X : Type 0} (xs : List X) (k : ℕ) (one two : X) → slice_set (slice_set xs k one) k two ≡ slice_set xs k two
set_twice [] k one two = refl
set_twice (x ∷ xs) zero one two = refl
set_twice {X} (x ∷ xs) (suc k) one two = ap (λ (ys : List X). x ∷ ys) (set_twice xs k one two)

twice_from : (plan : PlanShape) (history : List Entry) (round : Option Round) (item : ℕ) (one two : JobState)
    → with_state_of (with_state_of (core_of plan history round) item one) item two ≡ with_state_of (core_of plan history round) item two
twice_from plan history None item one two = refl
twice_from plan history (Some r) item one two = ap (λ (js : List JobState). with_jobs (core_of plan history (Some r)) js) (set_twice r.jobs item one two)

-- a job that is handed out and done is done
pub twice : (old mid new : CoreState) (item : ℕ) (one two : JobState) → mid ≡ with_state_of old item one → new ≡ with_state_of mid item two → new ≡ with_state_of old item two
twice old mid new item one two first second = second ∙ ap (λ (s : CoreState). with_state_of s item two) first ∙ twice_from old.plan old.history old.round item one two

-- a job that is handed out and comes back is one that waited
pub back_fewer : (old mid new : CoreState) (job : Job) → Takes old (Handed job) mid → new ≡ with_state_of mid job.node Waiting → NoMoreOut (jobs_now old) (jobs_now new)
back_fewer old mid new job taken e other was is =
    elim (cases_eq other job.node) [
      | inl here ↦ (let never : Waiting ≡ Out = sym (get_or-set_same (jobs_now old) job.node Waiting Clean (within_jobs (jobs_now old) job.node Waiting waits refl)) ∙ sym (ap (λ (js : List JobState). state_of js job.node) jobs) ∙ ap (state_of (jobs_now new)) (sym here) ∙ is in absurd (cc))
      | inr there ↦ was (sym (get_or-set_other (jobs_now old) job.node other Waiting Clean there) ∙ sym (ap (λ (js : List JobState). state_of js other) jobs) ∙ is)
    ]
  where
    waits : state_of (jobs_now old) job.node ≡ Waiting
    waits = ready_waits old.plan.parents (jobs_now old) job.node (taken_out old mid job taken).0

    jobs : jobs_now new ≡ slice_set (jobs_now old) job.node Waiting
    jobs = jobs_with old new job.node Waiting (twice old mid new job.node Out Waiting (taken_out old mid job taken).1 e)

-- one job done leaves so much less
left_from : (plan : PlanShape) (history : List Entry) (round : Option Round) (item : ℕ) → IsSound (core_of plan history round) → is_left (jobs_in round) item ≡ true
    → steps_left (with_state_of (core_of plan history round) item Done) + item_steps (core_of plan history round) (next_front (core_of plan history round)) item ≡ steps_left (core_of plan history round)
left_from plan history None item sound left = let clean : false ≡ true = left in absurd (cc)
left_from plan history (Some r) item sound left =
    let within : item < length r.jobs = left_within r.jobs item left in
    cost_done (item_steps (core_of plan history (Some r)) r.front) r.jobs item (length plan.parents) (omega (arith, within, (sound.round r refl).items)) within left

pub left_done : (old new : CoreState) (item : ℕ) → IsSound old → is_left (jobs_now old) item ≡ true → new ≡ with_state_of old item Done → steps_left new + item_steps old (next_front old) item ≡ steps_left old
left_done old new item sound left e =
    ap (λ (s : CoreState). steps_left s + item_steps old (next_front old) item) e ∙ left_from old.plan old.history old.round item sound left

-- the steps of a job are those of its item
pub job_steps : (old : CoreState) (job : Job) → job_in job ≡ job_after old.plan (take (next_front old) (inputs_of old.history)) job.node → work_steps job ≡ item_steps old (next_front old) job.node
job_steps old job is = ap (λ (j : ItemJob). most_steps_of j.work) is

-- a job that is ready is left
pub ready_left : (parents : List (Option ℕ)) (jobs : List JobState) (item : ℕ) → IsTrue (is_ready parents jobs item) → is_left jobs item ≡ true
ready_left parents jobs item ready = ap is_unfinished (ready_waits parents jobs item ready)

-- one job was run
pub ran_one : (old mid new : CoreState) (job : Job) (before after : ℕ) → IsSound old → Takes old (Handed job) mid → new ≡ with_state_of mid job.node Done → after ≤ before + work_steps job → RunsItem old new before after
ran_one old mid new job before after sound taken done steps =
    let out = taken_out old mid job taken in
    let left : is_left (jobs_now old) job.node ≡ true = ready_left old.plan.parents (jobs_now old) job.node out.0 in
    let set : new ≡ with_state_of old job.node Done = twice old mid new job.node Out Done out.1 done in
    let less = left_done old new job.node sound left set in
    let same = job_steps old job out.3 in
    record { item = job.node; left = left; done = set; steps = omega (arith, steps, less, same) }

-- what one job takes isn't more than what is left
pub steps_within : (old mid : CoreState) (job : Job) (before after : ℕ) → IsSound old → Takes old (Handed job) mid → after ≤ before + work_steps job → after ≤ before + steps_left old
steps_within old mid job before after sound taken steps =
    let out = taken_out old mid job taken in
    let left : is_left (jobs_now old) job.node ≡ true = ready_left old.plan.parents (jobs_now old) job.node out.0 in
    let less = left_done old (with_state_of old job.node Done) job.node sound left refl in
    let same = job_steps old job out.3 in
    omega (arith, steps, less, same)

-- no job is out once one that was left is done
pub none_out_done : (old new : CoreState) (item : ℕ) → NoneOut (jobs_now old) → is_left (jobs_now old) item ≡ true → new ≡ with_state_of old item Done → NoneOut (jobs_now new)
none_out_done old new item none left e other is =
    elim (cases_eq other item) [
      | inl here ↦ (let never : Done ≡ Out = sym (get_or-set_same (jobs_now old) item Done Clean (left_within (jobs_now old) item left)) ∙ sym (ap (λ (js : List JobState). state_of js item) jobs) ∙ ap (state_of (jobs_now new)) (sym here) ∙ is in cc)
      | inr there ↦ none other (sym (get_or-set_other (jobs_now old) item other Done Clean there) ∙ sym (ap (λ (js : List JobState). state_of js other) jobs) ∙ is)
    ]
  where
    jobs : jobs_now new ≡ slice_set (jobs_now old) item Done
    jobs = jobs_with old new item Done e

-- what was made of a job is of that job
pub made_of : (job : Job) (made : Compiled) → (made.front ≡ job.front) × (made.node ≡ job.node) × (made.reference ≡ job.reference) × (made.work ≡ job.work) → job_made made ≡ job_in job
made_of job made same =
    ap (λ (n : ℕ). job_of n made.node made.reference.0 (work_in made.work)) same.0
    ∙ ap (λ (n : ℕ). job_of job.front n made.reference.0 (work_in made.work)) same.1
    ∙ ap (λ (y : Year). job_of job.front job.node y.0 (work_in made.work)) same.2
    ∙ ap (λ (w : Work). job_of job.front job.node job.reference.0 (work_in w)) same.3

-- a round has no more jobs than the plan has items
jobs_within : (plan : PlanShape) (history : List Entry) (round : Option Round) → IsSound (core_of plan history round) → length (jobs_in round) ≤ length plan.parents
jobs_within plan history None sound = omega arith
jobs_within plan history (Some r) sound = omega (arith, (sound.round r refl).items)

-- no job is out once none of the plan's items is
pub none_out_all : (old state : CoreState) (count item : ℕ) → IsSound state → state.plan ≡ old.plan → count ≡ length old.plan.parents → ((other : ℕ) → other < count → state_of (jobs_now state) other ≢ Out) → state_of (jobs_now state) item ≢ Out
none_out_all old state count item sound plan all none is =
    none item (omega (arith, within_jobs (jobs_now state) item Out is refl, jobs_within state.plan state.history state.round sound, ap (λ (p : PlanShape). length p.parents) plan, all)) is

-- no job is out once a job was run, or none was ready
pub none_out_next : (core new : CoreState) (more : Bool) (before after : ℕ) → NoneOut (jobs_now core) → RunsOne core more new before after → NoneOut (jobs_now new)
none_out_next core new true before after none run = none_out_done core new run.item none run.left run.done
none_out_next core new false before after none run = subst (λ (s : CoreState). NoneOut (jobs_now s)) (sym run.same) none

pub steps_next : (core new : CoreState) (more : Bool) (before after : ℕ) → RunsOne core more new before after → after + steps_left new ≤ before + steps_left core
steps_next core new true before after run = run.steps
steps_next core new false before after run = omega (arith, run.steps, ap steps_left run.same)

-- so many jobs are left, and one more look is made
abbrev pub to_run : CoreState → Bool → ℕ
to_run state true = suc (count_by is_unfinished (jobs_now state))
to_run state false = count_by is_unfinished (jobs_now state)

pub fewer_next : (core new : CoreState) (more : Bool) (before after : ℕ) → RunsOne core more new before after → to_run new more < to_run core true
fewer_next core new true before after run =
    let fewer = count_done (jobs_now core) run.item run.left in
    let now : count_by is_unfinished (jobs_now new) ≡ count_by is_unfinished (slice_set (jobs_now core) run.item Done) = ap (count_by is_unfinished) (jobs_with core new run.item Done run.done) in
    omega (arith, fewer, now)
fewer_next core new false before after run =
    let now : count_by is_unfinished (jobs_now new) ≡ count_by is_unfinished (jobs_now core) = ap (λ (s : CoreState). count_by is_unfinished (jobs_now s)) run.same in
    omega (arith, now)
