-- A job that is handed out, comes back or is done: a step of the core, which keeps what holds of it.
use Rattle.std.proofs.Common.{◌≡◌, ◌∙◌, ap, sym, refl, subst, ℕ, ◌<◌, ◌&&◌, Bool, true, false, List, length, take, Option, Some, None, arith}
use Rattle.std.proofs.Math.ListN.{length-set}
use Rattle.std.proofs.lemmas.List.{get_or-set_same, get_or-set_other}
use Rattle.std.specs.Prelude.{IsTrue, not, ◌≢◌}
use Rattle.std.specs.Option.{IsSomeAnd, option_map}
use Rattle.series_tables.specs.Cells.{Rows}
use Rattle.series_tables.specs.Plan.{PlanShape}
use Rattle.series_tables.specs.declared.input.Input.{Input}
use Rattle.dirty_plan.specs.Round.{is_job, is_ready, is_waiting, has_unfinished_child, state_of}
use Rattle.dirty_plan.specs.declared.job.JobState.{JobState}
use Rattle.dirty_plan.specs.declared.job.JobState.TheVariants.{Clean, Waiting, Out, Done}
use Rattle.vintage_board.specs.Board.{BoardOf, with_staged}
use Rattle.accounts_history.specs.History.{inputs_of}
use Rattle.accounts_history.specs.declared.entry.Entry.{Entry}
use Rattle.round_works.specs.Jobs.{ItemJob, job_in, job_made}
use Rattle.round_works.specs.Rounds.{HandsOut, IsOut, IsRoundOver, Round, round_in, with_job}
use Rattle.round_works.specs.Tables.{shared_table}
use Rattle.round_works.specs.Works.{table_after}
use Rattle.round_works.specs.declared.round.OpenRound.{OpenRound}
use Rattle.round_works.specs.declared.work.Compiled.{Compiled}
use Rattle.round_works.specs.declared.work.Job.{Job}
use Rattle.accounts_core.specs.Kept.{AreTouched, IsKept, IsOpen, IsStaged, Shared, staged_at}
use Rattle.accounts_core.specs.State.{CoreState, IsOutNow}
use Rattle.accounts_core.specs.Step.{HandsIn, IsNoneReady, PutsBack, Takes, taken_of}
use Rattle.accounts_core.specs.declared.replies.Take.TheVariants.{NoneReady, Job as Handed}
use Rattle.accounts_core.specs.declared.replies.Take.{Take as TakeReply}
use Rattle.accounts_core.specs.declared.replies.Done.TheVariants.{NotOut as NotMadeOut, Kept as KeptMade}
use Rattle.accounts_core.specs.declared.replies.PutBack.TheVariants.{NotOut as NotOutJob, Kept as KeptJob}
use Rattle.accounts_core.proofs.Lists.{within_jobs}
use Rattle.accounts_core.proofs.Rounds.{item_within, open_set, round_kept}

-- the core of a plan with this history and this round
abbrev pub state_of_parts : PlanShape → List Entry → Option OpenRound → CoreState
state_of_parts plan history round = record { plan = plan; history = history; round = option_map round_in round }

-- the inputs that a round is over
abbrev pub inputs_under : List Entry → OpenRound → List Input
inputs_under history r = take (round_in r).front (inputs_of history)

same_state : (plan : PlanShape) (history : List Entry) (one other : Round) → one ≡ other
    → (let state : CoreState = record { plan = plan; history = history; round = Some one } in state) ≡ record { plan = plan; history = history; round = Some other }
same_state plan history one other same = ap (λ (o : Round). let state : CoreState = record { plan = plan; history = history; round = Some o } in state) same

-- a job that is ready waits
pub ready_waits : (parents : List (Option ℕ)) (jobs : List JobState) (item : ℕ) → IsTrue (is_ready parents jobs item) → state_of jobs item ≡ Waiting
ready_waits parents jobs item ready = by (state_of jobs item) (has_unfinished_child parents jobs item) ready
  where
    by : (s : JobState) (b : Bool) → (is_waiting s && not b) ≡ true → s ≡ Waiting
    by Waiting b h = refl
    by Clean b h = absurd (cc)
    by Out b h = absurd (cc)
    by Done b h = absurd (cc)

-- a round that hands a job out, or none
pub take_kept : (plan : PlanShape) (history : List Entry) (accepted : ℕ) (rows : Rows) (board : BoardOf Shared) (round : Option OpenRound) (r new : OpenRound) (job : Option Job)
    → IsKept plan history accepted rows board round → round ≡ Some r → HandsOut plan (inputs_under history r) (round_in r) job (round_in new) → IsRoundOver plan (inputs_under history r) new
    → IsKept plan history accepted rows board (Some new)
take_kept plan history accepted rows board round r new None kept is hands over =
    let is_open = kept.open_round r is in
    round_kept plan history accepted rows board board round r new kept refl refl refl (ap (λ (o : Round). o.front) hands.1)
    (record {
      over = over;
      above = subst (λ (o : Round). board.front < o.front) (sym hands.1) is_open.above;
      touched = subst (λ (o : Round). AreTouched plan board.front (inputs_under history r) o.jobs) (sym hands.1) is_open.touched;
      staged = λ item inside. subst (λ (o : Round). IsStaged plan (inputs_under history r) item (state_of o.jobs item) (staged_at board item)) (sym hands.1) (is_open.staged item inside);
    })
take_kept plan history accepted rows board round r new (Some job) kept is hands over =
    round_kept plan history accepted rows board board round r new kept refl refl refl (ap (λ (o : Round). o.front) hands.2)
    (open_set plan board.front (inputs_under history r) board board r new job.node Out is_open hands.2 over (sym (ap is_job waits)) within
    (subst (λ (s : JobState). IsStaged plan (inputs_under history r) job.node s (staged_at board job.node)) waits (is_open.staged job.node inside))
    (λ item other. refl))
  where
    is_open : IsOpen plan board.front (inputs_under history r) board r
    is_open = kept.open_round r is

    waits : state_of (round_in r).jobs job.node ≡ Waiting
    waits = ready_waits plan.parents (round_in r).jobs job.node hands.0

    within : job.node < length (round_in r).jobs
    within = within_jobs (round_in r).jobs job.node Waiting waits refl

    inside : job.node < length plan.names
    inside = item_within plan board.front (inputs_under history r) board r job.node Waiting is_open waits refl

-- the answer to a round that hands a job out, or none
pub take_step : (plan : PlanShape) (history : List Entry) (round : Option OpenRound) (r new : OpenRound) (job : Option Job) (reply : TakeReply) → round ≡ Some r → reply ≡ taken_of job
    → HandsOut plan (inputs_under history r) (round_in r) job (round_in new) → Takes (state_of_parts plan history round) reply (state_of_parts plan history (Some new))
take_step plan history round r new job reply is e hands =
    subst (λ (o : Option OpenRound). Takes (state_of_parts plan history o) reply (state_of_parts plan history (Some new))) (sym is)
    (subst (λ (t : TakeReply). Takes (state_of_parts plan history (Some r)) t (state_of_parts plan history (Some new))) (sym e) (by job hands))
  where
    by : (o : Option Job) → HandsOut plan (inputs_under history r) (round_in r) o (round_in new) → Takes (state_of_parts plan history (Some r)) (taken_of o) (state_of_parts plan history (Some new))
    by None h = (
      λ q same. subst (λ (o : Round). IsNoneReady (state_of_parts plan history (Some r)) o) (let one : round_in r ≡ q = cc in one) h.0,
      same_state plan history (round_in new) (round_in r) h.1,
    )
    by (Some j) h = (h.0, h.1, same_state plan history (round_in new) (with_job (round_in r) j.node Out) h.2)

-- a job that is out comes back
pub back_kept : (plan : PlanShape) (history : List Entry) (accepted : ℕ) (rows : Rows) (board : BoardOf Shared) (round : Option OpenRound) (r new : OpenRound) (job : Job)
    → IsKept plan history accepted rows board round → round ≡ Some r → IsOut plan (inputs_under history r) (round_in r) (job_in job)
    → round_in new ≡ with_job (round_in r) job.node Waiting → IsRoundOver plan (inputs_under history r) new → IsKept plan history accepted rows board (Some new)
back_kept plan history accepted rows board round r new job kept is out set over =
    round_kept plan history accepted rows board board round r new kept refl refl refl (ap (λ (o : Round). o.front) set)
    (open_set plan board.front (inputs_under history r) board board r new job.node Waiting is_open set over (sym (ap is_job out.0)) (within_jobs (round_in r).jobs job.node Out out.0 refl)
    (subst (λ (s : JobState). IsStaged plan (inputs_under history r) job.node s (staged_at board job.node)) out.0
    (is_open.staged job.node (item_within plan board.front (inputs_under history r) board r job.node Out is_open out.0 refl)))
    (λ item other. refl))
  where
    is_open : IsOpen plan board.front (inputs_under history r) board r
    is_open = kept.open_round r is

pub back_step : (plan : PlanShape) (history : List Entry) (round : Option OpenRound) (r new : OpenRound) (job : Job) → round ≡ Some r → IsOut plan (inputs_under history r) (round_in r) (job_in job)
    → round_in new ≡ with_job (round_in r) job.node Waiting → PutsBack (state_of_parts plan history round) job KeptJob (state_of_parts plan history (Some new))
back_step plan history round r new job is out set =
    subst (λ (o : Option OpenRound). PutsBack (state_of_parts plan history o) job KeptJob (state_of_parts plan history (Some new))) (sym is)
    (out, same_state plan history (round_in new) (with_job (round_in r) job.node Waiting) set)

-- a job that isn't out in the open round isn't out
pub not_out : (plan : PlanShape) (history : List Entry) (round : Option OpenRound) (r : OpenRound) (job : ItemJob) → round ≡ Some r → (IsOut plan (inputs_under history r) (round_in r) job → ⊥)
    → IsOutNow (state_of_parts plan history round) job → ⊥
not_out plan history round r job is never = subst (λ (o : Option OpenRound). IsOutNow (state_of_parts plan history o) job → ⊥) (sym is) never

-- what was made of a job that is out is kept
pub done_kept : (plan : PlanShape) (history : List Entry) (accepted : ℕ) (rows : Rows) (board next : BoardOf Shared) (round : Option OpenRound) (r new : OpenRound) (made : Compiled) (table : Shared)
    → IsKept plan history accepted rows board round → round ≡ Some r → IsOut plan (inputs_under history r) (round_in r) (job_made made)
    → round_in new ≡ with_job (round_in r) made.node Done → IsRoundOver plan (inputs_under history r) new
    → shared_table table ≡ table_after plan (inputs_under history r) made.node → next ≡ with_staged board made.node table
    → IsKept plan history accepted rows next (Some new)
done_kept plan history accepted rows board next round r new made table kept is out set over worth staged =
    subst (λ (b : BoardOf Shared). IsKept plan history accepted rows b (Some new)) (sym staged)
    (round_kept plan history accepted rows board (with_staged board made.node table) round r new kept refl refl (length-set board.staged made.node (Some table)) (ap (λ (o : Round). o.front) set)
    (open_set plan board.front (inputs_under history r) board (with_staged board made.node table) r new made.node Done is_open set over (sym (ap is_job out.0))
    (within_jobs (round_in r).jobs made.node Out out.0 refl) here
    (λ item other. get_or-set_other board.staged made.node item (Some table) None other)))
  where
    is_open : IsOpen plan board.front (inputs_under history r) board r
    is_open = kept.open_round r is

    inside : made.node < length plan.names
    inside = item_within plan board.front (inputs_under history r) board r made.node Out is_open out.0 refl

    here : IsStaged plan (inputs_under history r) made.node Done (staged_at (with_staged board made.node table) made.node)
    here =
        subst (λ (o : Option Shared). IsStaged plan (inputs_under history r) made.node Done o)
        (sym (get_or-set_same board.staged made.node (Some table) None (omega (arith, inside, kept.published.staged)))) worth

pub done_step : (plan : PlanShape) (history : List Entry) (round : Option OpenRound) (r new : OpenRound) (made : Compiled) → round ≡ Some r → IsOut plan (inputs_under history r) (round_in r) (job_made made)
    → round_in new ≡ with_job (round_in r) made.node Done → HandsIn (state_of_parts plan history round) made KeptMade (state_of_parts plan history (Some new))
done_step plan history round r new made is out set =
    subst (λ (o : Option OpenRound). HandsIn (state_of_parts plan history o) made KeptMade (state_of_parts plan history (Some new))) (sym is)
    (out, same_state plan history (round_in new) (with_job (round_in r) made.node Done) set)
