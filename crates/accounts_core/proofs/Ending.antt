-- A round's jobs come to an end, and the round is published.
use Rattle.std.proofs.Common.{◌≡◌, ◌∙◌, ap, sym, refl, subst, inl, inr, ℕ, zero, suc, ◌+◌, ◌≤◌, ◌<◌, Bool, true, false, ◌||◌, ◌&&◌, cond, List, [], ◌∷◌, ◌++◌, length, map, drop, take, get_or, Option, Some, None, arith, append_assoc, append-nil}
use Rattle.std.specs.Prelude.{All, Err, IsFalse, IsTrue, Ok, OnErr, OnOk, Result, not, ◌≢◌}
use Rattle.std.specs.List.{list_any}
use Rattle.std.proofs.lemmas.Bool.{cases_lt}
use Rattle.std.proofs.lemmas.List.{get_or-drop, get_or_past}
use Rattle.std.proofs.lemmas.List.Elements.{All-append, All-cons, All-head, All-nil, All-tail}
use Rattle.series_tables.specs.Plan.{PlanShape, is_parent}
use Rattle.series_tables.specs.Tree.{of_children}
use Rattle.series_tables.specs.declared.input.Input.{Input}
use Rattle.dirty_plan.specs.Round.{first_state, has_unfinished_child, is_job, is_left, is_ready, is_unfinished, is_waiting, opened_jobs, state_of}
use Rattle.dirty_plan.specs.Touched.{is_touched, is_touched_between, items_of}
use Rattle.dirty_plan.specs.declared.job.JobState.{JobState}
use Rattle.dirty_plan.specs.declared.job.JobState.TheVariants.{Clean, Waiting, Out, Done}
use Rattle.accounts_history.specs.History.{Sent, front_of, inputs_of, journal}
use Rattle.accounts_history.specs.declared.entry.Entry.{Entry}
use Rattle.accounts_history.specs.declared.entry.Entry.TheVariants.{Accept, Publish}
use Rattle.accounts_history.proofs.Histories.{front_of-publish, journal-publish, length-inputs_of}
use Rattle.round_works.specs.Rounds.{Round}
use Rattle.accounts_core.specs.Finishing.{HasOnlyPublished, IsPublicationOf, IsSameRound, NoMoreOut, NoneLeft, NoneOut, front_ahead, item_steps, jobs_in, jobs_now, next_front, steps_between, steps_left, steps_over, with_jobs, IsFinished, IsRoundEnded, RunsOne, steps_ahead}
use Rattle.accounts_core.specs.Sound.{IsSound}
use Rattle.accounts_core.specs.State.{CoreState, accepted, next_round, published, with_round}
use Rattle.accounts_core.specs.Step.{Begins, HasMore, Publishes}
use Rattle.accounts_core.specs.declared.replies.Begin.{Begin as BeginReply}
use Rattle.accounts_core.specs.declared.replies.Begin.TheVariants.{RoundOpen, Nothing, Opened}
use Rattle.accounts_core.specs.declared.replies.Publish.{Publish as PublishReply}
use Rattle.accounts_core.specs.declared.replies.Publish.TheVariants.{NoRound, Waiting as WaitingFor, Published}
use Rattle.accounts_core.proofs.Costs.{cost_of, cost_touched, left_within}
use Rattle.accounts_core.proofs.Running.{core_of}

-- among children that are all finished, none is open
none_open : (item : ℕ) (parents : List (Option ℕ)) (jobs : List JobState) → ((k : ℕ) → is_unfinished (get_or jobs k Clean) ≡ false) → list_any is_unfinished (of_children item parents jobs) ≡ false
none_open item [] jobs none = refl
none_open item (parent ∷ parents) [] none = refl
none_open item (parent ∷ parents) (job ∷ jobs) none = by (is_parent item parent) (none 0) (none_open item parents jobs (λ k. none (suc k)))
  where
    by : (b : Bool) → is_unfinished job ≡ false → list_any is_unfinished (of_children item parents jobs) ≡ false
        → list_any is_unfinished (cond b (job ∷ of_children item parents jobs) (of_children item parents jobs)) ≡ false
    by true head tail = ap (λ (b : Bool). b || list_any is_unfinished (of_children item parents jobs)) head ∙ tail
    by false head tail = tail

-- where none is ready and none is out, none of the last so many items is left
none_of_last : (parents : List (Option ℕ)) (jobs : List JobState) → NoneOut jobs → ((item : ℕ) → item < length jobs → IsFalse (is_ready parents jobs item)) → (last item : ℕ) → length jobs ≤ item + last → is_left jobs item ≡ false
none_of_last parents jobs none_out none_ready zero item past = ap is_unfinished (get_or_past jobs item Clean (omega (arith, past)))
none_of_last parents jobs none_out none_ready (suc last) item past = elim (cases_lt item (length jobs)) [
  | inl below ↦
      by (state_of jobs item) refl (none_ready item below)
      (none_open item (drop (suc item) parents) (drop (suc item) jobs)
      (λ k. ap is_unfinished (get_or-drop (suc item) jobs k Clean) ∙ none_of_last parents jobs none_out none_ready last (suc item + k) (omega (arith, past))))
  | inr behind ↦ ap is_unfinished (get_or_past jobs item Clean behind)
]
  where
    by : (s : JobState) → state_of jobs item ≡ s → is_ready parents jobs item ≡ false → has_unfinished_child parents jobs item ≡ false → is_left jobs item ≡ false
    by Clean e ready closed = ap is_unfinished e
    by Done e ready closed = ap is_unfinished e
    by Out e ready closed = absurd (none_out item e)
    by Waiting e ready closed = absurd (let waits : is_waiting (state_of jobs item) ≡ true = ap is_waiting e in let never : true ≡ false = sym (ap (λ (b : Bool). b && not (has_unfinished_child parents jobs item)) waits ∙ ap not closed) ∙ ready in cc)

pub none_left : (parents : List (Option ℕ)) (jobs : List JobState) → NoneOut jobs → ((item : ℕ) → item < length jobs → IsFalse (is_ready parents jobs item)) → NoneLeft jobs
none_left parents jobs none_out none_ready item = none_of_last parents jobs none_out none_ready (length jobs) item (omega arith)

-- where nothing changed, no more jobs are out
pub fewer_same : (old new : CoreState) → new ≡ old → NoMoreOut (jobs_now old) (jobs_now new)
fewer_same old new same item was is = was (ap (λ (s : CoreState). state_of (jobs_now s) item) (sym same) ∙ is)

-- where no round is open, no job is out
closed_from : (round : Option Round) → round ≡ None → NoneOut (jobs_in round)
closed_from None closed item is = (let never : Clean ≡ Out = is in absurd (cc))
closed_from (Some r) closed item is = (let no : Some r ≡ None = closed in absurd (cc))

pub closed_none_out : (state : CoreState) → state.round ≡ None → NoneOut (jobs_now state)
closed_none_out state closed = closed_from state.round closed

-- what stays the same where jobs alone stand elsewhere
pub record StaysOpen (old new : CoreState) : Type 0 where
  pub plan : new.plan ≡ old.plan
  pub history : new.history ≡ old.history
  pub front : next_front new ≡ next_front old
  pub is_open : old.round ≢ None → new.round ≢ None

stays_from : (plan : PlanShape) (history : List Entry) (round : Option Round) (new : CoreState) (jobs : List JobState) → new ≡ with_jobs (core_of plan history round) jobs → StaysOpen (core_of plan history round) new
stays_from plan history None new jobs e = record {
  plan = ap (λ (s : CoreState). s.plan) e;
  history = ap (λ (s : CoreState). s.history) e;
  front = ap next_front e;
  is_open = λ none. absurd (none refl);
}
stays_from plan history (Some r) new jobs e = record {
  plan = ap (λ (s : CoreState). s.plan) e;
  history = ap (λ (s : CoreState). s.history) e;
  front = ap next_front e;
  is_open = λ some none. (let never : Some (record { front = r.front; jobs = jobs }) ≡ None = sym (ap (λ (s : CoreState). s.round) e) ∙ none in cc);
}

pub stays_open : (old new : CoreState) → IsSameRound old new → StaysOpen old new
stays_open old new same = stays_from old.plan old.history old.round new (jobs_now new) same

pub stays_join : (old between new : CoreState) → StaysOpen old between → StaysOpen between new → StaysOpen old new
stays_join old between new first second = record {
  plan = second.plan ∙ first.plan;
  history = second.history ∙ first.history;
  front = second.front ∙ first.front;
  is_open = λ some. second.is_open (first.is_open some);
}

-- where more was accepted than is published, not all is finished
pub more_unfinished : (state : CoreState) → HasMore state → ¬ IsFinished state
more_unfinished state more done = more.1 (sym done.all)

-- where a round was open or is begun, not all was finished
unfinished_from : (plan : PlanShape) (history : List Entry) (round : Option Round) (new : CoreState) (reply : BeginReply) → Begins (core_of plan history round) reply new → ((front : ℕ) → reply ≢ Nothing front) → ¬ IsFinished (core_of plan history round)
unfinished_from plan history round new (Nothing front) begins never done = never front refl
unfinished_from plan history None new (RoundOpen front) begins never done = absurd (begins.0)
unfinished_from plan history (Some r) new (RoundOpen front) begins never done = (let no : Some r ≡ None = done.closed in absurd (cc))
unfinished_from plan history round new (Opened front jobs) begins never done = begins.1 (sym done.all)

pub begun_unfinished : (old new : CoreState) (reply : BeginReply) → Begins old reply new → ((front : ℕ) → reply ≢ Nothing front) → ¬ IsFinished old
begun_unfinished old new reply begins never = unfinished_from old.plan old.history old.round new reply begins never

-- no job of a round that begins is out
none_opened : (test : ℕ → Bool) (items : List ℕ) (item : ℕ) → state_of (map (λ i. first_state (test i)) items) item ≢ Out
none_opened test [] item is = (let never : Clean ≡ Out = is in absurd (cc))
none_opened test (i ∷ items) zero is = by (test i) is
  where
    by : (b : Bool) → first_state b ≢ Out
    by true e = absurd (cc)
    by false e = absurd (cc)
none_opened test (i ∷ items) (suc item) is = none_opened test items item is

opened_none_out : (plan : PlanShape) (is_named : ℕ → Bool) → NoneOut (opened_jobs plan is_named)
unfolding opened_jobs
opened_none_out plan is_named item = none_opened (is_touched plan is_named) (items_of plan) item

-- beginning hands no job out
fewer_from : (plan : PlanShape) (history : List Entry) (round : Option Round) (new : CoreState) (reply : BeginReply) → Begins (core_of plan history round) reply new → NoMoreOut (jobs_in round) (jobs_now new)
fewer_from plan history round new (Nothing front) begins = fewer_same (core_of plan history round) new begins.3
fewer_from plan history round new (RoundOpen front) begins = fewer_same (core_of plan history round) new begins.1
fewer_from plan history round new (Opened front jobs) begins = λ item was is.
    opened_none_out plan _ item (ap (λ (s : CoreState). state_of (jobs_now s) item) (sym begins.4) ∙ is)

pub begun_fewer : (old new : CoreState) (reply : BeginReply) → Begins old reply new → NoMoreOut (jobs_now old) (jobs_now new)
begun_fewer old new reply begins = fewer_from old.plan old.history old.round new reply begins

-- a round is open once it was begun
begun_from : (plan : PlanShape) (history : List Entry) (round : Option Round) (new : CoreState) (reply : BeginReply) → Begins (core_of plan history round) reply new → ((front : ℕ) → reply ≢ Nothing front)
    → (new.round ≢ None) × (new.plan ≡ plan) × (new.history ≡ history) × (next_front new ≡ next_front (core_of plan history round))
begun_from plan history round new (Nothing front) begins never = absurd (never front refl)
begun_from plan history None new (RoundOpen front) begins never = absurd (begins.0)
begun_from plan history (Some r) new (RoundOpen front) begins never = (
  (λ none. (let no : Some r ≡ None = sym (ap (λ (s : CoreState). s.round) begins.1) ∙ none in cc)),
  ap (λ (s : CoreState). s.plan) begins.1,
  ap (λ (s : CoreState). s.history) begins.1,
  ap next_front begins.1,
)
begun_from plan history None new (Opened front jobs) begins never = (
  (λ none. (let no : Some (next_round (core_of plan history None)) ≡ None = sym (ap (λ (s : CoreState). s.round) begins.4) ∙ none in cc)),
  ap (λ (s : CoreState). s.plan) begins.4,
  ap (λ (s : CoreState). s.history) begins.4,
  ap next_front begins.4,
)
begun_from plan history (Some r) new (Opened front jobs) begins never = absurd (let no : Some r ≡ None = begins.0 in cc)

pub begun_open : (old new : CoreState) (reply : BeginReply) → Begins old reply new → ((front : ℕ) → reply ≢ Nothing front)
    → (new.round ≢ None) × (new.plan ≡ old.plan) × (new.history ≡ old.history) × (next_front new ≡ next_front old)
begun_open old new reply begins never = begun_from old.plan old.history old.round new reply begins never

-- a round whose jobs are all done is published
ended_from : (plan : PlanShape) (history : List Entry) (round : Option Round) (new : CoreState) (party : ℕ) (reply : PublishReply) → Publishes (core_of plan history round) party reply new → round ≢ None → NoneLeft (jobs_in round)
    → (published new ≡ next_front (core_of plan history round)) × (new.round ≡ None) × HasOnlyPublished party (core_of plan history round) new
ended_from plan history None new party reply publishes some none = absurd (some refl)
ended_from plan history (Some r) new party NoRound publishes some none = absurd (some publishes.0)
ended_from plan history (Some r) new party (WaitingFor item) publishes some none = absurd (let never : false ≡ true = sym (none item) ∙ publishes.0.passes in cc)
ended_from plan history (Some r) new party (Published front) publishes some none = (
  ap (λ (s : CoreState). published s) publishes.2 ∙ front_of-publish history party r.front _,
  ap (λ (s : CoreState). s.round) publishes.2,
  record {
    plan = ap (λ (s : CoreState). s.plan) publishes.2;
    journal = ap (λ (s : CoreState). journal s.history) publishes.2 ∙ journal-publish history party r.front _;
    added = Publish party r.front _ ∷ [];
    publications = All-cons (IsPublicationOf party) (Publish party r.front _) [] refl (All-nil (IsPublicationOf party));
    history = ap (λ (s : CoreState). s.history) publishes.2;
  },
)

pub ended : (old new : CoreState) (party : ℕ) (reply : PublishReply) → Publishes old party reply new → old.round ≢ None → NoneLeft (jobs_now old)
    → (published new ≡ next_front old) × (new.round ≡ None) × HasOnlyPublished party old new
ended old new party reply publishes some none = ended_from old.plan old.history old.round new party reply publishes some none

-- the steps of what is left are at most those of what was touched
touched_from : (plan : PlanShape) (history : List Entry) (round : Option Round) → IsSound (core_of plan history round) → round ≢ None
    → steps_left (core_of plan history round) ≤ steps_between (core_of plan history round) (published (core_of plan history round)) (next_front (core_of plan history round))
touched_from plan history None sound some = absurd (some refl)
touched_from plan history (Some r) sound some =
    cost_touched (item_steps (core_of plan history (Some r)) r.front) r.jobs (is_touched_between plan (inputs_of history) (front_of history) r.front) (items_of plan)
    (λ item left.
    let within : item < length r.jobs = left_within r.jobs item left in
    let inside : item < length plan.parents = omega (arith, within, (sound.round r refl).items) in
    sym ((sound.round r refl).touched item inside) ∙ unfinished_job (state_of r.jobs item) left)
  where
    unfinished_job : (s : JobState) → is_unfinished s ≡ true → is_job s ≡ true
    unfinished_job Clean e = e
    unfinished_job Waiting e = refl
    unfinished_job Out e = refl
    unfinished_job Done e = refl

pub left_touched : (state : CoreState) → IsSound state → state.round ≢ None → steps_left state ≤ steps_between state (published state) (next_front state)
left_touched state sound some = touched_from state.plan state.history state.round sound some

-- what rests on the plan and the history alone
pub steps_as : (old new : CoreState) (front : ℕ) → new.plan ≡ old.plan → new.history ≡ old.history → next_front new ≡ front
    → steps_between new (published new) (next_front new) ≡ steps_between old (published old) front
steps_as old new front plan history same =
    ap (λ (p : PlanShape). steps_over p (inputs_of new.history) (front_of new.history) (next_front new)) plan
    ∙ ap (λ (h : List Entry). steps_over old.plan (inputs_of h) (front_of h) (next_front new)) history
    ∙ ap (λ (n : ℕ). steps_over old.plan (inputs_of old.history) (front_of old.history) n) same

-- nothing was published
pub only_none : (old new : CoreState) → new.plan ≡ old.plan → new.history ≡ old.history → HasOnlyPublished 0 old new
only_none old new plan history = record { plan = plan; journal = ap journal history; added = []; publications = All-nil (IsPublicationOf 0); history = history ∙ sym (append-nil old.history) }

pub only_join : (old between new : CoreState) → HasOnlyPublished 0 old between → HasOnlyPublished 0 between new → HasOnlyPublished 0 old new
only_join old between new first second = record {
  plan = second.plan ∙ first.plan;
  journal = second.journal ∙ first.journal;
  added = first.added ++ second.added;
  publications = All-append (IsPublicationOf 0) first.added second.added first.publications second.publications;
  history = second.history ∙ ap (λ (h : List Entry). h ++ second.added) first.history ∙ append_assoc old.history first.added second.added;
}

-- publications bring no inputs
pub same_inputs : (old new : CoreState) → HasOnlyPublished 0 old new → inputs_of new.history ≡ inputs_of old.history
same_inputs old new only = ap (map (λ (sent : Sent). sent.input)) only.journal

pub same_accepted : (old new : CoreState) → HasOnlyPublished 0 old new → accepted new ≡ accepted old
same_accepted old new only = sym (length-inputs_of new.history) ∙ ap (λ (inputs : List Input). length inputs) (same_inputs old new only) ∙ length-inputs_of old.history

-- what was published after nothing was
pub only_after : (old between new : CoreState) → between.plan ≡ old.plan → between.history ≡ old.history → HasOnlyPublished 0 between new → HasOnlyPublished 0 old new
only_after old between new plan history only = record {
  plan = only.plan ∙ plan;
  journal = only.journal ∙ ap journal history;
  added = only.added;
  publications = only.publications;
  history = only.history ∙ ap (λ (h : List Entry). h ++ only.added) history;
}

-- none is left once none is ready
pub ended_next : (core new : CoreState) (more : Bool) (before after : ℕ) → NoneOut (jobs_now core) → RunsOne core more new before after → more ≡ false → NoneLeft (jobs_now new)
ended_next core new true before after none run e = absurd (cc)
ended_next core new false before after none run e =
    subst (λ (s : CoreState). NoneLeft (jobs_now s)) (sym run.same) (none_left core.plan.parents (jobs_now core) none run.none)

-- after a round that was run to its end all is ahead up to what was accepted
next_closed : (plan : PlanShape) (history : List Entry) (round : Option Round) → round ≡ None → next_front (core_of plan history round) ≡ length (journal history)
next_closed plan history round e = ap (λ (o : Option Round). next_front (core_of plan history o)) e

pub next_accepted : (state : CoreState) → state.round ≡ None → next_front state ≡ accepted state
next_accepted state closed = next_closed state.plan state.history state.round closed

-- all is published after two rounds
pub finished : (old between new : CoreState) → IsRoundEnded old between → HasOnlyPublished 0 between new → IsRoundEnded between new → IsFinished new
finished old between new first only second = record {
  all = second.published ∙ next_accepted between first.closed ∙ sym (same_accepted between new only);
  closed = second.closed;
}

-- where all was finished, it is after a round too
pub still_finished : (old between : CoreState) → IsFinished old → HasOnlyPublished 0 old between → IsRoundEnded old between → IsFinished between
still_finished old between done only ended = record {
  all = ended.published ∙ next_accepted old done.closed ∙ sym (same_accepted old between only);
  closed = ended.closed;
}

-- the steps of two rounds
pub steps_twice : (old between : CoreState) (before middle after : ℕ) → IsRoundEnded old between → HasOnlyPublished 0 old between → middle ≤ before + steps_between old (published old) (next_front old)
    → after ≤ middle + steps_between between (published between) (next_front between) → after ≤ before + steps_ahead old
steps_twice old between before middle after first only one two =
    let ahead : next_front between ≡ accepted old = next_accepted between first.closed ∙ same_accepted old between only in
    let same : steps_between between (published between) (next_front between) ≡ steps_between old (next_front old) (accepted old) =
    ap (λ (p : PlanShape). steps_over p (inputs_of between.history) (published between) (next_front between)) only.plan
    ∙ ap (λ (inputs : List Input). steps_over old.plan inputs (published between) (next_front between)) (same_inputs old between only)
    ∙ ap (λ (n : ℕ). steps_over old.plan (inputs_of old.history) n (next_front between)) first.published
    ∙ ap (λ (n : ℕ). steps_over old.plan (inputs_of old.history) (next_front old) n) ahead in
    omega (arith, one, two, same)

-- a fact at success follows from another
pub on_ok : {T E : Type 0} (P Q : Type 0) (r : Result T E) → (P → Q) → OnOk r P → OnOk r Q
on_ok P Q (Ok value) follows p = follows p
on_ok P Q (Err error) follows p = p

-- a fact at a refusal follows from another
pub on_err : {T E : Type 0} (P Q : Type 0) (r : Result T E) → (P → Q) → OnErr r P → OnErr r Q
on_err P Q (Ok value) follows p = p
on_err P Q (Err error) follows p = follows p

-- what holds holds at a refusal
pub at_err : {T E : Type 0} (P : Type 0) (r : Result T E) → P → OnErr r P
at_err P (Ok value) p = tt
at_err P (Err error) p = p
