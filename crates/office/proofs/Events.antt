-- What an event of the core leaves of the plan and the history.
use Rattle.std.proofs.Common.{◌≡◌, ap, sym, refl, subst, inl, inr, ℕ, ◌+◌, ◌≤◌, ◌^◌, List, [], ◌∷◌, ◌++◌, length, arith, append_assoc, append-nil, length-append, Option, Some, None}
use Rattle.std.specs.Prelude.{Result, Ok, Err, IfOk, OnErr, IsSomeAnd, IsTrue}
use Rattle.qna_base.specs.declared.Memory.{Memory}
use Rattle.series_tables.specs.Plan.{PlanShape}
use Rattle.series_tables.specs.declared.input.Input.{Input}
use Rattle.accounts_history.specs.History.{IsLawful, MayFollow, front_of, journal}
use Rattle.accounts_history.specs.Laws.{IsWithinBounds}
use Rattle.accounts_history.specs.declared.entry.Entry.{Entry}
use Rattle.accounts_history.specs.declared.entry.Entry.TheVariants.{Accept, Publish}
use Rattle.accounts_history.proofs.Histories.{front_of-accept, front_of-publish, journal-publish, length-journal-accept}
use Rattle.accounts_history.proofs.Lawful.{within_bounds}
use Rattle.dirty_plan.specs.Round.{is_ready, job_count}
use Rattle.dirty_plan.specs.declared.job.JobState.TheVariants.{Done, Out, Waiting}
use Rattle.round_works.specs.Jobs.{job_after, job_in, job_made}
use Rattle.round_works.specs.Rounds.{Round}
use Rattle.round_works.specs.declared.work.Compiled.{Compiled}
use Rattle.round_works.specs.declared.work.Job.{Job}
use Rattle.accounts_core.specs.Sound.{IsSound}
use Rattle.accounts_core.specs.State.{CoreState, IsOutAt, inputs_to, with_job_at}
use Rattle.accounts_core.specs.Step.{Accepts, Begins, HandsIn, HasMore, HasRoom, IsNear, IsLeastLeft, Publishes, PutsBack, Takes, with_published}
use Rattle.accounts_core.specs.declared.replies.Accept.{Accept as AcceptReply}
use Rattle.accounts_core.specs.declared.replies.Accept.TheVariants.{Full, Behind, Number}
use Rattle.accounts_core.specs.declared.replies.Begin.{Begin as BeginReply}
use Rattle.accounts_core.specs.declared.replies.Begin.TheVariants.{RoundOpen, Nothing, Opened}
use Rattle.accounts_core.specs.declared.replies.Take.{Take as TakeReply}
use Rattle.accounts_core.specs.declared.replies.Take.TheVariants.{NoneReady, Job as Handed}
use Rattle.accounts_core.specs.declared.replies.Done.{Done as DoneReply}
use Rattle.accounts_core.specs.declared.replies.Done.TheVariants.{NotOut as NotMadeOut, Kept as KeptMade}
use Rattle.accounts_core.specs.declared.replies.PutBack.{PutBack as PutBackReply}
use Rattle.accounts_core.specs.declared.replies.PutBack.TheVariants.{NotOut as NotOutJob, Kept as KeptJob}
use Rattle.accounts_core.specs.declared.replies.Publish.{Publish as PublishReply}
use Rattle.accounts_core.specs.declared.replies.Publish.TheVariants.{NoRound, Waiting as WaitingFor, Published}
use Rattle.office.specs.Holds.{Answers, Grows, Stays}

-- a lawful history is short
pub lawful_short : (plan : PlanShape) (history : List Entry) → IsLawful plan history → length history ≤ 2 ^ 40
lawful_short plan history lawful = let bounds : IsWithinBounds plan history = within_bounds plan history lawful in omega (arith, bounds.short, bounds.few, bounds.accepted)

-- ---- events

-- what holds of the value that an option has
pub some_and : {T : Type 0} (o : Option T) (P : T → Type 0) → IsSomeAnd o P → (x : T) × (o ≡ Some x) × P x
some_and None P never = absurd never
some_and (Some x) P holds = (x, refl, holds)

-- what holds of the round that an event found
abbrev pub Publishing : ℕ → ℕ → CoreState → CoreState → Round → Type 0
Publishing party front found left round = IsLeastLeft round None × (front ≡ round.front) × (left ≡ with_published found party round)

abbrev pub Taking : Job → CoreState → CoreState → Round → Type 0
Taking job found left round =
    IsTrue (is_ready found.plan.parents round.jobs job.node) × (job_in job ≡ job_after found.plan (inputs_to found round.front) job.node) × (left ≡ with_job_at found round job.node Out)

abbrev pub HandingIn : Compiled → CoreState → CoreState → Round → Type 0
HandingIn made found left round = IsOutAt found (job_made made) round × (left ≡ with_job_at found round made.node Done)

abbrev pub PuttingBack : Job → CoreState → CoreState → Round → Type 0
PuttingBack job found left round = IsOutAt found (job_in job) round × (left ≡ with_job_at found round job.node Waiting)

pub same_stays : (found left : CoreState) → left ≡ found → IsSound left → Stays found left
same_stays found left same sound = (ap (λ (s : CoreState). s.plan) same, ap (λ (s : CoreState). s.history) same, sound)

pub stays_grows : (party : ℕ) (found left : CoreState) → Stays found left → Grows party found left
stays_grows party found left stays = (stays.0, inl stays.1, lawful_short left.plan left.history stays.2.lawful, stays.2)

-- the answers of two calls that may want memory, and then change nothing
pub accept_answered : (party : ℕ) (input : Input) (reply : Result AcceptReply Memory) (found left : CoreState)
    → IfOk reply (λ r. Accepts found party input r left) → OnErr reply (HasRoom found × IsNear found × (left ≡ found)) → Answers (λ r f l. Accepts f party input r l) reply found left
accept_answered party input (Ok reply) found left did wanted = did
accept_answered party input (Err error) found left did wanted = wanted.2

pub begin_answered : (reply : Result BeginReply Memory) (found left : CoreState)
    → IfOk reply (λ r. Begins found r left) → OnErr reply (HasMore found × (left ≡ found)) → Answers (λ r f l. Begins f r l) reply found left
begin_answered (Ok reply) found left did wanted = did
begin_answered (Err error) found left did wanted = wanted.1

pub accepts_grows : (party : ℕ) (input : Input) (found left : CoreState) (reply : Result AcceptReply Memory)
    → Answers (λ r f l. Accepts f party input r l) reply found left → IsSound left → Grows party found left
accepts_grows party input found left (Err error) same sound = stays_grows party found left (same_stays found left same sound)
accepts_grows party input found left (Ok Full) step sound = stays_grows party found left (same_stays found left step.1 sound)
accepts_grows party input found left (Ok (Behind all front)) step sound = stays_grows party found left (same_stays found left step.4 sound)
accepts_grows party input found left (Ok (Number number)) step sound = (
  ap (λ (s : CoreState). s.plan) step.3,
  inr (Accept party input, ap (λ (s : CoreState). s.history) step.3, refl),
  lawful_short left.plan left.history sound.lawful,
  sound,
)

pub publishes_grows : (party : ℕ) (found left : CoreState) (reply : PublishReply) → Publishes found party reply left → IsSound left → Grows party found left
publishes_grows party found left NoRound step sound = stays_grows party found left (same_stays found left step.1 sound)
publishes_grows party found left (WaitingFor item) step sound = stays_grows party found left (same_stays found left step.1 sound)
publishes_grows party found left (Published front) step sound =
    let there = some_and found.round (Publishing party front found left) step in (
      ap (λ (s : CoreState). s.plan) there.2.2,
      inr (Publish party there.0.front (job_count there.0.jobs), ap (λ (s : CoreState). s.history) there.2.2, refl),
      lawful_short left.plan left.history sound.lawful,
      sound,
    )

pub begins_stays : (found left : CoreState) (reply : Result BeginReply Memory) → Answers (λ r f l. Begins f r l) reply found left → IsSound left → Stays found left
begins_stays found left (Err error) same sound = same_stays found left same sound
begins_stays found left (Ok (RoundOpen front)) step sound = same_stays found left step.1 sound
begins_stays found left (Ok (Nothing front)) step sound = same_stays found left step.3 sound
begins_stays found left (Ok (Opened front jobs)) step sound = (ap (λ (s : CoreState). s.plan) step.4, ap (λ (s : CoreState). s.history) step.4, sound)

pub takes_stays : (found left : CoreState) (reply : TakeReply) → Takes found reply left → IsSound left → Stays found left
takes_stays found left NoneReady step sound = same_stays found left step.1 sound
takes_stays found left (Handed job) step sound =
    let there = some_and found.round (Taking job found left) step in
    (ap (λ (s : CoreState). s.plan) there.2.2, ap (λ (s : CoreState). s.history) there.2.2, sound)

pub hands_in_stays : (found left : CoreState) (made : Compiled) (reply : DoneReply) → HandsIn found made reply left → IsSound left → Stays found left
hands_in_stays found left made KeptMade step sound =
    let there = some_and found.round (HandingIn made found left) step in
    (ap (λ (s : CoreState). s.plan) there.2.1, ap (λ (s : CoreState). s.history) there.2.1, sound)
hands_in_stays found left made (NotMadeOut back) step sound = same_stays found left step.2 sound

pub puts_back_stays : (found left : CoreState) (job : Job) (reply : PutBackReply) → PutsBack found job reply left → IsSound left → Stays found left
puts_back_stays found left job KeptJob step sound =
    let there = some_and found.round (PuttingBack job found left) step in
    (ap (λ (s : CoreState). s.plan) there.2.1, ap (λ (s : CoreState). s.history) there.2.1, sound)
puts_back_stays found left job (NotOutJob back) step sound = same_stays found left step.2 sound
