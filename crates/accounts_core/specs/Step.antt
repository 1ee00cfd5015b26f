-- What each call of the core may answer, and what it changes: one relation for each call. It is this product's own.
use Rattle.std.specs.Prelude.{◌≡◌, ◌≢◌, ℕ, ◌+◌, ◌<◌, IsTrue, IsFalse, List, take, length, slice_get, Option, Some, None}
use Rattle.std.specs.Option.{ForSome, IsSomeAnd}
use Rattle.series_tables.specs.declared.input.Input.{Input}
use Rattle.dirty_plan.specs.Round.{IsLeast, is_left, is_ready, job_count}
use Rattle.dirty_plan.specs.declared.job.JobState.TheVariants.{Waiting, Out, Done}
use Rattle.node_compile.specs.Release.{compilation}
use Rattle.node_compile.specs.Table.{Table}
use Rattle.accounts_history.specs.History.{most_ahead, most_inputs}
use Rattle.accounts_history.specs.declared.entry.Entry.TheVariants.{Accept, Publish}
use Rattle.round_works.specs.Jobs.{job_after, job_in, job_made}
use Rattle.round_works.specs.Rounds.{Round}
use Rattle.round_works.specs.declared.work.Compiled.{Compiled}
use Rattle.round_works.specs.declared.work.Job.{Job}
use Rattle.accounts_core.specs.State.{CoreState, IsOutAt, IsOutNow, accepted, inputs_to, next_round, published}
use Rattle.accounts_core.specs.State.{with_entry, with_job_at, with_round}
use Rattle.accounts_core.specs.declared.replies.Accept.{Accept as AcceptReply}
use Rattle.accounts_core.specs.declared.replies.Accept.TheVariants.{Full, Behind, Number}
use Rattle.accounts_core.specs.declared.replies.Begin.{Begin as BeginReply}
use Rattle.accounts_core.specs.declared.replies.Begin.TheVariants.{RoundOpen, Nothing, Opened}
use Rattle.accounts_core.specs.declared.replies.Take.{Take as TakeReply}
use Rattle.accounts_core.specs.declared.replies.Take.TheVariants.{NoneReady, Job as Handed}
use Rattle.accounts_core.specs.declared.replies.Done.{Done as DoneReply}
use Rattle.accounts_core.specs.declared.replies.Done.TheVariants.{NotOut as NotMadeOut, Kept as KeptMade}
use Rattle.accounts_core.specs.declared.replies.PutBack.{PutBack as PutBackReply}
use Rattle.accounts_core.specs.declared.replies.PutBack.TheVariants.{NotOut as NotOutJob, Kept as KeptJob}
use Rattle.accounts_core.specs.declared.replies.Publish.{Publish as PublishReply}
use Rattle.accounts_core.specs.declared.replies.Publish.TheVariants.{NoRound, Waiting as WaitingFor, Published}

-- the journal has room; the journal isn't as far ahead of the front as it may be
abbrev pub HasRoom : CoreState → Type 0
HasRoom state = accepted state ≢ most_inputs

abbrev pub IsNear : CoreState → Type 0
IsNear state = accepted state ≢ published state + most_ahead

-- no round is open, and more was accepted than is published
abbrev pub HasMore : CoreState → Type 0
HasMore state = (state.round ≡ None) × (accepted state ≢ published state)

-- an input of a party is accepted, or the journal is full or too far ahead
abbrev pub Accepts : CoreState → ℕ → Input → AcceptReply → CoreState → Type 0
Accepts old party input Full new = (accepted old ≡ most_inputs) × (new ≡ old)
Accepts old party input (Behind all front) new =
    HasRoom old × (accepted old ≡ published old + most_ahead)
    × (all ≡ accepted old) × (front ≡ published old) × (new ≡ old)
Accepts old party input (Number number) new =
    HasRoom old × IsNear old × (number ≡ accepted old + 1) × (new ≡ with_entry old (Accept party input))

-- a round begins, or one is open, or there is nothing to compile
abbrev pub Begins : CoreState → BeginReply → CoreState → Type 0
Begins old (RoundOpen front) new = IsSomeAnd old.round (λ round. front ≡ round.front) × (new ≡ old)
Begins old (Nothing front) new =
    (old.round ≡ None) × (accepted old ≡ published old) × (front ≡ published old) × (new ≡ old)
Begins old (Opened front jobs) new =
    (old.round ≡ None) × (accepted old ≢ published old) × (front ≡ accepted old)
    × (jobs ≡ job_count (next_round old).jobs) × (new ≡ with_round old (Some (next_round old)))

-- no job of a round is ready
abbrev pub IsNoneReady : CoreState → Round → Type 0
IsNoneReady state round =
    (item : ℕ) → item < length round.jobs → IsFalse (is_ready state.plan.parents round.jobs item)

-- a ready job is handed out, whichever, or none is ready
abbrev pub Takes : CoreState → TakeReply → CoreState → Type 0
Takes old NoneReady new = ForSome old.round (IsNoneReady old) × (new ≡ old)
Takes old (Handed job) new = IsSomeAnd old.round (λ round.
    IsTrue (is_ready old.plan.parents round.jobs job.node)
    × (job_in job ≡ job_after old.plan (inputs_to old round.front) job.node)
    × (new ≡ with_job_at old round job.node Out))

-- what was made of a job that is out is kept, or such a job isn't out and the result comes back
abbrev pub HandsIn : CoreState → Compiled → DoneReply → CoreState → Type 0
HandsIn old made KeptMade new = IsSomeAnd old.round (λ round.
    IsOutAt old (job_made made) round × (new ≡ with_job_at old round made.node Done))
HandsIn old made (NotMadeOut back) new = ¬ IsOutNow old (job_made made) × (back ≡ made) × (new ≡ old)

-- a job that is out waits again, or such a job isn't out and it comes back
abbrev pub PutsBack : CoreState → Job → PutBackReply → CoreState → Type 0
PutsBack old job KeptJob new = IsSomeAnd old.round (λ round.
    IsOutAt old (job_in job) round × (new ≡ with_job_at old round job.node Waiting))
PutsBack old job (NotOutJob back) new = ¬ IsOutNow old (job_in job) × (back ≡ job) × (new ≡ old)

-- the least item of a round whose job isn't done, or none
abbrev pub IsLeastLeft : Round → Option ℕ → Type 0
IsLeastLeft round least = IsLeast (is_left round.jobs) (length round.jobs) least

-- the core once a party published its round
abbrev pub with_published : CoreState → ℕ → Round → CoreState
with_published state party round =
    with_round (with_entry state (Publish party round.front (job_count round.jobs))) None

-- a round whose jobs are all done is published, or a job isn't done, or no round is open
abbrev pub Publishes : CoreState → ℕ → PublishReply → CoreState → Type 0
Publishes old party NoRound new = (old.round ≡ None) × (new ≡ old)
Publishes old party (WaitingFor item) new = IsSomeAnd old.round (λ round. IsLeastLeft round (Some item)) × (new ≡ old)
Publishes old party (Published front) new = IsSomeAnd old.round (λ round.
    IsLeastLeft round None × (front ≡ round.front) × (new ≡ with_published old party round))

-- the tables of the published release: those of the compilation from scratch of the first so many accepted inputs
abbrev pub shown_tables : CoreState → List Table
shown_tables state = compilation state.plan (inputs_to state (published state))

-- the front of the published release with an item's table
abbrev pub Reads : CoreState → ℕ → ℕ → Table → Type 0
Reads state item front table = (front ≡ published state) × (slice_get (shown_tables state) item ≡ Some table)

-- the published release as a whole
abbrev pub ReadsAll : CoreState → ℕ → List Table → Type 0
ReadsAll state front tables = (front ≡ published state) × (tables ≡ shown_tables state)

-- the answer with a job that a round handed out, or none
abbrev pub taken_of : Option Job → TakeReply
taken_of None = NoneReady
taken_of (Some job) = Handed job
