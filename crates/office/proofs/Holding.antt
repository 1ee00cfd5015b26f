-- One hold, and what the answer to its event says of what is seen.
use Rattle.std.proofs.Common.{◌≡◌, ◌∙◌, ap, sym, subst, ℕ, List, [], ◌∷◌, ◌++◌, length, arith, slice_get, IfOk, Option, Some, Result, Ok, Err, unwrap_or}
use mathlib.Core.List.{IsPrefix}
use Rattle.qna_base.specs.declared.Memory.{Memory}
use Rattle.series_tables.specs.Plan.{PlanShape}
use Rattle.series_tables.specs.declared.input.Input.{Input}
use Rattle.dirty_plan.specs.Round.{job_count}
use Rattle.dirty_plan.specs.Touched.{inputs_between, names_leaf}
use Rattle.dirty_plan.proofs.Counts.{job_count-opened_jobs}
use Rattle.node_compile.specs.Table.{Table}
use Rattle.accounts_history.specs.History.{front_of, inputs_of, journal, most_inputs, party_of, touched_between}
use Rattle.accounts_history.specs.declared.entry.Entry.{Entry}
use Rattle.accounts_history.specs.declared.entry.Entry.TheVariants.{Accept, Publish}
use Rattle.accounts_history.proofs.Histories.{length-journal-accept}
use Rattle.round_works.specs.Jobs.{job_in, job_made, job_of}
use Rattle.round_works.specs.Rounds.{Round}
use Rattle.round_works.specs.Works.{work_in}
use Rattle.round_works.specs.declared.work.Compiled.{Compiled}
use Rattle.round_works.specs.declared.work.Job.{Job}
use Rattle.accounts_core.specs.Sound.{IsSound, IsSoundRound}
use Rattle.accounts_core.specs.State.{CoreState}
use Rattle.accounts_core.specs.Step.{Accepts, Begins, IsLeastLeft, Publishes, Reads, ReadsAll, Takes}
use Rattle.accounts_core.specs.declared.replies.Accept.{Accept as AcceptReply}
use Rattle.accounts_core.specs.declared.replies.Accept.TheVariants.{Full, Behind, Number}
use Rattle.accounts_core.specs.declared.replies.Begin.{Begin as BeginReply}
use Rattle.accounts_core.specs.declared.replies.Begin.TheVariants.{RoundOpen, Nothing, Opened}
use Rattle.accounts_core.specs.declared.replies.Take.{Take as TakeReply}
use Rattle.accounts_core.specs.declared.replies.Done.TheVariants.{Kept as KeptMade}
use Rattle.accounts_core.specs.declared.replies.Publish.TheVariants.{NoRound, Waiting as WaitingFor, Published}
use Rattle.desk_lock.specs.Passes.{entries_by, own}
use Rattle.office.specs.Calls.{CountsTouched, Helps, ShowsRelease, ShowsTable}
use Rattle.office.specs.Holds.{Answers, Known, OneHold, Runs}
use Rattle.office.specs.Seen.{IsBehind, IsWholeAt, MadeNothing, SentNothing, SentOne, released}
use Rattle.office.specs.declared.replies.Helped.{Helped}
use Rattle.office.specs.declared.replies.Helped.TheVariants as helped
use Rattle.office.specs.declared.replies.Ran.TheVariants as ran
use Rattle.office.proofs.Events.{HandingIn, Publishing, hands_in_stays, puts_back_stays, some_and, takes_stays}
use Rattle.office.proofs.Seen.{made_nothing, made_sent, published_sent, then_made, then_published}

-- a hold: the book that was entered is the one that its event found, and the pass has seen what the event left
pub one_hold : (event : CoreState → CoreState → Type 0) (before after : Known) (book found left : CoreState) → Some book.plan ≡ before.label → IsPrefix before.seen book.history
    → entries_by party_of before.party book.history ≡ own party_of before → found ≡ book → IsSound left → after.seen ≡ left.history → event found left → OneHold event before after
one_hold event before after book found left label begins same is sound seen happened = record {
  found = book;
  left = left;
  plan = label;
  others = made_nothing before.party before.seen book.history begins same;
  sound = sound;
  seen = seen;
  happened = subst (λ (core : CoreState). event core left) is happened;
}

-- the hold of another event that happened too
pub as_event : (one two : CoreState → CoreState → Type 0) (before after : Known) → ((found left : CoreState) → one found left → two found left) → OneHold one before after → OneHold two before after
as_event one two before after gives hold = record {
  found = hold.found;
  left = hold.left;
  plan = hold.plan;
  others = hold.others;
  sound = hold.sound;
  seen = hold.seen;
  happened = gives hold.found hold.left hold.happened;
}

-- an event that leaves the history made nothing
stayed : (event : CoreState → CoreState → Type 0) (before after : Known) (hold : OneHold event before after) → hold.left.history ≡ hold.found.history → MadeNothing before.party before.seen after.seen
stayed event before after hold same = (hold.others.0, hold.seen ∙ same ∙ hold.others.1, hold.others.2)

-- where a round is open, an input that was accepted isn't published
behind : (core : CoreState) (round : Round) → IsSound core → core.round ≡ Some round → IsBehind core.history
behind core round sound is = let open_round : IsSoundRound core round = sound.round round is in omega (arith, open_round.above, open_round.within)

behind_seen : (event : CoreState → CoreState → Type 0) (before after : Known) (hold : OneHold event before after) (round : Round) → hold.left.round ≡ Some round → IsBehind after.seen
behind_seen event before after hold round is = subst IsBehind (sym hold.seen) (behind hold.left round hold.sound is)

-- ---- an input is offered

abbrev pub Offers : ℕ → Input → Result AcceptReply Memory → CoreState → CoreState → Type 0
Offers party input = Answers (λ reply found left. Accepts found party input reply left)

pub offered_number : (before after : Known) (input : Input) (number : ℕ) → OneHold (Offers before.party input (Ok (Number number))) before after → SentOne before.party input number before.seen after.seen
offered_number before after input number hold =
    let grew : hold.left.history ≡ hold.found.history ++ Accept before.party input ∷ [] = ap (λ (s : CoreState). s.history) hold.happened.3 in
    let seen : after.seen ≡ hold.found.history ++ Accept before.party input ∷ [] = hold.seen ∙ grew in (
      hold.found.history,
      made_sent before.party before.seen hold.found.history hold.others,
      seen,
      hold.happened.2 ∙ sym (ap (λ (h : List Entry). length (journal h)) seen ∙ length-journal-accept hold.found.history before.party input),
    )

pub offered_full : (before after : Known) (input : Input) → OneHold (Offers before.party input (Ok Full)) before after
    → SentNothing before.party before.seen after.seen × (length (journal after.seen) ≡ most_inputs)
offered_full before after input hold =
    let same : hold.left.history ≡ hold.found.history = ap (λ (s : CoreState). s.history) hold.happened.1 in
    (made_sent before.party before.seen after.seen (stayed _ before after hold same), ap (λ (h : List Entry). length (journal h)) (hold.seen ∙ same) ∙ hold.happened.0)

pub offered_behind : (before after : Known) (input : Input) (all front : ℕ) → OneHold (Offers before.party input (Ok (Behind all front))) before after → SentNothing before.party before.seen after.seen
offered_behind before after input all front hold = made_sent before.party before.seen after.seen (stayed _ before after hold (ap (λ (s : CoreState). s.history) hold.happened.4))

pub offered_none : (before after : Known) (input : Input) (error : Memory) → OneHold (Offers before.party input (Err error)) before after → SentNothing before.party before.seen after.seen
offered_none before after input error hold = made_sent before.party before.seen after.seen (stayed _ before after hold (ap (λ (s : CoreState). s.history) hold.happened))

-- ---- a party helps

pub took : (before after : Known) (reply : TakeReply) → OneHold (λ found left. Takes found reply left) before after → MadeNothing before.party before.seen after.seen
took before after reply hold = stayed _ before after hold (takes_stays hold.found hold.left reply hold.happened hold.sound).1

pub ran_finished : (before after : Known) (job : Job) (node : ℕ) → Runs job ran.Finished before after → Helps (helped.Compiled node) before after
ran_finished before after job node hold =
    let stays = hands_in_stays hold.found hold.left hold.happened.0 KeptMade hold.happened.2 hold.sound in
    let there = some_and hold.found.round (HandingIn hold.happened.0 hold.found hold.left) hold.happened.2 in
    (stayed _ before after hold stays.1, behind_seen _ before after hold _ (ap (λ (s : CoreState). s.round) there.2.1))

pub ran_not_out : (before after : Known) (job : Job) → Runs job ran.NotOut before after → MadeNothing before.party before.seen after.seen
ran_not_out before after job hold = stayed _ before after hold (ap (λ (s : CoreState). s.history) hold.happened.1)

pub ran_wanting : (before after : Known) (job : Job) → Runs job ran.Wanting before after → MadeNothing before.party before.seen after.seen
ran_wanting before after job hold = stayed _ before after hold (puts_back_stays hold.found hold.left job hold.happened.0 hold.happened.1 hold.sound).1

pub published_front : (before after : Known) (front : ℕ) → OneHold (λ found left. Publishes found before.party (Published front) left) before after → Helps (helped.Published front) before after
published_front before after front hold =
    let there = some_and hold.found.round (Publishing before.party front hold.found hold.left) hold.happened in (
      hold.found.history,
      job_count there.0.jobs,
      hold.others,
      hold.seen ∙ ap (λ (s : CoreState). s.history) there.2.2 ∙ ap (λ (n : ℕ). hold.found.history ++ Publish before.party n (job_count there.0.jobs) ∷ []) (sym there.2.1),
    )

pub published_waits : (before after : Known) (item : ℕ) → OneHold (λ found left. Publishes found before.party (WaitingFor item) left) before after → Helps helped.Idle before after
published_waits before after item hold =
    let there = some_and hold.found.round (λ (round : Round). IsLeastLeft round (Some item)) hold.happened.0 in
    (stayed _ before after hold (ap (λ (s : CoreState). s.history) hold.happened.1), behind_seen _ before after hold there.0 (ap (λ (s : CoreState). s.round) hold.happened.1 ∙ there.1))

pub published_none : (before after : Known) → OneHold (λ found left. Publishes found before.party NoRound left) before after → MadeNothing before.party before.seen after.seen
published_none before after hold = stayed _ before after hold (ap (λ (s : CoreState). s.history) hold.happened.1)

abbrev pub Begun : Result BeginReply Memory → CoreState → CoreState → Type 0
Begun = Answers (λ reply found left. Begins found reply left)

-- what is seen after a hold that left the history, from what the core had
whole_at : (event : CoreState → CoreState → Type 0) (before after : Known) (hold : OneHold event before after) (front : ℕ) → hold.left.history ≡ hold.found.history
    → IsWholeAt front hold.found.history → IsWholeAt front after.seen
whole_at event before after hold front same whole = subst (IsWholeAt front) (sym (hold.seen ∙ same)) whole

pub begun_nothing : (before after : Known) (front : ℕ) → OneHold (Begun (Ok (Nothing front))) before after → Helps (helped.Quiet front) before after
begun_nothing before after front hold =
    let same : hold.left.history ≡ hold.found.history = ap (λ (s : CoreState). s.history) hold.happened.3 in
    (stayed _ before after hold same, whole_at _ before after hold front same (sym hold.happened.2, hold.happened.1 ∙ sym hold.happened.2))

pub begun_open : (before after : Known) (front : ℕ) → OneHold (Begun (Ok (RoundOpen front))) before after → Helps helped.Idle before after
begun_open before after front hold =
    let there = some_and hold.found.round (λ (round : Round). front ≡ round.front) hold.happened.0 in
    (stayed _ before after hold (ap (λ (s : CoreState). s.history) hold.happened.1), behind_seen _ before after hold there.0 (ap (λ (s : CoreState). s.round) hold.happened.1 ∙ there.1))

pub begun_none : (before after : Known) (error : Memory) → OneHold (Begun (Err error)) before after → MadeNothing before.party before.seen after.seen
begun_none before after error hold = stayed _ before after hold (ap (λ (s : CoreState). s.history) hold.happened)

-- of two equal values that stand in options
some_same : {T : Type 0} (x y : T) → Some x ≡ Some y → x ≡ y
some_same x y same = ap (λ (o : Option _). unwrap_or o x) same

-- so many jobs as items that are touched
counts : (core : CoreState) (pass : Known) (jobs front : ℕ) → front ≡ length (journal core.history)
    → jobs ≡ touched_between core.plan (inputs_of core.history) (front_of core.history) front → Some core.plan ≡ pass.label → pass.seen ≡ core.history → CountsTouched jobs pass
counts core pass jobs front all counted label seen plan is =
    let same : core.plan ≡ plan = some_same core.plan plan (label ∙ is) in
    counted ∙ ap (λ (n : ℕ). touched_between core.plan (inputs_of core.history) (front_of core.history) n) all
    ∙ ap (λ (p : PlanShape). touched_between p (inputs_of core.history) (front_of core.history) (length (journal core.history))) same
    ∙ ap (λ (h : List Entry). touched_between plan (inputs_of h) (front_of h) (length (journal h))) (sym seen)

pub begun_opened : (before after : Known) (front jobs : ℕ) → after.label ≡ before.label → OneHold (Begun (Ok (Opened front jobs))) before after → Helps (helped.Opened front jobs) before after
begun_opened before after front jobs label hold =
    let same : hold.left.history ≡ hold.found.history = ap (λ (s : CoreState). s.history) hold.happened.4 in
    let core = hold.found in
    let seen : after.seen ≡ core.history = hold.seen ∙ same in
    let counted : jobs ≡ touched_between core.plan (inputs_of core.history) (front_of core.history) front =
    hold.happened.3
    ∙ job_count-opened_jobs core.plan (names_leaf (inputs_between (inputs_of core.history) (front_of core.history) (length (journal core.history))))
    ∙ ap (λ (n : ℕ). touched_between core.plan (inputs_of core.history) (front_of core.history) n) (sym hold.happened.2) in (
      stayed _ before after hold same,
      behind_seen _ before after hold _ (ap (λ (s : CoreState). s.round) hold.happened.4),
      ap (λ (h : List Entry). length (journal h)) seen ∙ sym hold.happened.2,
      counts core after jobs front hold.happened.2 counted (hold.plan ∙ sym label) seen,
    )

-- a party that made nothing before helps
pub helps_after : (before between after : Known) (reply : Helped) → between.party ≡ before.party → MadeNothing before.party before.seen between.seen → Helps reply between after → Helps reply before after
helps_after before between after (helped.Published front) is made helps = then_published before.party between.party front before.seen between.seen after.seen is made helps
helps_after before between after (helped.Quiet front) is made helps = (then_made before.party between.party before.seen between.seen after.seen is made helps.0, helps.1)
helps_after before between after helped.Idle is made helps = (then_made before.party between.party before.seen between.seen after.seen is made helps.0, helps.1)
helps_after before between after (helped.Compiled node) is made helps = (then_made before.party between.party before.seen between.seen after.seen is made helps.0, helps.1)
helps_after before between after (helped.Opened front jobs) is made helps = (then_made before.party between.party before.seen between.seen after.seen is made helps.0, helps.1, helps.2, helps.3)
helps_after before between after helped.Memory is made helps = then_made before.party between.party before.seen between.seen after.seen is made helps

-- who helps sends nothing
pub helps_sent : (before after : Known) (reply : Helped) → Helps reply before after → SentNothing before.party before.seen after.seen
helps_sent before after (helped.Published front) helps = published_sent before.party front before.seen after.seen helps
helps_sent before after (helped.Quiet front) helps = made_sent before.party before.seen after.seen helps.0
helps_sent before after helped.Idle helps = made_sent before.party before.seen after.seen helps.0
helps_sent before after (helped.Compiled node) helps = made_sent before.party before.seen after.seen helps.0
helps_sent before after (helped.Opened front jobs) helps = made_sent before.party before.seen after.seen helps.0
helps_sent before after helped.Memory helps = made_sent before.party before.seen after.seen helps

-- ---- a party reads

-- what follows of a value holds of the one that a result has
pub if_ok : {A E : Type 0} {P Q : A → Type 0} (reply : Result A E) → ((x : A) → P x → Q x) → IfOk reply P → IfOk reply Q
if_ok (Ok x) gives holds = gives x holds
if_ok (Err error) gives holds = holds

-- a hold that looks
pub looks : (before : Known) (seen : List Entry) (book : CoreState) → IsPrefix before.seen book.history → entries_by party_of before.party book.history ≡ own party_of before → seen ≡ book.history → MadeNothing before.party before.seen seen
looks before seen book begins same is = subst (λ (h : List Entry). MadeNothing before.party before.seen h) (sym is) (made_nothing before.party before.seen book.history begins same)

pub shows_table : (core : CoreState) (pass : Known) (item front : ℕ) (table : Table) → Reads core item front table → Some core.plan ≡ pass.label → pass.seen ≡ core.history → ShowsTable pass item front table
shows_table core pass item front table reads label seen = (
  reads.0 ∙ ap front_of (sym seen),
  λ plan is. ap (λ (h : List Entry). slice_get (released plan h) item) seen ∙ ap (λ (p : PlanShape). slice_get (released p core.history) item) (sym (some_same core.plan plan (label ∙ is))) ∙ reads.1,
)

pub shows_release : (core : CoreState) (pass : Known) (front : ℕ) (tables : List Table) → ReadsAll core front tables → Some core.plan ≡ pass.label → pass.seen ≡ core.history → ShowsRelease pass front tables
shows_release core pass front tables reads label seen = (
  reads.0 ∙ ap front_of (sym seen),
  λ plan is. reads.1 ∙ ap (λ (p : PlanShape). released p core.history) (some_same core.plan plan (label ∙ is)) ∙ ap (λ (h : List Entry). released plan h) (sym seen),
)

-- ---- a job is compiled

pub made_from : (job : Job) (made : Compiled) → made.front ≡ job.front → made.node ≡ job.node → made.reference ≡ job.reference → made.work ≡ job.work → job_made made ≡ job_in job
made_from job made front node reference work i = job_of (front i) (node i) ((reference i).0) (work_in (work i))
