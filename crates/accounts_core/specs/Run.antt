-- Whole runs of the core.
use Rattle.std.specs.Prelude.{◌≡◌, ℕ, List, [], ◌∷◌}
use Rattle.series_tables.specs.Fits.{FitsPlan}
use Rattle.series_tables.specs.declared.input.Input.{Input}
use Rattle.node_compile.specs.Table.{Table}
use Rattle.round_works.specs.declared.work.Compiled.{Compiled}
use Rattle.round_works.specs.declared.work.Job.{Job}
use Rattle.accounts_core.specs.State.{CoreState}
use Rattle.accounts_core.specs.Step.{Accepts, Begins, HandsIn, Publishes, PutsBack, Reads, ReadsAll, Takes}
use Rattle.accounts_core.specs.declared.replies.Accept.{Accept as AcceptReply}
use Rattle.accounts_core.specs.declared.replies.Begin.{Begin as BeginReply}
use Rattle.accounts_core.specs.declared.replies.Take.{Take as TakeReply}
use Rattle.accounts_core.specs.declared.replies.Done.{Done as DoneReply}
use Rattle.accounts_core.specs.declared.replies.PutBack.{PutBack as PutBackReply}
use Rattle.accounts_core.specs.declared.replies.Publish.{Publish as PublishReply}

-- a call with its reply
pub data Event : Type 0 where
  accepts : (party : ℕ) (input : Input) (reply : AcceptReply) → Event
  begins : (reply : BeginReply) → Event
  takes : (reply : TakeReply) → Event
  hands_in : (made : Compiled) (reply : DoneReply) → Event
  puts_back : (job : Job) (reply : PutBackReply) → Event
  publishes : (party : ℕ) (reply : PublishReply) → Event
  reads : (item front : ℕ) (table : Table) → Event
  reads_all : (front : ℕ) (tables : List Table) → Event

-- from one state, a call may give this reply and leave another state; an input that is offered fits the plan
abbrev pub Step : CoreState → Event → CoreState → Type 0
Step old (accepts party input reply) new =
    FitsPlan old.plan input × Accepts old party input reply new
Step old (begins reply) new = Begins old reply new
Step old (takes reply) new = Takes old reply new
Step old (hands_in made reply) new = HandsIn old made reply new
Step old (puts_back job reply) new = PutsBack old job reply new
Step old (publishes party reply) new = Publishes old party reply new
Step old (reads item front table) new = Reads old item front table × (new ≡ old)
Step old (reads_all front tables) new = ReadsAll old front tables × (new ≡ old)

-- these calls may happen one after another
abbrev pub Run : CoreState → List Event → CoreState → Type 0
Run old [] new = new ≡ old
Run old (event ∷ events) new = (between : CoreState) × Step old event between × Run between events new

-- some calls lead from one state to another
abbrev pub Reaches : CoreState → CoreState → Type 0
Reaches old new = (events : List Event) × Run old events new
