-- What the core keeps beside what it stands for, and what holds of it.
use Rattle.std.specs.Prelude.{◌≡◌, ℕ, ◌<◌, List, [], map, take, drop, length, replicate, slice_index_or}
use Rattle.std.specs.Prelude.{Option, Some, None}
use Rattle.std.specs.declared.alloc.Global.{Global}
use Rattle.std.specs.declared.sync.Arc.{Arc}
use Rattle.series_tables.specs.Cells.{Rows, cell}
use Rattle.series_tables.specs.LastValue.{last_value}
use Rattle.series_tables.specs.Plan.{PlanShape}
use Rattle.series_tables.specs.declared.input.Input.{Input}
use Rattle.series_tables.specs.declared.input.Kind.{Kind}
use Rattle.dirty_plan.specs.Round.{is_job, opened_jobs, state_of}
use Rattle.dirty_plan.specs.Touched.{names_leaf}
use Rattle.dirty_plan.specs.declared.job.JobState.{JobState}
use Rattle.dirty_plan.specs.declared.job.JobState.TheVariants.{Clean, Waiting, Out, Done}
use Rattle.vintage_board.specs.Board.{BoardOf}
use Rattle.node_compile.specs.Release.{compilation}
use Rattle.node_compile.specs.declared.table.NodeTable.{NodeTable}
use Rattle.accounts_history.specs.History.{IsLawful, front_of, inputs_of, journal}
use Rattle.accounts_history.specs.declared.entry.Entry.{Entry}
use Rattle.round_works.specs.Rounds.{IsRoundOver, round_in}
use Rattle.round_works.specs.Tables.{shared_table}
use Rattle.round_works.specs.Works.{table_after}
use Rattle.round_works.specs.declared.round.OpenRound.{OpenRound}

abbrev pub Shared : Type 0
Shared = Arc NodeTable Global

-- what is staged of an item is its table after these inputs where its job is done, and nothing else is staged
abbrev pub IsStaged : PlanShape → List Input → ℕ → JobState → Option Shared → Type 0
IsStaged plan inputs item Done None = ⊥
IsStaged plan inputs item Done (Some table) = shared_table table ≡ table_after plan inputs item
IsStaged plan inputs item Clean staged = staged ≡ None
IsStaged plan inputs item Waiting staged = staged ≡ None
IsStaged plan inputs item Out staged = staged ≡ None

-- what is staged of an item on a board
abbrev pub staged_at : BoardOf Shared → ℕ → Option Shared
staged_at board item = slice_index_or board.staged item None

-- the jobs of a round are those of the items that were touched since so many inputs
abbrev pub AreTouched : PlanShape → ℕ → List Input → List JobState → Type 0
AreTouched plan published inputs jobs =
    map is_job jobs ≡ map is_job (opened_jobs plan (names_leaf (drop published inputs)))

-- a round is open over these inputs, of which so many are published, and what is staged on the board is what it made
pub record IsOpen (plan : PlanShape) (published : ℕ) (inputs : List Input) (board : BoardOf Shared)
    (round : OpenRound) : Type 0 where
  pub over : IsRoundOver plan inputs round
  pub above : published < (round_in round).front
  pub touched : AreTouched plan published inputs (round_in round).jobs
  pub staged : (item : ℕ) → item < length plan.names →
      IsStaged plan inputs item (state_of (round_in round).jobs item) (staged_at board item)

-- a board shows the compilation of these inputs
pub record IsShown (plan : PlanShape) (inputs : List Input) (board : BoardOf Shared) : Type 0 where
  pub tables : map shared_table board.shown ≡ compilation plan inputs
  pub shown : length board.shown ≡ length plan.names
  pub staged : length board.staged ≡ length plan.names

-- what holds of the parts of a core
pub record IsKept (plan : PlanShape) (history : List Entry) (accepted : ℕ) (rows : Rows) (board : BoardOf Shared)
    (round : Option OpenRound) : Type 0 where
  pub parents : length plan.parents ≡ length plan.names
  pub lawful : IsLawful plan history
  pub count : accepted ≡ length (journal history)
  pub front : board.front ≡ front_of history
  pub items : rows.items ≡ length plan.names
  pub values : (kind : Kind) (leaf period : ℕ) →
      cell rows kind leaf period ≡ last_value (inputs_of history) kind leaf period
  pub published : IsShown plan (take board.front (inputs_of history)) board
  pub open_round : (r : OpenRound) → round ≡ Some r →
      IsOpen plan board.front (take (round_in r).front (inputs_of history)) board r
  pub nothing_staged : round ≡ None → board.staged ≡ replicate (length plan.names) None

-- a board shows the compilation of no inputs, at the front 0 and with nothing staged
pub record IsFirstBoard (plan : PlanShape) (board : BoardOf Shared) : Type 0 where
  pub front : board.front ≡ 0
  pub shown : IsShown plan [] board
  pub nothing_staged : board.staged ≡ replicate (length plan.names) None
