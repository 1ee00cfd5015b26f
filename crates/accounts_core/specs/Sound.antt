-- What holds of each state of a core.
use Rattle.std.specs.Prelude.{◌≡◌, ℕ, ◌<◌, ◌≤◌, length}
use Rattle.std.specs.Option.{ForSome}
use Rattle.dirty_plan.specs.Round.{is_job, state_of}
use Rattle.dirty_plan.specs.Touched.{is_touched_between}
use Rattle.accounts_history.specs.History.{IsLawful, inputs_of}
use Rattle.round_works.specs.Rounds.{Round}
use Rattle.accounts_core.specs.State.{CoreState, accepted, published}

-- an open round goes up to a front above the published one that was accepted, and has a job for each item that is
-- touched between the two, and for no other
pub record IsSoundRound (state : CoreState) (round : Round) : Type 0 where
  pub above : published state < round.front
  pub within : round.front ≤ accepted state
  pub items : length round.jobs ≡ length state.plan.parents
  pub touched : (item : ℕ) → item < length state.plan.parents → is_job (state_of round.jobs item)
      ≡ is_touched_between state.plan (inputs_of state.history) (published state) round.front item

-- the history is lawful, and the open round is sound
pub record IsSound (state : CoreState) : Type 0 where
  pub lawful : IsLawful state.plan state.history
  pub round : ForSome state.round (IsSoundRound state)
