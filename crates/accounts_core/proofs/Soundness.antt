-- Each core is sound.
use Rattle.std.proofs.Common.{◌≡◌, ◌∙◌, ap, refl, sym, subst, ℕ, ◌<◌, ◌≤◌, List, length, take, Option, Some, None, arith}
use Rattle.std.specs.Option.{option_map}
use Rattle.series_tables.specs.Cells.{Rows}
use Rattle.series_tables.specs.Plan.{PlanShape}
use Rattle.dirty_plan.specs.Round.{is_job, state_of}
use Rattle.dirty_plan.specs.Touched.{inputs_between, is_touched_between, names_leaf}
use Rattle.vintage_board.specs.Board.{BoardOf}
use Rattle.accounts_history.specs.History.{inputs_of}
use Rattle.accounts_history.specs.declared.entry.Entry.{Entry}
use Rattle.round_works.specs.Rounds.{Round, round_in}
use Rattle.round_works.specs.declared.round.OpenRound.{OpenRound}
use Rattle.accounts_core.specs.Kept.{IsKept, IsOpen, Shared}
use Rattle.accounts_core.specs.Sound.{IsSound, IsSoundRound}
use Rattle.accounts_core.specs.State.{CoreState}
use Rattle.accounts_core.proofs.Handling.{inputs_under, state_of_parts}
use Rattle.accounts_core.proofs.Publishing.{touched_at}
use Rattle.accounts_core.proofs.Rounds.{front_within}

sound_round : (plan : PlanShape) (history : List Entry) (accepted : ℕ) (rows : Rows) (board : BoardOf Shared) (round : Option OpenRound) (r : OpenRound) → IsKept plan history accepted rows board round → round ≡ Some r
    → IsSoundRound (state_of_parts plan history round) (round_in r)
sound_round plan history accepted rows board round r kept is = record {
  above = omega (arith, is_open.above, kept.front);
  within = front_within plan history board r is_open;
  items = is_open.over.items;
  touched = λ item inside.
      touched_at plan (names_leaf (inputs_between (inputs_of history) board.front (round_in r).front)) (round_in r).jobs item is_open.touched (omega (arith, inside, is_open.over.items)) inside
      ∙ ap (λ (n : ℕ). is_touched_between plan (inputs_of history) n (round_in r).front item) kept.front;
}
  where
    is_open : IsOpen plan board.front (inputs_under history r) board r
    is_open = kept.open_round r is

pub sound : (plan : PlanShape) (history : List Entry) (accepted : ℕ) (rows : Rows) (board : BoardOf Shared) (round : Option OpenRound) → IsKept plan history accepted rows board round → IsSound (state_of_parts plan history round)
sound plan history accepted rows board None kept = record { lawful = kept.lawful; round = λ o never. absurd (cc) }
sound plan history accepted rows board (Some r) kept = record {
  lawful = kept.lawful;
  round = λ o same. let one : round_in r ≡ o = cc in subst (λ (q : Round). IsSoundRound (state_of_parts plan history (Some r)) q) one (sound_round plan history accepted rows board (Some r) r kept refl);
}
