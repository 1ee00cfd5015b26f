-- Runs of the core, one after another.
use Rattle.std.proofs.Common.{◌≡◌, refl, subst, List, [], ◌∷◌, ◌++◌}
use Rattle.accounts_core.specs.Run.{Event, Reaches, Run, Step}
use Rattle.accounts_core.specs.State.{CoreState}

-- no call leads to the state itself
pub reach_none : (state : CoreState) → Reaches state state
reach_none state = ([], refl)

-- one call leads to the next
pub reach_one : (old new : CoreState) (event : Event) → Step old event new → Reaches old new
reach_one old new event step = (event ∷ [], (new, step, refl))

run_join : (old between new : CoreState) (before after : List Event) → Run old before between → Run between after new → Run old (before ++ after) new
run_join old between new [] after first second = subst (λ (s : CoreState). Run s after new) first second
run_join old between new (event ∷ before) after first second = (first.0, first.1, run_join first.0 between new before after first.2 second)

-- calls after calls
pub reach_join : (old between new : CoreState) → Reaches old between → Reaches between new → Reaches old new
reach_join old between new first second = (first.0 ++ second.0, run_join old between new first.0 second.0 first.1 second.1)
