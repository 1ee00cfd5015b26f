use Rattle.dirty_plan.specs.Round.{has_flag}
use Rattle.dirty_plan.specs.Touched.{inputs_between, names_leaf}
use Rattle.dirty_plan.proofs.Named.{opened_jobs-same}
use Rattle.dirty_plan.proofs.laws.rounds_have_what_is_touched_between_fronts.Goals as goal

pub returns : goal.returns
returns c = λ plan inputs front later flags same. opened_jobs-same plan (has_flag flags) (names_leaf (inputs_between inputs front later)) same
