-- A round worked on the definitions: a total with two leaves, five inputs of the first leaf, and a sixth that comes while they are compiled.
use Rattle.std.proofs.Common.{◌≡◌, ℕ, pos, true, false, List, [], ◌∷◌, ◌++◌, map, codes, Option, Some, None, refl}
use Rattle.dirty_plan.specs.Round.{is_left, is_ready, job_count, opened_jobs}
use Rattle.dirty_plan.specs.declared.job.JobState.{JobState}
use Rattle.dirty_plan.specs.declared.job.JobState.TheVariants.{Clean, Waiting, Out, Done}
use Rattle.series_tables.specs.Plan.{PlanShape}
use Rattle.series_tables.specs.Tree.{leaves_from}
use Rattle.series_tables.specs.declared.input.Kind.{Kind}
use Rattle.series_tables.specs.declared.input.Kind.TheVariants.{Indicator, Benchmark}
use Rattle.accounts_history.specs.History.{front_of, inputs_of, touched_between}
use Rattle.accounts_history.specs.declared.entry.Entry.{Entry}
use Rattle.accounts_history.specs.declared.entry.Entry.TheVariants.{Accept, Publish}
use Rattle.round_works.specs.Rounds.{Round}
use Rattle.round_works.specs.Works.{leaf_work, work_after}
use Rattle.accounts_core.specs.State.{CoreState, accepted, inputs_to, next_round, published}
use Rattle.accounts_core.specs.Step.{with_published}

-- TOTAL is item 0, FOOD and SERV are items 1 and 2
abbrev plan : PlanShape
plan = record { start = 2021; reference = 1; names = codes "TOTAL" ∷ codes "FOOD" ∷ codes "SERV" ∷ []; parents = None ∷ Some 0 ∷ Some 0 ∷ [] }

-- a value of FOOD, sent by the first desk
abbrev sent : Kind → ℕ → ℕ → Entry
sent kind period value = Accept 1 (record { kind = kind; leaf = 1; period = period; value = pos value })

abbrev five : List Entry
five = sent Indicator 0 100 ∷ sent Indicator 1 100 ∷ sent Indicator 2 100 ∷ sent Indicator 3 100 ∷ sent Benchmark 0 1000 ∷ []

-- the first quarter's indicator is revised
abbrev six : List Entry
six = five ++ sent Indicator 0 200 ∷ []

-- the core with a history and a round
abbrev core : List Entry → Option Round → CoreState
core history round = record { plan = plan; history = history; round = round }

abbrev round : ℕ → JobState → JobState → Round
round front total food = record { front = front; jobs = total ∷ food ∷ Clean ∷ [] }

-- the round of the first five has a job of FOOD and one of TOTAL, and none of SERV
first_round : next_round (core five None) ≡ round 5 Waiting Waiting
unfolding opened_jobs leaves_from
first_round = refl

first_count : job_count (next_round (core five None)).jobs ≡ 2
unfolding opened_jobs leaves_from
first_count = refl

first_touched : touched_between plan (inputs_of five) 0 5 ≡ 2
unfolding leaves_from
first_touched = refl

-- FOOD is ready, and TOTAL is once FOOD is done
leaf_ready : map (is_ready plan.parents (round 5 Waiting Waiting).jobs) (0 ∷ 1 ∷ 2 ∷ []) ≡ false ∷ true ∷ false ∷ []
leaf_ready = refl

none_ready : map (is_ready plan.parents (round 5 Waiting Out).jobs) (0 ∷ 1 ∷ 2 ∷ []) ≡ false ∷ false ∷ false ∷ []
none_ready = refl

total_ready : map (is_ready plan.parents (round 5 Waiting Done).jobs) (0 ∷ 1 ∷ 2 ∷ []) ≡ true ∷ false ∷ false ∷ []
total_ready = refl

-- while FOOD is out, TOTAL is the least item that is left
total_left : map (is_left (round 5 Waiting Out).jobs) (0 ∷ 1 ∷ 2 ∷ []) ≡ true ∷ true ∷ false ∷ []
total_left = refl

-- the round's inputs are the first five though a sixth is accepted, and so is FOOD's work
front_inputs : inputs_to (core six (Some (round 5 Waiting Out))) 5 ≡ inputs_of five
front_inputs = refl

food_work : work_after plan (inputs_to (core six None) 5) 1 ≡ leaf_work (100 ∷ 100 ∷ 100 ∷ 100 ∷ []) (None ∷ None ∷ None ∷ None ∷ []) (Some (pos 1000) ∷ [])
food_work = refl

revised_work : work_after plan (inputs_to (core six None) 6) 1 ≡ leaf_work (200 ∷ 100 ∷ 100 ∷ 100 ∷ []) (None ∷ None ∷ None ∷ None ∷ []) (Some (pos 1000) ∷ [])
revised_work = refl

-- the round is published at its front, and the next has the same two jobs, up to the sixth
abbrev after : CoreState
after = with_published (core six None) 1 (round 5 Done Done)

after_history : after.history ≡ six ++ Publish 1 5 2 ∷ []
after_history = refl

after_front : published after ≡ 5
after_front = refl

after_accepted : accepted after ≡ 6
after_accepted = refl

second_round : next_round after ≡ round 6 Waiting Waiting
unfolding opened_jobs leaves_from
second_round = refl
