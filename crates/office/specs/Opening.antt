-- The passes with which an office opens. It is this product's own.
use Rattle.std.specs.Prelude.{◌≡◌, ℕ, ◌-◌, true, false, List, [], ◌∷◌, ◌++◌, map, reverse, Some}
use Rattle.std.specs.List.{range_with_len}
use Rattle.series_tables.specs.Plan.{PlanShape}
use Rattle.desk_lock.specs.Passes.{LockName}
use Rattle.office.specs.Holds.{Known}

-- the numbers of the parties but the first: desks count from 1, workers from 17
abbrev pub other_parties : ℕ → ℕ → List ℕ
other_parties desks workers = range_with_len 2 (desks - 1) ++ range_with_len 17 workers

-- the pass of a party, which has seen nothing
abbrev pub new_pass : LockName → PlanShape → ℕ → Known
new_pass lock plan party = record {
  lock = lock;
  live = true;
  label = Some plan;
  party = party;
  seen = [];
  ended = [];
  gives = false;
  given = [];
}

-- that of the first desk knows which parties were given, the last first
abbrev pub knowing_pass : LockName → PlanShape → List ℕ → Known
knowing_pass lock plan others = record {
  lock = lock;
  live = true;
  label = Some plan;
  party = 1;
  seen = [];
  ended = [];
  gives = true;
  given = reverse others ++ 1 ∷ [];
}

-- the passes in the order of parties
abbrev pub first_passes : LockName → PlanShape → ℕ → ℕ → List Known
first_passes lock plan desks workers =
    knowing_pass lock plan (other_parties desks workers) ∷ map (new_pass lock plan) (other_parties desks workers)

-- the pass of a party that another pass gives, which has seen what that one has
abbrev pub given_pass : Known → ℕ → Known
given_pass pass party = record {
  lock = pass.lock;
  live = true;
  label = pass.label;
  party = party;
  seen = pass.seen;
  ended = [];
  gives = false;
  given = [];
}

-- these parties were given, one after another, and their passes stand behind those before
abbrev pub AddsPasses : List ℕ → Known → List Known → Known → List Known → Type 0
AddsPasses parties before passes after now =
    (after ≡ record before { given = reverse parties ++ before.given })
    × (now ≡ passes ++ map (given_pass before) parties)
