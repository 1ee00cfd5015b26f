-- The passes of an office that end in one again, for those who close it. It is this product's own.
use Rattle.std.specs.Prelude.{◌≡◌, ℕ, ◌==◌, Bool, true, false, ◌||◌, List, [], ◌∷◌, All}
use Rattle.std.specs.Option.{ForSome}
use Rattle.series_tables.specs.Fits.{FitsPlan}
use Rattle.series_tables.specs.declared.input.Input.{Input}
use Rattle.desk_lock.specs.Passes.{IsPassOf, LockName, is_in, is_named}
use Rattle.office.specs.Holds.{Known}

-- a party is that of one of these passes, or ended in one of them
abbrev pub is_among : ℕ → List Known → Bool
is_among party [] = false
is_among party (pass ∷ passes) = ((pass.party == party) || is_named party pass.ended) || is_among party passes

-- these are all the passes of an office: the first one knows which parties were given, and each is among them
abbrev pub AreAll : Known → List Known → Type 0
AreAll first others =
    (first.gives ≡ true)
    × ((party : ℕ) → is_in party first.given ≡ true → is_among party (first ∷ others) ≡ true)

-- a pass later on, in which others ended
abbrev pub IsGathered : Known → List Known → Known → Type 0
IsGathered first others after =
    (after.lock ≡ first.lock) × (after.live ≡ true) × (after.label ≡ first.label) × (after.party ≡ first.party)
    × (after.gives ≡ first.gives) × (after.given ≡ first.given)
    × ((party : ℕ) → is_among party (first ∷ others) ≡ true → is_among party (after ∷ []) ≡ true)

-- a pass with which these inputs may be sent
abbrev pub IsReady : LockName → List Input → Known → Type 0
IsReady lock inputs pass = IsPassOf lock pass × ForSome pass.label (λ plan. All (FitsPlan plan) inputs)

-- passes with which these inputs may be sent
pub record AreReady (lock : LockName) (inputs : List Input) (passes : List Known) : Type 0 where
  pub each : All (IsReady lock inputs) passes
