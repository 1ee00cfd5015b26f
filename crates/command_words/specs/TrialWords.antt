-- The words of `trial`: a seed, and how many items, years and workers there are.
use Rattle.std.specs.Prelude.{ℕ, ◌≤◌, ◌<◌, ◌^◌, ◌-◌, nat_lt, List, [], ◌∷◌, codes, Option, Some, None, if◌then◌else◌}
use Rattle.std.specs.Str.{bytes_eq}
use Rattle.command_words.specs.LiveWords.{number_within}
use Rattle.command_words.specs.declared.trial.TrialWords.{TrialWords}

-- what the words say
pub record TrialForm : Type 0 where
  pub seed : ℕ
  pub items : ℕ
  pub years : ℕ
  pub workers : ℕ

abbrev pub trial_view : TrialWords → TrialForm
trial_view said = record { seed = said.seed; items = said.items; years = said.years; workers = said.workers }

-- a number, where it is one at least
abbrev pub one_at_least : Option ℕ → Option ℕ
one_at_least None = None
one_at_least (Some number) = if nat_lt 0 number then Some number else None

-- the number of a word, where it is from 1 to another
abbrev pub count_within : ℕ → List ℕ → Option ℕ
count_within most word = one_at_least (number_within most word)

-- the form of four numbers, if all are there
abbrev pub form_of_numbers : Option ℕ → Option ℕ → Option ℕ → Option ℕ → Option TrialForm
form_of_numbers (Some seed) (Some items) (Some years) (Some workers) =
    Some (record { seed = seed; items = items; years = years; workers = workers })
form_of_numbers _ _ _ _ = None

-- the form of four words: a seed of 64 bits, 1 to 512 items, 1 to 64 years, and 1 to 16 workers
abbrev pub form_of_texts : List ℕ → List ℕ → List ℕ → List ℕ → Option TrialForm
form_of_texts seed items years workers =
    form_of_numbers (number_within (2 ^ 64 - 1) seed) (count_within 512 items) (count_within 64 years)
    (count_within 16 workers)

-- the form that words have, if they are `trial SEED ITEMS YEARS WORKERS`
unfoldable pub trial_form : List (List ℕ) → Option TrialForm
trial_form (word ∷ seed ∷ items ∷ years ∷ workers ∷ []) =
    if bytes_eq word (codes "trial") then form_of_texts seed items years workers else None
trial_form words = None

-- a trial's numbers are within their ranges
pub record IsTrial (said : TrialForm) : Type 0 where
  pub seed : said.seed < 2 ^ 64
  pub items : (1 ≤ said.items) × (said.items ≤ 512)
  pub years : (1 ≤ said.years) × (said.years ≤ 64)
  pub workers : (1 ≤ said.workers) × (said.workers ≤ 16)
