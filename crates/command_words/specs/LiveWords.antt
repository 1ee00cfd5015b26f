-- The words of `live`: a plan, a journal, one to sixteen desks' files, and how many workers.
use Rattle.std.specs.Prelude.{ℕ, ◌+◌, ◌-◌, ◌*◌, Bool, true, not, ◌&&◌, nat_le, nat_lt, List, [], ◌∷◌, length}
use Rattle.std.specs.Prelude.{codes}
use Rattle.std.specs.Prelude.{Option, Some, None, if◌then◌else◌}
use Rattle.std.specs.List.{list_any}
use Rattle.std.specs.Str.{bytes_eq}
use Rattle.command_words.specs.Command.{is_file_name}
use Rattle.command_words.specs.Words.{plain_of}

-- a desk's two files
pub record DeskFiles : Type 0 where
  pub input : List ℕ
  pub output : List ℕ

-- what the words say
pub record LiveForm : Type 0 where
  pub plan : List ℕ
  pub journal : List ℕ
  pub desks : List DeskFiles
  pub workers : ℕ

-- the number that one to twenty decimal digits spell
abbrev pub digits_value : ℕ → List ℕ → Option ℕ
digits_value so_far [] = Some so_far
digits_value so_far (digit ∷ digits) =
    if nat_le 48 digit && nat_le digit 57 then digits_value (10 * so_far + (digit - 48)) digits else None

abbrev pub number_of_word : List ℕ → Option ℕ
number_of_word word = if nat_lt 0 (length word) && nat_le (length word) 20 then digits_value 0 word else None

-- that number, where it is at most another
abbrev pub number_within : ℕ → List ℕ → Option ℕ
number_within most word = elim (number_of_word word) [
  | None ↦ None
  | Some number ↦ if nat_le number most then Some number else None
]

-- how many workers there are: two, where the words don't say
abbrev pub workers_in : Option (List ℕ) → Option ℕ
workers_in None = Some 2
workers_in (Some word) = number_within 16 word

-- whether each is a file's name, and none stands twice
abbrev pub are_different_names : List (List ℕ) → Bool
are_different_names [] = true
are_different_names (name ∷ names) =
    is_file_name name && not (list_any (bytes_eq name) names) && are_different_names names

-- names two by two
abbrev pub desks_in : List (List ℕ) → Option (List DeskFiles)
desks_in [] = Some []
desks_in (input ∷ []) = None
desks_in (input ∷ output ∷ names) = elim (desks_in names) [
  | None ↦ None
  | Some desks ↦ Some (record { input = input; output = output } ∷ desks)
]

-- whether there are one to sixteen of them
abbrev pub are_desks : List DeskFiles → Bool
are_desks desks = nat_lt 0 (length desks) && nat_le (length desks) 16

-- the form with these desks and workers
abbrev pub form_with : List ℕ → List ℕ → Option (List DeskFiles) → Option ℕ → Option LiveForm
form_with plan journal None workers = None
form_with plan journal (Some desks) None = None
form_with plan journal (Some desks) (Some workers) =
    if are_desks desks
    then Some (record { plan = plan; journal = journal; desks = desks; workers = workers }) else None

-- the form that plain words have
abbrev pub form_of_plain : List (List ℕ) → Option (List ℕ) → Option LiveForm
form_of_plain (word ∷ plan ∷ journal ∷ names) workers =
    if bytes_eq word (codes "live") && are_different_names (plan ∷ journal ∷ names)
    then form_with plan journal (desks_in names) (workers_in workers) else None
form_of_plain words workers = None

-- the form that words have, if they are `live PLAN JOURNAL IN OUT ..`
unfoldable pub live_form : List (List ℕ) → Option LiveForm
live_form words = elim (plain_of words) [
  | None ↦ None
  | Some plain ↦ form_of_plain plain.plain plain.workers
]
