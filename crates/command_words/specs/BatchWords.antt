-- The words of `batch`, a plan, an input and an output, and those of `check`, a certificate.
use Rattle.std.specs.Prelude.{ℕ, ◌&&◌, List, [], ◌∷◌, codes, Option, Some, None, if◌then◌else◌}
use Rattle.std.specs.Str.{bytes_eq}
use Rattle.command_words.specs.Command.{are_file_names, is_file_name}
use Rattle.command_words.specs.declared.batch.BatchWords.{BatchWords}

-- what the words of `batch` say
pub record BatchForm : Type 0 where
  pub plan : List ℕ
  pub input : List ℕ
  pub output : List ℕ

abbrev pub batch_view : BatchWords → BatchForm
batch_view said = record { plan = said.plan.now; input = said.input.now; output = said.output.now }

-- the form that words have, if they are `batch PLAN INPUT OUTPUT`
abbrev pub batch_form : List (List ℕ) → Option BatchForm
batch_form (word ∷ plan ∷ input ∷ output ∷ []) =
    if bytes_eq word (codes "batch") && are_file_names plan input output
    then Some (record { plan = plan; input = input; output = output }) else None
batch_form words = None

-- the name that words say, if they are `check CERT`
abbrev pub check_form : List (List ℕ) → Option (List ℕ)
check_form (word ∷ name ∷ []) = if bytes_eq word (codes "check") && is_file_name name then Some name else None
check_form words = None
