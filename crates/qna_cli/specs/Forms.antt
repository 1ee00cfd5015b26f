-- The forms of all commands.
use Rattle.std.specs.Prelude.{◌≡◌, ℕ, false, List, None}
use Rattle.command_words.specs.Command.{is_batch, is_check}
use Rattle.command_words.specs.LiveWords.{live_form}
use Rattle.command_words.specs.TrialWords.{trial_form}

-- the words are of no command's form
pub record HasNoForm (words : List (List ℕ)) : Type 0 where
  pub batch : is_batch words ≡ false
  pub check : is_check words ≡ false
  pub live : live_form words ≡ None
  pub trial : trial_form words ≡ None
