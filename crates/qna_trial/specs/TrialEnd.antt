-- What `trial` leaves, and why it ended as it did.
use Rattle.std.specs.Prelude.{◌≡◌, ◌⊎◌, ℕ, Bool, true, false, List, Some}
use Rattle.command_words.specs.TrialWords.{TrialForm, trial_form}
use Rattle.qna_edges.specs.Count.{Rose}
use Rattle.qna_edges.specs.Paper.{BreaksOff, Paper, grown}
use Rattle.qna_edges.specs.declared.status.Status.{Status}
use Rattle.qna_edges.specs.declared.status.Status.TheVariants.{Done, Memory, WriteFault}
use Rattle.qna_trial.specs.Trial.{trial_text}

-- how `trial` can end
abbrev pub ends_a_trial : Status → Bool
ends_a_trial Done = true
ends_a_trial Memory = true
ends_a_trial WriteFault = true
ends_a_trial status = false

-- `trial` with these words took the report from the old to the new, and ended with this status
pub record IsTrialEnd (before after : Paper) (said : TrialForm) (status : Status) : Type 0 where
  -- the whole report was written, or the device failed and it is broken off
  pub whole : status ≡ Done → after ≡ grown before (trial_text said)
  pub cut : status ≡ WriteFault → Rose before.faults after.faults × BreaksOff before after (trial_text said)
  -- for want of memory nothing is written, or the report is broken off since it wanted memory
  pub memory : status ≡ Memory →
      (after ≡ before) ⊎ (Rose before.wants after.wants × BreaksOff before after (trial_text said))
  pub stands : status ≡ Memory → after.faults ≡ before.faults
  pub ends : ends_a_trial status ≡ true

-- P holds of the form, where the words are of the command `trial`
abbrev pub OnTrial : List (List ℕ) → (TrialForm → Type 0) → Type 0
OnTrial words P = (form : TrialForm) → trial_form words ≡ Some form → P form

-- where the count of the report's faults didn't rise, every end of `trial` is whole or for want of memory
abbrev pub TrialsComplete : Type 0
TrialsComplete =
    (before after : Paper) (said : TrialForm) (status : Status) → IsTrialEnd before after said status
    → ¬ Rose before.faults after.faults → (status ≡ Done) ⊎ (status ≡ Memory)
