-- Words of one command are no words of another.
use Rattle.std.proofs.Common.{◌≡◌, ◌∙◌, ℕ, Bool, true, false, ◌&&◌, List, [], ◌∷◌, Some, None, refl, ap, sym}
use Rattle.std.specs.Prelude.{codes}
use Rattle.std.specs.Str.{bytes_eq}
use Rattle.std.proofs.lemmas.Slice.Eq.{bytes_eq-Decides}
use Rattle.command_words.specs.Command.{is_file_name, is_batch, are_file_names, begins_check, is_check, OnBatch, OnCheck}
use Rattle.command_words.specs.LiveWords.{LiveForm, live_form}
use Rattle.command_words.specs.TrialWords.{TrialForm, trial_form}
use Rattle.command_words.specs.Words.{begins_by, begins_live}
use Rattle.command_words.proofs.Callers.{check_unlike_live, live_unnamed}
use Rattle.command_words.proofs.Plain.{batch_lived, check_lived}
use Rattle.command_words.proofs.Trials.{trial_lived, trial_unnamed}
use Rattle.qna_live.specs.Live.{OnLive}
use Rattle.qna_cli.specs.Forms.{HasNoForm}

-- a word that is one of two names isn't the other
other_word : (name other word : List ℕ) → bytes_eq name other ≡ false → bytes_eq word name ≡ true
    → bytes_eq word other ≡ false
other_word name other word differ e =
    let is : word ≡ name = (bytes_eq-Decides word name).0 e in
    ap (λ (w : List ℕ). bytes_eq w other) is ∙ differ

-- words that begin with another name are none of `batch`
not_batch : (name : List ℕ) (words : List (List ℕ)) → bytes_eq name (codes "batch") ≡ false
    → begins_by name words ≡ true → is_batch words ≡ false
not_batch name [] differ e = refl
not_batch name (a ∷ []) differ e = refl
not_batch name (a ∷ b ∷ []) differ e = refl
not_batch name (a ∷ b ∷ c ∷ []) differ e = refl
not_batch name (word ∷ plan ∷ input ∷ output ∷ []) differ e =
    ap (λ (test : Bool). test && are_file_names plan input output) (other_word name (codes "batch") word differ e)
not_batch name (a ∷ b ∷ c ∷ d ∷ f ∷ words) differ e = refl

-- and others are none of `check`
not_check : (words : List (List ℕ)) → begins_by (codes "check") words ≡ false → is_check words ≡ false
not_check [] e = refl
not_check (word ∷ []) e = refl
not_check (word ∷ name ∷ []) e = ap (λ (test : Bool). test && is_file_name name) e
not_check (word ∷ name ∷ more ∷ words) e = refl

begins_check_by : (words : List (List ℕ)) → begins_by (codes "check") words ≡ true → begins_check words ≡ true
begins_check_by [] e = e
begins_check_by (word ∷ words) e = e

-- words that begin with `check` are none of `live`
not_live : (words : List (List ℕ)) → begins_by (codes "check") words ≡ true → live_form words ≡ None
not_live words e = live_unnamed words (check_unlike_live words (begins_check_by words e))

-- nor of `trial`
pub not_trial : (words : List (List ℕ)) → begins_by (codes "check") words ≡ true → trial_form words ≡ None
not_trial [] e = trial_unnamed [] refl
not_trial (word ∷ words) e = trial_unnamed (word ∷ words) (other_word (codes "check") (codes "trial") word refl e)

-- what is said of `batch`, `check` and `live` holds of words that aren't theirs
pub no_batch : (P : List ℕ → List ℕ → List ℕ → Type 0) (words : List (List ℕ)) → is_batch words ≡ false
    → OnBatch words P
no_batch P words e h = absurd (let never : true ≡ false = sym h ∙ e in cc)

pub no_check : (P : List ℕ → Type 0) (words : List (List ℕ)) → is_check words ≡ false → OnCheck words P
no_check P words e h = absurd (let never : true ≡ false = sym h ∙ e in cc)

pub no_live : (P : LiveForm → Type 0) (words : List (List ℕ)) → live_form words ≡ None → OnLive words P
no_live P words e form h = absurd (let never : Some form ≡ None = sym h ∙ e in cc)

-- words that are none of `live`, or of `trial`, say nothing of it
pub never_live : (words : List (List ℕ)) (form : LiveForm) → live_form words ≡ None → live_form words ≡ Some form → ⊥
never_live words form none is = let never : Some form ≡ None = sym is ∙ none in cc

pub never_trial : (words : List (List ℕ)) (form : TrialForm) → trial_form words ≡ None → trial_form words ≡ Some form → ⊥
never_trial words form none is = let never : Some form ≡ None = sym is ∙ none in cc

-- ---- words that begin with `check`

pub check_not_batch : (P : List ℕ → List ℕ → List ℕ → Type 0) (words : List (List ℕ))
    → begins_by (codes "check") words ≡ true → OnBatch words P
check_not_batch P words e = no_batch P words (not_batch (codes "check") words refl e)

pub check_not_live : (P : LiveForm → Type 0) (words : List (List ℕ)) → begins_by (codes "check") words ≡ true
    → OnLive words P
check_not_live P words e = no_live P words (not_live words e)

pub check_no_form : (words : List (List ℕ)) → begins_by (codes "check") words ≡ true → is_check words ≡ false
    → HasNoForm words
check_no_form words e none = record {
  batch = not_batch (codes "check") words refl e;
  check = none;
  live = not_live words e;
  trial = not_trial words e;
}

-- ---- words that begin with `live`

pub live_not_batch : (P : List ℕ → List ℕ → List ℕ → Type 0) (words : List (List ℕ))
    → begins_by (codes "live") words ≡ true → OnBatch words P
live_not_batch P words e = no_batch P words (batch_lived words e)

pub live_not_check : (P : List ℕ → Type 0) (words : List (List ℕ)) → begins_by (codes "live") words ≡ true
    → OnCheck words P
live_not_check P words e = no_check P words (check_lived words e)

pub live_no_form : (words : List (List ℕ)) → begins_by (codes "live") words ≡ true → live_form words ≡ None
    → HasNoForm words
live_no_form words e none = record {
  batch = batch_lived words e;
  check = check_lived words e;
  live = none;
  trial = trial_lived words e;
}

-- ---- words that begin with `trial`

pub trial_not_batch : (P : List ℕ → List ℕ → List ℕ → Type 0) (words : List (List ℕ))
    → begins_by (codes "trial") words ≡ true → OnBatch words P
trial_not_batch P words e = no_batch P words (not_batch (codes "trial") words refl e)

pub trial_no_form : (words : List (List ℕ)) → begins_by (codes "check") words ≡ false
    → begins_by (codes "live") words ≡ false → begins_by (codes "trial") words ≡ true → trial_form words ≡ None
    → HasNoForm words
trial_no_form words no_check no_live e none = record {
  batch = not_batch (codes "trial") words refl e;
  check = not_check words no_check;
  live = live_unnamed words no_live;
  trial = none;
}

-- ---- other words

pub batch_not_check : (P : List ℕ → Type 0) (words : List (List ℕ)) → begins_by (codes "check") words ≡ false
    → OnCheck words P
batch_not_check P words e = no_check P words (not_check words e)

pub batch_not_live : (P : LiveForm → Type 0) (words : List (List ℕ)) → begins_by (codes "live") words ≡ false
    → OnLive words P
batch_not_live P words e = no_live P words (live_unnamed words e)

pub batch_no_form : (words : List (List ℕ)) → begins_by (codes "check") words ≡ false
    → begins_by (codes "live") words ≡ false → begins_by (codes "trial") words ≡ false → is_batch words ≡ false
    → HasNoForm words
batch_no_form words no_check no_live no_trial none = record {
  batch = none;
  check = not_check words no_check;
  live = live_unnamed words no_live;
  trial = trial_unnamed words no_trial;
}

pub ruleset branches = (
  check_not_batch,
  check_not_live,
  check_no_form,
  live_not_batch,
  live_not_check,
  live_no_form,
  trial_not_batch,
  trial_no_form,
  batch_not_check,
  batch_not_live,
  batch_no_form,
)
