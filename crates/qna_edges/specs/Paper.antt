-- What a sink holds, where it tells it, and what was counted of the writes that were refused.
use Rattle.std.specs.Prelude.{◌≡◌, ◌⊎◌, ℕ, ◌≤◌, ◌<◌, List, ◌++◌, length, take, Result, OnOk, OnErr, IsErrOf}
use Rattle.std.specs.Option.{option_map}
use Rattle.std.specs.declared.option.Option.{Option}
use Rattle.qna_edges.specs.Count.{Rose}
use Rattle.qna_edges.specs.declared.refused.Refused.{Refused}
use Rattle.qna_edges.specs.declared.refused.Refused.TheVariants.{Failed, Memory}

-- what a sink holds, where it tells it, how often its device failed, how often memory was wanting, and its name
pub record Paper : Type 0 where
  pub held : Option (List ℕ)
  pub faults : ℕ
  pub wants : ℕ
  pub name : List ℕ

-- a paper with a text added to it
abbrev pub grown : Paper → List ℕ → Paper
grown paper text = record paper { held = option_map (λ bytes. bytes ++ text) paper.held }

-- the device failed: the count of its faults rose, and nothing else changed
pub record Fails (old new : Paper) : Type 0 where
  pub later : old.faults ≤ new.faults
  pub rose : Rose old.faults new.faults
  pub same : new ≡ record old { faults = new.faults }

-- memory was wanting: the count of that rose, and nothing else changed
pub record Wants (old new : Paper) : Type 0 where
  pub later : old.wants ≤ new.wants
  pub rose : Rose old.wants new.wants
  pub same : new ≡ record old { wants = new.wants }

-- one of the two counts of refused writes rose
abbrev pub WasRefused : Paper → Paper → Type 0
WasRefused old new = Rose old.faults new.faults ⊎ Rose old.wants new.wants

-- a text was broken off: a beginning of it was added, but not all, and no count fell
pub record BreaksOff (old new : Paper) (text : List ℕ) : Type 0 where
  pub part : (k : ℕ) × (k < length text)
      × (new ≡ record (grown old (take k text)) { faults = new.faults; wants = new.wants })
  pub faults : old.faults ≤ new.faults
  pub wants : old.wants ≤ new.wants

-- a text was to be written: all of it was added, and no count rose; or it was broken off, and the refusal's count rose.
-- Unless the device failed, the count of its faults stands
pub record Prints {T : Type 0} (old new : Paper) (text : List ℕ) (result : Result T Refused) : Type 0 where
  pub ok : OnOk result (new ≡ grown old text)
  pub cut : OnErr result (BreaksOff old new text)
  pub failed : IsErrOf result Failed → Rose old.faults new.faults
  pub memory : IsErrOf result Memory → Rose old.wants new.wants
  pub stands : ¬ IsErrOf result Failed → new.faults ≡ old.faults

-- the same where the answer isn't told: all of the text was added, and no count rose; or it was broken off, and one did
abbrev pub Writes : Paper → Paper → List ℕ → Type 0
Writes old new text = (new ≡ grown old text) ⊎ (WasRefused old new × BreaksOff old new text)

-- a sink was only written: its count of faults didn't fall, and its name stands
pub record WasWritten (old new : Paper) : Type 0 where
  pub later : old.faults ≤ new.faults
  pub same_name : new.name ≡ old.name
