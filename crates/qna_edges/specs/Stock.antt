-- What a source has left.
use Rattle.std.specs.Prelude.{◌≡◌, ◌≤◌, ℕ, List, IfSome, IsSome}
use Rattle.std.specs.declared.option.Option.{Option}
use Rattle.qna_edges.specs.Count.{Rose}

-- what a source has left, where it tells it, how often its device failed, and its name
pub record Stock : Type 0 where
  pub left : Option (List ℕ)
  pub faults : ℕ
  pub name : List ℕ

-- bytes were taken, or the end was found: what is left may have changed, and nothing else
abbrev pub GivesBytes : Stock → Stock → Type 0
GivesBytes old new = new ≡ record old { left = new.left }

-- the device failed: the count of its faults rose, and nothing else changed
pub record ReadFails (old new : Stock) : Type 0 where
  pub later : old.faults ≤ new.faults
  pub rose : Rose old.faults new.faults
  pub same : new ≡ record old { faults = new.faults }

-- P holds of what a source had left, where it told it
abbrev pub OnLeft : Stock → (List ℕ → Type 0) → Type 0
OnLeft old P = IfSome old.left P

-- P holds of what a source had left and of what it has left, where it told both
abbrev pub OnLeftAndRest : Stock → Stock → (List ℕ → List ℕ → Type 0) → Type 0
OnLeftAndRest old new P = IfSome old.left (λ text. IfSome new.left (λ rest. P text rest))

-- a source was only read: its count didn't fall, its name stands, and what it told before it still tells
pub record WasRead (old new : Stock) : Type 0 where
  pub later : old.faults ≤ new.faults
  pub same_name : new.name ≡ old.name
  pub still_told : IfSome old.left (λ text. IsSome new.left)
