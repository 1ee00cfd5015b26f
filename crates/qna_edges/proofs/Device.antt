-- What a device holds that took nothing of a piece.
use Rattle.std.proofs.Common.{◌≡◌, ◌∙◌, ℕ, List, take, refl, Option, Some, None, ap}
use Rattle.std.proofs.lemmas.List.{append-nil}
use Rattle.std.specs.Io.KnownBytes.{Appends, Keeps}

-- no byte of a piece was added
pub keeps_all : (old new : Option (List ℕ)) (bytes : List ℕ) (n : ℕ) → n ≡ 0 → Appends old new (take n bytes) → Keeps old new
keeps_all None new bytes n none added = tt
keeps_all (Some held) None bytes n none added = absurd added
keeps_all (Some held) (Some now) bytes n none added = rw (none, append-nil held) at added
