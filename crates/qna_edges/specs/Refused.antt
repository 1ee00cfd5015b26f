-- Whether a call was refused by the device.
use Rattle.std.specs.Prelude.{Bool, true, false, Result, Ok, Err}
use Rattle.qna_edges.specs.declared.refused.Refused.{Refused}
use Rattle.qna_edges.specs.declared.refused.Refused.TheVariants.{Failed, Memory}

-- the device failed; want of memory is no such failure
abbrev pub is_failed : {T : Type 0} → Result T Refused → Bool
is_failed (Ok x) = false
is_failed (Err Failed) = true
is_failed (Err Memory) = false
