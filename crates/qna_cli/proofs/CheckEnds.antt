-- How `check` ends where nothing fails.
use Rattle.std.proofs.Common.{◌≡◌, ◌≤◌, ◌<◌, ◌+◌, ℕ, List, length, Option, Some, IfSome, inl, inr, refl, ap, arith}
use Rattle.qna_edges.specs.declared.status.Status.{Status}
use Rattle.qna_edges.specs.declared.status.Status.TheVariants.{Done, Memory, Usage, PlanFault, OpenFault, ReadFault, WriteFault, CheckNo, TooMuch}
use Rattle.qna_edges.specs.Paper.{Paper}
use Rattle.qna_edges.specs.Shelves.{Shelf, Shelves}
use Rattle.qna_parts.specs.Trace.{Trace, IsReadWhole, IsUnfailed, Passes}
use Rattle.qna_cli.specs.CheckEnd.{certificate_limit, IsCheckEnd, CheckCompletes}

too_long : (file : Option (List ℕ)) (text : List ℕ) (left : ℕ) → file ≡ Some text → length text ≤ certificate_limit → IfSome file (λ text. Passes certificate_limit 8192 (length text) left) → ⊥
too_long file text left e few many = let more : Passes certificate_limit 8192 (length text) left = rw e at many in let beyond = more.0 in omega (arith, beyond)

-- nothing failed of a file that was read to its end
pub unfailed_whole : (limit : ℕ) (file : Trace) → IsReadWhole limit file → IsUnfailed file
unfailed_whole limit file read = record {
  opens = ap (λ (s : Shelf). s.opens) read.once;
  creates = ap (λ (s : Shelf). s.creates) read.once;
  reads = ap (λ (s : Shelf). s.reads) read.once;
  writes = ap (λ (s : Shelf). s.writes) read.once;
}

-- where no count rose and the certificate is within the limit, an end of `check` is at a verdict or for want of memory
pub check_completes : (old new : Shelves) (before after : Paper) (name : List ℕ) (status : Status) → IsCheckEnd old new before after name status → CheckCompletes old new before after name status
check_completes old new before after name Done end text tells at few opened read told = inl refl
check_completes old new before after name CheckNo end text tells at few opened read told = inr (inl refl)
check_completes old new before after name Memory end text tells at few opened read told = inr (inr refl)
check_completes old new before after name Usage end text tells at few opened read told = absurd (let no = end.ends in cc)
check_completes old new before after name PlanFault end text tells at few opened read told = absurd (let no = end.ends in cc)
check_completes old new before after name OpenFault end text tells at few opened read told = absurd (opened (end.unread.unopened refl).0.0)
check_completes old new before after name ReadFault end text tells at few opened read told = absurd (read (end.unread.unread refl).0)
check_completes old new before after name WriteFault end text tells at few opened read told = absurd (told (end.cut_yes refl).0)
check_completes old new before after name TooMuch end text tells at few opened read told = absurd (too_long (old.under name).file text (new.under name).rest at few (end.unread.passed refl tells))
