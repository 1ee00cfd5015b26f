-- The first of some statuses that isn't `Done`.
use Rattle.std.proofs.Common.{◌≡◌, ◌∙◌, ℕ, suc, ◌+◌, ◌≤◌, ◌<◌, Bool, true, false, List, [], ◌∷◌, ◌++◌, length, get_or, drop, refl, sym, ap, subst, inl, inr, arith}
use Rattle.std.specs.Prelude.{◌≢◌, ◌⊎◌}
use Rattle.std.proofs.Math.Seq.{drop-cons}
use Rattle.qna_edges.specs.declared.status.Status.{Status}
use Rattle.qna_edges.specs.declared.status.Status.TheVariants.{Done, Memory, Usage, PlanFault, OpenFault, ReadFault, WriteFault, CheckNo, TooMuch}
use Rattle.compile_workers.specs.declared.desk.DeskEnd.{DeskEnd}
use Rattle.compile_workers.specs.declared.desk.DeskEnd.TheVariants.{Ended, Memory as Wanting, ReadFault as Unread, TooMuch as TooLong, WriteFault as Unwritten}
use Rattle.qna_live.specs.Live.{first_fault, status_of_end, status_of_ends, status_of_run}

-- a fault is the first, whatever follows
pub fault-first : (status later last : Status) → status ≢ Done → first_fault (first_fault status later) last ≡ status
fault-first Done later last fault = absurd (fault refl)
fault-first Memory later last fault = refl
fault-first Usage later last fault = refl
fault-first PlanFault later last fault = refl
fault-first OpenFault later last fault = refl
fault-first ReadFault later last fault = refl
fault-first WriteFault later last fault = refl
fault-first CheckNo later last fault = refl
fault-first TooMuch later last fault = refl

-- the first of three
pub first-three : (first second third : Status) → first_fault (first_fault first second) third ≡ first_fault first (first_fault second third)
first-three Done second third = refl
first-three Memory second third = refl
first-three Usage second third = refl
first-three PlanFault second third = refl
first-three OpenFault second third = refl
first-three ReadFault second third = refl
first-three WriteFault second third = refl
first-three CheckNo second third = refl
first-three TooMuch second third = refl

-- the status from a desk on
pub ends-from : (ends : List DeskEnd) (i : ℕ) (d : DeskEnd) → i < length ends → status_of_ends (drop i ends) ≡ first_fault (status_of_end (get_or ends i d)) (status_of_ends (drop (i + 1) ends))
ends-from ends i d below =
    let next : suc i ≡ i + 1 = omega arith in
    ap status_of_ends (drop-cons ends i d below) ∙ ap (λ (n : ℕ). first_fault (status_of_end (get_or ends i d)) (status_of_ends (drop n ends))) next

-- a desk that ended well
pub ends-done : (ends : List DeskEnd) (i : ℕ) (d : DeskEnd) (all : Status) → i < length ends → all ≡ status_of_ends (drop i ends) → status_of_end (get_or ends i d) ≡ Done → all ≡ status_of_ends (drop (i + 1) ends)
ends-done ends i d all below so_far done = so_far ∙ ends-from ends i d below ∙ ap (λ (s : Status). first_fault s (status_of_ends (drop (i + 1) ends))) done

-- and one that didn't
pub ends-fault : (ends : List DeskEnd) (i : ℕ) (d : DeskEnd) (all last fault : Status) → i < length ends → all ≡ status_of_ends (drop i ends) → fault ≡ status_of_end (get_or ends i d) → fault ≢ Done → fault ≡ first_fault all last
ends-fault ends i d all last fault below so_far is bad =
    sym (ap (λ (s : Status). first_fault s last) (so_far ∙ ends-from ends i d below ∙ ap (λ (s : Status). first_fault s (status_of_ends (drop (i + 1) ends))) (sym is)) ∙ fault-first fault (status_of_ends (drop (i + 1) ends)) last bad)

-- ends of desks, where those that have none ended for want of memory
abbrev pub all_ends : {X : Type 0} → List X → List DeskEnd → List DeskEnd
all_ends [] ends = ends
all_ends (desk ∷ desks) [] = Wanting ∷ all_ends desks []
all_ends (desk ∷ desks) (end ∷ ends) = end ∷ all_ends desks ends

-- where as many ended as there are
pub all-ended : {X : Type 0} (desks : List X) (ends : List DeskEnd) → length ends ≡ length desks → all_ends desks ends ≡ ends
all-ended [] ends same = refl
all-ended (desk ∷ desks) [] same = absurd (omega arith)
all-ended (desk ∷ desks) (end ∷ ends) same = ap (λ (more : List DeskEnd). end ∷ more) (all-ended desks ends (omega arith))

-- where memory was wanting anyway
pub wanting-ended : {X : Type 0} (desks : List X) (ends : List DeskEnd) (last : Status) → first_fault (status_of_ends (all_ends desks ends)) (first_fault Memory last) ≡ first_fault (status_of_ends ends) (first_fault Memory last)
wanting-ended [] ends last = refl
wanting-ended (desk ∷ desks) [] last = refl
wanting-ended (desk ∷ desks) (end ∷ ends) last =
    first-three (status_of_end end) (status_of_ends (all_ends desks ends)) (first_fault Memory last)
    ∙ ap (first_fault (status_of_end end)) (wanting-ended desks ends last)
    ∙ sym (first-three (status_of_end end) (status_of_ends ends) (first_fault Memory last))

-- the status of a run with all its ends
pub run-status : {X : Type 0} (desks : List X) (ends : List DeskEnd) (shared written reported : Status) → (shared ≡ Done) ⊎ (shared ≡ Memory) → (shared ≡ Done → length ends ≡ length desks) →
    status_of_run (all_ends desks ends) shared written reported ≡ status_of_run ends shared written reported
run-status desks ends shared written reported one all = elim one [
  | inl done ↦ ap (λ (told : List DeskEnd). status_of_run told shared written reported) (all-ended desks ends (all done))
  | inr wants ↦ subst (λ (s : Status). status_of_run (all_ends desks ends) s written reported ≡ status_of_run ends s written reported) (sym wants) (wanting-ended desks ends (first_fault written reported))
]
