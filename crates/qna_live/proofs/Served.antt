-- A serving, put together.
use Rattle.std.proofs.Common.{◌≡◌, ◌∙◌, ℕ, Bool, true, false, List, length, refl, sym, ap, subst, inl, inr}
use Rattle.std.specs.Prelude.{◌⊎◌, if◌then◌else◌}
use Rattle.qna_edges.specs.Paper.{Paper}
use Rattle.qna_edges.specs.declared.status.Status.{Status}
use Rattle.qna_edges.specs.declared.status.Status.TheVariants.{Done, Memory}
use Rattle.series_tables.specs.Plan.{PlanShape}
use Rattle.accounts_history.specs.History.{IsLawful, Sent, journal}
use Rattle.accounts_history.specs.declared.entry.Entry.{Entry}
use Rattle.release_print.specs.Journal.{journal_text}
use Rattle.compile_workers.specs.DeskEnd.{Ends}
use Rattle.compile_workers.specs.Parties.{AreOfDesks, AreServed}
use Rattle.compile_workers.specs.declared.desk.DeskEnd.{DeskEnd}
use Rattle.qna_live.specs.Live.{IsTextWritten, first_fault, status_of_ends, whole_release}
use Rattle.qna_live.specs.Serving.{HasServedAll}
use Rattle.qna_live.proofs.Statuses.{first-three}

shared-is : (memory : Bool) → ((if memory then Memory else Done) ≡ Done) ⊎ ((if memory then Memory else Done) ≡ Memory)
shared-is true = inr refl
shared-is false = inl refl

not-wanting : (memory : Bool) → (if memory then Memory else Done) ≡ Done → memory ≡ false
not-wanting false is = refl
not-wanting true is = absurd (let no = is in cc)

-- the parts of a serving make it up
pub served-all : (plan : PlanShape) (olds news : List Ends) (kept keeps before after : Paper) (status serving written reported : Status) (history : List Entry) (ended : List DeskEnd) (memory : Bool) (count ends : ℕ) →
    IsLawful plan history → AreOfDesks count (journal history) → AreServed plan (journal history) 1 olds news ended → (memory ≡ false → ends ≡ count) → count ≡ length olds → ends ≡ length ended →
    IsTextWritten (journal_text plan history) kept keeps written → IsTextWritten (whole_release plan history) before after reported → serving ≡ first_fault (status_of_ends ended) (if memory then Memory else Done) →
    status ≡ first_fault serving (first_fault written reported) → HasServedAll plan olds news kept keeps before after status
served-all plan olds news kept keeps before after status serving written reported history ended memory count ends lawful senders served all desks told journaled released is whole = record {
  history = history;
  lawful = lawful;
  senders = subst (λ (n : ℕ). AreOfDesks n (journal history)) desks senders;
  ended = ended;
  served = served;
  shared = if memory then Memory else Done;
  shared_is = shared-is memory;
  all = λ done. sym told ∙ all (not-wanting memory done) ∙ desks;
  written = written;
  journaled = journaled;
  reported = reported;
  told = released;
  status_is = whole ∙ ap (λ (s : Status). first_fault s (first_fault written reported)) is ∙ first-three (status_of_ends ended) (if memory then Memory else Done) (first_fault written reported);
}
