-- What `batch` leaves where it ends with `Done`.
use Rattle.std.proofs.Common.{◌≡◌, List, ℕ, Option, Some, IfSome, inl, inr, refl}
use Rattle.std.specs.Prelude.{Ok}
use Rattle.qna_edges.specs.Paper.{grown}
use Rattle.series_tables.specs.Plan.{plan_of}
use Rattle.input_rules.specs.Accepted.{accepted}
use Rattle.qna_parts.specs.Intake.{refusals_text}
use Rattle.qna_laws.specs.Releases.{ReleasesAreCertified}
use Rattle.qna_laws.proofs.Certified.{releases_certified}
use Rattle.compile_workers.specs.Release.{release_of}
use Rattle.qna_cli.specs.Batch.{BatchesRelease}

at_file : (P : List ℕ → Type 0) (file : Option (List ℕ)) (text : List ℕ) → file ≡ Some text → IfSome file P → P text
at_file P file text e fact = rw e at fact

-- the release of all accepted inputs, and each refused line
pub batches_release : BatchesRelease
unfolding ReleasesAreCertified
batches_release old new before after plan input output spelled text end tells of_plan of_input = elim end [
  | inl at_plan ↦ absurd (let no = at_plan.ends in cc)
  | inr past ↦
      let whole = past.ends.done refl in (
        past.shape,
        at_file (λ read. plan_of read ≡ Ok past.shape) (old.under plan).file spelled of_plan (past.spelled tells),
        at_file (λ read. (new.under output).file ≡ Some (release_of past.shape (accepted past.shape read))) (old.under input).file text of_input (whole.written tells),
        at_file (λ read. after ≡ grown before (refusals_text past.shape read)) (old.under input).file text of_input (whole.reported tells),
        releases_certified past.shape text,
      )
]
