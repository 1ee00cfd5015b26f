-- How a command ends where nothing fails.
use Rattle.std.proofs.Common.{◌≡◌, ◌≤◌, ℕ, true, false, List, length, Option, Some, IfSome, inl, inr, refl, arith}
use Rattle.std.specs.Prelude.{Result, Ok, Err, is_ok}
use Rattle.qna_edges.specs.Paper.{Paper, Writes}
use Rattle.qna_edges.specs.Shelves.{Shelves}
use Rattle.qna_edges.specs.declared.status.Status.{Status}
use Rattle.qna_edges.specs.declared.status.Status.TheVariants.{Done, Memory, Usage, PlanFault, OpenFault, ReadFault, WriteFault, CheckNo, TooMuch}
use Rattle.series_tables.specs.Plan.{PlanShape, PlanRefusal, plan_of}
use Rattle.qna_parts.specs.Intake.{most_bytes}
use Rattle.qna_parts.specs.Making.{Making}
use Rattle.qna_parts.specs.StatusLine.{plan_line}
use Rattle.qna_parts.specs.Trace.{Passes}
use Rattle.qna_parts.specs.Command.{plan_limit, OnRefused, StopsAtPlan, GoesPastPlan, IsCommandEnd, Completes}

-- a plan that is right isn't refused
no_refusal : (read : Result PlanShape PlanRefusal) (P : PlanRefusal → Type 0) → is_ok read ≡ true → OnRefused read P → ⊥
no_refusal (Ok plan) P right refused = refused
no_refusal (Err refusal) P right refused = let never : false ≡ true = right in cc

at_file : (P : List ℕ → Type 0) (file : Option (List ℕ)) (text : List ℕ) → file ≡ Some text → IfSome file P → P text
at_file P file text e fact = rw e at fact

too_long : (limit piece : ℕ) (text : List ℕ) (left : ℕ) → length text ≤ limit → Passes limit piece (length text) left → ⊥
too_long limit piece text left few many = let more = many.0 in omega (arith, more)

-- an end at the plan
stopped : (old new : Shelves) (before after : Paper) (plan input output : List ℕ) (status : Status) → StopsAtPlan old new before after plan status → Completes old new before after plan input output status
stopped old new before after plan input output Done end spelled text tells p i right few_p few_i still = inl refl
stopped old new before after plan input output Memory end spelled text tells p i right few_p few_i still = inr refl
stopped old new before after plan input output Usage end spelled text tells p i right few_p few_i still = absurd (let no = end.ends in cc)
stopped old new before after plan input output WriteFault end spelled text tells p i right few_p few_i still = absurd (let no = end.ends in cc)
stopped old new before after plan input output CheckNo end spelled text tells p i right few_p few_i still = absurd (let no = end.ends in cc)
stopped old new before after plan input output PlanFault end spelled text tells p i right few_p few_i still =
    absurd (no_refusal (plan_of spelled) _ right (at_file (λ read. OnRefused (plan_of read) (λ refusal. Writes before after (plan_line refusal))) (old.under plan).file spelled p (end.refused refl tells)))
stopped old new before after plan input output OpenFault end spelled text tells p i right few_p few_i still = absurd (still.plan_opened (end.unread.unopened refl).0.0)
stopped old new before after plan input output ReadFault end spelled text tells p i right few_p few_i still = absurd (still.plan_read (end.unread.unread refl).0)
stopped old new before after plan input output TooMuch end spelled text tells p i right few_p few_i still =
    absurd (too_long plan_limit 8192 spelled (new.under plan).rest few_p (at_file (λ read. Passes plan_limit 8192 (length read) (new.under plan).rest) (old.under plan).file spelled p (end.unread.passed refl tells)))

-- an end with a plan
went_on : (made : Making) (old new : Shelves) (before after : Paper) (plan input output : List ℕ) (status : Status) → GoesPastPlan made old new before after plan input output status →
    Completes old new before after plan input output status
went_on made old new before after plan input output Done end spelled text tells p i right few_p few_i still = inl refl
went_on made old new before after plan input output Memory end spelled text tells p i right few_p few_i still = inr refl
went_on made old new before after plan input output Usage end spelled text tells p i right few_p few_i still = absurd (let no = end.ends.ends in cc)
went_on made old new before after plan input output PlanFault end spelled text tells p i right few_p few_i still = absurd (let no = end.ends.ends in cc)
went_on made old new before after plan input output CheckNo end spelled text tells p i right few_p few_i still = absurd (let no = end.ends.ends in cc)
went_on made old new before after plan input output OpenFault end spelled text tells p i right few_p few_i still = absurd (elim (end.ends.open_fault refl) [
  | inl of_input ↦ still.input_opened of_input.unopened.0
  | inr of_output ↦ still.output_created of_output.rose
])
went_on made old new before after plan input output ReadFault end spelled text tells p i right few_p few_i still = absurd (still.input_read (end.ends.read_fault refl).rose)
went_on made old new before after plan input output WriteFault end spelled text tells p i right few_p few_i still = absurd (elim (end.ends.write_fault refl) [
  | inl of_report ↦ still.reported of_report.rose
  | inr of_output ↦ still.output_written of_output.rose
])
went_on made old new before after plan input output TooMuch end spelled text tells p i right few_p few_i still =
    absurd (too_long most_bytes 65536 text (new.under input).rest few_i (at_file (λ read. Passes most_bytes 65536 (length read) (new.under input).rest) (old.under input).file text i ((end.ends.too_much refl).passed tells)))

-- where no count rose, the plan is right and both files are within their limits, a command ends whole or for want of memory
pub completes : (made : Making) (old new : Shelves) (before after : Paper) (plan input output : List ℕ) (status : Status) → IsCommandEnd made old new before after plan input output status →
    Completes old new before after plan input output status
completes made old new before after plan input output status end = elim end [
  | inl at_plan ↦ stopped old new before after plan input output status at_plan
  | inr past ↦ went_on made old new before after plan input output status past
]
