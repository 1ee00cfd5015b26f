-- How the parts of a command make up its end.
use Rattle.std.proofs.Common.{◌≡◌, ◌≤◌, ◌+◌, ℕ, Bool, true, List, length, Option, Some, None, refl, sym, ap, subst, ◌∙◌, inl, inr}
use Rattle.std.specs.Prelude.{◌≢◌, ◌⊎◌, IfSome, Ok}
use Rattle.qna_edges.specs.Count.{Rose}
use Rattle.qna_edges.specs.Paper.{Paper, Writes}
use Rattle.qna_edges.specs.Shelves.{Shelf, Shelves, IsReadOnce, OnlyRead}
use Rattle.qna_edges.specs.declared.status.Status.{Status}
use Rattle.qna_edges.specs.declared.status.Status.TheVariants as status
use Rattle.series_tables.specs.Plan.{PlanShape, plan_of}
use Rattle.qna_parts.specs.Making.{Making}
use Rattle.qna_parts.specs.Report.{ReportsFirst}
use Rattle.qna_parts.specs.StatusLine.{status_of_unread, unread_line}
use Rattle.qna_parts.specs.Trace.{Trace, trace_of, OnText, IsUnfailed, IsUnopened, Passes, IsNotCreated, IsCreatedOnce, EndsUnread}
use Rattle.qna_parts.specs.CommandEnd.{InputUnopened, OutputUncreated, WantsMemory, EndsWithPlan}
use Rattle.qna_parts.specs.Command.{plan_limit, ends_at_plan, OnlyBetween, OnlyCommand, StopsAtPlan}
use Rattle.qna_parts.specs.declared.read.Unread.{Unread}
use Rattle.qna_parts.specs.declared.read.Unread.TheVariants as unread
use Rattle.qna_parts.proofs.Reading.{report_begun}

-- want of memory before anything was reported or created
pub wants_before : (made : Making) (plan : PlanShape) (input output : Trace) (before after : Paper) → after ≡ before → IsUnfailed input → output.new ≡ output.old → WantsMemory made plan input output before after
wants_before made plan input output before after same unread untouched = record {
  unread = unread;
  unwritten = record {
    opens = ap (λ (s : Shelf). s.opens) untouched;
    creates = ap (λ (s : Shelf). s.creates) untouched;
    reads = ap (λ (s : Shelf). s.reads) untouched;
    writes = ap (λ (s : Shelf). s.writes) untouched;
  };
  unreported = ap (λ (p : Paper). p.faults) same;
  told = λ tells. subst (λ (p : Paper). IfSome input.old.file (λ text. ReportsFirst plan before p text)) (sym same) (report_begun plan input.old.file before);
  held = inl untouched;
}

-- an end before the output was created
pub ends_unopened : (made : Making) (plan : PlanShape) (input output : Trace) (before after : Paper) (end : Status) →
    (end ≡ status.OpenFault → InputUnopened input output before after ⊎ OutputUncreated input output before after) →
    (end ≡ status.Memory → (after ≡ before) × IsUnfailed input × (output.new ≡ output.old)) →
    (end ≡ status.OpenFault) ⊎ (end ≡ status.Memory) → EndsWithPlan made plan input output before after end
ends_unopened made plan input output before after status.OpenFault opened wants one = record {
  done = λ is. absurd (let never = is in cc);
  open_fault = opened;
  read_fault = λ is. absurd (let never = is in cc);
  too_much = λ is. absurd (let never = is in cc);
  write_fault = λ is. absurd (let never = is in cc);
  memory = λ is. absurd (let never = is in cc);
  ends = refl;
}
ends_unopened made plan input output before after status.Memory opened wants one = record {
  done = λ is. absurd (let never = is in cc);
  open_fault = λ is. absurd (let never = is in cc);
  read_fault = λ is. absurd (let never = is in cc);
  too_much = λ is. absurd (let never = is in cc);
  write_fault = λ is. absurd (let never = is in cc);
  memory = λ is. let early = wants refl in wants_before made plan input output before after early.0 early.1 early.2;
  ends = refl;
}
ends_unopened made plan input output before after status.Done opened wants one = absurd (elim one [ inl is ↦ let never = is in cc | inr is ↦ let never = is in cc ])
ends_unopened made plan input output before after status.Usage opened wants one = absurd (elim one [ inl is ↦ let never = is in cc | inr is ↦ let never = is in cc ])
ends_unopened made plan input output before after status.PlanFault opened wants one = absurd (elim one [ inl is ↦ let never = is in cc | inr is ↦ let never = is in cc ])
ends_unopened made plan input output before after status.ReadFault opened wants one = absurd (elim one [ inl is ↦ let never = is in cc | inr is ↦ let never = is in cc ])
ends_unopened made plan input output before after status.WriteFault opened wants one = absurd (elim one [ inl is ↦ let never = is in cc | inr is ↦ let never = is in cc ])
ends_unopened made plan input output before after status.CheckNo opened wants one = absurd (elim one [ inl is ↦ let never = is in cc | inr is ↦ let never = is in cc ])
ends_unopened made plan input output before after status.TooMuch opened wants one = absurd (elim one [ inl is ↦ let never = is in cc | inr is ↦ let never = is in cc ])

-- what is known of a file that wasn't read to its end, by why
pub record Causes (why : Unread) (limit : ℕ) (file : Trace) (before after : Paper) : Type 0 where
  pub unopened : why ≡ unread.Open → IsUnopened file
  pub failed : why ≡ unread.Read → Rose file.old.reads file.new.reads
  pub within : why ≡ unread.Read → OnText file (λ text. length text ≤ limit + file.new.rest)
  pub passed : why ≡ unread.TooMuch → OnText file (λ text. Passes limit 8192 (length text) file.new.rest)
  pub unfailed : why ≡ unread.Memory → IsUnfailed file
  pub told : Writes before after (unread_line why file.name)

-- so it ends
pub ends_unread : (why : Unread) (limit : ℕ) (file : Trace) (before after : Paper) → Causes why limit file before after → EndsUnread limit file before after (status_of_unread why)
ends_unread unread.Memory limit file before after cause = record {
  unopened = λ is. absurd (let never = is in cc);
  unread = λ is. absurd (let never = is in cc);
  within = λ is. absurd (let never = is in cc);
  too_long = λ is. absurd (let never = is in cc);
  passed = λ is. absurd (let never = is in cc);
}
ends_unread unread.Open limit file before after cause = record {
  unopened = λ is. (cause.unopened refl, cause.told);
  unread = λ is. absurd (let never = is in cc);
  within = λ is. absurd (let never = is in cc);
  too_long = λ is. absurd (let never = is in cc);
  passed = λ is. absurd (let never = is in cc);
}
ends_unread unread.Read limit file before after cause = record {
  unopened = λ is. absurd (let never = is in cc);
  unread = λ is. (cause.failed refl, cause.told);
  within = λ is. cause.within refl;
  too_long = λ is. absurd (let never = is in cc);
  passed = λ is. absurd (let never = is in cc);
}
ends_unread unread.TooMuch limit file before after cause = record {
  unopened = λ is. absurd (let never = is in cc);
  unread = λ is. absurd (let never = is in cc);
  within = λ is. absurd (let never = is in cc);
  too_long = λ is. cause.told;
  passed = λ is. cause.passed refl;
}

-- a plan's file that wasn't read to its end stops the command
pub stops_unread : (why : Unread) (old new : Shelves) (before after : Paper) (plan : List ℕ) → Causes why plan_limit (trace_of old new plan) before after → (why ≡ unread.Memory → after ≡ before) →
    OnlyRead old new plan → StopsAtPlan old new before after plan (status_of_unread why)
stops_unread why old new before after plan cause silent only = record {
  unread = ends_unread why plan_limit (trace_of old new plan) before after cause;
  refused = λ is. absurd (no_fault why is);
  read = λ is. absurd (no_fault why is);
  memory = λ is. (silent (wanting why is), cause.unfailed (wanting why is));
  ends = ending why;
  only = only;
}
  where
    no_fault : (one : Unread) → status_of_unread one ≡ status.PlanFault → ⊥
    no_fault unread.Memory is = let never = is in cc
    no_fault unread.Open is = let never = is in cc
    no_fault unread.Read is = let never = is in cc
    no_fault unread.TooMuch is = let never = is in cc

    wanting : (one : Unread) → status_of_unread one ≡ status.Memory → one ≡ unread.Memory
    wanting unread.Memory is = refl
    wanting unread.Open is = absurd (let never = is in cc)
    wanting unread.Read is = absurd (let never = is in cc)
    wanting unread.TooMuch is = absurd (let never = is in cc)

    ending : (one : Unread) → ends_at_plan (status_of_unread one) ≡ true
    ending unread.Memory = refl
    ending unread.Open = refl
    ending unread.Read = refl
    ending unread.TooMuch = refl

-- what a plan's text spells is spelled by its file
pub spelled_by : (file : Option (List ℕ)) (items : List ℕ) (plan : PlanShape) → IfSome file (λ text. items ≡ text) → plan_of items ≡ Ok plan → IfSome file (λ text. plan_of text ≡ Ok plan)
spelled_by None items plan fact read = tt
spelled_by (Some text) items plan fact read = rw fact at read

-- a trace by its parts
abbrev parted : List ℕ → Bool → Shelf → Shelf → Trace
parted name tells old new = record { name = name; tells = tells; old = old; new = new }

-- the trace of a name that was as it is before
same_trace : (old mid new : Shelves) (name : List ℕ) → mid.tells ≡ old.tells → mid.under name ≡ old.under name → trace_of mid new name ≡ trace_of old new name
same_trace old mid new name tells same =
    ap (λ (b : Bool). parted name b (mid.under name) (new.under name)) tells ∙ ap (λ (s : Shelf). parted name old.tells s (new.under name)) same

-- the trace of a name that wasn't touched since
pub later_trace : (old mid new : Shelves) (name : List ℕ) → new.under name ≡ mid.under name → trace_of old mid name ≡ trace_of old new name
later_trace old mid new name same = ap (λ (s : Shelf). parted name old.tells (old.under name) s) (sym same)

-- how a command ends with its plan, from before the plan was read
pub ends_from : (made : Making) (shape : PlanShape) (old mid new : Shelves) (before after : Paper) (plan input output : List ℕ) (end : Status) → OnlyRead old mid plan → plan ≢ input → plan ≢ output →
    EndsWithPlan made shape (trace_of mid new input) (trace_of mid new output) before after end → EndsWithPlan made shape (trace_of old new input) (trace_of old new output) before after end
ends_from made shape old mid new before after plan input output end only not_input not_output ends =
    subst (λ (t : Trace). EndsWithPlan made shape t (trace_of old new output) before after end) (same_trace old mid new input only.tells (only.others input (λ same. not_input (sym same))))
    (subst (λ (t : Trace). EndsWithPlan made shape (trace_of mid new input) t before after end) (same_trace old mid new output only.tells (only.others output (λ same. not_output (sym same)))) ends)

-- what was done to the plan, and then to the input and the output
pub only_command : (old mid new : Shelves) (plan input output : List ℕ) → OnlyRead old mid plan → OnlyBetween mid new input output → plan ≢ input → plan ≢ output → OnlyCommand old new plan input output
only_command old mid new plan input output first then not_input not_output =
    let kept : new.under plan ≡ mid.under plan = then.others plan not_input not_output in
    let of_input : mid.under input ≡ old.under input = first.others input (λ same. not_input (sym same)) in
    let of_output : mid.under output ≡ old.under output = first.others output (λ same. not_output (sym same)) in
    record {
      others = λ n not_plan other_input other_output. then.others n other_input other_output ∙ first.others n not_plan;
      planned = subst (λ (s : Shelf). IsReadOnce (old.under plan) s) (sym kept) first.here;
      read = subst (λ (s : Shelf). IsReadOnce s (new.under input)) of_input then.read;
      written = subst (λ (t : Trace). IsNotCreated t ⊎ IsCreatedOnce t) (same_trace old mid new output first.tells of_output) then.written;
      tells = then.tells ∙ first.tells;
      out = then.out ∙ first.out;
    }
