-- The cause of each end of `live`.
use Rattle.std.proofs.Common.{◌≡◌, ◌∙◌, ℕ, ◌+◌, ◌≤◌, ◌<◌, Bool, true, false, List, [], ◌∷◌, length, map, Option, refl, sym, ap, subst, inl, inr, arith}
use Rattle.std.specs.Prelude.{◌≢◌, ◌⊎◌, IfSome, IsTrue, None, Some, Result, Ok, Err, is_ok}
use Rattle.qna_edges.specs.Count.{Rose}
use Rattle.qna_edges.specs.Paper.{Paper, Writes}
use Rattle.qna_edges.specs.Shelves.{CreateRose, OpenRose, ReadRose, Shelves, WriteRose}
use Rattle.qna_edges.specs.declared.status.Status.{Status}
use Rattle.qna_edges.specs.declared.status.Status.TheVariants.{Done, Memory, Usage, PlanFault, OpenFault, ReadFault, WriteFault, CheckNo, TooMuch}
use Rattle.series_tables.specs.Plan.{PlanRefusal, PlanShape, plan_of}
use Rattle.accounts_history.specs.History.{Sent, journal}
use Rattle.qna_parts.specs.Command.{OnRefused, StopsAtPlan, ends_at_plan, plan_limit}
use Rattle.qna_parts.specs.Intake.{most_bytes}
use Rattle.qna_parts.specs.StatusLine.{plan_line}
use Rattle.qna_parts.specs.Trace.{IsUnopened, Passes, Trace, trace_of}
use Rattle.qna_parts.proofs.Ends.{if_some}
use Rattle.compile_workers.specs.declared.desk.DeskEnd.{DeskEnd}
use Rattle.compile_workers.specs.declared.desk.DeskEnd.TheVariants.{Ended, Memory as Wanting, ReadFault as Unread, TooMuch as TooLong, WriteFault as Unwritten}
use Rattle.command_words.specs.LiveWords.{DeskFiles, LiveForm}
use Rattle.qna_live.specs.Opening.{EndsUnserved, IsRefused, IsUncreated, desk_traces, traces_of}
use Rattle.qna_live.specs.Live.{AreDesksServed, EndsServed, IsDeskServed, IsLiveEnd, first_fault, status_of_end, status_of_ends}
use Rattle.qna_live.specs.Laws.{HasCause, IsOfEach, IsOfOne, IsQuiet, IsQuietDesk, IsTooLong, LiveCompletes, LiveHasCauses, ends_a_live}

-- ---- at the plan

no_plan : (spelled : Result PlanShape PlanRefusal) (P : PlanRefusal → Type 0) → OnRefused spelled P → is_ok spelled ≡ false
no_plan (Ok plan) P refused = absurd refused
no_plan (Err refusal) P refused = refl

beyond : (limit piece all left : ℕ) → Passes limit piece all left → limit < all
beyond limit piece all left passes = let more = passes.0 in omega (arith, more)

stopped-cause : (old new : Shelves) (before after : Paper) (form : LiveForm) (status : Status) → StopsAtPlan old new before after form.plan status → HasCause old new before after form status
stopped-cause old new before after form status end = record {
  ends = ending status end.ends;
  plan_fault = λ is tells. if_some (old.under form.plan).file (λ text refused. no_plan (plan_of text) (λ refusal. Writes before after (plan_line refusal)) refused) (end.refused is tells);
  open_fault = λ is. inl (end.unread.unopened is).0.0;
  read_fault = λ is. inl (end.unread.unread is).0;
  write_fault = λ is. absurd (unwritten status is end.ends);
  too_much = λ is. inl (λ tells. if_some (old.under form.plan).file (λ text passes. beyond plan_limit 8192 (length text) (new.under form.plan).rest passes) (end.unread.passed is tells));
}
  where
    ending : (one : Status) → ends_at_plan one ≡ true → ends_a_live one ≡ true
    ending Done is = refl
    ending Memory is = refl
    ending Usage is = absurd (let no = is in cc)
    ending PlanFault is = refl
    ending OpenFault is = refl
    ending ReadFault is = refl
    ending WriteFault is = refl
    ending CheckNo is = absurd (let no = is in cc)
    ending TooMuch is = refl

    unwritten : (one : Status) → one ≡ WriteFault → ends_at_plan one ≡ true → ⊥
    unwritten WriteFault same is = let no = is in cc
    unwritten Done same is = let no = same in cc
    unwritten Memory same is = let no = same in cc
    unwritten Usage same is = let no = same in cc
    unwritten PlanFault same is = let no = same in cc
    unwritten OpenFault same is = let no = same in cc
    unwritten ReadFault same is = let no = same in cc
    unwritten CheckNo same is = let no = same in cc
    unwritten TooMuch same is = let no = same in cc

-- ---- before the serving

-- what a refusal of a file says of the status
refused-ends : (P : Trace → Type 0) (file : Trace) (before after : Paper) (status : Status) → IsRefused P file before after status → ((status ≡ OpenFault) × P file) ⊎ (status ≡ Memory)
refused-ends P file before after status refused = elim refused [ inl failed ↦ inl (failed.0, failed.1) | inr wants ↦ inr wants.0 ]

-- an opening of a desk's file failed, or its creating, or the journal's
abbrev pub IsUnopened-one : Shelves → Shelves → List ℕ → List DeskFiles → Type 0
IsUnopened-one old new journal desks =
    CreateRose old new journal ⊎ IsOfOne (λ desk. OpenRose old new desk.input ⊎ CreateRose old new desk.output) desks

later-one : (old new : Shelves) (journal : List ℕ) (desk : DeskFiles) (desks : List DeskFiles) → IsUnopened-one old new journal desks → IsUnopened-one old new journal (desk ∷ desks)
later-one old new journal desk desks one = elim one [ inl here ↦ inl here | inr there ↦ inr (inr there) ]

pub unserved-ends : (old new : Shelves) (before after : Paper) (journal : List ℕ) (desks : List DeskFiles) (status : Status) → EndsUnserved (traces_of old new desks) (trace_of old new journal) before after status →
    ((status ≡ OpenFault) × IsUnopened-one old new journal desks) ⊎ (status ≡ Memory)
unserved-ends old new before after journal [] status end = elim end [
  | inl refused ↦ elim (refused-ends IsUncreated (trace_of old new journal) before after status refused) [ inl failed ↦ inl (failed.0, inl failed.1.0) | inr wants ↦ inr wants ]
  | inr wants ↦ inr wants.0
]
unserved-ends old new before after journal (desk ∷ desks) status end = elim end [
  | inl first ↦ elim first.0 [
    | inl input ↦ elim (refused-ends IsUnopened (trace_of old new desk.input) before after status input.0) [ inl failed ↦ inl (failed.0, inr (inl (inl failed.1.0))) | inr wants ↦ inr wants ]
    | inr output ↦ elim (refused-ends IsUncreated (trace_of old new desk.output) before after status output.1) [ inl failed ↦ inl (failed.0, inr (inl (inr failed.1.0))) | inr wants ↦ inr wants ]
  ]
  | inr later ↦ elim (unserved-ends old new before after journal desks status later.2) [ inl failed ↦ inl (failed.0, later-one old new journal desk desks failed.1) | inr wants ↦ inr wants ]
]

unserved-cause : (old new : Shelves) (before after : Paper) (form : LiveForm) (status : Status) → ((status ≡ OpenFault) × IsUnopened-one old new form.journal form.desks) ⊎ (status ≡ Memory) → HasCause old new before after form status
unserved-cause old new before after form status one = elim one [
  | inl failed ↦ record {
    ends = ap ends_a_live failed.0;
    plan_fault = λ is. absurd (let same = sym is ∙ failed.0 in cc);
    open_fault = λ is. inr failed.1;
    read_fault = λ is. absurd (let same = sym is ∙ failed.0 in cc);
    write_fault = λ is. absurd (let same = sym is ∙ failed.0 in cc);
    too_much = λ is. absurd (let same = sym is ∙ failed.0 in cc);
  }
  | inr wants ↦ record {
    ends = ap ends_a_live wants;
    plan_fault = λ is. absurd (let same = sym is ∙ wants in cc);
    open_fault = λ is. absurd (let same = sym is ∙ wants in cc);
    read_fault = λ is. absurd (let same = sym is ∙ wants in cc);
    write_fault = λ is. absurd (let same = sym is ∙ wants in cc);
    too_much = λ is. absurd (let same = sym is ∙ wants in cc);
  }
]

-- ---- from the serving on

-- the first of two statuses is one of them
first-of : (first second : Status) → (first_fault first second ≡ first) ⊎ (first_fault first second ≡ second)
first-of Done second = inr refl
first-of Memory second = inl refl
first-of Usage second = inl refl
first-of PlanFault second = inl refl
first-of OpenFault second = inl refl
first-of ReadFault second = inl refl
first-of WriteFault second = inl refl
first-of CheckNo second = inl refl
first-of TooMuch second = inl refl

-- what a status says of desks
pub record IsOfDesks (old new : Shelves) (desks : List DeskFiles) (status : Status) : Type 0 where
  pub ends : (status ≡ Done) ⊎ ((status ≡ Memory) ⊎ ((status ≡ ReadFault) ⊎ ((status ≡ WriteFault) ⊎ (status ≡ TooMuch))))
  pub read : status ≡ ReadFault → IsOfOne (λ desk. ReadRose old new desk.input) desks
  pub written : status ≡ WriteFault → IsOfOne (λ desk. WriteRose old new desk.output) desks
  pub long : status ≡ TooMuch → IsOfOne (λ desk. IsTooLong most_bytes old desk.input) desks

desk-status : (old new : Shelves) (plan : PlanShape) (sent : List Sent) (party : ℕ) (desk : DeskFiles) (desks : List DeskFiles) (end : DeskEnd) → IsDeskServed plan party (desk_traces old new desk) end sent → IsOfDesks old new (desk ∷ desks) (status_of_end end)
desk-status old new plan sent party desk desks Ended served = record { ends = inl refl; read = λ is. absurd (let no = is in cc); written = λ is. absurd (let no = is in cc); long = λ is. absurd (let no = is in cc) }
desk-status old new plan sent party desk desks Wanting served = record { ends = inr (inl refl); read = λ is. absurd (let no = is in cc); written = λ is. absurd (let no = is in cc); long = λ is. absurd (let no = is in cc) }
desk-status old new plan sent party desk desks Unread served = record { ends = inr (inr (inl refl)); read = λ is. inl (served.read_failed refl); written = λ is. absurd (let no = is in cc); long = λ is. absurd (let no = is in cc) }
desk-status old new plan sent party desk desks Unwritten served = record { ends = inr (inr (inr (inl refl))); read = λ is. absurd (let no = is in cc); written = λ is. inl (served.write_failed refl); long = λ is. absurd (let no = is in cc) }
desk-status old new plan sent party desk desks TooLong served = record {
  ends = inr (inr (inr (inr refl)));
  read = λ is. absurd (let no = is in cc);
  written = λ is. absurd (let no = is in cc);
  long = λ is. inl (λ tells. if_some (old.under desk.input).file (λ text passes. beyond most_bytes 65536 (length text) (new.under desk.input).rest passes) (served.passed refl tells));
}

of-more : (old new : Shelves) (desk : DeskFiles) (desks : List DeskFiles) (status : Status) → IsOfDesks old new desks status → IsOfDesks old new (desk ∷ desks) status
of-more old new desk desks status of = record { ends = of.ends; read = λ is. inr (of.read is); written = λ is. inr (of.written is); long = λ is. inr (of.long is) }

served-status : (old new : Shelves) (plan : PlanShape) (sent : List Sent) (party : ℕ) (desks : List DeskFiles) (ends : List DeskEnd) → AreDesksServed plan sent party (traces_of old new desks) ends → IsOfDesks old new desks (status_of_ends ends)
served-status old new plan sent party [] [] served = record { ends = inl refl; read = λ is. absurd (let no = is in cc); written = λ is. absurd (let no = is in cc); long = λ is. absurd (let no = is in cc) }
served-status old new plan sent party [] (end ∷ ends) served = absurd served
served-status old new plan sent party (desk ∷ desks) [] served = absurd served
served-status old new plan sent party (desk ∷ desks) (end ∷ ends) served = elim (first-of (status_of_end end) (status_of_ends ends)) [
  | inl first ↦ subst (IsOfDesks old new (desk ∷ desks)) (sym first) (desk-status old new plan sent party desk desks end served.0)
  | inr second ↦ subst (IsOfDesks old new (desk ∷ desks)) (sym second) (of-more old new desk desks (status_of_ends ends) (served-status old new plan sent (party + 1) desks ends served.1))
]

quiet-end : (status : Status) → (status ≡ Done) ⊎ (status ≡ Memory) → (status ≡ Done) ⊎ ((status ≡ Memory) ⊎ (status ≡ WriteFault))
quiet-end status one = elim one [ inl done ↦ inl done | inr wants ↦ inr (inl wants) ]

-- an end at a status that has no cause of its own
other-cause : (old new : Shelves) (before after : Paper) (form : LiveForm) (status : Status) → (status ≡ Done) ⊎ ((status ≡ Memory) ⊎ (status ≡ WriteFault)) →
    (status ≡ WriteFault → WriteRose old new form.journal ⊎ (Rose before.faults after.faults ⊎ IsOfOne (λ desk. WriteRose old new desk.output) form.desks)) → HasCause old new before after form status
other-cause old new before after form Done one cause = record { ends = refl; plan_fault = λ is. absurd (let no = is in cc); open_fault = λ is. absurd (let no = is in cc); read_fault = λ is. absurd (let no = is in cc); write_fault = cause; too_much = λ is. absurd (let no = is in cc) }
other-cause old new before after form Memory one cause = record { ends = refl; plan_fault = λ is. absurd (let no = is in cc); open_fault = λ is. absurd (let no = is in cc); read_fault = λ is. absurd (let no = is in cc); write_fault = cause; too_much = λ is. absurd (let no = is in cc) }
other-cause old new before after form WriteFault one cause = record { ends = refl; plan_fault = λ is. absurd (let no = is in cc); open_fault = λ is. absurd (let no = is in cc); read_fault = λ is. absurd (let no = is in cc); write_fault = cause; too_much = λ is. absurd (let no = is in cc) }
other-cause old new before after form Usage one cause = absurd (elim one [ inl is ↦ let no = is in cc | inr two ↦ elim two [ inl is ↦ let no = is in cc | inr is ↦ let no = is in cc ] ])
other-cause old new before after form PlanFault one cause = absurd (elim one [ inl is ↦ let no = is in cc | inr two ↦ elim two [ inl is ↦ let no = is in cc | inr is ↦ let no = is in cc ] ])
other-cause old new before after form OpenFault one cause = absurd (elim one [ inl is ↦ let no = is in cc | inr two ↦ elim two [ inl is ↦ let no = is in cc | inr is ↦ let no = is in cc ] ])
other-cause old new before after form ReadFault one cause = absurd (elim one [ inl is ↦ let no = is in cc | inr two ↦ elim two [ inl is ↦ let no = is in cc | inr is ↦ let no = is in cc ] ])
other-cause old new before after form CheckNo one cause = absurd (elim one [ inl is ↦ let no = is in cc | inr two ↦ elim two [ inl is ↦ let no = is in cc | inr is ↦ let no = is in cc ] ])
other-cause old new before after form TooMuch one cause = absurd (elim one [ inl is ↦ let no = is in cc | inr two ↦ elim two [ inl is ↦ let no = is in cc | inr is ↦ let no = is in cc ] ])

desks-cause : (old new : Shelves) (before after : Paper) (form : LiveForm) (status : Status) → IsOfDesks old new form.desks status → HasCause old new before after form status
desks-cause old new before after form Done of = other-cause old new before after form Done (inl refl) (λ is. absurd (let no = is in cc))
desks-cause old new before after form Memory of = other-cause old new before after form Memory (inr (inl refl)) (λ is. absurd (let no = is in cc))
desks-cause old new before after form WriteFault of = other-cause old new before after form WriteFault (inr (inr refl)) (λ is. inr (inr (of.written refl)))
desks-cause old new before after form ReadFault of = record { ends = refl; plan_fault = λ is. absurd (let no = is in cc); open_fault = λ is. absurd (let no = is in cc); read_fault = λ is. inr (of.read refl); write_fault = λ is. absurd (let no = is in cc); too_much = λ is. absurd (let no = is in cc) }
desks-cause old new before after form TooMuch of = record { ends = refl; plan_fault = λ is. absurd (let no = is in cc); open_fault = λ is. absurd (let no = is in cc); read_fault = λ is. absurd (let no = is in cc); write_fault = λ is. absurd (let no = is in cc); too_much = λ is. inr (of.long refl) }
desks-cause old new before after form Usage of = absurd (no_such of.ends)
  where
    no_such : (Usage ≡ Done) ⊎ ((Usage ≡ Memory) ⊎ ((Usage ≡ ReadFault) ⊎ ((Usage ≡ WriteFault) ⊎ (Usage ≡ TooMuch)))) → ⊥
    no_such one = elim one [ inl is ↦ let no = is in cc | inr b ↦ elim b [ inl is ↦ let no = is in cc | inr d ↦ elim d [ inl is ↦ let no = is in cc | inr e ↦ elim e [ inl is ↦ let no = is in cc | inr is ↦ let no = is in cc ] ] ] ]
desks-cause old new before after form PlanFault of = absurd (no_such of.ends)
  where
    no_such : (PlanFault ≡ Done) ⊎ ((PlanFault ≡ Memory) ⊎ ((PlanFault ≡ ReadFault) ⊎ ((PlanFault ≡ WriteFault) ⊎ (PlanFault ≡ TooMuch)))) → ⊥
    no_such one = elim one [ inl is ↦ let no = is in cc | inr b ↦ elim b [ inl is ↦ let no = is in cc | inr d ↦ elim d [ inl is ↦ let no = is in cc | inr e ↦ elim e [ inl is ↦ let no = is in cc | inr is ↦ let no = is in cc ] ] ] ]
desks-cause old new before after form OpenFault of = absurd (no_such of.ends)
  where
    no_such : (OpenFault ≡ Done) ⊎ ((OpenFault ≡ Memory) ⊎ ((OpenFault ≡ ReadFault) ⊎ ((OpenFault ≡ WriteFault) ⊎ (OpenFault ≡ TooMuch)))) → ⊥
    no_such one = elim one [ inl is ↦ let no = is in cc | inr b ↦ elim b [ inl is ↦ let no = is in cc | inr d ↦ elim d [ inl is ↦ let no = is in cc | inr e ↦ elim e [ inl is ↦ let no = is in cc | inr is ↦ let no = is in cc ] ] ] ]
desks-cause old new before after form CheckNo of = absurd (no_such of.ends)
  where
    no_such : (CheckNo ≡ Done) ⊎ ((CheckNo ≡ Memory) ⊎ ((CheckNo ≡ ReadFault) ⊎ ((CheckNo ≡ WriteFault) ⊎ (CheckNo ≡ TooMuch)))) → ⊥
    no_such one = elim one [ inl is ↦ let no = is in cc | inr b ↦ elim b [ inl is ↦ let no = is in cc | inr d ↦ elim d [ inl is ↦ let no = is in cc | inr e ↦ elim e [ inl is ↦ let no = is in cc | inr is ↦ let no = is in cc ] ] ] ]

journal-or-report : (status : Status) → (status ≡ Done) ⊎ ((status ≡ WriteFault) ⊎ (status ≡ Memory)) → (status ≡ Done) ⊎ ((status ≡ Memory) ⊎ (status ≡ WriteFault))
journal-or-report status one = elim one [ inl is ↦ inl is | inr two ↦ elim two [ inl is ↦ inr (inr is) | inr is ↦ inr (inl is) ] ]

served-cause : (old new : Shelves) (before after : Paper) (form : LiveForm) (status : Status) (plan : PlanShape) → EndsServed plan (traces_of old new form.desks) (trace_of old new form.journal) before after status → HasCause old new before after form status
served-cause old new before after form status plan end =
    subst (HasCause old new before after form) (sym end.status_is)
    (elim (first-of (status_of_ends end.ended) (first_fault end.shared (first_fault end.written end.reported))) [
      | inl first ↦ subst (HasCause old new before after form) (sym first) (desks-cause old new before after form (status_of_ends end.ended) (served-status old new plan (journal end.history) 1 form.desks end.ended end.served))
      | inr more ↦ subst (HasCause old new before after form) (sym more) (elim (first-of end.shared (first_fault end.written end.reported)) [
        | inl shared ↦ subst (HasCause old new before after form) (sym shared) (other-cause old new before after form end.shared (quiet-end end.shared end.shared_is) (λ is. absurd (never end.shared end.shared_is is)))
        | inr last ↦ subst (HasCause old new before after form) (sym last) (elim (first-of end.written end.reported) [
          | inl written ↦ subst (HasCause old new before after form) (sym written) (other-cause old new before after form end.written (journal-or-report end.written end.journaled.ends) (λ is. inl (end.journaled.failed is)))
          | inr reported ↦ subst (HasCause old new before after form) (sym reported) (other-cause old new before after form end.reported (journal-or-report end.reported end.told.ends) (λ is. inr (inl (end.told.failed is))))
        ])
      ])
    ])
  where
    never : (one : Status) → (one ≡ Done) ⊎ (one ≡ Memory) → one ≡ WriteFault → ⊥
    never one is same = elim is [ inl done ↦ let no = sym done ∙ same in cc | inr wants ↦ let no = sym wants ∙ same in cc ]

-- each end has its cause
pub has-cause : LiveHasCauses
has-cause old new before after form status end = elim end [
  | inl at_plan ↦ stopped-cause old new before after form status at_plan
  | inr past ↦ elim past.ends [
    | inl unserved ↦ unserved-cause old new before after form status (unserved-ends old new before after form.journal form.desks status unserved)
    | inr served ↦ served-cause old new before after form status past.shape served
  ]
]

-- ---- where nothing failed

none-of-each : (P : DeskFiles → Type 0) (Q : DeskFiles → Type 0) (desks : List DeskFiles) → ((desk : DeskFiles) → Q desk → P desk → ⊥) → IsOfEach Q desks → IsOfOne P desks → ⊥
none-of-each P Q [] never each one = one
none-of-each P Q (desk ∷ desks) never each one = elim one [ inl here ↦ never desk each.0 here | inr there ↦ none-of-each P Q desks never each.1 there ]

at_file : (P : List ℕ → Type 0) (file : Option (List ℕ)) (text : List ℕ) → file ≡ Some text → IfSome file P → P text
at_file P file text e fact = rw e at fact

pub completes : LiveCompletes
completes old new before after form status spelled end tells of_plan right few quiet = by status (has-cause old new before after form status end)
  where
    by : (one : Status) → HasCause old new before after form one → (one ≡ Done) ⊎ (one ≡ Memory)
    by Done cause = inl refl
    by Memory cause = inr refl
    by Usage cause = absurd (let no = cause.ends in cc)
    by CheckNo cause = absurd (let no = cause.ends in cc)
    by PlanFault cause = absurd (let no = sym right ∙ at_file (λ text. is_ok (plan_of text) ≡ false) (old.under form.plan).file spelled of_plan (cause.plan_fault refl tells) in cc)
    by OpenFault cause = absurd (elim (cause.open_fault refl) [
      | inl plan ↦ quiet.plan_opened plan
      | inr more ↦ elim more [
        | inl journal ↦ quiet.journal_created journal
        | inr desks ↦ none-of-each (λ desk. OpenRose old new desk.input ⊎ CreateRose old new desk.output) (IsQuietDesk old new) form.desks (λ desk still one. elim one [ inl input ↦ still.opened input | inr output ↦ still.created output ]) quiet.desks desks
      ]
    ])
    by ReadFault cause = absurd (elim (cause.read_fault refl) [
      | inl plan ↦ quiet.plan_read plan
      | inr desks ↦ none-of-each (λ desk. ReadRose old new desk.input) (IsQuietDesk old new) form.desks (λ desk still one. still.read one) quiet.desks desks
    ])
    by WriteFault cause = absurd (elim (cause.write_fault refl) [
      | inl journal ↦ quiet.journal_written journal
      | inr more ↦ elim more [
        | inl report ↦ quiet.reported report
        | inr desks ↦ none-of-each (λ desk. WriteRose old new desk.output) (IsQuietDesk old new) form.desks (λ desk still one. still.written one) quiet.desks desks
      ]
    ])
    by TooMuch cause = absurd (elim (cause.too_much refl) [
      | inl plan ↦ (let long = at_file (λ text. plan_limit < length text) (old.under form.plan).file spelled of_plan (plan tells) in omega (arith, long, few))
      | inr desks ↦ none-of-each (λ desk. IsTooLong most_bytes old desk.input) (IsQuietDesk old new) form.desks
          (λ desk still one. let long = at_file (λ text. most_bytes < length text) (old.under desk.input).file still.stands.0 still.stands.1 (one tells) in let within = still.stands.2 in omega (arith, long, within)) quiet.desks desks
    ])
