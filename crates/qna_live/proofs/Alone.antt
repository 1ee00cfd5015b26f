-- One desk alone: the journal has the accepted inputs of its lines, and the report is what `batch` writes of them.
use Rattle.std.proofs.Common.{◌≡◌, ◌∙◌, ap, sym, refl, subst, inl, inr, ℕ, ◌≤◌, List, [], ◌∷◌, Option, Some, None, arith}
use Rattle.std.specs.Prelude.{◌⊎◌, All, IfSome, IsSomeAnd, IsTrue, Ok, length}
use Rattle.std.proofs.lemmas.List.Elements.{All-weaker}
use Rattle.line_form.specs.Lines.{lines_of}
use Rattle.qna_edges.specs.Paper.{Paper, grown}
use Rattle.qna_edges.specs.Shelves.{Shelves}
use Rattle.qna_edges.specs.declared.status.Status.{Status}
use Rattle.qna_edges.specs.declared.status.Status.TheVariants.{CheckNo, Done, Memory, OpenFault, PlanFault, ReadFault}
use Rattle.qna_edges.specs.declared.status.Status.TheVariants.{TooMuch, Usage, WriteFault}
use Rattle.series_tables.specs.Plan.{PlanShape, plan_of}
use Rattle.input_rules.specs.Accepted.{accepted}
use Rattle.accounts_history.specs.History.{IsLawful, Sent, inputs_of, journal}
use Rattle.accounts_history.specs.Laws.{IsWithinBounds}
use Rattle.accounts_history.specs.declared.entry.Entry.{Entry}
use Rattle.qna_parts.specs.Trace.{Trace, trace_of}
use Rattle.compile_workers.specs.Laws.{SoleDeskSends}
use Rattle.compile_workers.specs.Parties.{AreOfDesks}
use Rattle.compile_workers.specs.Release.{release_of}
use Rattle.compile_workers.specs.Served.{IsServed}
use Rattle.compile_workers.specs.declared.desk.DeskEnd.{DeskEnd}
use Rattle.compile_workers.specs.declared.desk.DeskEnd.TheVariants.{Ended, Memory as Wanting, ReadFault as Unread}
use Rattle.compile_workers.specs.declared.desk.DeskEnd.TheVariants.{TooMuch as TooLong, WriteFault as Unwritten}
use Rattle.command_words.specs.LiveWords.{DeskFiles, LiveForm}
use Rattle.qna_live.specs.Laws.{DeskSends, LiveBatches}
use Rattle.qna_live.specs.Live.{AreDesksServed, EndsServed, EndsWith, Holds, IsDeskServed, IsLiveEnd, first_fault}
use Rattle.qna_live.specs.Live.{status_of_end, status_of_ends, status_of_run, whole_release}
use Rattle.qna_live.specs.Opening.{DeskTraces, EndsUnserved, desk_traces, traces_of}
use Rattle.qna_live.proofs.Causes.{unserved-ends}

at_text : (P : List ℕ → Type 0) (file : Option (List ℕ)) (text : List ℕ) → file ≡ Some text → IfSome file P → P text
at_text P file text is fact = rw is at fact

-- what stands there
standing : (P : List ℕ → Type 0) (file : Option (List ℕ)) → IsSomeAnd file P → (held : List ℕ) × P held
standing P None there = absurd there
standing P (Some held) there = (held, there)

-- the one desk, where it ended at its input's end
the_desk : (plan : PlanShape) (sent : List Sent) (desk : DeskTraces) (ended : List DeskEnd) → ended ≡ Ended ∷ []
    → AreDesksServed plan sent 1 (desk ∷ []) ended → IsDeskServed plan 1 desk Ended sent
the_desk plan sent desk ended is served =
    (subst (λ (w : List DeskEnd). AreDesksServed plan sent 1 (desk ∷ []) w) is served).0

-- all was sent by the one desk
of_the_desk : (sent : List Sent) → AreOfDesks 1 sent → All (λ one. one.party ≡ 1) sent
of_the_desk sent desks =
    All-weaker (λ (one : Sent). (1 ≤ one.party) × (one.party ≤ 1)) (λ (one : Sent). one.party ≡ 1)
    (λ one within. omega (arith, within.0, within.1)) sent desks

module _ (sole : SoleDeskSends)
    (bounds : (plan : PlanShape) (history : List Entry) → IsLawful plan history → IsWithinBounds plan history) where
  -- the inputs of the journal are those that are accepted of the desk's input
  pub desk_sends : DeskSends
  unfolding accepted
  desk_sends plan desk kept before after status text served ended reads holds stands =
      let one : IsDeskServed plan 1 desk Ended (journal served.history) =
      the_desk plan (journal served.history) desk served.ended ended served.served in
      let answers = standing (λ answers. IsServed plan 1 (lines_of text) answers (journal served.history))
      desk.output.new.file
      (at_text (λ read. Holds desk.output (λ answers. IsServed plan 1 (lines_of read) answers (journal served.history)))
      desk.input.old.file text stands (one.whole refl reads) holds) in
      sole plan 1 (lines_of text) answers.0 (journal served.history) (bounds plan served.history served.lawful).few
      (of_the_desk (journal served.history) served.senders) answers.1

  -- what is done at the end of a run was done
  second_done : (first second : Status) → first_fault first second ≡ Done → (first ≡ Done) × (second ≡ Done)
  second_done Done second is = (refl, is)
  second_done Memory second is = absurd (let no = is in cc)
  second_done Usage second is = absurd (let no = is in cc)
  second_done PlanFault second is = absurd (let no = is in cc)
  second_done OpenFault second is = absurd (let no = is in cc)
  second_done ReadFault second is = absurd (let no = is in cc)
  second_done WriteFault second is = absurd (let no = is in cc)
  second_done CheckNo second is = absurd (let no = is in cc)
  second_done TooMuch second is = absurd (let no = is in cc)

  ended_well : (end : DeskEnd) → status_of_end end ≡ Done → end ≡ Ended
  ended_well Ended is = refl
  ended_well Unread is = absurd (let no = is in cc)
  ended_well Unwritten is = absurd (let no = is in cc)
  ended_well TooLong is = absurd (let no = is in cc)
  ended_well Wanting is = absurd (let no = is in cc)

  -- one desk was served, and its end was a good one
  one_ended : (plan : PlanShape) (sent : List Sent) (desk : DeskTraces) (ended : List DeskEnd)
      → AreDesksServed plan sent 1 (desk ∷ []) ended → status_of_ends ended ≡ Done → ended ≡ Ended ∷ []
  one_ended plan sent desk [] served done = absurd served
  one_ended plan sent desk (end ∷ []) served done =
      ap (λ (e : DeskEnd). e ∷ []) (ended_well end (second_done (status_of_end end) Done done).0)
  one_ended plan sent desk (end ∷ more ∷ ends) served done = absurd served.1

  -- with a plan, and one desk, a run that ends with `Done` reports what `batch` writes
  reports : (plan : PlanShape) (desk : DeskTraces) (kept : Trace) (before after : Paper) (text : List ℕ)
      → EndsServed plan (desk ∷ []) kept before after Done → IsTrue desk.input.tells → IsTrue desk.output.tells
      → desk.input.old.file ≡ Some text → after ≡ grown before (release_of plan (accepted plan text))
  reports plan desk kept before after text served reads holds stands =
      let all = second_done (status_of_ends served.ended) _ (sym served.status_is) in
      let shared = second_done served.shared _ all.1 in
      let reported = second_done served.written served.reported shared.1 in
      let ended = one_ended plan (journal served.history) desk served.ended served.served all.0 in
      served.told.whole reported.1
      ∙ ap (λ (w : List _). grown before (release_of plan w))
      (desk_sends plan desk kept before after Done text served ended reads holds stands)

  pub desk_batches : LiveBatches
  desk_batches old new before after form desk spelled text end one tells of_plan of_input = elim end [
    | inl at_plan ↦ absurd (let no = at_plan.ends in cc)
    | inr past ↦
        let ends : EndsUnserved (traces_of old new (desk ∷ [])) (trace_of old new form.journal) before after Done
        ⊎ EndsServed past.shape (traces_of old new (desk ∷ [])) (trace_of old new form.journal) before after Done =
        subst (λ (w : List DeskFiles).
        EndsUnserved (traces_of old new w) (trace_of old new form.journal) before after Done
        ⊎ EndsServed past.shape (traces_of old new w) (trace_of old new form.journal) before after Done) one past.ends in (
          past.shape,
          at_text (λ read. plan_of read ≡ Ok past.shape) (old.under form.plan).file spelled of_plan
              (past.spelled tells),
          elim ends [
            | inl unserved ↦ absurd (never (unserved-ends old new before after form.journal (desk ∷ []) Done unserved))
            | inr served ↦
                reports past.shape (desk_traces old new desk) (trace_of old new form.journal) before after text served
                tells tells of_input
          ],
        )
  ]
    where
      never : {A : Type 0} → ((Done ≡ OpenFault) × A) ⊎ (Done ≡ Memory) → ⊥
      never (inl failed) = let no = failed.0 in cc
      never (inr wants) = let no = wants in cc
