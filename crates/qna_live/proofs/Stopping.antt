-- How `live` ends where it serves no desk.
use Rattle.std.proofs.Common.{◌≡◌, ◌∙◌, ℕ, ◌+◌, List, [], ◌∷◌, ◌++◌, length, refl, sym, ap, subst, inl, inr}
use Rattle.std.specs.Prelude.{◌≢◌}
use Rattle.qna_edges.specs.Paper.{Paper}
use Rattle.qna_edges.specs.Shelves.{Shelves}
use Rattle.qna_edges.specs.declared.status.Status.{Status}
use Rattle.qna_parts.specs.Trace.{Trace, trace_of}
use Rattle.compile_workers.specs.DeskEnd.{Ends}
use Rattle.command_words.specs.LiveWords.{DeskFiles}
use Rattle.command_words.specs.Views.{desk_names}
use Rattle.qna_live.specs.Opening.{DeskTraces, EndsUnserved, IsNoneOf, traces_of}
use Rattle.qna_live.specs.Opened.{AreBack, GivesDesks}
use Rattle.qna_live.proofs.Apart.{AreApart, none-back, none-front}
use Rattle.qna_live.proofs.Carried.{AreCarried, IsCarried, came-others, carried, left-empty, left-unread}
use Rattle.qna_live.proofs.Given.{AreNamed, back-others, back-tells, given-named, given-others, given-tells}
use Rattle.qna_live.proofs.Traces.{AreSame, same-all, same-but, trace-same, traces-same}

-- where all desks' files came back as they were given, what becomes of the journal is the end
pub unserved-all : (desks : List DeskTraces) (ends : List Ends) (journal : Trace) (before after : Paper) (status : Status) → AreCarried desks ends ends → EndsUnserved [] journal before after status → EndsUnserved desks journal before after status
unserved-all [] [] journal before after status back end = end
unserved-all [] (one ∷ more) journal before after status back end = absurd back
unserved-all (desk ∷ desks) [] journal before after status back end = absurd back
unserved-all (desk ∷ desks) (one ∷ more) journal before after status back end =
    inr (left-unread desk.input one.source back.0.input, left-empty desk.output one.sink back.0.output, unserved-all desks more journal before after status back.1 end)

-- an end of later desks is one of the earlier desks too, whose files were open until then
pub stopped : (old mid kid new : Shelves) (done rest : List DeskFiles) (given : List Ends) (journal : List ℕ) (before after : Paper) (status : Status) → AreApart (desk_names (done ++ rest)) → IsNoneOf journal (desk_names (done ++ rest)) →
    GivesDesks old mid done given → EndsUnserved (traces_of mid kid rest) (trace_of mid kid journal) before after status → ((name : List ℕ) → IsNoneOf name (desk_names rest) → name ≢ journal → kid.under name ≡ mid.under name) →
    kid.tells ≡ mid.tells → AreBack kid new given → EndsUnserved (traces_of old new (done ++ rest)) (trace_of old new journal) before after status
stopped old mid kid new [] rest [] journal before after status apart none gave end others tells came =
    subst (λ (files : List DeskTraces). EndsUnserved files (trace_of old new journal) before after status)
    (traces-same old new mid kid rest gave.same.tells (same-all old mid rest gave.same.all) (same-all new kid rest (λ name. sym (came.same.all name))))
    (subst (λ (file : Trace). EndsUnserved (traces_of mid kid rest) file before after status) (trace-same old new mid kid journal gave.same.tells (gave.same.all journal) (sym (came.same.all journal))) end)
stopped old mid kid new [] rest (one ∷ given) journal before after status apart none gave end others tells came = absurd gave
stopped old mid kid new (desk ∷ done) rest [] journal before after status apart none gave end others tells came = absurd gave
stopped old mid kid new (desk ∷ done) rest (one ∷ given) journal before after status apart none gave end others tells came =
    let first = gave.0 in
    let last = came.0 in
    let back = came.1 in
    let told : last.tells ≡ old.tells = back-tells kid last given came.2 ∙ tells ∙ given-tells first mid done given gave.2 ∙ gave.1.sink.only.tells ∙ gave.1.source.only.tells in
    let named = given-named first mid done given gave.2 in
    let untouched = λ (name : List ℕ) (behind : IsNoneOf name (desk_names (done ++ rest))) (other : name ≢ journal).
    back-others kid last done given name named came.2 (none-front name done rest behind) ∙ others name (none-back name done rest behind) other ∙ given-others first mid done given name gave.2 (none-front name done rest behind) in
    let files = carried old first last back new desk one one gave.1 apart.0.0
    (untouched desk.input apart.0.1 (λ same. none.0 (sym same))) (untouched desk.output apart.1.0 (λ same. none.1.0 (sym same)))
    told gave.1.opened.source.0 gave.1.opened.sink.0 came.3 came.4 in
    inr (
      left-unread _ one.source files.input,
      left-empty _ one.sink files.output,
      subst (λ (files : List DeskTraces). EndsUnserved files (trace_of old new journal) before after status)
          (traces-same old new first last (done ++ rest) (gave.1.sink.only.tells ∙ gave.1.source.only.tells)
          (same-but old first desk.input desk.output (done ++ rest) (λ name one two. gave.1.sink.only.others name two ∙ gave.1.source.only.others name one) apart.0.1 apart.1.0)
          (same-but new last desk.input desk.output (done ++ rest) (λ name two three. sym (came-others last back new desk one name gave.1.opened.source.0 gave.1.opened.sink.0 came.3 came.4 two three)) apart.0.1 apart.1.0))
          (subst (λ (file : Trace). EndsUnserved (traces_of first last (done ++ rest)) file before after status)
          (trace-same old new first last journal (gave.1.sink.only.tells ∙ gave.1.source.only.tells)
          (gave.1.sink.only.others journal none.1.0 ∙ gave.1.source.only.others journal none.0)
          (sym (came-others last back new desk one journal gave.1.opened.source.0 gave.1.opened.sink.0 came.3 came.4 none.0 none.1.0)))
          (stopped first mid kid last done rest given journal before after status apart.1.1 none.1.1 gave.2 end others tells came.2)),
    )
