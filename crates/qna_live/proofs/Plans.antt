-- From the plan to the end of `live`.
use Rattle.std.proofs.Common.{◌≡◌, ◌∙◌, ℕ, ◌+◌, ◌≤◌, Bool, true, false, List, [], ◌∷◌, length, map, Option, refl, sym, ap, subst, inl, inr, arith}
use Rattle.std.specs.Prelude.{◌≢◌, ◌⊎◌, None, Some, Ok, Err, Result}
use Rattle.qna_edges.specs.Paper.{Paper, Writes}
use Rattle.qna_edges.specs.Shelves.{IsReadOnce, OnlyRead, Shelf, Shelves}
use Rattle.qna_edges.specs.declared.status.Status.{Status}
use Rattle.qna_edges.specs.declared.status.Status.TheVariants.{Memory, OpenFault, PlanFault, ReadFault, TooMuch, Usage}
use Rattle.series_tables.specs.Plan.{PlanRefusal, PlanShape, plan_of}
use Rattle.qna_parts.specs.Command.{OnRefused, StopsAtPlan, plan_limit}
use Rattle.qna_parts.specs.StatusLine.{plan_line}
use Rattle.qna_parts.proofs.Ends.{if_some}
use Rattle.qna_parts.specs.Trace.{IsReadWhole, OnText, Trace, trace_of}
use Rattle.qna_parts.proofs.Commands.{later_trace}
use Rattle.command_words.specs.LiveWords.{DeskFiles, LiveForm, form_of_plain, live_form}
use Rattle.command_words.specs.Views.{desk_names, names_in}
use Rattle.command_words.specs.Words.{Plain, plain_of}
use Rattle.qna_live.specs.Opening.{DeskTraces, EndsUnserved, IsNoneOf, traces_of}
use Rattle.qna_live.specs.Opened.{OnlyFiles, file_names}
use Rattle.qna_live.specs.Live.{EndsServed, EndsWith, GoesLive, IsLiveEnd, OnLive, OnlyLive}
use Rattle.qna_live.specs.Laws.{ends_a_live}
use Rattle.qna_live.proofs.Apart.{AreApart}
use Rattle.qna_live.proofs.Causes.{has-cause}
use Rattle.qna_live.proofs.Traces.{AreSame, same-all, same-but-one, trace-same, traces-same}

all-same : (shelves : Shelves) (desks : List DeskFiles) → AreSame shelves shelves desks
all-same shelves desks = same-all shelves shelves desks (λ name. refl)

-- an end with a plan is one from before the plan was read
pub ends-later : (plan : PlanShape) (old mid new : Shelves) (before after : Paper) (form : LiveForm) (status : Status) → AreApart (names_in form) → OnlyRead old mid form.plan → EndsWith plan mid new before after form status → EndsWith plan old new before after form status
ends-later plan old mid new before after form status apart read end =
    let desks : traces_of mid new form.desks ≡ traces_of old new form.desks = traces-same old new mid new form.desks read.tells (same-but-one old mid form.plan form.desks read.others apart.0.1) (all-same new form.desks) in
    let kept : trace_of mid new form.journal ≡ trace_of old new form.journal = trace-same old new mid new form.journal read.tells (read.others form.journal (λ same. apart.0.0 (sym same))) refl in
    elim end [
      | inl unserved ↦ inl (subst (λ (files : List DeskTraces). EndsUnserved files (trace_of old new form.journal) before after status) desks (subst (λ (file : Trace). EndsUnserved (traces_of mid new form.desks) file before after status) kept unserved))
      | inr served ↦ inr (subst (λ (files : List DeskTraces). EndsServed plan files (trace_of old new form.journal) before after status) desks (subst (λ (file : Trace). EndsServed plan (traces_of mid new form.desks) file before after status) kept served))
    ]

-- nothing else was touched
pub only-live : (old mid new : Shelves) (form : LiveForm) → AreApart (names_in form) → OnlyRead old mid form.plan → OnlyFiles mid new (file_names form) → OnlyLive old new form
only-live old mid new form apart read only = record {
  others = λ name none. only.others name none.1 ∙ read.others name none.0;
  planned = subst (λ (s : Shelf). IsReadOnce (old.under form.plan) s) (sym (only.others form.plan apart.0)) read.here;
  tells = only.tells ∙ read.tells;
  out = only.out ∙ read.out;
}

-- with the plan that was read, `live` went on
pub goes-live : (old mid new : Shelves) (before after : Paper) (form : LiveForm) (status : Status) (plan : PlanShape) → AreApart (names_in form) → OnlyRead old mid form.plan → OnText (trace_of old mid form.plan) (λ text. plan_of text ≡ Ok plan) →
    IsReadWhole plan_limit (trace_of old mid form.plan) → EndsWith plan mid new before after form status → OnlyFiles mid new (file_names form) → IsLiveEnd old new before after form status
goes-live old mid new before after form status plan apart read spelled whole end only = inr (record {
  shape = plan;
  spelled = spelled;
  read = subst (λ (t : Trace). IsReadWhole plan_limit t) (later_trace old mid new form.plan (only.others form.plan apart.0)) whole;
  ends = ends-later plan old mid new before after form status apart read end;
  only = only-live old mid new form apart read only;
})

-- the plan was refused
pub plan-refused : (old mid : Shelves) (before after : Paper) (form : LiveForm) (status : Status) (items : List ℕ) (refusal : PlanRefusal) → status ≡ PlanFault → OnlyRead old mid form.plan → IsReadWhole plan_limit (trace_of old mid form.plan) →
    OnText (trace_of old mid form.plan) (λ text. items ≡ text) → plan_of items ≡ Err refusal → Writes before after (plan_line refusal) → IsLiveEnd old mid before after form status
plan-refused old mid before after form status items refusal is only whole stands refused told =
    inl (subst (λ (s : Status). StopsAtPlan old mid before after form.plan s) (sym is) (record {
      unread = record {
        unopened = λ no. absurd (let never = no in cc);
        unread = λ no. absurd (let never = no in cc);
        within = λ no. absurd (let never = no in cc);
        too_long = λ no. absurd (let never = no in cc);
        passed = λ no. absurd (let never = no in cc);
      };
      refused = λ same tells. if_some (old.under form.plan).file (λ text same_text. on-refused text same_text) (stands tells);
      read = λ same. whole;
      memory = λ no. absurd (let never = no in cc);
      ends = refl;
      only = only;
    }))
  where
    on-refused : (text : List ℕ) → items ≡ text → OnRefused (plan_of text) (λ one. Writes before after (plan_line one))
    on-refused text same_text = subst (λ (spelled : Result PlanShape PlanRefusal). OnRefused spelled (λ one. Writes before after (plan_line one))) (sym refused ∙ ap plan_of same_text) told

-- ---- the words

-- words that keep the rules for `-` have the form that their plain words have
pub form-of-plain : (words : List (List ℕ)) (plain : Plain) → plain_of words ≡ Some plain → live_form words ≡ form_of_plain plain.plain plain.workers
unfolding live_form
form-of-plain words plain is = ap (λ (o : Option Plain). elim o [ None ↦ None | Some said ↦ form_of_plain said.plain said.workers ]) is

-- and no others have one
pub no-form : (words : List (List ℕ)) → plain_of words ≡ None → live_form words ≡ None
unfolding live_form
no-form words is = ap (λ (o : Option Plain). elim o [ None ↦ None | Some said ↦ form_of_plain said.plain said.workers ]) is

-- what was said is the form of the words
pub said-form : (words : List (List ℕ)) (plain : Plain) (view : LiveForm) → Some plain ≡ plain_of words → Some view ≡ form_of_plain plain.plain plain.workers → live_form words ≡ Some view
said-form words plain view is said = form-of-plain words plain (sym is) ∙ sym said

pub unsaid-form : (words : List (List ℕ)) (plain : Plain) → Some plain ≡ plain_of words → None ≡ form_of_plain plain.plain plain.workers → live_form words ≡ None
unsaid-form words plain is unsaid = form-of-plain words plain (sym is) ∙ sym unsaid

-- words of no form have none
pub formless : (words : List (List ℕ)) (P : LiveForm → Type 0) → live_form words ≡ None → OnLive words P
formless words P none form is = absurd (let no = sym none ∙ is in cc)

-- what holds of the form that was said
pub on-said : (words : List (List ℕ)) (view : LiveForm) (P : LiveForm → Type 0) → live_form words ≡ Some view → P view → OnLive words P
on-said words view P said fact form is = subst P (let same = sym said ∙ is in cc) fact

-- `live` with words of its form never ends for its words
pub not-usage : (old new : Shelves) (before after : Paper) (form : LiveForm) (status : Status) → IsLiveEnd old new before after form status → status ≡ Usage → ⊥
not-usage old new before after form status end is = let no : ends_a_live Usage ≡ true = sym (ap ends_a_live is) ∙ (has-cause old new before after form status end).ends in let never = no in cc
