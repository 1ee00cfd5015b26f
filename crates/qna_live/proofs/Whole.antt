-- The serving between the opening of all files and their coming back.
use Rattle.std.proofs.Common.{◌≡◌, ◌∙◌, ℕ, ◌+◌, ◌-◌, ◌≤◌, Bool, List, [], ◌∷◌, length, map, refl, sym, ap, subst, inl, inr, arith}
use Rattle.std.specs.Prelude.{◌≢◌, ◌⊎◌, IsTrue, Some, true, nat_le, nat_lt}
use Rattle.std.proofs.lemmas.Bool.Decides.{nat_tests}
use Rattle.std.proofs.lemmas.List.{length-map}
use Rattle.qna_edges.specs.Paper.{Paper}
use Rattle.qna_edges.specs.Shelves.{BackOut, GivesSink, Shelves}
use Rattle.qna_edges.specs.declared.status.Status.{Status}
use Rattle.qna_edges.specs.declared.status.Status.TheVariants.{Memory}
use Rattle.series_tables.specs.Plan.{PlanShape}
use Rattle.accounts_history.specs.History.{Sent, journal}
use Rattle.release_print.specs.Journal.{journal_text}
use Rattle.qna_parts.specs.Trace.{Trace, trace_of}
use Rattle.compile_workers.specs.DeskEnd.{Ends, IsDeskEnd}
use Rattle.compile_workers.specs.Parties.{AreOfDesks, AreServed}
use Rattle.compile_workers.specs.declared.desk.DeskEnd.{DeskEnd}
use Rattle.command_words.specs.LiveWords.{DeskFiles, LiveForm, are_desks}
use Rattle.command_words.specs.Views.{desk_names, names_in}
use Rattle.qna_live.specs.Opening.{DeskTraces, EndsUnserved, IsNoneOf, desk_traces, traces_of}
use Rattle.qna_live.specs.Opened.{AreBack, AreKnown, AreOpened, GivesDesks, OnlyFiles, file_names}
use Rattle.qna_live.specs.Serving.{HasServedAll, HasServedNone}
use Rattle.qna_live.specs.Live.{EndsServed, EndsWith, IsTextWritten}
use Rattle.qna_live.proofs.Apart.{AreApart, both-true}
use Rattle.qna_live.proofs.Carried.{AreCarried, IsOutputBack, all-carried, left-empty, output-back}
use Rattle.qna_live.proofs.DeskFiles.{desks-served, journal-kept}
use Rattle.qna_live.proofs.Given.{AreNamed, back-others, back-out, back-tells, given-named, given-others, given-out, given-tells}
use Rattle.qna_live.proofs.Statuses.{all_ends, run-status}
use Rattle.qna_live.proofs.Stopping.{unserved-all}
use Rattle.qna_live.proofs.Traces.{AreSame, same-but-one, traces-same}

-- ---- names

-- the ends of served desks have the names of those before
named-served : (plan : PlanShape) (sent : List Sent) (party : ℕ) (desks : List DeskFiles) (olds news : List Ends) (ends : List DeskEnd) → AreServed plan sent party olds news ends → AreNamed desks olds → AreNamed desks news
named-served plan sent party [] [] [] ends served named = tt
named-served plan sent party [] [] (new ∷ news) ends served named = absurd served
named-served plan sent party [] (old ∷ olds) news ends served named = absurd named
named-served plan sent party (desk ∷ desks) [] news ends served named = absurd named
named-served plan sent party (desk ∷ desks) (old ∷ olds) [] ends served named = absurd served
named-served plan sent party (desk ∷ desks) (old ∷ olds) (new ∷ news) [] served named =
    (served.1.only_read.same_name ∙ named.0, served.1.only_written.same_name ∙ named.1, named-served plan sent (party + 1) desks olds news [] served.2 named.2)
named-served plan sent party (desk ∷ desks) (old ∷ olds) (new ∷ news) (end ∷ ends) served named =
    (served.0.only_read.same_name ∙ named.0, served.0.only_written.same_name ∙ named.1, named-served plan sent (party + 1) desks olds news ends served.1 named.2)

-- ---- shelves

-- all files were open, and came back: the desks', and then the journal
pub record AreAround (old opened back new : Shelves) (form : LiveForm) (olds news : List Ends) (kept keeps : Paper) : Type 0 where
  pub given : AreOpened old opened form olds kept
  pub named : AreNamed form.desks news
  pub came : AreBack opened back news
  pub journal : BackOut back new keeps
  pub same_name : keeps.name ≡ kept.name
  pub apart : AreApart (desk_names form.desks)
  pub none : IsNoneOf form.journal (desk_names form.desks)

around-tells : (old opened back new : Shelves) (form : LiveForm) (olds news : List Ends) (kept keeps : Paper) → AreAround old opened back new form olds news kept keeps → back.tells ≡ old.tells
around-tells old opened back new form olds news kept keeps a =
    back-tells opened back news a.came ∙ a.given.created.only.tells ∙ given-tells old a.given.between form.desks olds a.given.given

-- only these were touched, and none is out any more
pub around-only : (old opened back new : Shelves) (form : LiveForm) (olds news : List Ends) (kept keeps : Paper) → AreAround old opened back new form olds news kept keeps → OnlyFiles old new (file_names form)
around-only old opened back new form olds news kept keeps a = record {
  others = λ name none.
      a.journal.only.others name (λ same. none.0 (same ∙ a.same_name ∙ a.given.journal_is.0)) ∙ back-others opened back form.desks news name a.named a.came none.1
      ∙ a.given.created.only.others name none.0 ∙ given-others old a.given.between form.desks olds name a.given.given none.1;
  tells = a.journal.only.tells ∙ around-tells old opened back new form olds news kept keeps a;
  out = counts old.out a.given.between.out opened.out back.out new.out (length form.desks) (given-out old a.given.between form.desks olds a.given.given) a.given.created.out (back-out opened back form.desks news a.named a.came) a.journal.out;
}
  where
    counts : (a b c d e n : ℕ) → b ≡ a + (n + n) → c ≡ b + 1 → d ≡ c - (n + n) → e ≡ d - 1 → e ≡ a
    counts a b c d e n first second third last = omega arith

-- each desk's files
pub around-desks : (old opened back new : Shelves) (form : LiveForm) (olds news : List Ends) (kept keeps : Paper) → AreAround old opened back new form olds news kept keeps → AreCarried (traces_of old new form.desks) olds news
around-desks old opened back new form olds news kept keeps a =
    subst (λ (files : List DeskTraces). AreCarried files olds news)
    (traces-same old new old back form.desks refl (all-same old form.desks) (same-but-one new back form.journal form.desks (λ name other. sym (a.journal.only.others name (λ same. other (same ∙ a.same_name ∙ a.given.journal_is.0)))) a.none))
    (all-carried old a.given.between opened back form.desks olds news a.apart a.given.given (same-but-one a.given.between opened form.journal form.desks a.given.created.only.others a.none) a.given.created.only.tells a.named a.came)
  where
    all-same : (shelves : Shelves) (desks : List DeskFiles) → AreSame shelves shelves desks
    all-same shelves [] = tt
    all-same shelves (desk ∷ desks) = (refl, refl, all-same shelves desks)

-- the journal's file
pub around-journal : (old opened back new : Shelves) (form : LiveForm) (olds news : List Ends) (kept keeps : Paper) → AreAround old opened back new form olds news kept keeps → IsOutputBack (trace_of old new form.journal) kept keeps
around-journal old opened back new form olds news kept keeps a =
    output-back old a.given.between opened back new new form.journal kept keeps (given-others old a.given.between form.desks olds form.journal a.given.given a.none) a.given.created
    (back-others opened back form.desks news form.journal a.named a.came a.none) a.journal (a.same_name ∙ a.given.journal_is.0) refl (around-tells old opened back new form olds news kept keeps a)
    a.given.journal_held a.given.journal_is.1

-- ---- ends

length-traces : (old new : Shelves) (desks : List DeskFiles) (olds : List Ends) (news : List Ends) → AreCarried (traces_of old new desks) olds news → length olds ≡ length (traces_of old new desks)
length-traces old new [] [] [] carried = refl
length-traces old new [] [] (one ∷ news) carried = absurd carried
length-traces old new [] (one ∷ olds) news carried = absurd carried
length-traces old new (desk ∷ desks) [] news carried = absurd carried
length-traces old new (desk ∷ desks) (one ∷ olds) [] carried = absurd carried
length-traces old new (desk ∷ desks) (one ∷ olds) (two ∷ news) carried =
    let more = length-traces old new desks olds news carried.1 in omega (arith, more)

-- all desks were served
pub ends-served : (plan : PlanShape) (old opened back new : Shelves) (form : LiveForm) (olds news : List Ends) (kept keeps before after : Paper) (status : Status) → AreAround old opened back new form olds news kept keeps →
    HasServedAll plan olds news kept keeps before after status → EndsServed plan (traces_of old new form.desks) (trace_of old new form.journal) before after status
ends-served plan old opened back new form olds news kept keeps before after status around served =
    let carried = around-desks old opened back new form olds news kept keeps around in
    let count = length-traces old new form.desks olds news carried in
    record {
      history = served.history;
      lawful = served.lawful;
      senders = subst (λ (n : ℕ). AreOfDesks n (journal served.history)) count served.senders;
      ended = all_ends (traces_of old new form.desks) served.ended;
      served = desks-served plan (journal served.history) 1 (traces_of old new form.desks) olds news served.ended carried served.served;
      shared = served.shared;
      shared_is = served.shared_is;
      written = served.written;
      journaled = journal-kept (journal_text plan served.history) (trace_of old new form.journal) kept keeps served.written (around-journal old opened back new form olds news kept keeps around) served.journaled;
      reported = served.reported;
      told = served.told;
      status_is = served.status_is ∙ sym (run-status (traces_of old new form.desks) served.ended served.shared served.written served.reported served.shared_is (λ done. served.all done ∙ count));
    }

-- none was
pub ends-unserved : (old opened back new : Shelves) (form : LiveForm) (olds news : List Ends) (kept keeps before after : Paper) (status : Status) → AreAround old opened back new form olds news kept keeps →
    HasServedNone olds news kept keeps before after status → EndsUnserved (traces_of old new form.desks) (trace_of old new form.journal) before after status
ends-unserved old opened back new form olds news kept keeps before after status around none =
    unserved-all (traces_of old new form.desks) olds (trace_of old new form.journal) before after status
    (subst (λ (told : List Ends). AreCarried (traces_of old new form.desks) olds told) none.ends (around-desks old opened back new form olds news kept keeps around))
    (inr (
      none.status_is,
      left-empty (trace_of old new form.journal) kept (subst (λ (told : Paper). IsOutputBack (trace_of old new form.journal) kept told) none.journal (around-journal old opened back new form olds news kept keeps around)),
      none.report,
    ))

-- names of served ends
pub ends-named : (plan : PlanShape) (old mid : Shelves) (desks : List DeskFiles) (olds news : List Ends) (kept keeps before after : Paper) (status : Status) → GivesDesks old mid desks olds →
    HasServedAll plan olds news kept keeps before after status ⊎ HasServedNone olds news kept keeps before after status → AreNamed desks news
ends-named plan old mid desks olds news kept keeps before after status gave one = elim one [
  | inl all ↦ named-served plan (journal all.history) 1 desks olds news all.ended all.served (given-named old mid desks olds gave)
  | inr none ↦ subst (AreNamed desks) (sym none.ends) (given-named old mid desks olds gave)
]

-- the serving ends `live`
pub ends-live : (plan : PlanShape) (old opened back new : Shelves) (form : LiveForm) (olds news : List Ends) (kept keeps before after : Paper) (status : Status) → AreAround old opened back new form olds news kept keeps →
    HasServedAll plan olds news kept keeps before after status ⊎ HasServedNone olds news kept keeps before after status → EndsWith plan old new before after form status
ends-live plan old opened back new form olds news kept keeps before after status around one = elim one [
  | inl all ↦ inr (ends-served plan old opened back new form olds news kept keeps before after status around all)
  | inr none ↦ inl (ends-unserved old opened back new form olds news kept keeps before after status around none)
]

-- ---- names that stay

-- a sink to which a text was to be written keeps its name
text-name : (text : List ℕ) (old new : Paper) (status : Status) → IsTextWritten text old new status → new.name ≡ old.name
text-name text old new status is = elim is.ends [
  | inl done ↦ ap (λ (p : Paper). p.name) (is.whole done)
  | inr more ↦ elim more [
    | inl cut ↦ ap (λ (p : Paper). p.name) (is.cut cut).part.2
    | inr wants ↦ elim (is.wanting wants) [ inl same ↦ ap (λ (p : Paper). p.name) same | inr off ↦ ap (λ (p : Paper). p.name) off.part.2 ]
  ]
]

pub kept-name : (plan : PlanShape) (olds news : List Ends) (kept keeps before after : Paper) (status : Status) → HasServedAll plan olds news kept keeps before after status ⊎ HasServedNone olds news kept keeps before after status → keeps.name ≡ kept.name
kept-name plan olds news kept keeps before after status one = elim one [
  | inl all ↦ text-name (journal_text plan all.history) kept keeps all.written all.journaled
  | inr none ↦ ap (λ (p : Paper). p.name) none.journal
]

-- names of the same desks are known alike
known-alike : (knows : List ℕ → Type 0) (desks : List DeskFiles) (olds news : List Ends) → AreNamed desks olds → AreNamed desks news → AreKnown knows olds → AreKnown knows news
known-alike knows [] [] [] named later known = tt
known-alike knows [] [] (new ∷ news) named later known = absurd later
known-alike knows [] (old ∷ olds) news named later known = absurd named
known-alike knows (desk ∷ desks) [] news named later known = absurd named
known-alike knows (desk ∷ desks) (old ∷ olds) [] named later known = absurd later
known-alike knows (desk ∷ desks) (old ∷ olds) (new ∷ news) named later known =
    (subst knows (named.0 ∙ sym later.0) known.0, subst knows (named.1 ∙ sym later.1) known.1, known-alike knows desks olds news named.2 later.2 known.2)

pub known-served : (knows : List ℕ → Type 0) (plan : PlanShape) (old opened : Shelves) (form : LiveForm) (olds news : List Ends) (kept keeps before after : Paper) (status : Status) → AreOpened old opened form olds kept →
    HasServedAll plan olds news kept keeps before after status ⊎ HasServedNone olds news kept keeps before after status → AreKnown knows olds → AreKnown knows news
known-served knows plan old opened form olds news kept keeps before after status given one known =
    known-alike knows form.desks olds news (given-named old given.between form.desks olds given.given) (ends-named plan old given.between form.desks olds news kept keeps before after status given.given one) known

-- all files were open, and came back
pub around-of : (plan : PlanShape) (old opened back new : Shelves) (form : LiveForm) (olds news : List Ends) (kept keeps before after : Paper) (status : Status) → AreOpened old opened form olds kept →
    HasServedAll plan olds news kept keeps before after status ⊎ HasServedNone olds news kept keeps before after status → AreBack opened back news → BackOut back new keeps → AreApart (names_in form) → AreAround old opened back new form olds news kept keeps
around-of plan old opened back new form olds news kept keeps before after status given one came last apart = record {
  given = given;
  named = ends-named plan old given.between form.desks olds news kept keeps before after status given.given one;
  came = came;
  journal = last;
  same_name = kept-name plan olds news kept keeps before after status one;
  apart = apart.1.1;
  none = apart.1.0;
}

-- ---- how many desks there are

in-range : (n : ℕ) → nat_lt 0 n ≡ true → nat_le n 16 ≡ true → (1 ≤ n) × (n ≤ 16)
in-range n least most = (grind (arith, nat_tests), grind (arith, nat_tests))

given-count : (old new : Shelves) (desks : List DeskFiles) (ends : List Ends) → GivesDesks old new desks ends → length ends ≡ length desks
given-count old new [] [] gave = refl
given-count old new [] (one ∷ more) gave = absurd gave
given-count old new (desk ∷ desks) [] gave = absurd gave
given-count old new (desk ∷ desks) (one ∷ more) gave = let later = given-count gave.0 new desks more gave.2 in omega (arith, later)

pub counted : {X : Type 0} (f : X → Ends) (items : List X) (n : ℕ) (old opened : Shelves) (form : LiveForm) (kept : Paper) → n ≡ length items → AreOpened old opened form (map f items) kept → are_desks form.desks ≡ true → (1 ≤ n) × (n ≤ 16)
counted f items n old opened form kept is given right =
    let same : length form.desks ≡ n = sym (given-count old given.between form.desks (map f items) given.given) ∙ length-map items f ∙ sym is in
    let parts = both-true (nat_lt 0 (length form.desks)) (nat_le (length form.desks) 16) right in
    let range = in-range (length form.desks) parts.0 parts.1 in
    subst (λ (k : ℕ). (1 ≤ k) × (k ≤ 16)) same range
