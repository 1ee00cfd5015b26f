-- From the opening of desks' files to their coming back.
use Rattle.std.proofs.Common.{◌≡◌, ◌∙◌, ℕ, ◌+◌, ◌≤◌, Bool, List, [], ◌∷◌, ◌++◌, length, Option, refl, sym, ap, subst, inl, inr, arith}
use Rattle.std.specs.Prelude.{◌≢◌, IsTrue, IfSome, IsSome, Some}
use Rattle.qna_edges.specs.Count.{Rose, capped}
use Rattle.qna_edges.specs.Paper.{Paper}
use Rattle.qna_edges.specs.Shelves.{BackIn, BackOut, GivesSink, GivesSource, Same, Shelf, Shelves}
use Rattle.qna_edges.specs.Stock.{Stock}
use Rattle.qna_edges.specs.declared.status.Status.{Status}
use Rattle.qna_edges.proofs.Stock.{capped_none}
use Rattle.qna_parts.specs.Trace.{IsCreatedOnce, IsEmptied, OnText, Trace, trace_of}
use Rattle.compile_workers.specs.DeskEnd.{Ends}
use Rattle.command_words.specs.LiveWords.{DeskFiles}
use Rattle.command_words.specs.Views.{desk_names}
use Rattle.qna_live.specs.Opening.{DeskTraces, EndsUnserved, IsLeftEmpty, IsLeftUnread, IsNoneOf, desk_traces, traces_of}
use Rattle.qna_live.specs.Opened.{AreBack, GivesDesk, GivesDesks}
use Rattle.qna_live.proofs.Apart.{AreApart}
use Rattle.qna_live.proofs.Given.{AreNamed, back-others, back-tells, given-named, given-others, given-tells}
use Rattle.qna_live.proofs.Traces.{AreSame, same-all, same-but, trace-same, traces-same}

-- ---- one file

-- a source was given for a file, and came back
pub record IsInputBack (file : Trace) (given back : Stock) : Type 0 where
  pub once : file.new ≡ record file.old { reads = capped file.old.reads back.faults; sources = file.old.sources + 1; rest = file.new.rest }
  pub rest : IsTrue file.tells → IfSome back.left (λ bytes. file.new.rest ≡ length bytes)
  pub left : IsTrue file.tells → (given.left ≡ file.old.file) × IsSome given.left
  pub none : given.faults ≡ 0

-- a sink was given for a file, and came back
pub record IsOutputBack (file : Trace) (given back : Paper) : Type 0 where
  pub once : file.new ≡ record file.old { sinks = file.old.sinks + 1; writes = capped file.old.writes back.faults; file = file.new.file }
  pub kept : IsTrue file.tells → file.new.file ≡ back.held
  pub held : IsTrue file.tells → given.held ≡ Some []
  pub none : given.faults ≡ 0

-- what came back under a name came back under an equal one
in-under : (old new : Shelves) (source : Stock) (name : List ℕ) → source.name ≡ name → BackIn old new source → new.under name ≡ record (old.under name) { reads = capped (old.under name).reads source.faults; rest = (new.under name).rest }
in-under old new source name named back =
    subst (λ (n : List ℕ). new.under n ≡ record (old.under n) { reads = capped (old.under n).reads source.faults; rest = (new.under n).rest }) named back.only.here

in-rest : (old new : Shelves) (source : Stock) (name : List ℕ) → source.name ≡ name → BackIn old new source → IsTrue old.tells → IfSome source.left (λ bytes. (new.under name).rest ≡ length bytes)
in-rest old new source name named back = subst (λ (n : List ℕ). IsTrue old.tells → IfSome source.left (λ bytes. (new.under n).rest ≡ length bytes)) named back.rest

out-under : (old new : Shelves) (sink : Paper) (name : List ℕ) → sink.name ≡ name → BackOut old new sink → new.under name ≡ record (old.under name) { writes = capped (old.under name).writes sink.faults; file = (new.under name).file }
out-under old new sink name named back =
    subst (λ (n : List ℕ). new.under n ≡ record (old.under n) { writes = capped (old.under n).writes sink.faults; file = (new.under n).file }) named back.only.here

out-kept : (old new : Shelves) (sink : Paper) (name : List ℕ) → sink.name ≡ name → BackOut old new sink → IsTrue old.tells → (new.under name).file ≡ sink.held
out-kept old new sink name named back = subst (λ (n : List ℕ). IsTrue old.tells → (new.under n).file ≡ sink.held) named back.kept

told-also : (here there : Bool) → here ≡ there → IsTrue there → IsTrue here
told-also here there same tells = subst (λ (b : Bool). IsTrue b) (sym same) tells

-- a source that was given for a file came back, and nothing else was done to it
pub input-back : (old given mid back new : Shelves) (name : List ℕ) (stock now : Stock) → GivesSource old given name → mid.under name ≡ given.under name → BackIn mid back now → now.name ≡ name → new.under name ≡ back.under name → mid.tells ≡ old.tells →
    (IsTrue old.tells → (stock.left ≡ (old.under name).file) × IsSome stock.left) → stock.faults ≡ 0 → IsInputBack (trace_of old new name) stock now
input-back old given mid back new name stock now gave same came named last tells left none = record {
  once = subst (λ (s : Shelf). s ≡ record (old.under name) { reads = capped (old.under name).reads now.faults; sources = (old.under name).sources + 1; rest = s.rest }) (sym last)
      (in-under mid back now name named came ∙ ap (λ (s : Shelf). record s { reads = capped s.reads now.faults; rest = (back.under name).rest }) (same ∙ gave.only.here));
  rest = λ told. subst (λ (s : Shelf). IfSome now.left (λ bytes. s.rest ≡ length bytes)) (sym last) (in-rest mid back now name named came (told-also mid.tells old.tells tells told));
  left = left;
  none = none;
}

-- a sink that was given for a file came back, and nothing else was done to it
pub output-back : (old start given mid back new : Shelves) (name : List ℕ) (paper now : Paper) → start.under name ≡ old.under name → GivesSink start given name → mid.under name ≡ given.under name → BackOut mid back now → now.name ≡ name →
    new.under name ≡ back.under name → mid.tells ≡ old.tells → (IsTrue old.tells → paper.held ≡ Some []) → paper.faults ≡ 0 → IsOutputBack (trace_of old new name) paper now
output-back old start given mid back new name paper now first gave same came named last tells held none = record {
  once = subst (λ (s : Shelf). s ≡ record (old.under name) { sinks = (old.under name).sinks + 1; writes = capped (old.under name).writes now.faults; file = s.file }) (sym last)
      (out-under mid back now name named came
      ∙ ap (λ (s : Shelf). record s { writes = capped s.writes now.faults; file = (back.under name).file }) (same ∙ gave.only.here)
      ∙ ap (λ (s : Shelf). record s { sinks = s.sinks + 1; writes = capped s.writes now.faults; file = (back.under name).file }) first);
  kept = λ told. subst (λ (s : Shelf). s.file ≡ now.held) (sym last) (out-kept mid back now name named came (told-also mid.tells old.tells tells told));
  held = held;
  none = none;
}

-- ---- what that says of the file

-- a count to which something was added rose
pub rose-capped : (count faults none : ℕ) → none ≡ 0 → Rose none faults → Rose count (capped count faults)
rose-capped count faults none is rose = let some : 1 ≤ faults = omega (arith, is, rose) in omega (arith, some)

pub created-once : (file : Trace) (given back : Paper) → IsOutputBack file given back → IsCreatedOnce file
created-once file given back out =
    out.once ∙ ap (λ (n : ℕ). record file.old { sinks = file.old.sinks + 1; writes = n; file = file.new.file }) (sym (ap (λ (s : Shelf). s.writes) out.once))

-- an input that came back as it was given was left unread
pub left-unread : (file : Trace) (stock : Stock) → IsInputBack file stock stock → IsLeftUnread file
left-unread file stock back = record {
  once = back.once ∙ ap (λ (n : ℕ). record file.old { reads = n; sources = file.old.sources + 1; rest = file.new.rest }) (capped_none file.old.reads stock.faults back.none);
  unread = λ tells. subst (λ (o : Option (List ℕ)). IfSome o (λ bytes. file.new.rest ≡ length bytes)) (back.left tells).0 (back.rest tells);
}

-- an output that came back as it was given was left empty
pub left-empty : (file : Trace) (paper : Paper) → IsOutputBack file paper paper → IsLeftEmpty file
left-empty file paper back = record {
  emptied = record { created = created-once file paper paper back; empty = λ tells. back.kept tells ∙ back.held tells };
  unfailed = ap (λ (s : Shelf). s.writes) back.once ∙ capped_none file.old.writes paper.faults back.none;
}

-- ---- desks

-- a desk's files were opened, and came back
pub record IsCarried (desk : DeskTraces) (given back : Ends) : Type 0 where
  pub input : IsInputBack desk.input given.source back.source
  pub output : IsOutputBack desk.output given.sink back.sink

abbrev pub AreCarried : List DeskTraces → List Ends → List Ends → Type 0
AreCarried [] [] [] = Unit {0}
AreCarried (desk ∷ desks) (given ∷ olds) (back ∷ news) = IsCarried desk given back × AreCarried desks olds news
AreCarried [] [] (back ∷ news) = ⊥
AreCarried [] (given ∷ olds) news = ⊥
AreCarried (desk ∷ desks) [] news = ⊥
AreCarried (desk ∷ desks) (given ∷ olds) [] = ⊥

-- one desk's
pub carried : (old mid kid back new : Shelves) (desk : DeskFiles) (given now : Ends) → GivesDesk old mid desk given → desk.input ≢ desk.output → kid.under desk.input ≡ mid.under desk.input → kid.under desk.output ≡ mid.under desk.output →
    kid.tells ≡ old.tells → now.source.name ≡ desk.input → now.sink.name ≡ desk.output → BackIn kid back now.source → BackOut back new now.sink → IsCarried (desk_traces old new desk) given now
carried old mid kid back new desk given now gave differ same_in same_out tells named_in named_out in_came out_came = record {
  input = input-back old gave.between kid back new desk.input given.source now.source gave.source (same_in ∙ gave.sink.only.others desk.input differ) in_came named_in
      (out_came.only.others desk.input (λ same. differ (same ∙ named_out))) tells gave.opened.left gave.opened.source.1;
  output = output-back old gave.between mid back new new desk.output given.sink now.sink (gave.source.only.others desk.output (λ same. differ (sym same))) gave.sink
      (in_came.only.others desk.output (λ same. differ (sym (same ∙ named_in))) ∙ same_out) out_came named_out refl (in_came.only.tells ∙ tells) gave.opened.held gave.opened.sink.1;
}

-- only two names were touched when a desk's files came back
pub came-others : (kid back new : Shelves) (desk : DeskFiles) (now : Ends) (name : List ℕ) → now.source.name ≡ desk.input → now.sink.name ≡ desk.output → BackIn kid back now.source → BackOut back new now.sink →
    name ≢ desk.input → name ≢ desk.output → new.under name ≡ kid.under name
came-others kid back new desk now name named_in named_out in_came out_came one two =
    out_came.only.others name (λ same. two (same ∙ named_out)) ∙ in_came.only.others name (λ same. one (same ∙ named_in))

-- all desks' files, between which nothing was done to them
pub all-carried : (old mid kid new : Shelves) (desks : List DeskFiles) (olds news : List Ends) → AreApart (desk_names desks) → GivesDesks old mid desks olds → AreSame mid kid desks → kid.tells ≡ mid.tells → AreNamed desks news → AreBack kid new news →
    AreCarried (traces_of old new desks) olds news
all-carried old mid kid new [] [] [] apart gave same tells named came = tt
all-carried old mid kid new [] [] (now ∷ news) apart gave same tells named came = absurd named
all-carried old mid kid new [] (given ∷ olds) news apart gave same tells named came = absurd gave
all-carried old mid kid new (desk ∷ desks) [] news apart gave same tells named came = absurd gave
all-carried old mid kid new (desk ∷ desks) (given ∷ olds) [] apart gave same tells named came = absurd named
all-carried old mid kid new (desk ∷ desks) (given ∷ olds) (now ∷ news) apart gave same tells named came =
    let first = gave.0 in
    let last = came.0 in
    let back = came.1 in
    let told : last.tells ≡ old.tells = back-tells kid last news came.2 ∙ tells ∙ given-tells first mid desks olds gave.2 ∙ gave.1.sink.only.tells ∙ gave.1.source.only.tells in (
      carried old first last back new desk given now gave.1 apart.0.0
          (back-others kid last desks news desk.input named.2 came.2 apart.0.1 ∙ same.0 ∙ given-others first mid desks olds desk.input gave.2 apart.0.1)
          (back-others kid last desks news desk.output named.2 came.2 apart.1.0 ∙ same.1 ∙ given-others first mid desks olds desk.output gave.2 apart.1.0)
          told named.0 named.1 came.3 came.4,
      subst (λ (files : List DeskTraces). AreCarried files olds news)
          (traces-same old new first last desks (gave.1.sink.only.tells ∙ gave.1.source.only.tells)
          (same-but old first desk.input desk.output desks (λ name one two. gave.1.sink.only.others name two ∙ gave.1.source.only.others name one) apart.0.1 apart.1.0)
          (same-but new last desk.input desk.output desks (λ name one two. sym (came-others last back new desk now name named.0 named.1 came.3 came.4 one two)) apart.0.1 apart.1.0))
          (all-carried first mid kid last desks olds news apart.1.1 gave.2 same.2 tells named.2 came.2),
    )
