-- How far a desk is served after each read.
use Rattle.std.proofs.Common.{◌≡◌, ◌∙◌, ap, sym, refl, subst, ℕ, true, false, List, [], ◌++◌, take}
use Rattle.std.proofs.Common.{drop}
use Rattle.std.proofs.Common.{Option, Some, None, Result, Ok, Err, arith, append-nil}
use Rattle.std.specs.Prelude.{OnOk, IfSome}
use Rattle.std.proofs.lemmas.List.{take-append-drop}
use Rattle.line_form.specs.Lines.{Cutting, IsCutOf, TextLine, ended_lines, lines_of}
use Rattle.line_form.proofs.CutLines.{nothing_cut}
use Rattle.series_tables.specs.Plan.{PlanShape}
use Rattle.qna_edges.specs.Paper.{Paper}
use Rattle.qna_edges.specs.declared.refused.Refused.{Refused}
use Rattle.qna_edges.proofs.Paper.{grown_nothing}
use Rattle.qna_parts.proofs.Streams.{ended_lines-front, lines_of-front}
use Rattle.qna_parts.proofs.Success.{on_ok}
use Rattle.accounts_history.specs.History.{Sent, journal}
use Rattle.accounts_history.specs.declared.entry.Entry.{Entry}
use Rattle.office.specs.Seen.{sent_by}
use Rattle.compile_workers.specs.Serving.{HasPart, HasServed, IsServedUpTo, Position, Serves, position}
use Rattle.compile_workers.specs.Transcript.{questions}
use Rattle.compile_workers.proofs.Writing.{part_before, part_longer}

-- no line ends in no bytes
no_lines : ended_lines [] ≡ []
no_lines = sym nothing_cut.lines

-- the lines handed out and those that wait are the ended ones, while the stream goes on
lines_so_far : (state : Cutting) (stream : List ℕ) (handed : List TextLine) → IsCutOf state stream handed
    → state.ended ≡ false → handed ++ state.waiting ≡ ended_lines stream
lines_so_far state stream handed cut goes_on = rw goes_on at cut.lines

-- and all lines, once the stream has ended
all_lines : (state : Cutting) (stream : List ℕ) (handed : List TextLine) → IsCutOf state stream handed
    → state.ended ≡ true → handed ++ state.waiting ≡ lines_of stream
all_lines state stream handed cut ended = rw ended at cut.lines

-- no line asks for anything
no_questions : (plan : PlanShape) → questions plan [] ≡ []
unfolding questions
no_questions plan = refl

module _ (plan : PlanShape) (party : ℕ) where
  -- who sent nothing was served no line
  pub served_nothing : (paper : Paper) (seen : List Entry) → sent_by party seen ≡ []
      → HasServed plan party [] paper (position paper 0 seen)
  served_nothing paper seen none = record {
    text = [];
    served = record {
      answers = [];
      answered = rw (no_questions plan) tt;
      last = refl;
      known = omega arith;
      published = omega arith;
      nothing_more = none;
      spelled = refl;
    };
    written = grown_nothing paper;
  }

  -- and nothing is a part of what any lines are answered
  pub part_nothing : (paper : Paper) (seen : List Entry) (lines : List TextLine) → sent_by party seen ≡ []
      → HasPart plan party lines paper paper (journal seen)
  part_nothing paper seen lines none =
      part_before plan party [] lines paper (position paper 0 seen) (served_nothing paper seen none)

  -- before the first byte
  pub serving_begun : (paper : Paper) (lines : Cutting) (seen : List Entry) → IsCutOf lines [] []
      → sent_by party seen ≡ [] → IsServedUpTo plan party paper lines (position paper 0 seen) []
  serving_begun paper lines seen cut none = record {
    cut = rw no_lines cut;
    served = rw no_lines (served_nothing paper seen none);
  }

  -- a piece was fed, and the lines that waited were answered
  pub piece_served : (origin : Paper) (before mid after : Cutting) (old new : Position) (stream piece : List ℕ)
      (said : Result (Unit {0}) Refused) → IsServedUpTo plan party origin before old stream
      → IsCutOf mid (stream ++ piece) (ended_lines stream) → mid.ended ≡ false
      → OnOk said ((text : List ℕ) (handed : List TextLine) → IsCutOf mid text handed
      → IsCutOf after text (handed ++ mid.waiting))
      → Serves plan party mid.waiting old new said
      → OnOk said (IsServedUpTo plan party origin after new (stream ++ piece))
      × HasPart plan party (ended_lines (stream ++ piece)) origin new.paper (journal new.seen)
  piece_served origin before mid after old new stream piece said had cut goes_on moved serves =
      let all : ended_lines stream ++ mid.waiting ≡ ended_lines (stream ++ piece) =
      lines_so_far mid (stream ++ piece) (ended_lines stream) cut goes_on in
      let s = serves (ended_lines stream) origin had.served in
      let whole : OnOk said (HasServed plan party (ended_lines (stream ++ piece)) origin new) =
      subst (λ (w : List TextLine). OnOk said (HasServed plan party w origin new)) all s.0 in
      let cuts : OnOk said (IsCutOf after (stream ++ piece) (ended_lines (stream ++ piece))) =
      on_ok said
      (λ move. subst (λ (w : List TextLine). IsCutOf after (stream ++ piece) w) all
      (move (stream ++ piece) (ended_lines stream) cut))
      moved in (
        both said whole cuts,
        subst (λ (w : List TextLine). HasPart plan party w origin new.paper (journal new.seen)) all s.1,
      )
    where
      both : (r : Result (Unit {0}) Refused) → OnOk r (HasServed plan party (ended_lines (stream ++ piece)) origin new)
          → OnOk r (IsCutOf after (stream ++ piece) (ended_lines (stream ++ piece)))
          → OnOk r (IsServedUpTo plan party origin after new (stream ++ piece))
      both (Ok done) served cut = record { cut = cut; served = served }
      both (Err refused) served cut = tt

  -- the stream was finished, and the last line was answered
  pub end_served : (origin : Paper) (before mid : Cutting) (old new : Position) (stream : List ℕ)
      (said : Result (Unit {0}) Refused) → IsServedUpTo plan party origin before old stream
      → IsCutOf mid stream (ended_lines stream) → mid.ended ≡ true → Serves plan party mid.waiting old new said
      → OnOk said (HasServed plan party (lines_of stream) origin new)
      × HasPart plan party (lines_of stream) origin new.paper (journal new.seen)
  end_served origin before mid old new stream said had cut ended serves =
      let all : ended_lines stream ++ mid.waiting ≡ lines_of stream =
      all_lines mid stream (ended_lines stream) cut ended in
      let s = serves (ended_lines stream) origin had.served in (
        subst (λ (w : List TextLine). OnOk said (HasServed plan party w origin new)) all s.0,
        subst (λ (w : List TextLine). HasPart plan party w origin new.paper (journal new.seen)) all s.1,
      )

  -- a piece, or the end, couldn't be taken
  pub piece_unfed : (origin : Paper) (lines : Cutting) (at : Position) (stream piece : List ℕ)
      → IsServedUpTo plan party origin lines at stream
      → HasPart plan party (ended_lines (stream ++ piece)) origin at.paper (journal at.seen)
  piece_unfed origin lines at stream piece had =
      let more = ended_lines-front stream piece in
      subst (λ (w : List TextLine). HasPart plan party w origin at.paper (journal at.seen)) (sym more.1)
      (part_before plan party (ended_lines stream) more.0 origin at had.served)

  -- the end couldn't be taken
  pub end_unfed : (origin : Paper) (lines : Cutting) (at : Position) (stream : List ℕ)
      → IsServedUpTo plan party origin lines at stream
      → HasPart plan party (lines_of stream) origin at.paper (journal at.seen)
  end_unfed origin lines at stream had =
      let more = lines_of-front stream [] in
      subst (λ (w : List TextLine). HasPart plan party w origin at.paper (journal at.seen))
      (sym more.1 ∙ ap lines_of (append-nil stream))
      (part_before plan party (ended_lines stream) more.0 origin at had.served)

  -- a part of the lines so far is a part of all
  pub part_of_all : (origin paper : Paper) (sent : List Sent) (xs text : List ℕ) (n : ℕ) → xs ≡ take n text
      → HasPart plan party (ended_lines xs) origin paper sent → HasPart plan party (lines_of text) origin paper sent
  part_of_all origin paper sent xs text n is h =
      let more = lines_of-front (take n text) (drop n text) in
      let all : lines_of text ≡ ended_lines (take n text) ++ more.0 =
      ap lines_of (sym (take-append-drop n text)) ∙ more.1 in
      subst (λ (w : List TextLine). HasPart plan party w origin paper sent) (sym all)
      (part_longer plan party (ended_lines (take n text)) more.0 origin paper sent
      (subst (λ (w : List ℕ). HasPart plan party (ended_lines w) origin paper sent) is h))

-- what holds of each text holds of the one that is told, if one is
pub each_text : (P : List ℕ → Type 0) (told : Option (List ℕ)) → ((text : List ℕ) → P text) → IfSome told P
each_text P None all = tt
each_text P (Some text) all = all text
