-- Parties that are taken back: what each was served stays so in the closed history.
use Rattle.std.proofs.Common.{◌≡◌, ◌∙◌, ap, sym, refl, subst, ℕ, ◌==◌, Bool, true, false}
use Rattle.std.proofs.Common.{cond, ◌||◌, List, [], ◌∷◌, ◌++◌, map, Option, Some, None, append_assoc}
use Rattle.std.proofs.Common.{append-nil, eq-eqb, ne_eqb}
use Rattle.std.specs.Prelude.{All, IfSome}
use Rattle.std.proofs.lemmas.List.Elements.{All-append, All-cons, All-head, All-nil, All-tail, All-weaker}
use mathlib.Core.List.{IsPrefix}
use Rattle.series_tables.specs.Plan.{PlanShape}
use Rattle.line_form.specs.Lines.{TextLine}
use Rattle.qna_edges.specs.Paper.{Paper}
use Rattle.accounts_history.specs.History.{IsLawful, Sent, journal, party_of}
use Rattle.accounts_history.specs.declared.entry.Entry.{Entry}
use Rattle.desk_lock.specs.Passes.{Account, IsJoined, account, entries_by, entries_under}
use Rattle.desk_lock.specs.Passes.{is_in, own}
use Rattle.desk_lock.proofs.Lists.{or_none, prefix_trans, under-append}
use Rattle.office.specs.Holds.{Known}
use Rattle.office.specs.Seen.{SentNothing}
use Rattle.office.proofs.Seen.{made_nothing, made_sent}
use Rattle.compile_workers.specs.DeskEnd.{Ends, IsDeskEnd}
use Rattle.compile_workers.specs.Laws.{IsOthers}
use Rattle.compile_workers.specs.Parties.{IsJoinedOf, accounts_of}
use Rattle.compile_workers.specs.Serving.{HasPart, HasWhole}
use Rattle.compile_workers.specs.declared.desk.DeskEnd.{DeskEnd}
use Rattle.compile_workers.proofs.Journals.{journal_grew, others_of}
use Rattle.compile_workers.proofs.Stability.{part_stays, served_stays}

-- ---- ends over a longer journal

if_some : {A : Type 0} (P Q : A → Type 0) (o : Option A) → ((x : A) → P x → Q x) → IfSome o P → IfSome o Q
if_some P Q None then h = tt
if_some P Q (Some x) then h = then x h

module _ (plan : PlanShape) (party : ℕ) (sent later : List Sent) (grew : IsOthers party sent later) where
  whole_stays : (lines : List TextLine) (origin paper : Paper) → HasWhole plan party lines origin paper sent
      → HasWhole plan party lines origin paper (sent ++ later)
  whole_stays lines origin paper h = record {
    text = h.text;
    served = served_stays plan party lines h.text sent later grew h.served;
    written = h.written;
  }

  part_has_stayed : (lines : List TextLine) (origin paper : Paper) → HasPart plan party lines origin paper sent
      → HasPart plan party lines origin paper (sent ++ later)
  part_has_stayed lines origin paper h = record {
    text = h.text;
    served = part_stays plan party lines h.text sent later grew h.served;
    written = h.written;
  }

  -- an end is worth the same when others go on
  pub end_stays : (old new : Ends) (end : DeskEnd) → IsDeskEnd plan party old new end sent
      → IsDeskEnd plan party old new end (sent ++ later)
  end_stays old new end is = record {
    whole = λ at. if_some _ _ old.source.left (λ text h. whole_stays _ old.sink new.sink h) (is.whole at);
    taken = is.taken;
    part = if_some _ _ old.source.left (λ text h. part_has_stayed _ old.sink new.sink h) is.part;
    read = λ at. if_some _ _ old.source.left
        (λ text h. if_some _ _ new.source.left (λ rest w. whole_stays _ old.sink new.sink w) h) (is.read at);
    passed = is.passed;
    passed_whole = λ at. if_some _ _ old.source.left (λ text h. whole_stays _ old.sink new.sink h) (is.passed_whole at);
    within = is.within;
    read_failed = is.read_failed;
    write_failed = is.write_failed;
    read_stands = is.read_stands;
    write_stands = is.write_stands;
    only_read = is.only_read;
    only_written = is.only_written;
  }

-- the same along a history in which the party sent nothing more
pub end_grows : (plan : PlanShape) (party : ℕ) (before after : List Entry) (old new : Ends) (end : DeskEnd)
    → IsLawful plan after → SentNothing party before after → IsDeskEnd plan party old new end (journal before)
    → IsDeskEnd plan party old new end (journal after)
end_grows plan party before after old new end lawful grew is =
    subst (λ (w : List Sent). IsDeskEnd plan party old new end w) (sym (journal_grew party before after grew))
    (end_stays plan party (journal before) (journal grew.0)
    (others_of plan party before after lawful grew) old new end is)

-- ---- passes that are joined into one

accounts-append : (some more : List Known) → accounts_of (some ++ more) ≡ accounts_of some ++ accounts_of more
accounts-append [] more = refl
accounts-append (pass ∷ some) more =
    ap (λ (w : Account Entry). account party_of pass ++ w) (accounts-append some more)
    ∙ sym (append_assoc (account party_of pass) (accounts_of some) (accounts_of more))

-- the first pass alone
pub joined_first : (first : Known) → IsJoinedOf first [] first
joined_first first = record {
  lock = refl;
  live = refl;
  label = refl;
  gives = refl;
  given = refl;
  accounts = sym (append-nil (account party_of first));
  begins = All-cons (λ (p : Known). IsPrefix p.seen first.seen) first [] ([], append-nil first.seen)
      (All-nil (λ (p : Known). IsPrefix p.seen first.seen));
}

-- one more pass is joined
pub joins_more : (first rest next after : Known) (others : List Known) → first.gives ≡ true → first.live ≡ true
    → IsJoinedOf first others rest → IsJoined party_of rest next after → IsPrefix rest.seen after.seen
    → IsPrefix next.seen after.seen → own party_of after ≡ own party_of rest
    → IsJoinedOf first (others ++ next ∷ []) after
joins_more first rest next after others gives live old joined begins other mine = record {
  lock = joined.0 ∙ old.lock;
  live = joined.1 ∙ sym live;
  label = joined.2 ∙ old.label;
  gives = joined.6 ∙ ap (λ (b : Bool). b || next.gives) (old.gives ∙ gives) ∙ sym gives;
  given = joined.7 ∙ ap (λ (b : Bool). cond b rest.given next.given) (old.gives ∙ gives) ∙ old.given;
  accounts =
      ap (λ (p : ℕ). (p, own party_of after) ∷ after.ended) joined.3
      ∙ ap (λ (es : List Entry). (rest.party, es) ∷ after.ended) mine
      ∙ ap (λ (w : Account Entry). (rest.party, own party_of rest) ∷ w) joined.5
      ∙ ap (λ (w : Account Entry). w ++ account party_of next) old.accounts
      ∙ ap (λ (w : Account Entry). accounts_of (first ∷ others) ++ w) (sym (append-nil (account party_of next)))
      ∙ sym (accounts-append (first ∷ others) (next ∷ []));
  begins = All-append (λ (p : Known). IsPrefix p.seen after.seen) (first ∷ others) (next ∷ [])
      (All-weaker (λ (p : Known). IsPrefix p.seen rest.seen) (λ (p : Known). IsPrefix p.seen after.seen)
      (λ p has. prefix_trans p.seen rest.seen after.seen has begins) (first ∷ others) old.begins)
      (All-cons (λ (p : Known). IsPrefix p.seen after.seen) next [] other
      (All-nil (λ (p : Known). IsPrefix p.seen after.seen)));
}

-- ---- what stands under a party

abbrev pub parties_of : List Known → List ℕ
parties_of passes = map (λ (pass : Known). pass.party) passes

-- no two of these numbers are the same
abbrev pub AreApart : List ℕ → Type 0
AreApart [] = Unit {0}
AreApart (number ∷ numbers) = (is_in number numbers ≡ false) × AreApart numbers

-- no other party ended in these passes
abbrev pub AreAlone : List Known → Type 0
AreAlone [] = Unit {0}
AreAlone (pass ∷ passes) = (pass.ended ≡ []) × AreAlone passes

-- under the party of each of the second passes stand its own entries, in what the first ones account for
abbrev pub AreUnder : List Known → List Known → Type 0
AreUnder passes [] = Unit {0}
AreUnder passes (one ∷ some) =
    (entries_under one.party (accounts_of passes) ≡ own party_of one) × AreUnder passes some

-- another party's account has nothing under a party
pub under_another : (party : ℕ) (pass : Known) → pass.ended ≡ [] → (pass.party == party) ≡ false
    → entries_under party (account party_of pass) ≡ []
under_another party pass ended other =
    ap (λ b. cond b (own party_of pass) [] ++ entries_under party pass.ended) other ∙ ap (entries_under party) ended

pub under_own : (pass : Known) → pass.ended ≡ [] → entries_under pass.party (account party_of pass) ≡ own party_of pass
under_own pass ended =
    ap (λ b. cond b (own party_of pass) [] ++ entries_under pass.party pass.ended) (eq-eqb pass.party pass.party refl)
    ∙ ap (λ (w : Account Entry). own party_of pass ++ entries_under pass.party w) ended
    ∙ append-nil (own party_of pass)

-- who isn't among the parties has nothing in what they account for
pub under_other : (party : ℕ) (passes : List Known) → AreAlone passes → is_in party (parties_of passes) ≡ false
    → entries_under party (accounts_of passes) ≡ []
under_other party [] alone apart = refl
under_other party (pass ∷ passes) alone apart =
    let parts = or_none (pass.party == party) (is_in party (parties_of passes)) apart in
    under-append party (account party_of pass) (accounts_of passes)
    ∙ ap (λ (w : List Entry). w ++ entries_under party (accounts_of passes)) (under_another party pass alone.0 parts.0)
    ∙ under_other party passes alone.1 parts.1

-- one more party in front, which is another one's
under_more : (pass : Known) (passes some : List Known) → pass.ended ≡ [] → is_in pass.party (parties_of some) ≡ false
    → AreUnder passes some → AreUnder (pass ∷ passes) some
under_more pass passes [] ended apart under = tt
under_more pass passes (one ∷ some) ended apart under =
    let parts = or_none (one.party == pass.party) (is_in pass.party (parties_of some)) apart in
    let other : (pass.party == one.party) ≡ false =
    ne_eqb pass.party one.party (λ is. let never = sym (eq-eqb one.party pass.party (sym is)) ∙ parts.0 in cc) in (
      under-append one.party (account party_of pass) (accounts_of passes)
          ∙ ap (λ (w : List Entry). w ++ entries_under one.party (accounts_of passes))
          (under_another one.party pass ended other)
          ∙ under.0,
      under_more pass passes some ended parts.1 under.1,
    )

pub under_all : (passes : List Known) → AreAlone passes → AreApart (parties_of passes) → AreUnder passes passes
under_all [] alone apart = tt
under_all (pass ∷ passes) alone apart = (
  under-append pass.party (account party_of pass) (accounts_of passes)
      ∙ ap (λ (w : List Entry). entries_under pass.party (account party_of pass) ++ w)
      (under_other pass.party passes alone.1 apart.0)
      ∙ append-nil (entries_under pass.party (account party_of pass))
      ∙ under_own pass alone.0,
  under_more pass passes passes alone.0 apart.0 (under_all passes alone.1 apart.1),
)

-- a party whose entries in the closed history are those that its pass has seen sent nothing since
closed_over : (party : ℕ) (seen closed : List Entry) → IsPrefix seen closed
    → entries_by party_of party closed ≡ entries_by party_of party seen → SentNothing party seen closed
closed_over party seen closed begins same = made_sent party seen closed (made_nothing party seen closed begins same)

-- no party of these passes sent anything between what its pass has seen and a history
abbrev pub AreSettled : List Entry → List Known → Type 0
AreSettled history [] = Unit {0}
AreSettled history (pass ∷ passes) = SentNothing pass.party pass.seen history × AreSettled history passes

pub settle : (passes some : List Known) (joined : Known) → account party_of joined ≡ accounts_of passes
    → ((p : ℕ) → entries_by party_of p joined.seen ≡ entries_under p (account party_of joined))
    → All (λ other. IsPrefix other.seen joined.seen) some → AreUnder passes some → AreSettled joined.seen some
settle passes [] joined accounts each begins under = tt
settle passes (one ∷ some) joined accounts each begins under = (
  closed_over one.party one.seen joined.seen (All-head (λ (p : Known). IsPrefix p.seen joined.seen) one some begins)
      (each one.party ∙ ap (entries_under one.party) accounts ∙ under.0),
  settle passes some joined accounts each (All-tail (λ (p : Known). IsPrefix p.seen joined.seen) one some begins)
      under.1,
)
