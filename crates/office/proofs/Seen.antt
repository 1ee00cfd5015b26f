-- What a pass has seen, from one look to the next.
use Rattle.std.proofs.Common.{◌≡◌, ◌∙◌, ap, sym, refl, subst, ℕ, ◌==◌, Bool, true, false, cond, List, [], ◌∷◌, ◌++◌, append_assoc, append-nil}
use Rattle.std.specs.Prelude.{filter}
use Rattle.std.proofs.lemmas.List.{append_cancel_left}
use Rattle.std.proofs.lemmas.List.Elements.{filter-append, filter_map-append}
use mathlib.Core.List.{IsPrefix}
use Rattle.series_tables.specs.declared.input.Input.{Input}
use Rattle.accounts_history.specs.History.{Sent, journal, party_of, sent_in}
use Rattle.accounts_history.specs.declared.entry.Entry.{Entry}
use Rattle.accounts_history.specs.declared.entry.Entry.TheVariants.{Accept, Publish}
use Rattle.desk_lock.specs.Passes.{entries_by}
use Rattle.office.specs.Seen.{MadeNothing, PublishedOne, SentNothing, SentOne, sent_by}

-- who made no entry sent nothing
pub nothing_sent : (party : ℕ) (entries : List Entry) → entries_by party_of party entries ≡ [] → sent_by party entries ≡ []
nothing_sent party [] none = refl
nothing_sent party (Accept sender input ∷ entries) none = by_sender (sender == party) none (nothing_sent party entries)
  where
    sent : Sent
    sent = record { party = sender; input = input }

    by_sender : (b : Bool) → cond b (Accept sender input ∷ entries_by party_of party entries) (entries_by party_of party entries) ≡ [] → (entries_by party_of party entries ≡ [] → sent_by party entries ≡ [])
        → cond b (sent ∷ sent_by party entries) (sent_by party entries) ≡ []
    by_sender true none rest = absurd (cc none)
    by_sender false none rest = rest none
nothing_sent party (Publish publisher front jobs ∷ entries) none = by_publisher (publisher == party) none (nothing_sent party entries)
  where
    by_publisher : (b : Bool) → cond b (Publish publisher front jobs ∷ entries_by party_of party entries) (entries_by party_of party entries) ≡ [] → (entries_by party_of party entries ≡ [] → sent_by party entries ≡ [])
        → sent_by party entries ≡ []
    by_publisher true none rest = absurd (cc none)
    by_publisher false none rest = rest none

-- more was seen, with as many entries of the party
pub made_nothing : (party : ℕ) (before after : List Entry) → IsPrefix before after → entries_by party_of party after ≡ entries_by party_of party before → MadeNothing party before after
made_nothing party before after begins same =
    let own : List Entry → List Entry = entries_by party_of party in
    let both : own before ++ own begins.0 ≡ own before ++ [] = sym (filter-append (λ (e : Entry). party_of e == party) before begins.0) ∙ ap own begins.1 ∙ same ∙ sym (append-nil (own before)) in
    (begins.0, sym begins.1, append_cancel_left (own before) (own begins.0) [] both)

pub made_then : (party : ℕ) (one two three : List Entry) → MadeNothing party one two → MadeNothing party two three → MadeNothing party one three
made_then party one two three first second = (
  first.0 ++ second.0,
  second.1 ∙ (ap (λ (w : List Entry). w ++ second.0) first.1 ∙ append_assoc one first.0 second.0),
  filter-append (λ (e : Entry). party_of e == party) first.0 second.0 ∙ (ap (λ (w : List Entry). w ++ entries_by party_of party second.0) first.2 ∙ second.2),
)

pub sent-append : (party : ℕ) (xs ys : List Entry) → sent_by party (xs ++ ys) ≡ sent_by party xs ++ sent_by party ys
sent-append party xs ys = ap (filter (λ (s : Sent). s.party == party)) (filter_map-append sent_in xs ys) ∙ filter-append (λ (s : Sent). s.party == party) (journal xs) (journal ys)

pub sent_then : (party : ℕ) (one two three : List Entry) → SentNothing party one two → SentNothing party two three → SentNothing party one three
sent_then party one two three first second = (
  first.0 ++ second.0,
  second.1 ∙ (ap (λ (w : List Entry). w ++ second.0) first.1 ∙ append_assoc one first.0 second.0),
  sent-append party first.0 second.0 ∙ (ap (λ (w : List Sent). w ++ sent_by party second.0) first.2 ∙ second.2),
)

pub made_sent : (party : ℕ) (before after : List Entry) → MadeNothing party before after → SentNothing party before after
made_sent party before after made = (made.0, made.1, nothing_sent party made.0 made.2)

-- who published one front sent nothing
pub published_sent : (party front : ℕ) (before after : List Entry) → PublishedOne party front before after → SentNothing party before after
published_sent party front before after one =
    sent_then party before one.0 after (made_sent party before one.0 one.2) (Publish party front one.1 ∷ [], one.3, refl)

-- ---- a step more, whose pass is of the same party

pub then_made : (p q : ℕ) (one two three : List Entry) → q ≡ p → MadeNothing p one two → MadeNothing q two three → MadeNothing p one three
then_made p q one two three is first second = made_then p one two three first (subst (λ (n : ℕ). MadeNothing n two three) is second)

pub then_published : (p q front : ℕ) (one two three : List Entry) → q ≡ p → MadeNothing p one two → PublishedOne q front two three → PublishedOne p front one three
then_published p q front one two three is first second =
    let later : PublishedOne p front two three = subst (λ (n : ℕ). PublishedOne n front two three) is second in
    (later.0, later.1, made_then p one two later.0 first later.2, later.3)

pub then_sent : (p q : ℕ) (one two three : List Entry) → q ≡ p → SentNothing p one two → SentNothing q two three → SentNothing p one three
then_sent p q one two three is first second = sent_then p one two three first (subst (λ (n : ℕ). SentNothing n two three) is second)

pub then_one : (p q : ℕ) (input : Input) (number : ℕ) (one two three : List Entry) → q ≡ p → SentNothing p one two → SentOne q input number two three → SentOne p input number one three
then_one p q input number one two three is first second =
    let later : SentOne p input number two three = subst (λ (n : ℕ). SentOne n input number two three) is second in
    (later.0, sent_then p one two later.0 first later.1, later.2, later.3)
