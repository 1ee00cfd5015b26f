-- Journals and fronts of histories that grow.
use Rattle.std.proofs.Common.{◌≡◌, ◌∙◌, ap, sym, refl, subst, ℕ, zero, suc, ◌≤◌, ◌==◌, Bool, true, false}
use Rattle.std.proofs.Common.{cond, List, [], ◌∷◌, ◌++◌, length, arith, append_assoc, append-nil}
use Rattle.std.proofs.Common.{length-append}
use Rattle.std.proofs.lemmas.List.{length-map}
use Rattle.std.proofs.lemmas.List.Elements.{filter-append, filter_map-append}
use Rattle.series_tables.specs.Plan.{PlanShape}
use Rattle.series_tables.specs.declared.input.Input.{Input}
use Rattle.accounts_history.specs.History.{IsLawful, Sent, front_of, journal, sent_in}
use Rattle.accounts_history.specs.Laws.{IsWithinBounds}
use Rattle.accounts_history.specs.declared.entry.Entry.{Entry}
use Rattle.accounts_history.specs.declared.entry.Entry.TheVariants.{Accept, Publish}
use Rattle.accounts_history.proofs.Histories.{front_of-accept, front_of-publish}
use Rattle.accounts_history.proofs.Lawful.{lawful_before, within_bounds}
use Rattle.office.specs.Seen.{SentNothing, SentOne}
use Rattle.compile_workers.specs.Laws.{IsOthers}
use Rattle.compile_workers.specs.Served.{inputs_in}
use Rattle.compile_workers.specs.Transcript.{HasNoneAfter, of_party}

-- the journal of two parts of a history
pub journal-append : (before later : List Entry) → journal (before ++ later) ≡ journal before ++ journal later
journal-append before later = filter_map-append sent_in before later

-- what a party sent of two parts of a journal
pub of_party-append : (party : ℕ) (before later : List Sent)
    → of_party party (before ++ later) ≡ of_party party before ++ of_party party later
of_party-append party before later = filter-append (λ (sent : Sent). sent.party == party) before later

-- there are as many inputs as a journal has
pub length-inputs_in : (sent : List Sent) → length (inputs_in sent) ≡ length sent
length-inputs_in sent = length-map sent (λ (s : Sent). s.input)

-- who sent nothing, sent nothing after any place
none_after : (party number : ℕ) (sent : List Sent) → of_party party sent ≡ [] → HasNoneAfter party number sent
none_after party zero sent none = none
none_after party (suc number) [] none = refl
none_after party (suc number) (one ∷ sent) none = none_after party number sent (later (one.party == party) none)
  where
    later : (b : Bool) → cond b (one ∷ of_party party sent) (of_party party sent) ≡ [] → of_party party sent ≡ []
    later true none = absurd (cc none)
    later false none = none

-- what others send behind a journal changes nothing of what the party sent after a place
pub none_stays : (party number : ℕ) (sent later : List Sent) → of_party party later ≡ []
    → HasNoneAfter party number sent → HasNoneAfter party number (sent ++ later)
none_stays party zero sent later others none =
    of_party-append party sent later ∙ (ap (λ (w : List Sent). w ++ of_party party later) none ∙ others)
none_stays party (suc number) [] later others none = none_after party (suc number) later others
none_stays party (suc number) (one ∷ sent) later others none = none_stays party number sent later others none

-- one entry more leaves the front no lower
front_after : (plan : PlanShape) (history : List Entry) (entry : Entry) → IsLawful plan (history ++ entry ∷ [])
    → front_of history ≤ front_of (history ++ entry ∷ [])
front_after plan history (Accept party input) lawful = omega (arith, front_of-accept history party input)
front_after plan history (Publish party front jobs) lawful =
    let may = lawful history [] (Publish party front jobs) refl in
    omega (arith, may.later, front_of-publish history party front jobs)

-- the front of a lawful history never falls
pub front_rises : (plan : PlanShape) (before later : List Entry) → IsLawful plan (before ++ later)
    → front_of before ≤ front_of (before ++ later)
front_rises plan before [] lawful =
    let same : front_of (before ++ []) ≡ front_of before = ap front_of (append-nil before) in omega (arith, same)
front_rises plan before (entry ∷ later) lawful =
    let parted : (before ++ entry ∷ []) ++ later ≡ before ++ entry ∷ later = append_assoc before (entry ∷ []) later in
    let whole : IsLawful plan ((before ++ entry ∷ []) ++ later) =
    subst (λ (w : List Entry). IsLawful plan w) (sym parted) lawful in
    let one = front_after plan before entry (lawful_before plan (before ++ entry ∷ []) later whole) in
    let rest = front_rises plan (before ++ entry ∷ []) later whole in
    let same : front_of ((before ++ entry ∷ []) ++ later) ≡ front_of (before ++ entry ∷ later) = ap front_of parted in
    omega (arith, one, rest, same)

-- nor does it from one history to a later one
pub front_grows : (plan : PlanShape) (before came after : List Entry) → IsLawful plan after → after ≡ before ++ came
    → front_of before ≤ front_of after
front_grows plan before came after lawful grew =
    let whole : IsLawful plan (before ++ came) = subst (λ (w : List Entry). IsLawful plan w) grew lawful in
    let same : front_of after ≡ front_of (before ++ came) = ap front_of grew in
    omega (arith, front_rises plan before came whole, same)

-- what came in a lawful history in which the party sent nothing more
pub others_of : (plan : PlanShape) (party : ℕ) (before after : List Entry) → IsLawful plan after
    → (grew : SentNothing party before after) → IsOthers party (journal before) (journal grew.0)
others_of plan party before after lawful grew =
    let same : journal after ≡ journal before ++ journal grew.0 =
    ap journal grew.1 ∙ journal-append before grew.0 in
    let bounds : IsWithinBounds plan after = within_bounds plan after lawful in
    let long : length (journal after) ≡ length (journal before ++ journal grew.0) =
    ap (λ (w : List Sent). length w) same in
    record { few = omega (arith, bounds.few, long); others = grew.2 }

-- the journal with what came, of which the party sent nothing
pub journal_grew : (party : ℕ) (before after : List Entry) → (grew : SentNothing party before after)
    → journal after ≡ journal before ++ journal grew.0
journal_grew party before after grew = ap journal grew.1 ∙ journal-append before grew.0

-- a number within a journal is within it later on
pub known_grows : (party own : ℕ) (before after : List Entry) → SentNothing party before after
    → own ≤ length (journal before) → own ≤ length (journal after)
known_grows party own before after grew within =
    let long : length (journal after) ≡ length (journal before ++ journal grew.0) =
    ap (λ (w : List Sent). length w) (journal_grew party before after grew) in
    omega (arith, within, long, length-append (journal before) (journal grew.0))

-- the journal with one input more of the party
pub journal_sent_one : (party : ℕ) (input : Input) (number : ℕ) (before after : List Entry)
    → (one : SentOne party input number before after)
    → journal after ≡ journal one.0 ++ record { party = party; input = input } ∷ []
journal_sent_one party input number before after one =
    ap journal one.2 ∙ journal-append one.0 (Accept party input ∷ [])

-- what was seen before the party's one input, and what came with it
sent_one_parted : (party : ℕ) (input : Input) (number : ℕ) (before after : List Entry)
    → (one : SentOne party input number before after)
    → after ≡ before ++ (one.1.0 ++ Accept party input ∷ [])
sent_one_parted party input number before after one =
    one.2
    ∙ ap (λ (w : List Entry). w ++ Accept party input ∷ []) one.1.1
    ∙ append_assoc before one.1.0 (Accept party input ∷ [])

-- a history before the one input of a lawful history is lawful
pub sent_one_lawful : (plan : PlanShape) (party : ℕ) (input : Input) (number : ℕ) (before after : List Entry)
    → SentOne party input number before after → IsLawful plan after → IsLawful plan before
sent_one_lawful plan party input number before after one lawful =
    lawful_before plan before (one.1.0 ++ Accept party input ∷ [])
    (subst (λ (w : List Entry). IsLawful plan w) (sent_one_parted party input number before after one) lawful)

-- and its front is no higher
pub sent_one_front : (plan : PlanShape) (party : ℕ) (input : Input) (number : ℕ) (before after : List Entry)
    → SentOne party input number before after → IsLawful plan after → front_of before ≤ front_of after
sent_one_front plan party input number before after one lawful =
    front_grows plan before (one.1.0 ++ Accept party input ∷ []) after lawful
    (sent_one_parted party input number before after one)
