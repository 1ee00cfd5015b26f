-- The journal and the front of a history with one entry more.
use Rattle.std.proofs.Common.{◌≡◌, ◌∙◌, ap, sym, refl, ℕ, ◌+◌, ◌≤◌, List, [], ◌∷◌, ◌++◌, length, map, take, arith, length-append, append-nil}
use Rattle.std.proofs.lemmas.List.{length-map, map-append, take-append-le}
use Rattle.std.proofs.lemmas.List.Elements.{filter_map-append}
use Rattle.std.specs.List.{filter_map}
use Rattle.series_tables.specs.declared.input.Input.{Input}
use Rattle.accounts_history.specs.History.{Sent, sent_in, front_in, journal, inputs_of, last_or, front_of}
use Rattle.accounts_history.specs.declared.entry.Entry.{Entry}
use Rattle.accounts_history.specs.declared.entry.Entry.TheVariants.{Accept, Publish}

-- an accepted input is the last of the journal
pub journal-accept : (history : List Entry) (party : ℕ) (input : Input) → journal (history ++ Accept party input ∷ []) ≡ journal history ++ record { party = party; input = input } ∷ []
journal-accept history party input = filter_map-append sent_in history (Accept party input ∷ [])

pub journal-publish : (history : List Entry) (party front jobs : ℕ) → journal (history ++ Publish party front jobs ∷ []) ≡ journal history
journal-publish history party front jobs = filter_map-append sent_in history (Publish party front jobs ∷ []) ∙ append-nil (journal history)

-- the inputs of two parts of a history, one after the other
pub inputs_of-append : (before after : List Entry) → inputs_of (before ++ after) ≡ inputs_of before ++ inputs_of after
inputs_of-append before after =
    ap (map (λ (sent : Sent). sent.input)) (filter_map-append sent_in before after) ∙ map-append (λ (sent : Sent). sent.input) (journal before) (journal after)

pub inputs_of-accept : (history : List Entry) (party : ℕ) (input : Input) → inputs_of (history ++ Accept party input ∷ []) ≡ inputs_of history ++ input ∷ []
inputs_of-accept history party input = inputs_of-append history (Accept party input ∷ [])

pub inputs_of-publish : (history : List Entry) (party front jobs : ℕ) → inputs_of (history ++ Publish party front jobs ∷ []) ≡ inputs_of history
inputs_of-publish history party front jobs = ap (map (λ (sent : Sent). sent.input)) (journal-publish history party front jobs)

-- there are as many inputs as the journal has
pub length-inputs_of : (history : List Entry) → length (inputs_of history) ≡ length (journal history)
length-inputs_of history = length-map (journal history) (λ (sent : Sent). sent.input)

pub length-journal-accept : (history : List Entry) (party : ℕ) (input : Input) → length (journal (history ++ Accept party input ∷ [])) ≡ length (journal history) + 1
length-journal-accept history party input =
    ap (λ (sent : List Sent). length sent) (journal-accept history party input) ∙ length-append (journal history) (record { party = party; input = input } ∷ [])

last_or-append : (other : ℕ) (numbers : List ℕ) (number : ℕ) → last_or other (numbers ++ number ∷ []) ≡ number
last_or-append other [] number = refl
last_or-append other (first ∷ numbers) number = last_or-append first numbers number

pub front_of-accept : (history : List Entry) (party : ℕ) (input : Input) → front_of (history ++ Accept party input ∷ []) ≡ front_of history
front_of-accept history party input = ap (last_or 0) (filter_map-append front_in history (Accept party input ∷ []) ∙ append-nil (filter_map front_in history))

-- the front is the one that was published last
pub front_of-publish : (history : List Entry) (party front jobs : ℕ) → front_of (history ++ Publish party front jobs ∷ []) ≡ front
front_of-publish history party front jobs =
    ap (last_or 0) (filter_map-append front_in history (Publish party front jobs ∷ [])) ∙ last_or-append 0 (filter_map front_in history) front

-- one input more leaves the first so many as they were
pub take-inputs_of-accept : (history : List Entry) (party : ℕ) (input : Input) (count : ℕ) → count ≤ length (journal history) → take count (inputs_of (history ++ Accept party input ∷ [])) ≡ take count (inputs_of history)
take-inputs_of-accept history party input count within =
    ap (take count) (inputs_of-accept history party input) ∙ take-append-le count (inputs_of history) (input ∷ []) (omega (arith, within, length-inputs_of history))
