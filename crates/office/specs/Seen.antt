-- What a pass has seen, and what of its own party came between two looks. It is this product's own.
use Rattle.std.specs.Prelude.{◌≡◌, ℕ, ◌<◌, ◌==◌, List, [], ◌∷◌, ◌++◌, filter, take, length}
use Rattle.series_tables.specs.Plan.{PlanShape}
use Rattle.series_tables.specs.declared.input.Input.{Input}
use Rattle.node_compile.specs.Release.{compilation}
use Rattle.node_compile.specs.Table.{Table}
use Rattle.accounts_history.specs.History.{Sent, front_of, inputs_of, journal, party_of}
use Rattle.accounts_history.specs.declared.entry.Entry.{Entry}
use Rattle.accounts_history.specs.declared.entry.Entry.TheVariants.{Accept, Publish}
use Rattle.desk_lock.specs.Passes.{entries_by}

-- what a party sent, of what the entries accept
abbrev pub sent_by : ℕ → List Entry → List Sent
sent_by party entries = filter (λ sent. sent.party == party) (journal entries)

-- more was seen, and no entry of it is the party's
abbrev pub MadeNothing : ℕ → List Entry → List Entry → Type 0
MadeNothing party before after = (came : List Entry) × (after ≡ before ++ came) × (entries_by party_of party came ≡ [])

-- more was seen, and the party sent nothing of it
abbrev pub SentNothing : ℕ → List Entry → List Entry → Type 0
SentNothing party before after = (came : List Entry) × (after ≡ before ++ came) × (sent_by party came ≡ [])

-- more was seen, and of it the party sent one input: that of the last entry, with which the journal has so many
abbrev pub SentOne : ℕ → Input → ℕ → List Entry → List Entry → Type 0
SentOne party input number before after =
    (between : List Entry) × SentNothing party before between × (after ≡ between ++ Accept party input ∷ [])
    × (number ≡ length (journal after))

-- more was seen, and one entry of it is the party's: the last, which publishes this front
abbrev pub PublishedOne : ℕ → ℕ → List Entry → List Entry → Type 0
PublishedOne party front before after =
    (between : List Entry) × (jobs : ℕ) × MadeNothing party before between
    × (after ≡ between ++ Publish party front jobs ∷ [])

-- an input was seen that isn't published
abbrev pub IsBehind : List Entry → Type 0
IsBehind seen = front_of seen < length (journal seen)

-- all inputs that were seen are published, up to this front
abbrev pub IsWholeAt : ℕ → List Entry → Type 0
IsWholeAt front seen = (front_of seen ≡ front) × (length (journal seen) ≡ front)

-- the tables of the last release that was seen: those of the compilation from scratch of the inputs up to its front
abbrev pub released : PlanShape → List Entry → List Table
released plan seen = compilation plan (take (front_of seen) (inputs_of seen))
