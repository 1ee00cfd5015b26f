-- The text of a journal: the accepted inputs as lines of an input, each with the number of the desk that sent it.
use Rattle.std.specs.Prelude.{ℕ, ◌+◌, List, [], ◌∷◌, ◌++◌, codes, decimal}
use Rattle.std.specs.Fmt.{signed_decimal}
use Rattle.period_keys.specs.Period.{quarter_text, year_text}
use Rattle.series_tables.specs.Plan.{PlanShape}
use Rattle.series_tables.specs.declared.input.Kind.{Kind}
use Rattle.series_tables.specs.declared.input.Kind.TheVariants.{Indicator, Benchmark, Price}
use Rattle.cert_read.specs.Content.{quarter_from}
use Rattle.accounts_history.specs.History.{Sent, journal}
use Rattle.accounts_history.specs.declared.entry.Entry.{Entry}
use Rattle.release_print.specs.Line.{line_text, name_of}

-- the word of a kind
abbrev pub kind_word : Kind → List ℕ
kind_word Indicator = codes "ind"
kind_word Benchmark = codes "bench"
kind_word Price = codes "price"

-- the text of a period counted from the start year: a year for a benchmark, and else a quarter
abbrev pub period_text : Kind → ℕ → ℕ → List ℕ
period_text Indicator start period = quarter_text (quarter_from start period)
period_text Benchmark start period = year_text (start + period)
period_text Price start period = quarter_text (quarter_from start period)

-- the line of an input that a desk sent: its kind, its item's name, its period, its value, and the desk's number
abbrev pub sent_line : PlanShape → Sent → List ℕ
sent_line plan sent = line_text (kind_word sent.input.kind)
    (name_of plan.names sent.input.leaf
    ∷ period_text sent.input.kind plan.start sent.input.period
    ∷ signed_decimal sent.input.value
    ∷ decimal sent.party
    ∷ [])

-- the lines of inputs
abbrev pub sent_lines : PlanShape → List Sent → List ℕ
sent_lines plan [] = []
sent_lines plan (sent ∷ later) = sent_line plan sent ++ sent_lines plan later

-- the text of the journal of a history: a line for each accepted input, in order
unfoldable pub journal_text : PlanShape → List Entry → List ℕ
journal_text plan history = sent_lines plan (journal history)
