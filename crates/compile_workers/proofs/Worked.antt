-- Worked transcripts, computed on the definitions: a desk whose sink breaks, a silent desk, and two desks over one
-- journal. A definition that is changed by mistake is refused here.
use Rattle.std.proofs.Common.{◌≡◌, refl, inl, ℕ, ◌+◌, List, [], ◌∷◌, take, drop, Some}
use Rattle.std.proofs.Common.{None}
use Rattle.std.proofs.Common.{Result, Ok, Err, arith}
use Rattle.std.specs.Prelude.{pos, codes}
use Rattle.std.specs.Fmt.{digits}
use Rattle.series_tables.specs.Plan.{PlanShape}
use Rattle.series_tables.specs.declared.input.Input.{Input}
use Rattle.series_tables.specs.declared.input.Kind.TheVariants.{Benchmark, Indicator}
use Rattle.input_rules.specs.Requests.{Asked, input, release, release_of, certificate_of, sync}
use Rattle.input_rules.specs.declared.lines.Cause.{Cause}
use Rattle.input_rules.specs.declared.lines.Cause.TheVariants.{Form, Long, Range, Unknown, Zero}
use Rattle.accounts_history.specs.History.{Sent}
use Rattle.compile_workers.specs.Served.{answer_text, answers_text}
use Rattle.compile_workers.specs.Transcript.{Answer, refused, accepted, shown, certificate_shown, synced}
use Rattle.compile_workers.specs.Transcript.{AnswersAll, HasNoneAfter, IsNext}
use Rattle.compile_workers.specs.Transcript.{after_all, at_first}

-- one leaf
abbrev food_plan : PlanShape
food_plan = record { start = 2021; reference = 0; names = codes "FOOD" ∷ []; parents = None ∷ [] }

-- two leaves under a total
abbrev three_plan : PlanShape
three_plan = record {
  start = 2021;
  reference = 1;
  names = codes "TOTAL" ∷ codes "FOOD" ∷ codes "SERV" ∷ [];
  parents = None ∷ Some 0 ∷ Some 0 ∷ [];
}

-- an indicator as a line spells it, and as it is accepted
abbrev indicator : List ℕ → ℕ → ℕ → Result Asked Cause
indicator name quarter value =
    Ok (input (record { kind = Indicator; name = name; period = Some quarter; value = pos value }))

-- an accepted indicator of a leaf
abbrev indicator_of : ℕ → ℕ → ℕ → Input
indicator_of leaf quarter value = record { kind = Indicator; leaf = leaf; period = quarter; value = pos value }

-- an input that a desk sent
abbrev sent_by_desk : ℕ → Input → Sent
sent_by_desk desk i = record { party = desk; input = i }

-- ---- one desk alone: four indicators, a benchmark and a release

-- what its lines ask for
abbrev year_questions : List (Result Asked Cause)
year_questions =
    indicator (codes "FOOD") 0 100
    ∷ indicator (codes "FOOD") 1 100
    ∷ indicator (codes "FOOD") 2 100
    ∷ indicator (codes "FOOD") 3 100
    ∷ Ok (input (record { kind = Benchmark; name = codes "FOOD"; period = Some 0; value = pos 1000 }))
    ∷ Ok release
    ∷ []

-- what the journal then has
abbrev year_journal : List Sent
year_journal =
    sent_by_desk 1 (indicator_of 0 0 100)
    ∷ sent_by_desk 1 (indicator_of 0 1 100)
    ∷ sent_by_desk 1 (indicator_of 0 2 100)
    ∷ sent_by_desk 1 (indicator_of 0 3 100)
    ∷ sent_by_desk 1 (record { kind = Benchmark; leaf = 0; period = 0; value = pos 1000 })
    ∷ []

-- what it is answered
abbrev year_answers : List Answer
year_answers = accepted 1 ∷ accepted 2 ∷ accepted 3 ∷ accepted 4 ∷ accepted 5 ∷ shown 5 ∷ []

-- the n-th input of a journal of one desk is the next one
abbrev nth : ℕ → Input → List Sent → Type 0
nth own i journal = IsNext 1 i own (own + 1) journal

-- the first indicator is the first of the journal
first_next : nth 0 (indicator_of 0 0 100) year_journal
first_next = record {
  before = [];
  later = drop 1 year_journal;
  stands = refl;
  counted = refl;
  above = omega arith;
  none_between = refl;
}

-- and the second one the second
second_next : nth 1 (indicator_of 0 1 100) year_journal
second_next = record {
  before = take 1 year_journal;
  later = drop 2 year_journal;
  stands = refl;
  counted = refl;
  above = omega arith;
  none_between = refl;
}

-- and the third one the third
third_next : nth 2 (indicator_of 0 2 100) year_journal
third_next = record {
  before = take 2 year_journal;
  later = drop 3 year_journal;
  stands = refl;
  counted = refl;
  above = omega arith;
  none_between = refl;
}

-- and the fourth one the fourth
fourth_next : nth 3 (indicator_of 0 3 100) year_journal
fourth_next = record {
  before = take 3 year_journal;
  later = drop 4 year_journal;
  stands = refl;
  counted = refl;
  above = omega arith;
  none_between = refl;
}

-- and the benchmark the fifth
fifth_next : nth 4 (record { kind = Benchmark; leaf = 0; period = 0; value = pos 1000 }) year_journal
fifth_next = record {
  before = take 4 year_journal;
  later = [];
  stands = refl;
  counted = refl;
  above = omega arith;
  none_between = refl;
}

-- each line has its answer
year_answered : AnswersAll food_plan 1 year_journal at_first year_questions year_answers
year_answered = (
  inl (1, refl, omega arith, first_next),
  (
    inl (2, refl, omega arith, second_next),
    (
      inl (3, refl, omega arith, third_next),
      (
        inl (4, refl, omega arith, fourth_next),
        (
          inl (5, refl, omega arith, fifth_next),
          (
            (
              5,
              refl,
              record { no_older = omega arith; exists = omega arith; near = omega arith },
            ),
            tt,
          ),
        ),
      ),
    ),
  ),
)

-- nothing of the desk stands behind its last input
year_ends : HasNoneAfter 1 (after_all at_first year_answers).own year_journal
year_ends = refl

-- the transcript begins with the numbers, 25 bytes, so what a sink has that breaks within 30 bytes is a beginning of it
year_begins : (inputs : List Input)
    → answers_text food_plan inputs (accepted 1 ∷ accepted 2 ∷ accepted 3 ∷ accepted 4 ∷ accepted 5 ∷ [])
    ≡ codes "ok,1\nok,2\nok,3\nok,4\nok,5\n"
unfolding digits
year_begins inputs = refl

-- a desk that says nothing is answered nothing
silent_answered : AnswersAll food_plan 1 [] at_first [] []
silent_answered = tt

-- ---- two desks over one journal, of which each was accepted two

-- what the two sent, in the order of the journal
abbrev both_journal : List Sent
both_journal =
    sent_by_desk 1 (indicator_of 1 0 100)
    ∷ sent_by_desk 2 (indicator_of 2 0 200)
    ∷ sent_by_desk 2 (indicator_of 2 1 210)
    ∷ sent_by_desk 1 (indicator_of 1 1 110)
    ∷ []

-- the first one waits until its own are published, and is shown no older release
first_desk : AnswersAll three_plan 1 both_journal at_first
    (indicator (codes "FOOD") 0 100 ∷ indicator (codes "FOOD") 1 110 ∷ Ok sync ∷ Ok release ∷ [])
    (accepted 1 ∷ accepted 4 ∷ synced 4 ∷ shown 4 ∷ [])
first_desk = (
  inl (
    1,
    refl,
    omega arith,
    record {
      before = [];
      later = drop 1 both_journal;
      stands = refl;
      counted = refl;
      above = omega arith;
      none_between = refl;
    },
  ),
  (
    inl (
      4,
      refl,
      omega arith,
      record {
        before = take 3 both_journal;
        later = [];
        stands = refl;
        counted = refl;
        above = omega arith;
        none_between = refl;
      },
    ),
    (
      (
        4,
        refl,
        record { no_older = omega arith; published = omega arith; exists = omega arith },
      ),
      (
        (
          4,
          refl,
          record { no_older = omega arith; exists = omega arith; near = omega arith },
        ),
        tt,
      ),
    ),
  ),
)

-- the second one may be shown an earlier front than its own last input
second_desk : AnswersAll three_plan 2 both_journal at_first
    (indicator (codes "SERV") 0 200 ∷ indicator (codes "SERV") 1 210 ∷ Ok release ∷ Ok
    (certificate_of (codes "SERV")) ∷ [])
    (accepted 2 ∷ accepted 3 ∷ shown 1 ∷ certificate_shown 4 2 ∷ [])
second_desk = (
  inl (
    2,
    refl,
    omega arith,
    record {
      before = take 1 both_journal;
      later = drop 2 both_journal;
      stands = refl;
      counted = refl;
      above = omega arith;
      none_between = refl;
    },
  ),
  (
    inl (
      3,
      refl,
      omega arith,
      record {
        before = take 2 both_journal;
        later = drop 3 both_journal;
        stands = refl;
        counted = refl;
        above = omega arith;
        none_between = refl;
      },
    ),
    (
      (
        1,
        refl,
        record { no_older = omega arith; exists = omega arith; near = omega arith },
      ),
      (
        (
          4,
          refl,
          record { no_older = omega arith; exists = omega arith; near = omega arith },
        ),
        tt,
      ),
    ),
  ),
)

-- the first desk's refusals, in order: no leaf, a total, an indicator of 0, a value and a period out of range
named_refusals : (journal : List Sent) → AnswersAll three_plan 1 journal at_first
    (indicator (codes "RENT") 0 5 ∷ indicator (codes "TOTAL") 0 5 ∷ indicator (codes "FOOD") 0 0
    ∷ indicator (codes "FOOD") 0 1000000001 ∷ Err Form ∷ Err Long ∷ Ok (release_of (codes "RENT"))
    ∷ Ok (certificate_of (codes "TOTAL")) ∷ [])
    (refused Unknown ∷ refused Unknown ∷ refused Zero ∷ refused Range ∷ refused Form ∷ refused Long ∷ refused Unknown
    ∷ refused Unknown ∷ [])
named_refusals journal = (refl, (refl, (refl, (refl, (refl, (refl, (refl, (refl, tt))))))))

-- ---- texts

-- a refusal, as it is spelled
refused_text : (inputs : List Input) → answer_text food_plan inputs (refused Unknown) ≡ codes "no,unknown\n"
refused_text inputs = refl

-- the greatest number of an input, as it is spelled
accepted_text : (inputs : List Input) → answer_text food_plan inputs (accepted 262144) ≡ codes "ok,262144\n"
unfolding digits
accepted_text inputs = refl

-- the published front before the first release, as it is spelled
synced_text : (inputs : List Input) → answer_text food_plan inputs (synced 0) ≡ codes "synced,0\n"
unfolding digits
synced_text inputs = refl
