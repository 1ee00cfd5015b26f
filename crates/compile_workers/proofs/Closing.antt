-- What is left when all parties were taken back.
use Rattle.std.proofs.Common.{◌≡◌, ◌∙◌, ap, sym, refl, subst, ⊎_elim, ℕ, zero, suc, ◌+◌, ◌<◌, ◌≤◌, ◌==◌, ◌||◌}
use Rattle.std.proofs.Common.{Bool}
use Rattle.std.proofs.Common.{true, false, cond, List, [], ◌∷◌, ◌++◌, reverse, Option, Some, None, arith}
use Rattle.std.proofs.Common.{eq-eqb, eqb-true, unwrap_or}
use Rattle.std.specs.Prelude.{All}
use Rattle.std.specs.List.{cons_option, range_with_len}
use Rattle.std.specs.Option.{option_map}
use Rattle.std.proofs.lemmas.List.{reverse-append}
use Rattle.std.proofs.lemmas.List.Elements.{All-cons, All-nil, All-weaker}
use Rattle.series_tables.specs.Plan.{PlanShape}
use Rattle.accounts_history.specs.History.{IsLawful, Sent, journal, party_of}
use Rattle.accounts_history.specs.declared.entry.Entry.{Entry}
use Rattle.accounts_history.specs.declared.entry.Entry.TheVariants.{Accept, Publish}
use Rattle.desk_lock.specs.Passes.{IsSameButSeen, account, entries_by, is_in, is_named}
use Rattle.desk_lock.proofs.Lists.{named-append, or_either, or_left, or_right}
use Rattle.office.specs.Gathered.{is_among}
use Rattle.office.specs.Holds.{Known}
use Rattle.office.specs.Seen.{SentNothing, sent_by}
use Rattle.compile_workers.specs.DeskEnd.{Ends, IsDeskEnd}
use Rattle.compile_workers.specs.Parties.{AreOfDesks, AreServed, Did, HasRun, HaveRun, Place, accounts_of, desk_ends_in}
use Rattle.compile_workers.specs.Parties.{ends_in, passes_in, places_with}
use Rattle.compile_workers.specs.Transcript.{of_party}
use Rattle.compile_workers.specs.declared.desk.DeskEnd.{DeskEnd}
use Rattle.compile_workers.proofs.Gathered.{AreSettled, end_grows}

-- ---- places in the other order

run-append : (plan : PlanShape) (olds news more later : List Place) → HaveRun plan olds news → HaveRun plan more later
    → HaveRun plan (olds ++ more) (news ++ later)
run-append plan [] [] more later first then = then
run-append plan [] (new ∷ news) more later first then = absurd first
run-append plan (old ∷ olds) [] more later first then = absurd first
run-append plan (old ∷ olds) (new ∷ news) more later first then =
    (first.0, run-append plan olds news more later first.1 then)

pub run-reverse : (plan : PlanShape) (olds news : List Place) → HaveRun plan olds news
    → HaveRun plan (reverse olds) (reverse news)
run-reverse plan [] [] run = tt
run-reverse plan [] (new ∷ news) run = absurd run
run-reverse plan (old ∷ olds) [] run = absurd run
run-reverse plan (old ∷ olds) (new ∷ news) run =
    subst (λ (w : List Place). HaveRun plan w (reverse (new ∷ news))) (sym (reverse-append (old ∷ []) olds))
    (subst (λ (w : List Place). HaveRun plan (reverse olds ++ old ∷ []) w) (sym (reverse-append (new ∷ []) news))
    (run-append plan (reverse olds) (reverse news) (old ∷ []) (new ∷ []) (run-reverse plan olds news run.1)
    (run.0, tt)))

-- ---- desks

-- the first passes, as many as there are ends, have the numbers from one on
abbrev pub AreNumbered : ℕ → List Known → List Ends → Type 0
AreNumbered number passes [] = Unit {0}
AreNumbered number [] (end ∷ ends) = ⊥
AreNumbered number (pass ∷ passes) (end ∷ ends) = (pass.party ≡ number) × AreNumbered (number + 1) passes ends

-- workers have no ends
pub no_ends : (plan : PlanShape) (passes : List Known) (news : List Place) → HaveRun plan (places_with passes []) news
    → (ends_in news ≡ []) × (desk_ends_in news ≡ [])
no_ends plan [] [] run = (refl, refl)
no_ends plan [] (new ∷ news) run = absurd run
no_ends plan (pass ∷ passes) [] run = absurd run
no_ends plan (pass ∷ passes) (new ∷ news) run =
    let rest = no_ends plan passes news run.1 in
    let none : new.ends ≡ None = worker new.ends run.0.did in (
      ap (λ (o : Option Ends). cons_option o (ends_in news)) none ∙ rest.0,
      ap (λ (o : Option Ends). cons_option (option_map (λ ends. new.end) o) (desk_ends_in news)) none ∙ rest.1,
    )
  where
    worker : (o : Option Ends) → Did plan run.0.given run.0.pass None o new.end → o ≡ None
    worker None did = refl
    worker (Some ends) did = absurd did

module _ (plan : PlanShape) (history : List Entry) (lawful : IsLawful plan history) where
  one_served : (number : ℕ) (given pass : Known) (old : Ends) (o : Option Ends) (end : DeskEnd) (olds news : List Ends)
      (ends : List DeskEnd) → given.party ≡ number → IsSameButSeen given pass → Did plan given pass (Some old) o end
      → SentNothing pass.party pass.seen history → AreServed plan (journal history) (number + 1) olds news ends
      → AreServed plan (journal history) number (old ∷ olds) (cons_option o news)
      (cons_option (option_map (λ told. end) o) ends)
  one_served number given pass old None end olds news ends numbered same did settled rest = absurd did
  one_served number given pass old (Some new) end olds news ends numbered same did settled rest = (
    end_grows plan number pass.seen history old new end lawful
        (subst (λ (p : ℕ). SentNothing p pass.seen history) (same.3 ∙ numbered) settled)
        (subst (λ (p : ℕ). IsDeskEnd plan p old new end (journal pass.seen)) numbered did),
    rest,
  )

  -- the desks from one on were served over the closed history
  pub served_from : (number : ℕ) (passes : List Known) (ends : List Ends) (news : List Place)
      → HaveRun plan (places_with passes ends) news → AreSettled history (passes_in news)
      → AreNumbered number passes ends → AreServed plan (journal history) number ends (ends_in news) (desk_ends_in news)
  served_from number passes [] news run settled numbered =
      let none = no_ends plan passes news run in
      subst (λ (w : List Ends). AreServed plan (journal history) number [] w (desk_ends_in news)) (sym none.0)
      (subst (λ (w : List DeskEnd). AreServed plan (journal history) number [] [] w) (sym none.1) tt)
  served_from number [] (end ∷ ends) news run settled numbered = absurd numbered
  served_from number (pass ∷ passes) (end ∷ ends) [] run settled numbered = absurd run
  served_from number (pass ∷ passes) (end ∷ ends) (new ∷ news) run settled numbered =
      let ran : HasRun plan _ new = run.0 in
      let given_is : ran.given ≡ pass = sym (ap (λ (o : Option Known). unwrap_or o pass) ran.was) in
      let both : AreSettled history (ran.pass ∷ passes_in news) =
      subst (λ (o : Option Known). AreSettled history (cons_option o (passes_in news))) ran.is settled in
      one_served number ran.given ran.pass end new.ends new.end ends (ends_in news) (desk_ends_in news)
      (ap (λ (k : Known). k.party) given_is ∙ numbered.0) ran.same ran.did both.0
      (served_from (number + 1) passes ends news run.1 both.1 numbered.1)

-- ---- who sent what

-- what a party sent is among its own entries
pub sent_own : (party : ℕ) (entries : List Entry) → sent_by party (entries_by party_of party entries)
    ≡ sent_by party entries
sent_own party [] = refl
sent_own party (Accept sender input ∷ entries) = by (sender == party) refl (sent_own party entries)
  where
    one : Sent
    one = record { party = sender; input = input }

    by : (b : Bool) → (sender == party) ≡ b → sent_by party (entries_by party_of party entries) ≡ sent_by party entries
        → sent_by party (cond b (Accept sender input ∷ entries_by party_of party entries)
        (entries_by party_of party entries))
        ≡ cond (sender == party) (one ∷ sent_by party entries) (sent_by party entries)
    by true is rest = ap (λ b. cond b (one ∷ sent_by party (entries_by party_of party entries))
        (sent_by party (entries_by party_of party entries))) is
        ∙ ap (λ (w : List Sent). one ∷ w) rest
        ∙ sym (ap (λ b. cond b (one ∷ sent_by party entries) (sent_by party entries)) is)
    by false is rest =
        rest ∙ sym (ap (λ b. cond b (one ∷ sent_by party entries) (sent_by party entries)) is)
sent_own party (Publish publisher front jobs ∷ entries) = by (publisher == party) (sent_own party entries)
  where
    by : (b : Bool) → sent_by party (entries_by party_of party entries) ≡ sent_by party entries
        → sent_by party (cond b (Publish publisher front jobs ∷ entries_by party_of party entries)
        (entries_by party_of party entries))
        ≡ sent_by party entries
    by true rest = rest
    by false rest = rest

-- where only some numbers have sent anything, each sender has one of them
pub all_among : (numbers : List ℕ) (sent : List Sent)
    → ((party : ℕ) → is_in party numbers ≡ false → of_party party sent ≡ [])
    → All (λ one. is_in one.party numbers ≡ true) sent
all_among numbers [] none = All-nil (λ (one : Sent). is_in one.party numbers ≡ true)
all_among numbers (one ∷ sent) none =
    All-cons (λ (s : Sent). is_in s.party numbers ≡ true) one sent (by (is_in one.party numbers) refl)
    (all_among numbers sent (λ party other. later party (one.party == party) (none party other)))
  where
    later : (party : ℕ) (b : Bool) → cond b (one ∷ of_party party sent) (of_party party sent) ≡ []
        → of_party party sent ≡ []
    later party true nothing = absurd (cc nothing)
    later party false nothing = nothing

    by : (b : Bool) → is_in one.party numbers ≡ b → is_in one.party numbers ≡ true
    by true is = is
    by false is =
        let nothing : one ∷ of_party one.party sent ≡ [] =
        sym (ap (λ b. cond b (one ∷ of_party one.party sent) (of_party one.party sent))
        (eq-eqb one.party one.party refl))
        ∙ none one.party is in
        absurd (cc nothing)

-- a number of a row of numbers lies within it
within_range : (first count number : ℕ) → is_in number (range_with_len first count) ≡ true
    → (first ≤ number) × (number < first + count)
within_range first zero number there = absurd (let never = there in cc)
within_range first (suc count) number there = ⊎_elim
    (λ here. let same : first ≡ number = eqb-true first number here in (omega (arith, same), omega (arith, same)))
    (λ later. let rest = within_range (first + 1) count number later.1 in
    (omega (arith, rest.0), omega (arith, rest.1)))
    (or_either (first == number) (is_in number (range_with_len (first + 1) count)) there)

pub of_desks : (desks : ℕ) (sent : List Sent) → All (λ one. is_in one.party (range_with_len 1 desks) ≡ true) sent
    → AreOfDesks desks sent
of_desks desks sent among = All-weaker (λ (s : Sent). is_in s.party (range_with_len 1 desks) ≡ true)
    (λ (s : Sent). (1 ≤ s.party) × (s.party ≤ desks))
    (λ s there. let within = within_range 1 desks s.party there in (within.0, omega (arith, within.1))) sent among

-- ---- the last pass

-- who is among passes is named in what they account for
pub among_named : (party : ℕ) (passes : List Known) → is_among party passes ≡ true
    → is_named party (accounts_of passes) ≡ true
among_named party [] among = absurd (let never = among in cc)
among_named party (pass ∷ passes) among =
    named-append party (account party_of pass) (accounts_of passes)
    ∙ ⊎_elim
    (λ here. or_left (is_named party (account party_of pass)) (is_named party (accounts_of passes)) here)
    (λ later. or_right (is_named party (account party_of pass)) (is_named party (accounts_of passes))
    (among_named party passes later.1))
    (or_either ((pass.party == party) || is_named party pass.ended) (is_among party passes) among)
