-- The passes with which an office opens.
use Rattle.std.proofs.Common.{◌≡◌, ◌∙◌, ap, sym, refl, ℕ, zero, suc, ◌+◌, ◌-◌, ◌≤◌, ◌==◌, Bool, true, false, ◌||◌, List, [], ◌∷◌, ◌++◌, map, reverse, arith, append_assoc, ne_eqb, Some}
use Rattle.std.specs.List.{range_with_len}
use Rattle.std.proofs.lemmas.List.{map-append, reverse-append}
use Rattle.series_tables.specs.Plan.{PlanShape}
use Rattle.desk_lock.specs.Passes.{IsFreeFrom, IsNewcomer, IsSameButGiven, LockName, first_pass, is_in}
use Rattle.office.specs.Holds.{Known}
use Rattle.office.specs.Opening.{AddsPasses, first_passes, given_pass, knowing_pass, new_pass, other_parties}

-- one number more
range_more : (first count : ℕ) → range_with_len first (suc count) ≡ range_with_len first count ++ (first + count) ∷ []
range_more first zero = let same : first ≡ first + 0 = omega arith in ap (λ (n : ℕ). n ∷ []) same
range_more first (suc count) =
    let next : first + 1 + count ≡ first + suc count = omega arith in
    ap (λ (ns : List ℕ). first ∷ ns) (range_more (first + 1) count ∙ ap (λ (n : ℕ). range_with_len (first + 1) count ++ n ∷ []) next)

-- a pass from which another was split, and the other one, as a whole
giving_is : (party : ℕ) (before after : Known) → IsSameButGiven party before after → after ≡ record before { given = party ∷ before.given }
giving_is party before after same i = record {
  lock = same.0 i;
  live = same.1 i;
  label = same.2 i;
  party = same.3 i;
  seen = same.4 i;
  ended = same.5 i;
  gives = same.6 i;
  given = same.7 i;
}

newcomer_is : (party : ℕ) (before other : Known) → IsNewcomer party before other → other ≡ given_pass before party
newcomer_is party before other new i = record {
  lock = new.0 i;
  live = new.1 i;
  label = new.2 i;
  party = new.3 i;
  seen = new.4 i;
  ended = new.5 i;
  gives = new.6 i;
  given = new.7 i;
}

-- one party more
pub adds_more : (first count : ℕ) (before after next other : Known) (passes now : List Known) → AddsPasses (range_with_len first count) before passes after now
    → IsSameButGiven (first + count) after next → IsNewcomer (first + count) after other → AddsPasses (range_with_len first (suc count)) before passes next (now ++ other ∷ [])
adds_more first count before after next other passes now adds giving new = (knows, stands)
  where
    party : ℕ
    party = first + count

    parties : List ℕ
    parties = range_with_len first count

    turned : reverse (range_with_len first (suc count)) ≡ party ∷ reverse parties
    turned = ap (λ (ns : List ℕ). reverse ns) (range_more first count) ∙ reverse-append parties (party ∷ [])

    knows : next ≡ record before { given = reverse (range_with_len first (suc count)) ++ before.given }
    knows = giving_is party after next giving
        ∙ ap (λ (k : Known). record k { given = party ∷ k.given }) adds.0
        ∙ ap (λ (ns : List ℕ). record before { given = ns ++ before.given }) (sym turned)

    one : other ≡ given_pass before party
    one = newcomer_is party after other new ∙ ap (λ (k : Known). given_pass k party) adds.0

    stands : now ++ other ∷ [] ≡ passes ++ map (given_pass before) (range_with_len first (suc count))
    stands = ap (λ (ks : List Known). ks ++ other ∷ []) adds.1
        ∙ append_assoc passes (map (given_pass before) parties) (other ∷ [])
        ∙ ap (λ (k : Known). passes ++ (map (given_pass before) parties ++ k ∷ [])) one
        ∙ ap (λ (ks : List Known). passes ++ ks) (sym (map-append (given_pass before) parties (party ∷ [])))
        ∙ ap (λ (ns : List ℕ). passes ++ map (given_pass before) ns) (sym (range_more first count))

-- no party yet
pub adds_none : (first : ℕ) (before : Known) (passes : List Known) → AddsPasses (range_with_len first 0) before passes before (passes)
adds_none first before passes = (refl, sym (append_nil_of passes))
  where
    append_nil_of : (ks : List Known) → ks ++ [] ≡ ks
    append_nil_of [] = refl
    append_nil_of (k ∷ ks) = ap (λ (rest : List Known). k ∷ rest) (append_nil_of ks)

-- the parties from the next one on are still free
pub free_on : (party : ℕ) (before after : Known) → IsFreeFrom party before → IsSameButGiven party before after → IsFreeFrom (party + 1) after
free_on party before after free giving = (
  giving.6 ∙ free.0,
  λ other above.
      ap (is_in other) giving.7
      ∙ ap (λ (b : Bool). b || is_in other before.given) (let apart : party == other ≡ false = ne_eqb party other (λ same. absurd (omega (arith, same, above))) in apart)
      ∙ free.1 other (omega (arith, above)),
)

pub free_from : (low high : ℕ) (pass : Known) → low ≤ high → IsFreeFrom low pass → IsFreeFrom high pass
free_from low high pass within free = (free.0, λ other above. free.1 other (omega (arith, within, above)))

pub free_first : (lock : LockName) (plan : PlanShape) (pass : Known) → pass ≡ first_pass lock plan 1 → IsFreeFrom 2 pass
free_first lock plan pass is = (
  ap (λ (k : Known). k.gives) is,
  λ other above.
      ap (λ (k : Known). is_in other k.given) is
      ∙ ap (λ (b : Bool). b || false) (let apart : 1 == other ≡ false = ne_eqb 1 other (λ same. absurd (omega (arith, same, above))) in apart),
)

-- the desks' passes and then the workers'
pub opens : (lock : LockName) (plan : PlanShape) (desks workers : ℕ) (first one two : Known) (some all : List Known) → first ≡ first_pass lock plan 1
    → AddsPasses (range_with_len 2 (desks - 1)) first [] one some → AddsPasses (range_with_len 17 workers) one some two all → two ∷ all ≡ first_passes lock plan desks workers
opens lock plan desks workers first one two some all is adds more =
    ap (λ (k : Known). k ∷ all) knows ∙ ap (λ (ks : List Known). knowing_pass lock plan (other_parties desks workers) ∷ ks) stands
  where
    ds : List ℕ
    ds = range_with_len 2 (desks - 1)

    ws : List ℕ
    ws = range_with_len 17 workers

    knows : two ≡ knowing_pass lock plan (other_parties desks workers)
    knows = more.0
        ∙ ap (λ (k : Known). record k { given = reverse ws ++ k.given }) (adds.0 ∙ ap (λ (k : Known). record k { given = reverse ds ++ k.given }) is)
        ∙ ap (λ (ns : List ℕ). knowing_with ns) (sym (append_assoc (reverse ws) (reverse ds) (1 ∷ [])) ∙ ap (λ (ns : List ℕ). ns ++ 1 ∷ []) (sym (reverse-append ds ws)))
      where
        knowing_with : List ℕ → Known
        knowing_with ns = record { lock = lock; live = true; label = Some plan; party = 1; seen = []; ended = []; gives = true; given = ns }

    stands : all ≡ map (new_pass lock plan) (other_parties desks workers)
    stands = more.1
        ∙ ap (λ (ks : List Known). ks ++ map (given_pass one) ws) (adds.1 ∙ ap (λ (k : Known). map (given_pass k) ds) is)
        ∙ ap (λ (k : Known). map (new_pass lock plan) ds ++ map (given_pass k) ws) (adds.0 ∙ ap (λ (k : Known). record k { given = reverse ds ++ k.given }) is)
        ∙ sym (map-append (new_pass lock plan) ds ws)
