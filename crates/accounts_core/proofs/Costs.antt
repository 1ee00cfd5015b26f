-- The steps of the jobs that are left, and how many they are.
use Rattle.std.proofs.Common.{◌≡◌, ◌∙◌, ap, sym, refl, subst, inl, inr, ℕ, zero, suc, ◌+◌, ◌≤◌, ◌<◌, Bool, true, false, cond, List, [], ◌∷◌, length, map, get_or, arith}
use Rattle.std.specs.Prelude.{◌≢◌, slice_set, sum_by, count_by}
use Rattle.std.specs.List.{range_with_len}
use Rattle.std.proofs.Math.ListN.{length-set}
use Rattle.std.proofs.lemmas.Bool.{cases_eq, cases_lt}
use Rattle.std.proofs.lemmas.List.{get_or-set_same, get_or-set_other, get_or_past}
use Rattle.std.proofs.lemmas.List.Sums.{sum_by-cons, sum_by-le-sum_by}
use Rattle.dirty_plan.specs.Round.{is_left, is_unfinished, state_of}
use Rattle.dirty_plan.specs.declared.job.JobState.{JobState}
use Rattle.dirty_plan.specs.declared.job.JobState.TheVariants.{Clean, Done}

-- two sums over a range behind the one number at which they may differ
sum_by-past : (f g : ℕ → ℕ) (k first count : ℕ) → k < first → ((item : ℕ) → item ≢ k → f item ≡ g item)
    → sum_by f (range_with_len first count) ≡ sum_by g (range_with_len first count)
sum_by-past f g k first zero before same = refl
sum_by-past f g k first (suc count) before same =
    let head : f first ≡ g first = same first (λ e. omega (arith, before, e)) in
    let tail : sum_by f (range_with_len (first + 1) count) ≡ sum_by g (range_with_len (first + 1) count) = sum_by-past f g k (first + 1) count (omega arith) same in
    sum_by-cons f first (range_with_len (first + 1) count) ∙ ap (λ (n : ℕ). n + sum_by f (range_with_len (first + 1) count)) head ∙ ap (λ (n : ℕ). g first + n) tail ∙ sym (sum_by-cons g first (range_with_len (first + 1) count))

-- two sums over a range that differ at one number alone
sum_by-but_one : (f g : ℕ → ℕ) (k first count : ℕ) → first ≤ k → k < first + count → ((item : ℕ) → item ≢ k → f item ≡ g item)
    → sum_by f (range_with_len first count) + g k ≡ sum_by g (range_with_len first count) + f k
sum_by-but_one f g k first zero from below same = absurd (omega arith)
sum_by-but_one f g k first (suc count) from below same = elim (cases_eq first k) [
  | inl here ↦
      let tail : sum_by f (range_with_len (first + 1) count) ≡ sum_by g (range_with_len (first + 1) count) = sum_by-past f g k (first + 1) count (omega (arith, here)) same in
      let one : f first ≡ f k = ap f here in
      let two : g first ≡ g k = ap g here in
      omega (arith, sum_by-cons f first (range_with_len (first + 1) count), sum_by-cons g first (range_with_len (first + 1) count), tail, one, two)
  | inr other ↦
      let tail : sum_by f (range_with_len (first + 1) count) + g k ≡ sum_by g (range_with_len (first + 1) count) + f k = sum_by-but_one f g k (first + 1) count (omega (arith, other)) (omega arith) same in
      let head : f first ≡ g first = same first other in
      omega (arith, sum_by-cons f first (range_with_len (first + 1) count), sum_by-cons g first (range_with_len (first + 1) count), tail, head)
]

-- what is left costs so much
abbrev pub cost_of : (ℕ → ℕ) → List JobState → ℕ → ℕ
cost_of cost jobs item = cond (is_left jobs item) (cost item) 0

-- one job that is left is done
pub cost_done : (cost : ℕ → ℕ) (jobs : List JobState) (k count : ℕ) → k < count → k < length jobs → is_left jobs k ≡ true
    → sum_by (cost_of cost (slice_set jobs k Done)) (range_with_len 0 count) + cost k ≡ sum_by (cost_of cost jobs) (range_with_len 0 count)
cost_done cost jobs k count inside within left =
    let here : cost_of cost (slice_set jobs k Done) k ≡ 0 = ap (λ (s : JobState). cond (is_unfinished s) (cost k) 0) (get_or-set_same jobs k Done Clean within) in
    let was : cost_of cost jobs k ≡ cost k = ap (λ (b : Bool). cond b (cost k) 0) left in
    let both = sum_by-but_one (cost_of cost (slice_set jobs k Done)) (cost_of cost jobs) k 0 count (omega arith) (omega (arith, inside))
    (λ item other. ap (λ (s : JobState). cond (is_unfinished s) (cost item) 0) (get_or-set_other jobs k item Done Clean other)) in
    omega (arith, both, here, was)

-- an item whose job is left is one of all
pub left_within : (jobs : List JobState) (item : ℕ) → is_left jobs item ≡ true → item < length jobs
left_within jobs item left = elim (cases_lt item (length jobs)) [
  | inl below ↦ below
  | inr past ↦ absurd (let none : is_left jobs item ≡ false = ap is_unfinished (get_or_past jobs item Clean past) in let never : true ≡ false = sym left ∙ none in cc)
]

-- a job counts where it isn't done
abbrev unfinished_one : JobState → ℕ
unfinished_one s = cond (is_unfinished s) 1 0

-- one job fewer is left
pub count_done : (jobs : List JobState) (k : ℕ) → is_left jobs k ≡ true → suc (count_by is_unfinished (slice_set jobs k Done)) ≡ count_by is_unfinished jobs
count_done [] k left = absurd (cc)
count_done (j ∷ jobs) zero left =
    let one : unfinished_one j ≡ 1 = by (is_unfinished j) left in
    omega (arith, sum_by-cons (unfinished_one) Done jobs, sum_by-cons (unfinished_one) j jobs, one)
  where
    by : (b : Bool) → b ≡ true → (let n : ℕ = cond b 1 0 in n) ≡ 1
    by true e = refl
    by false e = absurd (cc)
count_done (j ∷ jobs) (suc k) left =
    let more = count_done jobs k left in
    omega (arith, sum_by-cons (unfinished_one) j (slice_set jobs k Done), sum_by-cons (unfinished_one) j jobs, more)

-- a sum over all that is left is at most one over all that is touched, where what is left is touched
pub cost_touched : (cost : ℕ → ℕ) (jobs : List JobState) (touched : ℕ → Bool) (items : List ℕ) → ((item : ℕ) → is_left jobs item ≡ true → touched item ≡ true)
    → sum_by (cost_of cost jobs) items ≤ sum_by (λ item. cond (touched item) (cost item) 0) items
cost_touched cost jobs touched items some = sum_by-le-sum_by (cost_of cost jobs) (λ item. cond (touched item) (cost item) 0) items (λ item. by item (is_left jobs item) refl)
  where
    by : (item : ℕ) (b : Bool) → is_left jobs item ≡ b → cond b (cost item) 0 ≤ cond (touched item) (cost item) 0
    by item false e = omega arith
    by item true e = let all : cond (touched item) (cost item) 0 ≡ cost item = ap (λ (b : Bool). cond b (cost item) 0) (some item e) in omega (arith, all)
