-- Lists item by item, and an item's state where one job stands elsewhere.
use Rattle.std.proofs.Common.{◌≡◌, ◌∙◌, ap, sym, refl, inl, inr, ℕ, zero, suc, ◌+◌, ◌<◌, Bool, true, false, List, [], ◌∷◌, ◌++◌, length, map, take, replicate, get_or, Option, Some, None, arith}
use Rattle.std.specs.Prelude.{slice_get, slice_set}
use Rattle.std.specs.List.{range_with_len}
use Rattle.std.proofs.lemmas.Bool.{cases_lt}
use Rattle.std.proofs.lemmas.List.{get_or_past, take_all}
use Rattle.dirty_plan.specs.Round.{is_job, state_of}
use Rattle.dirty_plan.specs.declared.job.JobState.{JobState}
use Rattle.dirty_plan.specs.declared.job.JobState.TheVariants.{Clean}
use Rattle.vintage_board.specs.Board.{put_over, staged_or}

-- what is there is within
pub there : {X : Type 0} (xs : List X) (k : ℕ) (x : X) → slice_get xs k ≡ Some x → k < length xs
there [] k x at = absurd (cc)
there (y ∷ xs) zero x at = omega arith
there (y ∷ xs) (suc k) x at = let more = there xs k x at in omega arith

-- an element of a list that is made, place by place, of numbers
pub made_at : {X Y : Type 0} (f : X → Y) (g : ℕ → Y) (first count : ℕ) (xs : List X) (k : ℕ) (x : X) → map f xs ≡ map g (range_with_len first count) → slice_get xs k ≡ Some x → f x ≡ g (first + k)
made_at f g first count [] k x e at = absurd (cc)
made_at f g first zero (y ∷ xs) k x e at = absurd (cc)
made_at f g first (suc count) (y ∷ xs) zero x e at =
    let same : y ≡ x = cc in
    let head : f y ≡ g first = cc in
    let none : first ≡ first + 0 = omega arith in
    ap f (sym same) ∙ head ∙ ap g none
made_at f g first (suc count) (y ∷ xs) (suc k) x e at =
    let tail : map f xs ≡ map g (range_with_len (first + 1) count) = cc in
    let next : first + 1 + k ≡ first + suc k = omega arith in
    made_at f g (first + 1) count xs k x tail at ∙ ap g next

-- what is shown once the staged tables are
pub put_made : {X Y : Type 0} (f : X → Y) (g : ℕ → Y) (first : ℕ) (ys : List (Option X)) (xs : List X) → length ys ≡ length xs → ((k : ℕ) (x : X) → slice_get xs k ≡ Some x → f (staged_or (get_or ys k None) x) ≡ g (first + k))
    → map f (put_over ys xs) ≡ map g (range_with_len first (length xs))
put_made f g first [] [] same each = refl
put_made f g first [] (x ∷ xs) same each = absurd (omega arith)
put_made f g first (y ∷ ys) [] same each = absurd (omega arith)
put_made {Y = Y} f g first (y ∷ ys) (x ∷ xs) same each =
    let none : first + 0 ≡ first = omega arith in
    let head : f (staged_or y x) ≡ g first = each 0 x refl ∙ ap g none in
    ap (λ (z : Y). z ∷ map f (put_over ys xs)) head
    ∙ ap (λ (zs : List Y). g first ∷ zs) (put_made f g (first + 1) ys xs (omega arith) (λ k z at. each (suc k) z at ∙ (let next : first + suc k ≡ first + 1 + k = omega arith in ap g next)))

pub length-put_over : {X : Type 0} (ys : List (Option X)) (xs : List X) → length ys ≡ length xs → length (put_over ys xs) ≡ length xs
length-put_over [] [] same = refl
length-put_over [] (x ∷ xs) same = absurd (omega arith)
length-put_over (y ∷ ys) [] same = absurd (omega arith)
length-put_over (y ∷ ys) (x ∷ xs) same = ap suc (length-put_over ys xs (omega arith))

pub length-none : (X : Type 0) (n : ℕ) → length (replicate {A = Option X} n None) ≡ n
length-none X zero = refl
length-none X (suc n) = ap suc (length-none X n)

-- nothing stands among so many that are none
pub none_at : (X : Type 0) (n k : ℕ) → get_or (replicate {A = Option X} n None) k None ≡ None
none_at X zero k = refl
none_at X (suc n) zero = refl
none_at X (suc n) (suc k) = none_at X n k

-- an item's job among all, by whether it is one
pub job_at : (jobs : List JobState) (k : ℕ) → k < length jobs → is_job (state_of jobs k) ≡ get_or (map is_job jobs) k false
job_at [] k within = absurd (omega arith)
job_at (j ∷ jobs) zero within = refl
job_at (j ∷ jobs) (suc k) within = job_at jobs k (omega arith)

-- an item with a job is one of all
pub within_jobs : (jobs : List JobState) (item : ℕ) (state : JobState) → state_of jobs item ≡ state → is_job state ≡ true → item < length jobs
within_jobs jobs item state e job = elim (cases_lt item (length jobs)) [
  | inl below ↦ below
  | inr past ↦ absurd (let none : state_of jobs item ≡ Clean = get_or_past jobs item Clean past in let never : is_job Clean ≡ true = ap is_job (sym none ∙ e) ∙ job in cc)
]

-- one more of the shown tables
pub one_more : {X Y : Type 0} (f : X → Y) (xs shown : List X) (n : ℕ) (node clone : X) → map f xs ≡ take n (map f shown) → slice_get shown n ≡ Some node → f clone ≡ f node → map f (xs ++ clone ∷ []) ≡ take (suc n) (map f shown)
one_more f xs [] n node clone so_far at same = absurd (cc)
one_more {Y = Y} f [] (s ∷ shown) zero node clone so_far at same = (let e : s ≡ node = cc in ap (λ (t : Y). t ∷ []) (same ∙ ap f (sym e)))
one_more f (x ∷ xs) (s ∷ shown) zero node clone so_far at same = absurd (cc)
one_more f [] (s ∷ shown) (suc n) node clone so_far at same = absurd (cc)
one_more {Y = Y} f (x ∷ xs) (s ∷ shown) (suc n) node clone so_far at same =
    let head : f x ≡ f s = cc in
    let tail : map f xs ≡ take n (map f shown) = cc in
    ap (λ (t : Y). t ∷ map f (xs ++ clone ∷ [])) head ∙ ap (λ (ts : List Y). f s ∷ ts) (one_more f xs shown n node clone tail at same)

pub take_whole : {X : Type 0} (xs : List X) (n : ℕ) → length xs ≡ n → take n xs ≡ xs
take_whole xs n same = take_all n xs (omega (arith, same))
