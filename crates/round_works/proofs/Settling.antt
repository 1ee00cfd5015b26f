-- The sum of an item's settled children once one more is.
use Rattle.std.proofs.Common.{◌≡◌, ◌∙◌, inl, inr, ◌||◌, ap, sym, refl, subst, ℕ, zero, suc, ◌+◌, ◌<◌, ◌≤◌, ℤ, pos, ◌+ℤ◌, Bool, true, false, cond, ◌&&◌, max, nat_lt, List, [], ◌∷◌, length, map, get_or, Option, Some, None, arith}
use Rattle.std.specs.Prelude.{slice_get, slice_set, not}
use Rattle.std.proofs.Math.IntN.{+ℤ_comm, +ℤ_assoc}
use Rattle.std.specs.List.{list_any}
use Rattle.std.proofs.lemmas.Bool.{cases_lt, lt-ltb, le-ltb}
use Rattle.series_tables.specs.Tree.{of_children}
use Rattle.aggregate_tree.specs.Leaves.{longest, added}
use Rattle.aggregate_tree.specs.Tallies.{tally_of, tally_at, with_cell, with_cells, IsSumOf, is_reached, cells_of}
use Rattle.aggregate_tree.specs.declared.tally.Tally.{Tally}
use Rattle.aggregate_tree.proofs.Counts.{with_cell-tally_of, is_reached-tally_of, cells_of_sum}
use Rattle.aggregate_tree.proofs.Places.{sum_more}
use Rattle.price_base.specs.declared.Cell.{Cell}
use Rattle.price_base.specs.declared.Cell.TheVariants.{Missing, Value, NoBase, NoLink, Range}
use Rattle.series_tables.specs.Plan.{is_parent}
use Rattle.dirty_plan.specs.Round.{is_unfinished}
use Rattle.dirty_plan.specs.declared.job.JobState.{JobState}
use Rattle.dirty_plan.specs.declared.job.JobState.TheVariants.{Clean, Waiting, Out, Done}
use Rattle.round_works.specs.Making.{settled}

-- of three numbers the first two can change places
swap_sum : (v w s : ℤ) → v +ℤ (w +ℤ s) ≡ w +ℤ (v +ℤ s)
swap_sum v w s = sym (+ℤ_assoc v w s) ∙ ap (λ (z : ℤ). z +ℤ s) (+ℤ_comm v w) ∙ +ℤ_assoc w v s

-- the order in which two cells are added is of no matter
pub with_cell_swap : (one two : Option Cell) (tally : Tally) → with_cell one (with_cell two tally) ≡ with_cell two (with_cell one tally)
with_cell_swap None None tally = refl
with_cell_swap None (Some Missing) tally = refl
with_cell_swap None (Some (Value w)) tally = refl
with_cell_swap None (Some NoBase) tally = refl
with_cell_swap None (Some NoLink) tally = refl
with_cell_swap None (Some Range) tally = refl
with_cell_swap (Some Missing) None tally = refl
with_cell_swap (Some Missing) (Some Missing) tally = refl
with_cell_swap (Some Missing) (Some (Value w)) tally = refl
with_cell_swap (Some Missing) (Some NoBase) tally = refl
with_cell_swap (Some Missing) (Some NoLink) tally = refl
with_cell_swap (Some Missing) (Some Range) tally = refl
with_cell_swap (Some (Value v)) None tally = refl
with_cell_swap (Some (Value v)) (Some Missing) tally = refl
with_cell_swap (Some (Value v)) (Some (Value w)) tally = ap (λ (s : ℤ). let next : Tally = record { sum = s; present = 1 + (1 + tally.present); missing = tally.missing; no_base = tally.no_base; range = tally.range } in next) (swap_sum v w tally.sum)
with_cell_swap (Some (Value v)) (Some NoBase) tally = refl
with_cell_swap (Some (Value v)) (Some NoLink) tally = refl
with_cell_swap (Some (Value v)) (Some Range) tally = refl
with_cell_swap (Some NoBase) None tally = refl
with_cell_swap (Some NoBase) (Some Missing) tally = refl
with_cell_swap (Some NoBase) (Some (Value w)) tally = refl
with_cell_swap (Some NoBase) (Some NoBase) tally = refl
with_cell_swap (Some NoBase) (Some NoLink) tally = refl
with_cell_swap (Some NoBase) (Some Range) tally = refl
with_cell_swap (Some NoLink) None tally = refl
with_cell_swap (Some NoLink) (Some Missing) tally = refl
with_cell_swap (Some NoLink) (Some (Value w)) tally = refl
with_cell_swap (Some NoLink) (Some NoBase) tally = refl
with_cell_swap (Some NoLink) (Some NoLink) tally = refl
with_cell_swap (Some NoLink) (Some Range) tally = refl
with_cell_swap (Some Range) None tally = refl
with_cell_swap (Some Range) (Some Missing) tally = refl
with_cell_swap (Some Range) (Some (Value w)) tally = refl
with_cell_swap (Some Range) (Some NoBase) tally = refl
with_cell_swap (Some Range) (Some NoLink) tally = refl
with_cell_swap (Some Range) (Some Range) tally = refl

-- the tallies of the settled children once one more job is done
pub settled_more : (item : ℕ) (parents : List (Option ℕ)) (jobs : List JobState) (xs : List (List Cell)) (k : ℕ) (x : List Cell) (t : ℕ) → k < length parents → k < length jobs → is_parent item (get_or parents k None) ≡ true → is_unfinished (get_or jobs k Clean) ≡ true
    → slice_get xs k ≡ Some x → tally_of (settled item parents (slice_set jobs k Done) xs) t ≡ with_cell (slice_get x t) (tally_of (settled item parents jobs xs) t)
settled_more item [] jobs xs k x t inside within own unfinished at = absurd (omega arith)
settled_more item (p ∷ ps) [] xs k x t inside within own unfinished at = absurd (omega arith)
settled_more item (p ∷ ps) (j ∷ jobs) [] k x t inside within own unfinished at = absurd (cc)
settled_more item (p ∷ ps) (j ∷ jobs) (y ∷ xs) zero x t inside within own unfinished at =
    let same : y ≡ x = cc in
    let rest : List (List Cell) = settled item ps jobs xs in
    ap (λ (b : Bool). tally_of (cond (b && true) (y ∷ rest) rest) t) own
    ∙ sym (with_cell-tally_of y rest t) ∙ ap (λ (c : List Cell). with_cell (slice_get c t) (tally_of rest t)) same
    ∙ ap (λ (b : Bool). with_cell (slice_get x t) (tally_of (cond b (y ∷ rest) rest) t)) (sym (ap (λ (b : Bool). b && not (is_unfinished j)) own ∙ ap not unfinished))
settled_more item (p ∷ ps) (j ∷ jobs) (y ∷ xs) (suc k) x t inside within own unfinished at = by (is_parent item p && not (is_unfinished j)) (settled_more item ps jobs xs k x t (omega arith) (omega arith) own unfinished at)
  where
    by : (b : Bool) → tally_of (settled item ps (slice_set jobs k Done) xs) t ≡ with_cell (slice_get x t) (tally_of (settled item ps jobs xs) t)
        → tally_of (cond b (y ∷ settled item ps (slice_set jobs k Done) xs) (settled item ps (slice_set jobs k Done) xs)) t ≡ with_cell (slice_get x t) (tally_of (cond b (y ∷ settled item ps jobs xs) (settled item ps jobs xs)) t)
    by false rest = rest
    by true rest =
        sym (with_cell-tally_of y (settled item ps (slice_set jobs k Done) xs) t) ∙ ap (with_cell (slice_get y t)) rest
        ∙ with_cell_swap (slice_get y t) (slice_get x t) (tally_of (settled item ps jobs xs) t) ∙ ap (with_cell (slice_get x t)) (with_cell-tally_of y (settled item ps jobs xs) t)

-- one more child is settled
pub settled_count : {X : Type 0} (item : ℕ) (parents : List (Option ℕ)) (jobs : List JobState) (xs : List X) (k : ℕ) → k < length parents → k < length jobs → k < length xs →
    is_parent item (get_or parents k None) ≡ true → is_unfinished (get_or jobs k Clean) ≡ true →
    length (settled item parents (slice_set jobs k Done) xs) ≡ length (settled item parents jobs xs) + 1
settled_count item [] jobs xs k inside within there own unfinished = absurd (omega arith)
settled_count item (p ∷ ps) [] xs k inside within there own unfinished = absurd (omega arith)
settled_count item (p ∷ ps) (j ∷ jobs) [] k inside within there own unfinished = absurd (omega arith)
settled_count item (p ∷ ps) (j ∷ jobs) (y ∷ xs) zero inside within there own unfinished = by (is_parent item p) (is_unfinished j) own unfinished
  where
    by : (b u : Bool) → b ≡ true → u ≡ true → length (cond (b && true) (y ∷ settled item ps jobs xs) (settled item ps jobs xs)) ≡ length (cond (b && not u) (y ∷ settled item ps jobs xs) (settled item ps jobs xs)) + 1
    by true true e h = omega arith
    by true false e h = absurd (cc)
    by false u e h = absurd (cc)
settled_count item (p ∷ ps) (j ∷ jobs) (y ∷ xs) (suc k) inside within there own unfinished = by (is_parent item p && not (is_unfinished j)) (settled_count item ps jobs xs k (omega arith) (omega arith) (omega arith) own unfinished)
  where
    by : (b : Bool) → length (settled item ps (slice_set jobs k Done) xs) ≡ length (settled item ps jobs xs) + 1
        → length (cond b (y ∷ settled item ps (slice_set jobs k Done) xs) (settled item ps (slice_set jobs k Done) xs)) ≡ length (cond b (y ∷ settled item ps jobs xs) (settled item ps jobs xs)) + 1
    by true rest = omega arith
    by false rest = rest

-- no more children are settled than there are items
pub settled_few : {X : Type 0} (item : ℕ) (parents : List (Option ℕ)) (jobs : List JobState) (xs : List X) → length (settled item parents jobs xs) ≤ length parents
settled_few item [] jobs xs = omega arith
settled_few item (p ∷ ps) [] xs = omega arith
settled_few item (p ∷ ps) (j ∷ jobs) [] = omega arith
settled_few item (p ∷ ps) (j ∷ jobs) (x ∷ xs) = by (is_parent item p && not (is_unfinished j)) (settled_few item ps jobs xs)
  where
    by : (b : Bool) → length (settled item ps jobs xs) ≤ length ps → length (cond b (x ∷ settled item ps jobs xs) (settled item ps jobs xs)) ≤ suc (length ps)
    by true rest = omega arith
    by false rest = omega arith

-- lists with the same tallies are as long
no_longer : (a b : ℕ) → ((t : ℕ) → nat_lt t a ≡ nat_lt t b) → a ≤ b
no_longer a b same = elim (cases_lt b a) [
  | inl below ↦ absurd (let one : nat_lt b a ≡ true = lt-ltb b a below in let two : nat_lt b b ≡ false = le-ltb b b (omega arith) in let never : true ≡ false = sym one ∙ same b ∙ two in cc)
  | inr above ↦ above
]

-- so the longest of the one is no longer than that of the other
same_longest : (one two : List (List Cell)) → ((t : ℕ) → tally_of one t ≡ tally_of two t) → longest one ≤ longest two
same_longest one two same = no_longer (longest one) (longest two) (λ t. sym (is_reached-tally_of one t) ∙ ap is_reached (same t) ∙ is_reached-tally_of two t)

-- a sum of the settled children is one of them and one more, once that one's job is done and its cells are added
pub sum_settled_more : (item : ℕ) (parents : List (Option ℕ)) (jobs : List JobState) (xs : List (List Cell)) (k : ℕ) (x : List Cell) (tallies : List Tally) → k < length parents → k < length jobs → is_parent item (get_or parents k None) ≡ true → is_unfinished (get_or jobs k Clean) ≡ true
    → slice_get xs k ≡ Some x → length x ≤ length tallies → IsSumOf (settled item parents jobs xs) tallies → IsSumOf (settled item parents (slice_set jobs k Done) xs) (with_cells x tallies)
sum_settled_more item parents jobs xs k x tallies inside within own unfinished at short sum =
    let more : IsSumOf (x ∷ settled item parents jobs xs) (with_cells x tallies) = sum_more x (settled item parents jobs xs) tallies short sum in
    let same : (t : ℕ) → tally_of (settled item parents (slice_set jobs k Done) xs) t ≡ tally_of (x ∷ settled item parents jobs xs) t =
    λ t. settled_more item parents jobs xs k x t inside within own unfinished at ∙ with_cell-tally_of x (settled item parents jobs xs) t in
    record {
      room = omega (arith, same_longest (settled item parents (slice_set jobs k Done) xs) (x ∷ settled item parents jobs xs) same, more.room);
      each = λ t below. more.each t below ∙ sym (same t);
    }

-- a child of another item leaves the settled children as they are
pub settled_other : {X : Type 0} (item : ℕ) (parents : List (Option ℕ)) (jobs : List JobState) (xs : List X) (k : ℕ) (state : JobState) → is_parent item (get_or parents k None) ≡ false → settled item parents (slice_set jobs k state) xs ≡ settled item parents jobs xs
settled_other item [] jobs xs k state other = refl
settled_other item (p ∷ ps) [] xs k state other = refl
settled_other item (p ∷ ps) (j ∷ jobs) [] zero state other = refl
settled_other item (p ∷ ps) (j ∷ jobs) [] (suc k) state other = refl
settled_other {X} item (p ∷ ps) (j ∷ jobs) (x ∷ xs) zero state other =
    ap (λ (b : Bool). cond (b && not (is_unfinished state)) (x ∷ settled item ps jobs xs) (settled item ps jobs xs)) other
    ∙ sym (ap (λ (b : Bool). cond (b && not (is_unfinished j)) (x ∷ settled item ps jobs xs) (settled item ps jobs xs)) other)
settled_other {X} item (p ∷ ps) (j ∷ jobs) (x ∷ xs) (suc k) state other =
    ap (λ (l : List X). cond (is_parent item p && not (is_unfinished j)) (x ∷ l) l) (settled_other item ps jobs xs k state other)

-- without an open child all children are settled
pub all_settled : {X : Type 0} (item : ℕ) (parents : List (Option ℕ)) (jobs : List JobState) (xs : List X) → length jobs ≡ length xs → list_any is_unfinished (of_children item parents jobs) ≡ false → settled item parents jobs xs ≡ of_children item parents xs
all_settled item [] jobs xs same none = refl
all_settled item (p ∷ ps) [] [] same none = refl
all_settled item (p ∷ ps) [] (x ∷ xs) same none = absurd (omega arith)
all_settled item (p ∷ ps) (j ∷ jobs) [] same none = absurd (omega arith)
all_settled {X} item (p ∷ ps) (j ∷ jobs) (x ∷ xs) same none = by (is_parent item p) (is_unfinished j) refl (all_settled item ps jobs xs (omega arith)) none
  where
    by : (b u : Bool) → is_unfinished j ≡ u → (list_any is_unfinished (of_children item ps jobs) ≡ false → settled item ps jobs xs ≡ of_children item ps xs)
        → list_any is_unfinished (cond b (j ∷ of_children item ps jobs) (of_children item ps jobs)) ≡ false
        → cond (b && not u) (x ∷ settled item ps jobs xs) (settled item ps jobs xs) ≡ cond b (x ∷ of_children item ps xs) (of_children item ps xs)
    by false u now rest e = rest e
    by true true now rest e = absurd (let never : true ≡ false = sym (ap (λ (b : Bool). b || list_any is_unfinished (of_children item ps jobs)) now) ∙ e in cc)
    by true false now rest e = ap (λ (l : List X). x ∷ l) (rest (sym (ap (λ (b : Bool). b || list_any is_unfinished (of_children item ps jobs)) now) ∙ e))

-- so a sum of them has the cells of the sum of all children
pub whole_cells : (item : ℕ) (parents : List (Option ℕ)) (jobs : List JobState) (xs : List (List Cell)) (tallies : List Tally) → length jobs ≡ length xs → list_any is_unfinished (of_children item parents jobs) ≡ false → IsSumOf (settled item parents jobs xs) tallies
    → cells_of tallies ≡ added (of_children item parents xs)
whole_cells item parents jobs xs tallies same none sum = cells_of_sum (settled item parents jobs xs) tallies sum ∙ ap added (all_settled item parents jobs xs same none)
