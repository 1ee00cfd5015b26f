-- Two small children keep the sums in their ranges.
use Rattle.std.proofs.Common.{◌≡◌, ap, sym, subst, inl, inr, ℕ, ◌*◌, ◌^◌, ◌≤◌, unsigned_abs, List, arith}
use Rattle.std.specs.Prelude.{replicate}
use Rattle.std.proofs.lemmas.Bool.{cases_lt}
use Rattle.std.proofs.lemmas.List.{get_or_past, get_or-replicate, length-replicate}
use Rattle.aggregate_tree.specs.declared.tally.Tally.{Tally}
use Rattle.aggregate_tree.specs.Sum.{Sum}
use Rattle.aggregate_tree.specs.Tallies.{no_tally, tally_at}
use Rattle.aggregate_tree.proofs.Sizes.{small_value_sums, small_volume_sums, small_sums_more}
use Rattle.aggregate_tree.proofs.tests.sum_of.Goals as goal

-- the sums of no children
empty_sums : (quarters : ℕ) (tallies : List Tally) → tallies ≡ replicate quarters no_tally → (t : ℕ) → unsigned_abs (tally_at tallies t).sum ≤ 0 * 10 ^ 6
empty_sums quarters tallies e t = subst (λ (list : List Tally). unsigned_abs (tally_at list t).sum ≤ 0) (sym e) (elim (cases_lt t quarters) [
  | inl below ↦ subst (λ (tally : Tally). unsigned_abs tally.sum ≤ 0) (sym (get_or-replicate quarters t no_tally no_tally below)) (omega arith)
  | inr past ↦ subst (λ (tally : Tally). unsigned_abs tally.sum ≤ 0) (sym (get_or_past (replicate quarters no_tally) t no_tally (omega (arith, length-replicate quarters no_tally)))) (omega arith)
])

pub add-requires-clause-value_sums : goal.add-requires-clause-value_sums
add-requires-clause-value_sums g c =
    small_value_sums 0 c.in_ok-first.first.value c.in_ok-sum.sum.value (omega arith) c.in_ok-first.ensures.value (empty_sums 12 c.in_ok-sum.sum.value (ap (λ (s : Sum). s.value) c.in_ok-sum.ensures.empty))

pub add-requires-clause-prev_sums : goal.add-requires-clause-prev_sums
add-requires-clause-prev_sums g c =
    small_volume_sums 0 c.in_ok-first.first.prev c.in_ok-sum.sum.prev (omega arith) c.in_ok-first.ensures.prev (empty_sums 12 c.in_ok-sum.sum.prev (ap (λ (s : Sum). s.prev) c.in_ok-sum.ensures.empty))

pub add-requires-2-clause-value_sums : goal.add-requires-2-clause-value_sums
add-requires-2-clause-value_sums g c =
    small_value_sums 1 c.in_ok-second.second.value c.add.new.self.value (omega arith) c.in_ok-second.ensures.value
    (small_sums_more 0 c.in_ok-first.first.value c.in_ok-sum.sum.value c.add.new.self.value (ap (λ (s : Sum). s.value) c.add.ensures.added) c.in_ok-first.ensures.value
    (empty_sums 12 c.in_ok-sum.sum.value (ap (λ (s : Sum). s.value) c.in_ok-sum.ensures.empty)))

pub add-requires-2-clause-prev_sums : goal.add-requires-2-clause-prev_sums
add-requires-2-clause-prev_sums g c =
    small_volume_sums 1 c.in_ok-second.second.prev c.add.new.self.prev (omega arith) c.in_ok-second.ensures.prev
    (small_sums_more 0 c.in_ok-first.first.prev c.in_ok-sum.sum.prev c.add.new.self.prev (ap (λ (s : Sum). s.prev) c.add.ensures.added) c.in_ok-first.ensures.prev
    (empty_sums 12 c.in_ok-sum.sum.prev (ap (λ (s : Sum). s.prev) c.in_ok-sum.ensures.empty)))
