-- The ranges of a run's values.
use Rattle.std.specs.Prelude.{◌≡◌, ℕ, ◌*◌, ◌^◌, ◌≤◌, ◌<◌, ℤ, pos, List, [], ◌∷◌, length, slice_index, unsigned_abs, Some}
use Rattle.std.proofs.Common.{arith, zero, suc, get_or, subst}
use Rattle.std.proofs.Math.Nat.{one-le-pow, mul_comm}
use Rattle.std.specs.Option.{ForSome}
use Rattle.std.proofs.lemmas.Nat.{le-div}
use Rattle.std.proofs.lemmas.Option.{same_Some}
use Rattle.denton_parts.specs.Years.{IsInReach}
use Rattle.denton_parts.proofs.Reach.{value_small}
use Rattle.dual_cert.specs.Document.{AreQuarters, IsQuarterValue}
use Rattle.node_compile.specs.Sizes.{AreBelow}
use Rattle.node_compile.proofs.Behind.{AreIndicatorsOf, Reach}

-- a value in reach is in the range of a certificate's values
quarter_value : (k i : ℕ) (value : ℤ) → IsInReach k i value → IsQuarterValue k i value
quarter_value k i value reach =
    let some : 1 ≤ 10 ^ k = one-le-pow k 10 (omega arith) in
    le-div (unsigned_abs value) (10 ^ 16 * i) (10 ^ k) (omega arith) (rw (mul_comm (unsigned_abs value) (10 ^ k)) reach)

-- the values of a run are in the ranges of a certificate
pub quarters_in_range : (k : ℕ) (indicators : List ℕ) (values : List ℤ) → k ≤ 15 → length indicators ≤ 512 →
    AreIndicatorsOf indicators → Reach k indicators values → AreQuarters k indicators values
quarters_in_range k indicators values small few each reach = record {
  scale_in_range = small;
  most = few;
  same_length = reach.count;
  each_indicator = each;
  each_value = λ t inside.
      let count = reach.count in
      let far = reach.each t (omega arith) in
      quarter_value k (slice_index indicators t) (get_or values t (pos 0)) (omega arith);
}

-- and below 10^24 in size
pub values_below : (k : ℕ) (indicators : List ℕ) (values : List ℤ) → 1 ≤ k → AreIndicatorsOf indicators →
    Reach k indicators values → AreBelow values
values_below k indicators values some each reach t d inside =
    let count = reach.count in
    let within : t < length indicators = omega arith in
    at values t d inside (value_small k (slice_index indicators t) (get_or values t (pos 0)) some (each t within).1
    (reach.each t inside))
  where
    at : (values : List ℤ) (t : ℕ) (d : ℤ) → t < length values → unsigned_abs (get_or values t (pos 0)) < 10 ^ 24 →
        unsigned_abs (get_or values t d) < 10 ^ 24
    at [] t d inside h = absurd (omega arith)
    at (value ∷ values) zero d inside h = h
    at (value ∷ values) (suc t) d inside h = at values t d (omega arith) h

-- what holds of a thing holds of whatever is there, where it is that thing
pub for_this : {X : Type 0} (x : X) (P : X → Type 0) → P x → ForSome (Some x) P
for_this {X} x P holds y e = let same : x ≡ y = same_Some x y e in subst P same holds
