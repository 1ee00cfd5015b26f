-- The documents of the tests keep what a document keeps.
use Rattle.std.specs.Prelude.{◌≡◌, ℕ, ◌+◌, ◌*◌, ◌^◌, ◌≤◌, ◌<◌, ℤ, pos, ◌≤ℤ◌, Bool, true, false, ◌&&◌, nat_le, IsTrue, List, [], ◌∷◌, length, replicate, slice_index, unsigned_abs}
use Rattle.std.specs.List.{list_all}
use Rattle.std.proofs.Common.{refl, arith, zero, suc, get_or}
use Rattle.std.proofs.lemmas.List.{length-replicate}
use Rattle.std.proofs.Math.ListN.{get_or-replicate}
use Rattle.denton_parts.specs.Years.{ArePlaces}
use Rattle.dual_cert.specs.Document.{AreQuarters, IsDocument}

both : (a b : Bool) → IsTrue (a && b) → IsTrue a × IsTrue b
both true b h = (refl, h)
both false b h = cc

at_most : (a b : ℕ) → IsTrue (nat_le a b) → a ≤ b
at_most a b h = grind arith

-- each of the values is within a million
each_within : (xs : List ℤ) → IsTrue (list_all (λ value. nat_le (unsigned_abs value) 1000000) xs) → (t : ℕ) → t < length xs → unsigned_abs (get_or xs t (pos 0)) ≤ 1000000
each_within [] all t inside = absurd (omega arith)
each_within (x ∷ xs) all zero inside = at_most (unsigned_abs x) 1000000 (both (nat_le (unsigned_abs x) 1000000) (list_all (λ value. nat_le (unsigned_abs value) 1000000) xs) all).0
each_within (x ∷ xs) all (suc t) inside = each_within xs (both (nat_le (unsigned_abs x) 1000000) (list_all (λ value. nat_le (unsigned_abs value) 1000000) xs) all).1 t (omega arith)

-- so many quarters with the indicator 100
quarters : (count : ℕ) (xs : List ℤ) → count ≤ 256 → length xs ≡ count →
    IsTrue (list_all (λ value. nat_le (unsigned_abs value) 1000000) xs) → AreQuarters 12 (replicate count 100) xs
quarters count xs few same all =
    let indicators : length (replicate {A = ℕ} count 100) ≡ count = length-replicate count 100 in
    record {
      scale_in_range = omega arith;
      most = omega arith;
      same_length = omega arith;
      each_indicator = λ t inside.
          let e : slice_index (replicate {A = ℕ} count 100) t ≡ 100 = get_or-replicate count t 100 0 (omega arith) in
          rw e (omega arith, omega arith);
      each_value = λ t inside.
          let e : slice_index (replicate {A = ℕ} count 100) t ≡ 100 = get_or-replicate count t 100 0 (omega arith) in
          rw e (each_within xs all t (omega arith));
    }

-- two years, the first at the start
two_places : (quarters second : ℕ) → 1 ≤ second → 4 * second + 4 ≤ quarters → ArePlaces quarters (0 ∷ second ∷ [])
two_places quarters second behind inside = record { rising = rising; whole_years = whole }
  where
    rising : (k : ℕ) → k + 1 < 2 → slice_index (0 ∷ second ∷ []) k < slice_index (0 ∷ second ∷ []) (k + 1)
    rising zero below = behind
    rising (suc k) below = absurd (omega arith)

    whole : (k d : ℕ) → k < 2 → 4 * get_or (0 ∷ second ∷ []) k d + 4 ≤ quarters
    whole zero d below = omega arith
    whole (suc zero) d below = inside
    whole (suc (suc k)) d below = absurd (omega arith)

-- two years with the indicator 100, the benchmarks 1000 and 1400, and the scale 12
pub example_document : (front count second : ℕ) (xs : List ℤ) (u gap : ℤ) → front ≤ 262144 → count ≤ 256 → 1 ≤ second →
    4 * second + 4 ≤ count → length xs ≡ count →
    IsTrue (list_all (λ value. nat_le (unsigned_abs value) 1000000) xs) → unsigned_abs u ≤ 10 ^ 15 → pos 0 ≤ℤ gap →
    gap ≤ℤ pos (10 ^ 36) →
    IsDocument (70 ∷ 79 ∷ 79 ∷ 68 ∷ []) front 12 2021 (0 ∷ second ∷ []) (replicate count 100) (pos 1000 ∷ pos 1400 ∷ [])
    xs (u ∷ []) gap
example_document front count second xs u gap front_most few behind inside same all size least most =
    let indicators : length (replicate {A = ℕ} count 100) ≡ count = length-replicate count 100 in
    record {
      named = refl;
      front_in_range = front_most;
      first_start = omega arith;
      last_start = omega arith;
      quarters = quarters count xs few same all;
      few = omega arith;
      some_year = omega arith;
      placed = refl;
      whole_years = two_places (length (replicate {A = ℕ} count 100)) second behind (omega arith);
      joints = refl;
      each_benchmark = benchmark;
      each_multiplier = multiplier;
      least_gap = least;
      most_gap = most;
    }
  where
    benchmark : (y : ℕ) → y < 2 → unsigned_abs (get_or (pos 1000 ∷ pos 1400 ∷ []) y (pos 0)) ≤ 10 ^ 12
    benchmark zero below = omega arith
    benchmark (suc zero) below = omega arith
    benchmark (suc (suc y)) below = absurd (omega arith)

    multiplier : (y : ℕ) → y < 1 → unsigned_abs (get_or (u ∷ []) y (pos 0)) ≤ 10 ^ 15
    multiplier zero below = size
    multiplier (suc y) below = absurd (omega arith)
