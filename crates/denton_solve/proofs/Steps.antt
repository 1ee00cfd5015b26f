-- The steps of a sweep, and of the loop over sweeps.
use Rattle.std.specs.Prelude.{◌≡◌, ◌⊎◌, ℕ, ◌+◌, ◌-◌, ◌*◌, ◌^◌, ◌≤◌, ◌<◌, ℤ, pos, ◌+ℤ◌, ◌-ℤ◌, ◌*ℤ◌, List, [], ◌∷◌, ◌++◌, length, take, drop, unsigned_abs}
use Rattle.std.proofs.Common.{refl, sym, ◌∙◌, ap, arith, zero, suc, get_or, set, inl, inr}
use Rattle.std.proofs.lemmas.Int.{ints, clamps}
use Rattle.std.proofs.Math.Numerals.{add-one}
use Rattle.std.proofs.lemmas.List.{append-nil, take_more_set, append_assoc, take_all, drop_all}
use Rattle.ratio_arith.specs.Division.{floor_of}
use Rattle.denton_parts.specs.Level.{ratio_floor}
use Rattle.denton_parts.specs.Year.{BenchmarkedYear}
use Rattle.denton_solve.specs.Conditions.{AreMultipliers}
use Rattle.denton_solve.specs.Sweeps.{width_of, weight_of, moved_of, cut_of, first_of, sweep_from, sweep_after, sweep_of, iterated}

-- a cut number is a multiplier
pub cut_size : (moved : ℤ) → unsigned_abs (cut_of moved) ≤ 10 ^ 15
cut_size moved = omega (arith, ints, clamps)

sweep_from-sizes : (k : ℕ) (before : ℤ) (year : BenchmarkedYear) (years : List BenchmarkedYear) (multipliers : List ℤ) →
    AreMultipliers (sweep_from k before year years multipliers)
sweep_from-sizes k before year [] multipliers y inside = absurd (omega arith)
sweep_from-sizes k before year (next ∷ years) [] y inside = absurd (omega arith)
sweep_from-sizes k before year (next ∷ years) (own ∷ multipliers) zero inside =
    cut_size (moved_of k year next before own (first_of multipliers))
sweep_from-sizes k before year (next ∷ years) (own ∷ multipliers) (suc y) inside =
    sweep_from-sizes k own next years multipliers y (omega arith)

-- a sweep leaves multipliers in range
pub sweep_of-sizes : (k : ℕ) (years : List BenchmarkedYear) (multipliers : List ℤ) →
    AreMultipliers (sweep_of k years multipliers)
unfolding sweep_of
sweep_of-sizes k [] multipliers y inside = absurd (omega arith)
sweep_of-sizes k (year ∷ years) multipliers y inside = sweep_from-sizes k (pos 0) year years multipliers y inside

sweep_from-count : (k : ℕ) (before : ℤ) (year : BenchmarkedYear) (years : List BenchmarkedYear) (multipliers : List ℤ) →
    length multipliers ≤ length years → length (sweep_from k before year years multipliers) ≡ length multipliers
sweep_from-count k before year [] [] room = refl
sweep_from-count k before year [] (own ∷ multipliers) room = absurd (omega arith)
sweep_from-count k before year (next ∷ years) [] room = refl
sweep_from-count k before year (next ∷ years) (own ∷ multipliers) room = let more =
    sweep_from-count k own next years multipliers (omega arith) in omega arith

-- a sweep leaves as many multipliers as there were
pub sweep_of-count : (k : ℕ) (years : List BenchmarkedYear) (multipliers : List ℤ) → length multipliers < length years →
    length (sweep_of k years multipliers) ≡ length multipliers
unfolding sweep_of
sweep_of-count k [] multipliers room = absurd (omega arith)
sweep_of-count k (year ∷ years) multipliers room = sweep_from-count k (pos 0) year years multipliers (omega arith)

-- so do several
pub iterated-count : (k : ℕ) (years : List BenchmarkedYear) (n : ℕ) (multipliers : List ℤ) →
    length multipliers < length years → length (iterated n (sweep_of k years) multipliers) ≡ length multipliers
unfolding iterated
iterated-count k years zero multipliers room = refl
iterated-count k years (suc n) multipliers room =
    let before = iterated-count k years n multipliers room in
    sweep_of-count k years (iterated n (sweep_of k years) multipliers) (omega arith) ∙ before

-- a sweep begins before the first year
pub sweep_of-is : (k : ℕ) (years : List BenchmarkedYear) (multipliers : List ℤ) →
    sweep_after k (pos 0) years multipliers ≡ sweep_of k years multipliers
unfolding sweep_of
sweep_of-is k years multipliers = refl

-- where no multiplier is left the sweep is over
sweep_after-end : (k : ℕ) (before : ℤ) (years : List BenchmarkedYear) → sweep_after k before years [] ≡ []
sweep_after-end k before [] = refl
sweep_after-end k before (year ∷ []) = refl
sweep_after-end k before (year ∷ next ∷ years) = refl

-- one joint of a sweep
sweep_step : (k : ℕ) (before : ℤ) (years : List BenchmarkedYear) (from : List ℤ) (y : ℕ) (d : BenchmarkedYear) →
    suc y < length years → y < length from →
    sweep_after k before (drop y years) (drop y from)
    ≡ cut_of (moved_of k (get_or years y d) (get_or years (suc y) d) before (get_or from y (pos 0))
    (first_of (drop (suc y) from))) ∷ sweep_after k (get_or from y (pos 0)) (drop (suc y) years) (drop (suc y) from)
sweep_step k before [] from y d hy hf = absurd (omega arith)
sweep_step k before (year ∷ years) [] y d hy hf = absurd (omega arith)
sweep_step k before (year ∷ []) (own ∷ from) zero d hy hf = absurd (omega arith)
sweep_step k before (year ∷ next ∷ years) (own ∷ from) zero d hy hf = refl
sweep_step k before (year ∷ years) (own ∷ from) (suc y) d hy hf =
    sweep_step k before years from y d (omega arith) (omega arith)

-- the first number of the rest is the number at the place
pub first_of-drop : (from : List ℤ) (y : ℕ) → first_of (drop y from) ≡ get_or from y (pos 0)
first_of-drop [] zero = refl
first_of-drop [] (suc y) = refl
first_of-drop (own ∷ from) zero = refl
first_of-drop (own ∷ from) (suc y) = first_of-drop from y

-- what the code moves and cuts is the sweep's number
after_is : (k : ℕ) (year next : BenchmarkedYear) (before own right width first last weight after : ℤ) →
    last ≡ ratio_floor k year before own 3 → first ≡ ratio_floor k next own right 0 →
    width ≡ pos (width_of year next) → weight ≡ weight_of year next →
    after ≡ cut_of (own +ℤ floor_of (pos 1000 *ℤ (first -ℤ last -ℤ width *ℤ own)) weight) →
    after ≡ cut_of (moved_of k year next before own right)
after_is k year next before own right width first last weight after e_last e_first e_width e_weight e =
    e ∙ ap (λ u. cut_of (own +ℤ floor_of (pos 1000 *ℤ (u -ℤ last -ℤ width *ℤ own)) weight)) e_first
    ∙ ap (λ u. cut_of (own +ℤ floor_of (pos 1000 *ℤ (ratio_floor k next own right 0 -ℤ u -ℤ width *ℤ own)) weight))
    e_last
    ∙ ap (λ u. cut_of (own +ℤ floor_of
    (pos 1000 *ℤ (ratio_floor k next own right 0 -ℤ ratio_floor k year before own 3 -ℤ u *ℤ own)) weight)) e_width
    ∙ ap (λ u. cut_of (own +ℤ floor_of (pos 1000 *ℤ (ratio_floor k next own right 0
    -ℤ ratio_floor k year before own 3 -ℤ pos (width_of year next) *ℤ own)) u)) e_weight

-- one more joint of a sweep is done
pub swept_at : (k : ℕ) (years : List BenchmarkedYear) (from into whole : List ℤ) (y : ℕ) (d : BenchmarkedYear)
    (own width first last weight after : ℤ) →
    y + 1 < length years → y < length from → y < length into → own ≡ first_of (drop y from) →
    last ≡ ratio_floor k (get_or years y d) (get_or (pos 0 ∷ from) y (pos 0)) (first_of (drop y from)) 3 →
    first ≡ ratio_floor k (get_or years (y + 1) d) own (first_of (drop (y + 1) from)) 0 →
    width ≡ pos (width_of (get_or years y d) (get_or years (y + 1) d)) →
    weight ≡ weight_of (get_or years y d) (get_or years (y + 1) d) →
    after ≡ cut_of (own +ℤ floor_of (pos 1000 *ℤ (first -ℤ last -ℤ width *ℤ own)) weight) →
    take y into ++ sweep_after k (get_or (pos 0 ∷ from) y (pos 0)) (drop y years) (drop y from) ≡ whole →
    take (y + 1) (set into y after)
    ++ sweep_after k (get_or (pos 0 ∷ from) (y + 1) (pos 0)) (drop (y + 1) years) (drop (y + 1) from) ≡ whole
swept_at k years from into whole y d own width first last weight after hy hf hi e_own e_last e_first e_width e_weight
    e_after e =
    let year = get_or years y d in
    let next = get_or years (suc y) d in
    let before = get_or (pos 0 ∷ from) y (pos 0) in
    let right = first_of (drop (suc y) from) in
    let place : own ≡ get_or from y (pos 0) = e_own ∙ first_of-drop from y in
    let begins : first ≡ ratio_floor k next own right 0 =
    e_first ∙ ap (λ n. ratio_floor k (get_or years n d) own (first_of (drop n from)) 0) (add-one y) in
    let ends : last ≡ ratio_floor k year before own 3 = e_last ∙ ap (λ u. ratio_floor k year before u 3) (sym e_own) in
    let wide : width ≡ pos (width_of year next) =
    e_width ∙ ap (λ n. pos (width_of year (get_or years n d))) (add-one y) in
    let heavy : weight ≡ weight_of year next = e_weight ∙ ap (λ n. weight_of year (get_or years n d)) (add-one y) in
    let moved = after_is k year next before own right width first last weight after ends begins wide heavy e_after in
    let here : after ≡ cut_of (moved_of k year next before (get_or from y (pos 0)) right) =
    moved ∙ ap (λ u. cut_of (moved_of k year next before u right)) place in
    let step = sweep_step k before years from y d (omega arith) hf in
    rw (take_more_set into y after hi, append_assoc, add-one)
    (ap (λ u. take y into
    ++ (u ∷ sweep_after k (get_or from y (pos 0)) (drop (suc y) years) (drop (suc y) from))) here
    ∙ ap (λ u. take y into ++ u) (sym step) ∙ e)

-- the ratio with which the next year ends, by the multiplier's place
pub next_ends : (k : ℕ) (next : BenchmarkedYear) (from : List ℤ) (y : ℕ) (own last : ℤ) →
    own ≡ first_of (drop y from) → last ≡ ratio_floor k next own (first_of (drop (y + 1) from)) 3 →
    last ≡ ratio_floor k next (get_or (pos 0 ∷ from) (y + 1) (pos 0)) (first_of (drop (y + 1) from)) 3
next_ends k next from y own last e_own e =
    let place : own ≡ get_or (pos 0 ∷ from) (y + 1) (pos 0) =
    e_own ∙ first_of-drop from y ∙ ap (λ n. get_or (pos 0 ∷ from) n (pos 0)) (sym (add-one y)) in
    e ∙ ap (λ u. ratio_floor k next u (first_of (drop (y + 1) from)) 3) place

-- all joints of a sweep are done
pub swept_all : (k : ℕ) (before : ℤ) (years : List BenchmarkedYear) (from into whole : List ℤ) (y : ℕ) →
    length from ≤ y → length into ≤ y → take y into ++ sweep_after k before (drop y years) (drop y from) ≡ whole →
    into ≡ whole
swept_all k before years from into whole y hf hi e =
    rw (take_all y into hi, drop_all y from hf, sweep_after-end k before (drop y years), append-nil) at e

-- ---- sweeps one after the other

double : ℕ → ℕ
double zero = zero
double (suc n) = suc (suc (double n))

double-is : (n : ℕ) → double n ≡ 2 * n
unfolding double
double-is zero = refl
double-is (suc n) = let less = double-is n in omega arith

iterated-double : (f : List ℤ → List ℤ) (n : ℕ) (x : List ℤ) → f (f x) ≡ x → iterated (double n) f x ≡ x
unfolding iterated double
iterated-double f zero x e = refl
iterated-double f (suc n) x e = ap (λ u. f (f u)) (iterated-double f n x e) ∙ e

iterated-add : (f : List ℤ → List ℤ) (m n : ℕ) (x : List ℤ) → iterated (m + n) f x ≡ iterated m f (iterated n f x)
unfolding iterated
iterated-add f zero n x = let none : zero + n ≡ n = omega arith in ap (λ l. iterated l f x) none
iterated-add f (suc m) n x = let more : suc m + n ≡ suc (m + n) = omega arith in
    ap (λ l. iterated l f x) more ∙ ap f (iterated-add f m n x)

-- what two more sweeps leave as it is, is what the last sweep leaves
pub settled : (f : List ℤ → List ℤ) (x u : List ℤ) (pairs : ℕ) → pairs ≤ 96 → u ≡ iterated (2 * pairs) f x →
    f (f u) ≡ u → u ≡ iterated 192 f x
settled f x u pairs most e same =
    let split : 192 ≡ double (96 - pairs) + 2 * pairs = omega (arith, double-is (96 - pairs)) in
    sym (ap (λ n. iterated n f x) split ∙ iterated-add f (double (96 - pairs)) (2 * pairs) x
    ∙ ap (λ v. iterated (double (96 - pairs)) f v) (sym e) ∙ iterated-double f (96 - pairs) u same)

-- no sweep yet
pub iterated-none : (f : List ℤ → List ℤ) (x : List ℤ) → iterated (2 * 0) f x ≡ x
unfolding iterated
iterated-none f x = refl

-- two more sweeps
pub iterated-pair : (f : List ℤ → List ℤ) (x u between after : List ℤ) (pairs : ℕ) → u ≡ iterated (2 * pairs) f x →
    between ≡ f u → after ≡ f between → after ≡ iterated (2 * (pairs + 1)) f x
unfolding iterated
iterated-pair f x u between after pairs e first second =
    let more : 2 * (pairs + 1) ≡ suc (suc (2 * pairs)) = omega arith in
    second ∙ ap f first ∙ ap (λ v. f (f v)) e ∙ sym (ap (λ n. iterated n f x) more)

-- one more sweep
pub iterated-more : (f : List ℤ → List ℤ) (x u new : List ℤ) (n : ℕ) → u ≡ iterated n f x → new ≡ f u →
    new ≡ iterated (suc n) f x
unfolding iterated
iterated-more f x u new n e step = step ∙ ap f e

-- a first sweep of a pair that brings back what stood there
back_first : (f : List ℤ → List ℤ) (u old new : List ℤ) → (f old ≡ u) ⊎ (old ≡ u) → new ≡ f u → new ≡ old →
    f (f u) ≡ u
back_first f u old new (inl e) step same = ap f (sym step ∙ same) ∙ e
back_first f u old new (inr e) step same = ap f (sym step ∙ same ∙ e) ∙ sym step ∙ same ∙ e

-- one that changes nothing, or brings that back
pub ends_first : (f : List ℤ → List ℤ) (u old new : List ℤ) → (f old ≡ u) ⊎ (old ≡ u) → new ≡ f u →
    (new ≡ u) ⊎ (new ≡ old) → f (f u) ≡ u
ends_first f u old new between step (inl still) = let one : f u ≡ u = sym step ∙ still in ap f one ∙ one
ends_first f u old new between step (inr back) = back_first f u old new between step back

-- a second sweep of a pair that does
pub ends_second : (f : List ℤ → List ℤ) (old between new : List ℤ) → between ≡ f old → new ≡ f between →
    (new ≡ between) ⊎ (new ≡ old) → f (f new) ≡ new
ends_second f old between new first second (inl still) =
    let one : f new ≡ new = ap f still ∙ sym second in
    ap f one ∙ one
ends_second f old between new first second (inr back) = ap (λ v. f (f v)) back ∙ ap f (sym first) ∙ sym second
