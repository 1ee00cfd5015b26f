-- The changes of a run at a quarter: those of its years, by the places where these stand.
use Rattle.std.specs.Prelude.{◌≡◌, ℕ, ◌+◌, ◌-◌, ◌*◌, ◌≤◌, ◌<◌, Bool, true, false, nat_lt, ◌==◌, ℤ, pos, ◌*ℤ◌, ◌<ℤ◌, List, [], ◌∷◌, ◌++◌, length, map, drop, if◌then◌else◌}
use Rattle.std.specs.List.{All}
use Rattle.std.specs.List.Sorted.{IsStrictlyIncreasing}
use Rattle.std.proofs.Common.{refl, sym, ◌∙◌, ap, arith, zero, suc, get_or, subst, inl, inr, ◌⊎◌}
use Rattle.std.proofs.lemmas.Bool.{cases_lt, lt-ltb, le-ltb}
use Rattle.std.proofs.lemmas.List.{get_or-map, length-map, length-append, drop_all}
use Rattle.std.proofs.lemmas.List.Elements.{All-cons}
use Rattle.denton_parts.specs.Changes.{Fraction, steady, no_change, change_in_year, changes_from, changes}
use Rattle.denton_parts.specs.Year.{BenchmarkedYear}
use Rattle.denton_parts.specs.Years.{AreYearsOf, year_in, years_in}
use Rattle.denton_parts.specs.declared.year.YearPart.{YearPart}
use Rattle.denton_parts.proofs.Places.{years_in-length, years_in-at, years_in-places}
use Rattle.ratio_arith.specs.Division.{floor_of, ceil_of}
use Rattle.ratio_arith.proofs.Floors.{floor_exact, ceil_exact}
use Rattle.ratio_arith.proofs.Linear.{linear}
use Rattle.ratio_arith.proofs.Ring.{same_by_ring, var, num, ◌⊗◌}
use Rattle.dual_cert.specs.Parts.{AreEnded, change_among, change_at_quarter}
use Rattle.dual_cert.proofs.Runs.{rising_above, rising_behind}
use Rattle.dual_cert.proofs.Duality.{changes_own, changes_other}

-- a choice by two tests is the first where that holds
chosen_first : (a b : Bool) (x y z : Fraction) → a ≡ true → (if a then x else if b then y else z) ≡ x
chosen_first a b x y z e = ap (λ t. if t then x else if b then y else z) e

-- it is the second where that alone holds
chosen_second : (a b : Bool) (x y z : Fraction) → a ≡ false → b ≡ true → (if a then x else if b then y else z) ≡ y
chosen_second a b x y z e f =
    ap (λ t. if t then x else if b then y else z) e ∙ ap (λ t. if t then y else z) f

-- it is the third where neither does
chosen_third : (a b : Bool) (x y z : Fraction) → a ≡ false → b ≡ false → (if a then x else if b then y else z) ≡ z
chosen_third a b x y z e f =
    ap (λ t. if t then x else if b then y else z) e ∙ ap (λ t. if t then y else z) f

-- before a year the multiplier stands
pub change_among-before : (left : ℤ) (year : BenchmarkedYear) (years : List BenchmarkedYear) (right : ℤ)
    (rights : List ℤ) (t : ℕ) → t < 4 * year.place →
    change_among left (year ∷ years) (right ∷ rights) t ≡ steady left
change_among-before left year years right rights t below =
    chosen_first (nat_lt t (4 * year.place)) (nat_lt t (4 * year.place + 4)) (steady left)
    (change_in_year year.indicators left right (t - 4 * year.place)) (change_among right years rights t)
    (lt-ltb t (4 * year.place) below)

-- in a year its own changes do
pub change_among-inside : (left : ℤ) (year : BenchmarkedYear) (years : List BenchmarkedYear) (right : ℤ)
    (rights : List ℤ) (t : ℕ) → 4 * year.place ≤ t → t < 4 * year.place + 4 →
    change_among left (year ∷ years) (right ∷ rights) t
    ≡ change_in_year year.indicators left right (t - 4 * year.place)
change_among-inside left year years right rights t reached inside =
    chosen_second (nat_lt t (4 * year.place)) (nat_lt t (4 * year.place + 4)) (steady left)
    (change_in_year year.indicators left right (t - 4 * year.place)) (change_among right years rights t)
    (le-ltb t (4 * year.place) reached) (lt-ltb t (4 * year.place + 4) inside)

-- behind a year those of the years that follow
pub change_among-behind : (left : ℤ) (year : BenchmarkedYear) (years : List BenchmarkedYear) (right : ℤ)
    (rights : List ℤ) (t : ℕ) → 4 * year.place + 4 ≤ t →
    change_among left (year ∷ years) (right ∷ rights) t ≡ change_among right years rights t
change_among-behind left year years right rights t past =
    chosen_third (nat_lt t (4 * year.place)) (nat_lt t (4 * year.place + 4)) (steady left)
    (change_in_year year.indicators left right (t - 4 * year.place)) (change_among right years rights t)
    (le-ltb t (4 * year.place) (omega arith)) (le-ltb t (4 * year.place + 4) past)

-- where so many years have ended, the change is one of the years that are left
pub change_among-ended : (left : ℤ) (years : List BenchmarkedYear) (rights : List ℤ) (ended t : ℕ) →
    length rights ≡ length years → ended ≤ length years →
    ((y : ℕ) (d : BenchmarkedYear) → y < ended → 4 * (get_or years y d).place + 4 ≤ t) →
    change_among left years rights t
    ≡ change_among (get_or (left ∷ rights) ended (pos 0)) (drop ended years) (drop ended rights) t
change_among-ended left years rights zero t same most each = refl
change_among-ended left [] rights (suc ended) t same most each = absurd (omega arith)
change_among-ended left (year ∷ years) [] (suc ended) t same most each = absurd (omega arith)
change_among-ended left (year ∷ years) (right ∷ rights) (suc ended) t same most each =
    change_among-behind left year years right rights t (each 0 year (omega arith))
    ∙ change_among-ended right years rights ended t (omega arith) (omega arith)
    (λ y d below. each (suc y) d (omega arith))

-- what is so of the quarters from a place on, behind a multiplier: the run's change is one of its years
abbrev IsAt : ℕ → ℤ → List BenchmarkedYear → List ℤ → List ℕ → ℕ → Type 0
IsAt place left years rights is t =
    get_or (changes_from place left years rights is) t no_change ≡ change_among left years rights (4 * place + t)

-- it is so at the place of a year, where it is behind
at_own : (place : ℕ) (left : ℤ) (year : BenchmarkedYear) (years : List BenchmarkedYear) (right : ℤ)
    (rights : List ℤ) (i0 i1 i2 i3 : ℕ) (is : List ℕ) (t : ℕ) → year.place ≡ place →
    ((s : ℕ) → s < length is → IsAt (suc place) right years rights is s) → t < length is + 4 →
    IsAt place left (year ∷ years) (right ∷ rights) (i0 ∷ i1 ∷ i2 ∷ i3 ∷ is) t
at_own place left year years right rights i0 i1 i2 i3 is t here more within =
    ap (λ l. get_or l t no_change) (changes_own place left year years right rights i0 i1 i2 i3 is here)
    ∙ by_quarter t more within
  where
    same : (j : ℕ) → j < 4 → change_in_year year.indicators left right j
        ≡ change_among left (year ∷ years) (right ∷ rights) (4 * place + j)
    same j inside =
        let back : 4 * place + j - 4 * year.place ≡ j = omega arith in
        ap (λ u. change_in_year year.indicators left right u) (sym back)
        ∙ sym (change_among-inside left year years right rights (4 * place + j) (omega arith) (omega arith))

    by_quarter : (t : ℕ) → ((s : ℕ) → s < length is → IsAt (suc place) right years rights is s) → t < length is + 4 →
        get_or (change_in_year year.indicators left right 0 ∷ change_in_year year.indicators left right 1
        ∷ change_in_year year.indicators left right 2 ∷ change_in_year year.indicators left right 3
        ∷ changes_from (suc place) right years rights is) t no_change
        ≡ change_among left (year ∷ years) (right ∷ rights) (4 * place + t)
    by_quarter zero more within = same 0 (omega arith)
    by_quarter (suc zero) more within = same 1 (omega arith)
    by_quarter (suc (suc zero)) more within = same 2 (omega arith)
    by_quarter (suc (suc (suc zero))) more within = same 3 (omega arith)
    by_quarter (suc (suc (suc (suc s)))) more within =
        let on : 4 * suc place + s ≡ 4 * place + suc (suc (suc (suc s))) = omega arith in
        more s (omega arith) ∙ ap (λ u. change_among right years rights u) on
        ∙ sym (change_among-behind left year years right rights (4 * place + suc (suc (suc (suc s)))) (omega arith))

-- it is so at any other place before a year, where it is behind
at_other : (place : ℕ) (left : ℤ) (year : BenchmarkedYear) (years : List BenchmarkedYear) (right : ℤ)
    (rights : List ℤ) (i0 i1 i2 i3 : ℕ) (is : List ℕ) (t : ℕ) → place < year.place →
    ((s : ℕ) → s < length is → IsAt (suc place) left (year ∷ years) (right ∷ rights) is s) → t < length is + 4 →
    IsAt place left (year ∷ years) (right ∷ rights) (i0 ∷ i1 ∷ i2 ∷ i3 ∷ is) t
at_other place left year years right rights i0 i1 i2 i3 is t below more within =
    ap (λ l. get_or l t no_change) (changes_other place left year years right rights i0 i1 i2 i3 is below)
    ∙ by_quarter t more within
  where
    same : (j : ℕ) → j < 4 → steady left ≡ change_among left (year ∷ years) (right ∷ rights) (4 * place + j)
    same j inside = sym (change_among-before left year years right rights (4 * place + j) (omega arith))

    by_quarter : (t : ℕ) → ((s : ℕ) → s < length is → IsAt (suc place) left (year ∷ years) (right ∷ rights) is s) →
        t < length is + 4 →
        get_or (steady left ∷ steady left ∷ steady left ∷ steady left
        ∷ changes_from (suc place) left (year ∷ years) (right ∷ rights) is) t no_change
        ≡ change_among left (year ∷ years) (right ∷ rights) (4 * place + t)
    by_quarter zero more within = same 0 (omega arith)
    by_quarter (suc zero) more within = same 1 (omega arith)
    by_quarter (suc (suc zero)) more within = same 2 (omega arith)
    by_quarter (suc (suc (suc zero))) more within = same 3 (omega arith)
    by_quarter (suc (suc (suc (suc s)))) more within =
        let on : 4 * suc place + s ≡ 4 * place + suc (suc (suc (suc s))) = omega arith in
        more s (omega arith) ∙ ap (λ u. change_among left (year ∷ years) (right ∷ rights) u) on

-- a year to come has quarters left
none_left : (place : ℕ) (year : BenchmarkedYear) (years : List BenchmarkedYear) (count : ℕ) →
    All (λ other. place ≤ other.place) (year ∷ years) →
    All (λ other. 4 * other.place + 4 ≤ 4 * place + count) (year ∷ years) → count < 4 → ⊥
none_left place year years count behind within few =
    let least : place ≤ year.place = behind 0 year (omega arith) in
    let most : 4 * year.place + 4 ≤ 4 * place + count = within 0 year (omega arith) in
    omega arith

-- the changes of a run, four quarters a step, are those of its years at each quarter
pub changes_from-at : (place : ℕ) (left : ℤ) (years : List BenchmarkedYear) (rights : List ℤ) (is : List ℕ) (t : ℕ) →
    length rights ≡ length years → IsStrictlyIncreasing (map (λ year. year.place) years) →
    All (λ year. place ≤ year.place) years → All (λ year. 4 * year.place + 4 ≤ 4 * place + length is) years →
    t < length is → IsAt place left years rights is t
changes_from-at place left [] [] is t same rising behind within inside =
    get_or-map (λ i. steady left) is t 0 no_change inside
changes_from-at place left [] (right ∷ rights) is t same rising behind within inside = absurd (omega arith)
changes_from-at place left (year ∷ years) [] is t same rising behind within inside = absurd (omega arith)
changes_from-at place left (year ∷ years) (right ∷ rights) [] t same rising behind within inside = absurd (omega arith)
changes_from-at place left (year ∷ years) (right ∷ rights) (i0 ∷ []) t same rising behind within inside =
    absurd (none_left place year years 1 behind within (omega arith))
changes_from-at place left (year ∷ years) (right ∷ rights) (i0 ∷ i1 ∷ []) t same rising behind within inside =
    absurd (none_left place year years 2 behind within (omega arith))
changes_from-at place left (year ∷ years) (right ∷ rights) (i0 ∷ i1 ∷ i2 ∷ []) t same rising behind within inside =
    absurd (none_left place year years 3 behind within (omega arith))
changes_from-at place left (year ∷ years) (right ∷ rights) (i0 ∷ i1 ∷ i2 ∷ i3 ∷ is) t same rising behind within inside =
    let above = rising_above year.place years rising in
    let least : place ≤ year.place = behind 0 year (omega arith) in
    let later : IsStrictlyIncreasing (map (λ year. year.place) years) =
    rising_behind year.place (map (λ year. year.place) years) rising in
    by_place (cases_lt place year.place)
    (λ below s more. changes_from-at (suc place) left (year ∷ years) (right ∷ rights) is s same rising
    (All-cons (λ other. suc place ≤ other.place) year years below (λ k d h. let next = above k d h in omega arith))
    (λ k d h. let most = within k d h in omega arith) more)
    (λ reached s more. changes_from-at (suc place) right years rights is s (omega arith) later
    (λ k d h. let next = above k d h in omega arith) (λ k d h. let most = within (suc k) d (omega arith) in omega arith)
    more)
  where
    by_place : (place < year.place) ⊎ (year.place ≤ place) →
        (place < year.place → (s : ℕ) → s < length is → IsAt (suc place) left (year ∷ years) (right ∷ rights) is s) →
        (year.place ≤ place → (s : ℕ) → s < length is → IsAt (suc place) right years rights is s) →
        IsAt place left (year ∷ years) (right ∷ rights) (i0 ∷ i1 ∷ i2 ∷ i3 ∷ is) t
    by_place (inl below) before here =
        at_other place left year years right rights i0 i1 i2 i3 is t below (before below) (omega arith)
    by_place (inr reached) before here =
        let least : place ≤ year.place = behind 0 year (omega arith) in
        at_own place left year years right rights i0 i1 i2 i3 is t (omega arith) (here reached) (omega arith)

-- a choice of two lists of one length has that length
chosen_length : (b : Bool) (xs ys : List Fraction) (n : ℕ) → length xs ≡ n → length ys ≡ n →
    length (if b then xs else ys) ≡ n
chosen_length true xs ys n e f = e
chosen_length false xs ys n e f = f

-- there are as many changes as indicators
pub length-changes_from : (place : ℕ) (left : ℤ) (years : List BenchmarkedYear) (rights : List ℤ) (is : List ℕ) →
    length (changes_from place left years rights is) ≡ length is
length-changes_from place left [] rights is = length-map is (λ i. steady left)
length-changes_from place left (year ∷ years) [] is = length-map is (λ i. steady left)
length-changes_from place left (year ∷ years) (right ∷ rights) [] = refl
length-changes_from place left (year ∷ years) (right ∷ rights) (i0 ∷ []) = refl
length-changes_from place left (year ∷ years) (right ∷ rights) (i0 ∷ i1 ∷ []) = refl
length-changes_from place left (year ∷ years) (right ∷ rights) (i0 ∷ i1 ∷ i2 ∷ []) = refl
length-changes_from place left (year ∷ years) (right ∷ rights) (i0 ∷ i1 ∷ i2 ∷ i3 ∷ is) =
    let own = length-changes_from (suc place) right years rights is in
    let other = length-changes_from (suc place) left (year ∷ years) (right ∷ rights) is in
    chosen_length (year.place == place)
    (change_in_year year.indicators left right 0 ∷ change_in_year year.indicators left right 1
    ∷ change_in_year year.indicators left right 2 ∷ change_in_year year.indicators left right 3
    ∷ changes_from (suc place) right years rights is)
    (steady left ∷ steady left ∷ steady left ∷ steady left
    ∷ changes_from (suc place) left (year ∷ years) (right ∷ rights) is)
    (suc (suc (suc (suc (length is))))) (omega arith) (omega arith)

-- the change into a quarter of the next year that is left
next_inside : (left : ℤ) (years : List BenchmarkedYear) (rights : List ℤ) (ended t : ℕ) (d : BenchmarkedYear) →
    length rights ≡ length years → ended < length years → 4 * (get_or years ended d).place ≤ t →
    t < 4 * (get_or years ended d).place + 4 →
    change_among left (drop ended years) (drop ended rights) t
    ≡ change_in_year (get_or years ended d).indicators left (get_or rights ended (pos 0))
    (t - 4 * (get_or years ended d).place)
next_inside left [] rights ended t d same some reached inside = absurd (omega arith)
next_inside left (year ∷ years) [] ended t d same some reached inside = absurd (omega arith)
next_inside left (year ∷ years) (right ∷ rights) zero t d same some reached inside =
    change_among-inside left year years right rights t reached inside
next_inside left (year ∷ years) (right ∷ rights) (suc ended) t d same some reached inside =
    next_inside left years rights ended t d (omega arith) (omega arith) reached inside

-- before it the multiplier stands
next_before : (left : ℤ) (years : List BenchmarkedYear) (rights : List ℤ) (ended t : ℕ) (d : BenchmarkedYear) →
    length rights ≡ length years → ended < length years → t < 4 * (get_or years ended d).place →
    change_among left (drop ended years) (drop ended rights) t ≡ steady left
next_before left [] rights ended t d same some below = absurd (omega arith)
next_before left (year ∷ years) [] ended t d same some below = absurd (omega arith)
next_before left (year ∷ years) (right ∷ rights) zero t d same some below =
    change_among-before left year years right rights t below
next_before left (year ∷ years) (right ∷ rights) (suc ended) t d same some below =
    next_before left years rights ended t d (omega arith) (omega arith) below

-- so it does where no year is left
none_next : (left : ℤ) (years : List BenchmarkedYear) (rights : List ℤ) (ended t : ℕ) → length years ≤ ended →
    change_among left (drop ended years) (drop ended rights) t ≡ steady left
none_next left years rights ended t past =
    ap (λ l. change_among left l (drop ended rights) t) (drop_all ended years past)

-- the multipliers after each year are as many as the years
pub length-rights : (u : List ℤ) (count : ℕ) → length u + 1 ≡ count → length (u ++ pos 0 ∷ []) ≡ count
length-rights u count joints = omega (arith, length-append u (pos 0 ∷ []))

-- where the years that parts show stand
place_at : (places : List ℕ) (parts : List YearPart) (y : ℕ) (d : BenchmarkedYear) → length places ≡ length parts →
    y < length parts → (get_or (years_in places parts) y d).place ≡ get_or places y 0
place_at [] [] y d placed inside = absurd (omega arith)
place_at [] (part ∷ parts) y d placed inside = absurd (omega arith)
place_at (place ∷ places) [] y d placed inside = absurd (omega arith)
place_at (place ∷ places) (part ∷ parts) zero d placed inside = refl
place_at (place ∷ places) (part ∷ parts) (suc y) d placed inside =
    place_at places parts y d (omega arith) (omega arith)

-- a year without quarters
nowhere : BenchmarkedYear
nowhere = record { place = 0; indicators = []; benchmark = pos 0 }

-- the change into a quarter is one of the years that haven't ended
change_ended : (places : List ℕ) (parts : List YearPart) (u : List ℤ) (ended t : ℕ) →
    length places ≡ length parts → length u + 1 ≡ length parts → AreEnded places ended t →
    change_at_quarter (years_in places parts) u t
    ≡ change_among (get_or (pos 0 ∷ (u ++ pos 0 ∷ [])) ended (pos 0)) (drop ended (years_in places parts))
    (drop ended (u ++ pos 0 ∷ [])) t
change_ended places parts u ended t placed joints are =
    let count = years_in-length places parts placed in
    change_among-ended (pos 0) (years_in places parts) (u ++ pos 0 ∷ []) ended t
    (length-rights u (length (years_in places parts)) (omega arith)) (let most = are.most in omega arith)
    (λ y d below. let most = are.most in
    let stands = place_at places parts y d placed (omega arith) in
    let past = are.each y below in
    omega arith)

-- a quarter of the next year that ends has that year's change
pub change_inside : (places : List ℕ) (parts : List YearPart) (u : List ℤ) (ended t : ℕ) (other : YearPart) →
    length places ≡ length parts → length u + 1 ≡ length parts → AreEnded places ended t → ended < length parts →
    4 * get_or places ended 0 ≤ t →
    change_at_quarter (years_in places parts) u t
    ≡ change_in_year (get_or parts ended other).ind (get_or (pos 0 ∷ (u ++ pos 0 ∷ [])) ended (pos 0))
    (get_or (u ++ pos 0 ∷ []) ended (pos 0)) (t - 4 * get_or places ended 0)
change_inside places parts u ended t other placed joints are some reached =
    let count = years_in-length places parts placed in
    let same : get_or (years_in places parts) ended nowhere
    ≡ year_in (get_or places ended 0) (get_or parts ended other) =
    years_in-at places parts ended nowhere other placed some in
    let below : t < 4 * get_or places ended 0 + 4 = are.next (omega arith) in
    change_ended places parts u ended t placed joints are
    ∙ (rw same at (next_inside (get_or (pos 0 ∷ (u ++ pos 0 ∷ [])) ended (pos 0)) (years_in places parts)
    (u ++ pos 0 ∷ []) ended t nowhere (length-rights u (length (years_in places parts)) (omega arith))
    (omega arith) (rw same reached) (rw same below)))

-- a quarter before it has the multiplier that stands there
pub change_outside : (places : List ℕ) (parts : List YearPart) (u : List ℤ) (ended t : ℕ) →
    length places ≡ length parts → length u + 1 ≡ length parts → AreEnded places ended t → ended < length parts →
    t < 4 * get_or places ended 0 →
    change_at_quarter (years_in places parts) u t ≡ steady (get_or (pos 0 ∷ (u ++ pos 0 ∷ [])) ended (pos 0))
change_outside places parts u ended t placed joints are some below =
    let count = years_in-length places parts placed in
    let stands = place_at places parts ended nowhere placed some in
    change_ended places parts u ended t placed joints are
    ∙ next_before (get_or (pos 0 ∷ (u ++ pos 0 ∷ [])) ended (pos 0)) (years_in places parts)
    (u ++ pos 0 ∷ []) ended t nowhere (length-rights u (length (years_in places parts)) (omega arith))
    (omega arith) (omega arith)

-- so has a quarter behind all years
pub change_past : (places : List ℕ) (parts : List YearPart) (u : List ℤ) (ended t : ℕ) →
    length places ≡ length parts → length u + 1 ≡ length parts → AreEnded places ended t → length parts ≤ ended →
    change_at_quarter (years_in places parts) u t ≡ steady (get_or (pos 0 ∷ (u ++ pos 0 ∷ [])) ended (pos 0))
change_past places parts u ended t placed joints are past =
    let count = years_in-length places parts placed in
    change_ended places parts u ended t placed joints are
    ∙ none_next (get_or (pos 0 ∷ (u ++ pos 0 ∷ [])) ended (pos 0)) (years_in places parts) (u ++ pos 0 ∷ []) ended t
    (omega arith)

-- the floor and the ceiling of a change that is a whole number are that number
pub steady_bounds : (left : ℤ) → (left ≡ floor_of left (pos 1)) × (left ≡ ceil_of left (pos 1))
steady_bounds left =
    let one : pos 1 *ℤ left ≡ left = same_by_ring (left ∷ []) (num (pos 1) ⊗ var 0) (var 0) refl in
    let positive : pos 0 <ℤ pos 1 = omega (arith, linear) in
    (sym (rw one at (floor_exact (pos 1) left positive)), sym (rw one at (ceil_exact (pos 1) left positive)))

-- what holds of the places of years, year by year
All-from_map : (P : ℕ → Type 0) (years : List BenchmarkedYear) → All P (map (λ year. year.place) years) →
    All (λ year. P year.place) years
All-from_map P [] all k d inside = absurd (omega arith)
All-from_map P (year ∷ years) all zero d inside = all 0 0 (omega arith)
All-from_map P (year ∷ years) all (suc k) d inside =
    All-from_map P years (λ y e h. all (suc y) e (omega arith)) k d (omega arith)

-- the change into a quarter of the run is one of its years
pub changes-at : (places : List ℕ) (parts : List YearPart) (u : List ℤ) (is : List ℕ) (t : ℕ) →
    length places ≡ length parts → length u + 1 ≡ length parts → AreYearsOf is (years_in places parts) →
    t < length is →
    get_or (changes (years_in places parts) u is) t no_change ≡ change_at_quarter (years_in places parts) u t
changes-at places parts u is t placed joints are inside =
    let count = years_in-length places parts placed in
    let whole = All-from_map (λ place. 4 * place + 4 ≤ length is) (years_in places parts) are.places.whole_years in
    let start : 4 * 0 + t ≡ t = omega arith in
    changes_from-at 0 (pos 0) (years_in places parts) (u ++ pos 0 ∷ []) is t
    (length-rights u (length (years_in places parts)) (omega arith)) are.places.rising (λ k d h. omega arith)
    (λ k d h. let most = whole k d h in omega arith) inside
    ∙ ap (λ s. change_at_quarter (years_in places parts) u s) start

-- a run with a benchmarked year has its four quarters
pub some_quarters : (places : List ℕ) (parts : List YearPart) (is : List ℕ) → length places ≡ length parts →
    1 ≤ length parts → AreYearsOf is (years_in places parts) → 4 ≤ length is
some_quarters places parts is placed some are =
    let count = years_in-length places parts placed in
    let first = are.places.whole_years 0 0 (omega (arith, length-map (years_in places parts) (λ year. year.place))) in
    omega arith

-- the places of a run's years rise
pub places_rise : (places : List ℕ) (parts : List YearPart) (is : List ℕ) → length places ≡ length parts →
    AreYearsOf is (years_in places parts) → IsStrictlyIncreasing places
places_rise places parts is placed are =
    subst IsStrictlyIncreasing (years_in-places places parts placed) are.places.rising
