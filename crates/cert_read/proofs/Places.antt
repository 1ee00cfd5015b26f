-- Places of years that rise, one after the other.
use Rattle.std.specs.Prelude.{◌≡◌, ℕ, ◌+◌, ◌-◌, ◌*◌, ◌≤◌, ◌<◌, List, [], ◌∷◌, ◌++◌, map, length, slice_index, slice_get, Some}
use Rattle.std.specs.List.{All}
use Rattle.std.specs.List.Sorted.{IsStrictlyIncreasing}
use Rattle.std.proofs.Common.{refl, sym, ◌∙◌, ap, arith, zero, suc, get_or, inl, inr, ◌⊎◌}
use Rattle.std.proofs.lemmas.Bool.{cases_lt}
use Rattle.std.proofs.lemmas.List.{length-append, get_or_append_left, get_or_push}
use Rattle.std.proofs.lemmas.List.Elements.{All-push}
use Rattle.denton_parts.specs.Years.{ArePlaces}
use Rattle.cert_read.specs.Content.{place_behind}

-- behind a last place is the next one
pub place_behind-last : (free : ℕ) (places : List ℕ) → 1 ≤ length places →
    place_behind free places ≡ suc (get_or places (length places - 1) 0)
place_behind-last free [] some = absurd (omega arith)
place_behind-last free (place ∷ []) some = refl
place_behind-last free (place ∷ next ∷ places) some =
    let back : length (place ∷ next ∷ places) - 1 ≡ suc (length (next ∷ places) - 1) = omega arith in
    place_behind-last (suc place) (next ∷ places) (omega arith)
    ∙ ap (λ k. suc (get_or (place ∷ next ∷ places) k 0)) (sym back)

-- so it is where the places are those of other values
pub behind_last : {X : Type 0} (f : X → ℕ) (free : ℕ) (xs : List X) (x : X) →
    slice_get xs (length xs - 1) ≡ Some x → place_behind free (map f xs) ≡ suc (f x)
behind_last f free [] x last = absurd cc
behind_last f free (y ∷ []) x last = let same : y ≡ x = cc in ap (λ z. suc (f z)) same
behind_last f free (y ∷ z ∷ ys) x last =
    let back : length (y ∷ z ∷ ys) - 1 ≡ suc (length (z ∷ ys) - 1) = omega arith in
    behind_last f (suc (f y)) (z ∷ ys) x (rw back at last)

-- a rising list rises behind its first number
rising_behind : (first : ℕ) (rest : List ℕ) → IsStrictlyIncreasing (first ∷ rest) → IsStrictlyIncreasing rest
rising_behind first rest rising k inside =
    let next : suc k + 1 ≡ suc (suc k) = omega arith in
    let up : k + 1 ≡ suc k = omega arith in
    rw up (rw next at (rising (suc k) (omega arith)))

-- each of the rising places is behind those before it
pub behind_each : (free : ℕ) (before : List ℕ) (place : ℕ) (later : List ℕ) →
    IsStrictlyIncreasing (before ++ place ∷ later) → free ≤ get_or (before ++ place ∷ later) 0 0 →
    place_behind free before ≤ place
behind_each free [] place later rising least = least
behind_each free (first ∷ before) place later rising least =
    let count = length-append before (place ∷ later) in
    let next : first < get_or (before ++ place ∷ later) 0 0 = rising 0 (omega arith) in
    behind_each (suc first) before place later (rising_behind first (before ++ place ∷ later) rising) next

-- places rise with one more behind them
rising_more : (places : List ℕ) (place : ℕ) → IsStrictlyIncreasing places → place_behind 0 places ≤ place →
    IsStrictlyIncreasing (places ++ place ∷ [])
rising_more places place rising behind k inside =
    let count = length-append places (place ∷ []) in
    by_place (cases_lt (k + 1) (length places)) (omega arith)
  where
    by_place : (k + 1 < length places) ⊎ (length places ≤ k + 1) → k + 1 < length places + 1 →
        slice_index (places ++ place ∷ []) k < slice_index (places ++ place ∷ []) (k + 1)
    by_place (inl earlier) within =
        let here = get_or_append_left places (place ∷ []) 0 k (omega arith) in
        let next = get_or_append_left places (place ∷ []) 0 (k + 1) earlier in
        let below : get_or places k 0 < get_or places (k + 1) 0 = rising k earlier in
        omega arith
    by_place (inr last) within =
        let here = get_or_append_left places (place ∷ []) 0 k (omega arith) in
        let next = get_or_push places place 0 (k + 1) (omega arith) in
        let reached = place_behind-last 0 places (omega arith) in
        let back : length places - 1 ≡ k = omega arith in
        let same : get_or places (length places - 1) 0 ≡ get_or places k 0 = ap (λ u. get_or places u 0) back in
        omega arith

-- one more place that has its four quarters
pub places_more : (quarters : ℕ) (places : List ℕ) (place : ℕ) → ArePlaces quarters places →
    place_behind 0 places ≤ place → 4 * place + 4 ≤ quarters → ArePlaces quarters (places ++ place ∷ [])
places_more quarters places place are behind whole = record {
  rising = rising_more places place are.rising behind;
  whole_years = All-push (λ (p : ℕ). 4 * p + 4 ≤ quarters) places place are.whole_years whole;
}

-- places of years keep their quarters where more follow
pub places_kept : (quarters more : ℕ) (places : List ℕ) → quarters ≤ more → ArePlaces quarters places →
    ArePlaces more places
places_kept quarters more places least are = record {
  rising = are.rising;
  whole_years = λ k d inside. let whole = are.whole_years k d inside in omega arith;
}

-- no places
pub none_placed : (quarters : ℕ) → ArePlaces quarters []
none_placed quarters = record {
  rising = λ k inside. absurd (omega arith);
  whole_years = λ k d inside. absurd (omega arith);
}

-- a year that isn't before a start is so many years behind it
pub year_back : (start behind year : ℕ) → start + behind ≤ year → start + (year - start) ≡ year
year_back start behind year least = omega arith

-- rising numbers stand in their order
pub rising_apart : (places : List ℕ) (a b : ℕ) → IsStrictlyIncreasing places → a < b → b < length places →
    get_or places a 0 < get_or places b 0
rising_apart places a zero rising below inside = absurd (omega arith)
rising_apart places a (suc b) rising below inside =
    let next : b + 1 ≡ suc b = omega arith in
    let step : get_or places b 0 < get_or places (suc b) 0 = rw next at (rising b (omega arith)) in
    let more = rising_apart places a b rising in
    by_order (cases_lt a b) more step
  where
    by_order : (a < b) ⊎ (b ≤ a) → (a < b → b < length places → get_or places a 0 < get_or places b 0) →
        get_or places b 0 < get_or places (suc b) 0 → get_or places a 0 < get_or places (suc b) 0
    by_order (inl lower) more step = let before = more lower (omega arith) in omega arith
    by_order (inr reached) more step = let same : a ≡ b = omega arith in rw same step
