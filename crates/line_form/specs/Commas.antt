-- Fields as places in a line: where its commas are, and what stands between them.
use Rattle.std.specs.Prelude.{ℕ, zero, suc, ◌+◌, ◌-◌, ◌≤◌, ◌==◌, if◌then◌else◌, List, [], ◌∷◌, take, drop}
use Rattle.csv.specs.Writing.{comma}

-- the places of the commas, where the bytes begin at a place
unfoldable pub commas_from : ℕ → List ℕ → List ℕ
commas_from i [] = []
commas_from i (b ∷ bs) = if b == comma then i ∷ commas_from (i + 1) bs else commas_from (i + 1) bs

-- what stands between these places, from a start on
unfoldable pub cut_at : ℕ → List ℕ → List ℕ → List (List ℕ)
cut_at start [] text = drop start text ∷ []
cut_at start (e ∷ es) text = take (e - start) (drop start text) ∷ cut_at (e + 1) es text

-- the places rise from a start on, and lie in so many bytes
unfoldable pub Rising : ℕ → List ℕ → ℕ → Type 0
Rising start [] size = start ≤ size
Rising start (e ∷ es) size = (start ≤ e) × Rising (e + 1) es size

-- where the part at a place starts: behind the comma before it
unfoldable pub start_at : ℕ → List ℕ → ℕ → ℕ
start_at start es zero = start
start_at start [] (suc i) = start
start_at start (e ∷ es) (suc i) = start_at (e + 1) es i

-- where it ends: at the comma after it, or at the end of the bytes
unfoldable pub end_at : List ℕ → ℕ → ℕ → ℕ
end_at [] i size = size
end_at (e ∷ es) zero size = e
end_at (e ∷ es) (suc i) size = end_at es i size
