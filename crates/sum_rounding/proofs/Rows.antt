-- The definition computes the share-outs that are known.
use Rattle.std.proofs.Common.{◌≡◌, pos, negsuc, [], ◌∷◌, refl}
use Rattle.sum_rounding.specs.ShareOut.{share_of}

-- ten over four equal quarters: the two units left go to the first two
ten : share_of (pos 10 ∷ pos 10 ∷ pos 10 ∷ pos 10 ∷ []) (pos 4) (pos 10) ≡ pos 3 ∷ pos 3 ∷ pos 2 ∷ pos 2 ∷ []
unfolding share_of
ten = refl

-- the same below zero: the floors are -3
minus_ten : share_of (negsuc 9 ∷ negsuc 9 ∷ negsuc 9 ∷ negsuc 9 ∷ []) (pos 4) (negsuc 9) ≡ negsuc 1 ∷ negsuc 1 ∷ negsuc 2 ∷ negsuc 2 ∷ []
unfolding share_of
minus_ten = refl

-- a thousand over four equal quarters: nothing is left
thousand : share_of (pos 100000 ∷ pos 100000 ∷ pos 100000 ∷ pos 100000 ∷ []) (pos 400) (pos 1000) ≡ pos 250 ∷ pos 250 ∷ pos 250 ∷ pos 250 ∷ []
unfolding share_of
thousand = refl
