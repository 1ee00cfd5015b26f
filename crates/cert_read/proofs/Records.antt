-- Records by how many fields they have.
use Rattle.std.proofs.Common.{◌≡◌, ◌≢◌, ℕ, List, [], ◌∷◌, length, get_or, None, refl, arith}
use Rattle.cert_read.specs.Statement.{statement_of, single, plain, dated}

-- a record of one field is that field
pub one_field : (fields : List (List ℕ)) → length fields ≡ 1 → statement_of fields ≡ single (get_or fields 0 [])
unfolding statement_of
one_field [] e = absurd (omega arith)
one_field (a ∷ []) e = refl
one_field (a ∷ b ∷ fields) e = absurd (omega arith)

-- a record of two fields is those fields
pub two_fields : (fields : List (List ℕ)) → length fields ≡ 2 → statement_of fields ≡ plain (get_or fields 0 []) (get_or fields 1 [])
unfolding statement_of
two_fields [] e = absurd (omega arith)
two_fields (a ∷ []) e = absurd (omega arith)
two_fields (a ∷ b ∷ []) e = refl
two_fields (a ∷ b ∷ c ∷ fields) e = absurd (omega arith)

-- a record of three fields is those fields
pub three_fields : (fields : List (List ℕ)) → length fields ≡ 3 → statement_of fields ≡ dated (get_or fields 0 []) (get_or fields 1 []) (get_or fields 2 [])
unfolding statement_of
three_fields [] e = absurd (omega arith)
three_fields (a ∷ []) e = absurd (omega arith)
three_fields (a ∷ b ∷ []) e = absurd (omega arith)
three_fields (a ∷ b ∷ c ∷ []) e = refl
three_fields (a ∷ b ∷ c ∷ d ∷ fields) e = absurd (omega arith)

-- no other record says anything
pub other_fields : (fields : List (List ℕ)) → length fields ≢ 1 → length fields ≢ 2 → length fields ≢ 3 → statement_of fields ≡ None
unfolding statement_of
other_fields [] h i j = refl
other_fields (a ∷ []) h i j = absurd (h refl)
other_fields (a ∷ b ∷ []) h i j = absurd (i refl)
other_fields (a ∷ b ∷ c ∷ []) h i j = absurd (j refl)
other_fields (a ∷ b ∷ c ∷ d ∷ fields) h i j = refl
