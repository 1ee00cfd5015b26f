-- What follows of an outcome.
use Rattle.std.specs.Prelude.{◌≡◌, List, [], ◌∷◌, length, IfOk, Result, Ok, Err}
use Rattle.std.proofs.Common.{refl, arith}

-- where P gives Q, an outcome that is fine by P is fine by Q
pub if_ok : {T E : Type 0} (result : Result T E) (P Q : T → Type 0) → ((x : T) → P x → Q x) → IfOk result P → IfOk result Q
if_ok (Ok x) P Q gives holds = gives x holds
if_ok (Err e) P Q gives holds = tt

-- a list of no elements is empty
pub none_there : {X : Type 0} (xs : List X) → length xs ≡ 0 → xs ≡ []
none_there [] e = refl
none_there (x ∷ xs) e = absurd (omega arith)

-- what follows of two facts of a result, and of six
pub ok_both : {T E : Type 0} (result : Result T E) (P Q R : T → Type 0) → ((x : T) → P x → Q x → R x) →
    IfOk result P → IfOk result Q → IfOk result R
ok_both (Ok x) P Q R gives p q = gives x p q
ok_both (Err e) P Q R gives p q = tt

pub ok_six : {T E : Type 0} (result : Result T E) (O P Q R S U V : T → Type 0) →
    ((x : T) → O x → P x → Q x → R x → S x → U x → V x) →
    IfOk result O → IfOk result P → IfOk result Q → IfOk result R → IfOk result S → IfOk result U → IfOk result V
ok_six (Ok x) O P Q R S U V gives o p q r s u = gives x o p q r s u
ok_six (Err e) O P Q R S U V gives o p q r s u = tt
