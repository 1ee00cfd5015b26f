-- What follows from facts of a success.
use Rattle.std.specs.Prelude.{OnOk, OnErr, IsErrOf, IsOk}
use Rattle.std.specs.declared.result.Result.{Result}
use Rattle.std.specs.declared.result.Result.TheVariants.{Ok, Err}

-- what follows from facts of a success holds of the success
pub on_ok : {T E : Type 0} {A B : Type 0} (result : Result T E) → (A → B) → OnOk result A → OnOk result B
on_ok (Ok value) then a = then a
on_ok (Err error) then a = tt

pub on_ok-3 : {T E : Type 0} {A B C D : Type 0} (result : Result T E) → (A → B → C → D) → OnOk result A → OnOk result B → OnOk result C → OnOk result D
on_ok-3 (Ok value) then a b c = then a b c
on_ok-3 (Err error) then a b c = tt

-- what follows from facts of an error holds of the error
pub on_err : {T E : Type 0} {A B : Type 0} (result : Result T E) → (A → B) → OnErr result A → OnErr result B
on_err (Ok value) then a = tt
on_err (Err error) then a = then a

-- what holds of an error, where there is this one, and of a success, where there is one
pub on_error : {T E : Type 0} {error : E} {A : Type 0} (result : Result T E) → IsErrOf result error → OnErr result A → A
on_error (Ok value) is a = absurd (let never = is in cc)
on_error (Err error) is a = a

pub on_success : {T E : Type 0} {A : Type 0} (result : Result T E) → IsOk result → OnOk result A → A
on_success (Ok value) is a = a
on_success (Err error) is a = absurd (let never = is in cc)
