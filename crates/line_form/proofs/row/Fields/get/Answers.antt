-- The field at a place is there.
use Rattle.std.proofs.Common.{◌≡◌, ◌<◌, ◌+◌, ◌∙◌, List, ℕ, length, sym, ap, arith, get_or}
use Rattle.std.proofs.Common.{[], ◌∷◌, zero, suc, Option, Some, None, option_map, Bor, refl}
use Rattle.std.specs.Option.{IsSome}
use Rattle.csv.specs.Records.{field_at, fields_of}
use Rattle.line_form.specs.Held.{fields_in}
use Rattle.line_form.proofs.CommaPlaces.{length-cut_at}
use Rattle.line_form.proofs.row.Fields.get.Goals as goal

pub part-requires-clause-within : goal.part-requires-clause-within
part-requires-clause-within c =
    let held = sym (ap fields_in c.in-Cut.is) ∙ c.self.view_is in
    let size : length c.in-Cut.commas.items + 1 ≡ length c.args.self.now = sym (length-cut_at 0 c.in-Cut.commas.items c.in-Cut.text.now) ∙ ap length held in
    let same : length c.as_slice.result.now ≡ length c.in-Cut.commas.items = ap length c.as_slice.ensures in
    omega arith

field_at_get : (fs : List (List ℕ)) (i : ℕ) → i < length fs → field_at fs i ≡ Some (get_or fs i [])
unfolding field_at
field_at_get [] i lt = absurd (omega arith)
field_at_get (f ∷ fs) zero lt = refl
field_at_get (f ∷ fs) (suc i) lt = field_at_get fs i (omega arith)

some_lent : (o : Option (Bor (List ℕ))) (x : List ℕ) → option_map (λ (s : Bor (List ℕ)). s.now) o ≡ Some x → IsSome o
some_lent None x h = cc
some_lent (Some s) x h = refl

same_value : (x y : List ℕ) → Some x ≡ Some y → x ≡ y
same_value x y h = cc

pub unwrap-requires : goal.unwrap-requires
unwrap-requires c =
    let held = sym (ap fields_in c.in-Read.is) ∙ c.self.view_is in
    let size : length (fields_of c.in-Read.row) ≡ length c.args.self.now = ap length held in
    some_lent c.get.result _ (c.get.ensures.value ∙ field_at_get (fields_of c.in-Read.row) c.args.i (omega arith))

pub returns-in-Read : goal.returns-in-Read
returns-in-Read c =
    let held = sym (ap fields_in c.in-Read.is) ∙ c.self.view_is in
    let size : length (fields_of c.in-Read.row) ≡ length c.args.self.now = ap length held in
    let lent = sym (ap (option_map (λ (s : Bor (List ℕ)). s.now)) c.unwrap.ensures) ∙ c.get.ensures.value ∙ field_at_get (fields_of c.in-Read.row) c.args.i (omega arith) in
    same_value c.unwrap.result.now (get_or (fields_of c.in-Read.row) c.args.i []) lent ∙ ap (λ (fs : List (List ℕ)). get_or fs c.args.i []) held
