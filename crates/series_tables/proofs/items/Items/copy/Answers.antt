use Rattle.std.proofs.Common.{◌≡◌, List, ℕ, length, map, vec_len, ap, sym, subst, ◌∙◌, arith}
use Rattle.std.proofs.lemmas.List.{length-map}
use Rattle.series_tables.specs.Items.{AreBackward, AreNames}
use Rattle.series_tables.proofs.Names.{names_of_copies}
use Rattle.series_tables.proofs.Parents.{same_items}
use Rattle.series_tables.proofs.items.Items.copy.Goals as goal

pub invariant_of-result : goal.invariant_of-result
invariant_of-result c =
    let names : map (λ name. name.items) c.in_ok-clone.field-0.keys ≡ map (λ name. name.items) c.self.inside.names.keys =
    names_of_copies (λ name. name.items) (λ name. vec_len name) c.self.inside.names.keys c.in_ok-clone.field-0.keys c.in_ok-clone.ensures.cases in
    let parents : c.in_ok-from_slice.field-0.items ≡ c.self.inside.parents.items = c.in_ok-from_slice.ensures.items ∙ c.deref.ensures.value in
    let many : length c.in_ok-clone.field-0.keys ≡ length c.self.inside.names.keys =
    sym (length-map c.in_ok-clone.field-0.keys (λ name. name.items)) ∙ ap (λ (l : List (List ℕ)). length l) names ∙ length-map c.self.inside.names.keys (λ name. name.items) in
    (omega (arith, many, c.self.invariant.0), ap length parents ∙ c.self.invariant.1 ∙ sym many, subst AreBackward (sym parents) c.self.invariant.2, subst AreNames (sym names) c.self.invariant.3)

pub returns : goal.returns
returns c =
    same_items _ _ _ _ (names_of_copies (λ name. name.items) (λ name. vec_len name) c.self.inside.names.keys c.in_ok-clone.field-0.keys c.in_ok-clone.ensures.cases)
    (c.in_ok-from_slice.ensures.items ∙ c.deref.ensures.value) ∙ c.self.view_is
