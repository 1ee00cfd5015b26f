use Rattle.std.proofs.Common.{◌≡◌, List, ℕ, Some, slice_get, sym, ap, subst, ◌∙◌}
use Rattle.std.specs.Option.{option_map}
use Rattle.std.proofs.lemmas.Option.{slice_get-map}
use Rattle.series_tables.specs.Items.{ItemList, AreNames}
use Rattle.series_tables.proofs.Distinct.{name_at, name_found}
use Rattle.series_tables.proofs.items.Items.name.Goals as goal

pub returns-clause-name : goal.returns-clause-name
returns-clause-name c =
    let item : slice_get c.args.self.now.names c.args.node ≡ Some c.as_slice.result.now =
    ap (λ (i : ItemList). slice_get i.names c.args.node) (sym c.self.view_is) ∙ slice_get-map (λ name. name.items) c.self.inside.names.keys c.args.node
    ∙ ap (option_map (λ name. name.items)) c.index.ensures ∙ ap (λ (bytes : List ℕ). Some bytes) (sym c.as_slice.ensures.value) in
    name_at c.args.self.now.names c.args.node c.as_slice.result.now (subst (λ (i : ItemList). AreNames i.names) c.self.view_is c.self.invariant.3) item

pub returns-clause-found : goal.returns-clause-found
returns-clause-found c =
    let item : slice_get c.args.self.now.names c.args.node ≡ Some c.as_slice.result.now =
    ap (λ (i : ItemList). slice_get i.names c.args.node) (sym c.self.view_is) ∙ slice_get-map (λ name. name.items) c.self.inside.names.keys c.args.node
    ∙ ap (option_map (λ name. name.items)) c.index.ensures ∙ ap (λ (bytes : List ℕ). Some bytes) (sym c.as_slice.ensures.value) in
    name_found c.args.self.now.names c.args.node c.as_slice.result.now (subst (λ (i : ItemList). AreNames i.names) c.self.view_is c.self.invariant.3) item
