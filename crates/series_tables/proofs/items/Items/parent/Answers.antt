use Rattle.std.proofs.Common.{◌≡◌, ◌<◌, length, map, arith, ap}
use Rattle.std.proofs.lemmas.List.{length-map}
use Rattle.series_tables.specs.Items.{ItemList}
use Rattle.series_tables.proofs.Parents.{smaller_parent}
use Rattle.series_tables.proofs.items.Items.parent.Goals as goal

pub returns-clause-smaller : goal.returns-clause-smaller
returns-clause-smaller c =
    let seen : length (map (λ name. name.items) c.self.inside.names.keys) ≡ length c.args.self.now.names = ap (λ (i : ItemList). length i.names) c.self.view_is in
    let kept : length (map (λ name. name.items) c.self.inside.names.keys) ≡ length c.self.inside.names.keys = length-map c.self.inside.names.keys (λ name. name.items) in
    let within : c.args.node < length c.self.inside.parents.items = omega (arith, c.self.invariant.1, c.requires, seen, kept) in
    smaller_parent c.self.inside.parents.items c.args.node c.index.result.now c.self.invariant.2 within c.index.ensures
