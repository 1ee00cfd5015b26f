use Rattle.std.proofs.Common.{◌≡◌, ◌++◌, ◌∷◌, [], false, length, map, sym, ap, subst, ◌∙◌, arith}
use Rattle.std.proofs.lemmas.Grind.{common_steps}
use Rattle.std.proofs.lemmas.List.{length-map}
use Rattle.std.specs.List.{list_any}
use Rattle.std.specs.Str.{bytes_eq}
use Rattle.series_tables.specs.Items.{ItemList, AreNames}
use Rattle.series_tables.proofs.Distinct.{names_more}
use Rattle.series_tables.proofs.Names.{keys_with_new_key, names_with_new_key}
use Rattle.series_tables.proofs.Parents.{kept_more}
use Rattle.series_tables.proofs.items.Items.add.Goals as goal

pub invariant_of-self-in-Ok : goal.invariant_of-self-in-Ok
invariant_of-self-in-Ok c =
    let absent : list_any (bytes_eq c.args.name.now) (map (λ name. name.items) c.self.inside.names.keys) ≡ false = ap (λ (i : ItemList). list_any (bytes_eq c.args.name.now) i.names) c.self.view_is ∙ c.requires.unused in
    let keys = keys_with_new_key (λ name. name.items) c.self.inside.names.keys c.insert.new.self.keys c.in_ok-name.name c.args.name.now c.in_ok-name.ensures.items c.in-Ok.ensures.keys absent in
    let number : length c.args.self.now.names ≡ length c.self.inside.names.keys =
    sym (ap (λ (i : ItemList). length i.names) c.self.view_is) ∙ length-map c.self.inside.names.keys (λ name. name.items) in
    let kept = kept_more c.self.inside.names.keys c.insert.new.self.keys c.in_ok-name.name c.self.inside.parents.items c.push.new.self.items c.args.parent (length c.args.self.now.names) keys
    c.in_ok-push.ensures.items c.self.invariant.1 c.self.invariant.2 number c.requires.few c.requires.smaller in
    let names = names_with_new_key (λ name. name.items) c.self.inside.names.keys c.insert.new.self.keys c.in_ok-name.name c.args.name.now c.in_ok-name.ensures.items keys in
    (kept.0, kept.1, kept.2, subst AreNames (sym names) (names_more _ c.args.name.now c.self.invariant.3 c.requires.name absent))

pub invariant_of-self-in-Err : goal.invariant_of-self-in-Err
invariant_of-self-in-Err c =
    let parents : c.pop.new.self.items ≡ c.self.inside.parents.items = grind (arith, common_steps) in
    let keys : c.insert.new.self.keys ≡ c.self.inside.names.keys = c.in-Err.ensures.err in
    rw (parents, keys) c.self.invariant

pub returns-in-Ok-clause-names : goal.returns-in-Ok-clause-names
returns-in-Ok-clause-names c =
    let absent : list_any (bytes_eq c.args.name.now) (map (λ name. name.items) c.self.inside.names.keys) ≡ false = ap (λ (i : ItemList). list_any (bytes_eq c.args.name.now) i.names) c.self.view_is ∙ c.requires.unused in
    let keys = keys_with_new_key (λ name. name.items) c.self.inside.names.keys c.insert.new.self.keys c.in_ok-name.name c.args.name.now c.in_ok-name.ensures.items c.in-Ok.ensures.keys absent in
    names_with_new_key (λ name. name.items) c.self.inside.names.keys c.insert.new.self.keys c.in_ok-name.name c.args.name.now c.in_ok-name.ensures.items keys
    ∙ ap (λ (i : ItemList). i.names ++ c.args.name.now ∷ []) c.self.view_is
