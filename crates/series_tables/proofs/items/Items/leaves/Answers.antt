use Rattle.std.proofs.Common.{◌≡◌, ◌∙◌, IfOk, Result, Ok, Err, List, Option, ℕ, Bool, length, map, ap, sym}
use Rattle.std.proofs.lemmas.List.{length-map}
use Rattle.series_tables.specs.Items.{ItemList, leaf_flags as leaf_flags_of, leaf_flags_behind}
use Rattle.series_tables.proofs.Parents.{flags_behind, length-flags}
use Rattle.series_tables.proofs.items.Items.leaves.Goals as goal

-- where P gives Q, an outcome that is fine by P is fine by Q
if_ok : {T E : Type 0} (result : Result T E) (P Q : T → Type 0) → ((x : T) → P x → Q x) → IfOk result P → IfOk result Q
if_ok (Ok x) P Q gives holds = gives x holds
if_ok (Err e) P Q gives holds = tt

pub returns-clause-behind : goal.returns-clause-behind
returns-clause-behind c =
    let parents : c.deref.result.now ≡ c.self.inside.parents.items = c.deref.ensures.value in
    let seen : c.self.inside.parents.items ≡ c.args.self.now.parents = ap (λ (i : ItemList). i.parents) c.self.view_is in
    if_ok c.leaf_flags.result _ _
    (λ flags e. e ∙ ap leaf_flags_of parents ∙ flags_behind c.self.inside.parents.items c.self.invariant.2 ∙ ap leaf_flags_behind seen) c.leaf_flags.ensures

pub returns-clause-all : goal.returns-clause-all
returns-clause-all c =
    let parents : c.deref.result.now ≡ c.self.inside.parents.items = c.deref.ensures.value in
    let names : length (map (λ name. name.items) c.self.inside.names.keys) ≡ length c.args.self.now.names = ap (λ (i : ItemList). length i.names) c.self.view_is in
    if_ok c.leaf_flags.result _ _
    (λ flags e. ap (λ (l : List Bool). length l) e ∙ length-flags c.deref.result.now ∙ ap (λ (l : List (Option ℕ)). length l) parents ∙ c.self.invariant.1
    ∙ sym (length-map c.self.inside.names.keys (λ name. name.items)) ∙ names) c.leaf_flags.ensures
