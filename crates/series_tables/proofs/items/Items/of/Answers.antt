use Rattle.std.proofs.Common.{◌≡◌, ◌<◌, ◌++◌, ◌∷◌, [], ℕ, List, Option, None, false, length, take, get_or, IsTrue, sym, ap, subst, ◌∙◌, arith}
use Rattle.std.specs.List.{list_any}
use Rattle.std.specs.Str.{bytes_eq}
use Rattle.std.proofs.lemmas.List.{get_or-map, length-map, length-take, take_more}
use Rattle.line_form.specs.Name.{is_name}
use Rattle.series_tables.specs.IsPlan.{names_of, parents_of}
use Rattle.series_tables.proofs.Distinct.{unused_before}
use Rattle.series_tables.proofs.items.Items.of.Goals as goal

pub add-requires-clause-name : goal.add-requires-clause-name
add-requires-clause-name c =
    let at : ℕ = c.loop-item.item-index in
    let read : get_or (names_of c.args.items.now) at [] ≡ c.deref.result.now =
    get_or-map (λ item. item.name.items) c.args.items.now at c.item-item.result [] c.loop-item-test.true ∙ ap (λ item. item.name.items) (sym c.item-item.is) ∙ sym c.deref.ensures.value in
    let inside : at < length (names_of c.args.items.now) = omega (arith, c.loop-item-test.true, length-map c.args.items.now (λ item. item.name.items)) in
    subst (λ n. IsTrue (is_name n)) read (c.requires.names.each at [] inside)

pub add-requires-clause-unused : goal.add-requires-clause-unused
add-requires-clause-unused c =
    let at : ℕ = c.loop-item.item-index in
    let read : get_or (names_of c.args.items.now) at [] ≡ c.deref.result.now =
    get_or-map (λ item. item.name.items) c.args.items.now at c.item-item.result [] c.loop-item-test.true ∙ ap (λ item. item.name.items) (sym c.item-item.is) ∙ sym c.deref.ensures.value in
    let inside : at < length (names_of c.args.items.now) = omega (arith, c.loop-item-test.true, length-map c.args.items.now (λ item. item.name.items)) in
    ap (λ (names : List (List ℕ)). list_any (bytes_eq c.deref.result.now) names) c.loop-item.invariant.0
    ∙ subst (λ (n : List ℕ). list_any (bytes_eq n) (take at (names_of c.args.items.now)) ≡ false) read (unused_before (names_of c.args.items.now) at c.requires.names inside)

pub add-requires-clause-smaller : goal.add-requires-clause-smaller
add-requires-clause-smaller c = λ p given.
    let at : ℕ = c.loop-item.item-index in
    let read : get_or (parents_of c.args.items.now) at None ≡ c.item-item.result.parent =
    get_or-map (λ item. item.parent) c.args.items.now at c.item-item.result None c.loop-item-test.true ∙ ap (λ item. item.parent) (sym c.item-item.is) in
    let inside : at < length (parents_of c.args.items.now) = omega (arith, c.loop-item-test.true, length-map c.args.items.now (λ item. item.parent)) in
    let low : p < at = c.requires.parents at inside p (read ∙ given) in
    let many : length c.loop-item.made.names ≡ length (take at (names_of c.args.items.now)) = ap (λ (names : List (List ℕ)). length names) c.loop-item.invariant.0 in
    omega (arith, low, many, c.loop-item-test.true, length-take at (names_of c.args.items.now), length-map c.args.items.now (λ item. item.name.items))

pub loop-item-preserved : goal.loop-item-preserved
loop-item-preserved c =
    let at : ℕ = c.loop-item.item-index in
    let name : get_or (names_of c.args.items.now) at [] ≡ c.deref.result.now =
    get_or-map (λ item. item.name.items) c.args.items.now at c.item-item.result [] c.loop-item-test.true ∙ ap (λ item. item.name.items) (sym c.item-item.is) ∙ sym c.deref.ensures.value in
    let parent : get_or (parents_of c.args.items.now) at None ≡ c.item-item.result.parent =
    get_or-map (λ item. item.parent) c.args.items.now at c.item-item.result None c.loop-item-test.true ∙ ap (λ item. item.parent) (sym c.item-item.is) in
    let named : at < length (names_of c.args.items.now) = omega (arith, c.loop-item-test.true, length-map c.args.items.now (λ item. item.name.items)) in
    let parented : at < length (parents_of c.args.items.now) = omega (arith, c.loop-item-test.true, length-map c.args.items.now (λ item. item.parent)) in (
      c.in_ok-add.ensures.names ∙ ap (λ (names : List (List ℕ)). names ++ c.deref.result.now ∷ []) c.loop-item.invariant.0
          ∙ ap (λ (n : List ℕ). take at (names_of c.args.items.now) ++ n ∷ []) (sym name) ∙ sym (take_more (names_of c.args.items.now) at [] named),
      c.in_ok-add.ensures.parents ∙ ap (λ (parents : List (Option ℕ)). parents ++ c.item-item.result.parent ∷ []) c.loop-item.invariant.1
          ∙ ap (λ (p : Option ℕ). take at (parents_of c.args.items.now) ++ p ∷ []) (sym parent) ∙ sym (take_more (parents_of c.args.items.now) at None parented),
    )
