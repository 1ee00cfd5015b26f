use Rattle.std.proofs.Common.{◌≡◌, ◌<◌, false, length, Some, None, ap, subst, sym, ◌∙◌}
use Rattle.std.specs.Option.{is_some}
use Rattle.std.specs.List.{list_any}
use Rattle.std.specs.Str.{bytes_eq}
use Rattle.series_tables.specs.PlanLine.{start_entry, reference_entry, item_entry}
use Rattle.series_tables.specs.Plan.{Gathered, cause_of_entry}
use Rattle.series_tables.specs.PlanEntries.{entry_view, IsReferenceInRange}
use Rattle.series_tables.proofs.Entries.{start_taken, reference_kept, reference_taken, item_taken}
use Rattle.series_tables.specs.declared.entry.Entry.{Entry}
use Rattle.series_tables.proofs.draft.Draft.add.Goals as goal

pub invariant_of-self : goal.invariant_of-self
invariant_of-self c =
    let said : cause_of_entry c.args.self.now (start_entry c.in-Start.year) ≡ None = ap (λ (e : Entry). cause_of_entry c.args.self.now (entry_view e)) (sym c.in-Start.is) ∙ c.requires.free in
    let taken = start_taken c.args.self.now c.in-Start.year said in
    let none : is_some c.self.inside.start ≡ false = ap (λ (g : Gathered). is_some g.start) c.self.view_is ∙ taken.0 in
    ((taken.1, taken.2), reference_kept c.self.inside.start c.self.inside.reference c.in-Start.year none c.self.invariant.1)

pub invariant_of-self-in-Reference : goal.invariant_of-self-in-Reference
invariant_of-self-in-Reference c =
    let said : cause_of_entry c.args.self.now (reference_entry c.in-Reference.year) ≡ None = ap (λ (e : Entry). cause_of_entry c.args.self.now (entry_view e)) (sym c.in-Reference.is) ∙ c.requires.free in
    (c.self.invariant.0, subst (λ (g : Gathered). IsReferenceInRange g.start (Some c.in-Reference.year)) (sym c.self.view_is) (reference_taken c.args.self.now c.in-Reference.year said))

pub add-requires-clause-few : goal.add-requires-clause-few
add-requires-clause-few c =
    let said : cause_of_entry c.args.self.now (item_entry c.in-Item.name.now c.in-Item.parent.now) ≡ None = ap (λ (e : Entry). cause_of_entry c.args.self.now (entry_view e)) (sym c.in-Item.is) ∙ c.requires.free in
    subst (λ (g : Gathered). length g.names < 512) (sym c.self.view_is) (item_taken c.args.self.now c.in-Item.name.now c.in-Item.parent.now said).1

pub add-requires-clause-unused : goal.add-requires-clause-unused
add-requires-clause-unused c =
    let said : cause_of_entry c.args.self.now (item_entry c.in-Item.name.now c.in-Item.parent.now) ≡ None = ap (λ (e : Entry). cause_of_entry c.args.self.now (entry_view e)) (sym c.in-Item.is) ∙ c.requires.free in
    ap (λ (g : Gathered). list_any (bytes_eq c.in-Item.name.now) g.names) c.self.view_is ∙ (item_taken c.args.self.now c.in-Item.name.now c.in-Item.parent.now said).0
