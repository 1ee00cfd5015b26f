-- One field more than commas.
use Rattle.std.proofs.Common.{◌+◌, ◌∙◌, List, ℕ, length, sym, ap}
use Rattle.line_form.specs.Held.{fields_in}
use Rattle.line_form.proofs.CommaPlaces.{length-cut_at}
use Rattle.line_form.proofs.row.Fields.len.Goals as goal

pub returns-in-Cut : goal.returns-in-Cut
returns-in-Cut c =
    let held = sym (ap fields_in c.in-Cut.is) ∙ c.self.view_is in
    ap (λ (es : List ℕ). length es + 1) c.as_slice.ensures ∙ sym (length-cut_at 0 c.in-Cut.commas.items c.in-Cut.field-0.now) ∙ ap length held
