use Rattle.std.proofs.Common.{◌≡◌, true, None, sym, ap, subst, ◌∙◌}
use Rattle.cert_read.specs.Statement.{entry_view}
use Rattle.cert_read.specs.Content.{IsInOrder, HasRanges, follows, with_line}
use Rattle.cert_read.specs.Progress.{Progress}
use Rattle.cert_read.proofs.Ranges.{ranges_kept}
use Rattle.cert_read.proofs.progress.Progress.with_entry.Goals as goal

pub invariant_of-result : goal.invariant_of-result
invariant_of-result c =
    let seen = c.self.view_is in
    let here : follows c.self.inside.draft (entry_view c.args.entry) ≡ true = cc in
    let may : follows c.args.self.content (entry_view c.args.entry) ≡ true = ap (λ (p : Progress). follows p.content (entry_view c.args.entry)) (sym seen) ∙ here in
    let ranges : c.args.self.late ≡ None → HasRanges c.args.self.content = subst (λ (p : Progress). p.late ≡ None → HasRanges p.content) seen c.self.invariant in
    let after : c.add.new.self ≡ with_line c.args.self.content (entry_view c.args.entry) = c.in_ok-add.ensures ∙ ap (λ (p : Progress). with_line p.content (entry_view c.args.entry)) seen in
    let order : IsInOrder (with_line c.args.self.content (entry_view c.args.entry)) = subst IsInOrder (c.draft.view_is ∙ after) c.draft.invariant in
    ranges_kept c.args.self.late c.late_with-late.result c.args.self.content c.add.new.self (entry_view c.args.entry) c.args.number ranges order may c.late_with-late.ensures after
