use Rattle.std.proofs.Common.{◌∙◌, length, ap, rules}
use Rattle.series_tables.specs.Plan.{PlanShape}
use Rattle.node_compile.specs.Table.{Table}
use Rattle.node_compile.specs.Release.{tables_in}
use Rattle.accounts_history.specs.History.{inputs_of}
use Rattle.qna_live.proofs.Releases.{length_compilation, printed-whole, shown-whole}
use Rattle.std.proofs.Common.{List}
use Rattle.qna_live.proofs.serving.print_whole.Goals as goal

pub print_release-requires : goal.print_release-requires
print_release-requires g c =
    let shows = shown-whole c.args.core.now c.finish.new.self c.args.plan.now c.in_ok-release.release.front (tables_in c.in_ok-release.release) c.requires.plan c.finish.ensures.published c.in_ok-finish.ensures.finished c.in_ok-release.ensures in
    ap (λ (tables : List Table). length tables) shows.1 ∙ length_compilation c.args.plan.now (inputs_of c.args.core.now.history)

pub returns : goal.returns
returns g c =
    printed-whole c.args.plan.now c.args.core.now.history c.in_ok-release.release.front (tables_in c.in_ok-release.release) c.new-text.result.items _
    (shown-whole c.args.core.now c.finish.new.self c.args.plan.now c.in_ok-release.release.front (tables_in c.in_ok-release.release) c.requires.plan c.finish.ensures.published c.in_ok-finish.ensures.finished c.in_ok-release.ensures)
    c.new-text.ensures.items c.in_ok-print_release.ensures
