use Rattle.std.proofs.Common.{◌≡◌, subst}
use Rattle.std.specs.Prelude.{IfOk}
use Rattle.accounts_core.specs.Finishing.{IsCopyOf}
use Rattle.accounts_core.specs.State.{CoreState}
use Rattle.accounts_core.proofs.Handling.{inputs_under}
use Rattle.accounts_core.proofs.Running.{copied}
use Rattle.accounts_core.proofs.machine.Core.copy_out.Goals as goal

pub returns-in-Some : goal.returns-in-Some
returns-in-Some c =
    subst (λ (s : CoreState). IfOk c.copy_out.result (IsCopyOf s c.args.node)) c.self.view_is
    (copied c.self.inside.plan c.self.inside.history.items c.self.inside.round c.in-Some.round c.args.node c.copy_out.result c.in-Some.is
    (c.copy_out.ensures (inputs_under c.self.inside.history.items c.in-Some.round) (c.self.invariant.0.open_round c.in-Some.round c.in-Some.is).over))
