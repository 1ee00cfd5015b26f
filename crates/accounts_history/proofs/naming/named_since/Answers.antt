use Rattle.std.proofs.Common.{ap, length, arith}
use Rattle.accounts_history.proofs.Marking.{leaves_within}
use Rattle.accounts_history.proofs.naming.named_since.Goals as goal

pub mark_last-requires-clause-leaves : goal.mark_last-requires-clause-leaves
mark_last-requires-clause-leaves c =
    leaves_within c.args.plan.now c.args.history.now (length c.deref_mut.result.now) c.requires.lawful
    (omega (arith, c.deref_mut.ensures.len, c.in_ok-flags.ensures.len, c.len.ensures.items))
