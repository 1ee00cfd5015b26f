use Rattle.std.proofs.Common.{subst}
use Rattle.accounts_core.specs.Sound.{IsSound}
use Rattle.accounts_core.specs.State.{CoreState}
use Rattle.accounts_core.proofs.Soundness.{sound}
use Rattle.accounts_core.proofs.machine.Core.stays_sound.Goals as goal

pub returns : goal.returns
returns c = subst (λ (s : CoreState). IsSound s) c.self.view_is (sound c.self.inside.plan c.self.inside.history.items c.self.inside.accepted c.self.inside.tables c.self.inside.board c.self.inside.round c.self.invariant.0)
