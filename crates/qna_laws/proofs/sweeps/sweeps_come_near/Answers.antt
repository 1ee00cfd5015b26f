use Rattle.denton_solve.proofs.Nearing.{sweeps_come_near}
use Rattle.qna_laws.proofs.sweeps.sweeps_come_near.Goals as goal

pub returns : goal.returns
returns c = sweeps_come_near
