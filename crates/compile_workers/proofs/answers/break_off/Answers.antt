use Rattle.compile_workers.proofs.Waiting.{begun_printed}
use Rattle.compile_workers.proofs.answers.break_off.Goals as goal

pub returns-in-Err-clause-begun : goal.returns-in-Err-clause-begun
returns-in-Err-clause-begun g c = begun_printed _ _ _ c.write_out.result c.write_out.ensures.written
