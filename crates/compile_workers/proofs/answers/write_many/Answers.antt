use Rattle.compile_workers.proofs.Waiting.{moved_printed}
use Rattle.compile_workers.proofs.answers.write_many.Goals as goal

pub returns-clause-moved : goal.returns-clause-moved
returns-clause-moved g c = moved_printed _ _ _ _ c.write_out.result c.write_out.ensures.written c.write_out.ensures.none
