use Rattle.qna_cli.proofs.Batches.{batches_release}
use Rattle.qna_cli.proofs.batch.batches_release.Goals as goal

pub returns : goal.returns
returns c = batches_release
