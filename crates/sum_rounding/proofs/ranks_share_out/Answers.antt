use Rattle.sum_rounding.proofs.Laws.{ranks_share_out}
use Rattle.sum_rounding.proofs.ranks_share_out.Goals as goal

pub returns : goal.returns
returns c = record { law = ranks_share_out }
