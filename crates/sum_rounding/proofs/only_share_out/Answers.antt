use Rattle.sum_rounding.proofs.Laws.{only_share_out}
use Rattle.sum_rounding.proofs.only_share_out.Goals as goal

pub returns : goal.returns
returns c = record { law = only_share_out }
