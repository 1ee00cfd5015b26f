use Rattle.qna_live.proofs.Alone.{desk_sends}
use Rattle.qna_live.proofs.laws.one_desk_sends.Goals as goal

pub returns : goal.returns
returns c = desk_sends c.sole_desk_sends.ensures c.lawful_histories_are_within_bounds.ensures
