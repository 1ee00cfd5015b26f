use Rattle.qna_laws.proofs.Written.{journal_fixed}
use Rattle.qna_laws.proofs.journals.written_journals_fix_what_was_accepted.Goals as goal

pub returns : goal.returns
returns c = λ plan one other is_plan lawful also desks more same.
    journal_fixed c.written_is_read.ensures.year c.written_is_read.ensures.quarter plan one other is_plan
    (c.lawful_histories_are_within_bounds.ensures plan one lawful).fit (c.lawful_histories_are_within_bounds.ensures plan other also).fit desks more same
