use Rattle.qna_laws.proofs.Written.{journal_read, journal_unrefused}
use Rattle.qna_laws.proofs.journals.written_journals_are_read.Goals as goal

pub returns : goal.returns
returns c = λ plan history is_plan lawful desks.
    let bounds = c.lawful_histories_are_within_bounds.ensures plan history lawful in (
      journal_read c.written_is_read.ensures.year c.written_is_read.ensures.quarter plan history is_plan bounds.fit bounds.few desks,
      journal_unrefused c.written_is_read.ensures.year c.written_is_read.ensures.quarter plan history is_plan bounds.fit bounds.few desks,
    )
