use Rattle.qna_laws.proofs.Found.{text_found_true}
use Rattle.qna_laws.proofs.certificates.accepted_certificates_are_found_true.Goals as goal

pub returns : goal.returns
returns c = λ spelled text plan item table is_plan there some.
    text_found_true c.written_is_read.ensures.year c.written_is_read.ensures.quarter plan text item table (c.spelled_plans_are_plans.ensures spelled plan is_plan) there some
