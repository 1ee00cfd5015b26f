use Rattle.dirty_plan.proofs.Counts.{job_count-opened_jobs}
use Rattle.dirty_plan.proofs.laws.touched_items_have_the_jobs.Goals as goal

pub returns : goal.returns
returns c = job_count-opened_jobs
