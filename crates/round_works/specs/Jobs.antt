-- The jobs of a round: the work of each touched item at the round's front.
use Rattle.std.specs.Prelude.{◌≡◌, ℕ, List, length}
use Rattle.series_tables.specs.Plan.{PlanShape}
use Rattle.series_tables.specs.declared.input.Input.{Input}
use Rattle.round_works.specs.Works.{ItemWork, work_in, work_after}
use Rattle.round_works.specs.declared.compiling.CompileEnd.{CompileEnd}
use Rattle.round_works.specs.declared.compiling.CompileEnd.TheVariants.{Compiled as Made, Memory as Wanting}
use Rattle.round_works.specs.declared.work.Compiled.{Compiled}
use Rattle.round_works.specs.declared.work.Job.{Job}

-- a job says at which front, of which item, from which reference year and from what a table is made
pub record ItemJob : Type 0 where
  pub front : ℕ
  pub item : ℕ
  pub reference : ℕ
  pub work : ItemWork

abbrev pub job_of : ℕ → ℕ → ℕ → ItemWork → ItemJob
job_of front item reference work = record { front = front; item = item; reference = reference; work = work }

-- what the code's job says, and what the job was of which a table is made
abbrev pub job_in : Job → ItemJob
job_in job = job_of job.front job.node job.reference.0 (work_in job.work)

abbrev pub job_made : Compiled → ItemJob
job_made made = job_of made.front made.node made.reference.0 (work_in made.work)

-- an item's job in a round over these inputs
abbrev pub job_after : PlanShape → List Input → ℕ → ItemJob
job_after plan inputs item = job_of (length inputs) item plan.reference (work_after plan inputs item)

-- compiling a job ends with its four parts and a table, or with the job itself
abbrev pub IsEndOf : Job → CompileEnd → Type 0
IsEndOf job (Made made) =
    (made.front ≡ job.front) × (made.node ≡ job.node)
    × (made.reference ≡ job.reference) × (made.work ≡ job.work)
IsEndOf job (Wanting back) = back ≡ job
