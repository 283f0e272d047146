use Rattle.std.proofs.Common.{ap, sym, ◌∙◌}
use Rattle.fz_script.specs.Reading.{words_of}
use Rattle.fz_script.specs.JobReading.{job_in}
use Rattle.fz_script.proofs.JobLaws.{step_read}
use Rattle.fz_script.proofs.job.read_job.Goals as goal

pub returns-in-Some : goal.returns-in-Some
returns-in-Some c = ap (λ step. job_in step (words_of c.args.line.now)) (step_read _ _ c.in-Some.ensures.found c.in-Some.ensures.only) ∙ sym c.job_of_step.ensures

pub returns-in-None : goal.returns-in-None
returns-in-None c = ap (λ step. job_in step (words_of c.args.line.now)) (step_read _ _ c.in-None.ensures.found c.in-None.ensures.only) ∙ c.read_own.ensures
