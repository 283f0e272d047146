use Rattle.std.proofs.Common.{◌≡◌, ◌∙◌, sym, subst, refl, false, true}
use Rattle.fz_script.specs.Jobs.{IsWithin}
use Rattle.fz_script.proofs.Laws.{some_same}
use Rattle.fz_script.proofs.JobLaws.{job_found, job_only}
use Rattle.fz_script.proofs.job.job_of.Goals as goal

pub returns-in_err-job-clause-only : goal.returns-in_err-job-clause-only
returns-in_err-job-clause-only c job fits e = c.from_residual.ensures ∙ (sym c.in_err-job.ensures ∙ job_only _ job fits.0 e)

pub returns-then-is_within-clause-found : goal.returns-then-is_within-clause-found
returns-then-is_within-clause-found c = let read = job_found _ _ c.in_ok-job.ensures in ((read.0, c.if-is_within.ensures.0 refl), read.1)

pub returns-then-is_within-clause-only : goal.returns-then-is_within-clause-only
returns-then-is_within-clause-only c job fits e = sym c.in_ok-job.ensures ∙ job_only _ job fits.0 e

pub returns-else-is_within-clause-only : goal.returns-else-is_within-clause-only
returns-else-is_within-clause-only c job fits e =
    let same = some_same _ _ (sym c.in_ok-job.ensures ∙ job_only _ job fits.0 e) in
    let no : false ≡ true = c.if-is_within.ensures.1 (subst IsWithin (sym same) fits.1) in cc
