-- The jobs of a file's sections: each may stand there, and they are few.
use Rattle.std.proofs.Common.{ℕ, ◌≤◌, List, ap, arith, length, ◌∷◌, get_or}
use Rattle.std.proofs.lemmas.List.{length-map}
use Rattle.std.proofs.lemmas.List.Elements.{All-tail}
use Rattle.std.proofs.lemmas.List.Sums.{length-filter, count_by-le-length}
use Rattle.std.specs.List.{All}
use Rattle.fz_script.specs.Jobs.{spelling, IsWithin}
use Rattle.fz_runs.specs.Lines.{all_lines, is_kept}
use Rattle.fz_script.specs.declared.job.Job.{Job}
use Rattle.fz_script.specs.declared.job.Job.TheVariants.{Open, Settle, Mutator, Collector, Churn, Call}
use Rattle.fz_script.specs.declared.job.TheConstants.{MAX_TURNS}
use Rattle.fz_runs.specs.declared.threads.limits.TheConstants.{MAX_LINES}
use Rattle.fz_runs.specs.Holds.{turns_of}
use Rattle.fz_runs.specs.Jobs.{Asked, asked_jobs, IsThreadsFile}

turns_few : (job : Job) → IsWithin job → turns_of job ≤ MAX_TURNS
turns_few (Churn count slot size kind finalizer_kind procedure) h = h.1
turns_few (Settle collections) h = omega arith
turns_few Mutator h = omega arith
turns_few Collector h = omega arith
turns_few (Call call) h = omega arith
turns_few (Open blocks frames workers) h = omega arith

pub sections_stand : (bytes : List ℕ) (asked : Asked) → IsThreadsFile bytes asked → All (λ job. turns_of job ≤ MAX_TURNS) asked.body
sections_stand bytes asked file =
    let few : Job → Type 0 = λ job. turns_of job ≤ MAX_TURNS in
    All-tail few (Settle asked.collections) asked.body
    (All-tail few (Open asked.blocks asked.frames asked.workers) (Settle asked.collections ∷ asked.body) (λ i d h. turns_few (get_or (asked_jobs asked) i d) (file.1.holds.fit i d h).1))

pub sections_few : (bytes : List ℕ) (asked : Asked) → IsThreadsFile bytes asked → length asked.body ≤ MAX_LINES
sections_few bytes asked file =
    let lines = all_lines file.1.lines file.1.last in
    let kept = length-filter is_kept lines in
    let within = count_by-le-length is_kept lines in
    let spelled = ap (λ l. length l) file.1.holds.spelled in
    let mapped = length-map (asked_jobs asked) spelling in
    let few = file.1.holds.few in
    omega (arith, kept, within, spelled, mapped, few)
