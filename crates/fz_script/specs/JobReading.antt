-- Parsing a line of a threads file word by word, as the code does. Means only, like Reading.antt.
-- code: fz_script/src/job.rt
use Rattle.std.specs.Prelude.{ℕ, List, [], ◌∷◌, codes, Option, Some, None}
use Rattle.fz_script.specs.declared.job.Job.{Job}
use Rattle.fz_script.specs.declared.job.Job.TheVariants.{Open, Settle, Mutator, Collector, Churn, Call}
use Rattle.fz_script.specs.declared.job.Keyword.{Keyword}
use Rattle.fz_script.specs.declared.job.Keyword.TheVariants.{Settle as ToSettle, Mutator as ToMutator, Collector as ToCollector, Churn as ToChurn}
use Rattle.fz_script.specs.declared.step.Step.{Step}
use Rattle.fz_script.specs.declared.step.Step.TheVariants as steps
use Rattle.fz_script.specs.Reading.{◌>>=◌, kind_at, Fields, nothing, a_number, a_slot, an_obj_kind, a_reg_kind, two, three, Values, values_at, end_at}

abbrev pub keyword : Keyword → List ℕ
keyword ToSettle = codes "settle"
keyword ToMutator = codes "mutator"
keyword ToCollector = codes "collector"
keyword ToChurn = codes "churn"

abbrev pub keywords : List Keyword
keywords = ToSettle ∷ ToMutator ∷ ToCollector ∷ ToChurn ∷ []

abbrev pub keyword_at : List (List ℕ) → Option (Keyword × List (List ℕ))
keyword_at words = kind_at keyword keywords words

-- the fields after the keyword, and the job that they make
abbrev pub fields_of : Keyword → Fields
fields_of ToSettle = a_number
fields_of ToMutator = nothing
fields_of ToCollector = nothing
fields_of ToChurn = three (two a_number a_slot) (two a_number an_obj_kind) (two a_reg_kind a_number)

abbrev pub made : (first : Keyword) → Values (fields_of first) → Job
made ToSettle x = Settle x
made ToMutator x = Mutator
made ToCollector x = Collector
made ToChurn x = Churn x.0.0 x.0.1 x.1.0 x.1.1 x.2.0 x.2.1

abbrev pub made_at : (first : Keyword) → List (List ℕ) → Option (Job × List (List ℕ))
made_at first words = values_at (fields_of first) words >>= λ x. Some (made first x.0, x.1)

-- the job whose words come next, if they are no step
unfoldable pub own_at : List (List ℕ) → Option (Job × List (List ℕ))
own_at words = keyword_at words >>= λ first. made_at first.0 first.1

unfoldable pub own_in : List (List ℕ) → Option Job
own_in words = own_at words >>= λ job. end_at job.1 >>= λ _. Some job.0

-- an opening or a call as a job; a worker's step is none
abbrev pub job_of_step : Step → Option Job
job_of_step (steps.Open blocks frames workers) = Some (Open blocks frames workers)
job_of_step (steps.Call call) = Some (Call call)
job_of_step _ = None

-- the step as a job, or else a line of the other kinds
abbrev pub job_in : Option Step → List (List ℕ) → Option Job
job_in (Some step) words = job_of_step step
job_in None words = own_in words
