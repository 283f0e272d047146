-- How the lines of a threads file are spelled.
-- code: fz_script/src/job.rt (job_of)
use Rattle.std.specs.Prelude.{ℕ, ◌≤◌, List, [], ◌∷◌, ◌++◌, map, codes}
use Rattle.std.specs.List.{join_with_byte, AllByRecursion}
use Rattle.fz_script.specs.declared.job.Job.{Job}
use Rattle.fz_script.specs.declared.job.Job.TheVariants.{Open, Settle, Mutator, Collector, Churn, Call}
use Rattle.fz_script.specs.declared.job.TheConstants.{MAX_COLLECTIONS, MAX_TURNS}
use Rattle.fz_script.specs.Spelling.{Token, Number, Text, obj_kind, reg_kind, slot_words, open_words, call_words, text, IsToken}

-- The words of a job's line, in order: the keyword, then the fields. An opening and a call are spelled as in a script.
abbrev pub words : Job → List Token
words (Open blocks frames workers) = open_words blocks frames workers
words (Settle collections) = Text (codes "settle") ∷ Number collections ∷ []
words Mutator = Text (codes "mutator") ∷ []
words Collector = Text (codes "collector") ∷ []
words (Churn count slot size kind finalizer_kind procedure) =
    Text (codes "churn") ∷ Number count ∷ slot_words slot ++ Number size ∷ Text (obj_kind kind) ∷ Text (reg_kind finalizer_kind) ∷ Number procedure ∷ []
words (Call call) = call_words call

-- words are separated by one space (byte 32), with none before the first or after the last
abbrev pub spelling : Job → List ℕ
spelling job = join_with_byte 32 (map text (words job))

-- the job's count is within its limits
abbrev pub IsWithin : Job → Type 0
IsWithin (Settle collections) = collections ≤ MAX_COLLECTIONS
IsWithin (Churn count slot size kind finalizer_kind procedure) = (1 ≤ count) × (count ≤ MAX_TURNS)
IsWithin _ = Unit {0}

abbrev pub Fits : Job → Type 0
Fits job = AllByRecursion IsToken (words job) × IsWithin job
