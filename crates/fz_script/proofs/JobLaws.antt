-- Lines of a threads file: what is read is spelled so, and what is spelled so is read.
use Rattle.std.proofs.Common.{◌≡◌, ℕ, List, [], ◌∷◌, ◌++◌, Option, Some, None, IfSome, ◌∙◌, ap, sym, subst, refl, true, map, append-nil, rules}
use Rattle.std.specs.List.{join_with_byte, AllByRecursion}
use Rattle.std.proofs.lemmas.List.Splits.{join_with_byte-slice_split}
use Rattle.fz_script.specs.declared.job.Job.{Job}
use Rattle.fz_script.specs.declared.job.Job.TheVariants.{Open, Settle, Mutator, Collector, Churn, Call}
use Rattle.fz_script.specs.declared.job.Keyword.{Keyword}
use Rattle.fz_script.specs.declared.job.Keyword.TheVariants.{Settle as ToSettle, Mutator as ToMutator, Collector as ToCollector, Churn as ToChurn}
use Rattle.fz_script.specs.declared.step.Step.{Step}
use Rattle.fz_script.specs.declared.step.Step.TheVariants as script
use Rattle.fz_script.specs.Spelling.{Token, Text, IsToken, text}
use Rattle.fz_script.specs.Spelling as steps
use Rattle.fz_script.specs.Jobs.{words, spelling}
use Rattle.fz_script.specs.Reading.{◌>>=◌, Values, values_at, words_of, end_at, step_in, named_at}
use Rattle.fz_script.specs.JobReading.{keyword, keywords, keyword_at, fields_of, made, made_at, own_at, own_in, job_of_step, job_in}
use Rattle.fz_script.proofs.Laws.{bind_some, some_same, field_words, HasTaken, kind_takes, values_taken, MayFollow, values_again, lacks_space, fields_plain, split_joined, end_takes}
use Rattle.fz_script.proofs.Laws as laws

abbrev AreTokens : List Token → Type 0
AreTokens ws = AllByRecursion IsToken ws

-- the reading of steps, from the contract of `step_of`
pub step_read : (line : List ℕ) (r : Option Step) → IfSome r (λ s. steps.Fits s × (line ≡ steps.spelling s)) → ((s : Step) → steps.Fits s → line ≡ steps.spelling s → r ≡ Some s) → step_in (words_of line) ≡ r
step_read line (Some s) found only = laws.only line s found.0 found.1
step_read line None found only = none_at (step_in (words_of line)) refl
  where
    none_at : (r : Option Step) → step_in (words_of line) ≡ r → step_in (words_of line) ≡ None
    none_at None h = h
    none_at (Some s) h = let t = laws.found line (Some s) h in let e = only s t.0 t.1 in cc

-- what is asked of each keyword, by computation
record IsSpelled (first : Keyword) : Type 0 where
  unspaced : lacks_space (keyword first) ≡ true
  ends : MayFollow (fields_of first) []
  written_as : (x : Values (fields_of first)) → words (made first x) ≡ Text (keyword first) ∷ field_words (fields_of first) x
  named : (ws : List (List ℕ)) → keyword_at (keyword first ∷ ws) ≡ Some (first, ws)
  no_step : (ws : List (List ℕ)) → step_in (keyword first ∷ ws) ≡ None

spelled : (first : Keyword) → IsSpelled first
unfolding lacks_space step_in named_at
spelled ToSettle = record { unspaced = refl; ends = tt; written_as = λ x. refl; named = λ ws. refl; no_step = λ ws. refl }
spelled ToMutator = record { unspaced = refl; ends = tt; written_as = λ x. refl; named = λ ws. refl; no_step = λ ws. refl }
spelled ToCollector = record { unspaced = refl; ends = tt; written_as = λ x. refl; named = λ ws. refl; no_step = λ ws. refl }
spelled ToChurn = record { unspaced = refl; ends = search rules; written_as = λ x. refl; named = λ ws. refl; no_step = λ ws. refl }

-- what is read
own_takes : (ws : List (List ℕ)) (job : Job) → own_in ws ≡ Some job → (ws ≡ map text (words job)) × AreTokens (words job)
unfolding own_at own_in
own_takes ws job h =
    let t = bind_some (own_at ws) (λ job. end_at job.1 >>= λ _. Some job.0) job h in
    let e = bind_some (end_at t.0.1) (λ _. Some t.0.0) job t.2 in
    let first = bind_some (keyword_at ws) (λ first. made_at first.0 first.1) t.0 t.1 in
    let x = bind_some (values_at (fields_of first.0.0) first.0.1) (λ x. Some (made first.0.0 x.0, x.1)) t.0 first.2 in
    let taken = values_taken (fields_of first.0.0) first.0.1 x.0.1 x.0.0 x.1 in
    let same = some_same (made first.0.0 x.0.0, x.0.1) t.0 x.2 in
    let rest : x.0.1 ≡ [] = ap (λ p. p.1) same ∙ end_takes t.0.1 e.1 in
    let written = (spelled first.0.0).written_as x.0.0 in
    let fields : first.0.1 ≡ map text (field_words (fields_of first.0.0) x.0.0) =
    taken.0 ∙ ap (λ l. map text (field_words (fields_of first.0.0) x.0.0) ++ l) rest ∙ append-nil (map text (field_words (fields_of first.0.0) x.0.0)) in
    let line : ws ≡ map text (words (made first.0.0 x.0.0)) =
    kind_takes keyword keywords ws first.0.1 first.0.0 first.1 ∙ ap (λ l. keyword first.0.0 ∷ l) fields ∙ ap (map text) (sym written) in
    let fit : AreTokens (words (made first.0.0 x.0.0)) = subst AreTokens (sym written) (tt, taken.1) in
    let P : Job → Type 0 = λ job. (ws ≡ map text (words job)) × AreTokens (words job) in
    subst P (ap (λ p. p.0) same ∙ some_same t.0.0 job e.2) (line, fit)

-- a step that is a job is written as the job is
same_words : (s : Step) (job : Job) → job_of_step s ≡ Some job → words job ≡ steps.words s
same_words (script.Open blocks frames workers) job h = ap words (sym (some_same (Open blocks frames workers) job h))
same_words (script.Call call) job h = ap words (sym (some_same (Call call) job h))
same_words (script.Take worker) job h = cc
same_words (script.Hold worker slot) job h = cc
same_words (script.Finish worker) job h = cc
same_words (script.Forfeit worker) job h = cc

pub job_found : (line : List ℕ) (r : Option Job) → job_in (step_in (words_of line)) (words_of line) ≡ r → IfSome r (λ job. AreTokens (words job) × (line ≡ spelling job))
job_found line r h = by_step (step_in (words_of line)) r refl h
  where
    by_step : (s : Option Step) (r : Option Job) → step_in (words_of line) ≡ s → job_in s (words_of line) ≡ r → IfSome r (λ job. AreTokens (words job) × (line ≡ spelling job))
    by_step s None is h = tt
    by_step (Some s) (Some job) is h = subst (λ ws. AreTokens ws × (line ≡ join_with_byte 32 (map text ws))) (sym (same_words s job h)) (laws.found line (Some s) is)
    by_step None (Some job) is h = let t = own_takes (words_of line) job h in (t.1, sym (join_with_byte-slice_split 32 line) ∙ ap (join_with_byte 32) t.0)

-- what is written
made_again : (first : Keyword) (x : Values (fields_of first)) → AreTokens (words (made first x)) → job_in (step_in (words_of (spelling (made first x)))) (words_of (spelling (made first x))) ≡ Some (made first x)
unfolding own_at own_in
made_again first x fits =
    let is = spelled first in
    let fit : AreTokens (field_words (fields_of first) x) = (subst AreTokens (is.written_as x) fits).1 in
    let fields : List (List ℕ) = map text (field_words (fields_of first) x) in
    let split : words_of (spelling (made first x)) ≡ keyword first ∷ fields = ap (λ l. words_of (join_with_byte 32 (map text l))) (is.written_as x) ∙ split_joined (keyword first) fields is.unspaced (fields_plain (fields_of first) x fit) in
    let values : values_at (fields_of first) fields ≡ Some (x, []) = ap (values_at (fields_of first)) (sym (append-nil fields)) ∙ values_again (fields_of first) x [] is.ends fit in
    rw (split, is.no_step fields, is.named fields, values) refl

job_again : (job : Job) → AreTokens (words job) → job_in (step_in (words_of (spelling job))) (words_of (spelling job)) ≡ Some job
job_again (Settle collections) fits = made_again ToSettle collections fits
job_again Mutator fits = made_again ToMutator tt fits
job_again Collector fits = made_again ToCollector tt fits
job_again (Churn count slot size kind finalizer_kind procedure) fits = made_again ToChurn ((count, slot), (size, kind), (finalizer_kind, procedure)) fits
job_again (Open blocks frames workers) fits = rw (laws.only (spelling (Open blocks frames workers)) (script.Open blocks frames workers) fits refl) refl
job_again (Call call) fits = rw (laws.only (spelling (Call call)) (script.Call call) fits refl) refl

pub job_only : (line : List ℕ) (job : Job) → AreTokens (words job) → line ≡ spelling job → job_in (step_in (words_of line)) (words_of line) ≡ Some job
job_only line job fits e = ap (λ l. job_in (step_in (words_of l)) (words_of l)) e ∙ job_again job fits
