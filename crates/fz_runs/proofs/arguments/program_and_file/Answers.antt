use Rattle.std.proofs.Common.{rules, ◌≡◌, ◌∙◌, ℕ, List, Bor, None, Some, Option, Result, Ok, Err, IfOk, is_some, option_map, ap, sym, subst}
use denote.Enum.Bare.{same_false}
use Rattle.std.proofs.lemmas.Option.{same_Some}
use Rattle.clap.specs.contracts.error.kind.ErrorKind.{the_type}
use Rattle.clap.specs.declared.error.kind.ErrorKind.TheVariants.{OutOfMemory}
use Rattle.fz_runs.proofs.arguments.program_and_file.Goals as goal
use Rattle.fz_runs.proofs.arguments.program_and_file.Goals.{in_default-file_of-via-in-Ok+in_default, in_default-file_of-via-in-Err+else-eq}

pub returns-in-Ok-Some-clause-wrong : goal.returns-in-Ok-Some-clause-wrong
returns-in-Ok-Some-clause-wrong g c = λ nothing. absurd (nothing c.in-Some.program c.in-Some.ensures.some)

pub returns-in-Err-clause-wrong : goal.returns-in-Err-clause-wrong
returns-in-Err-clause-wrong g c = λ nothing. absurd (nothing c.in-Some.program c.in-Some.ensures.some)

-- where a file was found, it isn't missing
is_there : {E : Type 0} (found : Result (Option (Bor (List ℕ))) E) (file : List ℕ) → IfOk found (λ (some : Option (Bor (List ℕ))). option_map (λ (word : Bor (List ℕ)). word.now) some ≡ Some file) → found ≡ Ok None → ⊥
is_there (Ok None) file has is = cc
is_there (Ok (Some word)) file has is = cc
is_there (Err error) file has is = cc

-- the file that was found is the one that is there
is_it : {E : Type 0} (found : Result (Option (Bor (List ℕ))) E) (word : Bor (List ℕ)) (file : List ℕ) → IfOk found (λ (some : Option (Bor (List ℕ))). option_map (λ (word : Bor (List ℕ)). word.now) some ≡ Some file) → found ≡ Ok (Some word) → word.now ≡ file
is_it found word file has is = same_Some word.now file (subst (λ (r : Result (Option (Bor (List ℕ))) _). IfOk r (λ some. option_map (λ w. w.now) some ≡ Some file)) is has)

pub returns-in-Ok-Some-clause-found : goal.returns-in-Ok-Some-clause-found
returns-in-Ok-Some-clause-found g c = λ file ask. is_it c.file_of.result c.in-Ok-Some.file file (c.file_of.ensures.found file ask) (search rules)

pub returns-in_default-clause-taken : goal.returns-in_default-clause-taken
returns-in_default-clause-taken g c = λ file ask. absurd (c.program_of.ensures.none (ap is_some c.in_default.is) ask.0 (file, ask.1))

pub returns-clause-taken : goal.returns-clause-taken
returns-clause-taken g c = λ file ask. absurd (elim c.in_default-file_of.branch [
  | in_default-file_of-via-in-Ok+in_default w ↦ is_there c.file_of.result file (c.file_of.ensures.found file ask) (search rules)
  | in_default-file_of-via-in-Err+else-eq w ↦ same_false the_type w.kind.result OutOfMemory (sym w.eq.ensures ∙ w.if-eq.false) (w.kind.ensures ∙ w.in-Err.ensures.taken file ask)
])
