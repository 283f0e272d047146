use Rattle.std.proofs.Common.{rules, ◌≡◌, ◌≢◌, ℕ, List, Bor, Option, Result, Ok, IfOk, arith, refl, subst, inl, inr}
use Rattle.std.specs.Io.KnownBytes.{Keeps}
use Rattle.fz_runs.specs.declared.arguments.Program.{Program}
use Rattle.fz_runs.specs.declared.arguments.WordsFault.{WordsFault}
use Rattle.fz_runs.specs.declared.arguments.WordsFault.TheVariants.{Wrong, NoMemory}
use Rattle.fz_runs.specs.Arguments.{IsFile, Names, AskFor}
use Rattle.fz_runs.specs.Devices.{Log}
use Rattle.finalize.specs.Program.{RunsFile, Ends}
use Rattle.finalize.proofs.program.execute.Goals as goal

-- a run on a file isn't one of wrong words
no_wrong_words : (held : Option (List ℕ)) (program : Program) (status : ℕ) (out out' err err' : Log) → RunsFile held program status out out' err err' → status ≢ 2
no_wrong_words held program status out out' err err' (inl unopened) two = absurd (let one = unopened.0 in omega arith)
no_wrong_words held program status out out' err err' (inr (input, keeps, inl whole)) two = absurd (let zero = whole.0 in omega arith)
no_wrong_words held program status out out' err err' (inr (input, keeps, inr stopped)) two = absurd (let one = stopped.0 in omega arith)

-- what ran on the file that was found ran on the file that the words name
ran : {E : Type 0} (holds : List ℕ → Option (List ℕ)) (words : List (List ℕ)) (program : Program) (word : Bor (List ℕ)) (status : ℕ) (out out' err err' : Log) (found : Result (Program × Bor (List ℕ)) E) → Names program words → found ≡ Ok (program, word)
    → ((file : List ℕ) → AskFor words file → IfOk found (λ it. it.1.now ≡ file)) → RunsFile (holds word.now) program status out out' err err' → Ends holds words status out out' err err'
ran holds words program word status out out' err err' found names is finds (inl unopened) = inr (inl (unopened.0, inr unopened.1))
ran holds words program word status out out' err err' found (file, are) is finds (inr (input, keeps, runs)) = inr (inr (program, file, are, input, (λ right. subst (λ (f : List ℕ). Keeps (holds f) input.remaining) (same right) keeps), runs))
  where
    same : IsFile file → word.now ≡ file
    same right = subst (λ (r : Result (Program × Bor (List ℕ)) _). IfOk r (λ it. it.1.now ≡ file)) is (finds file (program, are, right))

pub returns-in-Ok : goal.returns-in-Ok
returns-in-Ok g c = record {
  wrong = λ nothing. absurd (nothing c.in-Ok.program c.in-Ok.ensures.names);
  right = λ file ask. no_wrong_words _ _ _ _ _ _ _ c.run_file.ensures;
  ends = ran _ _ c.in-Ok.program c.in-Ok.file _ _ _ _ _ c.program_and_file.result c.in-Ok.ensures.names (search rules) c.program_and_file.ensures.found c.run_file.ensures;
}

-- wrong words aren't out of memory
is_no_want : (fault : WordsFault) → fault ≡ Wrong → fault ≡ NoMemory → ⊥
is_no_want fault wrong want = cc

pub returns-in-Err-Wrong : goal.returns-in-Err-Wrong
returns-in-Err-Wrong g c = record {
  wrong = λ nothing. c.wrong_words.ensures.status;
  right = λ file ask two. is_no_want c.in-Err-Wrong.field-0 (search rules) (c.in-Err-Wrong.ensures.taken file ask);
  ends = inl (c.wrong_words.ensures.status, (refl, c.wrong_words.ensures.line));
}

pub returns : goal.returns
returns g c = record {
  wrong = λ nothing. absurd (let wrong = c.program_and_file.ensures.wrong nothing in search rules);
  right = λ file ask two. absurd (let one = c.out_of_memory.ensures.status in omega arith);
  ends = inr (inl (c.out_of_memory.ensures.status, inl (refl, c.out_of_memory.ensures.line)));
}
