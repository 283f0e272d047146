-- What clap reads of the program's command, and that it takes a file.
use Rattle.std.proofs.Common.{◌≡◌, ◌==◌, ℕ, List, [], ◌∷◌, Some, codes, true, false, refl, ap, inl, inr, Option, None, option_map, option_and_then}
use Rattle.std.proofs.lemmas.Bool.{ne_eqb}
use Rattle.clap.specs.Words.{App, Row, Text, first_of, new_app, new_rule, takes, subcommand_of, with_rule, with_subcommand}
use Rattle.clap.proofs.OnLiterals.{clap_on_literals}
use Rattle.fz_runs.specs.declared.arguments.Program.{Program}
use Rattle.fz_runs.specs.declared.arguments.Program.TheVariants.{Run, Threads}
use Rattle.fz_runs.specs.Arguments.{name_of, IsFile}
use Rattle.fz_runs.specs.Commands.{TakesFiles, file_in}

abbrev pub leaf : List ℕ → App
leaf name = with_rule (new_app name) (record (new_rule (codes "FILE")) { required = true })

abbrev pub bare : App
bare = record (new_app (codes "finalize")) { top = record (new_app (codes "finalize")).top { no_binary_name = true; subcommand_required = true } }

abbrev pub whole : App
whole = with_subcommand (with_subcommand bare (leaf (codes "run")).top) (leaf (codes "threads")).top

-- a file is empty, `-`, or begins with another byte
by_file : (P : List ℕ → Type 0) → P [] → P (codes "-") → ((x : ℕ) (xs : List ℕ) → (x == 45) ≡ false → P (x ∷ xs)) → (file : List ℕ) → IsFile file → P file
by_file P empty hyphen other [] is = empty
by_file P empty hyphen other (x ∷ xs) (inl is) = rw is hyphen
by_file P empty hyphen other (x ∷ xs) (inr differs) = other x xs (ne_eqb x 45 (λ same. differs (ap Some same)))

takes-file : (program : Program) (file : List ℕ) → IsFile file → takes whole (name_of program ∷ file ∷ []) ≡ true
unfolding clap_on_literals
takes-file Run = by_file (λ file. takes whole (codes "run" ∷ file ∷ []) ≡ true) refl refl (λ x xs e. simp e)
takes-file Threads = by_file (λ file. takes whole (codes "threads" ∷ file ∷ []) ≡ true) refl refl (λ x xs e. simp e)

finds-file : (program : Program) (file : List ℕ) → IsFile file → file_in (subcommand_of whole (name_of program ∷ file ∷ [])) ≡ Some file
unfolding clap_on_literals
finds-file Run = by_file (λ file. file_in (subcommand_of whole (codes "run" ∷ file ∷ [])) ≡ Some file) refl refl (λ x xs e. simp e)
finds-file Threads = by_file (λ file. file_in (subcommand_of whole (codes "threads" ∷ file ∷ [])) ≡ Some file) refl refl (λ x xs e. simp e)

pub TakesFiles-whole : TakesFiles whole
unfolding clap_on_literals
TakesFiles-whole = record { simple = refl; takes_it = takes-file; finds_it = finds-file }

-- the rows of the subcommand have the file that the subcommand has
pub found-file : (sub : Option (Text × List Row)) (rows : Option (List Row)) (file : List ℕ) → rows ≡ option_map (λ (found : Text × List Row). found.1) sub → file_in sub ≡ Some file → option_and_then (first_of (codes "FILE")) rows ≡ Some file
found-file None rows file same is = absurd cc
found-file (Some found) rows file same is = rw same is

pub no-file : (sub : Option (Text × List Row)) (file : List ℕ) → None ≡ option_map (λ (found : Text × List Row). found.1) sub → file_in sub ≡ Some file → ⊥
no-file None file same is = cc
no-file (Some found) file same is = cc
