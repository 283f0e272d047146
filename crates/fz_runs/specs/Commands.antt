-- Which arguments the program accepts, in terms of clap's contracts.
-- code: fz_runs/src/arguments.rt
use Rattle.std.specs.Prelude.{◌≡◌, ℕ, List, [], ◌∷◌, Option, Some, codes, true, option_and_then}
use Rattle.clap.specs.Words.{App, Row, Text, first_of, is_simple, subcommand_of, takes}
use Rattle.fz_runs.specs.declared.arguments.Program.{Program}
use Rattle.fz_runs.specs.Arguments.{name_of, IsFile}

-- the value of the subcommand's argument FILE
abbrev pub file_in : Option (Text × List Row) → Option (List ℕ)
file_in = option_and_then (λ found. first_of (codes "FILE") found.1)

-- if the arguments are a program's name and a file, parsing fails only when memory runs out, and else finds that file
pub record TakesFiles (app : App) : Type 0 where
  pub simple : is_simple app ≡ true
  pub takes_it : (program : Program) (file : List ℕ) → IsFile file → takes app (name_of program ∷ file ∷ []) ≡ true
  pub finds_it : (program : Program) (file : List ℕ) → IsFile file → file_in (subcommand_of app (name_of program ∷ file ∷ [])) ≡ Some file
