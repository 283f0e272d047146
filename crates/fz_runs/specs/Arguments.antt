-- The arguments of the program: which program they name, and which argument is a file.
-- code: fz_runs/src/arguments.rt
use Rattle.std.specs.Prelude.{◌≡◌, ◌≢◌, ◌⊎◌, ℕ, List, [], ◌∷◌, codes, Some, slice_get}
use Rattle.fz_runs.specs.declared.arguments.Program.{Program}
use Rattle.fz_runs.specs.declared.arguments.Program.TheVariants.{Run, Threads}

-- the argument that names the program
abbrev pub name_of : Program → List ℕ
name_of Run = codes "run"
name_of Threads = codes "threads"

-- the arguments are the program's name and a file
abbrev pub Names : Program → List (List ℕ) → Type 0
Names program words = (file : List ℕ) × (words ≡ name_of program ∷ file ∷ [])

-- the arguments aren't any program's name and a file
abbrev pub NameNothing : List (List ℕ) → Type 0
NameNothing words = (program : Program) → ¬ Names program words

-- the argument is accepted as a file: it is `-`, or doesn't begin with a hyphen (45)
abbrev pub IsFile : List ℕ → Type 0
IsFile word = (word ≡ codes "-") ⊎ (slice_get word 0 ≢ Some 45)

-- the arguments are a program's name and this file
abbrev pub AskFor : List (List ℕ) → List ℕ → Type 0
AskFor words file = (program : Program) × (words ≡ name_of program ∷ file ∷ []) × IsFile file
