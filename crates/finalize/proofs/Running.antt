-- How a program's run on a reader is one on the file that it reads.
use Rattle.std.proofs.Common.{◌≡◌, ℕ, List, Option, refl, sym, subst, inl, inr}
use Rattle.std.proofs.KnownBytes.{Keeps-refl, Keeps-trans}
use Rattle.std.specs.Io.KnownBytes.{Keeps}
use Rattle.fz_runs.specs.declared.arguments.Program.{Program}
use Rattle.fz_runs.specs.declared.text.fault.DriveFault.{DriveFault}
use Rattle.fz_runs.specs.Devices.{Feed, Log, Says}
use Rattle.finalize.specs.Program.{fault_line, Completes, Stops, Runs, ReadFrom}

pub completed : (program : Program) (known : Option (List ℕ)) (input : Feed) (out out' err : Log) → input.remaining ≡ known → Completes program input out out' → ReadFrom known (λ feed. Runs program feed 0 out out' err err)
completed program known input out out' err is completes = (input, subst (λ k. Keeps k input.remaining) is (Keeps-refl input.remaining), inl (refl, completes, refl))

pub stopped : (program : Program) (known : Option (List ℕ)) (input : Feed) (status : ℕ) (out out' err err' : Log) (fault : DriveFault) → input.remaining ≡ known → status ≡ 1 → Stops program input out out' fault → Says err (fault_line fault.refusal) err'
    → ReadFrom known (λ feed. Runs program feed status out out' err err')
stopped program known input status out out' err err' fault is one stops says = (input, subst (λ k. Keeps k input.remaining) is (Keeps-refl input.remaining), inr (one, (fault, stops, says)))

-- what ran on what was opened ran on the file
pub ran_on_file : (held known : Option (List ℕ)) (program p : Program) (status : ℕ) (out out' err err' : Log) → program ≡ p → Keeps held known → ReadFrom known (λ feed. Runs p feed status out out' err err') → ReadFrom held (λ feed. Runs program feed status out out' err err')
ran_on_file held known program p status out out' err err' is keeps ran =
    (ran.0, Keeps-trans held known ran.0.remaining keeps ran.1, subst (λ q. Runs q ran.0 status out out' err err') (sym is) ran.2)
