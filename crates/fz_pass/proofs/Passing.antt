-- A decision that is carried out makes a pass of the model.
use Rattle.std.proofs.Common.{◌≡◌, ℕ, ◌+◌, ◌-◌, Bool, List, length, arith}
use Rattle.std.specs.FinMap.{len}
use Rattle.fz_model.specs.State.{Core}
use Rattle.fz_model.specs.declared.answers.Pick.{Pick}
use Rattle.fz_model.specs.Pass.{Passes}
use Rattle.fz_pass.specs.Decides.{Parts, Decides, core_parts, passed_core}

pub passes : (c : Core) (found : ℕ → Bool) (picks : List Pick) (new : Parts) (reclaimed : ℕ) → Decides (core_parts c) found picks new → len new.objects + reclaimed ≡ len c.objects → Passes c found (record { pass = c.passes + 1; picked = length picks; reclaimed = reclaimed }) (passed_core c new picks)
passes c found picks new reclaimed d fewer = record {
  decision = d.decision;
  is = λ i. passed_core c (d.is i) (d.picked i);
  reply = λ i. record { pass = c.passes + 1; picked = length (d.picked i); reclaimed = count i };
}
  where
    count : reclaimed ≡ len c.objects - len new.objects
    count = omega (arith, fewer)
