use Rattle.std.proofs.Common.{◌≡◌, List, ℕ, All, length, replicate, sym, subst}
use Rattle.std.proofs.lemmas.List.{length-replicate}
use Rattle.std.proofs.lemmas.List.Elements.{All-replicate}
use Rattle.fz_model.specs.declared.limits.TheConstants.{SLOTS}
use Rattle.fz_world.proofs.frames.Frames.new.Goals as goal

abbrev IsRow : List ℕ → Type 0
IsRow row = length row ≡ SLOTS

pub invariant_of-result : goal.invariant_of-result
invariant_of-result c = subst (All IsRow) (sym c.loop.invariant) (All-replicate IsRow c.loop.counter (replicate SLOTS 0) (length-replicate {A = ℕ} SLOTS 0))
