use Rattle.std.proofs.Common.{◌≡◌, ℕ, List, Option, Some, None, MatchOption, Result, Ok, Err, OnOk, length, sym, subst}
use Rattle.fz_model.specs.declared.kinds.ObjKind.{ObjKind}
use Rattle.fz_model.specs.Allocation.{place_in}
use Rattle.fz_blocks.specs.declared.block.Block.{Block}
use Rattle.fz_blocks.specs.Layout.{extents_in, AreRuns}
use Rattle.fz_blocks.specs.Claims.{IsClaimed}
use Rattle.fz_blocks.proofs.Extents.{apart, within}
use Rattle.fz_blocks.proofs.block_map.BlockMap.claim.Goals as goal

-- runs are kept, whether a place is claimed or not
still_runs : (old new : List Block) (size : ℕ) (kind : ObjKind) (claimed : Option ℕ) → MatchOption claimed ((place_in (extents_in old) (length old) size kind ≡ None) × (new ≡ old)) (λ start. IsClaimed old new size kind start) → AreRuns old → AreRuns new
still_runs old new size kind None h runs = subst AreRuns (sym h.1) runs
still_runs old new size kind (Some start) h runs = h.runs

on_ok : {A E : Type 0} {P : Type 0} (r : Result A E) → P → OnOk r P
on_ok (Ok x) p = p
on_ok (Err e) p = tt

pub returns-clause-apart : goal.returns-clause-apart
returns-clause-apart c = on_ok _ (apart c.claim_place.new.blocks (still_runs _ c.claim_place.new.blocks _ _ _ c.claim_place.ensures c.self.invariant.runs))

pub returns-clause-within : goal.returns-clause-within
returns-clause-within c = on_ok _ (within c.claim_place.new.blocks (still_runs _ c.claim_place.new.blocks _ _ _ c.claim_place.ensures c.self.invariant.runs))
