use Rattle.std.proofs.Common.{ℕ, List, MatchOption, subst}
use Rattle.fz_blocks.specs.declared.block.Block.{Block}
use Rattle.fz_blocks.specs.Runs.{IsRun, IsFirstRun}
use Rattle.fz_blocks.proofs.Searching.{run_found}
use Rattle.fz_blocks.proofs.blocks.Blocks.first_run.Goals as goal

pub returns : goal.returns
returns c =
    subst (λ (bs : List Block). MatchOption c.first_run.result ((b : ℕ) → IsRun bs c.args.count b → ⊥) (λ b. IsFirstRun bs c.args.count b)) c.self.view_is
    (run_found c.self.inside.blocks.items c.self.inside.bare.members c.self.invariant.0.bare_are c.args.count c.first_run.result c.first_run.ensures)
