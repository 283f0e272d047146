use Rattle.std.proofs.Common.{◌≡◌, ◌∙◌, ap, sym, subst, true, ℕ}
use Rattle.std.specs.FinSet.{len, contains}
use Rattle.fz_model.specs.Extents.{IsInHeap}
use Rattle.fz_blocks.specs.Claimed.{Claimed, AreGone}
use Rattle.fz_blocks.proofs.Condemned.{len-condemned_in, condemned_within}
use Rattle.fz_blocks.proofs.Mapped.{are_gone}
use Rattle.fz_blocks.proofs.block_map.BlockMap.condemned.Goals as goal

pub returns-clause-count : goal.returns-clause-count
returns-clause-count c = c.condemned.ensures ∙ sym (len-condemned_in c.self.inside.blocks) ∙ ap (λ (v : Claimed). len v.condemned) c.self.view_is

pub returns-clause-gone : goal.returns-clause-gone
returns-clause-gone c = subst AreGone c.self.view_is (are_gone c.self.inside.blocks)

pub returns-clause-within : goal.returns-clause-within
returns-clause-within c = subst (λ (v : Claimed). (a : ℕ) → contains v.condemned a ≡ true → IsInHeap v.blocks a) c.self.view_is (condemned_within c.self.inside.blocks)
