use Rattle.std.proofs.Common.{◌∙◌, ap, sym, cond, nat_eq}
use Rattle.std.specs.FinSet.{contains}
use Rattle.fz_bits.specs.Flags.{Flagged}
use Rattle.fz_model.proofs.Sets.{contains-inserted, contains-removed}
use Rattle.fz_blocks.proofs.block_set.BlockSet.set.Goals as goal

pub returns-then-member-clause-members : goal.returns-then-member-clause-members
returns-then-member-clause-members c = λ b. ap (λ (s : Flagged). contains s.members b) c.insert.ensures ∙ contains-inserted c.args.self.now.members c.args.block b ∙ ap (λ t. cond (nat_eq b c.args.block) t (contains c.args.self.now.members b)) (sym c.if-member.true)

pub returns-else-member-clause-members : goal.returns-else-member-clause-members
returns-else-member-clause-members c = λ b. ap (λ (s : Flagged). contains s.members b) c.remove.ensures ∙ contains-removed c.args.self.now.members c.args.block b ∙ ap (λ t. cond (nat_eq b c.args.block) t (contains c.args.self.now.members b)) (sym c.if-member.false)
