use Rattle.std.proofs.Common.{refl}
use Rattle.fz_blocks.proofs.Objects.{least_within}
use Rattle.fz_blocks.proofs.Staying.{claim_leaves_room}
use Rattle.fz_blocks.proofs.block.Block.has_two_free.Goals as goal

pub overflow_shl-result : goal.overflow_shl-result
overflow_shl-result c = least_within c.args.self.now c.requires.room _ refl

pub returns : goal.returns
returns c = λ other new place claims. claim_leaves_room c.args.self.now new place claims c.requires.room other
