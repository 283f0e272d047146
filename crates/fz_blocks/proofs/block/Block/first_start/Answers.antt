use Rattle.std.proofs.Common.{refl, ap, ◌+◌}
use Rattle.fz_blocks.proofs.Starting.{no_start, first_start}
use Rattle.fz_blocks.proofs.block.Block.first_start.Goals as goal

pub returns-then-rest-eq0 : goal.returns-then-rest-eq0
returns-then-rest-eq0 c = no_start c.args.self.now c.args.place _ c.requires refl c.if-rest-eq0.true

pub returns : goal.returns
returns c = first_start c.args.self.now c.args.place _ c.requires refl _ c.if-rest-eq0.false (ap (λ n. c.args.place + n) c.from.ensures)
