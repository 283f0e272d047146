use Rattle.std.proofs.Common.{◌∙◌}
use Rattle.fz_bits.proofs.InOrder.{all_members}
use Rattle.fz_bits.proofs.flags.Flags.iter.Goals as goal

pub returns : goal.returns
returns g c = c.of.ensures ∙ all_members g.row.FIRST c.args.self.now
