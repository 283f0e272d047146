use Rattle.fz_bits.proofs.Words.{few_flags}
use Rattle.fz_bits.proofs.flags.Flags.copy_from.Goals as goal

pub returns-clause-room : goal.returns-clause-room
returns-clause-room g c = few_flags g.row.FIRST c.copy_from_slice.new.self.items
