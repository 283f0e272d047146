use Rattle.std.proofs.Common.{rules, refl}
use Rattle.std.proofs.KnownBytes.{Consumes-nil}
use Rattle.fz_runs.proofs.Reading.{some_unread}
use Rattle.fz_runs.proofs.text.input.fill.Goals as goal

pub returns-else-chunk : goal.returns-else-chunk
returns-else-chunk g c = (Consumes-nil _, some_unread c.args.chunk.now.bytes c.args.chunk.now.at c.args.chunk.now.len (search rules) (search rules) (search rules), refl)
