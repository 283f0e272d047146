use Rattle.std.proofs.Common.{◌∙◌, nat_eq}
use Rattle.indexmap.proofs.CallerLemmas.{insert_entry-new}
use Rattle.fz_why.proofs.room.put.Goals as goal

pub returns-in-Ok-clause-put : goal.returns-in-Ok-clause-put
returns-in-Ok-clause-put c = record {
  at_end = c.in-Ok.ensures.entries ∙ insert_entry-new nat_eq c.args.cells.now c.args.word c.args.cell c.requires.new;
  found = c.in-Ok.ensures.updates.0;
}
