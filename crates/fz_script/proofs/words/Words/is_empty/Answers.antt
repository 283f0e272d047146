use Rattle.fz_script.proofs.Parts.{none_left}
use Rattle.fz_script.proofs.words.Words.is_empty.Goals as goal

pub returns : goal.returns
returns c = none_left c.args.self.now.rest c.is_none.result c.is_none.ensures
