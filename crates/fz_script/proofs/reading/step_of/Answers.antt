use Rattle.std.proofs.Common.{◌∙◌, sym}
use Rattle.fz_script.proofs.Laws.{found, only}
use Rattle.fz_script.proofs.reading.step_of.Goals as goal

pub returns-clause-found : goal.returns-clause-found
returns-clause-found c = found _ _ c.read_line.ensures

pub returns-clause-only : goal.returns-clause-only
returns-clause-only c s fits e = sym c.read_line.ensures ∙ only _ s fits e
