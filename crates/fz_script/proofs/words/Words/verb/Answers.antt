use Rattle.fz_script.proofs.Laws.{no_verb}
use Rattle.fz_script.proofs.words.Words.verb.Goals as goal

pub returns-in_default-clause-none : goal.returns-in_default-clause-none
returns-in_default-clause-none c = λ e. no_verb _ _ _ c.in_ok-next.ensures c.in_default.ensures.cases.0
