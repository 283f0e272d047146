use Rattle.std.proofs.Common.{rules}
use Rattle.fz_script.proofs.Laws.{another_word}
use Rattle.fz_script.proofs.reading.next_step.Goals as goal

pub returns-in_default : goal.returns-in_default
returns-in_default c = another_word _ c.in_ok-verb.field-0.now _ c.in_ok-verb.ensures.some (search rules)
