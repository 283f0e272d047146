use Rattle.std.proofs.Common.{◌∙◌, sym, subst}
use Rattle.std.proofs.lemmas.Bool.{eqb-true}
use Rattle.fz_machine.specs.Sifts.{AreAll}
use Rattle.fz_machine.proofs.asking.is_idle.Goals as goal

pub returns-in-Some : goal.returns-in-Some
returns-in-Some c = λ h. (c.in-Some.answer, sym c.idle_answer.ensures ∙ c.in-Some.is, subst (AreAll c.in-Some.answer) (sym (eqb-true c.args.bits c.word_of.result h)) c.word_of.ensures)
