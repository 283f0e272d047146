use Rattle.std.proofs.Common.{◌∙◌, cond, ap, sym}
use Rattle.fz_machine.proofs.Gathered.{subject_is}
use Rattle.fz_machine.proofs.phase.Phase.subject.Goals as goal

pub returns-then-is_of_words : goal.returns-then-is_of_words
returns-then-is_of_words c = ap (λ b. cond b c.args.item.now.word c.args.item.now.object) (sym c.if-is_of_words.true ∙ c.is_of_words.ensures) ∙ subject_is c.args.self c.args.item.now

pub returns : goal.returns
returns c = ap (λ b. cond b c.args.item.now.word c.args.item.now.object) (sym c.if-is_of_words.false ∙ c.is_of_words.ensures) ∙ subject_is c.args.self c.args.item.now
