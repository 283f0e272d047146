use Rattle.std.proofs.Common.{◌∙◌, option_map, ap}
use Rattle.std.proofs.lemmas.Option.{none-some, same_Some}
use Rattle.std.specs.FinSet.{contains}
use Rattle.fz_model.specs.declared.answers.Registration.{Registration}
use Rattle.fz_finalizers.specs.Kinds.{is_late, of_table}
use Rattle.fz_why.proofs.Told.{late_of_table}
use Rattle.fz_why.proofs.waiting.is_flagged.Goals as goal

pub returns-in-Some : goal.returns-in-Some
returns-in-Some c =
    let late = contains c.args.finalizers.now.state.late c.args.object in
    let at = c.in-Some.ensures ∙ ap (option_map (λ (r : Registration). of_table late r.kind)) c.requires.1 in
    c.is_late.ensures ∙ ap is_late (same_Some c.in-Some.kind (of_table late c.requires.0.kind) at) ∙ late_of_table late c.requires.0.kind

pub returns-in-None : goal.returns-in-None
returns-in-None c =
    let late = contains c.args.finalizers.now.state.late c.args.object in
    absurd (none-some (of_table late c.requires.0.kind) (c.in-None.ensures ∙ ap (option_map (λ (r : Registration). of_table late r.kind)) c.requires.1))
