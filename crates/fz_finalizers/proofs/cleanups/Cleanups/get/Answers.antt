use Rattle.std.proofs.Common.{◌∙◌, ap, sym}
use Rattle.std.specs.FinMap.{get}
use Rattle.fz_model.proofs.Tables.{get_made}
use Rattle.fz_finalizers.specs.Cleanups.{Cleanups}
use Rattle.fz_finalizers.proofs.cleanups.Cleanups.get.Goals as goal

pub returns : goal.returns
returns c = c.copied.ensures ∙ c.get.ensures.value ∙ sym (get_made c.self.inside.entries.entries c.args.number) ∙ ap (λ (t : Cleanups). get t.cleanups c.args.number) c.self.view_is
