use Rattle.std.proofs.Common.{◌∙◌, nat_eq, ap, sym, subst}
use Rattle.std.specs.List.{IsDistinct}
use Rattle.fz_table.proofs.Flagged.{keys_plain}
use Rattle.fz_finalizers.specs.States.{View}
use Rattle.fz_finalizers.proofs.finalizers.Finalizers.iter_stored.Goals as goal

pub returns-clause-all : goal.returns-clause-all
returns-clause-all c =
    (c.iter_stored.ensures.all ∙ ap (λ (v : View). v.registrations) c.self.view_is, subst (IsDistinct nat_eq) (sym (keys_plain c.iter_stored.result)) c.iter_stored.ensures.once)
