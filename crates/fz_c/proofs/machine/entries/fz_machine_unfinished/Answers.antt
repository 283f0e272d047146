use Rattle.std.proofs.Common.{◌∙◌, None, refl, ap, subst, inl}
use Rattle.fz_finalizers.specs.Queue.{IsFirstHeldFrom}
use Rattle.fz_finalizers.specs.States.{View, unfinished}
use Rattle.fz_machine.specs.Machines.{Machine}
use Rattle.fz_c.proofs.Rooted.{behind}
use Rattle.fz_c.proofs.machine.entries.fz_machine_unfinished.Goals as goal

pub returns-in_default-found : goal.returns-in_default-found
returns-in_default-found c =
    let same = c.finalizers.ensures ∙ ap (λ (k : Machine). k.finalizers) (c.behind-it.view_is ∙ c.deref.ensures) in
    behind _ _ c.in-Some.it.value _ _ _ c.in-Some.ensures.taken c.put.ensures
    (refl, inl (refl, subst (λ (v : View). IsFirstHeldFrom (unfinished v.state) c.args.from None) same c.in_default-found.ensures.next, refl))
