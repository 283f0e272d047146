use Rattle.std.proofs.Common.{◌++◌, drop, sym, ap, ◌∙◌, subst}
use Rattle.fz_finalizers.specs.Ready.{Ready, IsTaken, held_of}
use Rattle.fz_finalizers.proofs.Taking.{takes_all, held_all}
use Rattle.fz_finalizers.proofs.ready.Ready.take_all.Goals as goal

pub invariant_of-self : goal.invariant_of-self
invariant_of-self c = subst (λ n. IsTaken c.self.inside.queue n) (sym c.queued-self-inside.ensures) (takes_all c.self.inside.queue c.self.inside.taken c.self.invariant)

pub returns-clause-held : goal.returns-clause-held
returns-clause-held c =
    ap (λ n. held_of c.self.inside.queue n) c.queued-self-inside.ensures ∙ held_all c.self.inside.queue c.self.inside.taken c.self.invariant
    ∙ ap (λ (r : Ready). r.held ++ drop r.taken r.queue) c.self.view_is
