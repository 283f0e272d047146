use Rattle.std.proofs.Common.{◌∙◌, ◌-◌, refl, ap}
use Rattle.fz_machine.specs.Machines.{Machine}
use Rattle.fz_c.proofs.Rooted.{behind, none_rooted, some_rooted}
use Rattle.fz_c.proofs.machine.shown.fz_machine_roots.Goals as goal

pub returns-then-count-eq0 : goal.returns-then-count-eq0
returns-then-count-eq0 c =
    let same = c.finalizers.ensures ∙ ap (λ (k : Machine). k.finalizers) (c.behind-it.view_is ∙ c.deref.ensures) in
    behind _ _ c.in-Some.it.value _ _ _ c.in-Some.ensures.taken c.put.ensures
    (refl, none_rooted _ _ _ _ _ _ _ _ _ c.root_of.ensures same c.roots-roots.ensures.sort c.roots-roots.ensures.order c.from_place-left.ensures c.fill-count.ensures.count c.args.words.now c.if-count-eq0.true)

pub returns : goal.returns
returns c =
    let same = c.finalizers.ensures ∙ ap (λ (k : Machine). k.finalizers) (c.behind-it.view_is ∙ c.deref.ensures) in
    behind _ _ c.in-Some.it.value _ _ _ c.in-Some.ensures.taken c.put.ensures
    (refl, some_rooted _ _ _ _ _ _ _ _ _ c.root_of.ensures same c.roots-roots.ensures.sort c.roots-roots.ensures.order c.from_place-left.ensures c.fill-count.ensures.count c.args.words.now _ c.fill-count.new.self c.if-count-eq0.false refl c.fill-count.ensures.filled c.fill-count.ensures.left c.fill-count.ensures.rest (λ i. c.places-all.ensures i - c.places.ensures i))
