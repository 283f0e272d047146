use Rattle.std.proofs.Common.{◌≤◌, ◌<◌, ◌+◌, Contains, length, length-append, sym, ap, subst, arith, IfSome}
use Rattle.std.proofs.lemmas.List.Elements.{Contains-append_left}
use Rattle.fz_model.specs.declared.limits.TheConstants.{HEAP_START}
use Rattle.fz_marker.specs.Frontiers.{Frontier}
use Rattle.fz_marker.proofs.Gaining.{popped_within}
use Rattle.fz_marker.proofs.frontier.Frontier.pop.Goals as goal

pub invariant_of-self : goal.invariant_of-self
invariant_of-self c =
    let long = c.pop.ensures.items in
    let new = c.pop.new.self.items in
    record {
      wait = omega (arith, ap length long, length-append {A = _} new, c.self.invariant.wait);
      few = c.self.invariant.few;
      room = omega (arith, c.pop.ensures.capacity, c.self.invariant.room);
      within = λ a h. c.self.invariant.within a (subst (λ ws. Contains ws a) (sym long) (Contains-append_left new _ a h));
    }

pub returns-clause-within : goal.returns-clause-within
returns-clause-within c =
    subst (λ (v : Frontier). IfSome c.pop.result (λ start. (HEAP_START ≤ start) × (start < HEAP_START + v.size))) c.self.view_is
    (popped_within c.self.inside.work.items c.pop.new.self.items c.pop.result c.pop.ensures.items c.self.inside.set.size c.self.invariant.within)
