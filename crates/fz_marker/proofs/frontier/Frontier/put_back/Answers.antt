use Rattle.std.proofs.Common.{◌<◌, ◌+◌, ◌∷◌, [], Contains, length, length-append, sym, ap, subst, arith}
use Rattle.std.specs.FinSet.{len}
use Rattle.fz_model.specs.declared.limits.TheConstants.{HEAP_START}
use Rattle.fz_marker.specs.Frontiers.{Frontier}
use Rattle.fz_marker.proofs.Gaining.{push_within}
use Rattle.fz_marker.proofs.frontier.Frontier.put_back.Goals as goal

pub invariant_of-self : goal.invariant_of-self
invariant_of-self c =
    let set = c.self.inside.set in
    let work = c.self.inside.work.items in
    let start = c.args.start in
    let free : length work < len set.members = subst (λ (v : Frontier). length v.waiting < len v.members) (sym c.self.view_is) c.requires.room in
    let in_heap : start < HEAP_START + set.size = subst (λ (v : Frontier). start < HEAP_START + v.size) (sym c.self.view_is) c.requires.among.1 in
    let long = ap length c.put_last.ensures.items in
    let more = length-append work (start ∷ []) in
    record {
      wait = omega (arith, long, more, free);
      few = c.self.invariant.few;
      room = omega (arith, c.put_last.ensures.capacity, c.self.invariant.room);
      within = λ a h. push_within work start set.size c.self.invariant.within (c.requires.among.0, in_heap) a (subst (λ ws. Contains ws a) c.put_last.ensures.items h);
    }
