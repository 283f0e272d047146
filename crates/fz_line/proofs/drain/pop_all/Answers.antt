use Rattle.std.proofs.Common.{◌∙◌, refl, ap, length, arith}
use Rattle.fz_line.specs.declared.protocol.View.{View}
use Rattle.fz_line.proofs.Steps.{pops, ends}
use Rattle.fz_line.proofs.Draining.{view_popped, rest_popped}
use Rattle.fz_line.proofs.drain.pop_all.Goals as goal

pub pop_as-requires-clause-fifo : goal.pop_as-requires-clause-fifo
pop_as-requires-clause-fifo c =
    let popped = c.loop-entry.invariant.popped in
    λ _. pops _ _ (ap (λ (v : View). v.owner) popped) (ap (λ (v : View). length v.lists) popped ∙ c.requires.all)

pub pop_as-requires-clause-empty : goal.pop_as-requires-clause-empty
pop_as-requires-clause-empty c =
    let popped = c.loop-entry.invariant.popped in
    ends _ _ (ap (λ (v : View). v.owner) popped) (ap (λ (v : View). length v.lists) popped ∙ c.requires.all)

pub loop-entry-preserved : goal.loop-entry-preserved
loop-entry-preserved c =
    let i = c.loop-entry.invariant in
    let p = c.push_reserved.ensures in
    let s = c.in-Some.ensures in
    let same = s.same in
    let room = i.kept.1 in
    let popped = view_popped _ _ _ _ _ _ _ i.popped s.rule p.items in
    let now = ap (λ (v : View). length v.sent) popped in
    let before = ap (λ (v : View). length v.sent) i.popped in record {
      kept = (same.0.0 ∙ i.kept.0, (same.0.1 ∙ room.0, omega (arith, same.1, room.1, now, before)), omega (arith, same.0.3, i.kept.2));
      popped = popped;
      so_far = (rest_popped _ _ _ _ _ _ _ i.popped s.rule p.items i.so_far).0;
      capacity = p.capacity ∙ i.capacity;
    }

pub push_reserved-requires : goal.push_reserved-requires
push_reserved-requires c =
    let i = c.loop-entry.invariant in
    let less = (rest_popped _ _ _ _ _ _ _ i.popped c.in-Some.ensures.rule refl i.so_far).1 in
    omega (arith, less, c.requires.room.1, i.capacity)
