use Rattle.std.proofs.Common.{◌<◌, List, Contains, take, ap, subst, length, arith}
use Rattle.fz_model.specs.declared.answers.Entry.{Entry}
use Rattle.fz_finalizers.specs.Queue.{Queue, IsNextHeld, IsPlaceOf}
use Rattle.fz_finalizers.proofs.Queues.{none_left, next_is, number_within, length_queue, read_at}
use Rattle.fz_finalizers.proofs.queue.Queue.next_held.Goals as goal

pub returns-in_err-place-clause-next : goal.returns-in_err-place-clause-next
returns-in_err-place-clause-next c =
    let i = c.self.inside in
    let at_place = subst (λ (es : List Entry). IsPlaceOf es c.args.from c.place_of-place.result) c.deref.ensures.value c.place_of-place.ensures in
    rw c.from_residual.ensures (subst (λ (r : Queue). (e : Entry) → Contains r.held e → e.seq < c.args.from) c.self.view_is
    (none_left (take i.first i.past.entries) i.entries.items i.kept i.first i.held.members i.outstanding c.self.invariant c.args.from c.place_of-place.result at_place c.in_err-place.ensures.next))

pub returns-clause-next : goal.returns-clause-next
returns-clause-next c =
    let i = c.self.inside in
    let at_place = subst (λ (es : List Entry). IsPlaceOf es c.args.from c.place_of-place.result) c.deref.ensures.value c.place_of-place.ensures in
    let next = c.in_ok-place.ensures.next in
    let within = c.self.invariant.within c.in_ok-place.place next.member in
    subst (λ (r : Queue). IsNextHeld r.held c.args.from c.index.result.now) c.self.view_is
    (next_is (take i.first i.past.entries) i.entries.items i.kept i.first i.held.members i.outstanding c.self.invariant c.args.from c.place_of-place.result at_place c.in_ok-place.place c.index.result.now next (read_at i.entries.items c.in_ok-place.place c.index.result.now within c.index.ensures))

pub returns-clause-within : goal.returns-clause-within
returns-clause-within c =
    let i = c.self.inside in
    let p = take i.first i.past.entries in
    let next = c.in_ok-place.ensures.next in
    let within = c.self.invariant.within c.in_ok-place.place next.member in
    let less = number_within p i.entries.items i.kept i.first i.held.members i.outstanding c.self.invariant c.in_ok-place.place c.index.result.now (read_at i.entries.items c.in_ok-place.place c.index.result.now within c.index.ensures) in
    let all = length_queue p i.entries.items i.kept i.first i.held.members i.outstanding c.self.invariant in
    let queue = ap (λ (r : Queue). length r.queue) c.self.view_is in
    omega (arith, less, all, queue)
