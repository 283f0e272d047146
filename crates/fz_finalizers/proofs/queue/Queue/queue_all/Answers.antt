use Rattle.std.proofs.Common.{◌≡◌, ◌<◌, ◌^◌, ◌+◌, take, length, length-append, refl, sym, ap, ◌∙◌, arith}
use Rattle.fz_model.proofs.Sound.{length-entries_of}
use Rattle.fz_model.specs.Pass.{entries_of}
use Rattle.fz_finalizers.specs.Queue.{Queue}
use Rattle.fz_finalizers.proofs.Gathered.{few_placed}
use Rattle.fz_finalizers.proofs.Coming.{come_ready, come_gained, all_there}
use Rattle.fz_finalizers.proofs.queue.Queue.queue_all.Goals as goal

pub overflow_add-self : goal.overflow_add-self
overflow_add-self c =
    let few = few_placed c.self.inside.held.members 0 c.self.inside.entries.items in
    omega (arith, few, c.self.invariant.counted, c.len-first.ensures, c.len-end.ensures, c.self.inside.entries.ok, c.queue_all.new.queue.ok, c.queue_all.new.queue.small)

pub invariant_of-self : goal.invariant_of-self
invariant_of-self c =
    let i = c.self.inside in
    let d = c.queue_all.ensures.queued.0 in
    let next = c.queued-next.result in
    let more = ap length d.queued ∙ length-append i.entries.items (entries_of 0 next d.picks) in
    let all = length-entries_of 0 next d.picks in
    let next_is = c.queued-next.ensures ∙ ap (λ (r : Queue). length r.queue) (sym c.self.view_is) in
    let fits : next + length d.picks < 2 ^ 64 = omega (arith, c.queued-next.ensures, c.queue_all.ensures.count, more, all, c.requires.numbers, i.entries.ok, c.queue_all.new.queue.ok) in
    let first : c.len-first.result ≡ length i.entries.items = c.len-first.ensures ∙ i.entries.ok.0 in
    let end : c.len-end.result ≡ length c.queue_all.new.queue.items = c.len-end.ensures ∙ c.queue_all.new.queue.ok.0 in
    come_ready (take i.first i.past.entries) i.entries.items c.queue_all.new.queue.items i.kept i.first i.held.members c.hold.new.held.members i.outstanding c.self.invariant 0 next c.len-first.result c.len-end.result d.picks d.queued next_is fits first end c.hold.ensures.held

pub returns-clause-gained : goal.returns-clause-gained
returns-clause-gained c =
    let i = c.self.inside in
    let d = c.queue_all.ensures.queued.0 in
    let next = c.queued-next.result in
    let more = ap length d.queued ∙ length-append i.entries.items (entries_of 0 next d.picks) in
    let all = length-entries_of 0 next d.picks in
    let next_is = c.queued-next.ensures ∙ ap (λ (r : Queue). length r.queue) (sym c.self.view_is) in
    let fits : next + length d.picks < 2 ^ 64 = omega (arith, c.queued-next.ensures, c.queue_all.ensures.count, more, all, c.requires.numbers, i.entries.ok, c.queue_all.new.queue.ok) in
    let first : c.len-first.result ≡ length i.entries.items = c.len-first.ensures ∙ i.entries.ok.0 in
    let end : c.len-end.result ≡ length c.queue_all.new.queue.items = c.len-end.ensures ∙ c.queue_all.new.queue.ok.0 in
    (d.picks, come_gained (take i.first i.past.entries) i.entries.items c.queue_all.new.queue.items i.kept i.first i.held.members c.hold.new.held.members i.outstanding c.self.invariant 0 next c.len-first.result c.len-end.result d.picks d.queued next_is fits first end c.hold.ensures.held c.args.self.now _ (ap (λ (r : Queue). r.queue) c.self.view_is) (ap (λ (r : Queue). r.held) c.self.view_is) refl refl (ap (λ (r : Queue). r.forgotten) c.self.view_is))

pub returns-clause-queued : goal.returns-clause-queued
returns-clause-queued c =
    let i = c.self.inside in
    let d = c.queue_all.ensures.queued in
    all_there (take i.first i.past.entries) i.entries.items c.queue_all.new.queue.items c.args.self.now.queue i.kept c.queued-next.result (length c.args.self.now.queue) c.args.table.now.late c.queue_all.new.table.late c.self.invariant.stored.few
    (ap (λ (r : Queue). r.queue) c.self.view_is) c.queued-next.ensures c.args.table.now.registrations d.0 d.1
