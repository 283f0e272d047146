use Rattle.std.proofs.Common.{◌≡◌, ◌<◌, ◌^◌, ◌+◌, take, length, length-append, refl, sym, ap, ◌∙◌, arith}
use Rattle.fz_model.proofs.Sound.{length-entries_of}
use Rattle.fz_finalizers.specs.Queue.{Queue}
use Rattle.fz_finalizers.proofs.Gathered.{few_placed}
use Rattle.fz_pass.specs.Decides.{parts_of, parts_left}
use Rattle.fz_finalizers.proofs.Coming.{come_ready, come_gained, decided_there}
use Rattle.fz_finalizers.proofs.queue.Queue.pass.Goals as goal

pub overflow_add-self : goal.overflow_add-self
overflow_add-self g c =
    let few = few_placed c.self.inside.held.members 0 c.self.inside.entries.items in
    omega (arith, few, c.self.invariant.counted, c.len-first.ensures, c.len-end.ensures, c.self.inside.entries.ok, c.decide_whole.new.queue.ok, c.decide_whole.new.queue.small)

pub invariant_of-self : goal.invariant_of-self
invariant_of-self g c =
    let i = c.self.inside in
    let d = c.decide_whole.ensures.decided.0 in
    let picks = d.picks in
    let next = c.queued.result in
    let longer = ap length d.queued ∙ length-append i.entries.items _ in
    let count = length-entries_of c.args.number next picks in
    let next_is = c.queued.ensures ∙ ap (λ (r : Queue). length r.queue) (sym c.self.view_is) in
    let fits : next + length picks < 2 ^ 64 = omega (arith, c.queued.ensures, c.decide_whole.ensures.count, longer, count, c.requires.numbers, i.entries.ok, c.decide_whole.new.queue.ok) in
    let first : c.len-first.result ≡ length i.entries.items = c.len-first.ensures ∙ i.entries.ok.0 in
    let end : c.len-end.result ≡ length c.decide_whole.new.queue.items = c.len-end.ensures ∙ c.decide_whole.new.queue.ok.0 in
    come_ready (take i.first i.past.entries) i.entries.items c.decide_whole.new.queue.items i.kept i.first i.held.members c.hold.new.held.members i.outstanding c.self.invariant c.args.number next c.len-first.result c.len-end.result picks d.queued next_is fits first end c.hold.ensures.held

pub returns-clause-gained : goal.returns-clause-gained
returns-clause-gained g c =
    let i = c.self.inside in
    let d = c.decide_whole.ensures.decided.0 in
    let picks = d.picks in
    let next = c.queued.result in
    let longer = ap length d.queued ∙ length-append i.entries.items _ in
    let count = length-entries_of c.args.number next picks in
    let next_is = c.queued.ensures ∙ ap (λ (r : Queue). length r.queue) (sym c.self.view_is) in
    let fits : next + length picks < 2 ^ 64 = omega (arith, c.queued.ensures, c.decide_whole.ensures.count, longer, count, c.requires.numbers, i.entries.ok, c.decide_whole.new.queue.ok) in
    let first : c.len-first.result ≡ length i.entries.items = c.len-first.ensures ∙ i.entries.ok.0 in
    let end : c.len-end.result ≡ length c.decide_whole.new.queue.items = c.len-end.ensures ∙ c.decide_whole.new.queue.ok.0 in
    (picks, come_gained (take i.first i.past.entries) i.entries.items c.decide_whole.new.queue.items i.kept i.first i.held.members c.hold.new.held.members i.outstanding c.self.invariant c.args.number next c.len-first.result c.len-end.result picks d.queued next_is fits first end c.hold.ensures.held c.args.self.now _ (ap (λ (r : Queue). r.queue) c.self.view_is) (ap (λ (r : Queue). r.held) c.self.view_is) refl refl (ap (λ (r : Queue). r.forgotten) c.self.view_is))

pub returns-clause-decided : goal.returns-clause-decided
returns-clause-decided g c =
    let t = g.H.Host in
    let i = c.self.inside in
    let d = c.decide_whole.ensures.decided in
    decided_there (take i.first i.past.entries) i.entries.items c.decide_whole.new.queue.items c.args.self.now.queue i.kept c.queued.result (length c.args.self.now.queue) c.args.table.now.late c.decide_whole.new.table.late c.self.invariant.stored.few
    (ap (λ (r : Queue). r.queue) c.self.view_is) c.queued.ensures t.is_exact t.place g.H.Values.value c.args.number (parts_of (t.objects c.args.host.now) c.args.table.now c.args.short.now c.args.long.now) c.args.ephemerons.now.ephemerons
    (parts_left (t.objects c.decide_whole.new.host) (t.marked c.decide_whole.new.host) c.decide_whole.new.table c.decide_whole.new.short c.decide_whole.new.long) c.decide_whole.new.ephemerons.ephemerons (t.marked c.args.host.now) d.0 d.1

pub returns-clause-fewer : goal.returns-clause-fewer
returns-clause-fewer g c =
    let d = c.decide_whole.ensures.decided.0 in
    let longer = ap length d.queued ∙ length-append c.self.inside.entries.items _ in
    omega (arith, longer, c.decide_whole.ensures.count, c.self.inside.entries.ok, c.decide_whole.new.queue.ok)
