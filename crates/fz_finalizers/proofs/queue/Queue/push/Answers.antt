use Rattle.std.proofs.Common.{◌≡◌, ◌<◌, ◌^◌, ◌+◌, ◌++◌, [], ◌∷◌, take, length, refl, sym, ap, ◌∙◌, arith}
use Rattle.fz_model.specs.Pass.{entries_of}
use Rattle.fz_pass.proofs.Gathering.{pushed}
use Rattle.fz_finalizers.specs.Queue.{Queue}
use Rattle.fz_finalizers.proofs.Gathered.{few_placed}
use Rattle.fz_finalizers.proofs.Coming.{come_ready, come_gained}
use Rattle.fz_finalizers.proofs.queue.Queue.push.Goals as goal

pub overflow_add-self : goal.overflow_add-self
overflow_add-self c =
    let few = few_placed c.self.inside.held.members 0 c.self.inside.entries.items in
    omega (arith, few, c.self.invariant.counted, c.len-first.ensures, c.len-end.ensures, c.self.inside.entries.ok, c.push.new.self.ok, c.push.new.self.small)

pub invariant_of-self : goal.invariant_of-self
invariant_of-self c =
    let i = c.self.inside in
    let seq = c.queued-seq.result in
    let picks = c.args.pick ∷ [] in
    let room = ap (λ (r : Queue). r.room) c.self.view_is in
    let come : c.push.new.self.items ≡ i.entries.items ++ entries_of c.args.pass seq picks = pushed _ _ _ _ (c.push.ensures.succeeds (omega (arith, room, c.requires.room, i.entries.ok))) c.push.ensures.items in
    let next_is = c.queued-seq.ensures ∙ ap (λ (r : Queue). length r.queue) (sym c.self.view_is) in
    let fits : seq + length picks < 2 ^ 64 = omega (arith, c.queued-seq.ensures, c.requires.number) in
    let first : c.len-first.result ≡ length i.entries.items = c.len-first.ensures ∙ i.entries.ok.0 in
    let end : c.len-end.result ≡ length c.push.new.self.items = c.len-end.ensures ∙ c.push.new.self.ok.0 in
    come_ready (take i.first i.past.entries) i.entries.items c.push.new.self.items i.kept i.first i.held.members c.hold.new.held.members i.outstanding c.self.invariant c.args.pass seq c.len-first.result c.len-end.result picks come next_is fits first end c.hold.ensures.held

pub returns-clause-pushed : goal.returns-clause-pushed
returns-clause-pushed c =
    let i = c.self.inside in
    let seq = c.queued-seq.result in
    let picks = c.args.pick ∷ [] in
    let room = ap (λ (r : Queue). r.room) c.self.view_is in
    let come : c.push.new.self.items ≡ i.entries.items ++ entries_of c.args.pass seq picks = pushed _ _ _ _ (c.push.ensures.succeeds (omega (arith, room, c.requires.room, i.entries.ok))) c.push.ensures.items in
    let next_is = c.queued-seq.ensures ∙ ap (λ (r : Queue). length r.queue) (sym c.self.view_is) in
    let fits : seq + length picks < 2 ^ 64 = omega (arith, c.queued-seq.ensures, c.requires.number) in
    let first : c.len-first.result ≡ length i.entries.items = c.len-first.ensures ∙ i.entries.ok.0 in
    let end : c.len-end.result ≡ length c.push.new.self.items = c.len-end.ensures ∙ c.push.new.self.ok.0 in
    come_gained (take i.first i.past.entries) i.entries.items c.push.new.self.items i.kept i.first i.held.members c.hold.new.held.members i.outstanding c.self.invariant c.args.pass seq c.len-first.result c.len-end.result picks come next_is fits first end c.hold.ensures.held c.args.self.now _ (ap (λ (r : Queue). r.queue) c.self.view_is) (ap (λ (r : Queue). r.held) c.self.view_is) refl refl (ap (λ (r : Queue). r.forgotten) c.self.view_is)
