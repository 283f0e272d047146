-- A pass without ephemerons is a pass over none.
use Rattle.std.proofs.Common.{rules}
use Rattle.fz_pass.specs.Decides.{parts_of, parts_left}
use Rattle.fz_pass.specs.Tiers.{tiered}
use Rattle.fz_pass.proofs.Plainly.{plain_closed, plain_decided, plain_keys, plain_whole}
use Rattle.fz_pass.proofs.pass.decide.Goals as goal

pub decide_whole-requires-clause-short_keys : goal.decide_whole-requires-clause-short_keys
decide_whole-requires-clause-short_keys g c = (plain_keys (g.H.Host.objects c.of.result.host.now) _ c.new-none.ensures).0

pub decide_whole-requires-clause-long_keys : goal.decide_whole-requires-clause-long_keys
decide_whole-requires-clause-long_keys g c = (plain_keys (g.H.Host.objects c.of.result.host.now) _ c.new-none.ensures).1

pub decide_whole-requires-clause-whole : goal.decide_whole-requires-clause-whole
decide_whole-requires-clause-whole g c =
    let t = g.H.Host in
    plain_whole t.place (t.objects c.of.result.host.now) (t.marked c.of.result.host.now) _ c.new-none.ensures
    (plain_closed t.objects t.marked c.args.host.now c.of.result.host.now c.of.ensures.same c.requires.closed)

pub returns-clause-closed : goal.returns-clause-closed
returns-clause-closed g c = plain_closed g.H.Host.objects g.H.Host.marked c.decide_whole.new.host.host.now _ (search rules) c.decide_whole.ensures.closed

pub returns-clause-decided : goal.returns-clause-decided
returns-clause-decided g c =
    let t = g.H.Host in
    let table = c.args.table.now in
    plain_decided t.is_exact t.place (tiered c.args.terms.tiers table.late) c.args.terms.pass c.args.terms.first t.marked
    (λ h. parts_of (t.objects h) table c.args.short.now c.args.long.now)
    (λ h. parts_left (t.objects h) (t.marked h) c.decide_whole.new.table c.decide_whole.new.short c.decide_whole.new.long)
    c.args.queue.now.items c.decide_whole.new.queue.items table.late c.decide_whole.new.table.late c.decide_whole.new.ephemerons.ephemerons
    c.args.host.now c.of.result.host.now c.decide_whole.new.host.host.now _ c.new-none.result.ephemerons
    c.of.ensures.same (search rules) c.new-none.ensures c.requires.normal c.requires.zero c.requires.closed c.decide_whole.ensures.decided
