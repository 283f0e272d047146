use Rattle.std.proofs.Common.{ap, rules}
use Rattle.fz_finalizers.specs.States.{State}
use Rattle.fz_pass.proofs.Plainly.{plain_closed, plain_keys, plain_whole}
use Rattle.fz_finalizers.proofs.Plainly.{decides_back}
use Rattle.fz_finalizers.proofs.finalizers.Finalizers.pass_without_cleanups.Goals as goal

pub decide-passed-requires-clause-short_keys : goal.decide-passed-requires-clause-short_keys
decide-passed-requires-clause-short_keys g c = (plain_keys (g.H.Host.objects c.of.result.host.now) _ (ap (λ (s : State). s.ephemerons) c.take_ephemerons-aside.ensures.left)).0

pub decide-passed-requires-clause-long_keys : goal.decide-passed-requires-clause-long_keys
decide-passed-requires-clause-long_keys g c = (plain_keys (g.H.Host.objects c.of.result.host.now) _ (ap (λ (s : State). s.ephemerons) c.take_ephemerons-aside.ensures.left)).1

pub decide-passed-requires-clause-whole : goal.decide-passed-requires-clause-whole
decide-passed-requires-clause-whole g c =
    let t = g.H.Host in
    plain_whole t.place (t.objects c.of.result.host.now) (t.marked c.of.result.host.now) _ (ap (λ (s : State). s.ephemerons) c.take_ephemerons-aside.ensures.left)
    (plain_closed t.objects t.marked c.args.host.now c.of.result.host.now c.of.ensures.same c.requires.closed)

pub returns-clause-closed : goal.returns-clause-closed
returns-clause-closed g c = plain_closed g.H.Host.objects g.H.Host.marked c.decide-passed.new.host.host.now _ (search rules) c.decide-passed.ensures.closed

pub returns-clause-decided : goal.returns-clause-decided
returns-clause-decided g c =
    let t = g.H.Host in
    decides_back t.objects t.marked t.is_exact t.place c.args.self.now.state c.take_ephemerons-aside.new.self.state c.decide-passed.new.self.state c.put_ephemerons.new.self.state c.args.host.now c.of.result.host.now c.decide-passed.new.host.host.now _
    c.of.ensures.same (search rules) c.take_ephemerons-aside.ensures.left c.take_ephemerons-aside.ensures.flags c.requires.zero c.requires.closed _ c.put_ephemerons.ensures.put c.decide-passed.ensures.decided
