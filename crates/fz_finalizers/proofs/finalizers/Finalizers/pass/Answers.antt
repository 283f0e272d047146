use Rattle.std.proofs.Common.{◌∙◌, ap, rules}
use Rattle.fz_finalizers.specs.States.{State}
use Rattle.fz_pass.proofs.Plainly.{plain_closed, plain_keys, plain_whole}
use Rattle.fz_finalizers.proofs.Plainly.{passes_back}
use Rattle.fz_finalizers.proofs.finalizers.Finalizers.pass.Goals as goal

pub pass_found-passed-requires-clause-short_keys : goal.pass_found-passed-requires-clause-short_keys
pass_found-passed-requires-clause-short_keys g c = (plain_keys (g.H.Host.objects c.of.result.host.now) _ (ap (λ (s : State). s.ephemerons) c.take_ephemerons-ephemerons.ensures.left)).0

pub pass_found-passed-requires-clause-long_keys : goal.pass_found-passed-requires-clause-long_keys
pass_found-passed-requires-clause-long_keys g c = (plain_keys (g.H.Host.objects c.of.result.host.now) _ (ap (λ (s : State). s.ephemerons) c.take_ephemerons-ephemerons.ensures.left)).1

pub pass_found-passed-requires-clause-whole : goal.pass_found-passed-requires-clause-whole
pass_found-passed-requires-clause-whole g c =
    let t = g.H.Host in
    plain_whole t.place (t.objects c.of.result.host.now) (t.marked c.of.result.host.now) _ (ap (λ (s : State). s.ephemerons) c.take_ephemerons-ephemerons.ensures.left)
    (plain_closed t.objects t.marked c.args.host.now c.of.result.host.now c.of.ensures.same c.requires.closed)

pub returns-clause-closed : goal.returns-clause-closed
returns-clause-closed g c = plain_closed g.H.Host.objects g.H.Host.marked c.pass_found-passed.new.host.host.now _ (search rules) c.pass_found-passed.ensures.closed

pub returns-clause-passes : goal.returns-clause-passes
returns-clause-passes g c =
    let t = g.H.Host in
    passes_back t.objects t.marked t.is_exact t.place c.args.self.now.state c.take_ephemerons-ephemerons.new.self.state c.pass_found-passed.new.self.state c.put_ephemerons.new.self.state c.args.host.now c.of.result.host.now c.pass_found-passed.new.host.host.now _
    c.of.ensures.same (search rules) c.take_ephemerons-ephemerons.ensures.left c.take_ephemerons-ephemerons.ensures.flags c.requires.zero c.requires.closed
    (c.put_ephemerons.ensures.put ∙ ap (λ e. record c.pass_found-passed.new.self.state { ephemerons = e }) c.take_ephemerons-ephemerons.ensures.taken) c.pass_found-passed.ensures.passes
