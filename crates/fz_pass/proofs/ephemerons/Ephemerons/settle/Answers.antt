use Rattle.std.proofs.Common.{ap, subst}
use Rattle.fz_pass.specs.Holds.{Ephemerons, IsOfKey, Settles}
use Rattle.fz_pass.specs.Keyed.{Keyed}
use Rattle.fz_pass.specs.Settling.{IsListedOf}
use Rattle.fz_pass.proofs.Holding.{settles_as}
use Rattle.fz_pass.proofs.Keyed.{all_listed}
use Rattle.fz_pass.proofs.ephemerons.Ephemerons.settle.Goals as goal

pub returns-clause-settled : goal.returns-clause-settled
returns-clause-settled g c =
    let t = g.H.Host in
    let e = c.self.inside in
    let view : Ephemerons = record { short = e.short.links; long = e.long.links } in
    subst (λ (k : Ephemerons). Settles t.place g.H.Values.value (t.objects c.args.host.now) (IsOfKey k) t.is_exact (t.marked c.args.host.now) (t.marked c.settle_waiting.new.host)) (ap (λ (k : Keyed). k.ephemerons) c.self.view_is)
    (settles_as t.place g.H.Values.value (t.objects c.args.host.now) t.is_exact (IsListedOf c.list_ephemerons-2.new.waiting.items) (IsOfKey view) (t.marked c.args.host.now) (t.marked c.settle_waiting.new.host)
    (all_listed e.short.links e.long.links e.waiting.items c.list_ephemerons.new.waiting.items c.list_ephemerons-2.new.waiting.items c.self.invariant.none_waits c.list_ephemerons.ensures.listed c.list_ephemerons-2.ensures.listed)
    c.settle_waiting.ensures.settled)
