use Rattle.std.proofs.Common.{◌∙◌, [], true, sym, refl, subst, arith}
use Rattle.fz_model.specs.State.{Map, Object}
use Rattle.fz_pass.specs.Marks.{IsClosed}
use Rattle.fz_pass.specs.Settling.{Rounds}
use Rattle.fz_pass.proofs.Settled.{none_yet, rounds_on, settled}
use Rattle.fz_pass.proofs.settling.settle_waiting.Goals as goal

pub loop-init : goal.loop-init
loop-init g c =
    let t = g.H.Host in
    record {
      objects = refl;
      rounds = none_yet t.is_exact t.place g.H.Values.value (t.objects c.args.host.now) c.args.waiting.now.items (t.marked c.args.host.now) c.requires.closed;
      empty = c.requires.empty;
      room = c.requires.room;
      capacity = λ n first second. (first, second);
      same = g.met.H.Host.reflexive c.args.host.now;
    }

pub settle_round-requires-clause-closed : goal.settle_round-requires-clause-closed
settle_round-requires-clause-closed g c = subst (λ (m : Map Object). IsClosed m (g.H.Host.marked c.loop.host)) (sym c.loop.invariant.objects) c.loop.invariant.rounds.closed

pub loop-preserved : goal.loop-preserved
loop-preserved g c =
    let t = g.H.Host in
    let value = g.H.Values.value in
    let objects = t.objects c.args.host.now in
    let start = c.args.waiting.now.items in
    let mid = c.loop.waiting.items in
    let end = c.settle_round.new.waiting.items in
    let old = t.marked c.args.host.now in
    let now = t.marked c.loop.host in
    let new = t.marked c.settle_round.new.host in
    let inv = c.loop.invariant in
    let round = subst (λ (m : Map Object). Rounds t.is_exact t.place value m mid now [] end new c.settle_round.result) inv.objects c.settle_round.ensures.round in
    record {
      objects = c.settle_round.ensures.objects ∙ inv.objects;
      rounds = subst (Rounds t.is_exact t.place value objects start old [] end new) c.loop-test.true (rounds_on t.is_exact t.place value objects start mid end old now new true c.settle_round.result inv.rounds round);
      empty = c.settle_round.ensures.empty;
      room = let few = c.settle_round.ensures.fewer in let rest = c.settle_round.ensures.capacity.1 in let ok = c.loop.waiting.ok in omega (arith, few, rest, ok);
      capacity = λ n first second. let kept = inv.capacity n first second in let caps = c.settle_round.ensures.capacity in
          (let a = kept.1 in let b = caps.0 in omega (arith, a, b), let a = kept.0 in let b = caps.1 in omega (arith, a, b));
      same = g.met.H.Host.transitive c.args.host.now c.loop.host c.settle_round.new.host inv.same c.settle_round.ensures.same;
    }

pub returns-clause-settled : goal.returns-clause-settled
returns-clause-settled g c =
    let t = g.H.Host in
    let value = g.H.Values.value in
    let objects = t.objects c.args.host.now in
    let start = c.args.waiting.now.items in
    let mid = c.loop.waiting.items in
    let end = c.settle_round.new.waiting.items in
    let old = t.marked c.args.host.now in
    let now = t.marked c.loop.host in
    let new = t.marked c.settle_round.new.host in
    let inv = c.loop.invariant in
    let round = subst (λ (m : Map Object). Rounds t.is_exact t.place value m mid now [] end new c.settle_round.result) inv.objects c.settle_round.ensures.round in
    settled t.is_exact t.place value objects start end old new c.settle_round.result c.loop-test.false (rounds_on t.is_exact t.place value objects start mid end old now new true c.settle_round.result inv.rounds round)
