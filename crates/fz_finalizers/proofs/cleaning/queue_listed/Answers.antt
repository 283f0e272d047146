use Rattle.std.proofs.Common.{◌∷◌, [], ◌∙◌, length, length-append, get_or, refl, ap, subst, arith}
use Rattle.fz_model.specs.declared.answers.Pick.{Pick}
use Rattle.fz_finalizers.specs.Queue.{GainsPicks}
use Rattle.fz_finalizers.proofs.Cleaned.{takes_none, still_there, takes_more, takes_all}
use Rattle.fz_finalizers.proofs.cleaning.queue_listed.Goals as goal

pub loop-entry-init : goal.loop-entry-init
loop-entry-init c = record { taken = takes_none c.args.pass c.args.listed.now c.args.cleanups.now.cleanups c.args.queue.now; count = refl; fewer = omega arith; room = omega arith; places = omega arith }

pub take-pick-requires : goal.take-pick-requires
take-pick-requires c = record {
  there = still_there c.args.pass c.args.listed.now c.args.cleanups.now.cleanups c.args.queue.now c.requires.ranked c.requires.listed c.loop-entry.entry-index c.loop-entry-test.true c.loop-entry.cleanups.cleanups c.loop-entry.queue c.loop-entry.invariant.taken;
}

pub loop-entry-preserved : goal.loop-entry-preserved
loop-entry-preserved c =
    let inv = c.loop-entry.invariant in
    let e = c.take-pick.ensures in
    let x = get_or c.args.listed.now c.loop-entry.entry-index (0, 0) in
    let a = e.taken.0 in
    let gained = subst (λ (p : Pick). GainsPicks c.args.pass (p ∷ []) c.loop-entry.queue c.push.new.self) e.taken.2 c.push.ensures.pushed in
    let long = ap length gained.queue ∙ length-append c.loop-entry.queue.queue _ in
    record {
      taken = takes_more c.args.pass c.args.listed.now c.args.cleanups.now.cleanups c.args.queue.now c.requires.ranked c.requires.listed c.loop-entry.entry-index c.loop-entry-test.true c.loop-entry.cleanups.cleanups c.loop-entry.queue inv.taken c.take-pick.new.cleanups.cleanups c.push.new.self a e.taken.1 e.removed gained;
      count = omega (arith, inv.count, e.count, long);
      fewer = omega (arith, inv.fewer, e.count);
      room = omega (arith, inv.room, e.count, c.push.ensures.room);
      places = omega (arith, inv.places, e.room);
    }

pub returns-clause-taken : goal.returns-clause-taken
returns-clause-taken c =
    takes_all c.args.pass c.args.listed.now c.args.cleanups.now.cleanups c.args.queue.now c.loop-entry.entry-index c.loop-entry-test.false c.loop-entry.cleanups.cleanups c.loop-entry.queue c.loop-entry.invariant.taken
