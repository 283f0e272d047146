use Rattle.std.proofs.Common.{arith}
use Rattle.fz_service.proofs.Serving.{same_seat, served, counted, one_more}
use Rattle.fz_service.proofs.Notes.{ran_none, ran_turn}
use Rattle.fz_service.proofs.service.Service.serve_up_to.Goals as goal

pub loop-turn-init : goal.loop-turn-init
loop-turn-init g c = record { seat = same_seat c.args.seat; ran = ran_none _ _ _; count = omega arith; few = omega arith; taken = omega arith }

pub loop-turn-preserved : goal.loop-turn-preserved
loop-turn-preserved g c =
    let i = c.loop-turn.invariant in
    let gained = rw c.in-Served.is at c.take_turn-same.ensures in
    let turned = gained.2 in
    let more = counted _ _ turned.0 _ turned.1 turned.2 in
    let count = more.0 in
    let one = more.1 in
    let before = i.count in
    let few = i.few in
    let took = i.taken in
    let entry = one_more _ _ turned.0 _ turned.1 turned.2 in
    record {
      seat = served _ _ _ _ _ i.seat turned.1 turned.2;
      ran = ran_turn _ _ _ _ _ c.take_turn-same.result.came_to _ _ _ c.loop-turn.auto.procs i.ran c.take_turn-same.ensures;
      count = omega (arith, count, before);
      few = omega (arith, few, one);
      taken = omega (arith, took, entry);
    }

pub returns-clause-used : goal.returns-clause-used
returns-clause-used g c =
    let took = c.loop-turn.invariant.taken in
    let past = c.loop-turn-test.false in
    let within = c.loop-turn.auto._turn-end in
    omega (arith, took, past, within)

pub returns-in-Empty-clause-ran : goal.returns-in-Empty-clause-ran
returns-in-Empty-clause-ran g c = ran_turn _ _ _ _ _ c.take_turn-same.result.came_to _ _ _ c.loop-turn.auto.procs c.loop-turn.invariant.ran c.take_turn-same.ensures
