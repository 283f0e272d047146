use Rattle.std.proofs.Common.{[], ◌∙◌, false, take, sym, ap, arith}
use Rattle.std.proofs.lemmas.List.{take_all}
use Rattle.fz_machine.specs.Asks.{bits_of}
use Rattle.fz_machine.specs.Going.{going}
use Rattle.fz_machine.specs.Steps.{Going, step, steps}
use Rattle.fz_machine.proofs.Kept.{none_left}
use Rattle.fz_machine.proofs.Masked.{bit_taken, bits_taken}
use Rattle.fz_machine.proofs.Rooms.{same_twice}
use Rattle.fz_machine.proofs.Stepping.{steps_ended, steps_more}
use Rattle.fz_machine.proofs.asking.hear_each.Goals as goal

pub returns-in_default-clause-heard : goal.returns-in_default-clause-heard
returns-in_default-clause-heard c =
    let start = going c.args.finalizers.now c.args.walk.now [] in
    let answers = take c.args.count (bits_of c.args.bits) in
    let none = none_left c.loop-place.walk.left (sym c.first.ensures ∙ c.in_default.is) in
    let heard = c.loop-place.invariant.heard in
    heard ∙ sym (steps_ended c.args.phase answers c.loop-place.place start (ap (λ (g : Going). g.left) (sym heard) ∙ none))

pub loop-place-preserved : goal.loop-place-preserved
loop-place-preserved c =
    let start = going c.args.finalizers.now c.args.walk.now [] in
    let phase = c.args.phase in
    let answers = take c.args.count (bits_of c.args.bits) in
    let i = c.loop-place.place in
    let lt = c.loop-place-test.true in
    let few = c.requires.few in
    let long = bits_taken c.args.bits c.args.count few in
    record {
      few = omega (arith, lt);
      heard = c.step.ensures.stepped ∙ ap (step phase c.has_bit.result) c.loop-place.invariant.heard
          ∙ ap (λ b. step phase b (steps phase (take i answers) start)) (c.has_bit.ensures ∙ sym (bit_taken c.args.bits c.args.count few i lt)) ∙ sym (steps_more phase answers i false start (omega (arith, lt, long)));
      room = c.step.ensures.room;
      same = same_twice c.args.walk.now c.loop-place.walk c.step.new.walk c.loop-place.invariant.same c.step.ensures.same;
    }

pub returns-clause-heard : goal.returns-clause-heard
returns-clause-heard c =
    let start = going c.args.finalizers.now c.args.walk.now [] in
    let answers = take c.args.count (bits_of c.args.bits) in
    let past = c.loop-place-test.false in
    let few = c.loop-place.invariant.few in
    let long = bits_taken c.args.bits c.args.count c.requires.few in
    c.loop-place.invariant.heard ∙ ap (λ xs. steps c.args.phase xs start) (take_all c.loop-place.place answers (omega (arith, past, few, long)))
