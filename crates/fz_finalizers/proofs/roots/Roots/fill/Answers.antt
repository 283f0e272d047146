use Rattle.std.proofs.Common.{◌+◌, refl, ap, arith}
use Rattle.fz_finalizers.specs.Walks.{somes}
use Rattle.fz_finalizers.proofs.Filled.{all_filled, none_filled, one_more, untouched}
use Rattle.fz_finalizers.proofs.Shown.{none_steps, rest-more, rest-same}
use Rattle.fz_finalizers.proofs.roots.Roots.fill.Goals as goal

pub loop-place-init : goal.loop-place-init
loop-place-init c = record { counted = refl; filled = none_filled (somes c.args.self.now) c.args.buffer.now; beyond = refl; rest = rest-same c.args.self.now; few = omega arith }

pub loop-place-preserved : goal.loop-place-preserved
loop-place-preserved c = let within = c.loop-place-test.true in let same = c.loop-place.auto.buffer in record {
  counted = ap (λ n. n + 1) c.loop-place.invariant.counted;
  filled = one_more (somes c.args.self.now) c.loop-place.buffer c.loop-place.place-index (somes c.loop-place.self) (somes c.step.new.self) c.in-Some.word (omega (arith, within, same)) c.in-Some.ensures.0 c.loop-place.invariant.filled;
  beyond = untouched c.loop-place.place-index c.in-Some.word c.loop-place.buffer c.args.buffer.now c.loop-place.invariant.beyond;
  rest = rest-more c.args.self.now c.loop-place.self c.step.new.self c.loop-place.invariant.rest c.in-Some.ensures.1;
  few = omega (arith, c.loop-place.invariant.few, c.if-filled-most.false);
}

pub returns-in_default-clause-count : goal.returns-in_default-clause-count
returns-in_default-clause-count c =
    let inv = c.loop-place.invariant in
    let within = c.loop-place-test.true in
    let same = c.loop-place.auto.buffer in
    let none = none_steps c.step.result c.loop-place.self c.step.new.self c.in_default.is c.step.ensures in
    let all = all_filled (somes c.args.self.now) c.loop-place.buffer c.loop-place.place-index (somes c.loop-place.self) (omega (arith, within, same)) none inv.filled in
    omega (arith, all, same, inv.counted, inv.few)
