use Rattle.std.proofs.Common.{◌+◌, map, set, sym, ap, subst, arith}
use Rattle.std.proofs.lemmas.List.{length-map}
use Rattle.fz_finalizers.proofs.Filled.{IsFilled, all_filled, one_more}
use Rattle.fz_c.specs.declared.machine.shown.CleanupAt.{CleanupAt}
use Rattle.fz_c.specs.MachineShows.{cleanup_told}
use Rattle.fz_c.proofs.machine.walks.fill_cleanups.Goals as goal

pub loop-place-preserved : goal.loop-place-preserved
loop-place-preserved c =
    let within = c.loop-place-test.true in
    let same = c.loop-place.auto.buffer in
    let more = one_more (map cleanup_told c.args.walk) c.loop-place.buffer c.loop-place.place-index (map cleanup_told c.loop-place.left) (map cleanup_told c.next.new.self) (cleanup_told (c.in-Some.number, c.in-Some.attached)) (omega (arith, within, same)) (ap (map cleanup_told) c.in-Some.ensures.steps) c.loop-place.invariant.filled in
    record {
      counted = ap (λ n. n + 1) c.loop-place.invariant.counted;
      filled = subst (λ (x : CleanupAt). IsFilled (c.loop-place.place-index + 1) (map cleanup_told c.args.walk) (map cleanup_told c.next.new.self) (set c.loop-place.buffer c.loop-place.place-index x)) (sym c.of.ensures) more;
    }

pub returns-in_default-clause-count : goal.returns-in_default-clause-count
returns-in_default-clause-count c =
    let within = c.loop-place-test.true in
    let same = c.loop-place.auto.buffer in
    let all = all_filled (map cleanup_told c.args.walk) c.loop-place.buffer c.loop-place.place-index (map cleanup_told c.loop-place.left) (omega (arith, within, same)) (ap (map cleanup_told) c.in_default.ensures.steps.0) c.loop-place.invariant.filled in
    let counted = c.loop-place.invariant.counted in
    let long = length-map c.args.walk cleanup_told in
    omega (arith, all, counted, same, long)
