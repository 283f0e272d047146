use Rattle.std.proofs.Common.{◌+◌, map, set, sym, ap, subst, arith}
use Rattle.std.proofs.lemmas.List.{length-map}
use Rattle.fz_finalizers.proofs.Filled.{IsFilled, all_filled, one_more}
use Rattle.fz_c.specs.declared.machine.shown.RegistrationAt.{RegistrationAt}
use Rattle.fz_c.specs.MachineShows.{registration_told}
use Rattle.fz_c.proofs.Rooted.{told_as}
use Rattle.fz_c.proofs.machine.walks.fill_registrations.Goals as goal

pub loop-place-preserved : goal.loop-place-preserved
loop-place-preserved c =
    let within = c.loop-place-test.true in
    let same = c.loop-place.auto.buffer in
    let shown = c.args.shown.now.state in
    let told = told_as shown c.in-Some.object c.in-Some.registration c.kind.result c.of.result c.of.ensures c.kind.ensures in
    let more = one_more (map (registration_told shown) c.args.walk) c.loop-place.buffer c.loop-place.place-index (map (registration_told shown) c.loop-place.left) (map (registration_told shown) c.next.new.self) (registration_told shown (c.in-Some.object, c.in-Some.registration)) (omega (arith, within, same)) (ap (map (registration_told shown)) c.in-Some.ensures.steps) c.loop-place.invariant.filled in
    record {
      counted = ap (λ n. n + 1) c.loop-place.invariant.counted;
      filled = subst (λ (x : RegistrationAt). IsFilled (c.loop-place.place-index + 1) (map (registration_told shown) c.args.walk) (map (registration_told shown) c.next.new.self) (set c.loop-place.buffer c.loop-place.place-index x)) (sym told) more;
    }

pub returns-in_default-clause-count : goal.returns-in_default-clause-count
returns-in_default-clause-count c =
    let within = c.loop-place-test.true in
    let same = c.loop-place.auto.buffer in
    let all = all_filled (map (registration_told c.args.shown.now.state) c.args.walk) c.loop-place.buffer c.loop-place.place-index (map (registration_told c.args.shown.now.state) c.loop-place.left) (omega (arith, within, same)) (ap (map (registration_told c.args.shown.now.state)) c.in_default.ensures.steps.0) c.loop-place.invariant.filled in
    let counted = c.loop-place.invariant.counted in
    let long = length-map c.args.walk (registration_told c.args.shown.now.state) in
    omega (arith, all, counted, same, long)
