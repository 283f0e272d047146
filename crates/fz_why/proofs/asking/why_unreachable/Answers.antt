use Rattle.std.proofs.Common.{ℕ, ◌≢◌, Bool, subst}
use Rattle.fz_why.specs.Why.{IsBackPath, IsHeldToward}
use Rattle.fz_why.specs.Trail.{has}
use Rattle.fz_why.proofs.Told.{found_of}
use Rattle.fz_why.proofs.asking.why_unreachable.Goals as goal

pub reach_itself-requires : goal.reach_itself-requires
reach_itself-requires g c =
    found_of (g.H.Paths.place c.args.host.now) (g.H.Paths.value c.args.host.now) (g.H.Paths.objects c.args.host.now) (g.H.Paths.roots c.args.host.now) c.args.finalizers.now.state (has c.args.found.now) c.requires.sound c.requires.reached

pub ring-requires-clause-found : goal.ring-requires-clause-found
ring-requires-clause-found g c =
    found_of (g.H.Paths.place c.args.host.now) (g.H.Paths.value c.args.host.now) (g.H.Paths.objects c.args.host.now) (g.H.Paths.roots c.args.host.now) c.args.finalizers.now.state (has c.args.found.now) c.requires.sound c.requires.reached

pub returns-in-Some : goal.returns-in-Some
returns-in-Some g c = record {
  told =
      (has c.args.found.now, c.requires.reached, ((c.args.registration, c.requires.unfound), rw c.in-Some.is at c.in_ok-circle.ensures.path));
}

pub wait-requires-clause-found : goal.wait-requires-clause-found
wait-requires-clause-found g c =
    found_of (g.H.Paths.place c.args.host.now) (g.H.Paths.value c.args.host.now) (g.H.Paths.objects c.args.host.now) (g.H.Paths.roots c.args.host.now) c.args.finalizers.now.state (has c.args.found.now) c.requires.sound c.requires.reached

pub wait-requires-clause-alone : goal.wait-requires-clause-alone
wait-requires-clause-alone g c = rw c.in_default.is at c.in_ok-circle.ensures.path

pub returns-in-Some-waits : goal.returns-in-Some-waits
returns-in-Some-waits g c = record {
  told =
      let place = g.H.Paths.place c.args.host.now in
      let value = g.H.Paths.value c.args.host.now in
      let objects = g.H.Paths.objects c.args.host.now in
      let s = c.args.finalizers.now.state in
      let found = has c.args.found.now in
      let back = rw c.in-Some-waits.is at c.in_ok-waits.ensures.path in (
        found,
        c.requires.reached,
        (
          (c.args.registration, c.requires.unfound),
          rw c.in_default.is at c.in_ok-circle.ensures.path,
          subst (λ (late : Bool). (from : ℕ) × (from ≢ c.args.object) × IsBackPath place value objects s found (IsHeldToward place value objects s found late) late from c.in-Some-waits.path.items c.args.object) c.is_flagged-late.ensures back,
        ),
      );
}

pub returns : goal.returns
returns g c = record {
  told =
      let place = g.H.Paths.place c.args.host.now in
      let value = g.H.Paths.value c.args.host.now in
      let objects = g.H.Paths.objects c.args.host.now in
      let s = c.args.finalizers.now.state in
      let found = has c.args.found.now in
      let none = rw c.in-None.is at c.in_ok-waits.ensures.path in
      (found, c.requires.reached, ((c.args.registration, c.requires.unfound), subst (λ (late : Bool). IsHeldToward place value objects s found late c.args.object → ⊥) c.is_flagged-late.ensures none));
}
