use Rattle.std.proofs.Common.{inl}
use Rattle.fz_why.proofs.Holding.{unfound}
use Rattle.fz_why.proofs.Told.{root_begins, root_ordered, computes, root_told}
use Rattle.fz_why.proofs.asking.why_registered.Goals as goal

pub root_path-requires-clause-ordered : goal.root_path-requires-clause-ordered
root_path-requires-clause-ordered g c =
    root_ordered (g.H.Paths.place c.args.host.now) (g.H.Paths.value c.args.host.now) (g.H.Paths.objects c.args.host.now) (g.H.Paths.roots c.args.host.now) c.args.finalizers.now.state c.in_ok-found.found c.in_ok-found.ensures.found

pub root_path-requires-clause-rooted : goal.root_path-requires-clause-rooted
root_path-requires-clause-rooted g c =
    root_begins (g.H.Paths.place c.args.host.now) (g.H.Paths.value c.args.host.now) (g.H.Paths.objects c.args.host.now) (g.H.Paths.roots c.args.host.now) c.args.finalizers.now.state c.in_ok-found.found c.in_ok-found.ensures.found

pub returns-in-Some : goal.returns-in-Some
returns-in-Some g c = record {
  told = (
    inl (c.args.registration, c.requires.registered),
    root_told (g.H.Paths.place c.args.host.now) (g.H.Paths.value c.args.host.now) (g.H.Paths.objects c.args.host.now) (g.H.Paths.roots c.args.host.now) c.args.finalizers.now.state c.in_ok-found.found c.in_ok-found.ensures.found c.args.object c.in-Some.root
        c.in-Some.path.items (rw c.in-Some.is at c.in_ok-rooted.ensures.path),
  );
}

pub why_unreachable-requires-clause-unfound : goal.why_unreachable-requires-clause-unfound
why_unreachable-requires-clause-unfound g c =
    unfound (g.H.Paths.place c.args.host.now) (g.H.Paths.value c.args.host.now) (g.H.Paths.objects c.args.host.now) c.args.finalizers.now.state c.in_ok-found.found c.requires.sound c.args.object c.args.registration c.requires.registered
    (rw c.in_default.is at c.in_ok-rooted.ensures.path)

pub why_unreachable-requires-clause-reached : goal.why_unreachable-requires-clause-reached
why_unreachable-requires-clause-reached g c =
    computes (g.H.Paths.place c.args.host.now) (g.H.Paths.value c.args.host.now) (g.H.Paths.objects c.args.host.now) (g.H.Paths.roots c.args.host.now) c.args.finalizers.now.state c.in_ok-found.found c.in_ok-found.ensures.found
