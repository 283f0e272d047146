use Rattle.std.proofs.Common.{◌≡◌, false, inr, refl}
use Rattle.std.proofs.lemmas.Bool.{both_ways}
use Rattle.fz_why.specs.Trail.{has}
use Rattle.fz_why.proofs.Told.{computes, root_begins, root_ordered, root_told}
use Rattle.fz_why.proofs.asking.why_unregistered.Goals as goal

pub root_path-requires-clause-ordered : goal.root_path-requires-clause-ordered
root_path-requires-clause-ordered g c =
    root_ordered (g.H.Paths.place c.args.host.now) (g.H.Paths.value c.args.host.now) (g.H.Paths.objects c.args.host.now) (g.H.Paths.roots c.args.host.now) c.args.finalizers.now.state c.in_ok-found.found c.in_ok-found.ensures.found

pub root_path-requires-clause-rooted : goal.root_path-requires-clause-rooted
root_path-requires-clause-rooted g c =
    root_begins (g.H.Paths.place c.args.host.now) (g.H.Paths.value c.args.host.now) (g.H.Paths.objects c.args.host.now) (g.H.Paths.roots c.args.host.now) c.args.finalizers.now.state c.in_ok-found.found c.in_ok-found.ensures.found

pub returns-in-Some-rooted : goal.returns-in-Some-rooted
returns-in-Some-rooted g c = record {
  told = (
    inr ((c.requires, rw c.in_default.is at c.entry_of.ensures), c.if-not-has_cleanup.ensures.some refl),
    root_told (g.H.Paths.place c.args.host.now) (g.H.Paths.value c.args.host.now) (g.H.Paths.objects c.args.host.now) (g.H.Paths.roots c.args.host.now) c.args.finalizers.now.state c.in_ok-found.found c.in_ok-found.ensures.found c.args.object c.in-Some-rooted.root
        c.in-Some-rooted.path.items (rw c.in-Some-rooted.is at c.in_ok-rooted.ensures.path),
  );
}

pub returns : goal.returns
returns g c = record {
  told = (
    (c.requires, rw c.in_default.is at c.entry_of.ensures),
    λ cleanup reached.
        let found = computes (g.H.Paths.place c.args.host.now) (g.H.Paths.value c.args.host.now) (g.H.Paths.objects c.args.host.now) (g.H.Paths.roots c.args.host.now) c.args.finalizers.now.state c.in_ok-found.found c.in_ok-found.ensures.found in
        let none : has c.in_ok-found.found c.args.object ≡ false = rw c.in-None.is at c.in_ok-rooted.ensures.path in
        both_ways (has c.in_ok-found.found c.args.object) none ((found c.args.object).1 reached),
  );
}
