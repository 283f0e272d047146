use Rattle.std.proofs.Common.{sym}
use Rattle.std.specs.Option.{option_copied}
use Rattle.fz_why.specs.Trail.{either, IsRowBy}
use Rattle.fz_why.proofs.Gaining.{values_all}
use Rattle.fz_why.proofs.valuing.look.Goals as goal

pub returns-in-None : goal.returns-in-None
returns-in-None g c = record {
  looked =
      let Row = IsRowBy (g.H.Paths.place c.args.host.now) (g.H.Paths.value c.args.host.now) (g.H.Paths.link c.args.host.now) (g.H.Paths.objects c.args.host.now) c.args.finalizers.now.state (option_copied c.args.found) in
      let none = sym c.in-None.ensures.here in
      let added = c.in_ok-add_values.ensures.added in
      (added.0, (none, values_all (either (option_copied c.args.found) (option_copied c.args.own)) Row c.args.trail.now c.add_values.new.trail c.args.place c.requires none added));
}
