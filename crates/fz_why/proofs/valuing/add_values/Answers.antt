use Rattle.std.specs.Option.{option_copied}
use Rattle.fz_model.specs.declared.kinds.LinkKind.TheVariants.{Short, Long}
use Rattle.fz_why.specs.Trail.{either, IsRowBy, IsRowOf}
use Rattle.fz_why.proofs.Gaining.{values_on}
use Rattle.fz_why.proofs.valuing.add_values.Goals as goal

pub returns : goal.returns
returns g c = record {
  added =
      let Of = IsRowOf (g.H.Paths.place c.args.host.now) (g.H.Paths.value c.args.host.now) (g.H.Paths.link c.args.host.now) (g.H.Paths.objects c.args.host.now) c.args.finalizers.now.state (option_copied c.args.found) in
      let By = IsRowBy (g.H.Paths.place c.args.host.now) (g.H.Paths.value c.args.host.now) (g.H.Paths.link c.args.host.now) (g.H.Paths.objects c.args.host.now) c.args.finalizers.now.state (option_copied c.args.found) in
      values_on (either (option_copied c.args.found) (option_copied c.args.own)) (Of Short) (Of Long) By c.args.trail.now c.add_values_of.new.trail c.add_values_of-2.new.trail (λ key holder b. (λ h. h, λ h. h))
      c.in_ok-add_values_of.ensures.added c.in_ok-add_values_of-2.ensures.added;
}
