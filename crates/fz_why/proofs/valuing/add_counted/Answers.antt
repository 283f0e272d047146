use Rattle.std.proofs.Common.{◌∙◌, sym}
use Rattle.std.specs.Option.{option_copied}
use Rattle.fz_why.specs.Trail.{either, is_cut, IsRowAt, IsRowOne}
use Rattle.fz_why.proofs.Gaining.{values_as}
use Rattle.fz_why.proofs.valuing.add_counted.Goals as goal

pub returns : goal.returns
returns g c = record {
  added =
      let place = g.H.Paths.place c.args.host.now in
      let value = g.H.Paths.value c.args.host.now in
      let link = g.H.Paths.link c.args.host.now in
      let objects = g.H.Paths.objects c.args.host.now in
      let s = c.args.finalizers.now.state in
      let found = option_copied c.args.found in
      values_as (either found (option_copied c.args.own)) (IsRowAt place value objects (is_cut link s found) c.args.number c.args.key) (IsRowOne place value link objects s found c.args.kind c.args.number c.args.key) c.args.trail.now c.add_value.new.trail
      (λ key holder b. (λ h. (sym c.counts.ensures ∙ c.if-not-counts.false, h), λ h. h.1)) c.in_ok-add_value.ensures.added;
}
