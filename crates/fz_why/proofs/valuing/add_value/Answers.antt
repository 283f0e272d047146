use Rattle.std.proofs.Common.{◌∙◌, refl, sym}
use Rattle.std.specs.Option.{option_copied}
use Rattle.std.proofs.lemmas.Option.{same_Some}
use Rattle.fz_why.specs.Trail.{either, is_cut, IsRowAt}
use Rattle.fz_why.proofs.Gaining.{values_one}
use Rattle.fz_why.proofs.valuing.add_value.Goals as goal

pub returns-in_ok-add-in-Some-value : goal.returns-in_ok-add-in-Some-value
returns-in_ok-add-in-Some-value g c = record {
  added =
      let Row = IsRowAt (g.H.Paths.place c.args.host.now) (g.H.Paths.value c.args.host.now) (g.H.Paths.objects c.args.host.now) (is_cut (g.H.Paths.link c.args.host.now) c.args.finalizers.now.state (option_copied c.args.found)) c.args.number c.args.key in
      let way = rw c.in-Some-way.is at c.way.ensures in
      let there = sym c.in-Some-value.ensures in
      values_one (either (option_copied c.args.found) (option_copied c.args.own)) Row c.args.trail.now c.add.new.self c.args.key c.in-Some.object c.in-Some-value.value c.in-Some-way.place
      (refl, sym c.in-Some.ensures, there) way.0 way.1 c.in_ok-add-in-Some-value.ensures.added (λ k h a row. same_Some a c.in-Some-value.value (sym row.2 ∙ there));
}
