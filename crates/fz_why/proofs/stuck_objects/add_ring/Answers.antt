use Rattle.std.proofs.Common.{◌∙◌, sym}
use Rattle.std.proofs.lemmas.Bool.{both_ways}
use Rattle.std.proofs.lemmas.Option.{none-some}
use Rattle.fz_why.specs.Trail.{has}
use Rattle.fz_why.proofs.Adding.{adds_nothing}
use Rattle.fz_why.proofs.Held.{not_found}
use Rattle.fz_why.proofs.Holding.{unfound}
use Rattle.fz_why.proofs.stuck_objects.add_ring.Goals as goal

pub returns-then-contains : goal.returns-then-contains
returns-then-contains g c = record {
  added =
      adds_nothing _ _
      (λ o b h.
      both_ways (has c.args.found.now c.args.from) (not_found (g.H.Paths.place c.args.host.now) (g.H.Paths.value c.args.host.now) (g.H.Paths.objects c.args.host.now) c.args.finalizers.now.state (has c.args.found.now) c.args.from h.2.0 h.2.1)
      (sym c.contains.ensures ∙ c.if-contains.true));
}

pub add_circle-requires-clause-unfound : goal.add_circle-requires-clause-unfound
add_circle-requires-clause-unfound g c =
    unfound (g.H.Paths.place c.args.host.now) (g.H.Paths.value c.args.host.now) (g.H.Paths.objects c.args.host.now) c.args.finalizers.now.state c.args.found.now c.requires.sound c.args.from c.in-Some.registration (sym c.in-Some.ensures)
    (sym c.contains.ensures ∙ c.if-contains.false)

pub returns-in-None : goal.returns-in-None
returns-in-None g c = record {
  added = adds_nothing _ _ (λ o b h. none-some h.2.0 (c.in-None.ensures ∙ h.2.1.registered));
}
