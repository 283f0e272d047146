use Rattle.std.proofs.Common.{◌≡◌, ◌∙◌, false, sym, ap}
use Rattle.fz_why.specs.Trail.{added, has}
use Rattle.fz_why.proofs.Trails.{added_new}
use Rattle.fz_why.proofs.trail.Trail.add.Goals as goal

pub insert-requires : goal.insert-requires
insert-requires c = record {
  new = sym c.contains_key.ensures ∙ c.if-contains_key.false;
}

pub returns : goal.returns
returns c = record {
  added =
      let was = c.self.inside.entries.entries in
      let absent : has was c.args.object ≡ false = sym c.contains_key.ensures ∙ c.if-contains_key.false in
      c.in_ok-insert.ensures.added ∙ added_new was c.args.object c.args.origin absent ∙ ap (λ es. added es c.args.object c.args.origin) c.self.view_is;
}
