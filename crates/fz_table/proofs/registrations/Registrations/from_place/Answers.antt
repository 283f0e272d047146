use Rattle.std.proofs.Common.{◌∙◌, drop, map, ap, sym}
use Rattle.std.proofs.lemmas.List.{drop-map}
use Rattle.fz_table.specs.Tabled.{plain}
use Rattle.fz_table.proofs.registrations.Registrations.from_place.Goals as goal

pub returns : goal.returns
returns c = ap (map plain) c.from_place.ensures ∙ sym (drop-map plain c.args.place c.self.inside.stored) ∙ ap (drop c.args.place) c.self.view_is
