use Rattle.std.proofs.Common.{◌∙◌, option_map, ap, sym}
use Rattle.std.specs.FinMap.{get}
use Rattle.fz_table.specs.Tabled.{Tabled, shown}
use Rattle.fz_table.proofs.Flagged.{get_shown}
use Rattle.fz_table.proofs.table.Table.get.Goals as goal

pub returns : goal.returns
returns c =
    c.registration_in.ensures ∙ ap (option_map shown) (c.copied.ensures ∙ c.get.ensures.value) ∙ sym (get_shown c.self.inside.entries.entries c.args.object)
    ∙ ap (λ (t : Tabled). get t.registrations c.args.object) c.self.view_is
