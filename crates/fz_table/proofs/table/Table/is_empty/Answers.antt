use Rattle.std.proofs.Common.{◌∙◌, map, ap, sym}
use Rattle.std.proofs.lemmas.List.{length-map}
use Rattle.fz_table.specs.Tabled.{Tabled, plain}
use Rattle.fz_model.proofs.KeyedEntries.{empty_made, none_made}
use Rattle.fz_table.proofs.table.Table.is_empty.Goals as goal

pub returns : goal.returns
returns c =
    let view = ap (λ (t : Tabled). t.registrations) c.self.view_is in
    let es = c.self.inside.entries.entries in
    (λ h. sym view ∙ empty_made (map plain es) (length-map es plain ∙ c.is_empty.ensures.0 h), λ h. c.is_empty.ensures.1 (sym (length-map es plain) ∙ none_made (map plain es) (view ∙ h)))
