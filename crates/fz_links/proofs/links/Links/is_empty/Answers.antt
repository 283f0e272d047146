use Rattle.std.proofs.Common.{◌∙◌, ap, sym}
use Rattle.fz_model.proofs.KeyedEntries.{empty_made, none_made}
use Rattle.fz_links.specs.Linked.{Linked}
use Rattle.fz_links.proofs.links.Links.is_empty.Goals as goal

pub returns : goal.returns
returns c =
    let es = c.self.inside.entries.entries in
    let links = ap (λ (t : Linked). t.links) c.self.view_is in
    (λ h. sym links ∙ empty_made es (c.is_empty.ensures.0 h), λ h. c.is_empty.ensures.1 (none_made es (links ∙ h)))
