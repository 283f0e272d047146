use Rattle.std.proofs.Common.{◌∙◌, ap, filter}
use Rattle.std.specs.List.{range_with_len}
use Rattle.std.specs.FinSet.{contains}
use Rattle.fz_dirty.specs.Pages.{Pages}
use Rattle.fz_dirty.proofs.Pages.{noted_pages}
use Rattle.fz_dirty.proofs.Dirty.iter.Goals as goal

pub returns : goal.returns
returns c =
    c.iter.ensures ∙ noted_pages c.self.inside.noted c.self.inside.pages c.self.inside.count c.self.invariant
    ∙ ap (λ (v : Pages). filter (contains v.noted) (range_with_len 0 v.pages)) c.self.view_is
