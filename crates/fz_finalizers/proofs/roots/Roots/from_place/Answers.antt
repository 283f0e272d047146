use Rattle.std.proofs.Common.{◌∙◌, drop, ap}
use Rattle.fz_finalizers.specs.Walks.{words_left}
use Rattle.fz_finalizers.proofs.Placed.{drop_words}
use Rattle.fz_finalizers.proofs.roots.Roots.from_place.Goals as goal

pub returns : goal.returns
returns c =
    let root = c.self.inside.root in
    (λ i. words_left root (c.from_place.ensures i) (c.from_place-2.ensures i)) ∙ drop_words root c.self.inside.entries c.self.inside.registered c.args.place
    ∙ ap (drop c.args.place) c.self.view_is
