use Rattle.std.proofs.Common.{◌∙◌, sym, ap}
use Rattle.fz_machine.specs.Regions.{Regions}
use Rattle.fz_machine.proofs.Noting.{told_marked, told_unmarked}
use Rattle.fz_machine.proofs.regions.Regions.look.Goals as goal

pub returns-clause-marked : goal.returns-clause-marked
returns-clause-marked c =
    told_marked c.args.self.now.told c.args.n c.in-Some.word c.place_in.result c.bit.result (sym c.in-Some.is ∙ c.place.ensures.told (c.requires.whole (ap (λ (r : Regions). r.complete) (sym c.self.view_is) ∙ c.if-not-self.false))) c.place_in.ensures c.bit.ensures

pub returns-clause-unmarked : goal.returns-clause-unmarked
returns-clause-unmarked c =
    told_unmarked c.args.self.now.told c.args.n c.in-Some.word c.place_in.result c.bit.result (sym c.in-Some.is ∙ c.place.ensures.told (c.requires.whole (ap (λ (r : Regions). r.complete) (sym c.self.view_is) ∙ c.if-not-self.false))) c.place_in.ensures c.bit.ensures
