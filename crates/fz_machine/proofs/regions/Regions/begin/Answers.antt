use Rattle.fz_machine.proofs.Noting.{begun_all}
use Rattle.fz_machine.proofs.regions.Regions.begin.Goals as goal

pub returns-then-self : goal.returns-then-self
returns-then-self c = begun_all c.self.inside.noted.entries c.args.self.now c.self.inside.heard c.self.inside.end c.self.inside.asked c.self.inside.complete c.len-self-inside.result c.self.view_is c.if-self.true c.len-self-inside.ensures.len
