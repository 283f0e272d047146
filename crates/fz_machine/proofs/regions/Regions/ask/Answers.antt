use Rattle.std.proofs.Common.{All, take, subst, ◌≡◌, ◌∙◌, ◌<◌, ◌+◌, length, sym, arith}
use Rattle.std.proofs.lemmas.List.{length-set}
use Rattle.fz_machine.specs.Regions.{Regions, place_in}
use Rattle.fz_machine.proofs.Noting.{each_begins, key_left, one_written}
use Rattle.fz_machine.proofs.regions.Regions.ask.Goals as goal

pub loop-count-preserved : goal.loop-count-preserved
loop-count-preserved c =
    let lt = c.loop-count-test.true in
    let less = c.if-count-self.true in
    let long = c.loop-count.invariant.long in
    let room : c.loop-count.count < length c.loop-count.about = omega (arith, lt, long) in
    let within : c.self.inside.heard + c.loop-count.count < c.self.inside.end = omega (arith, less) in
    record {
      few = omega (arith, lt);
      within = omega (arith, less);
      long = length-set c.loop-count.about c.loop-count.count c.in-Some.region.now ∙ long;
      about = one_written _ c.loop-count.count c.loop-count.about c.in-Some.region.now room c.loop-count.invariant.about
          (key_left c.self.inside.noted.entries c.self.inside.heard c.self.inside.end c.loop-count.count (c.in-Some.region.now, c.in-Some.field-0-1.now) within (sym c.in-Some.ensures.entry));
    }

pub returns-clause-begin : goal.returns-clause-begin
returns-clause-begin c =
    subst (λ (r : Regions). All (λ region. place_in region ≡ 0) (take c.loop-count.count r.left)) c.self.view_is (each_begins c.self.inside.noted.entries c.loop-count.count c.self.inside.heard c.self.inside.end c.self.invariant.2)
