use Rattle.std.proofs.Common.{◌≡◌, ◌∙◌, IsTrue, take, ap, sym, subst, arith}
use Rattle.std.proofs.lemmas.List.{take_all}
use Rattle.std.specs.Map.{keys_of}
use Rattle.fz_machine.specs.Regions.{Regions, IsNoted, is_marked}
use Rattle.fz_machine.proofs.Noting.{AreMarked, marked_all, one_marked}
use Rattle.fz_machine.proofs.regions.Regions.is_all_marked.Goals as goal

pub loop-index-preserved : goal.loop-index-preserved
loop-index-preserved c = record {
  marked = one_marked c.self.inside.noted.entries c.loop-index.index c.index-noted.result.now c.loop-index.invariant.marked c.index-noted.ensures c.if-noted.false;
}

pub returns : goal.returns
returns c = λ on n noted.
    let test = c.loop-index-test.false in
    let len = c.len.ensures.len in
    let es = c.self.inside.noted.entries in
    let all : take c.loop-index.index es ≡ es = take_all c.loop-index.index es (omega (arith, test, len)) in
    subst (λ (r : Regions). IsTrue (is_marked r.told n)) c.self.view_is
    (marked_all es c.self.inside.heard (ap (λ (r : Regions). keys_of r.told) c.self.view_is ∙ c.requires.whole ∙ ap (λ (r : Regions). keys_of r.order) (sym c.self.view_is)) (subst AreMarked all c.loop-index.invariant.marked)
    n (subst (λ (r : Regions). IsNoted r.order n) (sym c.self.view_is) noted))
