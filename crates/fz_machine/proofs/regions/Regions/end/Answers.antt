use Rattle.std.proofs.Common.{◌≡◌, ◌∙◌, ◌-◌, Some, None, cond, is_some, length, ap, arith}
use Rattle.fz_machine.proofs.Noting.{entry_at, gone_noted, one_gone, own_found, still_regions}
use Rattle.fz_machine.proofs.regions.Regions.end.Goals as goal

pub loop-index-preserved-then-index-eq0 : goal.loop-index-preserved-then-index-eq0
loop-index-preserved-then-index-eq0 c =
    let es = c.loop-index.self-inside.noted.entries in
    let ns = c.swap_remove_index.new.self.entries in
    let inv = c.loop-index.invariant in
    let here = entry_at es (c.loop-index.index - 1) c.index.result.now c.index.ensures in
    let took : c.swap_remove_index.result ≡ Some (here.0, c.index.result.now) = c.swap_remove_index.ensures.entry ∙ here.1 in
    let updates = (rw took at c.swap_remove_index.ensures.updates) in
    let found = own_found es (c.loop-index.index - 1) (here.0, c.index.result.now) inv.regions.once here.1 in
    let one = ap (λ o. cond (is_some o) 1 0) took in
    let less = one_gone c.loop-index.index (cond (is_some c.swap_remove_index.result) 1 0) (length ns) (length es) c.loop-index-test.true inv.within one c.swap_remove_index.ensures.len in
    let fewer = inv.fewer in
    let few = less.1 in
    record {
      within = less.0;
      regions = record { once = c.swap_remove_index.ensures.unique; begin = still_regions es ns here.0 None updates.0 (inv.regions.begin here.0 (ap is_some found)) inv.regions.begin };
      noted = λ n noted. gone_noted es ns here.0 c.index.result.now c.if-index-eq0.true found updates.0 n (inv.noted n noted);
      fewer = omega (arith, fewer, few);
      others = inv.others;
    }
