use Rattle.std.proofs.Common.{◌&&◌, not, false, ℕ, Bool, List, subst}
use Rattle.std.specs.FinMap.{contains_key}
use Rattle.std.specs.FinSet.{contains}
use Rattle.fz_pass.specs.All.{unknown_objects}
use Rattle.fz_pass.specs.Listing.{is_listed}
use Rattle.fz_pass.specs.Picking.{Picks}
use Rattle.fz_pass.specs.Tiers.{skips}
use Rattle.fz_pass.proofs.Listed.{all_listed}
use Rattle.fz_pass.proofs.Picked.{picks_as}
use Rattle.fz_pass.proofs.all.take_round.Goals as goal

pub returns-clause-picks : goal.returns-clause-picks
returns-clause-picks c =
    let table = c.args.table.now.content in
    let objects = unknown_objects table.registrations in
    let skip : ℕ → Bool = skips c.args.second (contains table.late) (λ _. false) in
    let ready = c.rank_unmarked.new.ready.listed in
    picks_as objects (is_listed ready) (λ a. contains_key table.registrations a && not (skip a)) table c.take_all.new.table.content c.args.out.now.picks c.take_all.new.out.picks (all_listed objects skip ready table c.rank_unmarked.ensures.listed)
    (subst (λ (xs : List (ℕ × ℕ)). Picks objects (is_listed xs) table c.take_all.new.table.content c.args.out.now.picks c.take_all.new.out.picks) c.as_slice.ensures c.take_all.ensures.picks)
