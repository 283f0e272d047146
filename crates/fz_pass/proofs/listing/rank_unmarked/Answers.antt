use Rattle.std.proofs.Common.{ℕ, Bool}
use Rattle.fz_pass.specs.Listing.{IsUnmarked}
use Rattle.fz_pass.specs.Tiers.{skips, tiered}
use Rattle.fz_pass.proofs.Ranking.{same_all}
use Rattle.fz_pass.proofs.listing.rank_unmarked.Goals as goal

pub returns-clause-listed : goal.returns-clause-listed
returns-clause-listed g c =
    let registrations = c.args.table.now.registered.registrations in
    let skip : ℕ → Bool = skips c.args.round.second (tiered c.args.round.tiers c.args.table.now.late) (g.H.Host.marked c.args.host.now) in
    let u = c.list_unmarked.ensures.listed in
    let s = c.sort.ensures in
    record {
      ordered = s.ordered u.ordered;
      each = same_all (IsUnmarked registrations skip) c.list_unmarked.new.ready.items c.sort.new.self.listed s.same u.each;
      whole = λ a on. let x = u.whole a on in (x.0, (s.same x.0).1 x.1, x.2);
    }
