use Rattle.std.proofs.Common.{◌≡◌, ℕ, Bool, Some, IsTrue}
use Rattle.std.specs.FinMap.{get}
use Rattle.fz_pass.proofs.Ranking.{same_all}
use Rattle.fz_finalizers.specs.declared.cleanups.Attached.{Attached}
use Rattle.fz_finalizers.specs.Cleanups.{is_due}
use Rattle.fz_finalizers.proofs.cleaning.rank_due.Goals as goal

pub returns-clause-listed : goal.returns-clause-listed
returns-clause-listed g c =
    let test : Attached → Bool = is_due c.args.when (g.H.Host.marked c.args.host.now) in
    let are = c.list_due.ensures.listed in
    let s = c.sort.ensures in
    record {
      ordered = s.ordered are.ordered;
      each = same_all (λ (x : ℕ × ℕ). (a : Attached) × (get c.args.cleanups.now.cleanups x.1 ≡ Some a) × (a.cleanup.rank ≡ x.0) × IsTrue (test a)) c.list_due.new.list.listed c.sort.new.self.listed s.same are.each;
      whole = λ number a here on. (s.same (a.cleanup.rank, number)).1 (are.whole number a here on);
    }
