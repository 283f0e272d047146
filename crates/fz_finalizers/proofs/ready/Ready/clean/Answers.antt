use Rattle.std.proofs.Common.{◌∙◌, Bool, List, All, sym, ap, subst}
use Rattle.fz_model.specs.declared.answers.Entry.{Entry}
use Rattle.fz_pass.specs.Listing.{AreRanked}
use Rattle.fz_finalizers.specs.declared.cleanups.Attached.{Attached}
use Rattle.fz_finalizers.specs.Cleanups.{AreListed, IsListed, is_due}
use Rattle.fz_finalizers.specs.Queue.{CleansOut}
use Rattle.fz_finalizers.specs.Ready.{Ready}
use Rattle.fz_finalizers.proofs.Cleaned.{are_listed, cleans_out}
use Rattle.fz_finalizers.proofs.Taking.{gains, held_still}
use Rattle.fz_finalizers.proofs.ready.Ready.clean.Goals as goal

pub queue_listed-requires-clause-ranked : goal.queue_listed-requires-clause-ranked
queue_listed-requires-clause-ranked g c = subst AreRanked (sym c.as_slice.ensures) c.rank_due.ensures.listed.ordered

pub queue_listed-requires-clause-listed : goal.queue_listed-requires-clause-listed
queue_listed-requires-clause-listed g c =
    let test : Attached → Bool = is_due c.args.when (g.H.Host.marked c.args.host.now) in
    subst (All (IsListed c.args.cleanups.now.cleanups)) (sym c.as_slice.ensures) (are_listed test c.args.cleanups.now.cleanups c.rank_due.new.list.listed c.rank_due.ensures.listed)

pub invariant_of-self : goal.invariant_of-self
invariant_of-self g c = gains c.self.inside.queue c.queue_listed.new.queue c.self.inside.taken c.self.invariant c.args.pass _ c.queue_listed.ensures.taken.gained

pub returns-clause-held : goal.returns-clause-held
returns-clause-held g c = held_still c.self.inside.queue c.queue_listed.new.queue c.self.inside.taken c.self.invariant c.args.pass _ c.queue_listed.ensures.taken.gained ∙ ap (λ (r : Ready). r.held) c.self.view_is

pub returns-clause-cleaned : goal.returns-clause-cleaned
returns-clause-cleaned g c =
    let test : Attached → Bool = is_due c.args.when (g.H.Host.marked c.args.host.now) in
    let listed = subst (AreListed test c.args.cleanups.now.cleanups AreRanked) (sym c.as_slice.ensures) c.rank_due.ensures.listed in
    subst (λ (es : List Entry). CleansOut c.args.pass test c.args.cleanups.now.cleanups c.queue_listed.new.cleanups.cleanups es c.queue_listed.new.queue.queue) (ap (λ (r : Ready). r.queue) c.self.view_is)
    (cleans_out c.args.pass test c.as_slice.result.now c.args.cleanups.now.cleanups c.queue_listed.new.cleanups.cleanups c.self.inside.queue c.queue_listed.new.queue listed c.queue_listed.ensures.taken)
