use Rattle.std.proofs.Common.{◌≡◌, ℕ, Bool, false, refl, sym, ap, ◌∙◌, subst, arith, IsTrue, true≢false, nat_cmp}
use Rattle.std.specs.FinMap.{len}
use Rattle.std.specs.FinSet.{contains, contains-empty}
use Rattle.fz_model.specs.State.{Core}
use Rattle.fz_model.specs.Reachability.{IsRoot, IsReachable, Computes}
use Rattle.fz_model.specs.Pass.{Passes}
use Rattle.fz_model.specs.declared.call.Call.TheVariants.{Collect}
use Rattle.fz_model.specs.Events.{Make}
use Rattle.fz_bits.specs.Flags.{Set}
use Rattle.fz_marker.specs.Marking.{IsClosed, is_to_scan}
use Rattle.fz_world.specs.World.{WorldView, IsWorld}
use Rattle.fz_world.proofs.Does.{does_ended}
use Rattle.fz_world.proofs.Inside.{core_inside}
use Rattle.fz_world.proofs.Rooted.{has_reachable, is_reachable}
use Rattle.fz_world.proofs.Scans.{readable_few}
use Rattle.fz_world.proofs.Whole.{world_pages, world_remarked}
use Rattle.fz_world.proofs.world.World.collect.Goals as goal

still_idle : (k : Core) → k.cycle ≡ false → record k { cycle = false } ≡ k
still_idle k off = ap (λ b. record k { cycle = b }) (sym off)

pub finish-requires-clause-size : goal.finish-requires-clause-size
finish-requires-clause-size c = c.self.inside.marked.size

pub finish-requires-clause-pages : goal.finish-requires-clause-pages
finish-requires-clause-pages c = world_pages _ _ _ _ _ c.self.invariant.0

pub invariant_of-self : goal.invariant_of-self
invariant_of-self c =
    let w = c.self.inside in
    let off : w.cycle ≡ false = ap (λ (v : WorldView). v.core.cycle) c.self.view_is ∙ ap (λ (k : Core). k.cycle) c.mark_anew.ensures.core in (
      subst (λ (b : Bool). IsWorld w.marked.heap w.finalizers.state c.finish.new.self w.dirty b) (sym off) (world_remarked _ _ _ _ _ w.marked.heap.condemned c.finish.new.self w.dirty refl c.self.invariant.0),
      c.self.invariant.1,
      c.self.invariant.2,
      c.self.invariant.3,
      c.self.invariant.4,
    )

pub pass-requires-clause-roots : goal.pass-requires-clause-roots
pass-requires-clause-roots c a root =
    let core = ap (λ (v : WorldView). v.core) c.self.view_is ∙ c.mark_anew.ensures.core ∙ still_idle c.args.self.now.core c.in_ok-check_begin.ensures.idle in
    c.finish.ensures.kept a (subst (λ (v : WorldView). IsTrue (contains v.marked a)) (sym c.self.view_is) ((c.mark_anew.ensures.begun.marked a).1 (subst (λ (k : Core). IsRoot k a) core root)))

pub pass-requires-clause-closed : goal.pass-requires-clause-closed
pass-requires-clause-closed c =
    let none = ap (λ (v : WorldView). v.scanned) c.self.view_is ∙ c.mark_anew.ensures.begun.scanned in
    c.finish.ensures.closed (λ a scanned. absurd (true≢false (sym scanned ∙ ap (λ (s : Set). contains s a) none ∙ contains-empty nat_cmp a)))

pub returns-clause-step : goal.returns-clause-step
returns-clause-step c =
    let w = c.self.inside in
    let marked = c.finish.new.self.marked in
    let core = ap (λ (v : WorldView). v.core) c.self.view_is ∙ c.mark_anew.ensures.core ∙ still_idle c.args.self.now.core c.in_ok-check_begin.ensures.idle in
    let none = ap (λ (v : WorldView). v.scanned) c.self.view_is ∙ c.mark_anew.ensures.begun.scanned in
    let closed : IsClosed w.marked.heap.objects marked = c.finish.ensures.closed (λ a scanned. absurd (true≢false (sym scanned ∙ ap (λ (s : Set). contains s a) none ∙ contains-empty nat_cmp a))) in
    let roots : (a : ℕ) → IsRoot (core_inside w) a → IsTrue (contains marked a) = λ a root.
    c.finish.ensures.kept a (subst (λ (v : WorldView). IsTrue (contains v.marked a)) (sym c.self.view_is) ((c.mark_anew.ensures.begun.marked a).1 (subst (λ (k : Core). IsRoot k a) core root))) in
    let first : (a : ℕ) → IsTrue (contains w.marked.marker.marked a) → IsRoot (core_inside w) a = λ a t.
    subst (λ (k : Core). IsRoot k a) (sym core) ((c.mark_anew.ensures.begun.marked a).0 (subst (λ (v : WorldView). IsTrue (contains v.marked a)) c.self.view_is t)) in
    let computes : Computes (contains marked) (IsReachable (core_inside w)) = λ a.
    (is_reachable (core_inside w) marked (λ b t. let from = c.finish.ensures.led b t in (from.0, first from.0 from.1, from.2)) a, has_reachable (core_inside w) marked closed roots a) in
    let P : Core → Type 0 = λ k. (found : ℕ → Bool) × Computes found (IsReachable k) × Passes k found c.pass.result c.pass.new.self.core in
    let accepts : P c.args.self.now.core = subst P core (contains marked, computes, c.pass.ensures.passes) in
    does_ended c.args.self.now c.pass.new.self (Make Collect) c.pass.result refl tt c.in_ok-check_begin.ensures.judged accepts (ap (λ (k : Core). k.cycle) c.pass.ensures.passes.is) (ap (λ (v : WorldView). v.forgotten) c.pass.ensures.marks ∙ ap (λ (v : WorldView). v.forgotten) c.self.view_is ∙ c.mark_anew.ensures.forgotten)

pub returns-clause-few : goal.returns-clause-few
returns-clause-few c =
    let w = c.self.inside in
    let scans = ap (λ (v : WorldView). v.scans) c.pass.ensures.marks in
    let zero_ = ap (λ (v : WorldView). v.scans) c.self.view_is ∙ c.mark_anew.ensures.begun.scans in
    let few = c.finish.ensures.few.1 in
    let all = readable_few w.marked.heap.objects (is_to_scan w.marked.heap.objects w.marked.marker w.dirty.noted c.finish.new.self.marked) in
    let objects = ap (λ (v : WorldView). len v.objects) c.self.view_is ∙ ap (λ (k : Core). len k.objects) c.mark_anew.ensures.core in
    omega (arith, scans, zero_, few, all, objects)
