use Rattle.std.proofs.Common.{◌≡◌, ◌∙◌, ◌↔◌, ◌⊎◌, IsTrue, sym, ap, subst, inl, ⊎_elim}
use Rattle.std.specs.FinSet.{contains}
use Rattle.fz_model.proofs.Sets.{inserted_again}
use Rattle.fz_model.specs.Reachability.{Leads}
use Rattle.fz_marker.specs.Frontiers.{Frontier}
use Rattle.fz_marker.proofs.Gaining.{not_off}
use Rattle.fz_marker.proofs.Tracing.{tracing_begins, tracing_ends, led_stays}
use Rattle.fz_marker.proofs.frontier.Frontier.add_closed.Goals as goal

pub close-requires-clause-traced : goal.close-requires-clause-traced
close-requires-clause-traced c =
    tracing_begins c.args.heap.now.objects c.args.self.now c.enter.new.self c.add_children.new.self c.args.object c.requires.closed c.requires.idle c.enter.ensures.entered c.add_children.ensures.gains

pub returns-then-enter-clause-members : goal.returns-then-enter-clause-members
returns-then-enter-clause-members c =
    tracing_ends c.args.heap.now.objects c.args.self.now c.enter.new.self c.add_children.new.self c.args.object c.requires.closed c.requires.idle c.enter.ensures.entered c.add_children.ensures.gains c.close.new.self c.close.ensures.traced c.close.ensures.idle

pub returns-else-enter-clause-members : goal.returns-else-enter-clause-members
returns-else-enter-clause-members c =
    let old = c.args.self.now in
    let known = not_off (contains old.members c.args.object) (sym c.enter.ensures.new ∙ c.if-enter.false) in
    let same : c.enter.new.self.members ≡ old.members = ap (λ (f : Frontier). f.members) c.enter.ensures.entered ∙ inserted_again old.members c.args.object known in
    λ a. subst (λ s. IsTrue (contains s a) ↔ (IsTrue (contains old.members a) ⊎ Leads c.args.heap.now.objects c.args.object a)) (sym same) (inl, ⊎_elim (λ h. h) (led_stays c.args.heap.now.objects old.members c.args.object c.requires.closed known a))
