use Rattle.std.proofs.Common.{◌≤◌, ◌⊎◌, ℕ, IsTrue, sym, ◌∙◌, subst}
use Rattle.std.specs.FinSet.{contains, len}
use Rattle.fz_bits.specs.Flags.{Flagged}
use Rattle.fz_marker.specs.Standing.{HasWordOn, StandsOn}
use Rattle.fz_marker.proofs.Forgetting.{fewer_removed, none_gone, first_gone, none_others, first_others}
use Rattle.fz_marker.proofs.cycle.Cycle.forget_page.Goals as goal

pub returns-in-Some-clause-few : goal.returns-in-Some-clause-few
returns-in-Some-clause-few c =
    let cleared = c.clear_word.new.self in
    subst (λ (f : Flagged). len f.members ≤ f.size) (sym c.remove.ensures.removed) (fewer_removed cleared.members c.in-Some.start cleared.size c.clear_word.ensures.room)

pub returns-in-Some-clause-gone : goal.returns-in-Some-clause-gone
returns-in-Some-clause-gone c =
    let objects = c.args.heap.now.objects in
    let old = c.args.self.now.scanned.members in
    let page = c.args.page in
    subst (λ (f : Flagged). (a : ℕ) → IsTrue (contains f.members a) → IsTrue (contains old a) × (HasWordOn objects page a → ⊥)) (sym c.remove.ensures.removed)
    (first_gone objects page old c.clear_word.new.self.members c.clear_word.ensures.cleared c.resolve.ensures.apart c.in-Some.start (sym c.resolve.ensures.points ∙ c.in-Some.is))

pub returns-in-Some-clause-others : goal.returns-in-Some-clause-others
returns-in-Some-clause-others c =
    let objects = c.args.heap.now.objects in
    let old = c.args.self.now.scanned.members in
    let page = c.args.page in
    subst (λ (f : Flagged). (a : ℕ) → IsTrue (contains old a) → IsTrue (contains f.members a) ⊎ StandsOn objects page a) (sym c.remove.ensures.removed)
    (first_others objects page old c.clear_word.new.self.members c.clear_word.ensures.cleared c.in-Some.start (sym c.resolve.ensures.points ∙ c.in-Some.is))

pub returns-in_default-clause-gone : goal.returns-in_default-clause-gone
returns-in_default-clause-gone c =
    none_gone c.args.heap.now.objects c.args.page c.args.self.now.scanned.members c.clear_word.new.self.members c.clear_word.ensures.cleared c.resolve.ensures.apart (sym c.resolve.ensures.points ∙ c.in_default.is)

pub returns-in_default-clause-others : goal.returns-in_default-clause-others
returns-in_default-clause-others c =
    none_others c.args.heap.now.objects c.args.page c.args.self.now.scanned.members c.clear_word.new.self.members c.clear_word.ensures.cleared
