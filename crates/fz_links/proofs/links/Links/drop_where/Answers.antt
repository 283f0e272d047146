use Rattle.std.proofs.Common.{◌≡◌, ◌∙◌, ◌-◌, ◌+◌, ◌≤◌, ℕ, length, slice_get, Some, nat_cmp, ap, sym, subst, arith}
use Rattle.std.specs.FinMap.{len, from_entries, remove}
use Rattle.std.specs.List.{swap_remove}
use Rattle.fz_table.specs.declared.limits.TheConstants.{MOST_ENTRIES}
use Rattle.fz_model.specs.State.{Map}
use Rattle.fz_model.proofs.Tables.{get_made, made_removed}
use Rattle.fz_table.proofs.Entries.{limit_removed}
use Rattle.fz_links.proofs.Dropping.{IsSifted, sifted_kept, sifted_dropped, sifted_all, length-swap_remove}
use Rattle.fz_links.proofs.links.Links.drop_where.Goals as goal

pub returns-clause-dropped : goal.returns-clause-dropped
returns-clause-dropped g c = λ test computes.
    let none : c.loop-place.place ≡ 0 = omega arith in
    sifted_all test c.args.self.now.links c.loop-place.self-inside.entries.entries (subst (λ p. IsSifted test c.args.self.now.links p c.loop-place.self-inside.entries.entries) none (c.loop-place.invariant.sifted test computes))

pub loop-place-preserved-else-f : goal.loop-place-preserved-else-f
loop-place-preserved-else-f g c =
    let es = c.loop-place.self-inside.entries.entries in
    let place = c.loop-place.place - 1 in
    let within = c.loop-place.invariant.within in
    let next : c.loop-place.place ≡ place + 1 = omega arith in
    record {
      within = omega (arith, within);
      few = c.loop-place.invariant.few;
      kept = c.loop-place.invariant.kept;
      roomier = c.loop-place.invariant.roomier;
      sifted = λ test computes.
          sifted_kept test c.args.self.now.links es place c.in-Some.link.now c.in-Some.target.now
          (subst (λ p. IsSifted test c.args.self.now.links p es) next (c.loop-place.invariant.sifted test computes))
          (sym c.in-Some.ensures.entry)
          (sym (computes c.in-Some.link.now c.in-Some.target.now c.f.result c.f.ensures) ∙ c.if-f.false);
    }

pub loop-place-preserved-then-f : goal.loop-place-preserved-then-f
loop-place-preserved-then-f g c =
    let es = c.loop-place.self-inside.entries.entries in
    let place = c.loop-place.place - 1 in
    let link = c.in-Some.link.now in
    let target = c.in-Some.target.now in
    let next : c.loop-place.place ≡ place + 1 = omega arith in
    let within = c.loop-place.invariant.within in
    let here : slice_get es place ≡ Some (link, target) = sym c.in-Some.ensures.entry in
    let took : c.swap_remove_index.result ≡ Some (link, target) = c.swap_remove_index.ensures.entry ∙ here in
    let left : c.swap_remove_index.new.self.entries ≡ swap_remove es place (link, target) = (rw took at c.swap_remove_index.ensures.entries) in
    let updates = (rw took at c.swap_remove_index.ensures.updates) in
    let removed : from_entries {R = nat_cmp} c.swap_remove_index.new.self.entries ≡ remove (from_entries es) link = made_removed es c.swap_remove_index.new.self.entries link updates.0 in
    let fewer = ap length left ∙ length-swap_remove es place (link, target) in
    record {
      within = omega (arith, within, fewer);
      few = subst (λ (m : Map ℕ). len m ≤ MOST_ENTRIES) (sym removed) (limit_removed (from_entries es) link c.loop-place.invariant.few);
      kept = c.loop-place.invariant.kept;
      roomier = let kept = c.swap_remove_index.ensures.room.0 in let before = c.loop-place.invariant.roomier in omega (arith, kept, before);
      sifted = λ test computes.
          sifted_dropped test c.args.self.now.links es c.swap_remove_index.new.self.entries place link target
          (subst (λ p. IsSifted test c.args.self.now.links p es) next (c.loop-place.invariant.sifted test computes))
          (omega (arith, within))
          (get_made es link ∙ c.in-Some.ensures.value)
          (sym (computes link target c.f.result c.f.ensures) ∙ c.if-f.true)
          left removed;
    }
