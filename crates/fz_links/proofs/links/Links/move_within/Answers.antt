use Rattle.std.proofs.Common.{◌∙◌, ◌≡◌, ◌≤◌, ap, sym, subst, refl, arith, rules, is_some, false, true≢false, Some, Ok, Err, Result, IsOk, OnErr, ℕ}
use Rattle.std.specs.FinMap.{get, len, from_entries}
use Rattle.fz_model.specs.State.{Map}
use Rattle.fz_model.proofs.Tables.{get_made}
use Rattle.fz_table.specs.declared.limits.TheConstants.{MOST_ENTRIES}
use Rattle.fz_links.specs.Linked.{Linked}
use Rattle.fz_links.proofs.Moved.{absent_after, looked_up, len_moved_to}
use Rattle.fz_links.proofs.links.Links.move_within.Goals as goal
use Rattle.fz_links.proofs.links.Links.move_within.Goals.{then-spare_of-self-via-then-spare_of-self, then-spare_of-self-via-else-spare_of-self+then-contains_key, then-spare_of-self-via-else-spare_of-self+else-contains_key+then-not-contains_key}

succeeds : {A E P : Type 0} (r : Result A E) → OnErr r P → (P → ⊥) → IsOk r
succeeds (Ok x) p never = refl
succeeds (Err e) p never = absurd (never p)

pub unwrap-requires : goal.unwrap-requires
unwrap-requires c =
    let es = c.self.inside.entries.entries in
    elim c.then-spare_of-self.branch [
      | then-spare_of-self-via-then-spare_of-self w ↦ succeeds c.move_entry.result c.move_entry.ensures.wanting (λ none. let free = w.if-spare_of-self.true in absurd (omega (arith, none, free, c.spare_of.ensures.spare)))
      | then-spare_of-self-via-else-spare_of-self+then-contains_key w ↦ succeeds c.move_entry.result c.move_entry.ensures.fresh (λ fresh. absurd (true≢false (sym w.if-contains_key.true ∙ w.contains_key.ensures ∙ sym (ap is_some (get_made es c.args.new)) ∙ ap is_some fresh.1)))
      | then-spare_of-self-via-else-spare_of-self+else-contains_key+then-not-contains_key w ↦ succeeds c.move_entry.result c.move_entry.ensures.fresh (λ fresh. absurd (true≢false (sym fresh.0 ∙ ap is_some (get_made es c.args.link) ∙ sym w.contains_key-else-contains_key.ensures ∙ w.if-not-contains_key.true)))
    ]

pub invariant_of-self : goal.invariant_of-self
invariant_of-self c =
    let es = c.self.inside.entries.entries in
    record {
      few = subst (λ n. n ≤ MOST_ENTRIES) (sym (ap len (rw c.unwrap.ensures at c.move_entry.ensures.moved) ∙ len_moved_to (from_entries es) c.args.link c.args.new)) c.self.invariant.few;
      spared = elim c.then-spare_of-self.branch [
        | then-spare_of-self-via-then-spare_of-self w ↦ (let free = w.if-spare_of-self.true in let room = c.move_entry.ensures.room in omega (arith, room, free, c.spare_of.ensures.spare))
        | then-spare_of-self-via-else-spare_of-self+then-contains_key w ↦ (let kept = c.move_entry.ensures.kept (λ _. ap is_some (get_made es c.args.new) ∙ sym w.contains_key.ensures ∙ w.if-contains_key.true) in let was = c.self.invariant.spared in omega (arith, kept, was))
        | then-spare_of-self-via-else-spare_of-self+else-contains_key+then-not-contains_key w ↦ (let kept = c.move_entry.ensures.kept (λ known. absurd (true≢false (sym known ∙ ap is_some (get_made es c.args.link) ∙ sym w.contains_key-else-contains_key.ensures ∙ w.if-not-contains_key.true))) in let was = c.self.invariant.spared in omega (arith, kept, was))
      ];
    }

pub rebuild_without-requires-clause-known : goal.rebuild_without-requires-clause-known
rebuild_without-requires-clause-known c = ap is_some (looked_up c.self.inside.entries.entries c.args.self.now.links c.args.link (Some c.index-target.result.now) (ap (λ (l : Linked). l.links) c.self.view_is) (sym c.index-target.ensures))

here : (c : goal.After-register_checked) → get c.args.self.now.links c.args.link ≡ Some c.index-target.result.now
here c = looked_up c.self.inside.entries.entries c.args.self.now.links c.args.link (Some c.index-target.result.now) (ap (λ (l : Linked). l.links) c.self.view_is) (sym c.index-target.ensures)

free : (c : goal.After-register_checked) → is_some (get c.args.self.now.links c.args.new) ≡ false
free c = ap is_some (looked_up c.self.inside.entries.entries c.args.self.now.links c.args.new _ (ap (λ (l : Linked). l.links) c.self.view_is) refl) ∙ sym c.contains_key.ensures ∙ c.if-contains_key.false

pub returns-clause-answer : goal.returns-clause-answer
returns-clause-answer c =
    let known = here c in
    let absent = free c in
    search rules

pub returns-clause-moved : goal.returns-clause-moved
returns-clause-moved c =
    let known = here c in
    let absent = free c in
    search rules

pub returns-clause-room : goal.returns-clause-room
returns-clause-room c =
    let absent = ap (λ (m : Map ℕ). get m c.args.new) c.rebuild_without.ensures.removed ∙ absent_after c.args.self.now.links c.args.link c.args.new (free c) in
    let more = c.rebuild_without.ensures.room in
    let used = c.register_checked.ensures.used absent (omega (arith, more)) in
    omega (arith, more, used)
