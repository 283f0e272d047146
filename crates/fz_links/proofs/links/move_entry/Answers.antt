use Rattle.std.proofs.Common.{rules, ℕ, ◌≡◌, ◌∙◌, ap, refl, sym, is_some, true≢false, Some, None, cond, nat_cmp, nat_eq, slice_get}
use Rattle.std.specs.FinMap.{get, insert, remove, from_entries}
use Rattle.std.proofs.lemmas.Bool.Decides.{Decides-eqb}
use Rattle.std.proofs.lemmas.Map.Made.{lookup_key_same}
use Rattle.indexmap.proofs.CallerLemmas.{insert_entry-new}
use Rattle.indexmap.specs.Entry.{map_with_value}
use Rattle.indexmap.specs.IndexMap.{Updates}
use Rattle.std.specs.Option.{IfSome}
use Rattle.std.specs.Map.{lookup}
use Rattle.fz_model.specs.State.{Map}
use Rattle.fz_model.specs.Steps.{moved_to}
use Rattle.fz_model.proofs.Tables.{made_inserted, made_removed}
use Rattle.fz_links.proofs.Moved.{moved_turns, looked_up, place_kept}
use Rattle.fz_links.proofs.links.move_entry.Goals as goal

pub returns-in_default-clause-answer : goal.returns-in_default-clause-answer
returns-in_default-clause-answer c =
    let es = c.args.entries.now.entries in
    let none = looked_up es (from_entries es) c.args.link None refl c.in_default.ensures.value in
    search rules

pub returns-in_default-clause-moved : goal.returns-in_default-clause-moved
returns-in_default-clause-moved c =
    let es = c.args.entries.now.entries in
    let none = looked_up es (from_entries es) c.args.link None refl c.in_default.ensures.value in
    sym (ap (moved_to (from_entries es) c.args.link c.args.new) none)

pub returns-then-link-new-clause-answer : goal.returns-then-link-new-clause-answer
returns-then-link-new-clause-answer c =
    let es = c.args.entries.now.entries in
    let here = looked_up es (from_entries es) c.args.link (Some c.in-Some.target.now) refl c.in-Some.ensures.value in
    search rules

pub returns-in_err-room-clause-fresh : goal.returns-in_err-room-clause-fresh
returns-in_err-room-clause-fresh c =
    let es = c.args.entries.now.entries in
    let here = looked_up es (from_entries es) c.args.link (Some c.in-Some.target.now) refl c.in-Some.ensures.value in
    let free = looked_up es (from_entries es) c.args.new None refl (sym c.in_err-room.ensures.absent) in
    search rules

pub returns-in_default-2-clause-answer : goal.returns-in_default-2-clause-answer
returns-in_default-2-clause-answer c =
    let es = c.args.entries.now.entries in
    let here = looked_up es (from_entries es) c.args.link (Some c.in-Some.target.now) refl c.in-Some.ensures.value in
    let held = ap is_some (looked_up es (from_entries es) c.args.new _ refl refl) ∙ (rw c.in_default-2.is at c.in_ok-room.ensures.found).0 in
    search rules

pub returns-in_default-2-clause-moved : goal.returns-in_default-2-clause-moved
returns-in_default-2-clause-moved c =
    let es = c.args.entries.now.entries in
    let here = looked_up es (from_entries es) c.args.link (Some c.in-Some.target.now) refl c.in-Some.ensures.value in
    let held = ap is_some (looked_up es (from_entries es) c.args.new _ refl refl) ∙ (rw c.in_default-2.is at c.in_ok-room.ensures.found).0 in
    let same = ap (moved_to (from_entries es) c.args.link c.args.new) here ∙ ap (λ b. cond b (from_entries es) (insert (remove (from_entries es) c.args.link) c.args.new c.in-Some.target.now)) held in
    search rules

here : (c : goal.After-swap_remove_index) → get (from_entries {R = nat_cmp} c.args.entries.now.entries) c.args.link ≡ Some c.in-Some.target.now
here c = looked_up c.args.entries.now.entries (from_entries c.args.entries.now.entries) c.args.link (Some c.in-Some.target.now) refl c.in-Some.ensures.value

absent : (c : goal.After-swap_remove_index) → lookup (nat_eq c.args.new) c.args.entries.now.entries ≡ None
absent c = (rw c.in-Vacant.is at c.in_ok-room.ensures.found)

free : (c : goal.After-swap_remove_index) → get (from_entries {R = nat_cmp} c.args.entries.now.entries) c.args.new ≡ None
free c = looked_up c.args.entries.now.entries (from_entries c.args.entries.now.entries) c.args.new None refl (sym (absent c))

-- the old link is still at its place when the new one has been put last, and it is what is removed there
taken : (c : goal.After-swap_remove_index) → c.swap_remove_index.result ≡ Some (c.args.link, c.in-Some.target.now)
taken c =
    let es = c.args.entries.now.entries in
    let there : c.swap_remove_index.result ≡ slice_get (map_with_value c.in_ok-room.field-0 c.in-Some.target.now).entries c.in-Some.old_place = search rules in
    let key = lookup_key_same Decides-eqb c.args.link es c.in-Some.field-0-1.now (sym c.in-Some.ensures.key) in
    there
    ∙ ap (λ ns. slice_get ns c.in-Some.old_place) (c.in_ok-room.ensures.update.1 c.in-Some.target.now ∙ insert_entry-new nat_eq c.args.entries.now c.args.new c.in-Some.target.now (absent c))
    ∙ place_kept es c.in-Some.old_place _ _ c.in-Some.ensures.entry
    ∙ ap (λ k. Some (k, c.in-Some.target.now)) (sym key)

-- what is there in the end
left : (c : goal.After-swap_remove_index) → from_entries {R = nat_cmp} c.swap_remove_index.new.self.entries ≡ remove (insert (from_entries c.args.entries.now.entries) c.args.new c.in-Some.target.now) c.args.link
left c =
    let grown = map_with_value c.in_ok-room.field-0 c.in-Some.target.now in
    let removed : IfSome c.swap_remove_index.result (λ p. Updates nat_eq grown c.swap_remove_index.new.self p.0 None) = search rules in
    let updates = (rw (taken c) at removed) in
    made_removed grown.entries _ c.args.link updates.0
    ∙ ap (λ m. remove m c.args.link) (made_inserted c.args.entries.now.entries grown.entries c.args.new _ (c.in_ok-room.ensures.update.0 c.in-Some.target.now).0)

pub returns-clause-answer : goal.returns-clause-answer
returns-clause-answer c =
    let there = here c in
    let none = free c in
    search rules

pub returns-clause-moved : goal.returns-clause-moved
returns-clause-moved c =
    let old : Map ℕ = from_entries c.args.entries.now.entries in
    left c
    ∙ moved_turns old c.args.link c.args.new c.in-Some.target.now (λ same. c.if-link-new.false (sym same))
    ∙ sym (ap (λ b. cond b old (insert (remove old c.args.link) c.args.new c.in-Some.target.now)) (ap is_some (free c)))
    ∙ ap (moved_to old c.args.link c.args.new) (sym (here c))

-- it moves
pub returns-clause-kept : goal.returns-clause-kept
returns-clause-kept c = λ unmoved. absurd (true≢false (sym (unmoved (ap is_some (here c))) ∙ ap is_some (free c)))
