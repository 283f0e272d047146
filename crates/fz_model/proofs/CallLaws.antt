-- Links that are made and moved, and entries that are held on to.
use Rattle.std.proofs.Common.{◌≡◌, ◌≢◌, ℕ, ◌+◌, ◌-◌, ◌≤◌, ◌==◌, ◌&&◌, Bool, true, false, cond, if◌then◌else◌, List, [], length, Option, Some, None, is_some, refl, sym, ap, ◌∙◌, subst, inl, inr, ⊎_elim, arith, get_or, set, All, nat_lt, true≢false, get_or-set_same, Contains}
use Rattle.std.proofs.lemmas.Bool.{not-false, and_parts, eqb-true, eq-eqb, ltb-true}
use Rattle.std.proofs.lemmas.Option.{slice_get_within, none-some}
use Rattle.std.specs.List.{list_any}
use Rattle.std.specs.Cmp.{nat_cmp_total}
use Rattle.std.specs.FinMap.{get, len, insert, remove, contains_key, len-insert, len-remove, len-entries, entries}
use Rattle.fz_model.specs.declared.answers.Entry.{Entry}
use Rattle.fz_model.specs.declared.answers.LinkAnswer.{LinkAnswer}
use Rattle.fz_model.specs.declared.answers.LinkAnswer.TheVariants as linking
use Rattle.fz_model.specs.declared.answers.MoveAnswer.{MoveAnswer}
use Rattle.fz_model.specs.declared.answers.MoveAnswer.TheVariants as moving
use Rattle.fz_model.specs.State.{Map, Core, State}
use Rattle.fz_model.specs.Memory.{slot_word, with_slot, lacks_slot}
use Rattle.fz_model.specs.declared.places.Slot.{Slot}
use Rattle.fz_model.specs.declared.places.Place.{Place}
use Rattle.fz_model.specs.Events.{Hold, same_entry, causes}
use Rattle.fz_model.specs.Steps.{IsReached, move_answer, moved_to}
use Rattle.fz_model.specs.CallLaws.{HasLink, IsLinked, LinksAreMade, IsUnlinked, LinksAreUnlinked, IsAnswered, IsMoved, LinksAreMoved, HoldGivesTheObject}
use Rattle.fz_model.proofs.Lists.{contains_at, any_at}
use Rattle.fz_model.proofs.Events.{one_entry}
use Rattle.fz_model.proofs.MapEntries.{place_of_key}
use Rattle.fz_model.proofs.Maps.{get-insert_same, get-insert_other, get-remove_same, get-remove_other}
use Rattle.fz_model.proofs.Effects.{none_stands}
use Rattle.fz_model.proofs.Standing.{reached_standing}
use Rattle.fz_model.proofs.Runs.{reached_sound}

-- ---- a link is made

abbrev is_duplicate : LinkAnswer → Bool
is_duplicate linking.Duplicate = true
is_duplicate linking.Success = false

made : (old : Map ℕ) (place target : ℕ) → IsLinked old place target (if contains_key old place then linking.Duplicate else linking.Success) (insert old place target)
made old place target = record {
  linked = get-insert_same old place target;
  others = λ p ne. get-insert_other old place target p ne;
  duplicate = (λ is. there (get old place) refl is, λ had. ap (λ g. if is_some g then linking.Duplicate else linking.Success) had.1);
}
  where
    there : (g : Option ℕ) → get old place ≡ g → (if is_some g then linking.Duplicate else linking.Success) ≡ linking.Duplicate → HasLink old place
    there None is e = absurd (true≢false (sym (ap is_duplicate e)))
    there (Some target) is e = (target, is)

linked_as : (old new : Map ℕ) (place target : ℕ) (answer : LinkAnswer) → answer ≡ (if contains_key old place then linking.Duplicate else linking.Success) → new ≡ insert old place target → IsLinked old place target answer new
linked_as old new place target answer is becomes =
    subst (IsLinked old place target answer) (sym becomes) (subst (λ r. IsLinked old place target r (insert old place target)) (sym is) (made old place target))

pub links_are_made : (s : State) (place : Place) (target : Slot) → LinksAreMade s place target
links_are_made s place target = record {
  short = λ answer new step. (linked_as s.short new.short _ _ answer step.1.0 (ap (λ (c : Core). c.short) step.1.1), ap (λ (c : Core). c.long) step.1.1);
  long = λ answer new step. (linked_as s.long new.long _ _ answer step.1.0 (ap (λ (c : Core). c.long) step.1.1), ap (λ (c : Core). c.short) step.1.1);
}

-- ---- a link is removed

unlinked : (old : Map ℕ) (place : ℕ) → IsUnlinked old place (contains_key old place) (remove old place)
unlinked old place = record {
  there = (at (get old place) refl, λ had. ap is_some had.1);
  gone = get-remove_same old place;
  others = λ p ne. get-remove_other old place p ne;
}
  where
    at : (g : Option ℕ) → get old place ≡ g → is_some g ≡ true → HasLink old place
    at None is on = absurd (true≢false (sym on))
    at (Some target) is on = (target, is)

unlinked_as : (old new : Map ℕ) (place : ℕ) (answer : Bool) → answer ≡ contains_key old place → new ≡ remove old place → IsUnlinked old place answer new
unlinked_as old new place answer is becomes =
    subst (IsUnlinked old place answer) (sym becomes) (subst (λ r. IsUnlinked old place r (remove old place)) (sym is) (unlinked old place))

pub links_are_unlinked : (s : State) (place : Place) → LinksAreUnlinked s place
links_are_unlinked s place = record {
  short = λ answer new step. (unlinked_as s.short new.short _ answer step.1.0 (ap (λ (c : Core). c.short) step.1.1), ap (λ (c : Core). c.long) step.1.1);
  long = λ answer new step. (unlinked_as s.long new.long _ answer step.1.0 (ap (λ (c : Core). c.long) step.1.1), ap (λ (c : Core). c.short) step.1.1);
}

-- ---- a link is moved

abbrev is_success : MoveAnswer → Bool
is_success moving.Success = true
is_success moving.Duplicate = false
is_success moving.NotFound = false

-- nothing changes
unchanged : (old : Map ℕ) (from to : ℕ) (answer : MoveAnswer) → is_success answer ≡ false → IsMoved old from to answer old
unchanged old from to answer not_success = record {
  number = refl;
  moved = λ is. absurd (true≢false (sym (ap is_success is) ∙ not_success));
  others = λ p _ _. refl;
  unmoved = λ _. refl;
}

-- a link is in the table, so there is one
some_links : (links : Map ℕ) (place target : ℕ) → get links place ≡ Some target → 1 ≤ len links
some_links links place target here =
    let at = place_of_key links place target here in
    let within = slice_get_within (entries links) at.0 (place, target) at.1 in
    omega (arith, within, len-entries links)

module _ (old : Map ℕ) (from to target : ℕ) (here : get old from ≡ Some target) (apart : from ≢ to) (free : get old to ≡ None) where
  abbrev moved : Map ℕ
  moved = insert (remove old from) to target

  other_place : to ≢ from
  other_place same = apart (sym same)

  number : len moved ≡ len old
  number =
      let some = some_links old from target here in
      let fewer : len (remove old from) ≡ len old - 1 = len-remove nat_cmp_total old from ∙ ap (λ g. cond (is_some g) (len old - 1) (len old)) here in
      let more : len moved ≡ len (remove old from) + 1 =
      len-insert nat_cmp_total (remove old from) to target ∙ ap (λ g. cond (is_some g) (len (remove old from)) (len (remove old from) + 1)) (get-remove_other old from to other_place ∙ free) in
      omega (arith, some, fewer, more)

  moved_there : IsMoved old from to moving.Success moved
  moved_there = record {
    number = number;
    moved = λ _. ((target, here), get-insert_same (remove old from) to target ∙ sym here, λ _. get-insert_other (remove old from) to target from apart ∙ get-remove_same old from);
    others = λ p not_from not_to. get-insert_other (remove old from) to target p not_to ∙ get-remove_other old from p not_from;
    unmoved = λ not_success. absurd (not_success refl);
  }

pub moves : (old : Map ℕ) (from to : ℕ) → IsMoved old from to (move_answer old from to) (moved_to old from to (get old from))
moves old from to = at (get old from) refl
  where
    apart_case : (target : ℕ) → get old from ≡ Some target → from ≢ to → (g : Option ℕ) → get old to ≡ g → IsMoved old from to (if is_some g then moving.Duplicate else moving.Success) (if is_some g then old else insert (remove old from) to target)
    apart_case target here apart None free = moved_there old from to target here apart free
    apart_case target here apart (Some other) taken = unchanged old from to moving.Duplicate refl

    same_case : (target : ℕ) → get old from ≡ Some target → from ≡ to → IsMoved old from to moving.Success old
    same_case target here same = record {
      number = refl;
      moved = λ _. ((target, here), ap (get old) (sym same), λ apart. absurd (apart same));
      others = λ p _ _. refl;
      unmoved = λ _. refl;
    }

    -- the same place has this very link
    same_new : (target : ℕ) → get old from ≡ Some target → from ≡ to → (if contains_key old to then old else insert (remove old from) to target) ≡ old
    same_new target here same = ap (λ g. if is_some g then old else insert (remove old from) to target) (ap (get old) (sym same) ∙ here)

    both : (target : ℕ) → get old from ≡ Some target → (b : Bool) → (from == to) ≡ b → IsMoved old from to (if b then moving.Success else (if contains_key old to then moving.Duplicate else moving.Success)) (if contains_key old to then old else insert (remove old from) to target)
    both target here true is = let same = eqb-true from to is in subst (IsMoved old from to moving.Success) (sym (same_new target here same)) (same_case target here same)
    both target here false is = apart_case target here (λ same. true≢false (sym (eq-eqb from to same) ∙ is)) (get old to) refl

    at : (g : Option ℕ) → get old from ≡ g → IsMoved old from to (if is_some g then (if from == to then moving.Success else (if contains_key old to then moving.Duplicate else moving.Success)) else moving.NotFound) (moved_to old from to g)
    at None is = unchanged old from to moving.NotFound refl
    at (Some target) is = both target is (from == to) refl

moved_as : (old new : Map ℕ) (from to : ℕ) (answer : MoveAnswer) → answer ≡ move_answer old from to → new ≡ moved_to old from to (get old from) → IsMoved old from to answer new
moved_as old new from to answer is becomes =
    subst (IsMoved old from to answer) (sym becomes) (subst (λ r. IsMoved old from to r (moved_to old from to (get old from))) (sym is) (moves old from to))

abbrev is_duplicate_move : MoveAnswer → Bool
is_duplicate_move moving.Duplicate = true
is_duplicate_move moving.Success = false
is_duplicate_move moving.NotFound = false

abbrev is_not_found : MoveAnswer → Bool
is_not_found moving.NotFound = true
is_not_found moving.Success = false
is_not_found moving.Duplicate = false

answers : (old : Map ℕ) (from to : ℕ) → IsAnswered old from to (move_answer old from to)
answers old from to = at (get old from) refl (from == to) refl (get old to) refl
  where
    at : (g : Option ℕ) → get old from ≡ g → (b : Bool) → (from == to) ≡ b → (h : Option ℕ) → get old to ≡ h → IsAnswered old from to (if is_some g then (if b then moving.Success else (if is_some h then moving.Duplicate else moving.Success)) else moving.NotFound)
    at None is b same h other = record {
      not_found = (λ _. is, λ _. refl);
      duplicate = (λ e. absurd (true≢false (sym (ap is_duplicate_move e))), λ had. absurd (none-some had.0.0 (sym is ∙ had.0.1)));
      success = (λ e. absurd (true≢false (sym (ap is_success e))), λ had. absurd (none-some had.0.0 (sym is ∙ had.0.1)));
    }
    at (Some target) is true same h other = record {
      not_found = (λ e. absurd (true≢false (sym (ap is_not_found e))), λ none. absurd (none-some target (sym none ∙ is)));
      duplicate = (λ e. absurd (true≢false (sym (ap is_duplicate_move e))), λ had. absurd (had.1 (eqb-true from to same)));
      success = (λ _. ((target, is), inl (eqb-true from to same)), λ _. refl);
    }
    at (Some target) is false same None free = record {
      not_found = (λ e. absurd (true≢false (sym (ap is_not_found e))), λ none. absurd (none-some target (sym none ∙ is)));
      duplicate = (λ e. absurd (true≢false (sym (ap is_duplicate_move e))), λ had. absurd (none-some had.2.0 (sym free ∙ had.2.1)));
      success = (λ _. ((target, is), inr free), λ _. refl);
    }
    at (Some target) is false same (Some other) taken =
        let apart : from ≢ to = λ equal. true≢false (sym (eq-eqb from to equal) ∙ same) in
        record {
          not_found = (λ e. absurd (true≢false (sym (ap is_not_found e))), λ none. absurd (none-some target (sym none ∙ is)));
          duplicate = (λ _. ((target, is), apart, (other, taken)), λ _. refl);
          success = (λ e. absurd (true≢false (sym (ap is_success e))), λ had. absurd (⊎_elim (λ equal. apart equal) (λ free. none-some other (sym free ∙ taken)) had.1));
        }

answered_as : (old : Map ℕ) (from to : ℕ) (answer : MoveAnswer) → answer ≡ move_answer old from to → IsAnswered old from to answer
answered_as old from to answer is = subst (IsAnswered old from to) (sym is) (answers old from to)

pub links_are_moved : (s : State) (from to : Place) → LinksAreMoved s from to
links_are_moved s from to = record {
  short = λ answer new step. (moved_as s.short new.short _ _ answer step.1.0 (ap (λ (c : Core). c.short) step.1.1), answered_as s.short _ _ answer step.1.0, ap (λ (c : Core). c.long) step.1.1);
  long = λ answer new step. (moved_as s.long new.long _ _ answer step.1.0 (ap (λ (c : Core). c.long) step.1.1), answered_as s.long _ _ answer step.1.0, ap (λ (c : Core). c.short) step.1.1);
}

-- ---- a hold

held_one : (held : List Entry) (e : Entry) → list_any (same_entry e) held ≡ true → Contains held e
held_one held e h =
    let some = any_at (same_entry e) held h in
    subst (Contains held) (sym (one_entry e some.1 some.3)) (contains_at held some.0 some.1 some.2)

-- a slot that isn't lacking has what was put into it
pub slot_gets : (frames : List (List ℕ)) (slot : Slot) (word : ℕ) → All (λ (f : List ℕ). length f ≡ 16) frames → lacks_slot frames slot ≡ false → slot_word (with_slot frames slot word) slot ≡ word
slot_gets frames slot word whole good =
    let both = and_parts (nat_lt slot.frame (length frames)) (nat_lt slot.slot 16) (not-false (nat_lt slot.frame (length frames) && nat_lt slot.slot 16) good) in
    let in_frames = ltb-true slot.frame (length frames) both.0 in
    let below = ltb-true slot.slot 16 both.1 in
    let old = get_or frames slot.frame [] in
    let size : length old ≡ 16 = whole slot.frame [] in_frames in
    ap (λ f. get_or f slot.slot 0) (get_or-set_same frames slot.frame (set old slot.slot word) [] in_frames) ∙ get_or-set_same old slot.slot word 0 (omega (arith, below, size))

pub hold_gives_the_object : (s : State) → IsReached s → HoldGivesTheObject s
hold_gives_the_object s r slot e answer new step =
    let none = none_stands (causes s.core (Hold slot e)) step.0 in
    let held = held_one s.held e (not-false _ none.1.0) in
    let stands = (reached_sound s r).held_object e held in (
      held,
      ap (λ (c : Core). slot_word c.frames slot) step.1 ∙ slot_gets s.frames slot e.obj (reached_standing s r).whole none.0,
      (stands.0, ap (λ (c : Core). get c.objects e.obj) step.1 ∙ stands.1, stands.2),
    )
