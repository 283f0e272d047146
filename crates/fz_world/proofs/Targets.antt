-- The targets of links are objects, whatever becomes of links and objects.
use Rattle.std.proofs.Common.{if◌then◌else◌, ◌≡◌, ◌&&◌, ◌==◌, ℕ, Bool, true, false, List, Option, Some, None, Result, Ok, Err, OnOk, OnErr, is_some, nat_cmp, refl, sym, ap, ◌∙◌, subst, ⊎_elim, IsTrue}
use Rattle.std.proofs.lemmas.Bool.{cases_eq, and_parts}
use Rattle.std.proofs.lemmas.Option.{same_Some, none-some}
use Rattle.std.specs.Option.{option_map_or}
use Rattle.std.specs.FinMap.{get, contains_key, insert, remove, empty, get-empty}
use Rattle.fz_model.specs.declared.answers.Pick.{Pick}
use Rattle.fz_model.specs.declared.refusal.Refusal.{Refusal}
use Rattle.fz_model.specs.State.{Map, Object}
use Rattle.fz_model.specs.Memory.{written, points}
use Rattle.fz_model.specs.Steps.{moved_to}
use Rattle.fz_model.specs.Pass.{FoundItself, cleared, is_dead, links_within, remaining_objects}
use Rattle.fz_model.proofs.Maps.{filling, get-insert_same, get-insert_other, get-remove_other, get-remove_same, retained_back}
use Rattle.fz_heap.proofs.Mapped.{has_key}
use Rattle.fz_marked.proofs.Condemned.{has_retained}
use Rattle.fz_pass.specs.Decides.{Parts, Decides}
use Rattle.fz_pass.specs.Marks.{AreTargets}
use Rattle.fz_pass.proofs.Filling.{has_filled}
use Rattle.fz_world.specs.World.{HaveTargets}

pub are_targets : (objects : Map Object) (links : Map ℕ) → HaveTargets objects links → AreTargets objects links
unfolding HaveTargets
are_targets objects links h = h

pub targets_opening : (objects : Map Object) (links : Map ℕ) → links ≡ empty → HaveTargets objects links
unfolding HaveTargets
targets_opening objects links none link target is = absurd (none-some target (sym (get-empty nat_cmp link) ∙ sym (ap (λ m. get m link) none) ∙ is))

module _ (objects : Map Object) (links : Map ℕ) where
  -- ---- objects come and are written

  pub targets_made : (a : ℕ) (o : Object) → HaveTargets objects links → HaveTargets (insert objects a o) links
  unfolding HaveTargets
  targets_made a o h link target is = ⊎_elim here (λ ne. ap is_some (get-insert_other objects a o target ne) ∙ h link target is) (cases_eq target a)
    where
      here : target ≡ a → IsTrue (contains_key (insert objects a o) target)
      here same = ap (contains_key (insert objects a o)) same ∙ ap is_some (get-insert_same objects a o)

  pub targets_written : (place value : ℕ) → HaveTargets objects links → HaveTargets (written place value objects) links
  unfolding HaveTargets written
  targets_written place value h link target is = has_key (filling (λ a. a == place) value) objects target ∙ h link target is

  -- ---- links come, go and are moved

  pub targets_linked : (link target : ℕ) → IsTrue (contains_key objects target) → HaveTargets objects links → HaveTargets objects (insert links link target)
  unfolding HaveTargets
  targets_linked link target there h a b is = ⊎_elim here (λ ne. h a b (sym (get-insert_other links link target a ne) ∙ is)) (cases_eq a link)
    where
      here : a ≡ link → IsTrue (contains_key objects b)
      here same = subst (λ x. IsTrue (contains_key objects x)) (same_Some target b (sym (get-insert_same links link target) ∙ ap (get (insert links link target)) (sym same) ∙ is)) there

  pub targets_unlinked : (link : ℕ) → HaveTargets objects links → HaveTargets objects (remove links link)
  unfolding HaveTargets
  targets_unlinked link h a b is = ⊎_elim gone (λ ne. h a b (sym (get-remove_other links link a ne) ∙ is)) (cases_eq a link)
    where
      gone : a ≡ link → IsTrue (contains_key objects b)
      gone same = absurd (none-some b (sym (get-remove_same links link) ∙ ap (get (remove links link)) (sym same) ∙ is))

  -- ---- a pass

  within : (new : Map Object) (targets containers : ℕ → Bool) → ((a : ℕ) → IsTrue (contains_key objects a) → IsTrue (targets a) → IsTrue (contains_key new a)) → HaveTargets objects links → HaveTargets new (links_within objects links targets containers)
  unfolding HaveTargets
  within new targets containers stays h link target is =
      let left = retained_back links (λ l. option_map_or targets (get links l) false && option_map_or containers (points objects l) false) link target is in
      let on = and_parts (option_map_or targets (get links link) false) (option_map_or containers (points objects link) false) left.0 in
      stays target (h link target left.1) (ap (λ o. option_map_or targets o false) (sym left.1) ∙ on.0)

pub targets_moved : (objects : Map Object) (links : Map ℕ) (link new : ℕ) → HaveTargets objects links → HaveTargets objects (moved_to links link new (get links link))
unfolding HaveTargets
targets_moved objects links link new h = by (get links link) refl
  where
    by : (found : Option ℕ) → get links link ≡ found → HaveTargets objects (moved_to links link new found)
    by None is = h
    by (Some target) is = to (contains_key links new)
      where
        to : (b : Bool) → HaveTargets objects (if b then links else insert (remove links link) new target)
        to true = h
        to false = targets_linked objects (remove links link) new target (h link target is) (targets_unlinked objects links link h)

module _ (old new : Parts) (found : ℕ → Bool) (picks : List Pick) (d : Decides old found picks new) where
  stays : (a : ℕ) → IsTrue (contains_key old.objects a) → IsTrue (d.decision.kept a) → IsTrue (contains_key (remaining_objects old.objects old.short old.long found d.decision.kept) a)
  stays a here on =
      let short = cleared old.short found old.objects in
      let both = cleared old.long d.decision.kept short in
      has_retained both d.decision.kept a
      ∙ ap (λ b. b && d.decision.kept a) (has_filled (is_dead short old.long d.decision.kept) 0 short a ∙ has_filled (is_dead old.objects old.short found) 0 old.objects a ∙ here) ∙ on

  pub short_passed : HaveTargets old.objects old.short → HaveTargets new.objects new.short
  short_passed h =
      subst (λ (p : Parts). HaveTargets p.objects p.short) (sym d.is)
      (within old.objects old.short _ found d.decision.kept (λ a here on. stays a here ((d.decision.kept_is a).1 (FoundItself on))) h)

  pub long_passed : HaveTargets old.objects old.long → HaveTargets new.objects new.long
  long_passed h = subst (λ (p : Parts). HaveTargets p.objects p.long) (sym d.is) (within old.objects old.long _ d.decision.kept d.decision.kept stays h)

-- ---- calls that may be refused, which then leave the links as they were

either : {A : Type 0} (objects : Map Object) (old done new : Map ℕ) (result : Result A Refusal) → OnErr result (new ≡ old) → OnOk result (new ≡ done) → HaveTargets objects old → HaveTargets objects done → HaveTargets objects new
either objects old done new (Ok x) unchanged is was now = subst (λ (m : Map ℕ). HaveTargets objects m) (sym is) now
either objects old done new (Err r) unchanged is was now = subst (λ (m : Map ℕ). HaveTargets objects m) (sym unchanged) was

pub targets_registered : {A : Type 0} (objects : Map Object) (old mid new : Map ℕ) (link target : ℕ) (result : Result A Refusal) → mid ≡ old → OnErr result (new ≡ mid) → OnOk result (new ≡ insert mid link target) → IsTrue (contains_key objects target) → HaveTargets objects old → HaveTargets objects new
targets_registered objects old mid new link target result roomier unchanged is there h =
    let was = subst (λ (m : Map ℕ). HaveTargets objects m) (sym roomier) h in either objects mid _ new result unchanged is was (targets_linked objects mid link target there was)

pub targets_after_move : {A : Type 0} (objects : Map Object) (old new : Map ℕ) (link to : ℕ) (result : Result A Refusal) → OnErr result (new ≡ old) → OnOk result (new ≡ moved_to old link to (get old link)) → HaveTargets objects old → HaveTargets objects new
targets_after_move objects old new link to result unchanged is h = either objects old _ new result unchanged is h (targets_moved objects old link to h)
