-- Each change of a world's parts keeps what a world keeps of them.
use Rattle.std.proofs.Common.{◌≡◌, ◌≤◌, ◌<◌, ◌+◌, ℕ, Bool, true, false, not, List, Some, None, refl, sym, ap, ◌∙◌, subst, arith, filter, IsTrue, IsFalse, true≢false, length, replicate, nat_cmp, nat_le, nat_lt, Equal, ◌&&◌}
use Rattle.std.proofs.lemmas.Bool.{not-false, leb-true, and_parts}
use Rattle.std.proofs.lemmas.List.{length-replicate}
use Rattle.std.specs.Cmp.{ranked}
use Rattle.std.specs.FinMap as map
use Rattle.std.specs.FinSet as sets
use Rattle.fz_model.specs.declared.kinds.ObjKind.{ObjKind}
use Rattle.fz_model.specs.declared.finalizer.Finalizer.{Finalizer}
use Rattle.fz_model.specs.declared.answers.Entry.{Entry}
use Rattle.fz_model.specs.declared.answers.Registration.{Registration}
use Rattle.fz_model.specs.declared.limits.TheConstants.{MAX_OBJECT_WORDS}
use Rattle.fz_model.specs.State.{Map, Object, Core}
use Rattle.fz_model.specs.Memory.{written, new_object}
use Rattle.fz_model.specs.Allocation.{block_of, blocks_for, place_for}
use Rattle.fz_model.specs.Condemned.{swept}
use Rattle.fz_model.specs.Causes.{first_cause, alloc_causes, start_causes}
use Rattle.fz_model.specs.Parts.{AreSound}
use Rattle.fz_model.specs.Steps.{registration_of}
use Rattle.fz_model.proofs.Maps.{free_place}
use Rattle.fz_model.proofs.Parts.{none_stands, sound_opening, sound_made, sound_written, sound_registered, sound_removed, sound_filtered, sound_passed}
use Rattle.fz_model.specs.declared.answers.Passed.{Passed}
use Rattle.fz_model.specs.Reachability.{IsReachable}
use Rattle.fz_model.specs.Pass.{Passes}
use Rattle.fz_model.proofs.Sets.{same_members}
use Rattle.fz_heap.specs.Contents.{Contents}
use Rattle.fz_model.specs.declared.kinds.LinkKind.{LinkKind}
use Rattle.fz_model.specs.declared.kinds.LinkKind.TheVariants.{Short, Long}
use Rattle.fz_finalizers.specs.States.{State, opening, with_links}
use Rattle.fz_bits.specs.Flags.{Set, IsWithin}
use Rattle.fz_dirty.specs.Pages.{Pages}
use Rattle.fz_marker.specs.Marking.{Marking, CleanAreClosed, HasChildrenIn, is_newly_in, is_on_noted, readable_count}
use Rattle.fz_world.specs.World.{IsWhole, IsWorld, IsPlain, with_in_cycle}
use Rattle.fz_world.proofs.Keeping.{now_in, note_keeps, store_keeps, alloc_keeps}
use Rattle.fz_world.proofs.Scans.{readable_made, readable_more, readable_within, readable_written}

-- where nothing is condemned, nothing is after a sweep
abbrev is_left : ℕ → ℕ → ℕ → Bool
is_left first count a = not (nat_le first (block_of a) && nat_lt (block_of a) (first + count))

still_swept : (condemned : Set) (first count : ℕ) → condemned ≡ sets.empty → swept condemned first count ≡ sets.empty
still_swept condemned first count none =
    same_members _ _ (λ q.
    sets.contains-retain condemned (is_left first count) q (λ x e. ap (is_left first count) (sym (ranked q x Equal (sym e))))
    ∙ ap (λ b. b && is_left first count q) (ap (λ (s : Set). sets.contains s q) none ∙ sets.contains-empty nat_cmp q)
    ∙ sym (sets.contains-empty nat_cmp q))

pub world_opening : (heap : Contents) (s : State) (marker : Marking) (pages : Pages) (blocks : ℕ) → heap.blocks ≡ blocks → heap.objects ≡ map.empty → s ≡ opening → pages.pages ≡ blocks → IsWorld heap s marker pages false
unfolding IsWorld
world_opening heap s marker pages blocks few none nothing all = (
  record {
    sound =
        let Sound = λ (objects : Map Object) (t : State). AreSound objects t.registrations t.next_number t.queue t.held in
        let first : Sound heap.objects s = rw none (rw nothing sound_opening) in
        first;
    pages_are = all ∙ sym few;
    plain = subst IsPlain (sym nothing) (record { none = refl; taken = refl });
  },
  λ on. absurd (true≢false (sym on)),
)

module _ (heap : Contents) (s : State) (marker : Marking) (pages : Pages) (cycle : Bool) where
  pub world_pages : IsWorld heap s marker pages cycle → pages.pages ≡ heap.blocks
  unfolding IsWorld
  world_pages h = h.0.pages_are

  pub world_plain : IsWorld heap s marker pages cycle → IsPlain s
  unfolding IsWorld
  world_plain h = h.0.plain

  pub world_sound : IsWorld heap s marker pages cycle → AreSound heap.objects s.registrations s.next_number s.queue s.held
  unfolding IsWorld
  world_sound h = h.0.sound

  pub world_clean : IsWorld heap s marker pages cycle → IsTrue cycle → CleanAreClosed heap.objects marker pages.noted
  unfolding IsWorld
  world_clean h on = (h.1 on).clean

  pub world_once : IsWorld heap s marker pages cycle → IsTrue cycle → marker.scans ≤ readable_count heap.objects (sets.contains marker.scanned)
  unfolding IsWorld
  world_once h on = (h.1 on).once

  pub world_unfinished : IsWorld heap s marker pages cycle → IsTrue cycle → marker.scans ≤ sets.len marker.scanned
  world_unfinished h on = let once = world_once h on in let few = readable_within heap.objects marker.scanned in omega (arith, once, few)

  pub world_none_condemned : IsWorld heap s marker pages cycle → IsTrue cycle → heap.condemned ≡ sets.empty
  unfolding IsWorld
  world_none_condemned h on = (h.1 on).none_condemned

  -- as many pages
  repaged : (page_count : ℕ) → page_count ≡ pages.pages → IsWhole heap.objects heap.blocks s pages.pages → IsWhole heap.objects heap.blocks s page_count
  repaged page_count all h = subst (λ n. IsWhole heap.objects heap.blocks s n) (sym all) h

  -- other marks and pages, while no cycle is open
  pub world_remarked : (condemned : Set) (other : Marking) (others : Pages) → others.pages ≡ pages.pages → IsWorld heap s marker pages cycle → IsWorld (record heap { condemned = condemned }) s other others false
  unfolding IsWorld
  world_remarked condemned other others all h = (repaged others.pages all h.0, λ on. absurd (true≢false (sym on)))

  -- marks begun anew after a sweep, in an open cycle or outside one
  pub world_anew : (other : Marking) (others : Pages) (opens : Bool) → others.pages ≡ pages.pages → other.scanned ≡ sets.empty → other.scans ≡ 0 → IsWorld heap s marker pages cycle → IsWorld (record heap { condemned = sets.empty }) s other others opens
  unfolding IsWorld
  world_anew other others opens all none zero_ h = (
    repaged others.pages all h.0,
    λ on. record {
      clean = λ a scanned. absurd (true≢false (sym scanned ∙ ap (λ s. sets.contains s a) none ∙ sets.contains-empty nat_cmp a));
      once = omega (arith, zero_);
      none_condemned = refl;
    },
  )

  -- marks come, and what is scanned has marked children
  pub world_stepped : (new : Marking) → IsWithin marker.marked new.marked → ((a : ℕ) → IsTrue (is_newly_in marker.scanned new.scanned a) → HasChildrenIn heap.objects new.marked a) → IsWithin marker.scanned new.scanned → new.scans ≤ marker.scans + readable_count heap.objects (is_newly_in marker.scanned new.scanned) → IsWorld heap s marker pages cycle → IsWorld heap s new pages cycle
  unfolding IsWorld
  world_stepped new kept closed still each_once h = (
    h.0,
    λ on. record {
      clean = λ a scanned off. at a scanned off ((h.1 on).clean a) (sets.contains marker.scanned a) refl;
      once = let was = (h.1 on).once in let more = readable_more heap.objects marker.scanned new.scanned still in omega (arith, was, more, each_once);
      none_condemned = (h.1 on).none_condemned;
    },
  )
    where
      at : (a : ℕ) → IsTrue (sets.contains new.scanned a) → IsFalse (is_on_noted heap.objects pages.noted a) → (IsTrue (sets.contains marker.scanned a) → IsFalse (is_on_noted heap.objects pages.noted a) → HasChildrenIn heap.objects marker.marked a) → (b : Bool) → sets.contains marker.scanned a ≡ b → HasChildrenIn heap.objects new.marked a
      at a scanned off was true before = λ b child. kept b (was before off b child)
      at a scanned off was false before = closed a (ap (λ t. t && not (sets.contains marker.scanned a)) scanned ∙ ap not before)

  -- in an open cycle, one more noted page
  pub world_noted : (page : ℕ) → IsWorld heap s marker pages cycle → IsWorld heap s marker (record pages { noted = with_in_cycle cycle pages.noted page }) cycle
  unfolding IsWorld
  world_noted page h = (
    h.0,
    λ on. record {
      clean = subst (λ b. CleanAreClosed heap.objects marker (with_in_cycle b pages.noted page)) (sym on) (note_keeps heap.objects marker pages.noted page (h.1 on).clean);
      once = (h.1 on).once;
      none_condemned = (h.1 on).none_condemned;
    },
  )

  noted_now : (page : ℕ) → IsTrue cycle → IsTrue (sets.contains (with_in_cycle cycle pages.noted page) page)
  noted_now page on = subst (λ b. IsTrue (sets.contains (with_in_cycle b pages.noted page) page)) (sym on) (now_in pages.noted page)

  pub world_written : (place value : ℕ) → IsWorld heap s marker pages cycle → IsWorld (record heap { objects = written place value heap.objects }) s marker (record pages { noted = with_in_cycle cycle pages.noted (block_of place) }) cycle
  unfolding IsWorld
  world_written place value h = (
    record {
      sound = sound_written heap.objects s.registrations s.next_number s.queue s.held place value h.0.sound;
      pages_are = h.0.pages_are;
      plain = h.0.plain;
    },
    λ on. record {
      clean = store_keeps heap.objects marker (with_in_cycle cycle pages.noted (block_of place)) place value (noted_now (block_of place) on) ((world_noted (block_of place) h).1 on).clean;
      once = let was = (h.1 on).once in let same = readable_written heap.objects place value (sets.contains marker.scanned) in omega (arith, was, same);
      none_condemned = (h.1 on).none_condemned;
    },
  )

  pub world_made : (size : ℕ) (kind : ObjKind) (a : ℕ) → first_cause (alloc_causes heap.objects heap.blocks heap.next_birth size kind) ≡ None → place_for heap.objects heap.blocks size kind ≡ Some a
      → IsWorld heap s marker pages cycle → IsWorld (record heap { objects = map.insert heap.objects a (new_object kind heap.next_birth size); condemned = swept heap.condemned (block_of a) (blocks_for size); next_birth = heap.next_birth + 1 }) s (record marker { marked = with_in_cycle cycle marker.marked a }) (record pages { noted = with_in_cycle cycle pages.noted (block_of a) }) cycle
  unfolding IsWorld
  world_made size kind a none place h = (
    record {
      sound = sound_made heap.objects s.registrations s.next_number s.queue s.held heap.blocks heap.next_birth heap.next_birth size kind a none place h.0.sound;
      pages_are = h.0.pages_are;
      plain = h.0.plain;
    },
    λ on. record {
      clean =
          let noted = with_in_cycle cycle pages.noted (block_of a) in
          subst (λ b. CleanAreClosed (map.insert heap.objects a (new_object kind heap.next_birth size)) (record marker { marked = with_in_cycle b marker.marked a }) noted) (sym on)
          (alloc_keeps heap.objects marker noted a (new_object kind heap.next_birth size) (noted_now (block_of a) on) (free_place heap.objects heap.blocks size a kind place) sized ((world_noted (block_of a) h).1 on).clean);
      once = let was = (h.1 on).once in let more = readable_made heap.objects a (new_object kind heap.next_birth size) (sets.contains marker.scanned) (free_place heap.objects heap.blocks size a kind place) in omega (arith, was, more);
      none_condemned = still_swept heap.condemned (block_of a) (blocks_for size) (h.1 on).none_condemned;
    },
  )
    where
      sized : 0 < length {A = ℕ} (replicate size 0)
      sized =
          let good = (none_stands (alloc_causes heap.objects heap.blocks heap.next_birth size kind) none).0 in
          let least : 1 ≤ size = leb-true 1 size (and_parts (nat_le 1 size) (nat_le size MAX_OBJECT_WORDS) (not-false (nat_le 1 size && nat_le size MAX_OBJECT_WORDS) good)).0 in
          let n : length {A = ℕ} (replicate size 0) ≡ size = length-replicate {A = ℕ} size 0 in
          omega (arith, least, n)

  -- other parts of the finalizers, with the same registrations and entries
  pub world_same : (t : State) → t.registrations ≡ s.registrations → t.next_number ≡ s.next_number → t.queue ≡ s.queue → t.held ≡ s.held → IsPlain t → IsWorld heap s marker pages cycle → IsWorld heap t marker pages cycle
  unfolding IsWorld
  world_same t registrations next_number queue held plain h = (
    record {
      sound =
          let Sound = λ (m : Map Registration) (n : ℕ) (q es : List Entry). AreSound heap.objects m n q es in
          let now : Sound t.registrations t.next_number t.queue t.held = rw registrations (rw next_number (rw queue (rw held h.0.sound))) in
          now;
      pages_are = h.0.pages_are;
      plain = plain;
    },
    h.1,
  )

  pub world_linked : (kind : LinkKind) (links : Map ℕ) → IsWorld heap s marker pages cycle → IsWorld heap (with_links s kind links) marker pages cycle
  world_linked Short links h = let plain = world_plain h in world_same (with_links s Short links) refl refl refl refl (record { none = plain.none; taken = plain.taken }) h
  world_linked Long links h = let plain = world_plain h in world_same (with_links s Long links) refl refl refl refl (record { none = plain.none; taken = plain.taken }) h

  pub world_removed : (object : ℕ) → IsWorld heap s marker pages cycle → IsWorld heap (record s { registrations = map.remove s.registrations object }) marker pages cycle
  unfolding IsWorld
  world_removed object h = (
    record {
      sound = sound_removed heap.objects s.registrations s.next_number s.queue s.held object h.0.sound;
      pages_are = h.0.pages_are;
      plain = record { none = h.0.plain.none; taken = h.0.plain.taken };
    },
    h.1,
  )

  pub world_registered : (object : ℕ) (finalizer : Finalizer) → first_cause (start_causes heap.objects object) ≡ None
      → IsWorld heap s marker pages cycle → IsWorld heap (record s { registrations = map.insert s.registrations object (registration_of s.next_number finalizer); next_number = s.next_number + 1 }) marker pages cycle
  unfolding IsWorld
  world_registered object finalizer none h = (
    record {
      sound = sound_registered heap.objects s.registrations s.next_number s.queue s.held object finalizer none h.0.sound;
      pages_are = h.0.pages_are;
      plain = record { none = h.0.plain.none; taken = h.0.plain.taken };
    },
    h.1,
  )

  pub world_finished : (keep : Entry → Bool) → IsWorld heap s marker pages cycle → IsWorld heap (record s { held = filter keep s.held }) marker pages cycle
  unfolding IsWorld
  world_finished keep h = (
    record {
      sound = sound_filtered heap.objects s.registrations s.next_number s.queue s.held keep h.0.sound;
      pages_are = h.0.pages_are;
      plain = record { none = h.0.plain.none; taken = h.0.plain.taken };
    },
    h.1,
  )

-- ---- a pass

module _ (c : Core) (found : ℕ → Bool) (passed : Passed) (new : Core) (p : Passes c found passed new) (reachable : (a : ℕ) → IsReachable c a → IsTrue (found a)) where
  pub world_passed : (heap after : Contents) (s left : State) (marker other : Marking) (pages : Pages) → c.objects ≡ heap.objects → c.registrations ≡ s.registrations → c.next_number ≡ s.next_number → c.queue ≡ s.queue → c.held ≡ s.held
      → new.objects ≡ after.objects → new.registrations ≡ left.registrations → new.next_number ≡ left.next_number → new.queue ≡ left.queue → new.held ≡ left.held → after.blocks ≡ heap.blocks → IsPlain left
      → IsWorld heap s marker pages false → IsWorld after left other pages false
  unfolding IsWorld
  world_passed heap after s left marker other pages o1 o2 o3 o4 o5 n1 n2 n3 n4 n5 blocks plain h = (
    record {
      sound =
          let Sound = λ (objects : Map Object) (registrations : Map Registration) (next : ℕ) (queue held : List Entry). AreSound objects registrations next queue held in
          let before : Sound c.objects c.registrations c.next_number c.queue c.held = rw (o1, o2, o3, o4, o5) h.0.sound in
          let after_ : Sound new.objects new.registrations new.next_number new.queue new.held = sound_passed c found passed new reachable p before in
          rw (← n1, ← n2, ← n3, ← n4, ← n5) after_;
      pages_are = h.0.pages_are ∙ sym blocks;
      plain = plain;
    },
    λ on. absurd (true≢false (sym on)),
  )
