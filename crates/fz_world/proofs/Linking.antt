-- Links of one kind come, go and are moved; everything else of a world stays.
use Rattle.std.proofs.Common.{◌≡◌, ◌⊎◌, ◌++◌, ℕ, Bool, true, List, [], ◌∷◌, if◌then◌else◌, Option, Some, None, Result, Ok, Err, IsTrue, refl, sym, ap, subst, ◌∙◌}
use Rattle.std.specs.FinMap.{contains_key, insert}
use Rattle.fz_model.specs.declared.answers.LinkAnswer.{LinkAnswer}
use Rattle.fz_model.specs.declared.call.Call.TheVariants.{Link}
use Rattle.fz_model.specs.declared.refusal.Refusal.{Refusal}
use Rattle.fz_model.specs.declared.refusal.Refusal.TheVariants.{NoMemory}
use Rattle.fz_model.specs.Causes.{IsJudgedOrLacks, first_cause, full, slot_causes}
use Rattle.fz_model.specs.Memory.{slot_word, address_of}
use Rattle.fz_model.specs.Places.{slot_at, place_at}
use Rattle.fz_model.specs.declared.kinds.LinkKind.{LinkKind}
use Rattle.fz_model.specs.declared.kinds.LinkKind.TheVariants.{Short, Long}
use Rattle.fz_model.specs.Events as model
use Rattle.fz_model.specs.State.{Map}
use Rattle.fz_model.specs.Steps as steps
use Rattle.fz_heap.specs.Contents.{Contents}
use Rattle.fz_dirty.specs.Pages.{Pages}
use Rattle.fz_marker.specs.Marking.{Marking}
use Rattle.fz_finalizers.specs.States.{State, View, Memory, links_of, with_links}
use Rattle.fz_world.specs.Does.{Does}
use Rattle.fz_world.specs.Links.{LinksTo, end_causes}
use Rattle.fz_world.specs.World.{WorldView, IsWorld, HasNumber, HaveTargets, core_of, view_of}
use Rattle.fz_world.specs.declared.world.World.TheInside.{Inside}
use Rattle.fz_world.proofs.Does.{does_accepted, does_refused, link_judged}
use Rattle.fz_world.proofs.Inside.{core_inside}
use Rattle.fz_world.proofs.Whole.{world_linked}

module _ (heap : Contents) (marker : Marking) (pages : Pages) (cycle : Bool) where
  -- a world's invariant, but for what its finalizers have in memory
  abbrev pub IsKept : State → Type 0
  IsKept s = IsWorld heap s marker pages cycle × HasNumber s.passes cycle × HaveTargets heap.objects s.short × HaveTargets heap.objects s.long

  pub targets_of : (s : State) (which : LinkKind) → IsKept s → HaveTargets heap.objects (links_of s which)
  targets_of s Short h = h.2
  targets_of s Long h = h.3

  pub relinked : (s new : State) (which : LinkKind) (links : Map ℕ) → new ≡ with_links s which links → HaveTargets heap.objects links → IsKept s → IsKept new
  relinked s new which links is targets h = subst IsKept (sym is) (by which)
    where
      by : (k : LinkKind) → IsKept (with_links s k links)
      by Short = (world_linked heap s marker pages cycle Short links h.0, h.1, targets, h.3)
      by Long = (world_linked heap s marker pages cycle Long links h.0, h.1, h.2, targets)

module _ (heap : Contents) (frames : List (List ℕ)) (closed cycle : Bool) where
  pub links_in_core : (s : State) (which : LinkKind) → links_of s which ≡ model.links_of (core_of heap frames s closed cycle) which
  links_in_core s Short = refl
  links_in_core s Long = refl

  pub core_relinked : (s new : State) (which : LinkKind) (links : Map ℕ) → new ≡ with_links s which links → core_of heap frames new closed cycle ≡ steps.with_links (core_of heap frames s closed cycle) which links
  core_relinked s new which links is = ap (λ (t : State). core_of heap frames t closed cycle) is ∙ by which
    where
      by : (k : LinkKind) → core_of heap frames (with_links s k links) closed cycle ≡ steps.with_links (core_of heap frames s closed cycle) k links
      by Short = refl
      by Long = refl

with_same : (s : State) (which : LinkKind) → with_links s which (links_of s which) ≡ s
with_same s Short = refl
with_same s Long = refl

-- a word is linked, or the call is refused
module _ (w : Inside) (which : LinkKind) (frame slot offset target_frame target_slot : ℕ) (mid new : View) (roomier : mid.state ≡ w.finalizers.state) (kept : new.memory ≡ w.finalizers.memory)
    (ends : first_cause (slot_causes w.frames (slot_at frame slot) ++ (slot_causes w.frames (slot_at target_frame target_slot) ++ end_causes w.marked.heap.objects (slot_word w.frames (slot_at frame slot)) offset (slot_word w.frames (slot_at target_frame target_slot)))) ≡ None)
    (word target : ℕ) (word_is : word ≡ address_of w.frames (place_at frame slot offset)) (target_is : target ≡ slot_word w.frames (slot_at target_frame target_slot)) (same : new.state ≡ with_links mid.state which (links_of new.state which)) where
  abbrev event : model.Event
  event = model.Make (Link which (place_at frame slot offset) (slot_at target_frame target_slot))

  abbrev at : ℕ
  at = address_of w.frames (place_at frame slot offset)

  abbrev before : WorldView
  before = view_of (core_inside w) w.marked.marker w.dirty w.finalizers.memory

  abbrev after : WorldView
  after = view_of (core_of w.marked.heap w.frames new.state w.closed w.cycle) w.marked.marker w.dirty new.memory

  old_links : links_of mid.state which ≡ model.links_of (core_inside w) which
  old_links = ap (λ (s : State). links_of s which) roomier ∙ links_in_core w.marked.heap w.frames w.closed w.cycle w.finalizers.state which

  judged_as : first_cause (full (links_of mid.state which) word ∷ []) ≡ first_cause (model.causes (core_inside w) event)
  judged_as = (λ i. first_cause (full (old_links i) (word_is i) ∷ [])) ∙ sym (link_judged (core_inside w) which frame slot offset target_frame target_slot ends)

  pub links_does : (result : Result LinkAnswer Refusal) → LinksTo (links_of mid.state which) word target result (links_of new.state which) → Does before event result after × IsJudgedOrLacks (model.causes (core_inside w) event) result
  links_does (Err r) l =
      let refused : steps.IsRefusedAs (core_inside w) event r = subst (λ (o : Option Refusal). (o ≡ Some r) ⊎ ((o ≡ None) × (r ≡ NoMemory) × IsTrue true)) judged_as l.judged in
      let still : new.state ≡ w.finalizers.state = same ∙ ap (λ (m : Map ℕ). with_links mid.state which m) l.unchanged ∙ with_same mid.state which ∙ roomier in
      (does_refused before after event r refused (λ i. view_of (core_of w.marked.heap w.frames (still i) w.closed w.cycle) w.marked.marker w.dirty (kept i)), refused)
  links_does (Ok answer) l =
      let none : first_cause (model.causes (core_inside w) event) ≡ None = sym judged_as ∙ l.judged in
      let told : answer ≡ (if contains_key (model.links_of (core_inside w) which) at then LinkAnswer.Duplicate else LinkAnswer.Success) =
      l.answer ∙ (λ i. if contains_key (old_links i) (word_is i) then LinkAnswer.Duplicate else LinkAnswer.Success) in
      let linked : after.core ≡ steps.with_links (core_inside w) which (insert (model.links_of (core_inside w) which) at (slot_word w.frames (slot_at target_frame target_slot))) =
      core_relinked w.marked.heap w.frames w.closed w.cycle w.finalizers.state new.state which (links_of new.state which) (same ∙ ap (λ (s : State). with_links s which (links_of new.state which)) roomier)
      ∙ ap (λ (m : Map ℕ). steps.with_links (core_inside w) which m) (l.linked ∙ (λ i. insert (old_links i) (word_is i) (target_is i))) in
      (does_accepted before after event answer refl tt none (told, linked) refl refl (ap (λ (m : Memory). m.forgotten) kept), none)
