-- What events do to links, and to the numbers of passes.
use Rattle.std.proofs.Common.{◌≡◌, ◌≢◌, ℕ, ◌+◌, ◌⊎◌, inl, inr, List, [], ◌∷◌, ◌++◌, append-nil, length, map, Option, None, Some, is_some, if◌then◌else◌, slice_get, refl, sym, ap, subst, ◌∙◌, arith}
use Rattle.std.proofs.lemmas.Option.{none-some}
use Rattle.std.specs.Option.{option_map_or}
use Rattle.std.specs.FinMap.{get, insert, remove}
use Rattle.fz_model.specs.declared.answers.Registration.{Registration}
use Rattle.fz_model.specs.declared.kinds.LinkKind.{LinkKind}
use Rattle.fz_model.specs.declared.kinds.LinkKind.TheVariants.{Short, Long}
use Rattle.fz_model.specs.Pass.{entries_of}
use Rattle.fz_model.specs.State.{Map}
use Rattle.fz_model.specs.Steps.{moved_to}
use Rattle.fz_model.proofs.Lists.{slice_get-right}
use Rattle.fz_model.proofs.Maps.{get-insert_same, get-insert_other, get-remove_same, get-remove_other}
use Rattle.fz_model.specs.declared.answers.Pick.{Pick}
use Rattle.fz_finalizers.specs.declared.cleanups.Attached.{Attached}
use Rattle.fz_finalizers.specs.Cleanups.{pick_of}
use Rattle.fz_finalizers.specs.States.{State, links_of, with_links}
use Rattle.fz_finalizers.specs.Follows.{Event, Follows, Queues, next_pass, queued_one, queued_object, queued_attached, queued_cleanup, Register, Unregister, Link, Unlink, Move, Ephemeron, EndEphemeron, MoveEphemeron, AddCleanup, Cancel, Clean, Pass, Begin, Queue, QueueCleanup, QueueAll, Take, TakeFinished, TakeAll, Finish}
use Rattle.fz_finalizers.specs.Laws.{SameLinks, SameLinksBut, ChangesLinks, IsNextPass, AddsOfPass, NumbersPasses}
use Rattle.fz_finalizers.proofs.OneQueued.{queued_queues}
use Rattle.fz_finalizers.proofs.Recorded.{entry_has}

-- ---- links

same_links : (old new : State) → new.short ≡ old.short → new.long ≡ old.long → SameLinks old new
same_links old new short long Short word _ = ap (λ (m : Map ℕ). get m word) short
same_links old new short long Long word _ = ap (λ (m : Map ℕ). get m word) long

put : (s : State) (kind : LinkKind) (word target : ℕ) → ChangesLinks s (Link kind word target) (with_links s kind (insert (links_of s kind) word target))
put s Short word target = (get-insert_same s.short word target, others)
  where
    others : SameLinksBut (λ k w. (k ≡ Short) × (w ≡ word)) s (with_links s Short (insert s.short word target))
    others Short w other = get-insert_other s.short word target w (λ same. other (refl, same))
    others Long w other = refl
put s Long word target = (get-insert_same s.long word target, others)
  where
    others : SameLinksBut (λ k w. (k ≡ Long) × (w ≡ word)) s (with_links s Long (insert s.long word target))
    others Short w other = refl
    others Long w other = get-insert_other s.long word target w (λ same. other (refl, same))

cut : (s : State) (kind : LinkKind) (word : ℕ) → ChangesLinks s (Unlink kind word) (with_links s kind (remove (links_of s kind) word))
cut s Short word = (get-remove_same s.short word, others)
  where
    others : SameLinksBut (λ k w. (k ≡ Short) × (w ≡ word)) s (with_links s Short (remove s.short word))
    others Short w other = get-remove_other s.short word w (λ same. other (refl, same))
    others Long w other = refl
cut s Long word = (get-remove_same s.long word, others)
  where
    others : SameLinksBut (λ k w. (k ≡ Long) × (w ≡ word)) s (with_links s Long (remove s.long word))
    others Short w other = refl
    others Long w other = get-remove_other s.long word w (λ same. other (refl, same))

-- a move of a link in a table
pub moves : (links : Map ℕ) (word to target : ℕ) → get links word ≡ Some target → get links to ≡ None → moved_to links word to (get links word) ≡ insert (remove links word) to target
moves links word to target here free =
    ap (moved_to links word to) here ∙ ap (λ (o : Option ℕ). if is_some o then links else insert (remove links word) to target) free

pub stays_without : (links : Map ℕ) (word to : ℕ) → get links word ≡ None → moved_to links word to (get links word) ≡ links
stays_without links word to none = ap (moved_to links word to) none

stays_before : (links : Map ℕ) (word to target : ℕ) → get links to ≡ Some target → moved_to links word to (get links word) ≡ links
stays_before links word to target here = by (get links word)
  where
    by : (o : Option ℕ) → moved_to links word to o ≡ links
    by None = refl
    by (Some x) = ap (λ (o : Option ℕ). if is_some o then links else insert (remove links word) to x) here

abbrev IsMoved : State → LinkKind → ℕ → ℕ → ℕ → State → Type 0
IsMoved s kind word to target new =
    (get (links_of new kind) to ≡ Some target) × (get (links_of new kind) word ≡ None) × SameLinksBut (λ k w. (k ≡ kind) × ((w ≡ word) ⊎ (w ≡ to))) s new

placed : (s : State) (kind : LinkKind) (word to target : ℕ) → word ≢ to → IsMoved s kind word to target (with_links s kind (insert (remove (links_of s kind) word) to target))
placed s Short word to target apart =
    (get-insert_same (remove s.short word) to target, get-insert_other (remove s.short word) to target word apart ∙ get-remove_same s.short word, others)
  where
    others : SameLinksBut (λ k w. (k ≡ Short) × ((w ≡ word) ⊎ (w ≡ to))) s (with_links s Short (insert (remove s.short word) to target))
    others Short w other = get-insert_other (remove s.short word) to target w (λ same. other (refl, inr same)) ∙ get-remove_other s.short word w (λ same. other (refl, inl same))
    others Long w other = refl
placed s Long word to target apart =
    (get-insert_same (remove s.long word) to target, get-insert_other (remove s.long word) to target word apart ∙ get-remove_same s.long word, others)
  where
    others : SameLinksBut (λ k w. (k ≡ Long) × ((w ≡ word) ⊎ (w ≡ to))) s (with_links s Long (insert (remove s.long word) to target))
    others Short w other = refl
    others Long w other = get-insert_other (remove s.long word) to target w (λ same. other (refl, inr same)) ∙ get-remove_other s.long word w (λ same. other (refl, inl same))

unmoved : (s : State) (kind : LinkKind) → SameLinks s (with_links s kind (links_of s kind))
unmoved s Short = same_links s (with_links s Short s.short) refl refl
unmoved s Long = same_links s (with_links s Long s.long) refl refl

moved : (s : State) (kind : LinkKind) (word to : ℕ) → ChangesLinks s (Move kind word to) (with_links s kind (moved_to (links_of s kind) word to (get (links_of s kind) word)))
moved s kind word to = (
  λ target here free.
      let apart : word ≢ to = λ same. none-some target (sym free ∙ ap (get (links_of s kind)) (sym same) ∙ here) in
      subst (λ (m : Map ℕ). IsMoved s kind word to target (with_links s kind m)) (sym (moves (links_of s kind) word to target here free)) (placed s kind word to target apart),
  λ none. subst (λ (m : Map ℕ). SameLinks s (with_links s kind m)) (sym (stays_without (links_of s kind) word to none)) (unmoved s kind),
  λ target here. subst (λ (m : Map ℕ). SameLinks s (with_links s kind m)) (sym (stays_before (links_of s kind) word to target here)) (unmoved s kind),
)

-- a registration that is queued by itself leaves links and passes
module _ (s : State) (object : ℕ) where
  queued_by : (P : State → Type 0) → P s → ((r : Registration) → P (queued_one s object r)) → (o : Option Registration) → P (option_map_or (queued_one s object) o s)
  queued_by P none some None = none
  queued_by P none some (Some r) = some r

  queued_short : (queued_object s object).short ≡ s.short
  queued_short = queued_by (λ t. t.short ≡ s.short) refl (λ r. refl) (get s.registrations object)

  queued_long : (queued_object s object).long ≡ s.long
  queued_long = queued_by (λ t. t.long ≡ s.long) refl (λ r. refl) (get s.registrations object)

  queued_passes : (queued_object s object).passes ≡ s.passes
  queued_passes = queued_by (λ t. t.passes ≡ s.passes) refl (λ r. refl) (get s.registrations object)

-- and so does a cleanup
cleaned_by : (s : State) (number : ℕ) (P : State → Type 0) → P s → ((c : Attached) → P (queued_attached s number c)) → P (queued_cleanup s number)
cleaned_by s number P none some = by (get s.cleanups number)
  where
    by : (o : Option Attached) → P (option_map_or (queued_attached s number) o s)
    by None = none
    by (Some c) = some c

unlinked : (old new made : State) → new ≡ made → made.short ≡ old.short → made.long ≡ old.long → SameLinks old new
unlinked old new made is short long = same_links old new (ap (λ (s : State). s.short) is ∙ short) (ap (λ (s : State). s.long) is ∙ long)

pub changes_links : (old new : State) (event : Event) → Follows old event new → ChangesLinks old event new
changes_links old new (Register object finalizer) does = unlinked old new _ does refl refl
changes_links old new (Unregister object) does = unlinked old new _ does refl refl
changes_links old new (Link kind word target) does = subst (ChangesLinks old (Link kind word target)) (sym does) (put old kind word target)
changes_links old new (Unlink kind word) does = subst (ChangesLinks old (Unlink kind word)) (sym does) (cut old kind word)
changes_links old new (Move kind word to) does = subst (ChangesLinks old (Move kind word to)) (sym does) (moved old kind word to)
changes_links old new (Ephemeron kind word key) does = unlinked old new _ does refl refl
changes_links old new (EndEphemeron word) does = unlinked old new _ does refl refl
changes_links old new (MoveEphemeron word to) does = unlinked old new _ does refl refl
changes_links old new (AddCleanup object cleanup) does = unlinked old new _ does refl refl
changes_links old new (Cancel number) does = unlinked old new _ does refl refl
changes_links old new (Clean pass is_due) does = unlinked old new _ does.2 refl refl
changes_links old new Pass does = tt
changes_links old new Begin does = unlinked old new _ does refl refl
changes_links old new (Queue object) does = unlinked old new _ does (queued_short old object) (queued_long old object)
changes_links old new (QueueCleanup number) does = unlinked old new _ does (cleaned_by old number (λ t. t.short ≡ old.short) refl (λ c. refl)) (cleaned_by old number (λ t. t.long ≡ old.long) refl (λ c. refl))
changes_links old new QueueAll does = same_links old new does.3 does.4
changes_links old new (Take entry) does = unlinked old new _ does.1 refl refl
changes_links old new (TakeFinished entry) does = unlinked old new _ does.1 refl refl
changes_links old new (TakeAll entries) does = unlinked old new _ does.1 refl refl
changes_links old new (Finish entry) does = unlinked old new _ does.1 refl refl

-- ---- passes

adds_picks : (pass : ℕ) (old new : State) (picks : List Pick) → new.queue ≡ old.queue ++ entries_of pass (length old.queue) picks → AddsOfPass pass old new
adds_picks pass old new picks queued k e at =
    let entries = entries_of pass (length old.queue) picks in
    let here : slice_get entries k ≡ Some e = sym (slice_get-right old.queue entries k) ∙ ap (λ es. slice_get es (length old.queue + k)) (sym queued) ∙ at in
    (entry_has pass (length old.queue) picks k e here).6

adds : (pass : ℕ) (old new : State) → Queues pass old new → AddsOfPass pass old new
adds pass old new queues = adds_picks pass old new queues.picks queues.queue

adds_cleanup : (s : State) (number : ℕ) → AddsOfPass s.passes s (queued_cleanup s number)
adds_cleanup s number = cleaned_by s number (AddsOfPass s.passes s) (adds_picks s.passes s s [] (sym (append-nil s.queue))) (λ c. adds_picks s.passes s (queued_attached s number c) (pick_of (number, c) ∷ []) refl)

next_is : (old new : ℕ) → new ≡ next_pass old → IsNextPass old new
next_is old new is = (λ low. omega (arith, is, low), λ high. omega (arith, is, high))

kept : (old new made : State) → new ≡ made → made.passes ≡ old.passes → made.queue ≡ old.queue → (new.passes ≡ old.passes) × (new.queue ≡ old.queue)
kept old new made is passes queue = (ap (λ (s : State). s.passes) is ∙ passes, ap (λ (s : State). s.queue) is ∙ queue)

linked : (s : State) (kind : LinkKind) (links : Map ℕ) → ((with_links s kind links).passes ≡ s.passes) × ((with_links s kind links).queue ≡ s.queue)
linked s Short links = (refl, refl)
linked s Long links = (refl, refl)

pub numbers_passes : (old new : State) (event : Event) → Follows old event new → NumbersPasses old event new
numbers_passes old new (Register object finalizer) does = kept old new _ does refl refl
numbers_passes old new (Unregister object) does = kept old new _ does refl refl
numbers_passes old new (Link kind word target) does = let same = linked old kind _ in kept old new _ does same.0 same.1
numbers_passes old new (Unlink kind word) does = let same = linked old kind _ in kept old new _ does same.0 same.1
numbers_passes old new (Move kind word to) does = let same = linked old kind _ in kept old new _ does same.0 same.1
numbers_passes old new (Ephemeron kind word key) does = kept old new _ does refl refl
numbers_passes old new (EndEphemeron word) does = kept old new _ does refl refl
numbers_passes old new (MoveEphemeron word to) does = kept old new _ does refl refl
numbers_passes old new (AddCleanup object cleanup) does = kept old new _ does refl refl
numbers_passes old new (Cancel number) does = kept old new _ does refl refl
numbers_passes old new (Clean pass is_due) does = (ap (λ (s : State). s.passes) does.2, adds_picks pass old new (map pick_of does.0) (ap (λ (s : State). s.queue) does.2))
numbers_passes old new Pass does = (next_is old.passes new.passes does.1, λ k e at. adds _ old new does.0 k e at ∙ sym does.1)
numbers_passes old new Begin does = (next_is old.passes new.passes (ap (λ (s : State). s.passes) does), ap (λ (s : State). s.queue) does)
numbers_passes old new (Queue object) does = (ap (λ (s : State). s.passes) does ∙ queued_passes old object, adds old.passes old new (queued_queues old new object does))
numbers_passes old new (QueueCleanup number) does =
    (ap (λ (s : State). s.passes) does ∙ cleaned_by old number (λ t. t.passes ≡ old.passes) refl (λ c. refl), subst (AddsOfPass old.passes old) (sym does) (adds_cleanup old number))
numbers_passes old new QueueAll does = (does.5, adds 0 old new does.0)
numbers_passes old new (Take entry) does = kept old new _ does.1 refl refl
numbers_passes old new (TakeFinished entry) does = kept old new _ does.1 refl refl
numbers_passes old new (TakeAll entries) does = kept old new _ does.1 refl refl
numbers_passes old new (Finish entry) does = kept old new _ does.1 refl refl
