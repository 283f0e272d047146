-- What sweeps are about, as the finalizers change: what goes leaves less of it, and what comes is noted.
use Rattle.std.proofs.Common.{◌≡◌, ◌≢◌, ◌⊎◌, ◌∙◌, ℕ, Bool, true, false, true≢false, cond, IsTrue, List, Option, Some, None, is_some, not, inl, inr, refl, ap, sym, subst, ⊎_elim}
use Rattle.std.proofs.lemmas.Bool.{cases_eq}
use Rattle.std.proofs.lemmas.Option.{none-some, same_Some}
use Rattle.std.specs.FinMap.{contains_key, empty, get, get-empty, insert, remove}
use Rattle.std.specs.Option.{option_map_or}
use Rattle.std.specs.Ordering.{nat_cmp}
use Rattle.fz_model.specs.declared.answers.Registration.{Registration}
use Rattle.fz_model.specs.declared.kinds.LinkKind.{LinkKind}
use Rattle.fz_model.specs.declared.kinds.LinkKind.TheVariants.{Long, Short}
use Rattle.fz_model.specs.State.{Map}
use Rattle.fz_model.specs.Steps.{moved_to}
use Rattle.fz_model.proofs.Maps.{get-insert_other, get-insert_same, get-remove_other, get-remove_same}
use Rattle.fz_model.proofs.Sound.{is_some_of}
use Rattle.fz_finalizers.specs.declared.cleanups.Attached.{Attached}
use Rattle.fz_finalizers.specs.declared.cleanups.Cleanup.{Cleanup}
use Rattle.fz_finalizers.specs.declared.kinds.Finalizer.{Finalizer}
use Rattle.fz_finalizers.specs.Cleanups.{is_when, without}
use Rattle.fz_finalizers.specs.Follows.{queued_attached, queued_cleanup, queued_object, queued_one, with_cleanup, with_registration, without_cleanup, without_registration}
use Rattle.fz_finalizers.specs.Passed.{CleansAll}
use Rattle.fz_finalizers.specs.States.{State, links_of, with_links}
use Rattle.fz_finalizers.proofs.Cleaned.{without_back}
use Rattle.fz_machine.specs.declared.item.Item.{Item}
use Rattle.fz_machine.specs.declared.phase.Phase.{Phase}
use Rattle.fz_machine.specs.declared.phase.Sweep.{Sweep}
use Rattle.fz_machine.specs.declared.phase.Sweep.TheVariants.{ShortCleanups, ShortTargets, Objects, LongTargets, ShortHolders, LongHolders, LongCleanups}
use Rattle.fz_machine.specs.Machines.{Heard, heard_by}
use Rattle.fz_machine.specs.Phases.{after}
use Rattle.fz_machine.specs.Regions.{IsOfSweep, attached, holders, targets}
use Rattle.fz_machine.specs.Steps.{Going, skip, steps}
use Rattle.fz_machine.proofs.Throughout.{heard_keeps, skip_keeps, steps_keep}
use Rattle.fz_machine.proofs.Working.{by_change}

-- ---- maps

-- what is in a map was in another one
abbrev pub IsPart : {X : Type 0} → Map X → Map X → Type 0
IsPart {X} m n = (a : ℕ) (x : X) → get n a ≡ Some x → get m a ≡ Some x

module _ {X : Type 0} where
  pub same_part : (m n : Map X) → n ≡ m → IsPart m n
  same_part m n same a x here = ap (λ (k : Map X). get k a) (sym same) ∙ here

  pub removed_part : (m : Map X) (k : ℕ) → IsPart m (remove m k)
  removed_part m k a x here =
      ⊎_elim
      (λ (is : a ≡ k). absurd (none-some x (sym (ap (get (remove m k)) is ∙ get-remove_same m k) ∙ here)))
      (λ (ne : a ≢ k). sym (get-remove_other m k a ne) ∙ here)
      (cases_eq a k)

  pub empty_part : (m n : Map X) → n ≡ empty → IsPart m n
  empty_part m n none a x here = absurd (none-some x (sym (ap (λ (k : Map X). get k a) none ∙ get-empty nat_cmp a) ∙ here))

  -- one that comes is the new one, or was there
  pub inserted_part : (m : Map X) (k : ℕ) (y : X) (a : ℕ) (x : X) → get (insert m k y) a ≡ Some x → (get m a ≡ Some x) ⊎ ((a ≡ k) × (x ≡ y))
  inserted_part m k y a x here =
      ⊎_elim
      (λ (is : a ≡ k). inr (is, same_Some x y (sym here ∙ ap (get (insert m k y)) is ∙ get-insert_same m k y)))
      (λ (ne : a ≢ k). inl (sym (get-insert_other m k y a ne) ∙ here))
      (cases_eq a k)

  pub has_key : (m : Map X) (a : ℕ) → IsTrue (contains_key m a) → (x : X) × (get m a ≡ Some x)
  has_key m a there = is_some_of (get m a) (ap not there)

-- ---- states

-- a sweep is about no more than before
abbrev pub IsLess : State → State → Type 0
IsLess s t = (sweep : Sweep) (n : ℕ) → IsOfSweep sweep t n → IsOfSweep sweep s n

pub less_same : (s : State) → IsLess s s
less_same s sweep n of = of

pub less_less : (s t u : State) → IsLess s t → IsLess t u → IsLess s u
less_less s t u first second sweep n of = first sweep n (second sweep n of)

-- as the tables say
pub parts_less : (s t : State) → IsPart s.registrations t.registrations → IsPart s.short t.short → IsPart s.long t.long → IsPart s.cleanups t.cleanups → IsLess s t
parts_less s t registrations short long cleanups ShortCleanups n (number, c, here, of_moment, same) = (number, c, cleanups number c here, of_moment, same)
parts_less s t registrations short long cleanups ShortTargets n (word, here) = (word, short word n here)
parts_less s t registrations short long cleanups Objects n there = let r = has_key t.registrations n there in ap is_some (registrations n r.0 r.1)
parts_less s t registrations short long cleanups LongTargets n (word, here) = (word, long word n here)
parts_less s t registrations short long cleanups ShortHolders n there = let r = has_key t.short n there in ap is_some (short n r.0 r.1)
parts_less s t registrations short long cleanups LongHolders n there = let r = has_key t.long n there in ap is_some (long n r.0 r.1)
parts_less s t registrations short long cleanups LongCleanups n (number, c, here, of_moment, same) = (number, c, cleanups number c here, of_moment, same)

-- where the tables are those of before
pub tables_less : (s t : State) → t.registrations ≡ s.registrations → t.short ≡ s.short → t.long ≡ s.long → t.cleanups ≡ s.cleanups → IsLess s t
tables_less s t registrations short long cleanups =
    parts_less s t (same_part s.registrations t.registrations registrations) (same_part s.short t.short short) (same_part s.long t.long long) (same_part s.cleanups t.cleanups cleanups)

pub state_less : (s t : State) → t ≡ s → IsLess s t
state_less s t same = subst (IsLess s) (sym same) (less_same s)

-- ---- what goes

pub unregistered_less : (s : State) (object : ℕ) → IsLess s (without_registration s object)
unregistered_less s object = parts_less s (without_registration s object) (removed_part s.registrations object) (λ a x here. here) (λ a x here. here) (λ a x here. here)

pub cancelled_less : (s : State) (number : ℕ) → IsLess s (without_cleanup s number)
cancelled_less s number = parts_less s (without_cleanup s number) (λ a x here. here) (λ a x here. here) (λ a x here. here) (removed_part s.cleanups number)

short_less : (s : State) (word : ℕ) → IsLess s (record s { short = remove s.short word })
short_less s word = parts_less s (record s { short = remove s.short word }) (λ a x here. here) (removed_part s.short word) (λ a x here. here) (λ a x here. here)

long_less : (s : State) (word : ℕ) → IsLess s (record s { long = remove s.long word })
long_less s word = parts_less s (record s { long = remove s.long word }) (λ a x here. here) (λ a x here. here) (removed_part s.long word) (λ a x here. here)

pub unlinked_less : (s : State) (kind : LinkKind) (word : ℕ) → IsLess s (with_links s kind (remove (links_of s kind) word))
unlinked_less s Short word = short_less s word
unlinked_less s Long word = long_less s word

-- registrations that are all queued
pub emptied_less : (s t : State) → t.registrations ≡ empty → t.short ≡ s.short → t.long ≡ s.long → t.cleanups ≡ s.cleanups → IsLess s t
emptied_less s t none short long cleanups = parts_less s t (empty_part s.registrations t.registrations none) (same_part s.short t.short short) (same_part s.long t.long long) (same_part s.cleanups t.cleanups cleanups)

queued_less : (s : State) (object : ℕ) → IsLess s (queued_object s object)
queued_less s object = by (get s.registrations object)
  where
    by : (o : Option Registration) → IsLess s (option_map_or (queued_one s object) o s)
    by None = less_same s
    by (Some r) = parts_less s (queued_one s object r) (removed_part s.registrations object) (λ a x here. here) (λ a x here. here) (λ a x here. here)

cleaned_less : (s : State) (number : ℕ) → IsLess s (queued_cleanup s number)
cleaned_less s number = by (get s.cleanups number)
  where
    by : (o : Option Attached) → IsLess s (option_map_or (queued_attached s number) o s)
    by None = less_same s
    by (Some c) = parts_less s (queued_attached s number c) (λ a x here. here) (λ a x here. here) (λ a x here. here) (removed_part s.cleanups number)

due_part : (m : Map Attached) (due : List (ℕ × Attached)) → IsPart m (without m due)
due_part m due a x here = (without_back m due a x here).0

pub all_cleaned_less : (s t : State) → CleansAll s t → IsLess s t
all_cleaned_less s t (mid, short, long) =
    less_less s mid t
    (subst (IsLess s) (sym short.2) (parts_less s _ (λ a x here. here) (λ a x here. here) (λ a x here. here) (due_part s.cleanups short.0)))
    (subst (IsLess mid) (sym long.2) (parts_less mid _ (λ a x here. here) (λ a x here. here) (λ a x here. here) (due_part mid.cleanups long.0)))

-- ---- a pass

pub after_less : (phase : Phase) (item : Item) (answer : Bool) (s : State) → IsLess s (after phase item answer s)
after_less = by_change (λ f. (s : State) → IsLess s (f s)) less_same (λ word s. short_less s word) (λ word s. long_less s word) (λ word s. tables_less s _ refl refl refl refl) (λ object s. queued_less s object) (λ number s. cleaned_less s number)

module _ (s : State) (phase : Phase) where
  less_on : (p : Phase) (item : Item) (answer : Bool) (t : State) → IsLess s t → IsLess s (after p item answer t)
  less_on p item answer t less = less_less s t (after p item answer t) less (after_less p item answer t)

  pub skip_less : (g : Going) → IsLess s g.finalizers → IsLess s (skip phase g).finalizers
  skip_less g less = skip_keeps (IsLess s) less_on phase g less

  pub steps_less : (answers : List Bool) (g : Going) → IsLess s g.finalizers → IsLess s (steps phase answers g).finalizers
  steps_less answers g less = steps_keep (IsLess s) less_on phase answers g less

  pub heard_less : (regions : List ℕ) (heard : Heard) (g : Going) → IsLess s g.finalizers → IsLess s (heard_by phase regions heard g).finalizers
  heard_less regions heard g less = heard_keeps (IsLess s) less_on phase regions heard g less

-- ---- what comes

-- an object that is registered
pub registered_more : (s : State) (object : ℕ) (finalizer : Finalizer) (sweep : Sweep) (n : ℕ) → IsOfSweep sweep (with_registration s object finalizer) n → IsOfSweep sweep s n ⊎ ((sweep ≡ Objects) × (n ≡ object))
registered_more s object finalizer Objects n there =
    let r = has_key (with_registration s object finalizer).registrations n there in
    ⊎_elim (λ here. inl (ap is_some here)) (λ new. inr (refl, new.0)) (inserted_part s.registrations object _ n r.0 r.1)
registered_more s object finalizer ShortCleanups n of = inl of
registered_more s object finalizer ShortTargets n of = inl of
registered_more s object finalizer LongTargets n of = inl of
registered_more s object finalizer ShortHolders n of = inl of
registered_more s object finalizer LongHolders n of = inl of
registered_more s object finalizer LongCleanups n of = inl of

-- a target and a word of a link
abbrev pub IsOfLink : LinkKind → ℕ → ℕ → Sweep → ℕ → Type 0
IsOfLink kind word target sweep n = ((sweep ≡ targets kind) × (n ≡ target)) ⊎ ((sweep ≡ holders kind) × (n ≡ word))

linked_target : (m : Map ℕ) (word target n : ℕ) → (w : ℕ) × (get (insert m word target) w ≡ Some n) → ((w : ℕ) × (get m w ≡ Some n)) ⊎ (n ≡ target)
linked_target m word target n (w, here) = ⊎_elim (λ was. inl (w, was)) (λ new. inr new.1) (inserted_part m word target w n here)

linked_word : (m : Map ℕ) (word target n : ℕ) → IsTrue (contains_key (insert m word target) n) → IsTrue (contains_key m n) ⊎ (n ≡ word)
linked_word m word target n there = let t = has_key (insert m word target) n there in ⊎_elim (λ was. inl (ap is_some was)) (λ new. inr new.0) (inserted_part m word target n t.0 t.1)

pub linked_more : (s : State) (kind : LinkKind) (word target : ℕ) (sweep : Sweep) (n : ℕ) → IsOfSweep sweep (with_links s kind (insert (links_of s kind) word target)) n → IsOfSweep sweep s n ⊎ IsOfLink kind word target sweep n
linked_more s Short word target ShortTargets n of = ⊎_elim inl (λ new. inr (inl (refl, new))) (linked_target s.short word target n of)
linked_more s Short word target ShortHolders n of = ⊎_elim inl (λ new. inr (inr (refl, new))) (linked_word s.short word target n of)
linked_more s Short word target ShortCleanups n of = inl of
linked_more s Short word target Objects n of = inl of
linked_more s Short word target LongTargets n of = inl of
linked_more s Short word target LongHolders n of = inl of
linked_more s Short word target LongCleanups n of = inl of
linked_more s Long word target LongTargets n of = ⊎_elim inl (λ new. inr (inl (refl, new))) (linked_target s.long word target n of)
linked_more s Long word target LongHolders n of = ⊎_elim inl (λ new. inr (inr (refl, new))) (linked_word s.long word target n of)
linked_more s Long word target ShortCleanups n of = inl of
linked_more s Long word target ShortTargets n of = inl of
linked_more s Long word target Objects n of = inl of
linked_more s Long word target ShortHolders n of = inl of
linked_more s Long word target LongCleanups n of = inl of

-- a word of a link that moves
moved_target : (m : Map ℕ) (word to n : ℕ) (o : Option ℕ) → get m word ≡ o → (w : ℕ) × (get (moved_to m word to o) w ≡ Some n) → (w : ℕ) × (get m w ≡ Some n)
moved_target m word to n None none of = of
moved_target m word to n (Some target) is of = by (contains_key m to) of
  where
    by : (b : Bool) → (w : ℕ) × (get (cond b m (insert (remove m word) to target)) w ≡ Some n) → (w : ℕ) × (get m w ≡ Some n)
    by true was = was
    by false (w, here) = ⊎_elim (λ was. (w, removed_part m word w n was)) (λ new. (word, is ∙ ap Some (sym new.1))) (inserted_part (remove m word) to target w n here)

moved_word : (m : Map ℕ) (word to n : ℕ) (o : Option ℕ) → IsTrue (contains_key (moved_to m word to o) n) → IsTrue (contains_key m n) ⊎ (n ≡ to)
moved_word m word to n None there = inl there
moved_word m word to n (Some target) there = by (contains_key m to) there
  where
    by : (b : Bool) → IsTrue (contains_key (cond b m (insert (remove m word) to target)) n) → IsTrue (contains_key m n) ⊎ (n ≡ to)
    by true was = inl was
    by false new =
        let t = has_key (insert (remove m word) to target) n new in
        ⊎_elim (λ was. inl (ap is_some (removed_part m word n t.0 was))) (λ is. inr is.0) (inserted_part (remove m word) to target n t.0 t.1)

pub moved_more : (s : State) (kind : LinkKind) (word to : ℕ) (sweep : Sweep) (n : ℕ) → IsOfSweep sweep (with_links s kind (moved_to (links_of s kind) word to (get (links_of s kind) word))) n → IsOfSweep sweep s n ⊎ ((sweep ≡ holders kind) × (n ≡ to))
moved_more s Short word to ShortTargets n of = inl (moved_target s.short word to n (get s.short word) refl of)
moved_more s Short word to ShortHolders n of = ⊎_elim inl (λ new. inr (refl, new)) (moved_word s.short word to n (get s.short word) of)
moved_more s Short word to ShortCleanups n of = inl of
moved_more s Short word to Objects n of = inl of
moved_more s Short word to LongTargets n of = inl of
moved_more s Short word to LongHolders n of = inl of
moved_more s Short word to LongCleanups n of = inl of
moved_more s Long word to LongTargets n of = inl (moved_target s.long word to n (get s.long word) refl of)
moved_more s Long word to LongHolders n of = ⊎_elim inl (λ new. inr (refl, new)) (moved_word s.long word to n (get s.long word) of)
moved_more s Long word to ShortCleanups n of = inl of
moved_more s Long word to ShortTargets n of = inl of
moved_more s Long word to Objects n of = inl of
moved_more s Long word to ShortHolders n of = inl of
moved_more s Long word to LongCleanups n of = inl of

-- an object of a cleanup
added : (m : Map Attached) (number : ℕ) (new : Attached) (when : LinkKind) (n : ℕ) → (k : ℕ) × (c : Attached) × (get (insert m number new) k ≡ Some c) × IsTrue (is_when when c.cleanup.when) × (c.object ≡ n)
    → ((k : ℕ) × (c : Attached) × (get m k ≡ Some c) × IsTrue (is_when when c.cleanup.when) × (c.object ≡ n)) ⊎ (IsTrue (is_when when new.cleanup.when) × (n ≡ new.object))
added m number new when n (k, c, here, of_moment, same) =
    ⊎_elim (λ was. inl (k, c, was, of_moment, same))
    (λ is. inr (subst (λ (x : Attached). IsTrue (is_when when x.cleanup.when)) is.1 of_moment, sym same ∙ ap (λ (x : Attached). x.object) is.1)) (inserted_part m number new k c here)

moment_is : (when : LinkKind) → IsTrue (is_when Short when) → ShortCleanups ≡ attached when
moment_is Short on = refl
moment_is Long on = absurd (true≢false (sym on))

late_moment_is : (when : LinkKind) → IsTrue (is_when Long when) → LongCleanups ≡ attached when
late_moment_is Long on = refl
late_moment_is Short on = absurd (true≢false (sym on))

pub added_more : (s : State) (object : ℕ) (cleanup : Cleanup) (sweep : Sweep) (n : ℕ) → IsOfSweep sweep (with_cleanup s object cleanup) n → IsOfSweep sweep s n ⊎ ((sweep ≡ attached cleanup.when) × (n ≡ object))
added_more s object cleanup ShortCleanups n of = ⊎_elim inl (λ new. inr (moment_is cleanup.when new.0, new.1)) (added s.cleanups s.next_number (record { object = object; cleanup = cleanup }) Short n of)
added_more s object cleanup LongCleanups n of = ⊎_elim inl (λ new. inr (late_moment_is cleanup.when new.0, new.1)) (added s.cleanups s.next_number (record { object = object; cleanup = cleanup }) Long n of)
added_more s object cleanup ShortTargets n of = inl of
added_more s object cleanup Objects n of = inl of
added_more s object cleanup LongTargets n of = inl of
added_more s object cleanup ShortHolders n of = inl of
added_more s object cleanup LongHolders n of = inl of
