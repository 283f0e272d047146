-- Walks from a place on.
use Rattle.std.proofs.Common.{◌≡◌, ◌≢◌, ◌<◌, ◌≤◌, ◌-◌, ℕ, zero, suc, min, nat_eq, List, drop, map, take, length, Option, Some, None, refl, sym, ap, subst, ◌∙◌, inl, inr, arith}
use Rattle.std.proofs.lemmas.List.{drop-map, length-drop, length-map}
use Rattle.std.specs.FinMap.{from_entries}
use Rattle.std.specs.List.{IsDistinct}
use Rattle.std.specs.Map.{keys_of}
use Rattle.fz_model.specs.declared.answers.Registration as answers
use Rattle.fz_model.specs.declared.kinds.LinkKind.{LinkKind}
use Rattle.fz_finalizers.specs.declared.cleanups.Attached.{Attached}
use Rattle.fz_finalizers.specs.declared.kinds.Kind.{Kind}
use Rattle.fz_finalizers.specs.declared.roots.Root.{Root}
use Rattle.fz_model.specs.State.{Map}
use Rattle.fz_finalizers.specs.States.{State, View, kind_at}
use Rattle.fz_finalizers.specs.Walks.{AreCleanups, AreRegistrations, IsRest, YieldsRoots, registrations_in_order, roots_of, somes}
use Rattle.fz_finalizers.proofs.Shown.{rest_place}
use Rattle.fz_machine.specs.declared.refused.Refused.{Refused}
use Rattle.fz_machine.specs.Machines.{Machine}
use Rattle.fz_c.specs.declared.machine.codes.TheConstants.{OK, EMPTY}
use Rattle.fz_c.specs.declared.machine.shown.TheConstants.{WORDS}
use Rattle.fz_c.specs.declared.machine.shown.RegistrationAt.{RegistrationAt}
use Rattle.fz_c.specs.declared.machine.shown.Words.{Words}
use Rattle.fz_c.specs.declared.machine.walks.TheConstants.{PART}
use Rattle.fz_c.specs.declared.machine.walks.Cleanups.{Cleanups}
use Rattle.fz_c.specs.declared.machine.walks.Links.{Links}
use Rattle.fz_c.specs.declared.machine.walks.Registrations.{Registrations}
use Rattle.fz_c.specs.MachineCodes.{Answers, Behind}
use Rattle.fz_c.specs.MachineShows.{AreEntries, ShowsCleanups, ShowsFrom, ShowsRegistrations, ShowsRoots, ShowsTable, cleanup_told, kind_number, link_told, registration_told}

-- what a walk of the finalizers behind the handle yields is their list
rooted : (r root : Root) (w v : View) (words : List (Option ℕ)) → r ≡ root → w ≡ v → YieldsRoots r w.state (somes words) → words ≡ roots_of r w → YieldsRoots root v.state (somes (roots_of root v)) × (words ≡ roots_of root v)
rooted r root w v words is same yields listed =
    let all = listed ∙ (λ i. roots_of (is i) (same i)) in
    (subst (λ ws. YieldsRoots root v.state (somes ws)) all (subst (λ (u : View). YieldsRoots root u.state (somes words)) same (subst (λ (q : Root). YieldsRoots q w.state (somes words)) is yields)), all)

-- a part of a list that was filled from a place on
module _ {X Told : Type 0} (room : ℕ) (count : Told → ℕ) (part : Told → List X) (all left : List X) (from n : ℕ) (some_room : 0 < room) (from_there : left ≡ drop from all) (counted : n ≡ min room (length left)) where
  within : n ≡ min room (length (drop from all))
  within = counted ∙ ap (λ (xs : List X). min room (length xs)) from_there

  pub none_left : (old : Told) → n ≡ 0 → ShowsFrom room all count part from EMPTY old old
  none_left old none = let rest = length-drop from all in inl (refl, omega (arith, rest, within, none, some_room), refl)

  pub some_left : (old told : Told) → n ≢ 0 → count told ≡ n → take n (part told) ≡ take n left → ShowsFrom room all count part from OK old told
  some_left old told some is filled =
      let rest = length-drop from all in
      let more : 0 < n = positive n some in
      inr (refl, omega (arith, rest, within, more), is ∙ within, subst (λ k. take k (part told) ≡ take k (drop from all)) (sym is) (filled ∙ ap (take n) from_there))
    where
      positive : (k : ℕ) → k ≢ 0 → 0 < k
      positive zero ne = absurd (ne refl)
      positive (suc k) ne = omega arith

-- a walk over roots as the finalizers behind the handle yield it, of which some words were written
module _ (r root : Root) (w v : View) (words left : List (Option ℕ)) (from most n : ℕ) (is : r ≡ root) (same : w ≡ v) (yields : YieldsRoots r w.state (somes words)) (listed : words ≡ roots_of r w) (from_there : left ≡ drop from words) (counted : n ≡ min (min WORDS most) (length (somes left))) where
  walk : YieldsRoots root v.state (somes (roots_of root v)) × (words ≡ roots_of root v)
  walk = rooted r root w v words is same yields listed

  there : left ≡ drop from (roots_of root v)
  there = from_there ∙ ap (drop from) walk.1

  as_many : n ≡ min (min WORDS most) (length (somes (drop from (roots_of root v))))
  as_many = counted ∙ ap (λ (xs : List (Option ℕ)). min (min WORDS most) (length (somes xs))) there

  pub none_rooted : (old : Words) → n ≡ 0 → ShowsRoots root v from most EMPTY old old
  none_rooted old none = (walk.0, inl (refl, sym as_many ∙ none, refl))

  pub some_rooted : (old told : Words) (after : List (Option ℕ)) → n ≢ 0 → told.count ≡ n → take n told.words ≡ take n (somes left) → somes after ≡ drop n (somes left) → IsRest left after → told.next ≡ length words - length after
      → ShowsRoots root v from most OK old told
  some_rooted old told after some is filled goes_on rest next =
      let all = roots_of root v in
      let at : drop told.next all ≡ after =
      ap (λ k. drop k all) (next ∙ ap (λ (xs : List (Option ℕ)). length xs - length after) walk.1) ∙ rest_place all from after (subst (λ xs. IsRest xs after) there rest) in
      let more : 0 < told.count = subst (λ k. 0 < k) (sym is) (positive n some) in (
        walk.0,
        inr (
          refl,
          more,
          is ∙ as_many,
          subst (λ k. take k told.words ≡ take k (somes (drop from all))) (sym is) (filled ∙ ap (λ (xs : List (Option ℕ)). take n (somes xs)) there),
          ap somes at ∙ goes_on ∙ ap (λ (xs : List (Option ℕ)). drop n (somes xs)) there ∙ ap (λ k. drop k (somes (drop from all))) (sym is),
        ),
      )
    where
      positive : (k : ℕ) → k ≢ 0 → 0 < k
      positive zero ne = absurd (ne refl)
      positive (suc k) ne = omega arith

-- what is told of a registration with the kind that the finalizers show
abbrev with_kind : ℕ → answers.Registration → Option Kind → RegistrationAt
with_kind object r kind = record { object = object; number = r.number; proc = r.proc; cd = r.cd; kind = kind_number kind; rank = r.rank }

pub told_as : (s : State) (object : ℕ) (r : answers.Registration) (kind : Option Kind) (told : RegistrationAt) → told ≡ with_kind object r kind → kind ≡ kind_at s object → told ≡ registration_told s (object, r)
told_as s object r kind told is same = is ∙ ap (with_kind object r) same

-- a walk over registrations as the finalizers behind the handle yield it
module _ (w v : View) (all left : List (ℕ × answers.Registration)) (from n : ℕ) (same : w ≡ v) (are : AreRegistrations w.state all) (listed : all ≡ registrations_in_order w) (from_there : left ≡ drop from all) (counted : n ≡ min PART (length left)) where
  abbrev tell : ℕ × answers.Registration → RegistrationAt
  tell = registration_told w.state

  are_registered : AreRegistrations w.state (registrations_in_order w)
  are_registered = subst (AreRegistrations w.state) listed are

  registered_left : map tell left ≡ drop from (map tell (registrations_in_order w))
  registered_left = ap (map tell) (from_there ∙ ap (drop from) listed) ∙ sym (drop-map tell from (registrations_in_order w))

  registered_count : n ≡ min PART (length (map tell left))
  registered_count = counted ∙ ap (min PART) (sym (length-map left tell))

  pub none_registered : (old : Registrations) → n ≡ 0 → ShowsRegistrations v from EMPTY old old
  none_registered old none =
      subst (λ (u : View). ShowsRegistrations u from EMPTY old old) same
      (are_registered, none_left PART (λ (t : Registrations). t.count) (λ (t : Registrations). t.registrations) (map tell (registrations_in_order w)) (map tell left) from n (omega arith) registered_left registered_count old none)

  pub some_registered : (old told : Registrations) → n ≢ 0 → told.count ≡ n → take n told.registrations ≡ take n (map (registration_told w.state) left) → ShowsRegistrations v from OK old told
  some_registered old told some is filled =
      subst (λ (u : View). ShowsRegistrations u from OK old told) same
      (are_registered, some_left PART (λ (t : Registrations). t.count) (λ (t : Registrations). t.registrations) (map tell (registrations_in_order w)) (map tell left) from n (omega arith) registered_left registered_count old told some is filled)

-- a walk over links or ephemerons as the finalizers behind the handle yield it
module _ (table : View → LinkKind → Map ℕ) (in_order : View → LinkKind → List (ℕ × ℕ)) (k kind : LinkKind) (w v : View) (all left : List (ℕ × ℕ)) (from n : ℕ) (is : k ≡ kind) (same : w ≡ v) (whole : from_entries all ≡ table w k) (once : IsDistinct nat_eq (keys_of all)) (listed : all ≡ in_order w k) (from_there : left ≡ drop from all) (counted : n ≡ min PART (length left)) where
  are_linked : AreEntries (table w k) (in_order w k)
  are_linked = subst (AreEntries (table w k)) listed (whole, once)

  linked_left : map link_told left ≡ drop from (map link_told (in_order w k))
  linked_left = ap (map link_told) (from_there ∙ ap (drop from) listed) ∙ sym (drop-map link_told from (in_order w k))

  linked_count : n ≡ min PART (length (map link_told left))
  linked_count = counted ∙ ap (min PART) (sym (length-map left link_told))

  pub none_linked : (old : Links) → n ≡ 0 → ShowsTable (table v kind) (in_order v kind) from EMPTY old old
  none_linked old none =
      subst (λ (u : View). ShowsTable (table u kind) (in_order u kind) from EMPTY old old) same
      (subst (λ (q : LinkKind). ShowsTable (table w q) (in_order w q) from EMPTY old old) is (are_linked, none_left PART (λ (t : Links). t.count) (λ (t : Links). t.links) (map link_told (in_order w k)) (map link_told left) from n (omega arith) linked_left linked_count old none))

  pub some_linked : (old told : Links) → n ≢ 0 → told.count ≡ n → take n told.links ≡ take n (map link_told left) → ShowsTable (table v kind) (in_order v kind) from OK old told
  some_linked old told some told_count filled =
      subst (λ (u : View). ShowsTable (table u kind) (in_order u kind) from OK old told) same
      (subst (λ (q : LinkKind). ShowsTable (table w q) (in_order w q) from OK old told) is (are_linked, some_left PART (λ (t : Links). t.count) (λ (t : Links). t.links) (map link_told (in_order w k)) (map link_told left) from n (omega arith) linked_left linked_count old told some told_count filled))

-- a walk over cleanups as the finalizers behind the handle yield it
module _ (w v : View) (all left : List (ℕ × Attached)) (from n : ℕ) (same : w ≡ v) (are : AreCleanups w.state all) (listed : all ≡ w.order.cleanups) (from_there : left ≡ drop from all) (counted : n ≡ min PART (length left)) where
  are_cleanups : AreCleanups w.state w.order.cleanups
  are_cleanups = subst (AreCleanups w.state) listed are

  cleanups_left : map cleanup_told left ≡ drop from (map cleanup_told w.order.cleanups)
  cleanups_left = ap (map cleanup_told) (from_there ∙ ap (drop from) listed) ∙ sym (drop-map cleanup_told from w.order.cleanups)

  cleanups_count : n ≡ min PART (length (map cleanup_told left))
  cleanups_count = counted ∙ ap (min PART) (sym (length-map left cleanup_told))

  pub none_cleaned : (old : Cleanups) → n ≡ 0 → ShowsCleanups v from EMPTY old old
  none_cleaned old none =
      subst (λ (u : View). ShowsCleanups u from EMPTY old old) same
      (are_cleanups, none_left PART (λ (t : Cleanups). t.count) (λ (t : Cleanups). t.cleanups) (map cleanup_told w.order.cleanups) (map cleanup_told left) from n (omega arith) cleanups_left cleanups_count old none)

  pub some_cleaned : (old told : Cleanups) → n ≢ 0 → told.count ≡ n → take n told.cleanups ≡ take n (map cleanup_told left) → ShowsCleanups v from OK old told
  some_cleaned old told some is filled =
      subst (λ (u : View). ShowsCleanups u from OK old told) same
      (are_cleanups, some_left PART (λ (t : Cleanups). t.count) (λ (t : Cleanups). t.cleanups) (map cleanup_told w.order.cleanups) (map cleanup_told left) from n (omega arith) cleanups_left cleanups_count old told some is filled)

-- no more places are left behind a part of a walk than there are
pub rest_short : (all left after : List (Option ℕ)) (from : ℕ) → left ≡ drop from all → IsRest left after → length after ≤ length all
rest_short all left after from is rest =
    let one = ap length is ∙ length-drop from all in
    let size = ap length rest ∙ length-drop (length left - length after) left in
    omega (arith, one, size)

-- what a call does to the finalizers behind a handle
pub changed : (old new : Option Machine) (m n : Machine) (code : ℕ) (Kept : Type 0) (does : Machine → Machine → Type 0) → old ≡ Some m → new ≡ Some n → does m n → Behind old new code Kept does
changed old new m n code Kept does was is h = subst (λ (o : Option Machine). Behind o new code Kept does) (sym was) (subst (λ (o : Option Machine). Behind (Some m) o code Kept does) (sym is) h)

-- nothing changes behind a handle
pub behind : (old new : Option Machine) (m : Machine) (code : ℕ) (Kept : Type 0) (does : Machine → Machine → Type 0) → old ≡ Some m → new ≡ Some m → does m m → Behind old new code Kept does
behind old new m = changed old new m m

-- a call that is accepted
pub accepted : (cause : Option Refused) (done refused : Type 0) → cause ≡ None → done → Answers cause OK done refused
accepted cause done refused none h = subst (λ (o : Option Refused). Answers o OK done refused) (sym none) (refl, h)
