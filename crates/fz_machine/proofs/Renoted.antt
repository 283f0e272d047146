-- What the phase behind a sweep lists, and what is noted again meanwhile.
use Rattle.std.proofs.Common.{All, ◌≡◌, ◌≤◌, ◌+◌, ℕ, Bool, true, false, true≢false, cond, is_some, not, ◌&&◌, List, [], ◌∷◌, ◌++◌, filter, map, length, nat_eq, nat_le, Option, Some, None, IsTrue, inl, inr, refl, sym, ap, subst, ◌∙◌, append-nil, arith}
use Rattle.std.proofs.lemmas.List.{length-append, length-map, map-append}
use Rattle.std.proofs.lemmas.List.Elements.{filter-append}
use Rattle.std.proofs.lemmas.Map.Made.{is_some-lookup}
use Rattle.std.specs.FinMap.{get, contains_key, retain_keys}
use Rattle.std.proofs.lemmas.Bool.{and_parts}
use Rattle.fz_model.proofs.Maps.{retained_back}
use Rattle.std.specs.List.{list_any}
use Rattle.std.specs.Map.{keys_of, lookup}
use Rattle.std.specs.Option.{option_map_or}
use Rattle.fz_model.specs.Bits.{has_bit}
use Rattle.fz_model.specs.State.{Map}
use Rattle.fz_model.specs.declared.kinds.LinkKind.{LinkKind}
use Rattle.fz_model.specs.declared.kinds.LinkKind.TheVariants.{Short, Long}
use Rattle.fz_model.proofs.KeyedEntries.{listed}
use Rattle.fz_model.specs.declared.answers.Registration.{Registration}
use Rattle.fz_table.specs.declared.stored.Stored.{Stored}
use Rattle.fz_table.specs.Tabled.{plain}
use Rattle.fz_finalizers.specs.declared.cleanups.Attached.{Attached}
use Rattle.fz_finalizers.specs.Cleanups.{is_when}
use Rattle.fz_finalizers.specs.States.{State, links_of}
use Rattle.fz_machine.specs.declared.item.Item.{Item}
use Rattle.fz_machine.specs.declared.phase.Sweep.{Sweep}
use Rattle.fz_machine.specs.declared.phase.Sweep.TheVariants as sweeps
use Rattle.fz_machine.specs.Items.{AreCleanups, AreEntriesOf, AreLinks, AreObjects, is_listed, link_number, of_cleanup, of_late, of_link, of_other, of_stored}
use Rattle.fz_machine.specs.Phases.{Lists, swept}
use Rattle.fz_machine.specs.Regions.{Regions, IsLooked, IsNoted, IsOfSweep, IsRenoted, IsTold, IsUntold, IsWhole, attached, is_marked, is_unmarked, link_sweep, place_in, region_of}
use Rattle.fz_machine.proofs.Among.{Each, OneOf, each_all, each_as, each_from, each_mapped, each_push, one_from}
use Rattle.fz_machine.proofs.Entered.{stands}

-- ---- a list that is filled from entries

module _ {X : Type 0} (test : X → Bool) (f : X → Item) where
  abbrev pub items_of : List X → List Item
  items_of es = map f (filter test es)

  pub items_more : (es : List X) (e : X) → items_of (es ++ e ∷ []) ≡ cond (test e) (items_of es ++ f e ∷ []) (items_of es)
  items_more es e = ap (map f) (filter-append test es (e ∷ [])) ∙ map-append f (filter test es) (filter test (e ∷ [])) ∙ by (test e)
    where
      by : (b : Bool) → items_of es ++ map f (cond b (e ∷ []) []) ≡ cond b (items_of es ++ f e ∷ []) (items_of es)
      by true = refl
      by false = append-nil (items_of es)

  pub no_items : (es : List X) → Each (λ e. test e ≡ false) es → items_of es ≡ []
  no_items [] h = refl
  no_items (e ∷ es) h = ap (λ b. map f (cond b (e ∷ filter test es) (filter test es))) h.0 ∙ no_items es h.1

-- ---- what is noted again

-- a region is in a table
abbrev pub IsThere : List (ℕ × ℕ) → ℕ → Type 0
IsThere regions n = IsTrue (is_some (lookup (nat_eq (region_of n)) regions))

pub there_noted : (regions : List (ℕ × ℕ)) (n : ℕ) → IsNoted regions n → IsThere regions n
there_noted regions n noted = by (lookup (nat_eq (region_of n)) regions) refl
  where
    by : (o : Option ℕ) → lookup (nat_eq (region_of n)) regions ≡ o → IsThere regions n
    by None none = absurd (true≢false (sym noted ∙ ap (λ (p : Option ℕ). option_map_or (λ (bits : ℕ). has_bit bits (place_in n)) p false) none))
    by (Some bits) found = ap is_some found

pub there_by : (regions others : List (ℕ × ℕ)) (n : ℕ) → keys_of others ≡ keys_of regions → IsThere regions n → IsThere others n
there_by regions others n keys there =
    is_some-lookup (nat_eq (region_of n)) others ∙ ap (list_any (nat_eq (region_of n))) keys ∙ sym (is_some-lookup (nat_eq (region_of n)) regions) ∙ there

pub length_by : (regions others : List (ℕ × ℕ)) → keys_of others ≡ keys_of regions → length others ≡ length regions
length_by regions others keys =
    let same = ap length keys in
    let long = length-map others (λ (e : ℕ × ℕ). e.0) in
    let was = length-map regions (λ (e : ℕ × ℕ). e.0) in
    omega (arith, same, long, was)

module _ {X : Type 0} (IsNumber : X → ℕ → Type 0) where
  abbrev IsAgain : Regions → Regions → X → Type 0
  IsAgain old now e = (n : ℕ) → IsNumber e n → IsThere old.order n → IsNoted now.order n

  -- the objects or words of these entries are noted again in a table
  pub record AreLooked (old now : Regions) (es : List X) : Type 0 where
    pub same : now ≡ record old { order = now.order }
    pub keys : keys_of now.order ≡ keys_of old.order
    pub noted : IsTrue old.complete → Each (IsAgain old now) es

  pub none_looked : (t : Regions) → AreLooked t t []
  none_looked t = record { same = refl; keys = refl; noted = λ complete. tt }

  module _ (old now new : Regions) (es : List X) (e : X) (are : AreLooked old now es) where
    still_again : ((n : ℕ) → IsNoted now.order n → IsNoted new.order n) → (xs : List X) → Each (IsAgain old now) xs → Each (IsAgain old new) xs
    still_again kept [] h = tt
    still_again kept (x ∷ xs) h = (λ n is there. kept n (h.0 n is there), still_again kept xs h.1)

    pub one_looked : (m : ℕ) → IsLooked m now new → ((n : ℕ) → IsNumber e n → n ≡ m) → AreLooked old new (es ++ e ∷ [])
    one_looked m looked is_it = record {
      same = looked.same ∙ ap (λ (t : Regions). record t { order = new.order }) are.same;
      keys = looked.keys ∙ are.keys;
      noted = λ complete.
          each_push (IsAgain old new) es e (still_again looked.kept es (are.noted complete))
          (λ n is there. subst (IsNoted new.order) (sym (is_it n is)) (looked.noted (ap (λ (t : Regions). t.complete) are.same ∙ complete) (there_by old.order now.order m are.keys (subst (IsThere old.order) (is_it n is) there))));
    }

    pub one_passed : new ≡ now → ((n : ℕ) → IsNumber e n → ⊥) → AreLooked old new (es ++ e ∷ [])
    one_passed is_same not_it = record {
      same = is_same ∙ are.same ∙ ap (λ (t : Regions). record old { order = t.order }) (sym is_same);
      keys = ap (λ (t : Regions). keys_of t.order) is_same ∙ are.keys;
      noted = λ complete. each_push (IsAgain old new) es e (still_again (λ n h. subst (λ (t : Regions). IsNoted t.order n) (sym is_same) h) es (are.noted complete)) (λ n is there. absurd (not_it n is));
    }

  again_of : (old now : Regions) (es : List X) (n : ℕ) → Each (IsAgain old now) es → OneOf (λ e. IsNumber e n) es → IsThere old.order n → IsNoted now.order n
  again_of old now [] n each one there = absurd one
  again_of old now (e ∷ es) n each (inl here) there = each.0 n here there
  again_of old now (e ∷ es) n each (inr one) there = again_of old now es n each.1 one there

-- a sweep ends, in which all was told
module _ (sweep : Sweep) (s : State) (t mid : Regions) (told : IsTold sweep s t) where
  module _ (new : Regions) (untold : IsUntold new) where
    -- nothing was looked at
    pub renoted_none : mid ≡ t → new.complete ≡ mid.complete → ((n : ℕ) → IsNoted mid.order n → IsNoted new.order n) → length new.order ≤ length mid.order → IsRenoted sweep s t new
    renoted_none is same noted fewer = record {
      untold = untold;
      same = same ∙ ap (λ (x : Regions). x.complete) is;
      noted = λ complete n is_of. noted n (subst (λ (x : Regions). IsNoted x.order n) (sym is) (told.noted (sym (same ∙ ap (λ (x : Regions). x.complete) is) ∙ complete) n is_of));
      fewer = let as_many = ap (λ (x : Regions). length x.order) is in omega (arith, fewer, as_many);
    }

    -- all items were looked at
    pub renoted_all : {X : Type 0} (IsNumber : X → ℕ → Type 0) (now : Regions) (es : List X) → mid ≡ record t { order = mid.order } → keys_of mid.order ≡ keys_of t.order → AreLooked IsNumber mid now es → ((n : ℕ) → IsOfSweep sweep s n → OneOf (λ e. IsNumber e n) es)
        → new.complete ≡ now.complete → ((n : ℕ) → IsNoted now.order n → IsNoted new.order n) → length new.order ≤ length now.order → IsRenoted sweep s t new
    renoted_all IsNumber now es mid_is keys are all same noted fewer =
        let complete_as : new.complete ≡ t.complete = same ∙ ap (λ (x : Regions). x.complete) are.same ∙ ap (λ (x : Regions). x.complete) mid_is in
        record {
          untold = untold;
          same = complete_as;
          noted = λ complete n is_of.
              let on : IsTrue t.complete = sym complete_as ∙ complete in
              noted n (again_of IsNumber mid now es n (are.noted (ap (λ (x : Regions). x.complete) mid_is ∙ on)) (all n is_of) (there_by t.order mid.order n keys (there_noted t.order n (told.noted on n is_of))));
          fewer = let some = length_by t.order mid.order keys in let as_many = length_by mid.order now.order are.keys in omega (arith, fewer, some, as_many);
        }

  pub whole_mid : mid ≡ record t { order = mid.order } → keys_of mid.order ≡ keys_of t.order → IsWhole mid
  whole_mid is keys = record {
    whole = λ complete. ap (λ (x : Regions). keys_of x.told) is ∙ told.whole (sym (ap (λ (x : Regions). x.complete) is) ∙ complete) ∙ sym keys;
    lacking = λ off. ap (λ (x : Regions). x.told) is ∙ told.lacking (sym (ap (λ (x : Regions). x.complete) is) ∙ off);
  }

pub whole_now : {X : Type 0} (IsNumber : X → ℕ → Type 0) (mid now : Regions) (es : List X) → AreLooked IsNumber mid now es → IsWhole mid → IsWhole now
whole_now IsNumber mid now es are h = record {
  whole = λ complete. ap (λ (x : Regions). keys_of x.told) are.same ∙ h.whole (sym (ap (λ (x : Regions). x.complete) are.same) ∙ complete) ∙ sym are.keys;
  lacking = λ off. ap (λ (x : Regions). x.told) are.same ∙ h.lacking (sym (ap (λ (x : Regions). x.complete) are.same) ∙ off);
}

-- ---- the items of each sweep

is_some_of : {X : Type 0} (o : Option X) → is_some o ≡ true → (x : X) × (o ≡ Some x)
is_some_of None some = absurd (true≢false (sym some))
is_some_of (Some x) some = (x, refl)

-- the object or the word that a sweep is about, of each entry
abbrev pub IsNumberOf : Bool → ℕ × ℕ → ℕ → Type 0
IsNumberOf words e n = n ≡ link_number words e

abbrev pub IsObjectOf : ℕ × Stored → ℕ → Type 0
IsObjectOf e n = n ≡ e.0

abbrev pub IsCleanedOf : LinkKind → ℕ × Attached → ℕ → Type 0
IsCleanedOf when e n = IsTrue (is_when when e.1.cleanup.when) × (n ≡ e.1.object)

module _ {X : Type 0} (m : Map X) (es : List (ℕ × X)) (are : AreEntriesOf m es) where
  entered : (P : ℕ × X → Type 0) (a : ℕ) (x : X) → get m a ≡ Some x → P (a, x) → OneOf P es
  entered P a x here p = one_from P es (a, x) (listed es a x (ap (λ (n : Map X). get n a) are.0 ∙ here)) p

target_entered : (m : Map ℕ) (es : List (ℕ × ℕ)) → AreEntriesOf m es → (n : ℕ) → (word : ℕ) × (get m word ≡ Some n) → OneOf (λ e. IsNumberOf false e n) es
target_entered m es are n there = entered m es are (λ e. IsNumberOf false e n) there.0 n there.1 refl

word_entered : (m : Map ℕ) (es : List (ℕ × ℕ)) → AreEntriesOf m es → (n : ℕ) → IsTrue (contains_key m n) → OneOf (λ e. IsNumberOf true e n) es
word_entered m es are n there = let found = is_some_of (get m n) there in entered m es are (λ e. IsNumberOf true e n) n found.0 found.1 refl

pub links_entered : (words : Bool) (kind : LinkKind) (s : State) (es : List (ℕ × ℕ)) → AreEntriesOf (links_of s kind) es → (n : ℕ) → IsOfSweep (link_sweep words kind) s n → OneOf (λ e. IsNumberOf words e n) es
links_entered false Short s es are n there = target_entered s.short es are n there
links_entered false Long s es are n there = target_entered s.long es are n there
links_entered true Short s es are n there = word_entered s.short es are n there
links_entered true Long s es are n there = word_entered s.long es are n there

plain_one : (es : List (ℕ × Stored)) (n : ℕ) → OneOf (λ e. n ≡ e.0) (map plain es) → OneOf (λ e. IsObjectOf e n) es
plain_one [] n one = one
plain_one (e ∷ es) n (inl here) = inl here
plain_one (e ∷ es) n (inr one) = inr (plain_one es n one)

pub objects_entered : (s : State) (es : List (ℕ × Stored)) → AreEntriesOf s.registrations (map plain es) → (n : ℕ) → IsOfSweep sweeps.Objects s n → OneOf (λ e. IsObjectOf e n) es
objects_entered s es are n there = let found = is_some_of (get s.registrations n) there in plain_one es n (entered s.registrations (map plain es) are (λ e. n ≡ e.0) n found.0 found.1 refl)

pub cleanups_entered : (when : LinkKind) (s : State) (es : List (ℕ × Attached)) → AreEntriesOf s.cleanups es → (n : ℕ) → IsOfSweep (attached when) s n → OneOf (λ e. IsCleanedOf when e n) es
cleanups_entered Short s es are n (number, c, here, on, is) = entered s.cleanups es are (λ e. IsCleanedOf Short e n) number c here (on, sym is)
cleanups_entered Long s es are n (number, c, here, on, is) = entered s.cleanups es are (λ e. IsCleanedOf Long e n) number c here (on, sym is)

-- ---- all were told marked: nothing is listed

both_off : (a b : Bool) → b ≡ false → (a && b) ≡ false
both_off true b off = off
both_off false b off = refl

module _ (told : List (ℕ × ℕ)) where
  off_link : (words : Bool) (kind : LinkKind) (s : State) → ((n : ℕ) → IsOfSweep (link_sweep words kind) s n → IsTrue (is_marked told n)) → (e : ℕ × ℕ) → get (links_of s kind) e.0 ≡ Some e.1 → not (is_marked told (link_number words e)) ≡ false
  off_link false Short s all e here = ap not (all e.1 (e.0, here))
  off_link false Long s all e here = ap not (all e.1 (e.0, here))
  off_link true Short s all e here = ap not (all e.0 (ap is_some here))
  off_link true Long s all e here = ap not (all e.0 (ap is_some here))

  each_off : {X : Type 0} (P : X → Type 0) (test : X → Bool) → ((e : X) → P e → test e ≡ false) → (es : List X) → Each P es → Each (λ e. test e ≡ false) es
  each_off P test off [] h = tt
  each_off P test off (e ∷ es) h = (off e h.0, each_off P test off es h.1)

  pub no_links : (words : Bool) (kind : LinkKind) (s : State) (es : List (ℕ × ℕ)) → AreEntriesOf (links_of s kind) es → ((n : ℕ) → IsOfSweep (link_sweep words kind) s n → IsTrue (is_marked told n)) → (f : ℕ × ℕ → Item)
      → [] ≡ items_of (λ e. not (is_marked told (link_number words e))) f es
  no_links words kind s es are all f =
      sym (no_items (λ e. not (is_marked told (link_number words e))) f es (each_off (λ e. get (links_of s kind) e.0 ≡ Some e.1) (λ e. not (is_marked told (link_number words e))) (off_link words kind s all) es (stands (links_of s kind) es are)))

  each_plain : (P : ℕ × Registration → Type 0) (es : List (ℕ × Stored)) → Each P (map plain es) → Each (λ e. P (plain e)) es
  each_plain P [] h = tt
  each_plain P (e ∷ es) h = (h.0, each_plain P es h.1)

  pub no_objects : (from : ℕ) (s : State) (es : List (ℕ × Stored)) → AreEntriesOf s.registrations (map plain es) → ((n : ℕ) → IsOfSweep sweeps.Objects s n → IsTrue (is_marked told n)) → (f : ℕ × Stored → Item)
      → [] ≡ items_of (λ e. nat_le from e.1.number && not (is_marked told e.0)) f es
  no_objects from s es are all f =
      sym
      (no_items (λ e. nat_le from e.1.number && not (is_marked told e.0)) f es
      (each_off (λ e. get s.registrations (plain e).0 ≡ Some (plain e).1) (λ e. nat_le from e.1.number && not (is_marked told e.0)) (λ e here. both_off (nat_le from e.1.number) (not (is_marked told e.0)) (ap not (all e.0 (ap is_some here)))) es
      (each_plain (λ e. get s.registrations e.0 ≡ Some e.1) es (stands s.registrations (map plain es) are))))

  off_cleanup : (from : ℕ) (when : LinkKind) (s : State) → ((n : ℕ) → IsOfSweep (attached when) s n → IsTrue (is_marked told n)) → (e : ℕ × Attached) → get s.cleanups e.0 ≡ Some e.1 → is_listed from told when e ≡ false
  off_cleanup from when s all e here = both_off (nat_le from e.0) (is_when when e.1.cleanup.when && not (is_marked told e.1.object)) (by when all (is_when when e.1.cleanup.when) refl)
    where
      by : (w : LinkKind) → ((n : ℕ) → IsOfSweep (attached w) s n → IsTrue (is_marked told n)) → (b : Bool) → is_when w e.1.cleanup.when ≡ b → (b && not (is_marked told e.1.object)) ≡ false
      by w all false off = refl
      by Short all true on = ap not (all e.1.object (e.0, e.1, here, on, refl))
      by Long all true on = ap not (all e.1.object (e.0, e.1, here, on, refl))

  pub no_cleanups : (from : ℕ) (when : LinkKind) (s : State) (es : List (ℕ × Attached)) → AreEntriesOf s.cleanups es → ((n : ℕ) → IsOfSweep (attached when) s n → IsTrue (is_marked told n)) → (f : ℕ × Attached → Item)
      → [] ≡ items_of (is_listed from told when) f es
  no_cleanups from when s es are all f = sym (no_items (is_listed from told when) f es (each_off (λ e. get s.cleanups e.0 ≡ Some e.1) (is_listed from told when) (off_cleanup from when s all) es (stands s.cleanups es are)))

-- ---- one more item, or none

-- by what was told in the sweep, which stays
pub filled : (items : List Item) (new : Item) (marked : List (ℕ × ℕ) → Bool) (item : List (ℕ × ℕ) → Item) (told now : List (ℕ × ℕ)) → now ≡ told → cond (marked now) items (items ++ item now ∷ []) ≡ cond (not (marked told)) (items ++ item told ∷ []) items
filled items new marked item told now same = ap (λ t. cond (marked t) items (items ++ item t ∷ [])) same ∙ by (marked told)
  where
    by : (b : Bool) → cond b items (items ++ item told ∷ []) ≡ cond (not b) (items ++ item told ∷ []) items
    by true = refl
    by false = refl

pub fewer_than : (b : Bool) (items : List Item) (new : Item) → length (cond b (items ++ new ∷ []) items) ≤ length items + 1
fewer_than true items new = let long = length-append items (new ∷ []) in omega (arith, long)
fewer_than false items new = omega arith

pub filled_if : (items : List Item) (on : List (ℕ × ℕ) → Bool) (item : List (ℕ × ℕ) → Item) (told now : List (ℕ × ℕ)) → now ≡ told → cond (on now) (items ++ item now ∷ []) items ≡ cond (on told) (items ++ item told ∷ []) items
filled_if items on item told now same = ap (λ t. cond (on t) (items ++ item t ∷ []) items) same

-- ---- where all was told, what is listed is known

module _ (t : Regions) (whole : keys_of t.told ≡ keys_of t.order) where
  -- what isn't told marked is told unmarked
  known_of : (n : ℕ) → IsNoted t.order n → not (is_marked t.told n) ≡ true → is_unmarked t.told n ≡ true
  known_of n noted off = by (lookup (nat_eq (region_of n)) t.told) refl
    where
      there : IsThere t.told n
      there = there_by t.order t.told n whole (there_noted t.order n noted)

      by : (o : Option ℕ) → lookup (nat_eq (region_of n)) t.told ≡ o → is_unmarked t.told n ≡ true
      by None none = absurd (true≢false (sym there ∙ ap is_some none))
      by (Some word) is =
          ap (λ (o : Option ℕ). option_map_or (λ (w : ℕ). not (has_bit w (place_in n))) o false) is ∙ sym (ap (λ (o : Option ℕ). not (option_map_or (λ (bits : ℕ). has_bit bits (place_in n)) o false)) is) ∙ off

abbrev IsKnown : Item → Type 0
IsKnown item = IsTrue item.known

-- of those that pass
each_passed : {X : Type 0} (P Q : X → Type 0) (test : X → Bool) → ((e : X) → P e → test e ≡ true → Q e) → (es : List X) → Each P es → Each Q (filter test es)
each_passed P Q test so [] h = tt
each_passed P Q test so (e ∷ es) h = by (test e) refl (each_passed P Q test so es h.1)
  where
    by : (b : Bool) → test e ≡ b → Each Q (filter test es) → Each Q (cond b (e ∷ filter test es) (filter test es))
    by true on rest = (so e h.0 on, rest)
    by false off rest = rest

module _ (s : State) (t : Regions) (complete : IsTrue t.complete) where
  links_known : (words : Bool) (kind : LinkKind) → IsTold (link_sweep words kind) s t → (items : List Item) → AreLinks (link_number words) t.told (links_of s kind) items → Each IsKnown items
  links_known words kind told items are =
      subst (Each IsKnown) (sym are.2)
      (each_mapped (λ e. of_link (is_unmarked t.told (link_number words e)) e) IsKnown (filter (λ e. not (is_marked t.told (link_number words e))) are.0)
      (each_passed (λ e. get (links_of s kind) e.0 ≡ Some e.1) (λ e. is_unmarked t.told (link_number words e) ≡ true) (λ e. not (is_marked t.told (link_number words e)))
      (λ e here off. known_of t (told.whole complete) (link_number words e) (told.noted complete (link_number words e) (is_of words kind e here)) off) are.0 (stands (links_of s kind) are.0 are.1)))
    where
      is_of : (w : Bool) (k : LinkKind) (e : ℕ × ℕ) → get (links_of s k) e.0 ≡ Some e.1 → IsOfSweep (link_sweep w k) s (link_number w e)
      is_of false Short e here = (e.0, here)
      is_of false Long e here = (e.0, here)
      is_of true Short e here = ap is_some here
      is_of true Long e here = ap is_some here

  known_stored : (known : Bool) (e : ℕ × Stored) → (of_stored known e).known ≡ known
  known_stored known e = by e.1.unreachable
    where
      by : (b : Bool) → (cond b (of_late known (plain e)) (of_other known (plain e))).known ≡ known
      by true = refl
      by false = refl

  objects_known : (from : ℕ) → IsTold sweeps.Objects s t → (items : List Item) → AreObjects from t.told s.registrations s.late items → Each IsKnown items
  objects_known from told items (es, are, flags, is) =
      subst (Each IsKnown) (sym is)
      (each_mapped (λ e. of_stored (is_unmarked t.told e.0) e) IsKnown (filter (λ e. nat_le from e.1.number && not (is_marked t.told e.0)) es)
      (each_passed (λ e. get s.registrations (plain e).0 ≡ Some (plain e).1) (λ e. IsKnown (of_stored (is_unmarked t.told e.0) e)) (λ e. nat_le from e.1.number && not (is_marked t.told e.0))
      (λ e here on. known_stored (is_unmarked t.told e.0) e ∙ known_of t (told.whole complete) e.0 (told.noted complete e.0 (ap is_some here)) (and_parts (nat_le from e.1.number) (not (is_marked t.told e.0)) on).1) es
      (each_plain t.told (λ e. get s.registrations e.0 ≡ Some e.1) es (stands s.registrations (map plain es) are))))

  cleanups_known : (from : ℕ) (when : LinkKind) → IsTold (attached when) s t → (items : List Item) → AreCleanups from t.told when s.cleanups items → Each IsKnown items
  cleanups_known from when told items (cs, due, is) =
      subst (Each IsKnown) (sym is)
      (each_mapped (λ e. of_cleanup (is_unmarked t.told e.1.object) e) IsKnown cs
      (each_as (λ e. (get (retain_keys s.cleanups (nat_le from)) e.0 ≡ Some e.1) × IsTrue (is_when when e.1.cleanup.when && not (is_marked t.told e.1.object))) (λ e. is_unmarked t.told e.1.object ≡ true)
      (λ e h. let parts = and_parts (is_when when e.1.cleanup.when) (not (is_marked t.told e.1.object)) h.1 in known_of t (told.whole complete) e.1.object (told.noted complete e.1.object (is_of when e (retained_back s.cleanups (nat_le from) e.0 e.1 h.0).1 parts.0)) parts.1) cs
      (each_from (λ e. (get (retain_keys s.cleanups (nat_le from)) e.0 ≡ Some e.1) × IsTrue (is_when when e.1.cleanup.when && not (is_marked t.told e.1.object))) cs due.each)))
    where
      is_of : (w : LinkKind) (e : ℕ × Attached) → get s.cleanups e.0 ≡ Some e.1 → IsTrue (is_when w e.1.cleanup.when) → IsOfSweep (attached w) s e.1.object
      is_of Short e here on = (e.0, e.1, here, on, refl)
      is_of Long e here on = (e.0, e.1, here, on, refl)

  pub known_listed : (from : ℕ) (sweep : Sweep) → IsTold sweep s t → (items : List Item) → Lists (swept sweep) from t.told s [] items → All (λ (item : Item). IsTrue item.known) items
  known_listed from sweep told items h = each_all IsKnown items (by sweep told h)
    where
      by : (w : Sweep) → IsTold w s t → Lists (swept w) from t.told s [] items → Each IsKnown items
      by sweeps.ShortCleanups told h = cleanups_known from Short told items h
      by sweeps.ShortTargets told h = links_known false Short told items h
      by sweeps.Objects told h = objects_known from told items h
      by sweeps.LongTargets told h = links_known false Long told items h
      by sweeps.ShortHolders told h = links_known true Short told items h
      by sweeps.LongHolders told h = links_known true Long told items h
      by sweeps.LongCleanups told h = cleanups_known from Long told items h
