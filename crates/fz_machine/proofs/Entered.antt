-- What the lists of phases have of links and registrations.
use Rattle.std.proofs.Common.{◌≡◌, ◌≤◌, ◌⊎◌, ◌&&◌, filter, nat_le, ◌∷◌, [], ◌∙◌, ℕ, Bool, true, false, cond, List, Some, Contains, map, refl, sym, ap, subst, inl, inr, ⊎_elim, not, IsTrue}
use Rattle.std.proofs.lemmas.Bool.{and_from, le-leb}
use Rattle.std.proofs.lemmas.List.Elements.{All-contains_itself, All-weaker}
use Rattle.std.specs.FinMap.{get, contains_key}
use Rattle.std.specs.FinSet.{contains}
use Rattle.fz_table.specs.declared.stored.Stored.{Stored}
use Rattle.fz_table.specs.Tabled.{Set, plain, shown}
use Rattle.fz_model.specs.declared.answers.Registration.{Registration}
use Rattle.fz_model.specs.State.{Map}
use Rattle.fz_model.proofs.KeyedEntries.{got, listed}
use Rattle.fz_model.proofs.Sound.{is_some_of}
use Rattle.fz_machine.specs.declared.item.Item.{Item}
use Rattle.fz_machine.specs.Items.{AreEntriesOf, AreLinks, AreObjects, of_link, of_late, of_other, of_stored}
use Rattle.fz_machine.specs.Regions.{is_marked, is_unmarked}
use Rattle.fz_machine.proofs.Among.{Each, OneOf, each_as, each_filter, each_from, each_mapped, each_unmapped, one_as, one_filter, one_from, one_mapped, one_unmapped}
use Rattle.fz_machine.proofs.Sifting.{IsAt}

module _ {X : Type 0} (m : Map X) (es : List (ℕ × X)) (are : AreEntriesOf m es) where
  -- what is listed is in the map
  pub stands : Each (λ e. get m e.0 ≡ Some e.1) es
  stands = each_from (λ e. get m e.0 ≡ Some e.1) es
      (All-weaker (Contains es) (λ e. get m e.0 ≡ Some e.1) (λ e is_in. ap (λ (n : Map X). get n e.0) (sym are.0) ∙ got es e.0 e.1 are.1 is_in) es (All-contains_itself es))

  -- and what is there is listed
  entered : (P : ℕ × X → Type 0) (a : ℕ) (x : X) → get m a ≡ Some x → P (a, x) → OneOf P es
  entered P a x here p = one_from P es (a, x) (listed es a x (ap (λ (n : Map X). get n a) are.0 ∙ here)) p

module _ (number : ℕ × ℕ → ℕ) (told : List (ℕ × ℕ)) (links : Map ℕ) (items : List Item) (are : AreLinks number told links items) where
  abbrev its : Item → Type 0
  its i = get links i.word ≡ Some i.object

  abbrev item_of : ℕ × ℕ → Item
  item_of e = of_link (is_unmarked told (number e)) e

  abbrev is_left : ℕ × ℕ → Bool
  is_left e = not (is_marked told (number e))

  abbrev listed_ones : List (ℕ × ℕ)
  listed_ones = filter is_left are.0

  each_entry : Each (λ (e : ℕ × ℕ). get links e.0 ≡ Some e.1) listed_ones
  each_entry = each_filter (λ (e : ℕ × ℕ). get links e.0 ≡ Some e.1) is_left are.0 (stands links are.0 are.1)

  pub links_each : Each its items
  links_each = subst (Each its) (sym are.2) (each_mapped item_of its listed_ones each_entry)

  -- what is known of a link was told
  pub links_known : Each (λ (i : Item). IsTrue i.known → is_unmarked told (number (i.word, i.object)) ≡ true) items
  links_known =
      subst (Each (λ (i : Item). IsTrue i.known → is_unmarked told (number (i.word, i.object)) ≡ true)) (sym are.2)
      (each_mapped item_of (λ (i : Item). IsTrue i.known → is_unmarked told (number (i.word, i.object)) ≡ true) listed_ones
      (each_as (λ (e : ℕ × ℕ). get links e.0 ≡ Some e.1) (λ (e : ℕ × ℕ). IsTrue (item_of e).known → is_unmarked told (number ((item_of e).word, (item_of e).object)) ≡ true) (λ e here known. known) listed_ones each_entry))

  -- those that weren't told marked are listed
  pub links_all : (object word : ℕ) → get links word ≡ Some object → is_marked told (number (word, object)) ≡ false → OneOf (IsAt object word) items
  links_all object word here off =
      let is_it : ℕ × ℕ → Type 0 = λ e. (e.1 ≡ object) × (e.0 ≡ word) in
      let passes : (e : ℕ × ℕ) → is_it e → is_left e ≡ true = λ e is. ap not ((λ i. is_marked told (number (is.1 i, is.0 i))) ∙ off) in
      subst (OneOf (IsAt object word)) (sym are.2)
      (one_mapped item_of (IsAt object word) listed_ones (one_filter is_it is_left passes are.0 (entered links are.0 are.1 is_it word object here (refl, refl))))

module _ (registrations : Map Registration) (late : Set) where
  abbrev pub IsOther : Item → Type 0
  IsOther i = (r : Registration) × (get registrations i.object ≡ Some r) × (contains late i.object ≡ false) × (i ≡ of_other i.known (i.object, r))

  abbrev pub IsLate : Item → Type 0
  IsLate i = (r : Registration) × (get registrations i.object ≡ Some r) × (contains late i.object ≡ true) × (i ≡ of_late i.known (i.object, r))

  abbrev pub IsOfEither : Item → Type 0
  IsOfEither i = IsOther i ⊎ IsLate i

  abbrev pub IsOtherAt : ℕ → ℕ → Type 0
  IsOtherAt object word = IsTrue (contains_key registrations object) × (contains late object ≡ false) × (word ≡ 0)

  abbrev pub IsLateAt : ℕ → ℕ → Type 0
  IsLateAt object word = IsTrue (contains_key registrations object) × (contains late object ≡ true) × (word ≡ 0)

  abbrev pub IsEitherAt : ℕ → ℕ → Type 0
  IsEitherAt object word = IsOtherAt object word ⊎ IsLateAt object word

  pub either_at : (object : ℕ) → IsTrue (contains_key registrations object) → IsEitherAt object 0
  either_at object here = by (contains late object) refl
    where
      by : (b : Bool) → contains late object ≡ b → IsEitherAt object 0
      by false off = inl (here, off, refl)
      by true on = inr (here, on, refl)

  one_stored : (known : Bool) (e : ℕ × Stored) → get registrations e.0 ≡ Some (shown e.1) → e.1.unreachable ≡ contains late e.0 → IsOfEither (of_stored known e)
  one_stored known e here flag = by e.1.unreachable flag
    where
      by : (b : Bool) → b ≡ contains late e.0 → IsOfEither (cond b (of_late known (plain e)) (of_other known (plain e)))
      by true on = inr (shown e.1, here, sym on, refl)
      by false off = inl (shown e.1, here, sym off, refl)

  module _ (from : ℕ) (told : List (ℕ × ℕ)) (items : List Item) (are : AreObjects from told registrations late items) where
    abbrev item_at : ℕ × Stored → Item
    item_at e = of_stored (is_unmarked told e.0) e

    abbrev stays : ℕ × Stored → Bool
    stays e = nat_le from e.1.number && not (is_marked told e.0)

    abbrev those : List (ℕ × Stored)
    those = filter stays are.0

    each_stored : (es : List (ℕ × Stored)) → Each (λ e. get registrations e.0 ≡ Some (shown e.1)) es → Each (λ e. e.1.unreachable ≡ contains late e.0) es → Each (λ e. IsOfEither (item_at e)) es
    each_stored [] h k = tt
    each_stored (e ∷ es) h k = (one_stored (is_unmarked told e.0) e h.0 k.0, each_stored es h.1 k.1)

    pub objects_each : Each IsOfEither items
    objects_each = subst (Each IsOfEither) (sym are.3)
        (each_mapped item_at IsOfEither those
        (each_filter (λ (e : ℕ × Stored). IsOfEither (item_at e)) stays are.0 (each_stored are.0 (each_unmapped plain (λ e. get registrations e.0 ≡ Some e.1) are.0 (stands registrations (map plain are.0) are.1)) (each_from (λ (e : ℕ × Stored). e.1.unreachable ≡ contains late e.0) are.0 are.2))))

    -- what is known of an object was told
    known_at : (e : ℕ × Stored) → IsTrue (item_at e).known → is_unmarked told (item_at e).object ≡ true
    known_at e = by e.1.unreachable
      where
        by : (b : Bool) → IsTrue (cond b (of_late (is_unmarked told e.0) (plain e)) (of_other (is_unmarked told e.0) (plain e))).known
            → is_unmarked told (cond b (of_late (is_unmarked told e.0) (plain e)) (of_other (is_unmarked told e.0) (plain e))).object ≡ true
        by true known = known
        by false known = known

    each_known : (es : List (ℕ × Stored)) → Each (λ (e : ℕ × Stored). IsTrue (item_at e).known → is_unmarked told (item_at e).object ≡ true) es
    each_known [] = tt
    each_known (e ∷ es) = (known_at e, each_known es)

    pub objects_known : Each (λ (i : Item). IsTrue i.known → is_unmarked told i.object ≡ true) items
    objects_known =
        subst (Each (λ (i : Item). IsTrue i.known → is_unmarked told i.object ≡ true)) (sym are.3) (each_mapped item_at (λ (i : Item). IsTrue i.known → is_unmarked told i.object ≡ true) those (each_known those))

    -- those that come no earlier and weren't told marked are listed
    pub objects_all : (object word : ℕ) → IsEitherAt object word → ((r : Registration) → get registrations object ≡ Some r → from ≤ r.number) → is_marked told object ≡ false → OneOf (IsAt object word) items
    objects_all object word either young off = ⊎_elim (λ x. at x.0 x.2) (λ x. at x.0 x.2) either
      where
        here_at : (e : ℕ × Stored) → e.0 ≡ object → word ≡ 0 → (b : Bool) → IsAt object word (cond b (of_late (is_unmarked told e.0) (plain e)) (of_other (is_unmarked told e.0) (plain e)))
        here_at e is zero true = (is, sym zero)
        here_at e is zero false = (is, sym zero)

        at : IsTrue (contains_key registrations object) → word ≡ 0 → OneOf (IsAt object word) items
        at here zero =
            let r = is_some_of (get registrations object) (ap not here) in
            let is_it : ℕ × Registration → Type 0 = λ e. (e.0 ≡ object) × (e.1 ≡ r.0) in
            let one = one_unmapped plain is_it are.0 (entered registrations (map plain are.0) are.1 is_it object r.0 r.1 (refl, refl)) in
            let passes : (e : ℕ × Stored) → is_it (plain e) → stays e ≡ true = λ e is.
            and_from (nat_le from e.1.number) (not (is_marked told e.0)) (le-leb from e.1.number (subst (λ n. from ≤ n) (sym (ap (λ (q : Registration). q.number) is.1)) (young r.0 r.1))) (ap not (ap (is_marked told) is.0 ∙ off)) in
            subst (OneOf (IsAt object word)) (sym are.3)
            (one_mapped item_at (IsAt object word) those
            (one_as (λ (e : ℕ × Stored). is_it (plain e)) (λ (e : ℕ × Stored). IsAt object word (item_at e)) (λ e is. here_at e is.0 zero e.1.unreachable) those
            (one_filter (λ (e : ℕ × Stored). is_it (plain e)) stays passes are.0 one)))
