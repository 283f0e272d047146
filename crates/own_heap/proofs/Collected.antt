-- What a collection marks, and what it leaves.
use Rattle.std.proofs.Common.{◌≡◌, ℕ, ◌+◌, ◌<◌, ◌≤◌, ◌↔◌, ◌⊎◌, ◌++◌, ◌∷◌, [], Bool, true, false, cond, List, length, take, get_or, Option, Some, None, option_map, refl, is_some, sym, ap, ◌∙◌, subst, inl, inr, ⊎_elim, arith, Contains, IsTrue}
use Rattle.std.proofs.lemmas.Bool.{both_ways, cases_lt}
use Rattle.std.proofs.lemmas.List.{get_or_past, take_more}
use Rattle.std.proofs.lemmas.List.Elements.{Contains-append_left, Contains-push, Contains-push_cases}
use Rattle.std.proofs.lemmas.Option.{none-some, same_Some}
use Rattle.std.specs.Option.{option_map_or}
use Rattle.std.specs.Cmp.{nat_cmp_total}
use Rattle.std.specs.FinMap.{contains_key, get, same_map, nat_cmp-IsAntisymmetric, retain_keys}
use Rattle.fz_model.specs.State.{Map, Object}
use Rattle.fz_model.specs.Memory.{points}
use Rattle.fz_model.specs.Reachability.{Leads}
use Rattle.fz_model.proofs.Maps.{get-retain}
use Rattle.fz_pass.specs.Marks.{IsClosed, Marks}
use Rattle.own_heap.specs.declared.record.Field.{Field}
use Rattle.own_heap.specs.declared.record.Field.TheVariants.{Nothing}
use Rattle.own_heap.specs.declared.record.Record.{Record}
use Rattle.own_heap.specs.declared.record.RecordId.{RecordId}
use Rattle.own_heap.specs.Records.{address_of, cleared, field_at, place_of, object_of, objects_of, AreFieldsKept, AreFieldsLeft, IsLedByWord, IsLedByRoot}
use Rattle.own_heap.specs.Marking.{is_in}
use Rattle.own_heap.specs.Collected.{IsLedByAny, Remain}
use Rattle.own_heap.proofs.Slots.{object_in, get-objects, place_of-address, points_is, nowhere, stands}

-- the object to which a word points leads to the same
pub led_by_word : (objects : Map Object) (word object : ℕ) → points objects word ≡ Some object → (a : ℕ) → ((from : ℕ) × (from ≡ object) × Leads objects from a) ↔ IsLedByWord objects word a
led_by_word objects word object pointed a = (
  λ (from, is, leads). (from, pointed ∙ ap Some (sym is), leads),
  λ (from, here, leads). (from, same_Some from object (sym here ∙ pointed), leads),
)

pub led_more : (objects : Map Object) (roots : List RecordId) (i : ℕ) (root : RecordId) → i < length roots → root ≡ get_or roots i root → (a : ℕ) → IsLedByRoot objects (take (i + 1) roots) a ↔ (IsLedByRoot objects (take i roots) a ⊎ IsLedByWord objects (address_of root.place) a)
led_more objects roots i root low is a = (
  λ (id, within, led). ⊎_elim (λ before. inl (id, before, led)) (λ same. inr (subst (λ (r : RecordId). IsLedByWord objects (address_of r.place) a) (sym same) led)) (Contains-push_cases (take i roots) root id (subst (λ rs. Contains rs id) more within)),
  ⊎_elim (λ (id, within, led). (id, subst (λ rs. Contains rs id) (sym more) (Contains-append_left (take i roots) (root ∷ []) id within), led)) (λ led. (root, subst (λ rs. Contains rs root) (sym more) (Contains-push (take i roots) root), led)),
)
  where
    more : take (i + 1) roots ≡ take i roots ++ root ∷ []
    more = take_more roots i root low ∙ ap (λ r. take i roots ++ r ∷ []) (sym is)

pub marks_on : {E : Type 0} {objects : Map Object} {old mid new : ℕ → Bool} {P Q : ℕ → Type 0} → (R : ℕ → Type 0) → Marks E objects old mid P → Marks E objects mid new Q → ((a : ℕ) → R a ↔ (P a ⊎ Q a)) → Marks E objects old new R
marks_on R g h both = record {
  closed = h.closed;
  least = λ a. ⊎_elim (λ was. h.least a (inl (g.least a (inl was)))) (λ r. ⊎_elim (λ p. h.least a (inl (g.least a (inr p)))) (λ q. h.least a (inr q)) ((both a).0 r));
  most = λ e a on. ⊎_elim (λ mid. ⊎_elim inl (λ p. inr ((both a).1 (inl p))) (g.most e a mid)) (λ q. inr ((both a).1 (inr q))) (h.most e a on);
}

-- the records at places that aren't marked are gone
pub swept : (old new : List (Option Record)) (marked : List Bool) (n : ℕ) → length new ≡ length old → length old ≤ n → ((k : ℕ) → k < n → get_or new k None ≡ cond (get_or marked k false) (get_or old k None) None) → objects_of new ≡ retain_keys (objects_of old) (is_in marked)
swept old new marked n size all by_place =
    same_map nat_cmp_total nat_cmp-IsAntisymmetric _ _ (λ q. get-objects new q ∙ at q (place_of q) refl ∙ ap (λ o. cond (is_in marked q) o None) (sym (get-objects old q)) ∙ sym (get-retain (objects_of old) (is_in marked) q))
  where
    turned : (b : Bool) (s : Option Record) → option_map object_of (cond b s None) ≡ cond b (option_map object_of s) None
    turned true s = refl
    turned false s = refl

    none : (b : Bool) (o : Option Object) → None ≡ o → None ≡ cond b o None
    none true o is = is
    none false o is = refl

    at : (q : ℕ) (p : Option ℕ) → place_of q ≡ p → object_in new p ≡ cond (is_in marked q) (object_in old p) None
    at q None is = none (is_in marked q) None refl
    at q (Some i) is =
        ⊎_elim
        (λ low. ap (option_map object_of) (by_place i low) ∙ turned (get_or marked i false) (get_or old i None) ∙ ap (λ b. cond b (option_map object_of (get_or old i None)) None) (ap (λ p. option_map_or (λ place. get_or marked place false) p false) (sym is)))
        (λ past. ap (option_map object_of) (get_or_past new i None (omega arith)) ∙ none (is_in marked q) (option_map object_of (get_or old i None)) (ap (option_map object_of) (sym (get_or_past old i None (omega arith)))))
        (cases_lt i n)

-- the same by places
pub swept_places : (old new : List (Option Record)) (marked : List Bool) (n : ℕ) → length new ≡ length old → length old ≤ n → ((k : ℕ) → k < n → get_or new k None ≡ cond (get_or marked k false) (get_or old k None) None)
    → (place : ℕ) → get_or new place None ≡ cond (is_in marked (address_of place)) (get_or old place None) None
swept_places old new marked n size all by_place place =
    ⊎_elim
    (λ low. by_place place low ∙ ap (λ p. cond (option_map_or (λ i. get_or marked i false) p false) (get_or old place None) None) (sym (place_of-address place)))
    (λ past. get_or_past new place None (omega arith) ∙ none (is_in marked (address_of place)) (get_or old place None) (sym (get_or_past old place None (omega arith))))
    (cases_lt place n)
  where
    none : (b : Bool) (s : Option Record) → None ≡ s → None ≡ cond b s None
    none true s is = is
    none false s is = refl

-- what is swept of records whose fields are kept
pub fields_left : (old mid new : List (Option Record)) (marked : ℕ → Bool) → AreFieldsKept old mid → ((place : ℕ) → get_or new place None ≡ cond (marked (address_of place)) (get_or mid place None) None) → AreFieldsLeft old new
fields_left old mid new marked kept left place k = by (marked (address_of place)) (left place)
  where
    field : Option Record → Option Field
    field = option_map (λ (r : Record). get_or r.fields k Nothing)

    by : (b : Bool) → get_or new place None ≡ cond b (get_or mid place None) None → (field_at new place k ≡ None) ⊎ ((field_at new place k ≡ field_at old place k) ⊎ (field_at new place k ≡ option_map cleared (field_at old place k)))
    by true is = inr (⊎_elim (λ same. inl (ap field is ∙ same)) (λ none. inr (ap field is ∙ none)) (kept place k))
    by false is = inl (ap field is)

-- a record whose fields are kept is there
pub fields_stand : (old new : List (Option Record)) → AreFieldsKept old new → (a : ℕ) → IsTrue (contains_key (objects_of old) a) → IsTrue (contains_key (objects_of new) a)
fields_stand old new kept a here = at (get (objects_of old) a) refl here
  where
    has : (s : Option Record) (f : Field) → option_map (λ (r : Record). get_or r.fields 0 Nothing) s ≡ Some f → IsTrue (is_some (option_map object_of s))
    has None f is = absurd (none-some f is)
    has (Some r) f is = refl

    at : (o : Option Object) → get (objects_of old) a ≡ o → IsTrue (is_some o) → IsTrue (contains_key (objects_of new) a)
    at None is h = absurd (both_ways false refl h)
    at (Some o) is h =
        let s = stands old a o is in
        let first = ap (option_map (λ (r : Record). get_or r.fields 0 Nothing)) s.slot in
        let there = ⊎_elim (λ same. has (get_or new s.place None) (get_or s.read.fields 0 Nothing) (same ∙ first)) (λ was. has (get_or new s.place None) (cleared (get_or s.read.fields 0 Nothing)) (was ∙ ap (option_map cleared) first)) (kept s.place 0) in
        ap is_some (get-objects new a ∙ ap (object_in new) s.at) ∙ there

-- of the objects those that are marked remain
pub marked_remain : (old mid : List (Option Record)) (left : Map Object) (marked : ℕ → Bool) → AreFieldsKept old mid → left ≡ retain_keys (objects_of mid) marked → Remain (objects_of old) left marked
marked_remain old mid left marked kept is a here =
    by (marked a) (get (objects_of mid) a) (fields_stand old mid kept a here) ∙ sym (ap is_some (ap (λ m. get m a) is ∙ get-retain (objects_of mid) marked a))
  where
    by : (b : Bool) (o : Option Object) → IsTrue (is_some o) → b ≡ is_some (cond b o None)
    by true o h = sym h
    by false o h = refl

-- no word leads to anything
pub marks_nothing : (objects : Map Object) (marked : ℕ → Bool) → IsClosed objects marked → Marks (Unit {0}) objects marked marked (IsLedByAny objects [])
marks_nothing objects marked closed = record { closed = closed; least = λ a. ⊎_elim (λ h. h) (λ (word, within, led). absurd (none_within word within)); most = λ _ a. inl }
  where
    none_within : (word : ℕ) → Contains [] word → ⊥
    none_within word within = absurd (omega (arith, within.1))

pub led_by_more : (objects : Map Object) (words : List ℕ) (word a : ℕ) → IsLedByAny objects (words ++ word ∷ []) a ↔ (IsLedByAny objects words a ⊎ IsLedByWord objects word a)
led_by_more objects words word a = (
  λ (w, within, led). ⊎_elim (λ before. inl (w, before, led)) (λ same. inr (subst (λ x. IsLedByWord objects x a) (sym same) led)) (Contains-push_cases words word w within),
  ⊎_elim (λ (w, within, led). (w, Contains-append_left words (word ∷ []) w within, led)) (λ led. (word, Contains-push words word, led)),
)

-- no record has the word 0
pub zero_nowhere : (slots : List (Option Record)) → points (objects_of slots) 0 ≡ None
unfolding place_of
zero_nowhere slots = points_is slots 0 ∙ ap (option_map (λ _. 0)) (nowhere slots 0 refl)
