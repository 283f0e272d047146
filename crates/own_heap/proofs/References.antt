-- References are children, and a record that is made is an object more.
use Rattle.std.proofs.Common.{◌≡◌, ◌≢◌, ℕ, ◌+◌, ◌↔◌, false, List, set, get_or, Option, Some, None, option_map, is_some, refl, sym, ap, ◌∙◌, subst, ⊎_elim, arith, IsTrue, get_or-set_same, get_or-set_other}
use Rattle.std.proofs.lemmas.Bool.{cases_eq, both_ways}
use Rattle.std.proofs.lemmas.Option.{same_Some, none-some}
use Rattle.std.specs.Cmp.{nat_cmp_total}
use Rattle.std.specs.FinMap.{get, insert, same_map, nat_cmp-IsAntisymmetric}
use Rattle.fz_model.specs.State.{Map, Object}
use Rattle.fz_model.specs.Memory.{points}
use Rattle.fz_model.specs.Reachability.{Child}
use Rattle.fz_model.proofs.Maps.{get-insert_same, get-insert_other}
use Rattle.own_heap.specs.declared.record.Field.{Field}
use Rattle.own_heap.specs.declared.record.Field.TheVariants.{Nothing, Number, Reference, Hidden}
use Rattle.own_heap.specs.declared.record.Record.{Record}
use Rattle.own_heap.specs.declared.record.RecordId.{RecordId}
use Rattle.own_heap.specs.Records.{address_of, place_of, start_of, word_of, object_of, objects_of, slot, RefersTo, IsMade}
use Rattle.own_heap.proofs.Fields.{child_fields}
use Rattle.own_heap.proofs.Slots.{stands, slot_at, place_of-address, points_is, object_in, get-objects, address_at}

-- an object is a record
pub stands_at : (slots : List (Option Record)) (b : RecordId) (o : Object) → get (objects_of slots) (address_of b.place) ≡ Some o → IsTrue (is_some (slot slots b.place))
stands_at slots b o here =
    let s = stands slots (address_of b.place) o here in
    let place = same_Some s.place b.place (sym s.at ∙ place_of-address b.place) in
    ap is_some (ap (slot slots) (sym place) ∙ s.slot)

-- a field points to a record just if it refers to it
field_points : (slots : List (Option Record)) (f : Field) (b : RecordId) → points (objects_of slots) (word_of f) ≡ Some (address_of b.place) → (f ≡ Reference b) × IsTrue (is_some (slot slots b.place))
field_points slots f b is = at f (get (objects_of slots) (start_of (word_of f))) refl (sym (points_is slots (word_of f)) ∙ is)
  where
    same : (x : RecordId) → x.place ≡ b.place → x ≡ b
    same x e = λ i. record { place = e i }

    at : (f : Field) (o : Option Object) → get (objects_of slots) (start_of (word_of f)) ≡ o → option_map (λ _. start_of (word_of f)) o ≡ Some (address_of b.place) → (f ≡ Reference b) × IsTrue (is_some (slot slots b.place))
    at f None here e = absurd (none-some (address_of b.place) e)
    at Nothing (Some o) here e = absurd (let zero = same_Some 0 (address_of b.place) e in omega (arith, zero))
    at (Number n) (Some o) here e = absurd (let zero = same_Some 0 (address_of b.place) e in omega (arith, zero))
    at (Hidden id) (Some o) here e = absurd (let start = same_Some (start_of (address_of id.place + 4)) (address_of b.place) e in omega (arith, start))
    at (Reference id) (Some o) here e =
        let start = same_Some (start_of (address_of id.place)) (address_of b.place) e in
        let place : id.place ≡ b.place = omega (arith, start) in
        (ap Reference (same id place), stands_at slots b o (subst (λ a. get (objects_of slots) a ≡ Some o) start here))

pub reference_points : (slots : List (Option Record)) (b : RecordId) → IsTrue (is_some (slot slots b.place)) → points (objects_of slots) (address_of b.place) ≡ Some (address_of b.place)
reference_points slots b here = points_is slots (address_of b.place) ∙ ap (λ a. option_map (λ _. a) (get (objects_of slots) a)) start ∙ at (slot slots b.place) refl here
  where
    start : start_of (address_of b.place) ≡ address_of b.place
    start = omega arith

    at : (s : Option Record) → slot slots b.place ≡ s → IsTrue (is_some s) → option_map (λ _. address_of b.place) (get (objects_of slots) (address_of b.place)) ≡ Some (address_of b.place)
    at None is h = absurd (both_ways false refl h)
    at (Some r) is h = ap (option_map (λ _. address_of b.place)) (slot_at slots (address_of b.place) b.place (Some r) (place_of-address b.place) is)

pub references_are_children : (slots : List (Option Record)) (a b : RecordId) → RefersTo slots a b ↔ Child (objects_of slots) (address_of a.place) (address_of b.place)
references_are_children slots a b = (
  λ r. (child_fields objects r.from (address_of a.place) (address_of b.place) (slot_at slots (address_of a.place) a.place (Some r.from) (place_of-address a.place) r.at)).1
      (r.field, r.within, ap (λ f. points objects (word_of f)) r.is ∙ reference_points slots b r.stands),
  λ c.
      let s = stands slots (address_of a.place) c.object c.here in
      let place = same_Some s.place a.place (sym s.at ∙ place_of-address a.place) in
      let field = (child_fields objects s.read (address_of a.place) (address_of b.place) (c.here ∙ ap Some (sym s.object))).0 c in
      let both = field_points slots (get_or s.read.fields field.0 Nothing) b field.2 in
      record { from = s.read; at = ap (slot slots) (sym place) ∙ s.slot; field = field.0; within = field.1; is = both.0; stands = both.1 },
)
  where
    objects : Map Object
    objects = objects_of slots

-- a record that is made is an object more, which wasn't there
pub made_is_inserted : (old new : List (Option Record)) (id : RecordId) (made : Record) → IsMade old new id made → objects_of new ≡ insert (objects_of old) (address_of id.place) (object_of made)
made_is_inserted old new id made m =
    ap objects_of m.is
    ∙ same_map nat_cmp_total nat_cmp-IsAntisymmetric _ _ (λ q. ⊎_elim (here q) (elsewhere q) (cases_eq q (address_of id.place)))
  where
    added : List (Option Record)
    added = set old id.place (Some made)

    here : (q : ℕ) → q ≡ address_of id.place → get (objects_of added) q ≡ get (insert (objects_of old) (address_of id.place) (object_of made)) q
    here q is =
        slot_at added q id.place (Some made) (ap place_of is ∙ place_of-address id.place) (get_or-set_same old id.place (Some made) None m.within)
        ∙ sym (ap (get (insert (objects_of old) (address_of id.place) (object_of made))) is ∙ get-insert_same (objects_of old) (address_of id.place) (object_of made))

    elsewhere : (q : ℕ) → q ≢ address_of id.place → get (objects_of added) q ≡ get (insert (objects_of old) (address_of id.place) (object_of made)) q
    elsewhere q far = get-objects added q ∙ at (place_of q) refl ∙ sym (get-insert_other (objects_of old) (address_of id.place) (object_of made) q far ∙ get-objects old q)
      where
        at : (p : Option ℕ) → place_of q ≡ p → object_in added p ≡ object_in old p
        at None is = refl
        at (Some i) is = ap (option_map object_of) (get_or-set_other old id.place i (Some made) None (λ same. far (address_at q i is ∙ ap address_of same)))
