-- The values of ephemerons: what fields hide.
use Rattle.std.proofs.Common.{◌≡◌, ◌≢◌, ℕ, ◌+◌, ◌-◌, ◌%◌, List, Option, Some, None, Bool, option_map, is_some, get_or, slice_index, refl, sym, ap, ◌∙◌, subst, inl, inr, ⊎_elim, arith, IsTrue}
use Rattle.std.proofs.lemmas.Option.{same_Some, none-some}
use Rattle.std.specs.Prelude.{option_and_then, unwrap_or}
use Rattle.std.specs.FinMap.{get}
use Rattle.fz_model.specs.Memory.{points, word_at}
use Rattle.fz_model.specs.Reachability.{Leads, Itself, OneMore}
use Rattle.fz_model.specs.State.{Map, Object}
use Rattle.fz_pass.specs.Holds.{IsOfValue}
use Rattle.fz_pass.specs.Marks.{IsClosed}
use Rattle.fz_pass.specs.Marks as pass
use Rattle.own_heap.specs.declared.marks.Marks.{Marks}
use Rattle.own_heap.specs.declared.record.Field.{Field}
use Rattle.own_heap.specs.declared.record.Field.TheVariants.{Nothing, Number, Reference, Hidden}
use Rattle.own_heap.specs.declared.record.Record.{Record}
use Rattle.own_heap.specs.declared.record.RecordId.{RecordId}
use Rattle.own_heap.specs.Records.{address_of, start_of, word_of, words_of, object_of, objects_of, slot, value_of, Hides, HiddenAreValues}
use Rattle.own_heap.specs.Marking.{is_marked}
use Rattle.own_heap.proofs.Collected.{zero_nowhere}
use Rattle.own_heap.proofs.Fields.{word_in}
use Rattle.own_heap.proofs.Slots.{stands, slot_at, place_of-address, points_is}
use Rattle.own_heap.proofs.References.{reference_points, stands_at}

-- ---- marking a value

pub marks_no_value : (slots : List (Option Record)) (marks : Marks) (word : ℕ) → IsClosed (objects_of slots) (is_marked marks) → value_of (objects_of slots) word ≡ None
    → pass.Marks (Unit {0}) (objects_of slots) (is_marked marks) (is_marked marks) (IsOfValue value_of (objects_of slots) word)
marks_no_value slots marks word closed none = record {
  closed = closed;
  least = λ a. ⊎_elim (λ on. on) (λ (first, is, leads). absurd (none-some first (sym none ∙ is)));
  most = λ _ a. inl;
}

leads_on : (objects : Map Object) (marked : ℕ → Bool) (a b : ℕ) → IsClosed objects marked → IsTrue (marked a) → Leads objects a b → IsTrue (marked b)
leads_on objects marked a b closed on Itself = on
leads_on objects marked a b closed on (OneMore {b = c} leads child) = closed c b (leads_on objects marked a c closed on leads) child

pub marks_old_value : (slots : List (Option Record)) (marks : Marks) (word object : ℕ) → IsClosed (objects_of slots) (is_marked marks) → value_of (objects_of slots) word ≡ Some object → IsTrue (is_marked marks object)
    → pass.Marks (Unit {0}) (objects_of slots) (is_marked marks) (is_marked marks) (IsOfValue value_of (objects_of slots) word)
marks_old_value slots marks word object closed some marked = record {
  closed = closed;
  least = λ a. ⊎_elim (λ on. on)
      (λ (first, is, leads). leads_on (objects_of slots) (is_marked marks) first a closed (subst (λ o. IsTrue (is_marked marks o)) (same_Some object first (sym some ∙ is)) marked) leads);
  most = λ _ a. inl;
}

pub marks_value : (objects : Map Object) (old new : ℕ → Bool) (word object : ℕ) → value_of objects word ≡ Some object → pass.Marks (Unit {0}) objects old new (Leads objects object)
    → pass.Marks (Unit {0}) objects old new (IsOfValue value_of objects word)
marks_value objects old new word object some m = record {
  closed = m.closed;
  least = λ a. ⊎_elim (λ was. m.least a (inl was)) (λ (first, is, leads). m.least a (inr (subst (λ o. Leads objects o a) (same_Some first object (sym is ∙ some)) leads)));
  most = λ e a on. ⊎_elim inl (λ leads. inr (object, some, leads)) (m.most e a on);
}

-- ---- the word of a field

-- no record has the word
pub no_word : (objects : Map Object) (word : ℕ) → points objects word ≡ None → word_at objects word ≡ 0
no_word objects word none = ap (λ p. unwrap_or (option_and_then (λ start. option_map (λ (o : Object). slice_index o.words (word - start)) (get objects start)) p) 0) none

-- the record at this start has it
pub word_in_record : (objects : Map Object) (word start : ℕ) (r : Record) → points objects word ≡ Some start → get objects start ≡ Some (object_of r) → word_at objects word ≡ slice_index (words_of r) (word - start)
word_in_record objects word start r there here =
    ap (λ p. unwrap_or (option_and_then (λ s. option_map (λ (o : Object). slice_index o.words (word - s)) (get objects s)) p) 0) there
    ∙ ap (λ g. unwrap_or (option_map (λ (o : Object). slice_index o.words (word - start)) g) 0) here

pub value_none : (slots : List (Option Record)) (word : ℕ) → points (objects_of slots) word ≡ None → value_of (objects_of slots) word ≡ None
value_none slots word none = ap (λ w. points (objects_of slots) (w - 4)) (no_word (objects_of slots) word none) ∙ zero_nowhere slots

-- a number is at most three past its start
pub low_in : (slots : List (Option Record)) (word start : ℕ) → points (objects_of slots) word ≡ Some start → (start ≡ start_of word) × (get (objects_of slots) start ≢ None)
low_in slots word start there = at (get (objects_of slots) (start_of word)) refl (sym (points_is slots word) ∙ there)
  where
    at : (o : Option Object) → get (objects_of slots) (start_of word) ≡ o → option_map (λ _. start_of word) o ≡ Some start → (start ≡ start_of word) × (get (objects_of slots) start ≢ None)
    at None here e = absurd (none-some start e)
    at (Some o) here e =
        let same = sym (same_Some (start_of word) start e) in
        (same, λ none. none-some o (sym none ∙ ap (get (objects_of slots)) same ∙ here))

pub value_in : (slots : List (Option Record)) (word start : ℕ) (r : Record) → points (objects_of slots) word ≡ Some start → get (objects_of slots) start ≡ Some (object_of r)
    → value_of (objects_of slots) word ≡ points (objects_of slots) (word_of (get_or r.fields (word % 4) Nothing) - 4)
value_in slots word start r there here =
    let same = (low_in slots word start there).0 in
    let offset : word - start ≡ word % 4 = omega (arith, same) in
    ap (λ w. points (objects_of slots) (w - 4)) (word_in_record (objects_of slots) word start r there here ∙ ap (slice_index (words_of r)) offset ∙ word_in r (word % 4) 0 (omega arith))

-- ---- what a field hides

hides_only : (slots : List (Option Record)) (f : Field) (b : RecordId) → points (objects_of slots) (word_of f - 4) ≡ Some (address_of b.place) → (f ≡ Hidden b) × IsTrue (is_some (slot slots b.place))
hides_only slots f b is = at f (get (objects_of slots) (start_of (word_of f - 4))) refl (sym (points_is slots (word_of f - 4)) ∙ is)
  where
    same : (x : RecordId) → x.place ≡ b.place → x ≡ b
    same x e = λ i. record { place = e i }

    at : (f : Field) (o : Option Object) → get (objects_of slots) (start_of (word_of f - 4)) ≡ o → option_map (λ _. start_of (word_of f - 4)) o ≡ Some (address_of b.place) → (f ≡ Hidden b) × IsTrue (is_some (slot slots b.place))
    at f None here e = absurd (none-some (address_of b.place) e)
    at Nothing (Some o) here e = absurd (let zero = same_Some 0 (address_of b.place) e in omega (arith, zero))
    at (Number n) (Some o) here e = absurd (let zero = same_Some 0 (address_of b.place) e in omega (arith, zero))
    at (Reference id) (Some o) here e = absurd (let start = same_Some (start_of (address_of id.place - 4)) (address_of b.place) e in omega (arith, start))
    at (Hidden id) (Some o) here e =
        let start = same_Some (start_of (address_of id.place + 4 - 4)) (address_of b.place) e in
        let place : id.place ≡ b.place = omega (arith, start) in
        (ap Hidden (same id place), stands_at slots b o (subst (λ a. get (objects_of slots) a ≡ Some o) start here))

pub hidden_are_values : (slots : List (Option Record)) → HiddenAreValues slots
hidden_are_values slots a b k low = (
  λ h.
      let here = slot_at slots (address_of a.place) a.place (Some h.from) (place_of-address a.place) h.at in
      in_record h.from here ∙ ap (λ f. points objects (word_of f - 4)) h.is ∙ ap (points objects) back ∙ reference_points slots b h.exists,
  λ is. by (points objects word) refl is,
)
  where
    objects : Map Object
    objects = objects_of slots

    word : ℕ
    word = address_of a.place + k

    start : start_of word ≡ address_of a.place
    start = omega (arith, low)

    offset : word % 4 ≡ k
    offset = omega (arith, low)

    back : address_of b.place + 4 - 4 ≡ address_of b.place
    back = omega arith

    there : (r : Record) → get objects (address_of a.place) ≡ Some (object_of r) → points objects word ≡ Some (address_of a.place)
    there r here = points_is slots word ∙ ap (λ s. option_map (λ _. s) (get objects s)) start ∙ ap (option_map (λ _. address_of a.place)) here

    in_record : (r : Record) → get objects (address_of a.place) ≡ Some (object_of r) → value_of objects word ≡ points objects (word_of (get_or r.fields k Nothing) - 4)
    in_record r here = value_in slots word (address_of a.place) r (there r here) here ∙ ap (λ i. points objects (word_of (get_or r.fields i Nothing) - 4)) offset

    of_object : (o : Object) → get objects (address_of a.place) ≡ Some o → value_of objects word ≡ Some (address_of b.place) → Hides slots a k b
    of_object o here is =
        let s = stands slots (address_of a.place) o here in
        let place = same_Some s.place a.place (sym s.at ∙ place_of-address a.place) in
        let both = hides_only slots (get_or s.read.fields k Nothing) b (sym (in_record s.read (here ∙ ap Some (sym s.object))) ∙ is) in
        record { from = s.read; at = ap (slot slots) (sym place) ∙ s.slot; is = both.0; exists = both.1 }

    by : (p : Option ℕ) → points objects word ≡ p → value_of objects word ≡ Some (address_of b.place) → Hides slots a k b
    by None none is = absurd (none-some (address_of b.place) (sym (value_none slots word none) ∙ is))
    by (Some x) some is =
        let found = low_in slots word x some in
        let same : x ≡ address_of a.place = found.0 ∙ start in
        at (get objects (address_of a.place)) refl (λ none. found.1 (ap (get objects) same ∙ none))
      where
        at : (o : Option Object) → get objects (address_of a.place) ≡ o → (get objects (address_of a.place) ≢ None) → Hides slots a k b
        at None none some_there = absurd (some_there none)
        at (Some o) here some_there = of_object o here is
