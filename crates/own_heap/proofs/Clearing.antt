-- The objects after a field is cleared.
use Rattle.std.proofs.Common.{◌≡◌, ◌≢◌, ℕ, zero, suc, ◌+◌, ◌%◌, ◌<◌, ◌≤◌, ◌⊎◌, inl, inr, ◌==◌, cond, List, [], ◌∷◌, length, set, get_or, Option, Some, None, option_map, refl, sym, ap, ◌∙◌, subst, arith, ⊎_elim, get_or-set_same, get_or-set_other}
use Rattle.std.proofs.lemmas.Bool.{eq-eqb, ne_eqb, cases_eq, cases_lt}
use Rattle.std.proofs.lemmas.List.{get_or_past}
use Rattle.std.proofs.lemmas.Option.{none-some}
use Rattle.std.specs.Cmp.{nat_cmp_total}
use Rattle.std.specs.FinMap.{get, same_map, nat_cmp-IsAntisymmetric}
use Rattle.fz_model.specs.Memory.{written, fill}
use Rattle.fz_model.proofs.Maps.{filling, get-mapped}
use Rattle.own_heap.specs.declared.record.Field.{Field}
use Rattle.own_heap.specs.declared.record.Field.TheVariants.{Nothing, Number, Reference, Hidden}
use Rattle.own_heap.specs.declared.record.Record.{Record}
use Rattle.own_heap.specs.Records.{cleared, field_at, place_of, start_of, word_of, words_of, object_of, objects_of, with_cleared, AreFieldsKept}
use Rattle.own_heap.proofs.Slots.{object_in, get-objects, address_at, slice_low, slot_at}

-- ---- words

emptied : (fields : List Field) (k : ℕ) → get_or (set fields k (cleared (get_or fields k Nothing))) k Nothing ≡ cleared (get_or fields k Nothing)
emptied [] k = refl
emptied (f ∷ fields) zero = refl
emptied (f ∷ fields) (suc k) = emptied fields k

no_word : (f : Field) → word_of (cleared f) ≡ 0
no_word Nothing = refl
no_word (Number n) = refl
no_word (Reference id) = refl
no_word (Hidden id) = refl

field_cleared : (fields : List Field) (word k j a : ℕ) → a + k ≡ word + j → cond (a == word) 0 (word_of (get_or fields j Nothing)) ≡ word_of (get_or (set fields k (cleared (get_or fields k Nothing))) j Nothing)
field_cleared fields word k j a is =
    ⊎_elim
    (λ (same : j ≡ k). ap (λ b. cond b 0 (word_of (get_or fields j Nothing))) (eq-eqb a word (omega arith)) ∙ sym (subst (λ i. word_of (get_or (set fields k (cleared (get_or fields k Nothing))) i Nothing) ≡ 0) (sym same) (ap word_of (emptied fields k) ∙ no_word (get_or fields k Nothing))))
    (λ (other : j ≢ k).
    ap (λ b. cond b 0 (word_of (get_or fields j Nothing))) (ne_eqb a word (λ e. other (omega (arith, e, is)))) ∙ ap word_of (sym (get_or-set_other fields k j (cleared (get_or fields k Nothing)) Nothing other)))
    (cases_eq j k)

field_kept : (a word w : ℕ) → a ≢ word → cond (a == word) 0 w ≡ w
field_kept a word w other = ap (λ b. cond b 0 w) (ne_eqb a word other)

words_cleared : (r : Record) (a k word : ℕ) → word ≡ a + k → fill (λ x. x == word) 0 a (words_of r) ≡ words_of (with_cleared k r)
words_cleared r a k word is =
    let e0 = field_cleared r.fields word k 0 a (omega arith) in
    let e1 = field_cleared r.fields word k 1 (a + 1) (omega arith) in
    let e2 = field_cleared r.fields word k 2 (a + 1 + 1) (omega arith) in
    let e3 = field_cleared r.fields word k 3 (a + 1 + 1 + 1) (omega arith) in
    λ i. e0 i ∷ e1 i ∷ e2 i ∷ e3 i ∷ []

words_kept : (r : Record) (a word : ℕ) → ((k : ℕ) → k < 4 → word ≢ a + k) → fill (λ x. x == word) 0 a (words_of r) ≡ words_of r
words_kept r a word out =
    let e0 = field_kept a word (word_of (get_or r.fields 0 Nothing)) (λ e. out 0 (omega arith) (omega (arith, e))) in
    let e1 = field_kept (a + 1) word (word_of (get_or r.fields 1 Nothing)) (λ e. out 1 (omega arith) (omega (arith, e))) in
    let e2 = field_kept (a + 1 + 1) word (word_of (get_or r.fields 2 Nothing)) (λ e. out 2 (omega arith) (omega (arith, e))) in
    let e3 = field_kept (a + 1 + 1 + 1) word (word_of (get_or r.fields 3 Nothing)) (λ e. out 3 (omega arith) (omega (arith, e))) in
    λ i. e0 i ∷ e1 i ∷ e2 i ∷ e3 i ∷ []

-- ---- objects

get-written : (slots : List (Option Record)) (word q : ℕ) → get (written word 0 (objects_of slots)) q ≡ option_map (filling (λ x. x == word) 0 q) (object_in slots (place_of q))
unfolding written
get-written slots word q = get-mapped (filling (λ x. x == word) 0) (objects_of slots) q ∙ ap (option_map (filling (λ x. x == word) 0 q)) (get-objects slots q)

object_kept : (s : Option Record) (a word : ℕ) → ((k : ℕ) → k < 4 → word ≢ a + k) → option_map (filling (λ x. x == word) 0 a) (option_map object_of s) ≡ option_map object_of s
object_kept None a word out = refl
object_kept (Some r) a word out = ap (λ ws. Some (record (object_of r) { words = ws })) (words_kept r a word out)

module _ (slots : List (Option Record)) (word : ℕ) where
  -- no record has the word
  pub clears_nothing : get (objects_of slots) (start_of word) ≡ None → objects_of slots ≡ written word 0 (objects_of slots)
  clears_nothing none =
      same_map nat_cmp_total nat_cmp-IsAntisymmetric _ _ (λ q. get-objects slots q ∙ at q (place_of q) refl ∙ sym (get-written slots word q))
    where
      far : (q i : ℕ) → place_of q ≡ Some i → (r : Record) → get_or slots i None ≡ Some r → (k : ℕ) → k < 4 → word ≢ q + k
      far q i is r slot k low e =
          let here = address_at q i is in
          let start : start_of word ≡ q = omega (arith, here, e, low) in
          none-some (object_of r) (sym none ∙ ap (get (objects_of slots)) start ∙ slot_at slots q i (Some r) is slot)

      in_slot : (q i : ℕ) → place_of q ≡ Some i → (s : Option Record) → get_or slots i None ≡ s → option_map object_of s ≡ option_map (filling (λ x. x == word) 0 q) (option_map object_of s)
      in_slot q i is None slot = refl
      in_slot q i is (Some r) slot = sym (ap (λ ws. Some (record (object_of r) { words = ws })) (words_kept r q word (far q i is r slot)))

      at : (q : ℕ) (p : Option ℕ) → place_of q ≡ p → object_in slots p ≡ option_map (filling (λ x. x == word) 0 q) (object_in slots p)
      at q None is = refl
      at q (Some i) is = in_slot q i is (get_or slots i None) refl

  -- the record at a place has it
  pub clears_field : (place : ℕ) (r : Record) → place_of (start_of word) ≡ Some place → get_or slots place None ≡ Some r → place < length slots → objects_of (set slots place (Some (with_cleared (word % 4) r))) ≡ written word 0 (objects_of slots)
  clears_field place r is slot low =
      same_map nat_cmp_total nat_cmp-IsAntisymmetric _ _ (λ q. get-objects (set slots place new) q ∙ at q (place_of q) refl ∙ sym (get-written slots word q))
    where
      new : Option Record
      new = Some (with_cleared (word % 4) r)

      in_slot : (q i : ℕ) → place_of q ≡ Some i → option_map object_of (get_or (set slots place new) i None) ≡ option_map (filling (λ x. x == word) 0 q) (option_map object_of (get_or slots i None))
      in_slot q i at =
          let here = address_at q i at in
          let start = address_at (start_of word) place is in
          ⊎_elim
          (λ (same : i ≡ place).
          let split : word ≡ q + word % 4 = omega (arith, here, start, same) in
          ap (option_map object_of) (ap (λ k. get_or (set slots place new) k None) same ∙ get_or-set_same slots place new None low)
          ∙ sym (ap (λ ws. Some (record (object_of r) { words = ws })) (words_cleared r q (word % 4) word split))
          ∙ ap (λ s. option_map (filling (λ x. x == word) 0 q) (option_map object_of s)) (sym (ap (λ k. get_or slots k None) same ∙ slot)))
          (λ (other : i ≢ place).
          ap (option_map object_of) (get_or-set_other slots place i new None other)
          ∙ sym (object_kept (get_or slots i None) q word (λ k low e. other (omega (arith, here, start, low, e)))))
          (cases_eq i place)

      at : (q : ℕ) (p : Option ℕ) → place_of q ≡ p → object_in (set slots place new) p ≡ option_map (filling (λ x. x == word) 0 q) (object_in slots p)
      at q None is = refl
      at q (Some i) is = in_slot q i is

pub set_same : {X : Type 0} (xs : List X) (i : ℕ) (x : X) → get_or xs i x ≡ x → set xs i x ≡ xs
set_same [] i x is = refl
set_same (y ∷ xs) zero x is = ap (λ z. z ∷ xs) (sym is)
set_same (y ∷ xs) (suc i) x is = ap (λ zs. y ∷ zs) (set_same xs i x is)

-- the field that has the word is emptied, if a record has it
pub clears : (slots : List (Option Record)) (word place : ℕ) → place_of (start_of word) ≡ Some place → objects_of (set slots place (option_map (with_cleared (word % 4)) (get_or slots place None))) ≡ written word 0 (objects_of slots)
clears slots word place is = at (get_or slots place None) refl
  where
    at : (s : Option Record) → get_or slots place None ≡ s → objects_of (set slots place (option_map (with_cleared (word % 4)) s)) ≡ written word 0 (objects_of slots)
    at None slot = ap objects_of (set_same slots place None slot) ∙ clears_nothing slots word (slot_at slots (start_of word) place None is slot)
    at (Some r) slot = clears_field slots word place r is slot (low (cases_lt place (length slots)))
      where
        low : (place < length slots) ⊎ (length slots ≤ place) → place < length slots
        low (inl less) = less
        low (inr past) = absurd (none-some r (sym (get_or_past slots place None past) ∙ slot))

-- a field is unchanged, or it is the one that was cleared
pub fields_cleared : (slots : List (Option Record)) (place k : ℕ) → AreFieldsKept slots (set slots place (option_map (with_cleared k) (get_or slots place None)))
fields_cleared slots place k p j =
    ⊎_elim (λ (is : p ≡ place). subst (λ q. (field_at new q j ≡ field_at slots q j) ⊎ (field_at new q j ≡ option_map cleared (field_at slots q j))) (sym is) (at (get_or slots place None) refl))
    (λ far. inl (ap field (get_or-set_other slots place p (option_map (with_cleared k) (get_or slots place None)) None far))) (cases_eq p place)
  where
    new : List (Option Record)
    new = set slots place (option_map (with_cleared k) (get_or slots place None))

    field : Option Record → Option Field
    field = option_map (λ (r : Record). get_or r.fields j Nothing)

    at : (s : Option Record) → get_or slots place None ≡ s → (field_at (set slots place (option_map (with_cleared k) s)) place j ≡ field_at slots place j) ⊎ (field_at (set slots place (option_map (with_cleared k) s)) place j ≡ option_map cleared (field_at slots place j))
    at None is = inl (ap (λ xs. field_at xs place j) (set_same slots place None is))
    at (Some r) is =
        let now = ap field (get_or-set_same slots place (Some (with_cleared k r)) None (slice_low slots place r is)) in
        ⊎_elim (λ (same : j ≡ k). inr (now ∙ ap Some (ap (λ i. get_or (set r.fields k (cleared (get_or r.fields k Nothing))) i Nothing) same ∙ emptied r.fields k) ∙ ap (λ i. Some (cleared (get_or r.fields i Nothing))) (sym same) ∙ ap (option_map cleared) (sym (ap field is))))
        (λ (other : j ≢ k). inl (now ∙ ap Some (get_or-set_other r.fields k j (cleared (get_or r.fields k Nothing)) Nothing other) ∙ sym (ap field is))) (cases_eq j k)
