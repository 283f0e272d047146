-- The words of a record, one after the other.
use Rattle.std.proofs.Common.{◌≡◌, ℕ, ◌+◌, ◌<◌, ◌≤◌, length, map, Some, None, slice_get, slice_index, get_or, sym, ap, ◌∙◌, subst, arith}
use Rattle.std.specs.List.{range_with_len}
use Rattle.std.proofs.lemmas.List.FromFn.{get_or-map-range_with_len, length-map-range_with_len}
use Rattle.std.proofs.lemmas.Option.{slice_get_past, slice_get_within, get_or_from_slice_get}
use Rattle.std.specs.FinMap.{get}
use Rattle.fz_model.specs.State.{Map, Object}
use Rattle.fz_why.specs.declared.paths.Pointer.{Pointer}
use Rattle.fz_why.specs.Paths.{all_pointers}
use Rattle.fz_why.specs.Hosts.{all_are, all_none, all_at}
use Rattle.own_heap.specs.declared.record.Field.{Field}
use Rattle.own_heap.specs.declared.record.Field.TheVariants.{Nothing}
use Rattle.own_heap.specs.declared.record.Record.{Record}
use Rattle.own_heap.specs.Records.{object_of, word_of, words_of}

module _ (objects : Map Object) (a : ℕ) (index : ℕ) where
  pub pointer_none : get objects a ≡ None → slice_get (all_pointers objects a) index ≡ None
  pointer_none none = ap (λ xs. slice_get xs index) (all_none objects a none)

  module _ (r : Record) (here : get objects a ≡ Some (object_of r)) (size : length r.fields ≡ 4) where
    pub pointer_past : length r.fields ≤ index → slice_get (all_pointers objects a) index ≡ None
    pointer_past past =
        let n : length (words_of r) ≤ index = omega (arith, length-map-range_with_len (λ k. word_of (get_or r.fields k Nothing)) 0 4) in
        let pointer : ℕ → Pointer = λ k. record { word = a + k; value = slice_index (words_of r) k } in
        ap (λ xs. slice_get xs index) (all_are objects a (object_of r) here)
        ∙ slice_get_past (map pointer (range_with_len 0 (length (words_of r)))) index (subst (λ m. m ≤ index) (sym (length-map-range_with_len pointer 0 (length (words_of r)))) n)

    pub pointer_some : (f : Field) → slice_get r.fields index ≡ Some f → slice_get (all_pointers objects a) index ≡ Some (record { word = a + index; value = word_of f })
    pointer_some f at =
        let low : index < 4 = subst (λ m. index < m) size (slice_get_within r.fields index f at) in
        let n : index < length (words_of r) = omega (arith, length-map-range_with_len (λ k. word_of (get_or r.fields k Nothing)) 0 4) in
        let value : slice_index (words_of r) index ≡ word_of f = get_or-map-range_with_len (λ k. word_of (get_or r.fields k Nothing)) 0 4 index index 0 low (omega arith) ∙ ap word_of (get_or_from_slice_get r.fields index f Nothing at) in
        all_at objects a (object_of r) index here n ∙ ap (λ v. Some (record { word = a + index; value = v })) value
