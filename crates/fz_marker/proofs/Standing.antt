-- On which pages an object lies, by its words and by its start.
use Rattle.std.proofs.Common.{◌≡◌, ◌≢◌, ℕ, ◌+◌, ◌≤◌, ◌<◌, Bool, true, false, length, Option, Some, None, refl, sym, ap, ◌∙◌, subst, inl, inr, ⊎_elim, arith, IsTrue, IsFalse, option_map}
use Rattle.std.proofs.lemmas.Bool.{both_ways, cases_eq}
use Rattle.std.proofs.lemmas.Option.{none-some, same_Some}
use Rattle.std.specs.List.{list_any, range_with_len}
use Rattle.std.specs.Option.{option_map_or}
use Rattle.std.specs.FinSet.{contains}
use Rattle.std.specs.FinMap.{get}
use Rattle.fz_model.specs.declared.extent.Extent.{Extent}
use Rattle.fz_model.specs.State.{Map, Object}
use Rattle.fz_model.specs.Extents.{extents, extent_of, AreApart}
use Rattle.fz_model.specs.Allocation.{block_of, block_start}
use Rattle.fz_model.proofs.Lists.{any_in_range, any_of_range}
use Rattle.fz_model.proofs.Maps.{get-extents}
use Rattle.fz_model.proofs.Objects.{points_target, points_at, from_covers, to_covers}
use Rattle.fz_bits.specs.Flags.{Set}
use Rattle.fz_marker.specs.Marking.{is_on_noted}
use Rattle.fz_marker.specs.Cycles.{has_pointers}
use Rattle.fz_marker.specs.Standing.{HasWordOn, StandsOn}
use Rattle.fz_marker.proofs.Scanning.{pointers_words}

-- ---- an object's words

module _ (objects : Map Object) where
  size_here : (a : ℕ) (o : Object) → get objects a ≡ Some o → option_map_or (λ (o : Object). length o.words) (get objects a) 0 ≡ length o.words
  size_here a o is = ap (λ m. option_map_or (λ (o : Object). length o.words) m 0) is

  pub noted_word : (noted : Set) (a : ℕ) → IsTrue (is_on_noted objects noted a) → (page : ℕ) × IsTrue (contains noted page) × HasWordOn objects page a
  noted_word noted a h = at (get objects a) refl
    where
      at : (found : Option Object) → get objects a ≡ found → (page : ℕ) × IsTrue (contains noted page) × HasWordOn objects page a
      at None is = absurd (both_ways false refl (subst (λ m. IsTrue (list_any (λ address. contains noted (block_of address)) (range_with_len a (option_map_or (λ (o : Object). length o.words) m 0)))) is h))
      at (Some o) is =
          let word = any_in_range (λ address. contains noted (block_of address)) a (length o.words) (subst (λ n. IsTrue (list_any (λ address. contains noted (block_of address)) (range_with_len a n))) (size_here a o is) h) in
          (block_of word.0, word.3, record { object = o; here = is; address = word.0; after = word.1; before = word.2; on = refl })

  pub not_noted : (noted : Set) (a : ℕ) → ((page : ℕ) → IsTrue (contains noted page) → HasWordOn objects page a → ⊥) → IsFalse (is_on_noted objects noted a)
  not_noted noted a none = at (is_on_noted objects noted a) refl
    where
      at : (b : Bool) → is_on_noted objects noted a ≡ b → IsFalse (is_on_noted objects noted a)
      at false off = off
      at true on = let word = noted_word noted a on in absurd (none word.0 word.1 word.2)

  pub word_noted : (noted : Set) (page a : ℕ) → IsTrue (contains noted page) → HasWordOn objects page a → IsTrue (is_on_noted objects noted a)
  word_noted noted page a h w =
      any_of_range (λ address. contains noted (block_of address)) a _ w.address w.after (subst (λ n. w.address < a + n) (sym (size_here a w.object w.here)) w.before)
      (subst (λ p. IsTrue (contains noted p)) (sym w.on) h)

  -- ---- its start, and the first words of pages

  pub extent_here : (a : ℕ) (o : Object) → get objects a ≡ Some o → get (extents objects) a ≡ Some (extent_of o)
  extent_here a o is = get-extents objects a ∙ ap (option_map extent_of) is

  pub word_stands : AreApart (extents objects) → (page a : ℕ) → HasWordOn objects page a → StandsOn objects page a
  word_stands apart page a w =
      ⊎_elim inl
      (λ (ne : block_of a ≢ page).
      let on = w.on in
      let after = w.after in
      let before = w.before in
      let low : a ≤ block_start page = omega (arith, ne, on, after) in
      let near : block_start page ≤ w.address = omega (arith, ne, on, after) in
      inr (points_at (extents objects) apart a (block_start page) (extent_of w.object) (extent_here a w.object w.here) (to_covers a (block_start page) (extent_of w.object) low (omega (arith, near, before)))))
      (cases_eq (block_of a) page)

  object_of : (a : ℕ) (x : Extent) → get (extents objects) a ≡ Some x → (o : Object) × (get objects a ≡ Some o) × (x.size ≡ length o.words)
  object_of a x is = at (get objects a) refl (sym (get-extents objects a) ∙ is)
    where
      at : (found : Option Object) → get objects a ≡ found → option_map extent_of (get objects a) ≡ Some x → (o : Object) × (get objects a ≡ Some o) × (x.size ≡ length o.words)
      at None none e = absurd (none-some x (sym (ap (option_map extent_of) none) ∙ e))
      at (Some o) here e = (o, here, ap (λ (y : Extent). y.size) (sym (same_Some (extent_of o) x (sym (ap (option_map extent_of) here) ∙ e))))

  pub stands_word : (page a : ℕ) → StandsOn objects page a → IsTrue (has_pointers objects a) → HasWordOn objects page a
  stands_word page a (inl starts) readable =
      let o = pointers_words objects a readable in
      record { object = o.0; here = o.1; address = a; after = omega arith; before = (let some = o.2 in omega (arith, some)); on = starts }
  stands_word page a (inr first) readable =
      let x = points_target (extents objects) (block_start page) a first in
      let o = object_of a x.0 x.1 in
      let within = from_covers a (block_start page) x.0 x.2 in
      record {
        object = o.0;
        here = o.1;
        address = block_start page;
        after = within.0;
        before = (let size = o.2 in let high = within.1 in omega (arith, size, high));
        on = omega arith;
      }
