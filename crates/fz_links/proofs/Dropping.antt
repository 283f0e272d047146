-- Links that a test drops, one place after another from the back.
use Rattle.std.proofs.Common.{◌≡◌, ◌≢◌, ◌≤◌, ◌<◌, ℕ, ◌+◌, ◌-◌, Bool, true, false, cond, not, List, length, take, slice_get, slice_set, slice_index_or, get_or, Option, Some, None, nat_cmp, refl, sym, ap, subst, ◌∙◌, ⊎_elim, arith}
use Rattle.std.proofs.lemmas.Bool.{cases_eq}
use Rattle.std.proofs.lemmas.List.{get_or-take, get_or-set_same, get_or-set_other, length-set, length-take}
use Rattle.std.proofs.lemmas.Option.{same_Some, slice_get_within, get_or_from_slice_get, slice_get-get_or}
use Rattle.std.specs.List.{swap_remove}
use Rattle.std.specs.Option.{option_map_or}
use Rattle.std.specs.Cmp.{nat_cmp_total}
use Rattle.std.specs.FinMap.{get, remove, from_entries, same_map, nat_cmp-IsAntisymmetric}
use Rattle.fz_model.specs.State.{Map}
use Rattle.fz_model.proofs.Lists.{place_of}
use Rattle.fz_model.proofs.Maps.{get-retain, get-remove_same, get-remove_other}
use Rattle.fz_model.proofs.KeyedEntries.{listed}
use Rattle.fz_links.specs.Dropped.{without}

-- from a place on, the test drops nothing
abbrev pub StaysFrom : (ℕ → ℕ → Bool) → ℕ → List (ℕ × ℕ) → Type 0
StaysFrom test place es = (i : ℕ) (e : ℕ × ℕ) → place ≤ i → slice_get es i ≡ Some e → test e.0 e.1 ≡ false

-- from a place on, what the test drops is gone
pub record IsSifted (test : ℕ → ℕ → Bool) (old : Map ℕ) (place : ℕ) (es : List (ℕ × ℕ)) : Type 0 where
  pub stay : StaysFrom test place es
  pub same : without test (from_entries es) ≡ without test old

pub length-swap_remove : (es : List (ℕ × ℕ)) (place : ℕ) (gone : ℕ × ℕ) → length (swap_remove es place gone) ≡ length es - 1
length-swap_remove es place gone =
    let cut = length-take (length es - 1) (slice_set es place (slice_index_or es (length es - 1) gone)) in
    let len = length-set es place (slice_index_or es (length es - 1) gone) in
    omega (arith, cut, len)

module _ (test : ℕ → ℕ → Bool) where
  abbrev stays : ℕ → Option ℕ → Option ℕ
  stays q o = cond (option_map_or (λ target. not (test q target)) o false) o None

  get-without : (m : Map ℕ) (q : ℕ) → get (without test m) q ≡ stays q (get m q)
  get-without m q = get-retain m (λ link. option_map_or (λ target. not (test link target)) (get m link) false) q

  -- to remove what the test drops changes nothing of what is left
  pub without-remove : (m : Map ℕ) (k target : ℕ) → get m k ≡ Some target → test k target ≡ true → without test (remove m k) ≡ without test m
  without-remove m k target here drops =
      same_map nat_cmp_total nat_cmp-IsAntisymmetric _ _ (λ q. get-without (remove m k) q ∙ ⊎_elim (at_key q) (elsewhere q) (cases_eq q k) ∙ sym (get-without m q))
    where
      at_key : (q : ℕ) → q ≡ k → stays q (get (remove m k) q) ≡ stays q (get m q)
      at_key q is =
          subst (λ q. stays q (get (remove m k) q) ≡ stays q (get m q)) (sym is)
          (ap (stays k) (get-remove_same m k) ∙ sym (ap (stays k) here ∙ ap (λ b. cond (not b) (Some target) None) drops))

      elsewhere : (q : ℕ) → q ≢ k → stays q (get (remove m k) q) ≡ stays q (get m q)
      elsewhere q ne = ap (stays q) (get-remove_other m k q ne)

  -- so where it drops nothing at all, all is left
  pub without_none : (es : List (ℕ × ℕ)) → StaysFrom test 0 es → without test (from_entries es) ≡ from_entries es
  without_none es none =
      same_map nat_cmp_total nat_cmp-IsAntisymmetric _ _ (λ q. get-without (from_entries es) q ∙ each q (get (from_entries {R = nat_cmp} es) q) refl)
    where
      each : (q : ℕ) (o : Option ℕ) → get (from_entries {R = nat_cmp} es) q ≡ o → stays q o ≡ o
      each q None is = refl
      each q (Some target) is =
          let at = place_of es (q, target) (listed es q target is) in
          ap (λ b. cond (not b) (Some target) None) (none at.0 (q, target) (omega arith) at.1)

  -- the last comes to the place of one that goes
  pub stays_swapped : (es : List (ℕ × ℕ)) (place : ℕ) (gone : ℕ × ℕ) → place < length es → StaysFrom test (place + 1) es → StaysFrom test place (swap_remove es place gone)
  stays_swapped es place gone within stay i e from here =
      ⊎_elim
      (λ (is : i ≡ place).
      let e_is : e ≡ last = sym there ∙ ap (λ k. get_or changed k e) is ∙ get_or-set_same es place last e within in
      subst (λ (e : ℕ × ℕ). test e.0 e.1 ≡ false) (sym e_is) (stay n last (omega (arith, is, lt)) (slice_get-get_or es n gone (omega (arith, within)))))
      (λ (ne : i ≢ place).
      let e_is : e ≡ get_or es i e = sym there ∙ get_or-set_other es place i last e ne in
      subst (λ (e : ℕ × ℕ). test e.0 e.1 ≡ false) (sym e_is) (stay i (get_or es i e) (omega (arith, from, ne)) (slice_get-get_or es i e (omega (arith, lt)))))
      (cases_eq i place)
    where
      n : ℕ
      n = length es - 1

      last : ℕ × ℕ
      last = get_or es n gone

      changed : List (ℕ × ℕ)
      changed = slice_set es place last

      lt : i < n
      lt = let inside = slice_get_within (take n changed) i e here in omega (arith, inside, length-take n changed)

      there : get_or changed i e ≡ e
      there = sym (get_or-take n changed i e lt) ∙ get_or_from_slice_get (take n changed) i e e here

  pub sifted_kept : (old : Map ℕ) (es : List (ℕ × ℕ)) (place link target : ℕ) → IsSifted test old (place + 1) es → slice_get es place ≡ Some (link, target) → test link target ≡ false → IsSifted test old place es
  sifted_kept old es place link target are here keeps = record {
    stay = λ i e from at.
        ⊎_elim
        (λ (is : i ≡ place).
        let e_is : (link, target) ≡ e = same_Some (link, target) e (sym here ∙ ap (slice_get es) (sym is) ∙ at) in
        subst (λ (e : ℕ × ℕ). test e.0 e.1 ≡ false) e_is keeps)
        (λ (ne : i ≢ place). are.stay i e (omega (arith, from, ne)) at)
        (cases_eq i place);
    same = are.same;
  }

  pub sifted_dropped : (old : Map ℕ) (es ns : List (ℕ × ℕ)) (place link target : ℕ) → IsSifted test old (place + 1) es → place < length es → get (from_entries {R = nat_cmp} es) link ≡ Some target → test link target ≡ true → ns ≡ swap_remove es place (link, target) → from_entries {R = nat_cmp} ns ≡ remove (from_entries es) link → IsSifted test old place ns
  sifted_dropped old es ns place link target are within here drops is left = record {
    stay = subst (StaysFrom test place) (sym is) (stays_swapped es place (link, target) within are.stay);
    same = ap (without test) left ∙ without-remove (from_entries es) link target here drops ∙ are.same;
  }

  pub sifted_all : (old : Map ℕ) (es : List (ℕ × ℕ)) → IsSifted test old 0 es → from_entries es ≡ without test old
  sifted_all old es are = sym (without_none es are.stay) ∙ are.same
