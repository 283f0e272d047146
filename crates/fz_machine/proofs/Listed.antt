-- A list that is filled from the entries of a map.
use Rattle.std.proofs.Common.{◌≡◌, ◌++◌, ◌≤◌, ◌<◌, ◌+◌, ℕ, false, not, filter, List, [], ◌∷◌, map, length, refl, sym, ap, ◌∙◌, append_assoc, append-nil, arith}
use Rattle.std.proofs.lemmas.List.{map-append, length-append, length-map}
use Rattle.std.specs.FinMap.{len}
use Rattle.fz_model.specs.State.{Map}
use Rattle.fz_model.proofs.KeyedEntries.{len_made}
use Rattle.fz_machine.specs.declared.item.Item.{Item}
use Rattle.fz_machine.specs.Items.{AreLinks, of_link, target_of}
use Rattle.fz_machine.specs.Regions.{is_marked, is_unmarked}

module _ {X Y : Type 0} (f : X → Y) (before : List Y) (es : List X) where
  -- the entries that were yielded are on the list, after what was there
  pub record AreListed (items : List Y) (done it : List X) : Type 0 where
    pub listed : items ≡ before ++ map f done
    pub few : length items + length it ≤ length before + length es
    pub rest : done ++ it ≡ es

  pub none_listed : AreListed before [] es
  none_listed = record { listed = sym (append-nil before); few = omega arith; rest = refl }

  module _ (items : List Y) (done it : List X) (are : AreListed items done it) where
    pub one_more : (new : List Y) (next : List X) (e : X) → new ≡ items ++ f e ∷ [] → it ≡ e ∷ next → AreListed new (done ++ e ∷ []) next
    one_more new next e is steps =
        let long = ap length is ∙ length-append items (f e ∷ []) in
        let left = ap length steps in
        let few = are.few in
        record {
          listed = is ∙ ap (λ xs. xs ++ f e ∷ []) are.listed ∙ append_assoc before (map f done) (f e ∷ []) ∙ ap (λ xs. before ++ xs) (sym (map-append f done (e ∷ [])));
          few = omega (arith, long, left, few);
          rest = append_assoc done (e ∷ []) next ∙ ap (λ xs. done ++ xs) (sym steps) ∙ are.rest;
        }

    pub all_listed : it ≡ [] → items ≡ before ++ map f es
    all_listed none = are.listed ∙ ap (λ xs. before ++ map f xs) (sym (append-nil done) ∙ ap (λ xs. done ++ xs) (sym none) ∙ are.rest)

    -- there is room for one more
    pub may_put : (room long : ℕ) (next : List X) (e : X) → it ≡ e ∷ next → long ≡ length items → length before + length es ≤ room → long < room
    may_put room long next e steps is enough = let left = ap length steps in let few = are.few in omega (arith, left, few, enough, is)

-- where nothing was told, all are listed
pub untold : (es : List (ℕ × ℕ)) → map (of_link false) es ≡ map (λ (e : ℕ × ℕ). of_link (is_unmarked [] (target_of e)) e) (filter (λ (e : ℕ × ℕ). not (is_marked [] (target_of e))) es)
untold [] = refl
untold (e ∷ es) = ap (λ xs. of_link false e ∷ xs) (untold es)

-- as many items as links
pub links_count : (links : Map ℕ) (items : List Item) → AreLinks target_of [] links items → length items ≡ len links
links_count links items are = ap length (are.2 ∙ sym (untold are.0)) ∙ length-map are.0 (of_link false) ∙ sym (len_made are.0 are.1.1) ∙ ap len are.1.0
