-- A copy of a heap lists the words of its objects, finds links by the words that they denote, and has the values of ephemerons whose words aren't cleared.
-- code: fz_why/src/snapshot.rt
use Rattle.std.proofs.Common.{◌≡◌, ℕ, ◌++◌, Bool, true, false, true≢false, cond, if◌then◌else◌, nat_cmp, nat_eq, [], ◌∷◌, Option, Some, None, option_and_then, ⊎_elim, refl, sym, ap, ◌∙◌}
use Rattle.std.proofs.lemmas.Bool.{cases_eq, eqb-true, eq-eqb}
use Rattle.std.proofs.lemmas.Option.{none-some, same_Some}
use Rattle.std.specs.FinMap.{get, empty, get-empty}
use Rattle.std.specs.Map.{lookup}
use Rattle.std.specs.Option.{option_map_or}
use Rattle.fz_model.specs.Memory.{filled, word_at}
use Rattle.fz_model.specs.declared.kinds.ObjKind.TheVariants.{Scanned}
use Rattle.fz_model.specs.State.{Map, Object}
use Rattle.fz_model.proofs.Maps.{get-insert_same, get-insert_other}
use Rattle.fz_model.proofs.SeenKept.{points-filled}
use Rattle.fz_why.specs.declared.snapshot.listing.Cell.{Cell}
use Rattle.fz_why.specs.declared.snapshot.listing.TheConstants.{HIDDEN}
use Rattle.fz_why.specs.Paths.{AreLinks, ArePointers, AreValues, all_pointers}
use Rattle.fz_why.specs.Hosts.{are_all, word_filled}
use Rattle.fz_why.specs.Snapshot.{Cells, Links, back, hidden_at, is_same, link_of, linked_at, listed, objects_of, place_of, value_of, with_cell, word_of, words_in}

-- each object is one that is scanned
abbrev AreScanned : Map Object → Type 0
AreScanned objects = (a : ℕ) (o : Object) → get objects a ≡ Some o → o.kind ≡ Scanned

scanned_on : (cells : Cells) (objects : Map Object) → AreScanned objects → AreScanned (listed objects cells)
scanned_on [] objects are = are
scanned_on (e ∷ es) objects are = scanned_on es (with_cell objects e.1) more
  where
    more : AreScanned (with_cell objects e.1)
    more a o at =
        ⊎_elim
        (λ (same : a ≡ e.1.object). ap (λ (x : Object). x.kind) (same_Some o (record { kind = Scanned; birth = 0; words = words_in objects e.1.object ++ e.1.value ∷ [] }) (sym at ∙ ap (get (with_cell objects e.1)) same ∙ get-insert_same objects e.1.object (record { kind = Scanned; birth = 0; words = words_in objects e.1.object ++ e.1.value ∷ [] }))))
        (λ other. are a o (sym (get-insert_other objects e.1.object (record { kind = Scanned; birth = 0; words = words_in objects e.1.object ++ e.1.value ∷ [] }) a other) ∙ at))
        (cases_eq a e.1.object)

scanned : (cells : Cells) → AreScanned (objects_of cells)
unfolding objects_of
scanned cells = scanned_on cells empty (λ a o at. absurd (none-some o (sym (get-empty nat_cmp a) ∙ at)))

pub words_point : (cells : Cells) (a : ℕ) → ArePointers (objects_of cells) a (all_pointers (objects_of cells) a)
words_point cells a = are_all (objects_of cells) a (scanned cells a)

pub same_some : (o : Option ℕ) (n : ℕ) → is_same o n ≡ true → o ≡ Some n
same_some None n e = absurd (true≢false (sym e))
same_some (Some m) n e = ap Some (eqb-true m n e)

pub is_itself : (n : ℕ) → is_same (Some n) n ≡ true
is_itself n = eq-eqb n n refl

module _ (f g : ℕ → Option ℕ) (x y : ℕ) where
  -- two that lead to each other
  pub back_met : back f g x ≡ Some y → (f x ≡ Some y) × (g y ≡ Some x)
  back_met e = one (f x) refl e
    where
      two : (z : ℕ) → f x ≡ Some z → (b : Bool) → is_same (g z) x ≡ b → (if b then Some z else None) ≡ Some y → (f x ≡ Some y) × (g y ≡ Some x)
      two z at true is e = (at ∙ e, ap g (sym (same_Some z y e)) ∙ same_some (g z) x is)
      two z at false is e = absurd (none-some y e)

      one : (o : Option ℕ) → f x ≡ o → option_and_then (λ z. if is_same (g z) x then Some z else None) o ≡ Some y → (f x ≡ Some y) × (g y ≡ Some x)
      one None at e = absurd (none-some y e)
      one (Some z) at e = two z at (is_same (g z) x) refl e

  pub back_made : f x ≡ Some y → g y ≡ Some x → back f g x ≡ Some y
  back_made at there =
      ap (option_and_then (λ z. if is_same (g z) x then Some z else None)) at ∙ ap (λ (o : Option ℕ). if is_same o x then Some y else None) there ∙ ap (λ (b : Bool). if b then Some y else None) (is_itself x)

pub links_found : (cells : Cells) (links : Links) → AreLinks (place_of cells links) (link_of cells links)
links_found cells links number word = (
  λ e. let m = back_met (linked_at cells) (word_of links) word number e in back_made (word_of links) (linked_at cells) number word m.1 m.0,
  λ e. let m = back_met (word_of links) (linked_at cells) number word e in back_made (linked_at cells) (word_of links) word number m.1 m.0,
)

pub values_stay : (cells : Cells) (links : Links) → AreValues (place_of cells links) (value_of cells links)
values_stay cells links objects test number zero placed = one (place_of cells links number)
  where
    after : Map Object
    after = filled test 0 objects

    hidden_stays : (word : ℕ) → hidden_at cells after word ≡ hidden_at cells objects word
    hidden_stays word = λ i. option_and_then (λ (c : Cell). points-filled test 0 objects c.hidden i) (lookup (nat_eq word) cells)

    -- of a word that is zero, and of one that is unchanged
    two : (word : ℕ) (b : Bool) → (if nat_eq (cond b 0 (word_at objects word)) HIDDEN then hidden_at cells after word else None) ≡ (if b then None else (if nat_eq (word_at objects word) HIDDEN then hidden_at cells objects word else None))
    two word true = refl
    two word false = ap (λ (o : Option ℕ). if nat_eq (word_at objects word) HIDDEN then o else None) (hidden_stays word)

    one : (p : Option ℕ) → option_and_then (λ word. if nat_eq (word_at after word) HIDDEN then hidden_at cells after word else None) p
        ≡ (if option_map_or test p false then None else option_and_then (λ word. if nat_eq (word_at objects word) HIDDEN then hidden_at cells objects word else None) p)
    one None = refl
    one (Some word) = ap (λ n. if nat_eq n HIDDEN then hidden_at cells after word else None) (word_filled test objects word) ∙ two word (test word)
