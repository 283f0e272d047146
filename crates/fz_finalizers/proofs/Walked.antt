-- The walks over roots have what isn't finished.
use Rattle.std.proofs.Common.{◌≡◌, ◌↔◌, ◌++◌, ℕ, zero, suc, List, [], ◌∷◌, map, inl, inr, ⊎_elim, slice_get, option_map, nat_eq, Some, Contains, sym, ap, subst, ◌∙◌}
use Rattle.std.proofs.lemmas.Option.{none-some}
use Rattle.std.proofs.lemmas.List.Elements.{Contains-append_left, Contains-append_right, Contains-append_cases}
use Rattle.std.specs.FinMap.{get, from_entries}
use Rattle.std.specs.List.{IsDistinct}
use Rattle.std.specs.Map.{keys_of}
use Rattle.fz_model.specs.declared.answers.Entry.{Entry}
use Rattle.fz_model.specs.declared.answers.Registration.{Registration}
use Rattle.fz_model.specs.State.{Map}
use Rattle.fz_model.proofs.KeyedEntries.{got, listed}
use Rattle.fz_model.proofs.Lists.{place_of, contains_at, map_at}
use Rattle.fz_finalizers.specs.declared.roots.Root.{Root}
use Rattle.fz_finalizers.specs.declared.roots.Root.TheVariants.{HeldObject, HeldData, RegisteredData}
use Rattle.fz_finalizers.specs.declared.cleanups.Attached.{Attached}
use Rattle.fz_finalizers.specs.States.{State, links_of, unfinished}
use Rattle.fz_finalizers.specs.Walks.{YieldsRoots}
use Rattle.fz_finalizers.specs.Laws.{IsRootWord, YieldAll}
use Rattle.fz_finalizers.specs.Promises.{Past, IsReached, AreWalked}
use Rattle.fz_finalizers.proofs.Promised.{promised}

module _ {X Y : Type 0} (f : X → Y) where
  mapped_at : (xs : List X) (k : ℕ) (x : X) → slice_get xs k ≡ Some x → slice_get (map f xs) k ≡ Some (f x)
  mapped_at [] k x at = absurd (none-some x at)
  mapped_at (y ∷ ys) zero x at = ap (option_map f) at
  mapped_at (y ∷ ys) (suc k) x at = mapped_at ys k x at

  contains_mapped : (xs : List X) (x : X) → Contains xs x → Contains (map f xs) (f x)
  contains_mapped xs x here = let at = place_of xs x here in contains_at (map f xs) at.0 (f x) (mapped_at xs at.0 x at.1)

pub walked : (s : State) (past : Past) → IsReached s past → AreWalked s past
walked s past reached e queued alive =
    let here = (promised s past reached).kept e queued alive in (
      λ words yields. subst (λ ws. Contains ws e.obj) (sym yields.4) (contains_mapped (λ (x : Entry). x.obj) (unfinished s) e here),
      λ words yields. subst (λ ws. Contains ws e.cd) (sym yields.4) (contains_mapped (λ (x : Entry). x.cd) (unfinished s) e here),
    )

-- ---- iterators yield all, and nothing else

module _ {X Y : Type 0} (f : X → Y) where
  mapped_from : (xs : List X) (y : Y) → Contains (map f xs) y → (x : X) × Contains xs x × (f x ≡ y)
  mapped_from xs y here = let at = place_of (map f xs) y here in let from = map_at f xs at.0 y at.1 in (from.0, contains_at xs at.0 from.0 from.1, from.2)

  mapped_words : (xs : List X) (y : Y) → Contains (map f xs) y ↔ ((x : X) × Contains xs x × (f x ≡ y))
  mapped_words xs y = (mapped_from xs y, λ from. subst (Contains (map f xs)) from.2 (contains_mapped f xs from.0 from.1))

module _ {X : Type 0} (list : List (ℕ × X)) (m : Map X) (all : from_entries list ≡ m) (apart : IsDistinct nat_eq (keys_of list)) where
  yields : (k : ℕ) (x : X) → Contains list (k, x) ↔ (get m k ≡ Some x)
  yields k x = (λ here. ap (λ (n : Map X). get n k) (sym all) ∙ got list k x apart here, λ at. listed list k x (ap (λ (n : Map X). get n k) all ∙ at))

abbrev registered : ℕ × Registration → ℕ
registered e = e.1.cd

abbrev attached : ℕ × Attached → ℕ
attached e = e.1.cleanup.client_data

root_words : (s : State) (root : Root) (words : List ℕ) → YieldsRoots root s words → (word : ℕ) → Contains words word ↔ IsRootWord root s word
root_words s HeldObject words yielded word = subst (λ (ws : List ℕ). Contains ws word ↔ IsRootWord HeldObject s word) (sym yielded.4) (mapped_words (λ (e : Entry). e.obj) (unfinished s) word)
root_words s HeldData words yielded word = subst (λ (ws : List ℕ). Contains ws word ↔ IsRootWord HeldData s word) (sym yielded.4) (mapped_words (λ (e : Entry). e.cd) (unfinished s) word)
root_words s RegisteredData words yielded word = subst (λ (ws : List ℕ). Contains ws word ↔ IsRootWord RegisteredData s word) (sym yielded.4) (to, back)
  where
    to : Contains (map registered yielded.0 ++ map attached yielded.1) word → IsRootWord RegisteredData s word
    to here =
        ⊎_elim
        (λ (first : Contains (map registered yielded.0) word).
        let from = mapped_from registered yielded.0 word first in inl (from.0.0, from.0.1, (yields yielded.0 s.registrations yielded.2.0 yielded.2.1 from.0.0 from.0.1).0 from.1, from.2))
        (λ (second : Contains (map attached yielded.1) word).
        let from = mapped_from attached yielded.1 word second in inr (from.0.0, from.0.1, (yields yielded.1 s.cleanups yielded.3.0 yielded.3.1 from.0.0 from.0.1).0 from.1, from.2))
        (Contains-append_cases (map registered yielded.0) (map attached yielded.1) word here)

    back : IsRootWord RegisteredData s word → Contains (map registered yielded.0 ++ map attached yielded.1) word
    back (inl (object, r, at, is)) =
        Contains-append_left (map registered yielded.0) (map attached yielded.1) word
        (subst (Contains (map registered yielded.0)) is (contains_mapped registered yielded.0 (object, r) ((yields yielded.0 s.registrations yielded.2.0 yielded.2.1 object r).1 at)))
    back (inr (number, c, at, is)) =
        Contains-append_right (map registered yielded.0) (map attached yielded.1) word
        (subst (Contains (map attached yielded.1)) is (contains_mapped attached yielded.1 (number, c) ((yields yielded.1 s.cleanups yielded.3.0 yielded.3.1 number c).1 at)))

pub yield_all : (s : State) → YieldAll s
yield_all s = record {
  roots = root_words s;
  registrations = λ list are. yields list s.registrations are.0 are.1;
  cleanups = λ list are. yields list s.cleanups are.0 are.1;
  links = λ kind list are. yields list (links_of s kind) are.0 are.1;
}
