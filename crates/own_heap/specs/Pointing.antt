-- Which words the heap lists of a record, by which words it finds links, and which values ephemerons have once words are cleared.
-- code: own_heap/src/paths.rt
use Rattle.std.proofs.Common.{◌≡◌, ℕ, ◌-◌, Bool, true, false, cond, if◌then◌else◌, List, [], Option, Some, None, refl, sym, ap, ◌∙◌, subst, arith}
use Rattle.std.specs.Option.{option_map_or}
use Rattle.std.proofs.lemmas.Option.{none-some, same_Some}
use Rattle.std.specs.FinMap.{get}
use Rattle.fz_model.specs.declared.kinds.ObjKind.{ObjKind}
use Rattle.fz_model.specs.declared.kinds.ObjKind.TheVariants.{Scanned, Atomic}
use Rattle.fz_model.specs.Memory.{points, filled, word_at}
use Rattle.fz_model.specs.State.{Map, Object}
use Rattle.fz_model.proofs.SeenKept.{points-filled}
use Rattle.fz_why.specs.declared.paths.Pointer.{Pointer}
use Rattle.fz_why.specs.Paths.{AreLinks, ArePointers, AreValues, all_pointers}
use Rattle.fz_why.specs.Hosts.{are_all, word_filled}
use Rattle.own_heap.specs.Outside.{place_of_link, place_itself}
use Rattle.own_heap.specs.Records.{value_of}

-- all words of an object, if it is scanned
abbrev pub of_kind : List Pointer → ObjKind → List Pointer
of_kind pointers Scanned = pointers
of_kind pointers Atomic = []

abbrev pub of_object : List Pointer → Option Object → List Pointer
of_object pointers None = []
of_object pointers (Some o) = of_kind pointers o.kind

abbrev pub words_listed : Map Object → ℕ → List Pointer
words_listed objects a = of_object (all_pointers objects a) (get objects a)

abbrev IsAtomic : ObjKind → Type 0
IsAtomic Scanned = ⊥
IsAtomic Atomic = Unit {0}

module _ (objects : Map Object) (a : ℕ) where
  nothing : ((o : Object) → get objects a ≡ Some o → o.kind ≡ Scanned → ⊥) → ArePointers objects a []
  nothing never = record { each = λ p within. absurd (omega (arith, within.1)); whole = λ p b i pointed. absurd (never i.object i.here i.scanned) }

  by_kind : (o : Object) → get objects a ≡ Some o → (k : ObjKind) → o.kind ≡ k → ArePointers objects a (of_kind (all_pointers objects a) k)
  by_kind o here Scanned is = are_all objects a (λ x at. ap (λ (y : Object). y.kind) (same_Some x o (sym at ∙ here)) ∙ is)
  by_kind o here Atomic is = nothing (λ x at scanned. subst IsAtomic (sym is ∙ ap (λ (y : Object). y.kind) (same_Some o x (sym here ∙ at)) ∙ scanned) tt)

  by_object : (g : Option Object) → get objects a ≡ g → ArePointers objects a (of_object (all_pointers objects a) g)
  by_object None none = nothing (λ o here scanned. none-some o (sym none ∙ here))
  by_object (Some o) here = by_kind o here o.kind refl

  pub records_point : ArePointers objects a (words_listed objects a)
  records_point = by_object (get objects a) refl

turned : (a b : ℕ) → place_of_link b ≡ Some a → place_of_link a ≡ Some b
turned a b is = let same = place_itself b a is in ap place_of_link (sym same) ∙ is ∙ ap Some (sym same)

pub links_found : AreLinks place_of_link place_of_link
links_found number word = (turned number word, turned word number)

-- a field that is cleared hides nothing, and each other field hides what it hid
pub values_stay : AreValues place_of_link value_of
values_stay objects test number none placed = start ∙ one (place_of_link number) refl (test number) refl
  where
    start : value_of (filled test 0 objects) number ≡ points objects (cond (test number) 0 (word_at objects number) - 4)
    start = points-filled test 0 objects (word_at (filled test 0 objects) number - 4) ∙ ap (λ w. points objects (w - 4)) (word_filled test objects number)

    -- of a word that is zero, and of one that isn't
    cleared : (b : Bool) → test number ≡ b → points objects (cond (test number) 0 (word_at objects number) - 4) ≡ (if b then None else value_of objects number)
    cleared true on = ap (λ b. points objects (cond b 0 (word_at objects number) - 4)) on ∙ none
    cleared false off = ap (λ b. points objects (cond b 0 (word_at objects number) - 4)) off

    one : (p : Option ℕ) → place_of_link number ≡ p → (b : Bool) → test number ≡ b → points objects (cond (test number) 0 (word_at objects number) - 4) ≡ (if option_map_or test (place_of_link number) false then None else value_of objects number)
    one None nowhere true on =
        let link = placed number on in
        let same = place_itself link.0 number link.1 in
        absurd (none-some number (sym nowhere ∙ ap place_of_link (sym same) ∙ link.1))
    one None nowhere false off = cleared false off ∙ sym (ap (λ p. if option_map_or test p false then None else value_of objects number) nowhere)
    one (Some word) at b is =
        let same = place_itself number word at in
        cleared b is ∙ sym (ap (λ p. if option_map_or test p false then None else value_of objects number) at ∙ ap (λ w. if test w then None else value_of objects number) (sym same) ∙ ap (λ c. if c then None else value_of objects number) is)
