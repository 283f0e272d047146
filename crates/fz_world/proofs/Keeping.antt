-- In an open cycle a further noted page, a write to a noted page, and a new object that is marked on a noted page leave scanned objects on clean pages
-- with marked children alone.
use Rattle.std.proofs.Common.{◌≡◌, ◌≢◌, ℕ, ◌+◌, ◌<◌, ◌≤◌, ◌||◌, ◌==◌, Bool, true, false, List, length, suc, [], ◌∷◌, Some, None, refl, sym, ap, ◌∙◌, subst, ⊎_elim, arith, IsTrue, Contains, cond}
use Rattle.std.proofs.lemmas.Bool.{both_ways, cases_eq, eq-eqb, ne_eqb}
use Rattle.std.proofs.lemmas.Option.{same_Some}
use Rattle.std.specs.FinSet.{contains, insert}
use Rattle.std.specs.FinMap as map
use Rattle.std.specs.FinMap.{get}
use Rattle.fz_model.specs.State.{Map, Object}
use Rattle.fz_model.specs.Memory.{fill, filled, written}
use Rattle.fz_model.specs.Allocation.{block_of}
use Rattle.fz_model.specs.Reachability.{Child}
use Rattle.fz_model.proofs.Maps.{length-fill, filled_back, get-insert_same, get-insert_other}
use Rattle.fz_model.proofs.SeenKept.{points-filled, Child-insert}
use Rattle.fz_bits.specs.Flags.{Set}
use Rattle.fz_model.proofs.Sets.{has_inserted}
use Rattle.fz_marker.specs.Marking.{Marking, CleanAreClosed, is_on_noted}
use Rattle.fz_marker.specs.Standing.{HasWordOn}
use Rattle.fz_marker.proofs.Standing.{not_noted, word_noted}

still_in : (set : Set) (n q : ℕ) → IsTrue (contains set q) → IsTrue (contains (insert set n) q)
still_in set n q t = has_inserted set n q ∙ on (q == n) (contains set q) t
  where
    on : (s t : Bool) → t ≡ true → (s || t) ≡ true
    on true t e = refl
    on false t e = e

pub now_in : (set : Set) (n : ℕ) → IsTrue (contains (insert set n) n)
now_in set n = has_inserted set n n ∙ ap (λ b. b || contains set n) (eq-eqb n n refl)

pub note_keeps : (objects : Map Object) (m : Marking) (noted : Set) (page : ℕ) → CleanAreClosed objects m noted → CleanAreClosed objects m (insert noted page)
note_keeps objects m noted page clean a scanned off =
    clean a scanned (not_noted objects noted a (λ p t w. both_ways (is_on_noted objects (insert noted page) a) off (word_noted objects (insert noted page) p a (still_in noted page p t) w)))

-- words none of which is at the place
fill_none : (place value a : ℕ) (ws : List ℕ) → ((i : ℕ) → i < length ws → a + i ≢ place) → fill (λ x. x == place) value a ws ≡ ws
fill_none place value a [] apart = refl
fill_none place value a (w ∷ ws) apart =
    ap (λ b. cond b value w ∷ fill (λ x. x == place) value (a + 1) ws) (ne_eqb a place (λ is. apart 0 (omega arith) (omega (arith, is))))
    ∙ ap (λ vs. w ∷ vs) (fill_none place value (a + 1) ws (λ i lt is. apart (suc i) (omega (arith, lt)) (omega (arith, is))))

pub store_keeps : (objects : Map Object) (m : Marking) (noted : Set) (place value : ℕ) → IsTrue (contains noted (block_of place)) → CleanAreClosed objects m noted → CleanAreClosed (written place value objects) m noted
unfolding written
store_keeps objects m noted place value here clean a scanned off b c = clean a scanned (not_noted objects noted a not_before) b before
  where
    new : Map Object
    new = filled (λ x. x == place) value objects

    old : (o : Object) × (get objects a ≡ Some o) × (c.object ≡ record o { words = fill (λ x. x == place) value a o.words })
    old = filled_back (λ x. x == place) value objects a c.object c.here

    long : length c.object.words ≡ length old.0.words
    long = ap (λ (o : Object). length o.words) old.2 ∙ length-fill (λ x. x == place) value a old.0.words

    no_word : (page address : ℕ) → IsTrue (contains noted page) → a ≤ address → address < a + length old.0.words → block_of address ≡ page → ⊥
    no_word page address t after before on =
        both_ways (is_on_noted new noted a) off (word_noted new noted page a t (record { object = c.object; here = c.here; address = address; after = after; before = omega (arith, before, long); on = on }))

    not_before : (page : ℕ) → IsTrue (contains noted page) → HasWordOn objects page a → ⊥
    not_before page t w =
        let same = ap (λ (o : Object). length o.words) (same_Some w.object old.0 (sym w.here ∙ old.1)) in
        let before = w.before in
        no_word page w.address t w.after (omega (arith, before, same)) w.on

    unchanged : fill (λ x. x == place) value a old.0.words ≡ old.0.words
    unchanged = fill_none place value a old.0.words (λ i lt is. no_word (block_of place) (a + i) here (omega arith) (omega (arith, lt)) (ap block_of is))

    before : Child objects a b
    before = record {
      object = old.0;
      here = old.1;
      scanned = sym (ap (λ (o : Object). o.kind) old.2) ∙ c.scanned;
      word = c.word;
      within = subst (λ ws. Contains ws c.word) (ap (λ (o : Object). o.words) old.2 ∙ unchanged) c.within;
      pointed = sym (points-filled (λ x. x == place) value objects c.word) ∙ c.pointed;
    }

pub alloc_keeps : (objects : Map Object) (m : Marking) (noted : Set) (new : ℕ) (o : Object) → IsTrue (contains noted (block_of new)) → get objects new ≡ None → 0 < length o.words → CleanAreClosed objects m noted → CleanAreClosed (map.insert objects new o) (record m { marked = insert m.marked new }) noted
alloc_keeps objects m noted new o here fresh sized clean a scanned off b c = ⊎_elim at_new elsewhere (cases_eq a new)
  where
    after : Map Object
    after = map.insert objects new o

    at_new : a ≡ new → IsTrue (contains (insert m.marked new) b)
    at_new is =
        absurd (both_ways (is_on_noted after noted a) off (word_noted after noted (block_of new) a here (record {
          object = o;
          here = ap (get after) is ∙ get-insert_same objects new o;
          address = a;
          after = omega arith;
          before = omega (arith, sized);
          on = ap block_of is;
        })))

    elsewhere : a ≢ new → IsTrue (contains (insert m.marked new) b)
    elsewhere ne =
        ⊎_elim
        (λ old. still_in m.marked new b (clean a scanned (not_noted objects noted a (λ page t w.
        both_ways (is_on_noted after noted a) off (word_noted after noted page a t (record {
          object = w.object;
          here = get-insert_other objects new o a ne ∙ w.here;
          address = w.address;
          after = w.after;
          before = w.before;
          on = w.on;
        })))) b old))
        (λ either. ⊎_elim (λ is. absurd (ne is)) (λ is. subst (λ n. IsTrue (contains (insert m.marked new) n)) (sym is) (now_in m.marked new)) either)
        (Child-insert objects new o a b fresh c)
