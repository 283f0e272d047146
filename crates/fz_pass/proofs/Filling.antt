-- Words that are filled in one after another.
use Rattle.std.proofs.Common.{◌≡◌, ℕ, ◌+◌, ◌<◌, ◌≤◌, ◌==◌, ◌||◌, Bool, true, false, cond, List, [], ◌∷◌, length, Option, Some, None, is_some, nat_eq, option_map, refl, sym, ap, ◌∙◌, subst, arith}
use Rattle.std.proofs.lemmas.Bool.{eqb-true}
use Rattle.std.proofs.lemmas.List.{length-map}
use Rattle.std.proofs.lemmas.Option.{none-some}
use Rattle.std.specs.Cmp.{nat_cmp_total}
use Rattle.std.specs.FinMap.{len, len-entries, get, contains_key, entries, same_map, nat_cmp-IsAntisymmetric}
use Rattle.fz_model.specs.State.{Map, Object}
use Rattle.fz_model.specs.Extents.{covers, extent_of}
use Rattle.fz_model.specs.Memory.{points, fill, filled, written}
use Rattle.fz_model.proofs.Maps.{entries-mapped, get-mapped, filling}
use Rattle.fz_model.proofs.Objects.{to_covers}
use Rattle.fz_model.proofs.Standing.{points_some}

-- ---- one fill after another

fill_twice : (s t : ℕ → Bool) (value a : ℕ) (ws : List ℕ) → fill s value a (fill t value a ws) ≡ fill (λ x. t x || s x) value a ws
fill_twice s t value a [] = refl
fill_twice s t value a (w ∷ ws) = ap (λ x. x ∷ fill s value (a + 1) (fill t value (a + 1) ws)) (one (s a) (t a)) ∙ ap (λ r. cond (t a || s a) value w ∷ r) (fill_twice s t value (a + 1) ws)
  where
    one : (b c : Bool) → cond b value (cond c value w) ≡ cond (c || b) value w
    one true true = refl
    one true false = refl
    one false true = refl
    one false false = refl

pub filled_twice : (s t : ℕ → Bool) (value : ℕ) (objects : Map Object) → filled s value (filled t value objects) ≡ filled (λ x. t x || s x) value objects
filled_twice s t value objects =
    same_map nat_cmp_total nat_cmp-IsAntisymmetric _ _
    (λ q.
    get-mapped (filling s value) (filled t value objects) q ∙ ap (option_map (filling s value q)) (get-mapped (filling t value) objects q) ∙ each q (get objects q)
    ∙ sym (get-mapped (filling (λ x. t x || s x) value) objects q))
  where
    each : (q : ℕ) (o : Option Object) → option_map (filling s value q) (option_map (filling t value q) o) ≡ option_map (filling (λ x. t x || s x) value q) o
    each q None = refl
    each q (Some o) = ap (λ ws. Some (record o { words = ws })) (fill_twice s t value q o.words)

pub filled_same : (s t : ℕ → Bool) (value : ℕ) (objects : Map Object) → ((a : ℕ) → s a ≡ t a) → filled s value objects ≡ filled t value objects
filled_same s t value objects same = λ i. filled (λ a. same a i) value objects

pub fill_never : (t : ℕ → Bool) (value a : ℕ) (ws : List ℕ) → ((x : ℕ) → a ≤ x → x < a + length ws → t x ≡ false) → fill t value a ws ≡ ws
fill_never t value a [] never = refl
fill_never t value a (w ∷ ws) never =
    ap (λ b. cond b value w ∷ fill t value (a + 1) ws) (never a (omega arith) (omega arith)) ∙ ap (λ r. w ∷ r) (fill_never t value (a + 1) ws (λ x low high. never x (omega (arith, low)) (omega (arith, high))))

-- a word that lies in no object is written nowhere
pub written_nowhere : (word value : ℕ) (objects : Map Object) → points objects word ≡ None → written word value objects ≡ objects
unfolding written
written_nowhere word value objects none =
    same_map nat_cmp_total nat_cmp-IsAntisymmetric _ _ (λ q. get-mapped (filling (λ a. a == word) value) objects q ∙ each q (get objects q) refl)
  where
    apart : (q : ℕ) (o : Object) → get objects q ≡ Some o → (x : ℕ) → q ≤ x → x < q + length o.words → (x == word) ≡ false
    apart q o here x low high = at (x == word) refl
      where
        at : (b : Bool) → (x == word) ≡ b → b ≡ false
        at false is = refl
        at true is =
            let same = eqb-true x word is in
            let found = points_some objects word (q, o, here, subst (λ w. covers (q, extent_of o) w ≡ true) same (to_covers q x (extent_of o) low high)) in
            absurd (none-some found.0 (sym none ∙ found.1))

    each : (q : ℕ) (o : Option Object) → get objects q ≡ o → option_map (filling (λ a. a == word) value q) o ≡ o
    each q None here = refl
    each q (Some o) here = ap (λ ws. Some (record o { words = ws })) (fill_never (λ a. a == word) value q o.words (apart q o here))

-- ---- what a fill leaves

pub has_filled : (t : ℕ → Bool) (value : ℕ) (objects : Map Object) (q : ℕ) → contains_key (filled t value objects) q ≡ contains_key objects q
has_filled t value objects q = ap is_some (get-mapped (filling t value) objects q) ∙ each (get objects q)
  where
    each : (o : Option Object) → is_some (option_map (filling t value q) o) ≡ is_some o
    each None = refl
    each (Some o) = refl

pub filled_never : (t : ℕ → Bool) (value : ℕ) (objects : Map Object) → ((a : ℕ) → t a ≡ false) → filled t value objects ≡ objects
filled_never t value objects never =
    same_map nat_cmp_total nat_cmp-IsAntisymmetric _ _ (λ q. get-mapped (filling t value) objects q ∙ each q (get objects q))
  where
    each : (q : ℕ) (o : Option Object) → option_map (filling t value q) o ≡ o
    each q None = refl
    each q (Some o) = ap (λ ws. Some (record o { words = ws })) (fill_never t value q o.words (λ x low high. never x))

pub written_is : (word value : ℕ) (objects : Map Object) → written word value objects ≡ filled (λ a. nat_eq a word) value objects
unfolding written
written_is word value objects = refl

pub len_filled : (t : ℕ → Bool) (value : ℕ) (objects : Map Object) → len (filled t value objects) ≡ len objects
len_filled t value objects =
    len-entries (filled t value objects) ∙ ap length (entries-mapped (filling t value) objects) ∙ length-map (entries objects) (λ (e : ℕ × Object). (e.0, filling t value e.0 e.1)) ∙ sym (len-entries objects)
