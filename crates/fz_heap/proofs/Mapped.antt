-- Maps whose values are made of those of another map.
use Rattle.std.proofs.Common.{Bool, true, false, cond, length, List, [], ◌∷◌, map, nat_cmp, ◌≡◌, ◌≢◌, ℕ, Option, Some, None, is_some, option_map, refl, sym, ap, ◌∙◌, ⊎_elim}
use Rattle.std.proofs.lemmas.Bool.{cases_eq}
use Rattle.std.proofs.lemmas.List.{length-map}
use Rattle.std.specs.Cmp.{nat_cmp_total}
use Rattle.std.specs.FinMap.{get, keys, entries, empty, get-empty, contains_key, insert, remove, retain_keys, len, len-entries, same_map, nat_cmp-IsAntisymmetric}
use Rattle.fz_model.specs.State.{Map}
use Rattle.fz_model.specs.Extents.{mapped}
use Rattle.fz_model.proofs.Maps.{get-insert_same, get-insert_other, get-remove_same, get-remove_other, get-retain, entries-mapped, get-mapped, mapped_here}

module _ {X Y : Type 0} where
  pub has_key : (f : ℕ → X → Y) (m : Map X) (q : ℕ) → contains_key (mapped f m) q ≡ contains_key m q
  has_key f m q = ap is_some (get-mapped f m q) ∙ either (get m q)
    where
      either : (o : Option X) → is_some (option_map (f q) o) ≡ is_some o
      either None = refl
      either (Some x) = refl

  pub keys-mapped : (f : ℕ → X → Y) (m : Map X) → keys (mapped f m) ≡ keys m
  keys-mapped f m = ap (map (λ (e : ℕ × Y). e.0)) (entries-mapped f m) ∙ twice (entries m)
    where
      twice : (es : List (ℕ × X)) → map (λ (e : ℕ × Y). e.0) (map (λ (e : ℕ × X). (e.0, f e.0 e.1)) es) ≡ map (λ (e : ℕ × X). e.0) es
      twice [] = refl
      twice (e ∷ es) = ap (λ ks. e.0 ∷ ks) (twice es)

  pub mapped-empty : (f : ℕ → X → Y) → mapped f empty ≡ empty
  mapped-empty f = same_map nat_cmp_total nat_cmp-IsAntisymmetric _ _ (λ q. get-mapped f empty q ∙ ap (option_map (f q)) (get-empty nat_cmp q) ∙ sym (get-empty nat_cmp q))

  -- a new value, where those of the other keys come out as before
  pub mapped-insert : (f g : ℕ → X → Y) (m : Map X) (k : ℕ) (v : X) (w : Y) → ((q : ℕ) (x : X) → q ≢ k → get m q ≡ Some x → g q x ≡ f q x) → g k v ≡ w → mapped g (insert m k v) ≡ insert (mapped f m) k w
  mapped-insert f g m k v w others own = same_map nat_cmp_total nat_cmp-IsAntisymmetric _ _ same
    where
      other : (q : ℕ) (o : Option X) → q ≢ k → get m q ≡ o → option_map (g q) o ≡ option_map (f q) o
      other q None ne is = refl
      other q (Some x) ne is = ap Some (others q x ne is)

      same : (q : ℕ) → get (mapped g (insert m k v)) q ≡ get (insert (mapped f m) k w) q
      same q =
          ⊎_elim
          (λ (is : q ≡ k). ap (get (mapped g (insert m k v))) is ∙ mapped_here g (insert m k v) k v (get-insert_same m k v) ∙ ap Some own ∙ sym (get-insert_same (mapped f m) k w) ∙ ap (get (insert (mapped f m) k w)) (sym is))
          (λ (ne : q ≢ k). get-mapped g (insert m k v) q ∙ ap (option_map (g q)) (get-insert_other m k v q ne) ∙ other q (get m q) ne refl ∙ sym (get-mapped f m q) ∙ sym (get-insert_other (mapped f m) k w q ne))
          (cases_eq q k)

  pub mapped-remove : (f : ℕ → X → Y) (m : Map X) (k : ℕ) → mapped f (remove m k) ≡ remove (mapped f m) k
  mapped-remove f m k = same_map nat_cmp_total nat_cmp-IsAntisymmetric _ _ same
    where
      same : (q : ℕ) → get (mapped f (remove m k)) q ≡ get (remove (mapped f m) k) q
      same q =
          ⊎_elim
          (λ (is : q ≡ k). ap (get (mapped f (remove m k))) is ∙ get-mapped f (remove m k) k ∙ ap (option_map (f k)) (get-remove_same m k) ∙ sym (get-remove_same (mapped f m) k) ∙ ap (get (remove (mapped f m) k)) (sym is))
          (λ (ne : q ≢ k). get-mapped f (remove m k) q ∙ ap (option_map (f q)) (get-remove_other m k q ne) ∙ sym (get-mapped f m q) ∙ sym (get-remove_other (mapped f m) k q ne))
          (cases_eq q k)

  pub mapped-retain : (f : ℕ → X → Y) (m : Map X) (p : ℕ → Bool) → mapped f (retain_keys m p) ≡ retain_keys (mapped f m) p
  mapped-retain f m p = same_map nat_cmp_total nat_cmp-IsAntisymmetric _ _ (λ q. get-mapped f (retain_keys m p) q ∙ ap (option_map (f q)) (get-retain m p q) ∙ either q (p q) ∙ ap (λ o. cond (p q) o None) (sym (get-mapped f m q)) ∙ sym (get-retain (mapped f m) p q))
    where
      either : (q : ℕ) (b : Bool) → option_map (f q) (cond b (get m q) None) ≡ cond b (option_map (f q) (get m q)) None
      either q true = refl
      either q false = refl

  pub len-mapped : (f : ℕ → X → Y) (m : Map X) → len (mapped f m) ≡ len m
  len-mapped f m = len-entries (mapped f m) ∙ ap length (entries-mapped f m) ∙ length-map (entries m) (λ (e : ℕ × X). (e.0, f e.0 e.1)) ∙ sym (len-entries m)

  -- values that are changed afterwards are made otherwise
  pub mapped-mapped : (h : ℕ → Y → Y) (f g : ℕ → X → Y) (m : Map X) → ((q : ℕ) (x : X) → get m q ≡ Some x → h q (f q x) ≡ g q x) → mapped h (mapped f m) ≡ mapped g m
  mapped-mapped h f g m each = same_map nat_cmp_total nat_cmp-IsAntisymmetric _ _ (λ q. get-mapped h (mapped f m) q ∙ ap (option_map (h q)) (get-mapped f m q) ∙ at q (get m q) refl ∙ sym (get-mapped g m q))
    where
      at : (q : ℕ) (o : Option X) → get m q ≡ o → option_map (h q) (option_map (f q) o) ≡ option_map (g q) o
      at q None is = refl
      at q (Some x) is = ap Some (each q x is)
