-- What a sweep is about, noted again.
use Rattle.std.proofs.Common.{◌≡◌, ◌≢◌, ◌⊎◌, ◌∙◌, ◌∷◌, ◌++◌, [], ℕ, Bool, true, false, true≢false, cond, IsTrue, List, Some, inl, inr, get_or, is_some, length, map, nat_eq, not, refl, set, sym, ap, subst, ⊎_elim, append_assoc, append-nil, arith}
use Rattle.std.proofs.lemmas.Bool.{eqb-true}
use Rattle.std.proofs.lemmas.List.{get_or_default}
use Rattle.std.proofs.lemmas.Option.{same_Some}
use Rattle.std.specs.FinMap.{contains_key, from_entries, get}
use Rattle.std.specs.Map.{lookup}
use Rattle.fz_model.proofs.Tables.{get_made}
use Rattle.fz_model.proofs.Sound.{is_some_of}
use Rattle.fz_model.specs.declared.answers.Registration.{Registration}
use Rattle.fz_model.specs.declared.kinds.LinkKind.{LinkKind}
use Rattle.fz_model.specs.declared.kinds.LinkKind.TheVariants.{Long, Short}
use Rattle.fz_model.specs.State.{Map}
use Rattle.fz_finalizers.specs.declared.cleanups.Attached.{Attached}
use Rattle.fz_finalizers.specs.Cleanups.{is_when}
use Rattle.fz_finalizers.specs.States.{State, links_of}
use Rattle.fz_table.specs.declared.stored.Stored.{Stored}
use Rattle.fz_table.specs.Tabled.{plain}
use Rattle.fz_machine.specs.declared.machine.By.{By}
use Rattle.fz_machine.specs.declared.phase.Sweep.{Sweep}
use Rattle.fz_machine.specs.declared.phase.Sweep.TheVariants.{Objects}
use Rattle.fz_machine.specs.Going.{AreRenewed, IsRenewed, is_by}
use Rattle.fz_machine.specs.Items.{link_number}
use Rattle.fz_machine.specs.Regions.{AreNoted, IsNoted, IsUntold, KeepsTable, Regions, attached, index_of, link_sweep, no_regions, table_at}
use Rattle.fz_machine.specs.Regions.{Regions as Table}
use Rattle.fz_machine.proofs.Tabled.{cases_sweep, index_within, set_changes, set_table}
use Rattle.fz_machine.proofs.Among.{Each, each_as, each_mapped, each_push}

pub rest_of : {X : Type 0} (done : List X) (e : X) (it next whole : List X) → it ≡ e ∷ next → done ++ it ≡ whole → (done ++ e ∷ []) ++ next ≡ whole
rest_of done e it next whole steps rest = append_assoc done (e ∷ []) next ∙ ap (λ xs. done ++ xs) (sym steps) ∙ rest

pub all_of : {X : Type 0} (done it whole : List X) → it ≡ [] → done ++ it ≡ whole → done ≡ whole
all_of done it whole none rest = sym (append-nil done) ∙ ap (λ xs. done ++ xs) (sym none) ∙ rest

-- nothing is told of a table by noting
pub still_untold : (old new : Regions) → KeepsTable old new → IsUntold old → IsUntold new
still_untold old new keeps untold = subst IsUntold (sym keeps.same) untold

module _ {X : Type 0} (P : X → ℕ → Type 0) where
  -- each of these that the sweep is about is noted
  abbrev pub EachNoted : List (ℕ × ℕ) → List X → Type 0
  EachNoted regions es = Each (λ (e : X). (n : ℕ) → P e n → IsNoted regions n) es

  pub one_more : (old new : List (ℕ × ℕ)) (done : List X) (e : X) → ((q : ℕ) → IsNoted old q → IsNoted new q) → ((n : ℕ) → P e n → IsNoted new n) → EachNoted old done → EachNoted new (done ++ e ∷ [])
  one_more old new done e kept here so_far =
      each_push (λ (x : X). (n : ℕ) → P x n → IsNoted new n) done e (each_as (λ (x : X). (n : ℕ) → P x n → IsNoted old n) (λ (x : X). (n : ℕ) → P x n → IsNoted new n) (λ x noted n of. kept n (noted n of)) done so_far) here

-- ---- entries of a map

-- an entry that is found is one of them
found_noted : {X : Type 0} (P : ℕ × X → ℕ → Type 0) (regions : List (ℕ × ℕ)) (es : List (ℕ × X)) → EachNoted P regions es → (a : ℕ) (x : X) → lookup (nat_eq a) es ≡ Some x → (n : ℕ) → P (a, x) n → IsNoted regions n
found_noted {X} P regions [] each a x here n of = absurd (true≢false (sym (ap is_some here)))
found_noted {X} P regions (e ∷ es) each a x here n of = by (nat_eq a e.0) refl here (λ is. found_noted P regions es each.1 a x is n of)
  where
    by : (b : Bool) → nat_eq a e.0 ≡ b → cond b (Some e.1) (lookup (nat_eq a) es) ≡ Some x → (lookup (nat_eq a) es ≡ Some x → IsNoted regions n) → IsNoted regions n
    by true same is rest = each.0 n (subst (λ (y : ℕ × X). P y n) (λ i. (eqb-true a e.0 same i, sym (same_Some e.1 x is) i)) of)
    by false other is rest = rest is

there : {X : Type 0} (m : Map X) (es : List (ℕ × X)) (a : ℕ) (x : X) → from_entries es ≡ m → get m a ≡ Some x → lookup (nat_eq a) es ≡ Some x
there m es a x are here = sym (get_made es a) ∙ ap (λ n. get n a) are ∙ here

key_there : {X : Type 0} (m : Map X) (es : List (ℕ × X)) (a : ℕ) → from_entries es ≡ m → IsTrue (contains_key m a) → (x : X) × (lookup (nat_eq a) es ≡ Some x)
key_there m es a are here = let x = is_some_of (get m a) (ap not here) in (x.0, there m es a x.0 are x.1)

-- ---- all of them

-- what is noted of a link, and of a cleanup of this moment
abbrev pub IsLinkOf : Bool → ℕ × ℕ → ℕ → Type 0
IsLinkOf words e n = n ≡ link_number words e

abbrev pub IsCleanupOf : LinkKind → ℕ × Attached → ℕ → Type 0
IsCleanupOf when e n = IsTrue (is_when when e.1.cleanup.when) × (n ≡ e.1.object)

module _ (s : State) (regions : List (ℕ × ℕ)) where
  pub links_noted : (words : Bool) (kind : LinkKind) (es : List (ℕ × ℕ)) → from_entries es ≡ links_of s kind → EachNoted (IsLinkOf words) regions es → AreNoted (link_sweep words kind) s regions
  links_noted true Short es are each n of = let t = key_there s.short es n are of in found_noted (IsLinkOf true) regions es each n t.0 t.1 n refl
  links_noted true Long es are each n of = let t = key_there s.long es n are of in found_noted (IsLinkOf true) regions es each n t.0 t.1 n refl
  links_noted false Short es are each n (word, here) = found_noted (IsLinkOf false) regions es each word n (there s.short es word n are here) n refl
  links_noted false Long es are each n (word, here) = found_noted (IsLinkOf false) regions es each word n (there s.long es word n are here) n refl

  pub objects_noted : (es : List (ℕ × Stored)) → from_entries (map plain es) ≡ s.registrations → EachNoted (λ (e : ℕ × Stored) (n : ℕ). n ≡ e.0) regions es → AreNoted Objects s regions
  objects_noted es are each n of =
      let r = key_there s.registrations (map plain es) n are of in
      found_noted (λ (e : ℕ × Registration) (k : ℕ). k ≡ e.0) regions (map plain es) (each_mapped plain (λ (e : ℕ × Registration). (k : ℕ) → k ≡ e.0 → IsNoted regions k) es each) n r.0 r.1 n refl

  pub cleanups_noted : (when : LinkKind) (es : List (ℕ × Attached)) → from_entries es ≡ s.cleanups → EachNoted (IsCleanupOf when) regions es → AreNoted (attached when) s regions
  cleanups_noted Short es are each n (number, c, here, of_moment, same) = found_noted (IsCleanupOf Short) regions es each number c (there s.cleanups es number c are here) n (of_moment, sym same)
  cleanups_noted Long es are each n (number, c, here, of_moment, same) = found_noted (IsCleanupOf Long) regions es each number c (there s.cleanups es number c are here) n (of_moment, sym same)

-- ---- tables, one after another

-- the table of one sweep is another, or is renewed
module _ (by : By) (s : State) (old mid : List Table) (so_far : AreRenewed by s old mid) (many : length mid ≡ 7) (sweep : Sweep) (t : Table) (on : is_by sweep by ≡ true) (one : (t ≡ table_at mid sweep) ⊎ IsRenewed sweep s t) where
  renewed_one : (new : List Table) → table_at new sweep ≡ t → ((other : Sweep) → other ≢ sweep → table_at new other ≡ table_at mid other) → (other : Sweep) → (table_at new other ≡ table_at old other) ⊎ (IsTrue (is_by other by) × IsRenewed other s (table_at new other))
  renewed_one new here others other = ⊎_elim (λ (is : other ≡ sweep). subst (λ (o : Sweep). (table_at new o ≡ table_at old o) ⊎ (IsTrue (is_by o by) × IsRenewed o s (table_at new o))) (sym is) at_it)
      (λ (ne : other ≢ sweep). ⊎_elim (λ same. inl (others other ne ∙ same)) (λ renewed. inr (renewed.0, subst (IsRenewed other s) (sym (others other ne)) renewed.1)) (so_far.each other)) (cases_sweep other sweep)
    where
      at_it : (table_at new sweep ≡ table_at old sweep) ⊎ (IsTrue (is_by sweep by) × IsRenewed sweep s (table_at new sweep))
      at_it = ⊎_elim (λ (same : t ≡ table_at mid sweep). ⊎_elim (λ was. inl (here ∙ same ∙ was)) (λ renewed. inr (renewed.0, subst (IsRenewed sweep s) (sym (here ∙ same)) renewed.1)) (so_far.each sweep))
          (λ renewed. inr (on, subst (IsRenewed sweep s) (sym here) renewed)) one

  pub set_renewed : AreRenewed by s old (set mid (index_of sweep) t)
  set_renewed =
      let changes = set_changes mid sweep t many in
      record { each = renewed_one (set mid (index_of sweep) t) (set_table mid sweep t many) changes.others; count = changes.count ∙ so_far.count }

-- an element within a list, whatever the default
pub within_is : (ts : List Table) (sweep : Sweep) (i : ℕ) (t : Table) → length ts ≡ 7 → i ≡ index_of sweep → t ≡ get_or ts i t → t ≡ table_at ts sweep
within_is ts sweep i t many is at = let within = index_within sweep in at ∙ get_or_default ts i t no_regions (omega (arith, within, many, is)) ∙ ap (λ k. get_or ts k no_regions) is
