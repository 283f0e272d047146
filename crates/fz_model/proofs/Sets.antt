-- Sets of numbers, by what they contain.
use Rattle.std.proofs.Common.{◌≡◌, ℕ, ◌+◌, true, false, cond, not, ◌&&◌, ◌||◌, nat_eq, nat_cmp, refl, ap, sym, ◌∙◌, ◌≢◌, ⊎_elim}
use Rattle.std.proofs.lemmas.Bool.{cases_eq, eq-eqb, ne_eqb}
use Rattle.std.specs.Cmp.{nat_cmp_total, unsigned_tied}
use Rattle.std.specs.FinSet.{FinSet, contains, insert, remove, len, len-insert, contains-insert, contains-remove, same_set, nat_cmp-IsAntisymmetric}

pub has_inserted : (s : FinSet nat_cmp) (n q : ℕ) → contains (insert s n) q ≡ (nat_eq q n || contains s q)
has_inserted s n q = contains-insert nat_cmp_total s n q ∙ ap (λ t. t || contains s q) (unsigned_tied q n)

pub has_removed : (s : FinSet nat_cmp) (n q : ℕ) → contains (remove s n) q ≡ (not (nat_eq q n) && contains s q)
has_removed s n q = contains-remove nat_cmp_total s n q ∙ ap (λ t. not t && contains s q) (unsigned_tied q n)

-- the same, as a choice
pub contains-inserted : (s : FinSet nat_cmp) (n q : ℕ) → contains (insert s n) q ≡ cond (nat_eq q n) true (contains s q)
contains-inserted s n q = has_inserted s n q ∙ elim (nat_eq q n) as (λ t. (t || contains s q) ≡ cond t true (contains s q)) [ true ↦ refl | false ↦ refl ]

pub contains-removed : (s : FinSet nat_cmp) (n q : ℕ) → contains (remove s n) q ≡ cond (nat_eq q n) false (contains s q)
contains-removed s n q = has_removed s n q ∙ elim (nat_eq q n) as (λ t. (not t && contains s q) ≡ cond t false (contains s q)) [ true ↦ refl | false ↦ refl ]

pub same_members : (s t : FinSet nat_cmp) → ((q : ℕ) → contains s q ≡ contains t q) → s ≡ t
same_members s t = same_set nat_cmp_total nat_cmp-IsAntisymmetric s t

-- a member comes again
pub inserted_again : (s : FinSet nat_cmp) (n : ℕ) → contains s n ≡ true → insert s n ≡ s
inserted_again s n has = same_members _ _ (λ q. has_inserted s n q ∙ ⊎_elim (λ (is : q ≡ n). ap (λ t. t || contains s q) (eq-eqb q n is) ∙ sym (ap (contains s) is ∙ has)) (λ (ne : q ≢ n). ap (λ t. t || contains s q) (ne_eqb q n ne)) (cases_eq q n))

-- what isn't there leaves nothing
pub removed_again : (s : FinSet nat_cmp) (n : ℕ) → contains s n ≡ false → remove s n ≡ s
removed_again s n none = same_members _ _ (λ q. has_removed s n q ∙ ⊎_elim (λ (is : q ≡ n). ap (λ t. not t && contains s q) (eq-eqb q n is) ∙ sym (ap (contains s) is ∙ none)) (λ (ne : q ≢ n). ap (λ t. not t && contains s q) (ne_eqb q n ne)) (cases_eq q n))

pub len_inserted : (s : FinSet nat_cmp) (n : ℕ) → contains s n ≡ false → len (insert s n) ≡ len s + 1
len_inserted s n fresh = len-insert nat_cmp_total s n ∙ ap (λ t. cond t (len s) (len s + 1)) fresh
