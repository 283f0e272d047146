-- The noted pages.
use Rattle.std.proofs.Common.{◌≡◌, ◌≢◌, ℕ, zero, suc, ◌+◌, ◌-◌, ◌<◌, ◌≤◌, Bool, false, true, cond, ◌||◌, [], ◌∷◌, filter, nat_cmp, refl, sym, ap, ◌∙◌, subst, ⊎_elim, arith}
use Rattle.std.proofs.lemmas.Bool.{both_ways, cases_eq, cond-false, ne_eqb}
use Rattle.std.specs.List.{range_with_len}
use Rattle.std.specs.FinSet.{contains, insert, empty, len, len-empty, contains-empty}
use Rattle.fz_bits.specs.Flags.{Flagged}
use Rattle.fz_dirty.specs.Pages.{ArePages}
use Rattle.fz_bits.proofs.Words.{few_members}
use Rattle.fz_model.proofs.Sets.{has_inserted, len_inserted, inserted_again}

pub no_pages : (flags : Flagged) (pages : ℕ) → flags.members ≡ empty → pages ≤ flags.size → ArePages flags pages 0
no_pages flags pages none room = record {
  room = room;
  each = λ page is. absurd (both_ways (contains flags.members page) (ap (λ s. contains s page) none ∙ contains-empty nat_cmp page) is);
  counted = sym (ap len none ∙ len-empty nat_cmp);
}

-- no more pages are noted than there are
pub few_pages : (flags : Flagged) (pages count : ℕ) → ArePages flags pages count → count ≤ pages
few_pages flags pages count are =
    let counted = are.counted in
    let few = few_members 0 pages flags.members (λ page is. let lt = are.each page is in (omega arith, omega (arith, lt))) in
    omega (arith, counted, few)

pub page_noted : (old new : Flagged) (pages count page : ℕ) → ArePages old pages count → page < pages → contains old.members page ≡ false → new ≡ record old { members = insert old.members page } → ArePages new pages (count + 1)
page_noted old new pages count page are within fresh is =
    let members = ap (λ (f : Flagged). f.members) is in
    let size : new.size ≡ old.size = ap (λ (f : Flagged). f.size) is in
    let more : len new.members ≡ len old.members + 1 = ap len members ∙ len_inserted old.members page fresh in
    let room = are.room in
    record {
      room = omega (arith, size, room);
      each = λ q has.
          ⊎_elim (λ (same : q ≡ page). subst (λ k. k < pages) (sym same) within)
          (λ (ne : q ≢ page). are.each q (sym (ap (λ s. contains s q) members ∙ has_inserted old.members page q ∙ ap (λ t. t || contains old.members q) (ne_eqb q page ne)) ∙ has))
          (cases_eq q page);
      counted = sym (more ∙ ap (λ n. n + 1) (sym are.counted));
    }

-- a page that was noted already
pub noted_again : (old new : Flagged) (pages count page : ℕ) → ArePages old pages count → contains old.members page ≡ true → new ≡ record old { members = insert old.members page } → new ≡ old
noted_again old new pages count page are here is = is ∙ ap (λ s. record old { members = s }) (inserted_again old.members page here)

-- ---- in order

module _ (p : ℕ → Bool) where
  none_in : (a n : ℕ) → ((x : ℕ) → a ≤ x → p x ≡ false) → filter p (range_with_len a n) ≡ []
  none_in a zero off = refl
  none_in a (suc n) off =
      cond-false (p a) (a ∷ filter p (range_with_len (a + 1) n)) (filter p (range_with_len (a + 1) n)) (off a (omega arith)) ∙ none_in (a + 1) n (λ x low. off x (omega (arith, low)))

  none_after : (a k n : ℕ) → ((x : ℕ) → a + k ≤ x → p x ≡ false) → filter p (range_with_len a (k + n)) ≡ filter p (range_with_len a k)
  none_after a zero n off = none_in a (0 + n) (λ x low. off x (omega (arith, low)))
  none_after a (suc k) n off =
      let more : suc k + n ≡ suc (k + n) = omega arith in
      ap (λ m. filter p (range_with_len a m)) more
      ∙ ap (λ rest. cond (p a) (a ∷ rest) rest) (none_after (a + 1) k n (λ x low. off x (omega (arith, low))))

-- pages alone are noted
pub noted_pages : (flags : Flagged) (pages count : ℕ) → ArePages flags pages count → filter (contains flags.members) (range_with_len 0 flags.size) ≡ filter (contains flags.members) (range_with_len 0 pages)
noted_pages flags pages count are =
    let room = are.room in
    let split : flags.size ≡ pages + (flags.size - pages) = omega (arith, room) in
    ap (λ n. filter (contains flags.members) (range_with_len 0 n)) split
    ∙ none_after (contains flags.members) 0 pages (flags.size - pages) (λ x past. off x past (contains flags.members x) refl)
  where
    off : (x : ℕ) → 0 + pages ≤ x → (b : Bool) → contains flags.members x ≡ b → contains flags.members x ≡ false
    off x past true is = let lt = are.each x is in absurd (omega (arith, lt, past))
    off x past false is = is
