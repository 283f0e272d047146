-- What an accepted finish takes away.
use Rattle.std.proofs.Common.{◌≡◌, ℕ, ◌+◌, ◌<◌, ◌≤◌, ◌==◌, ◌||◌, Bool, true, cond, not, List, [], ◌∷◌, length, filter, count_by, Contains, sym, ap, ◌∙◌, subst, ⊎_elim, arith, true≢false}
use Rattle.std.proofs.lemmas.Bool.{cases_Bool, eq-eqb}
use Rattle.std.proofs.lemmas.List.Sums.{length-filter}
use Rattle.std.specs.List.{list_any}
use Rattle.fz_model.specs.declared.answers.Entry.{Entry}
use Rattle.fz_model.specs.Events.{same_entry}
use Rattle.fz_model.proofs.Lists.{contains_at, any_at, count_cons}
use Rattle.fz_model.proofs.Counts.{count_not}
use Rattle.fz_model.proofs.Events.{one_entry}

module _ {X : Type 0} (p : X → Bool) where
  some_counted : (xs : List X) → list_any p xs ≡ true → 0 < count_by p xs
  some_counted [] e = absurd (true≢false (sym e))
  some_counted (x ∷ xs) e =
      let c = count_cons p x xs in
      ⊎_elim
      (λ on. omega (arith, c, ap {B = ℕ} (λ t. cond t 1 0) on))
      (λ off. let rest = some_counted xs (sym (ap (λ b. b || list_any p xs) off) ∙ e) in omega (arith, c, rest))
      (cases_Bool (p x))

  fewer_counted : (q : X → Bool) → ((x : X) → p x ≡ true → q x ≡ true) → (xs : List X) → count_by p xs ≤ count_by q xs
  fewer_counted q weaker [] = omega arith
  fewer_counted q weaker (x ∷ xs) =
      let a = count_cons p x xs in
      let b = count_cons q x xs in
      let rest = fewer_counted q weaker xs in
      ⊎_elim
      (λ on. omega (arith, a, b, rest, ap {B = ℕ} (λ t. cond t 1 0) on, ap {B = ℕ} (λ t. cond t 1 0) (weaker x on)))
      (λ off. omega (arith, a, b, rest, ap {B = ℕ} (λ t. cond t 1 0) off))
      (cases_Bool (p x))

pub held_one : (held : List Entry) (e : Entry) → list_any (same_entry e) held ≡ true → Contains held e
held_one held e h =
    let some = any_at (same_entry e) held h in
    subst (Contains held) (sym (one_entry e some.1 some.3)) (contains_at held some.0 some.1 some.2)

-- one entry less is held, where no number is held twice
pub one_less : (held : List Entry) (e : Entry) → list_any (same_entry e) held ≡ true → ((k : ℕ) → count_by (λ (d : Entry). d.seq == k) held ≤ 1) → length (filter (λ d. not (same_entry e d)) held) + 1 ≡ length held
one_less held e here once =
    let some = some_counted (same_entry e) held here in
    let few = fewer_counted (same_entry e) (λ (d : Entry). d.seq == e.seq) (λ d same. eq-eqb d.seq e.seq (sym (ap (λ (x : Entry). x.seq) (one_entry e d same)))) held in
    let one = once e.seq in
    let all = count_not (same_entry e) held in
    let left = length-filter (λ (d : Entry). not (same_entry e d)) held in
    omega (arith, some, few, one, all, left)
