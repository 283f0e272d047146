-- The tables of all sweeps.
use Rattle.std.proofs.Common.{◌≡◌, ◌≢◌, ◌⊎◌, ℕ, zero, suc, ◌+◌, ◌<◌, ◌≤◌, List, [], ◌∷◌, map, drop, length, get_or, set, inl, inr, refl, sym, ap, subst, ◌∙◌, ⊎_elim, arith}
use Rattle.std.proofs.lemmas.Bool.{cases_eq}
use Rattle.std.proofs.lemmas.List.{get_or-set_same, get_or-set_other, length-set}
use Rattle.fz_machine.specs.declared.phase.Sweep.{Sweep}
use Rattle.fz_machine.specs.declared.phase.Sweep.TheVariants as sweeps
use Rattle.fz_machine.specs.Going.{AreFewer, Changes, questions_in, questions_of}
use Rattle.fz_machine.specs.Regions.{Regions as Table, index_of, no_regions, table_at}

-- ---- sweeps and their numbers

abbrev at_index : ℕ → Sweep
at_index zero = sweeps.ShortCleanups
at_index (suc zero) = sweeps.ShortTargets
at_index (suc (suc zero)) = sweeps.Objects
at_index (suc (suc (suc zero))) = sweeps.LongTargets
at_index (suc (suc (suc (suc zero)))) = sweeps.ShortHolders
at_index (suc (suc (suc (suc (suc zero))))) = sweeps.LongHolders
at_index (suc (suc (suc (suc (suc (suc n)))))) = sweeps.LongCleanups

there : (s : Sweep) → at_index (index_of s) ≡ s
there sweeps.ShortCleanups = refl
there sweeps.ShortTargets = refl
there sweeps.Objects = refl
there sweeps.LongTargets = refl
there sweeps.ShortHolders = refl
there sweeps.LongHolders = refl
there sweeps.LongCleanups = refl

back : (n : ℕ) → n < 7 → index_of (at_index n) ≡ n
back zero lt = refl
back (suc zero) lt = refl
back (suc (suc zero)) lt = refl
back (suc (suc (suc zero))) lt = refl
back (suc (suc (suc (suc zero)))) lt = refl
back (suc (suc (suc (suc (suc zero))))) lt = refl
back (suc (suc (suc (suc (suc (suc zero)))))) lt = refl
back (suc (suc (suc (suc (suc (suc (suc n))))))) lt = absurd (omega (arith, lt))

pub cases_sweep : (a b : Sweep) → (a ≡ b) ⊎ (a ≢ b)
cases_sweep a b =
    ⊎_elim (λ (same : index_of a ≡ index_of b). inl (sym (there a) ∙ ap at_index same ∙ there b)) (λ (ne : index_of a ≢ index_of b). inr (λ is. ne (ap index_of is))) (cases_eq (index_of a) (index_of b))

pub index_within : (s : Sweep) → index_of s < 7
index_within sweeps.ShortCleanups = omega arith
index_within sweeps.ShortTargets = omega arith
index_within sweeps.Objects = omega arith
index_within sweeps.LongTargets = omega arith
index_within sweeps.ShortHolders = omega arith
index_within sweeps.LongHolders = omega arith
index_within sweeps.LongCleanups = omega arith

-- ---- one table changes

module _ (ts : List Table) (sweep : Sweep) (t : Table) (many : length ts ≡ 7) where
  pub set_table : table_at (set ts (index_of sweep) t) sweep ≡ t
  set_table = get_or-set_same ts (index_of sweep) t no_regions (let lt = index_within sweep in omega (arith, lt, many))

  pub set_changes : Changes sweep ts (set ts (index_of sweep) t)
  set_changes = record {
    others = λ other ne. get_or-set_other ts (index_of sweep) (index_of other) t no_regions (λ is. ne (sym (there other) ∙ ap at_index is ∙ there sweep));
    count = length-set ts (index_of sweep) t;
  }

-- ---- what holds of each table, holds along the list of them

module _ (ts us : List Table) (many : length ts ≡ 7) (as_many : length us ≡ 7) where
  at_each : (P : Table → Table → Type 0) → ((s : Sweep) → P (table_at ts s) (table_at us s)) → (i : ℕ) → i < 7 → P (get_or ts i no_regions) (get_or us i no_regions)
  at_each P h i lt = subst (λ k. P (get_or ts k no_regions) (get_or us k no_regions)) (back i lt) (h (at_index i))

  along : {X : Type 0} (f : Table → X) (xs ys : List Table) → length xs ≡ length ys → ((i : ℕ) → i < length xs → f (get_or ys i no_regions) ≡ f (get_or xs i no_regions)) → map f ys ≡ map f xs
  along f [] [] same h = refl
  along f [] (y ∷ ys) same h = absurd (omega (arith, same))
  along f (x ∷ xs) [] same h = absurd (omega (arith, same))
  along f (x ∷ xs) (y ∷ ys) same h = λ i. h 0 (omega arith) i ∷ along f xs ys (omega (arith, same)) (λ k lt. h (suc k) (omega (arith, lt))) i

  pub same_map : {X : Type 0} (f : Table → X) → ((s : Sweep) → f (table_at us s) ≡ f (table_at ts s)) → map f us ≡ map f ts
  same_map f h = along f ts us (many ∙ sym as_many) (λ i lt. at_each (λ t u. f u ≡ f t) h i (omega (arith, lt, many)))

  fewer_along : (f : Table → ℕ) (xs ys : List Table) → length xs ≡ length ys → ((i : ℕ) → i < length xs → f (get_or ys i no_regions) ≤ f (get_or xs i no_regions)) → AreFewer (map f xs) (map f ys)
  fewer_along f [] [] same h = tt
  fewer_along f [] (y ∷ ys) same h = absurd (omega (arith, same))
  fewer_along f (x ∷ xs) [] same h = absurd (omega (arith, same))
  fewer_along f (x ∷ xs) (y ∷ ys) same h = (h 0 (omega arith), fewer_along f xs ys (omega (arith, same)) (λ k lt. h (suc k) (omega (arith, lt))))

  pub fewer_map : (f : Table → ℕ) → ((s : Sweep) → f (table_at us s) ≤ f (table_at ts s)) → AreFewer (map f ts) (map f us)
  fewer_map f h = fewer_along f ts us (many ∙ sym as_many) (λ i lt. at_each (λ t u. f u ≤ f t) h i (omega (arith, lt, many)))

-- ---- questions

pub fewer_questions : (os ns : List ℕ) (k : ℕ) → AreFewer os ns → questions_in (drop k ns) ≤ questions_in (drop k os)
fewer_questions [] [] k few = subst (λ xs. questions_in xs ≤ questions_in (drop k [])) refl (omega arith)
fewer_questions [] (n ∷ ns) k few = absurd few
fewer_questions (o ∷ os) [] k few = absurd few
fewer_questions (o ∷ os) (n ∷ ns) zero few = let rest = fewer_questions os ns 0 few.1 in let le = few.0 in omega (arith, rest, le)
fewer_questions (o ∷ os) (n ∷ ns) (suc k) few = fewer_questions os ns k few.1

-- a sweep is one of those to come, until it begins
one_begun : (f : Table → ℕ) (ts : List Table) (i : ℕ) → i < length ts → questions_in (drop i (map f ts)) ≡ questions_of (f (get_or ts i no_regions)) + questions_in (drop (suc i) (map f ts))
one_begun f [] i lt = absurd (omega (arith, lt))
one_begun f (t ∷ ts) zero lt = refl
one_begun f (t ∷ ts) (suc i) lt = one_begun f ts i (omega (arith, lt))

pub begun_questions : (f : Table → ℕ) (ts : List Table) (s : Sweep) → length ts ≡ 7 → questions_in (drop (index_of s) (map f ts)) ≡ questions_of (f (table_at ts s)) + questions_in (drop (suc (index_of s)) (map f ts))
begun_questions f ts s many = one_begun f ts (index_of s) (let lt = index_within s in omega (arith, lt, many))

pub more_questions : (n m : ℕ) → n ≤ m → questions_of n ≤ questions_of m
more_questions n m le = omega (arith, le)
