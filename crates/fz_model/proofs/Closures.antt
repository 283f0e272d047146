-- What a test reaches by steps among finitely many nodes, computed: closed under steps, and nothing else is in it. It shows that sets that are said
-- as least sets can be told.
use Rattle.std.proofs.Common.{◌≡◌, ℕ, ◌≤◌, ◌⊎◌, Bool, true, false, cond, ◌&&◌, ◌||◌, List, [], ◌∷◌, length, sym, ap, ◌∙◌, subst, inl, inr, ⊎_elim, arith, suc, zero, count_by, slice_get, Some, le_of_eq}
use Rattle.std.proofs.lemmas.Bool.{cases_Bool, or_left, or_right, or_cases, and_parts, and_from, cases_lt}
use Rattle.std.proofs.lemmas.List.Sums.{count_by-le-length}
use Rattle.std.proofs.lemmas.List.Folds.{list_any_at, Any-from_list_any}
use Rattle.std.proofs.lemmas.Option.{none-some, same_Some, slice_get_within, get_or_from_slice_get}
use Rattle.std.specs.List.{list_any}
use Rattle.fz_model.proofs.Lists.{count_cons}

-- from the nodes that pass the start, by at most n steps
abbrev pub reached_in : List ℕ → (ℕ → ℕ → Bool) → (ℕ → Bool) → ℕ → ℕ → Bool
reached_in nodes step start zero a = start a
reached_in nodes step start (suc n) a = reached_in nodes step start n a || list_any (λ b. reached_in nodes step start n b && step b a) nodes

-- by any number of steps
abbrev pub closure : List ℕ → (ℕ → ℕ → Bool) → (ℕ → Bool) → ℕ → Bool
closure nodes step start a = reached_in nodes step start (suc (length nodes)) a

-- a smaller test passes no more often, and just as often only where it passes as much
count_le : (p q : ℕ → Bool) (xs : List ℕ) → ((x : ℕ) → p x ≡ true → q x ≡ true) → count_by p xs ≤ count_by q xs
count_le p q [] h = omega arith
count_le p q (x ∷ xs) h =
    let rest = count_le p q xs h in
    let a = count_cons p x xs in
    let b = count_cons q x xs in
    ⊎_elim
    (λ t. omega (arith, rest, a, b, ap {B = ℕ} (λ c. cond c 1 0) t, ap {B = ℕ} (λ c. cond c 1 0) (h x t)))
    (λ f. omega (arith, rest, a, b, ap {B = ℕ} (λ c. cond c 1 0) f))
    (cases_Bool (p x))

count_same : (p q : ℕ → Bool) (xs : List ℕ) → ((x : ℕ) → p x ≡ true → q x ≡ true) → count_by q xs ≤ count_by p xs → (k x : ℕ) → slice_get xs k ≡ Some x → q x ≡ true → p x ≡ true
count_same p q [] h le k x is t = absurd (none-some x is)
count_same p q (y ∷ xs) h le zero x is t =
    ⊎_elim (λ s. s)
    (λ f.
    let there : q y ≡ true = subst (λ z. q z ≡ true) (sym (same_Some y x is)) t in
    let missing : p y ≡ false = subst (λ z. p z ≡ false) (sym (same_Some y x is)) f in
    let a = count_cons p y xs in
    let b = count_cons q y xs in
    absurd (omega (arith, le, a, b, count_le p q xs h, ap {B = ℕ} (λ c. cond c 1 0) there, ap {B = ℕ} (λ c. cond c 1 0) missing)))
    (cases_Bool (p x))
count_same p q (y ∷ xs) h le (suc k) x is t =
    let a = count_cons p y xs in
    let b = count_cons q y xs in
    let more : cond (p y) 1 0 ≤ cond (q y) 1 0 =
    ⊎_elim (λ s. le_of_eq (ap {B = ℕ} (λ c. cond c 1 0) s ∙ sym (ap {B = ℕ} (λ c. cond c 1 0) (h y s)))) (λ f. omega (arith, ap {B = ℕ} (λ c. cond c 1 0) f)) (cases_Bool (p y)) in
    count_same p q xs h (omega (arith, le, a, b, more)) k x is t

module _ (nodes : List ℕ) (step : ℕ → ℕ → Bool) (start : ℕ → Bool) (within : (b a : ℕ) → step b a ≡ true → (k : ℕ) × (slice_get nodes k ≡ Some a)) (from : (b a : ℕ) → step b a ≡ true → (k : ℕ) × (slice_get nodes k ≡ Some b)) where
  abbrev at : ℕ → ℕ → Bool
  at n a = reached_in nodes step start n a

  on : (n a : ℕ) → at n a ≡ true → at (suc n) a ≡ true
  on n a t = or_left _ _ t

  -- one more round adds nothing
  abbrev IsDone : ℕ → Type 0
  IsDone n = (a : ℕ) → at (suc n) a ≡ true → at n a ≡ true

  -- a node of the last round comes by a step
  by_step : (n a : ℕ) → list_any (λ b. at n b && step b a) nodes ≡ true → (b : ℕ) × (at n b ≡ true) × (step b a ≡ true)
  by_step n a t =
      let r = Any-from_list_any (λ b. at n b && step b a) nodes t in
      let p = and_parts (at n r.1) (step r.1 a) r.4 in
      (r.1, p.0, p.1)

  add_step : (n b a : ℕ) → at n b ≡ true → step b a ≡ true → at (suc n) a ≡ true
  add_step n b a t s =
      let k = from b a s in
      or_right (at n a) _ (list_any_at (λ b. at n b && step b a) nodes k.0 b (slice_get_within nodes k.0 b k.1) (subst (λ x. (at n x && step x a) ≡ true) (sym (get_or_from_slice_get nodes k.0 b b k.1)) (and_from _ _ t s)))

  still_done : (n : ℕ) → IsDone n → IsDone (suc n)
  still_done n done a t =
      ⊎_elim (λ s. s) (λ s. let r = by_step (suc n) a s in add_step n r.0 a (done r.0 r.1) r.2) (or_cases (at (suc n) a) _ t)

  done_or_more : (n : ℕ) → (n ≤ count_by (at n) nodes) ⊎ IsDone n
  done_or_more zero = inl (omega arith)
  done_or_more (suc n) =
      ⊎_elim
      (λ many. ⊎_elim (λ grew. inl (omega arith)) (λ same. inr (still_done n (settled same))) (cases_lt (count_by (at n) nodes) (count_by (at (suc n)) nodes)))
      (λ done. inr (still_done n done))
      (done_or_more n)
    where
      settled : count_by (at (suc n)) nodes ≤ count_by (at n) nodes → IsDone n
      settled same a t =
          ⊎_elim (λ s. s)
          (λ s. let r = by_step n a s in let k = within r.0 a r.2 in count_same (at n) (at (suc n)) nodes (on n) same k.0 a k.1 t)
          (or_cases (at n a) _ t)

  pub closure_closed : (b a : ℕ) → closure nodes step start b ≡ true → step b a ≡ true → closure nodes step start a ≡ true
  closure_closed b a t s =
      ⊎_elim (λ many. absurd (omega (arith, many, count_by-le-length (at (suc (length nodes))) nodes)))
      (λ done. done a (add_step (suc (length nodes)) b a t s))
      (done_or_more (suc (length nodes)))

  pub start_in : (a : ℕ) → start a ≡ true → closure nodes step start a ≡ true
  start_in a t = rounds (suc (length nodes))
    where
      rounds : (n : ℕ) → at n a ≡ true
      rounds zero = t
      rounds (suc n) = or_left _ _ (rounds n)

  -- it is within each set that has the start and is closed
  pub closure_least : (P : ℕ → Type 0) → ((a : ℕ) → start a ≡ true → P a) → ((b a : ℕ) → P b → step b a ≡ true → P a) → (a : ℕ) → closure nodes step start a ≡ true → P a
  closure_least P first next a t = rounds (suc (length nodes)) a t
    where
      rounds : (n a : ℕ) → at n a ≡ true → P a
      rounds zero a t = first a t
      rounds (suc n) a t = ⊎_elim (rounds n a) (λ s. let r = by_step n a s in next r.0 a (rounds n r.0 r.1) r.2) (or_cases (at n a) _ t)
