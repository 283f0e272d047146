-- Items of a list: each of them, one of them, and in order.
use Rattle.std.proofs.Common.{◌≤◌, ◌⊎◌, ◌++◌, ◌∷◌, [], ◌≡◌, ℕ, Bool, true, false, cond, filter, List, zero, suc, map, All, Contains, refl, sym, subst, inl, inr, ⊎_elim, arith}
use Rattle.std.proofs.lemmas.List.Elements.{All-head, All-tail, All-nil, All-cons}
use Rattle.std.proofs.lemmas.List.Sorted.{All-permutation, Contains-permutation}
use Rattle.std.specs.List.Sorted.{IsPermutation, IsNonDecreasingBy}

module _ {X : Type 0} where
  abbrev pub Each : (X → Type 0) → List X → Type 0
  Each P [] = Unit {0}
  Each P (x ∷ xs) = P x × Each P xs

  abbrev pub OneOf : (X → Type 0) → List X → Type 0
  OneOf P [] = ⊥
  OneOf P (x ∷ xs) = P x ⊎ OneOf P xs

  -- a number doesn't fall along it
  abbrev pub AreInOrder : (X → ℕ) → List X → Type 0
  AreInOrder n [] = Unit {0}
  AreInOrder n (x ∷ xs) = Each (λ y. n x ≤ n y) xs × AreInOrder n xs

  module _ (P : X → Type 0) where
    pub each_push : (xs : List X) (x : X) → Each P xs → P x → Each P (xs ++ x ∷ [])
    each_push [] x h p = (p, tt)
    each_push (y ∷ ys) x h p = (h.0, each_push ys x h.1 p)

    pub each_from : (xs : List X) → All P xs → Each P xs
    each_from [] h = tt
    each_from (x ∷ xs) h = (All-head P x xs h, each_from xs (All-tail P x xs h))

    pub each_all : (xs : List X) → Each P xs → All P xs
    each_all [] h = All-nil P
    each_all (x ∷ xs) h = All-cons P x xs h.0 (each_all xs h.1)

    pub each_permuted : (xs ys : List X) → IsPermutation xs ys → Each P xs → Each P ys
    each_permuted xs ys moved h = each_from ys (All-permutation P xs ys moved (each_all xs h))

    each_without : (xs : List X) (x : X) (ys : List X) → Each P (xs ++ x ∷ ys) → Each P (xs ++ ys)
    each_without [] x ys h = h.1
    each_without (y ∷ xs) x ys h = (h.0, each_without xs x ys h.1)

    pub each_filter : (p : X → Bool) (xs : List X) → Each P xs → Each P (filter p xs)
    each_filter p [] h = tt
    each_filter p (x ∷ xs) h = by (p x) (each_filter p xs h.1)
      where
        by : (b : Bool) → Each P (filter p xs) → Each P (cond b (x ∷ filter p xs) (filter p xs))
        by true rest = (h.0, rest)
        by false rest = rest

    -- one that passes a test stays
    pub one_filter : (p : X → Bool) → ((x : X) → P x → p x ≡ true) → (xs : List X) → OneOf P xs → OneOf P (filter p xs)
    one_filter p passes [] h = absurd h
    one_filter p passes (x ∷ xs) (inl h) = subst (λ b. OneOf P (cond b (x ∷ filter p xs) (filter p xs))) (sym (passes x h)) (inl h)
    one_filter p passes (x ∷ xs) (inr h) = by (p x) (one_filter p passes xs h)
      where
        by : (b : Bool) → OneOf P (filter p xs) → OneOf P (cond b (x ∷ filter p xs) (filter p xs))
        by true rest = inr rest
        by false rest = rest

    pub one_left : (xs ys : List X) → OneOf P xs → OneOf P (xs ++ ys)
    one_left [] ys h = absurd h
    one_left (x ∷ xs) ys (inl p) = inl p
    one_left (x ∷ xs) ys (inr h) = inr (one_left xs ys h)

    pub one_last : (xs : List X) (x : X) → P x → OneOf P (xs ++ x ∷ [])
    one_last [] x p = inl p
    one_last (y ∷ xs) x p = inr (one_last xs x p)

    pub one_from : (xs : List X) (x : X) → Contains xs x → P x → OneOf P xs
    one_from [] x (i, lt, is) p = absurd (omega (arith, lt))
    one_from (y ∷ xs) x (zero, lt, is) p = inl (subst P (sym is) p)
    one_from (y ∷ xs) x (suc i, lt, is) p = inr (one_from xs x (i, omega (arith, lt), is) p)

    one_is : (xs : List X) → OneOf P xs → (x : X) × Contains xs x × P x
    one_is [] h = absurd h
    one_is (x ∷ xs) (inl p) = (x, (0, omega arith, refl), p)
    one_is (x ∷ xs) (inr h) = let y = one_is xs h in (y.0, (suc y.1.0, (let lt = y.1.1 in omega (arith, lt)), y.1.2), y.2)

    pub one_permuted : (xs ys : List X) → IsPermutation xs ys → OneOf P xs → OneOf P ys
    one_permuted xs ys moved h = let x = one_is xs h in one_from ys x.0 (Contains-permutation xs ys x.0 moved x.1) x.2

  module _ (P Q : X → Type 0) where
    pub each_as : ((x : X) → P x → Q x) → (xs : List X) → Each P xs → Each Q xs
    each_as f [] h = tt
    each_as f (x ∷ xs) h = (f x h.0, each_as f xs h.1)

    -- one of them is so, and each is otherwise
    pub each_one : (xs : List X) → Each P xs → OneOf Q xs → (x : X) × P x × Q x
    each_one [] h k = absurd k
    each_one (x ∷ xs) h (inl q) = (x, h.0, q)
    each_one (x ∷ xs) h (inr k) = each_one xs h.1 k

    pub one_as : ((x : X) → P x → Q x) → (xs : List X) → OneOf P xs → OneOf Q xs
    one_as f [] h = absurd h
    one_as f (x ∷ xs) (inl p) = inl (f x p)
    one_as f (x ∷ xs) (inr h) = inr (one_as f xs h)

  module _ (n : X → ℕ) where
    pub order_from : (xs : List X) → IsNonDecreasingBy n xs → AreInOrder n xs
    order_from [] h = tt
    order_from (x ∷ xs) h = (
      each_from (λ y. n x ≤ n y) xs (λ i d lt. h zero (suc i) d (omega arith) (omega (arith, lt))),
      order_from xs (λ i j d le lt. h (suc i) (suc j) d (omega (arith, le)) (omega (arith, lt))),
    )

    -- one of them is left out
    pub order_without : (xs : List X) (x : X) (ys : List X) → AreInOrder n (xs ++ x ∷ ys) → AreInOrder n (xs ++ ys)
    order_without [] x ys h = h.1
    order_without (y ∷ xs) x ys h = (each_without (λ z. n y ≤ n z) xs x ys h.0, order_without xs x ys h.1)

    pub order_after : (xs : List X) (x : X) (ys : List X) → AreInOrder n (xs ++ x ∷ ys) → Each (λ y. n x ≤ n y) ys
    order_after [] x ys h = h.0
    order_after (y ∷ xs) x ys h = order_after xs x ys h.1

    pub order_rest : (xs ys : List X) → AreInOrder n (xs ++ ys) → AreInOrder n ys
    order_rest [] ys h = h
    order_rest (x ∷ xs) ys h = order_rest xs ys h.1

  pub each_append : (P : X → Type 0) (xs ys : List X) → Each P xs → Each P ys → Each P (xs ++ ys)
  each_append P [] ys h k = k
  each_append P (x ∷ xs) ys h k = (h.0, each_append P xs ys h.1 k)

  pub each_parts : (P : X → Type 0) (xs ys : List X) → Each P (xs ++ ys) → Each P xs × Each P ys
  each_parts P [] ys h = (tt, h)
  each_parts P (x ∷ xs) ys h = let rest = each_parts P xs ys h.1 in ((h.0, rest.0), rest.1)

  pub one_part : (P : X → Type 0) (xs ys : List X) → OneOf P (xs ++ ys) → OneOf P xs ⊎ OneOf P ys
  one_part P [] ys h = inr h
  one_part P (x ∷ xs) ys (inl p) = inl (inl p)
  one_part P (x ∷ xs) ys (inr h) = ⊎_elim (λ k. inl (inr k)) inr (one_part P xs ys h)

  pub one_right : (P : X → Type 0) (xs ys : List X) → OneOf P ys → OneOf P (xs ++ ys)
  one_right P [] ys h = h
  one_right P (x ∷ xs) ys h = inr (one_right P xs ys h)

module _ {X Y : Type 0} (f : X → Y) (P : Y → Type 0) where
  pub each_mapped : (xs : List X) → Each (λ x. P (f x)) xs → Each P (map f xs)
  each_mapped [] h = tt
  each_mapped (x ∷ xs) h = (h.0, each_mapped xs h.1)

  pub one_mapped : (xs : List X) → OneOf (λ x. P (f x)) xs → OneOf P (map f xs)
  one_mapped [] h = absurd h
  one_mapped (x ∷ xs) (inl p) = inl p
  one_mapped (x ∷ xs) (inr h) = inr (one_mapped xs h)

  pub each_unmapped : (xs : List X) → Each P (map f xs) → Each (λ x. P (f x)) xs
  each_unmapped [] h = tt
  each_unmapped (x ∷ xs) h = (h.0, each_unmapped xs h.1)

  pub one_unmapped : (xs : List X) → OneOf P (map f xs) → OneOf (λ x. P (f x)) xs
  one_unmapped [] h = absurd h
  one_unmapped (x ∷ xs) (inl p) = inl p
  one_unmapped (x ∷ xs) (inr h) = inr (one_unmapped xs h)
