-- A phase that keeps the items whose objects aren't marked.
use Rattle.std.proofs.Common.{◌≡◌, ◌⊎◌, ◌++◌, ◌∷◌, ◌∙◌, [], ℕ, Bool, true, false, not, cond, List, sym, ap, inl, inr, ⊎_elim}
use Rattle.std.proofs.lemmas.Bool.{both_ways}
use Rattle.fz_machine.specs.declared.item.Item.{Item}
use Rattle.fz_machine.proofs.Among.{Each, OneOf, each_push, one_left, one_last}

-- the item is of this object and this word
abbrev pub IsAt : ℕ → ℕ → Item → Type 0
IsAt object word i = (i.object ≡ object) × (i.word ≡ word)

module _ (marked : ℕ → Bool) (P : Item → Type 0) (Wanted : ℕ → ℕ → Type 0) where
  -- the unmarked items are kept, and none that is wanted is lost
  pub record Sifted (kept left : List Item) : Type 0 where
    pub kept_are : Each (λ i. P i × (marked i.object ≡ false)) kept
    pub left_are : Each P left
    pub rest : (object word : ℕ) → Wanted object word → marked object ≡ false → OneOf (IsAt object word) kept ⊎ OneOf (IsAt object word) left

  module _ (kept left : List Item) (item : Item) (s : Sifted kept (item ∷ left)) where
    passed_by : marked item.object ≡ true → Sifted kept left
    passed_by on = record {
      kept_are = s.kept_are;
      left_are = s.left_are.1;
      rest = λ object word wanted off. ⊎_elim inl (λ h. inr (by object word off h)) (s.rest object word wanted off);
    }
      where
        by : (object word : ℕ) → marked object ≡ false → OneOf (IsAt object word) (item ∷ left) → OneOf (IsAt object word) left
        by object word off (inl at) = absurd (both_ways (marked object) off (ap marked (sym at.0) ∙ on))
        by object word off (inr h) = h

    kept_on : marked item.object ≡ false → Sifted (kept ++ item ∷ []) left
    kept_on off = record {
      kept_are = each_push (λ i. P i × (marked i.object ≡ false)) kept item s.kept_are (s.left_are.0, off);
      left_are = s.left_are.1;
      rest = λ object word wanted un. ⊎_elim (λ h. inl (one_left (IsAt object word) kept (item ∷ []) h)) (by object word) (s.rest object word wanted un);
    }
      where
        by : (object word : ℕ) → OneOf (IsAt object word) (item ∷ left) → OneOf (IsAt object word) (kept ++ item ∷ []) ⊎ OneOf (IsAt object word) left
        by object word (inl at) = inl (one_last (IsAt object word) kept item at)
        by object word (inr h) = inr h

    pub sift : (answer : Bool) → answer ≡ marked item.object → Sifted (cond (not answer) (kept ++ item ∷ []) kept) left
    sift true is = passed_by (sym is)
    sift false is = kept_on (sym is)

  pub sift_begins : (items : List Item) → Each P items → ((object word : ℕ) → Wanted object word → marked object ≡ false → OneOf (IsAt object word) items) → Sifted [] items
  sift_begins items are all = record { kept_are = tt; left_are = are; rest = λ object word wanted off. inr (all object word wanted off) }

  -- what was wanted and isn't marked is kept, once none is left
  pub sifted : (kept : List Item) → Sifted kept [] → (object word : ℕ) → Wanted object word → marked object ≡ false → OneOf (IsAt object word) kept
  sifted kept s object word wanted off = ⊎_elim (λ h. h) (λ h. absurd h) (s.rest object word wanted off)
