-- The children of an object are the records to which its fields refer.
use Rattle.std.proofs.Common.{◌≡◌, ◌⊎◌, Bool, false, List, ℕ, ◌+◌, zero, suc, ◌<◌, ◌↔◌, length, get_or, Some, inl, inr, ⊎_elim, refl, sym, ap, ◌∙◌, subst, arith, slice_index_or}
use Rattle.std.proofs.lemmas.Option.{same_Some}
use Rattle.std.proofs.lemmas.Bool.{cases_lt, both_ways}
use Rattle.std.specs.FinMap.{get}
use Rattle.fz_model.specs.State.{Map, Object}
use Rattle.fz_model.specs.Memory.{points}
use Rattle.fz_model.specs.Reachability.{Child}
use Rattle.own_heap.specs.declared.record.Field.{Field}
use Rattle.own_heap.specs.declared.record.Field.TheVariants.{Nothing}
use Rattle.own_heap.specs.declared.record.Record.{Record}
use Rattle.own_heap.specs.Records.{word_of, words_of, object_of}
use Rattle.own_heap.specs.Marking.{IsTargetBut, IsChildBut}

pub word_in : (r : Record) (k d : ℕ) → k < 4 → slice_index_or (words_of r) k d ≡ word_of (get_or r.fields k Nothing)
word_in r zero d low = refl
word_in r (suc zero) d low = refl
word_in r (suc (suc zero)) d low = refl
word_in r (suc (suc (suc zero))) d low = refl
word_in r (suc (suc (suc (suc k)))) d low = absurd (omega arith)

-- one of the first fields refers to it
abbrev pub IsFieldOf : Map Object → Record → ℕ → ℕ → Type 0
IsFieldOf objects r upto a = (k : ℕ) × (k < upto) × (points objects (word_of (get_or r.fields k Nothing)) ≡ Some a)

pub child_fields : (objects : Map Object) (r : Record) (a b : ℕ) → get objects a ≡ Some (object_of r) → Child objects a b ↔ IsFieldOf objects r 4 b
child_fields objects r a b here = (
  λ c.
      let same : c.object ≡ object_of r = same_Some _ _ (sym c.here ∙ here) in
      let k = c.within.0 in
      let low : k < 4 = subst (λ (o : Object). k < length o.words) same c.within.1 in
      let word = subst (λ (o : Object). slice_index_or o.words k c.word ≡ c.word) same c.within.2 in
      (k, low, ap (points objects) (sym (word_in r k c.word low) ∙ word) ∙ c.pointed),
  λ (k, low, pointed). record {
    object = object_of r;
    here = here;
    scanned = refl;
    word = word_of (get_or r.fields k Nothing);
    within = (k, low, word_in r k (word_of (get_or r.fields k Nothing)) low);
    pointed = pointed;
  },
)

-- one of the first of these fields refers to it, or any but the object itself
abbrev pub AreFieldsBut : Map Object → Bool → ℕ → List Field → ℕ → ℕ → Type 0
AreFieldsBut objects but_itself object fields upto a = (k : ℕ) × (k < upto) × IsTargetBut objects but_itself object (get_or fields k Nothing) a

pub more_fields : (objects : Map Object) (but_itself : Bool) (object : ℕ) (fields : List Field) (i a : ℕ) → AreFieldsBut objects but_itself object fields (i + 1) a ↔ (AreFieldsBut objects but_itself object fields i a ⊎ IsTargetBut objects but_itself object (get_or fields i Nothing) a)
more_fields objects but_itself object fields i a = (
  λ (k, low, target). ⊎_elim (λ less. inl (k, less, target)) (λ past. inr (subst (λ j. IsTargetBut objects but_itself object (get_or fields j Nothing) a) (omega arith) target)) (cases_lt k i),
  ⊎_elim (λ (k, low, target). (k, omega arith, target)) (λ target. (i, omega arith, target)),
)

pub all_fields : (objects : Map Object) (but_itself : Bool) (object : ℕ) (r : Record) (upto a : ℕ) → upto ≡ 4 → get objects object ≡ Some (object_of r) → AreFieldsBut objects but_itself object r.fields upto a ↔ IsChildBut objects but_itself object a
all_fields objects but_itself object r upto a all here =
    let both = child_fields objects r object a here in (
      λ (k, low, target). (both.1 (k, omega arith, target.0), target.1),
      λ (child, other). let field = both.0 child in (field.0, omega (arith, field.1), (field.2, other)),
    )

pub any_child : (objects : Map Object) (object a : ℕ) → IsChildBut objects false object a ↔ Child objects object a
any_child objects object a = (λ (child, other). child, λ child. (child, λ on. absurd (both_ways false refl on)))
