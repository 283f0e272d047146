-- What a pass over heap and marks asks for, and what it leaves.
use Rattle.std.proofs.Common.{◌≡◌, ◌+◌, ◌||◌, ◌&&◌, ◌==◌, not, ℕ, Bool, true, false, Option, None, Some, Result, Ok, Err, OnOk, OnErr, is_some, All, refl, sym, ap, ◌∙◌, arith, length, nat_cmp}
use Rattle.std.proofs.lemmas.List.{length-map}
use Rattle.std.specs.FinSet.{contains}
use Rattle.std.specs.FinMap.{keys, entries, len, contains_key, retain_keys, contains_key-keys, len-entries}
use Rattle.std.specs.List.{list_any}
use Rattle.std.specs.Ordering.{eq_by_cmp}
use Rattle.fz_model.specs.declared.refusal.Refusal.{Refusal}
use Rattle.fz_model.specs.Causes.{IsJudgedBy, place_causes}
use Rattle.fz_model.specs.Pass.{is_outside}
use Rattle.fz_bits.specs.Flags.{Set}
use Rattle.fz_heap.specs.Contents.{Contents}
use Rattle.fz_model.specs.State.{Map, Object}
use Rattle.fz_model.specs.Extents.{IsInHeap, extents, extent_of}
use Rattle.fz_model.specs.Memory.{points, written}
use Rattle.fz_model.specs.Causes.{first_cause}
use Rattle.fz_model.proofs.Objects.{from_covers, points_target}
use Rattle.fz_heap.proofs.Extents.{judged_inside}
use Rattle.std.proofs.lemmas.Option.{none-some}
use Rattle.fz_model.proofs.Maps.{filling}
use Rattle.fz_heap.proofs.Mapped.{has_key, keys-mapped}
use Rattle.fz_pass.proofs.Filling.{written_nowhere}
use Rattle.fz_marked.proofs.Condemned.{has_retained, of_keys}

-- where each object lies in the heap, zero points to none
pub nothing_at_zero : (blocks : ℕ) (objects : Map Object) → All (IsInHeap blocks) (keys objects) → points objects 0 ≡ None
nothing_at_zero blocks objects within = by (points objects 0) refl
  where
    by : (found : Option ℕ) → points objects 0 ≡ found → points objects 0 ≡ None
    by None is = is
    by (Some a) is =
        let there = points_target (extents objects) 0 a is in
        let below = (from_covers a 0 there.0 there.2).0 in
        let low = (of_keys objects (IsInHeap blocks) within a (sym (has_key (λ _. extent_of) objects a) ∙ ap is_some there.1)).0 in
        absurd (omega (arith, below, low))

-- ---- a word that is written, if it lies in an object

-- where a word can't be written, it lies in no object
pub refused_nowhere : (objects : Map Object) (word : ℕ) (r : Refusal) → first_cause (place_causes objects word 0) ≡ Some r → points objects word ≡ None
refused_nowhere objects word r refused = at (points objects word) refl
  where
    at : (o : Option ℕ) → points objects word ≡ o → o ≡ None
    at None is = refl
    at (Some a) is =
        let there = points_target (extents objects) word a is in
        let bounds = from_covers a word there.0 there.2 in
        let none = judged_inside (extents objects) word 0 a there.0 is there.1 (omega (arith, bounds.0)) (omega (arith, bounds.1)) in
        absurd (none-some r (sym none ∙ refused))

written_at : (word value : ℕ) (objects : Map Object) → written (word + 0) value objects ≡ written word value objects
written_at word value objects = let same : word + 0 ≡ word = omega arith in ap (λ w. written w value objects) same

pub written_or_not : (old new : Contents) (word value : ℕ) (result : Result Unit Refusal) → IsJudgedBy (place_causes old.objects word 0) result → OnErr result (new ≡ old) → OnOk result (new ≡ record old { objects = written (word + 0) value old.objects }) → new ≡ record old { objects = written word value old.objects }
written_or_not old new word value (Ok x) judged unchanged is = is ∙ ap (λ m. record old { objects = m }) (written_at word value old.objects)
written_or_not old new word value (Err r) judged unchanged is = unchanged ∙ ap (λ m. record old { objects = m }) (sym (written_nowhere word value old.objects (refused_nowhere old.objects word r judged)))

pub keys-written : (word value : ℕ) (objects : Map Object) → keys (written word value objects) ≡ keys objects
unfolding written
keys-written word value objects = keys-mapped (filling (λ a. a == word) value) objects

-- ---- what is condemned

module _ (objects mid new : Map Object) (starts : keys mid ≡ keys objects) (kept : ℕ → Bool) (left : new ≡ retain_keys mid kept) where
  here : (a : ℕ) → contains_key mid a ≡ contains_key objects a
  here a = contains_key-keys mid a ∙ ap (list_any (eq_by_cmp nat_cmp a)) starts ∙ sym (contains_key-keys objects a)

  gone : (there stays was : Bool) → ((there && not stays) || was) ≡ ((there && not (there && stays)) || was)
  gone true stays was = refl
  gone false stays was = refl

  -- what is outside the kept objects is what was there before and is no more
  pub is_condemned : (now was : Set) → ((a : ℕ) → contains now a ≡ (is_outside mid kept a || contains was a)) → (a : ℕ) → contains now a ≡ ((contains_key objects a && not (contains_key new a)) || contains was a)
  is_condemned now was is a =
      let stays = ap (λ m. contains_key m a) left ∙ has_retained mid kept a ∙ ap (λ b. b && kept a) (here a) in
      is a ∙ ap (λ b. (b && not (kept a)) || contains was a) (here a) ∙ gone (contains_key objects a) (kept a) (contains was a)
      ∙ ap (λ b. (contains_key objects a && not b) || contains was a) (sym stays)

pub len_by_keys : (old new : Map Object) → keys new ≡ keys old → len new ≡ len old
len_by_keys old new same = length_keys new ∙ ap length same ∙ sym (length_keys old)
  where
    length_keys : (m : Map Object) → len m ≡ length (keys m)
    length_keys m = len-entries m ∙ sym (length-map (entries m) (λ e. e.0))
