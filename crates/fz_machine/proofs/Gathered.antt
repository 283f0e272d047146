-- One more item of a question.
use Rattle.std.proofs.Common.{◌≡◌, ◌≤◌, ◌<◌, ◌+◌, ◌++◌, ◌∷◌, ◌∙◌, ◌&&◌, [], ℕ, List, All, Some, None, cond, refl, length, map, take, set, slice_get, get_or, true, nat_lt, ltb-true, sym, ap, subst, arith}
use Rattle.std.proofs.lemmas.List.{take_more, take_more_set, map-append}
use Rattle.std.proofs.lemmas.List.Elements.{All-push}
use Rattle.std.proofs.lemmas.Option.{get_or_from_slice_get, slice_get-get_or, slice_get_within}
use Rattle.fz_machine.specs.declared.item.Item.{Item}
use Rattle.fz_machine.specs.declared.phase.Phase.{Phase}
use Rattle.fz_machine.specs.declared.question.Ask.{Ask}
use Rattle.fz_machine.specs.declared.phase.Phase.TheVariants.{Children, Picks}
use Rattle.fz_machine.specs.Phases.{ask_of, asks, child_ask, is_swept, pick_ask, subject}
use Rattle.fz_machine.specs.Sifts.{is_of_words}

-- what is asked depends on the kind of an item, and on whether it is known
of_kind : (phase : Phase) (a b : Item) → a.kind ≡ b.kind → ask_of phase a ≡ ask_of phase b
of_kind Children a b same = ap child_ask same
of_kind Picks a b same = ap pick_ask same
of_kind phase a b same = refl

pub asks_alike : (phase : Phase) (a b : Item) → a.kind ≡ b.kind → a.known ≡ b.known → asks phase a ≡ asks phase b
asks_alike phase a b kind known = ap (λ k. cond (is_swept phase && k) None (ask_of phase a)) known ∙ ap (cond (is_swept phase && b.known) None) (of_kind phase a b kind)

-- what is asked about is the word or the object
pub subject_is : (phase : Phase) (item : Item) → cond (is_of_words phase) item.word item.object ≡ subject phase item
subject_is Children item = refl
subject_is phase item = refl

pub item_at : (items : List Item) (i : ℕ) (item : Item) → true ≡ nat_lt i (length items) → item ≡ get_or items i item → slice_get items i ≡ Some item
item_at items i item lt is = slice_get-get_or items i item (ltb-true i (length items) (sym lt)) ∙ ap Some (sym is)

module _ (phase : Phase) (ask : Ask) (items : List Item) (i : ℕ) (item : Item) (at : slice_get items i ≡ Some item) (same : asks phase item ≡ Some ask) where
  grown : take (i + 1) items ≡ take i items ++ item ∷ []
  grown = take_more items i item (slice_get_within items i item at) ∙ ap (λ x. take i items ++ x ∷ []) (get_or_from_slice_get items i item item at)

  pub one_more : (about : List ℕ) (what : ℕ) → what ≡ subject phase item → i < length about → All (λ x. asks phase x ≡ Some ask) (take i items) → take i about ≡ map (subject phase) (take i items)
      → (i + 1 ≤ length items) × All (λ x. asks phase x ≡ Some ask) (take (i + 1) items) × (take (i + 1) (set about i what) ≡ map (subject phase) (take (i + 1) items))
  one_more about what is lt alike so_far = (
    let within = slice_get_within items i item at in omega (arith, within),
    subst (All (λ x. asks phase x ≡ Some ask)) (sym grown) (All-push (λ x. asks phase x ≡ Some ask) (take i items) item alike same),
    take_more_set about i what lt ∙ ap (λ xs. xs ++ what ∷ []) so_far ∙ ap (λ w. map (subject phase) (take i items) ++ w ∷ []) is ∙ sym (map-append (subject phase) (take i items) (item ∷ []))
        ∙ ap (map (subject phase)) (sym grown),
  )
