-- All ephemerons that are put off, whatever the host tells of them.
use Rattle.std.proofs.Common.{◌≡◌, ◌≤◌, ◌+◌, ◌++◌, ◌∷◌, ◌∙◌, [], ℕ, suc, Bool, true, false, true≢false, cond, IsTrue, List, append-nil, append_assoc, ap, arith, filter, length-append, nat_eq, not, refl, subst, sym}
use Rattle.std.proofs.lemmas.List.Sorted.{IsPermutation-append_left, IsPermutation-append_right, IsPermutation-filter_both, IsPermutation-refl, IsPermutation-trans}
use Rattle.std.specs.List.Sorted.{IsPermutation}
use Rattle.fz_machine.specs.declared.item.Item.{Item}
use Rattle.fz_machine.specs.declared.phase.Phase.{Phase}
use Rattle.fz_machine.specs.declared.phase.Phase.TheVariants.{Keys, KeysAgain, Holders, Values}
use Rattle.fz_machine.specs.Off.{IsIndexed, PutOff, TellsOff, all_off, count_off, put_off, stuck_with, told_of}
use Rattle.fz_machine.specs.Phases.{keeps, settles}

-- another is put off
pub all_with : (off : PutOff) (item : Item) → all_off (stuck_with off item) ≡ all_off off ++ item ∷ []
all_with off item = ap (λ xs. off.told ++ xs) (sym (append_assoc off.index off.stuck (item ∷ []))) ∙ sym (append_assoc off.told (off.index ++ off.stuck) (item ∷ []))

-- ---- what the host tells only moves them

index_moves : (index : List Item) (old new : PutOff) → old.index ≡ index → IsIndexed index old new → IsPermutation (all_off old) (all_off new)
index_moves [] old new none (is, moved) =
    let full = subst (IsPermutation old.stuck) (sym (append-nil new.index)) moved in
    subst (λ (o : PutOff). IsPermutation (all_off old) (all_off o)) (sym is)
    (subst (λ xs. IsPermutation (old.told ++ (xs ++ old.stuck)) (old.told ++ (new.index ++ []))) (sym none) (IsPermutation-append_right old.told old.stuck (new.index ++ []) full))
index_moves (item ∷ index) old new some is = subst (λ (o : PutOff). IsPermutation (all_off old) (all_off o)) (sym is) (IsPermutation-refl (all_off old))

told_moves : (key : ℕ) (off : PutOff) → IsPermutation (all_off off) (all_off (told_of key off))
told_moves key off =
    let them = filter (λ (item : Item). nat_eq key item.object) off.index in
    let others = filter (λ (item : Item). not (nat_eq key item.object)) off.index in
    let split = IsPermutation-filter_both (λ (item : Item). nat_eq key item.object) (λ (item : Item). not (nat_eq key item.object)) (λ item. refl) off.index in
    let moved = IsPermutation-append_right off.told (off.index ++ off.stuck) ((them ++ others) ++ off.stuck) (IsPermutation-append_left off.stuck off.index (them ++ others) split) in
    subst (IsPermutation (all_off off)) (ap (λ xs. off.told ++ xs) (append_assoc them others off.stuck) ∙ sym (append_assoc off.told them (others ++ off.stuck))) moved

pub tells_moves : (key : ℕ) (old new : PutOff) → TellsOff key old new → IsPermutation (all_off old) (all_off new)
tells_moves key old new (mid, indexed, told) =
    IsPermutation-trans (all_off old) (all_off mid) (all_off new) (index_moves old.index old mid refl indexed) (subst (λ (o : PutOff). IsPermutation (all_off mid) (all_off o)) (sym told) (told_moves key mid))

index_again : (index : List Item) (old new : PutOff) → IsIndexed index old new → new.again ≡ old.again
index_again [] old new (is, moved) = ap (λ (o : PutOff). o.again) is
index_again (item ∷ index) old new is = ap (λ (o : PutOff). o.again) is

pub tells_again : (key : ℕ) (old new : PutOff) → TellsOff key old new → new.again ≡ old.again
tells_again key old new (mid, indexed, told) = ap (λ (o : PutOff). o.again) told ∙ index_again old.index old mid indexed

-- ---- what is kept, left and put off is no more after an answer

asked_few : (item : Item) (answer : Bool) (kept left : ℕ) (off : PutOff) → cond answer (kept + 1) kept + left + count_off (cond answer off (stuck_with off item)) ≤ kept + suc left + count_off off
asked_few item true kept left off = omega arith
asked_few item false kept left off = let long = length-append off.stuck (item ∷ []) in omega (arith, long)

marked_few : (answer : Bool) (kept left : ℕ) (off : PutOff) → kept + left + count_off (cond answer (record off { again = true }) off) ≤ kept + suc left + count_off off
marked_few true kept left off = omega arith
marked_few false kept left off = omega arith

pub stepped_few : (phase : Phase) (item : Item) (answer : Bool) (kept left : ℕ) (off : PutOff) → IsTrue (settles phase)
    → cond (keeps phase item answer) (kept + 1) kept + left + count_off (put_off phase item answer off) ≤ kept + suc left + count_off off
stepped_few (Keys moment) item answer kept left off on = asked_few item answer kept left off
stepped_few (KeysAgain moment) item answer kept left off on = asked_few item answer kept left off
stepped_few (Holders moment) item answer kept left off on = asked_few item answer kept left off
stepped_few (Values moment) item answer kept left off on = marked_few answer kept left off
stepped_few phase item answer kept left off on = absurd (true≢false (sym on))
