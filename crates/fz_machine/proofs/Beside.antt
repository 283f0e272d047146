-- The lists have room for the ephemerons that are put off, from phase to phase.
use Rattle.std.proofs.Common.{◌≡◌, ◌⊎◌, ◌∙◌, ◌≤◌, ◌<◌, ◌+◌, ◌++◌, ◌∷◌, [], ℕ, suc, Bool, true, false, true≢false, cond, not, IsTrue, List, append_assoc, append-nil, drop, filter, length, refl, sym, ap, subst, ⊎_elim, arith}
use Rattle.std.proofs.lemmas.List.{length-append}
use Rattle.std.proofs.lemmas.List.Filters.{length-filter_both}
use Rattle.fz_finalizers.specs.States.{State, View}
use Rattle.fz_machine.specs.declared.item.Item.{Item}
use Rattle.fz_machine.specs.declared.phase.Moment.{Moment}
use Rattle.fz_machine.specs.declared.phase.Phase.{Phase}
use Rattle.fz_machine.specs.declared.phase.Phase.TheVariants.{Keys, KeysAgain, Holders, Values}
use Rattle.fz_machine.specs.Going.{HasRoom, HasRoomOff, HaveRoom, IsListed, ephemerons_in, going, resumed, rows_of}
use Rattle.fz_machine.specs.Off.{PutOff, all_off, count_off, looked_at, looking, none_off, put_off}
use Rattle.fz_machine.specs.Phases.{Lists, keeps, settles}
use Rattle.fz_machine.specs.Steps.{Begins}
use Rattle.fz_machine.specs.Walks.{Walk}
use Rattle.fz_machine.proofs.Delayed.{stepped_few}
use Rattle.fz_machine.proofs.Index.{looked_count}

-- ---- after an answer

-- no more are kept, left and put off than before
rows_fewer : (phase : Phase) (item : Item) (answer : Bool) (kept left : ℕ) (off : PutOff)
    → cond (settles phase) (cond (keeps phase item answer) (kept + 1) kept + left) 0 + count_off (put_off phase item answer off) ≤ cond (settles phase) (kept + suc left) 0 + count_off off
rows_fewer (Keys moment) item answer kept left off = stepped_few (Keys moment) item answer kept left off refl
rows_fewer (KeysAgain moment) item answer kept left off = stepped_few (KeysAgain moment) item answer kept left off refl
rows_fewer (Holders moment) item answer kept left off = stepped_few (Holders moment) item answer kept left off refl
rows_fewer (Values moment) item answer kept left off = stepped_few (Values moment) item answer kept left off refl
rows_fewer phase item answer kept left off = omega arith

long_if : (b : Bool) (kept : List Item) (item : Item) → length (cond b (kept ++ item ∷ []) kept) ≡ cond b (length kept + 1) (length kept)
long_if true kept item = length-append kept (item ∷ [])
long_if false kept item = refl

-- an ephemeron that is asked about can be put off
pub room_to_put : (settling : Bool) (old mid : Walk) (item : Item) → old.left ≡ item ∷ drop 1 old.left → mid ≡ record old { kept = mid.kept; left = mid.left } → HasRoomOff settling old → IsTrue settling → length mid.off.stuck < mid.off_room
room_to_put true old mid item first passed h on =
    let beside = h.2 in
    let long = ap length first in
    let stuck = ap (λ (w : Walk). length w.off.stuck) passed in
    let room = ap (λ (w : Walk). w.off_room) passed in
    omega (arith, beside, long, stuck, room)
room_to_put false old mid item first passed h on = absurd (true≢false (sym on))

module _ (phase : Phase) (item : Item) (answer : Bool) (old mid new : Walk) (first : old.left ≡ item ∷ drop 1 old.left) (kept : mid.kept ≡ cond (keeps phase item answer) (old.kept ++ item ∷ []) old.kept) (left : mid.left ≡ drop 1 old.left)
    (passed : mid ≡ record old { kept = mid.kept; left = mid.left }) (now : new ≡ record mid { off = put_off phase item answer mid.off; off_room = new.off_room }) (more : mid.off_room ≤ new.off_room) where
  now_few : rows_of (settles phase) new ≡ cond (settles phase) (cond (keeps phase item answer) (length old.kept + 1) (length old.kept) + length (drop 1 old.left)) 0 + count_off (put_off phase item answer old.off)
  now_few =
      ap (rows_of (settles phase)) now ∙ (λ i. cond (settles phase) (length (kept i) + length (left i)) 0 + count_off (put_off phase item answer (passed i).off))
      ∙ ap (λ n. cond (settles phase) (n + length (drop 1 old.left)) 0 + count_off (put_off phase item answer old.off)) (long_if (keeps phase item answer) old.kept item)

  was_few : rows_of (settles phase) old ≡ cond (settles phase) (length old.kept + suc (length (drop 1 old.left))) 0 + count_off old.off
  was_few = ap (λ (xs : List Item). cond (settles phase) (length old.kept + length xs) 0 + count_off old.off) first

  pub stepped_room : HasRoomOff (settles phase) old → HasRoomOff (settles phase) new
  stepped_room h =
      let few = rows_fewer phase item answer (length old.kept) (length (drop 1 old.left)) old.off in
      let is = now_few in
      let was = was_few in
      let list = h.0 in
      let beside = h.1 in
      let off = h.2 in
      let room = ap (λ (w : Walk). w.room) now ∙ ap (λ (w : Walk). w.room) passed in
      let other = ap (λ (w : Walk). w.other) now ∙ ap (λ (w : Walk). w.other) passed in
      let off_room = ap (λ (w : Walk). w.off_room) passed in
      (omega (arith, few, is, was, list, room), omega (arith, few, is, was, beside, other), omega (arith, few, is, was, off, off_room, more))

-- a phase that puts nothing off moves past items, and keeps some
pub rows_same : (settling : Bool) (walk new : Walk) → settling ≡ false → new ≡ record walk { kept = new.kept; left = new.left } → HasRoomOff settling walk → HasRoomOff settling new
rows_same true walk new off is h = absurd (true≢false off)
rows_same false walk new off is h =
    let list = h.0 in
    let beside = h.1 in
    let rows = h.2 in
    let count = ap (λ (w : Walk). count_off w.off) is in
    let room = ap (λ (w : Walk). w.room) is in
    let other = ap (λ (w : Walk). w.other) is in
    let off_room = ap (λ (w : Walk). w.off_room) is in
    (omega (arith, list, count, room), omega (arith, beside, count, other), omega (arith, rows, count, off_room))

-- ---- from phase to phase

-- another list replaces the list
pub rows_grown : (walk new : Walk) → IsListed walk new → HasRoomOff false walk → HasRoomOff false new
rows_grown walk new listed h =
    let list = h.0 in
    let beside = h.1 in
    let off = h.2 in
    let more = listed.1 in
    let count = ap (λ (w : Walk). count_off w.off) listed.0 in
    let other = ap (λ (w : Walk). w.other) listed.0 in
    let off_room = ap (λ (w : Walk). w.off_room) listed.0 in
    (omega (arith, list, count, more), omega (arith, beside, count, other), omega (arith, off, count, off_room))

-- what was set aside is the list again
pub rows_resumed : (walk : Walk) → HasRoomOff true walk → HasRoomOff false (resumed walk)
rows_resumed walk h =
    let list = h.0 in
    let beside = h.1 in
    let off = h.2 in
    (omega (arith, beside), omega (arith, list), omega (arith, off))

-- what was kept is left
pub rows_again : (walk new : Walk) → walk.left ≡ [] → new ≡ record walk { kept = []; left = new.left } → new.left ≡ walk.kept → HasRoomOff true walk → HasRoomOff true new
rows_again walk new none is left h =
    let list = h.0 in
    let beside = h.1 in
    let off = h.2 in
    let kept = ap (λ (w : Walk). length w.kept) is in
    let long = ap length left in
    let count = ap (λ (w : Walk). count_off w.off) is in
    let room = ap (λ (w : Walk). w.room) is in
    let other = ap (λ (w : Walk). w.other) is in
    let off_room = ap (λ (w : Walk). w.off_room) is in
    (omega (arith, list, kept, long, count, room), omega (arith, beside, kept, long, count, other), omega (arith, off, kept, long, count, off_room))

-- those that are looked at again were put off
pub rows_looked : (walk new : Walk) → new ≡ record walk { kept = []; left = looked_at walk.off; off = looking walk.off; room = new.room; off_room = new.off_room } → walk.off_room ≤ new.room
    → ((n : ℕ) → n ≤ walk.off_room → n ≤ walk.room → n ≤ new.off_room) → HasRoomOff true walk → HasRoomOff true new
rows_looked walk new is room off_room h =
    let list = h.0 in
    let beside = h.1 in
    let off = h.2 in
    let count = looked_count walk.off in
    let rows = ap (rows_of true) is in
    let other = ap (λ (w : Walk). w.other) is in
    let enough = off_room (count_off walk.off) (omega (arith, off)) (omega (arith, list)) in
    (omega (arith, rows, count, off, room), omega (arith, rows, count, beside, other), omega (arith, rows, count, enough))

-- ---- those that are put off are listed

pub all_off_count : (off : PutOff) → length (all_off off) ≡ count_off off
all_off_count off = let told = length-append off.told (off.index ++ off.stuck) in let others = length-append off.index off.stuck in omega (arith, told, others)

pub few_still : (test : Item → Bool) (off : PutOff) → length (filter test (all_off off)) ≤ count_off off
few_still test off = let both = length-filter_both test (λ i. not (test i)) (λ i. refl) (all_off off) in let all = all_off_count off in omega (arith, both, all)

-- one more is kept, or isn't
pub still_on : (test : Item → Bool) (kept left now : List Item) (item : Item) (keep : Bool) → left ≡ item ∷ drop 1 left → keep ≡ test item → now ≡ cond keep (kept ++ item ∷ []) kept → now ++ filter test (drop 1 left) ≡ kept ++ filter test left
still_on test kept left now item keep first is now_is = ap (λ xs. xs ++ rest) now_is ∙ by keep is ∙ sym (ap (λ xs. kept ++ filter test xs) first)
  where
    rest : List Item
    rest = filter test (drop 1 left)

    by : (b : Bool) → b ≡ test item → cond b (kept ++ item ∷ []) kept ++ rest ≡ kept ++ filter test (item ∷ drop 1 left)
    by true is = append_assoc kept (item ∷ []) rest ∙ ap (λ b. kept ++ cond b (item ∷ rest) rest) is
    by false is = ap (λ b. kept ++ cond b (item ∷ rest) rest) is

-- all of them are kept, once none is left
pub still_all : (test : Item → Bool) (kept left all : List Item) → left ≡ [] → kept ++ filter test left ≡ all → kept ≡ all
still_all test kept left all none is = sym (append-nil kept) ∙ ap (λ xs. kept ++ filter test xs) (sym none) ∙ is

-- the phases that make the marks whole begin: the kept items are set aside, and ephemerons are listed, as many as there are or were put off
module _ (s : State) (old aside listed : Walk) (is : aside ≡ record { kept = []; left = []; aside = old.kept; off = old.off; room = old.other; other = old.room; off_room = old.off_room }) (are : IsListed aside listed) (h : HaveRoom false s old)
    (rows : HasRoomOff false old) (few : (length listed.left ≤ ephemerons_in s) ⊎ (length listed.left ≤ count_off aside.off)) where
  within : (room : ℕ) → ephemerons_in s ≤ room → rows_of false old ≤ room → length listed.left ≤ room
  within room all off =
      let count = ap (λ (w : Walk). count_off w.off) is in
      ⊎_elim (λ (le : length listed.left ≤ ephemerons_in s). omega (arith, all, le)) (λ (le : length listed.left ≤ count_off aside.off). omega (arith, off, le, count)) few

  pub begun_room_off : HasRoomOff true (record listed { off = none_off })
  begun_room_off =
      let main = within old.room h.main.keyed rows.0 in
      let beside = within old.other h.rows rows.1 in
      let off = within old.off_room h.off rows.2 in
      let more = are.1 in
      let none = ap (λ (w : Walk). length w.kept) are.0 in
      let room = ap (λ (w : Walk). w.room) is in
      let other = ap (λ (w : Walk). w.other) are.0 ∙ ap (λ (w : Walk). w.other) is in
      let off_room = ap (λ (w : Walk). w.off_room) are.0 ∙ ap (λ (w : Walk). w.off_room) is in
      (omega (arith, beside, more, none, room), omega (arith, main, other, none), omega (arith, off, off_room, none))

  pub begun_room : HaveRoom true s (record listed { off = none_off })
  begun_room =
      let all : ephemerons_in s ≤ old.other = h.rows in
      let off = h.off in
      let more = are.1 in
      let room = ap (λ (w : Walk). w.room) is in
      let off_room = ap (λ (w : Walk). w.off_room) are.0 ∙ ap (λ (w : Walk). w.off_room) is in
      record { main = subst (HasRoom s) (sym (ap (λ (w : Walk). w.other) are.0 ∙ ap (λ (w : Walk). w.other) is)) h.main; rows = omega (arith, all, more, room); off = omega (arith, off, off_room) }

-- what these phases begin with
pub keys_begin : (from : ℕ) (f : View) (walk new : Walk) (moment : Moment) → Lists (Keys moment) from [] f.state (all_off walk.off) new.left → new ≡ record new { kept = []; aside = walk.kept; off = none_off } → Begins from (Keys moment) (going f walk []) (going f new [])
keys_begin from f walk new moment lists is = record { same = refl; none = ap (λ (w : Walk). w.kept) is; lists = lists; aside = ap (λ (w : Walk). w.aside) is; off = ap (λ (w : Walk). w.off) is; told = refl }
