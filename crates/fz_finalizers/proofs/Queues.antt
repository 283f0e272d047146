-- The entries in memory and the places of those that are held: where a number is; a pass's entries come, one is finished, and finished ones go.
use Rattle.std.proofs.Common.{◌≡◌, ◌≢◌, ℕ, ◌+◌, ◌-◌, ◌^◌, ◌<◌, ◌≤◌, Bool, true, false, cond, not, ◌&&◌, ◌||◌, List, [], ◌∷◌, ◌++◌, length, drop, take, refl, sym, ap, ◌∙◌, subst, inl, inr, ⊎_elim, arith, suc, zero, get_or, filter, true≢false, ◌==◌, length-append, Option, Some, None, Contains, slice_get, IsFalse, nat_le, nat_lt}
use Rattle.std.proofs.lemmas.Option.{none-some, same_Some, slice_get_within, slice_get_past, slice_get-get_or, slice_get_cases, get_or_from_slice_get}
use Rattle.std.proofs.lemmas.List.{drop-append-le, get_or-take, length-drop, length-take-le, take-append-drop}
use Rattle.std.proofs.Math.Seq.{drop-append_seam, drop-append-add}
use Rattle.std.proofs.lemmas.List.Sorted.{IsPartitionedBy-ltb}
use Rattle.std.specs.List.Sorted.{IsPartitionPoint, IsPartitionedBy}
use Rattle.std.proofs.lemmas.Bool.{ne_eqb, eq-eqb, cases_lt, cases_eq, lt-ltb, le-ltb, ltb-true, ltb-false, le-leb, lt-leb, and_from, and_right, false_from_ne_true}
use Rattle.std.specs.List.{list_any}
use Rattle.std.specs.Option.{option_map_or}
use Rattle.std.specs.FinSet.{contains, remove}
use Rattle.fz_model.proofs.Sound.{length-entries_of}
use Rattle.fz_model.proofs.Lists.{slice_get-right, slice_get-cases}
use Rattle.fz_model.specs.declared.answers.Entry.{Entry}
use Rattle.fz_model.specs.declared.answers.Pick.{Pick}
use Rattle.fz_model.specs.Pass.{entries_of}
use Rattle.fz_model.specs.Events.{same_entry}
use Rattle.fz_model.proofs.Events.{same_itself}
use Rattle.fz_bits.specs.Flags.{Set, IsNext}
use Rattle.fz_model.proofs.Sets.{has_removed}
use Rattle.fz_finalizers.proofs.Gathered.{placed_same, placed_all, placed-append, placed_at, place_in, stands_in, is_in}
use Rattle.fz_finalizers.specs.Queue.{placed_in, AreNumbered, AreStored, IsReady, IsPlaceOf, IsNextHeld, is_between}

-- ---- numbers

pub AreNumbered-append : (first : ℕ) (es more : List Entry) → AreNumbered first es → AreNumbered (first + length es) more → AreNumbered first (es ++ more)
AreNumbered-append first [] more n m = subst (λ k. AreNumbered k more) (omega arith) m
AreNumbered-append first (e ∷ es) more n m = (n.0, AreNumbered-append (first + 1) es more n.1 (subst (λ k. AreNumbered k more) (omega arith) m))

pub numbered_picks : (pass seq : ℕ) (picks : List Pick) → AreNumbered seq (entries_of pass seq picks)
numbered_picks pass seq [] = tt
numbered_picks pass seq (p ∷ picks) = (refl, numbered_picks pass (seq + 1) picks)

numbered_at : (first : ℕ) (es : List Entry) (k : ℕ) (e : Entry) → AreNumbered first es → slice_get es k ≡ Some e → e.seq ≡ first + k
numbered_at first [] k e n at = absurd (none-some e at)
numbered_at first (d ∷ es) zero e n at = let is = n.0 in let seq = ap (λ (x : Entry). x.seq) (same_Some d e at) in omega (arith, is, seq)
numbered_at first (d ∷ es) (suc k) e n at = let rest = numbered_at (first + 1) es k e n.1 at in omega (arith, rest)

numbered_drop : (first n : ℕ) (es : List Entry) → AreNumbered first es → AreNumbered (first + n) (drop n es)
numbered_drop first zero es are = subst (λ k. AreNumbered k es) (omega arith) are
numbered_drop first (suc n) [] are = tt
numbered_drop first (suc n) (e ∷ es) are = subst (λ k. AreNumbered k (drop n es)) (omega arith) (numbered_drop (first + 1) n es are.1)

pub slice_get-drop : {X : Type 0} (n : ℕ) (xs : List X) (k : ℕ) → slice_get (drop n xs) k ≡ slice_get xs (n + k)
slice_get-drop zero xs k = ap (slice_get xs) (omega arith)
slice_get-drop (suc n) [] k = sym (slice_get_past [] (suc n + k) (omega arith))
slice_get-drop (suc n) (x ∷ xs) k = slice_get-drop n xs k ∙ ap (slice_get (x ∷ xs)) {x = suc (n + k)} (omega arith)

-- a read of a place within a list
pub read_at : {X : Type 0} (xs : List X) (i : ℕ) (x : X) → i < length xs → x ≡ get_or xs i x → slice_get xs i ≡ Some x
read_at xs i x within is = slice_get-get_or xs i x within ∙ ap Some (sym is)

-- ---- tests of lists

any_none : {X : Type 0} (p : X → Bool) (xs : List X) → ((k : ℕ) (x : X) → slice_get xs k ≡ Some x → p x ≡ false) → list_any p xs ≡ false
any_none p [] none = refl
any_none p (x ∷ xs) none = ap (λ b. b || list_any p xs) (none 0 x refl) ∙ any_none p xs (λ k y at. none (suc k) y at)

any_one : {X : Type 0} (p : X → Bool) (xs : List X) (k : ℕ) (x : X) → slice_get xs k ≡ Some x → p x ≡ true → list_any p xs ≡ true
any_one p [] k x at on = absurd (none-some x at)
any_one p (y ∷ xs) zero x at on = ap (λ b. b || list_any p xs) (ap p (same_Some y x at) ∙ on)
any_one p (y ∷ xs) (suc k) x at on = ap (λ b. p y || b) (any_one p xs k x at on) ∙ or_true (p y)
  where
    or_true : (b : Bool) → (b || true) ≡ true
    or_true true = refl
    or_true false = refl

other : (entry e : Entry) → (entry.seq ≡ e.seq → ⊥) → same_entry entry e ≡ false
other entry e ne = ap (λ b. b && ((entry.pass == e.pass) && ((entry.reg == e.reg) && ((entry.obj == e.obj) && ((entry.birth == e.birth) && ((entry.proc == e.proc) && (entry.cd == e.cd))))))) (ne_eqb entry.seq e.seq ne)

-- ---- where numbers are

module _ (entries : List Entry) (kept first : ℕ) (h : AreStored entries kept first) where
  -- a place of the window, and its number
  pub in_window : (k : ℕ) (e : Entry) → slice_get entries k ≡ Some e → kept ≤ k → e.seq + kept ≡ first + k
  in_window k e at from =
      let seq = numbered_at first (drop kept entries) (k - kept) e h.numbered (slice_get-drop kept entries (k - kept) ∙ ap (slice_get entries) (omega (arith, from)) ∙ at) in
      omega (arith, seq, from)

  pub rises : (k l : ℕ) (d e : Entry) → slice_get entries k ≡ Some d → slice_get entries l ≡ Some e → k < l → d.seq < e.seq
  rises k l d e at there lt =
      ⊎_elim
      (λ (low : l < kept). h.rising k l d e at there lt low)
      (λ (high : kept ≤ l).
      let later = in_window l e there high in
      ⊎_elim
      (λ (early : k < kept). let less = h.early k d at early in omega (arith, less, later, high))
      (λ (late : kept ≤ k). let seq = in_window k d at late in omega (arith, seq, later, lt))
      (cases_lt k kept))
      (cases_lt l kept)

  pub apart : (k l : ℕ) (d e : Entry) → slice_get entries k ≡ Some d → slice_get entries l ≡ Some e → k ≢ l → d.seq ≢ e.seq
  apart k l d e at there ne same =
      ⊎_elim
      (λ (lt : k < l). let less = rises k l d e at there lt in omega (arith, less, same))
      (λ (ge : l ≤ k). let less = rises l k e d there at (omega (arith, ge, ne)) in omega (arith, less, same))
      (cases_lt k l)

  -- fewer numbers are kept than there were
  up_from : (k : ℕ) → k < kept → (e : Entry) → slice_get entries k ≡ Some e → k ≤ e.seq
  up_from zero low e at = omega arith
  up_from (suc k) low e at =
      let few = h.few in
      let d = get_or entries k e in
      let there : slice_get entries k ≡ Some d = slice_get-get_or entries k e (omega (arith, low, few)) in
      let least = up_from k (omega (arith, low)) d there in
      let less = h.rising k (suc k) d e there at (omega arith) low in
      omega (arith, least, less)

  pub kept_few : kept ≤ first
  kept_few = by kept refl
    where
      by : (n : ℕ) → kept ≡ n → kept ≤ first
      by zero is = omega (arith, is)
      by (suc m) is =
          let few = h.few in
          ⊎_elim
          (λ in_it. let least = up_from m (omega (arith, is)) in_it.0 in_it.2 in let less = h.early m in_it.0 in_it.2 (omega (arith, is)) in omega (arith, is, least, less))
          (λ out. let past = out.0 in omega (arith, past, is, few))
          (slice_get_cases entries m).1

  -- a number of the window, by its distance from the first
  pub late_place : (number place : ℕ) → first ≤ number → place + first ≡ kept + number → IsPlaceOf entries number place
  late_place number place past is = record {
    before = λ k e at lt.
        ⊎_elim
        (λ (low : k < kept). let less = h.early k e at low in omega (arith, less, past))
        (λ (high : kept ≤ k). let seq = in_window k e at high in omega (arith, seq, lt, is))
        (cases_lt k kept);
    after = λ k e at ge. let seq = in_window k e at (omega (arith, is, ge, past)) in omega (arith, seq, is, ge);
  }

  -- the entries before the window are in order
  up : (i j : ℕ) (d : Entry) → i ≤ j → j < length (take kept entries) → (get_or (take kept entries) i d).seq ≤ (get_or (take kept entries) j d).seq
  up i j d le lt =
      let few = h.few in
      let size = length-take-le kept entries few in
      let at = λ (k : ℕ) (low : k < kept). get_or-take kept entries k d low in
      ⊎_elim
      (λ (less : i < j).
      let first_at : slice_get entries i ≡ Some (get_or entries i d) = slice_get-get_or entries i d (omega (arith, less, lt, size, few)) in
      let later_at : slice_get entries j ≡ Some (get_or entries j d) = slice_get-get_or entries j d (omega (arith, lt, size, few)) in
      let rises = h.rising i j (get_or entries i d) (get_or entries j d) first_at later_at less (omega (arith, lt, size)) in
      let one = ap (λ (x : Entry). x.seq) (at i (omega (arith, less, lt, size))) in
      let two = ap (λ (x : Entry). x.seq) (at j (omega (arith, lt, size))) in
      omega (arith, rises, one, two))
      (λ (ge : j ≤ i). let same = ap (λ k. (get_or (take kept entries) k d).seq) {x = i} {y = j} (omega (arith, le, ge)) in omega (arith, same))
      (cases_lt i j)

  pub are_parted : (number : ℕ) → IsPartitionedBy (λ (e : Entry). nat_lt e.seq number) (take kept entries)
  are_parted number = IsPartitionedBy-ltb (λ (e : Entry). e.seq) (take kept entries) number up

  -- a number from before the window, by a search
  pub early_place : (number place : ℕ) → number < first → place ≤ length (take kept entries) → IsPartitionPoint (λ (e : Entry). nat_lt e.seq number ≡ true) (λ (e : Entry). nat_lt e.seq number ≡ false) (take kept entries) place → IsPlaceOf entries number place
  early_place number place early bound is = record {
    before = λ k e at lt. ltb-true e.seq number (sym (ap (λ (x : Entry). nat_lt x.seq number) (read k e at (omega (arith, lt, bound, size)))) ∙ is.0 k e (omega arith) lt);
    after = λ k e at ge.
        ⊎_elim
        (λ (low : k < kept). ltb-false e.seq number (sym (ap (λ (x : Entry). nat_lt x.seq number) (read k e at low)) ∙ is.1 k e ge (omega (arith, low, size))))
        (λ (high : kept ≤ k). let seq = in_window k e at high in omega (arith, seq, early, high))
        (cases_lt k kept);
  }
    where
      few : kept ≤ length entries
      few = h.few

      size : length (take kept entries) ≡ kept
      size = length-take-le kept entries h.few

      read : (k : ℕ) (e : Entry) → slice_get entries k ≡ Some e → k < kept → get_or (take kept entries) k e ≡ e
      read k e at low = get_or-take kept entries k e low ∙ get_or_from_slice_get entries k e e at

-- ---- what is held

module _ (past entries : List Entry) (kept first : ℕ) (held : Set) (outstanding : ℕ) (h : IsReady past entries kept first held outstanding) where
  abbrev now : List Entry
  now = placed_in held 0 entries

  -- the test of the code
  abbrev pub is_here : Entry → ℕ → Bool
  is_here entry place = contains held place && option_map_or (same_entry entry) (slice_get entries place) false

  module _ (entry : Entry) (place : ℕ) (at_place : IsPlaceOf entries entry.seq place) where
    off : (d : Entry) (k : ℕ) → slice_get entries k ≡ Some d → k ≢ place → same_entry entry d ≡ false
    off d k at ne =
        ⊎_elim
        (λ (lt : k < place). let less = at_place.before k d at lt in other entry d (λ same. omega (arith, same, less)))
        (λ (ge : place ≤ k).
        let inside = slice_get_within entries k d at in
        let x = get_or entries place d in
        let here : slice_get entries place ≡ Some x = slice_get-get_or entries place d (omega (arith, inside, ge)) in
        let low = at_place.after place x here (omega arith) in
        let less = rises entries kept first h.stored place k x d here at (omega (arith, ge, ne)) in
        other entry d (λ same. omega (arith, same, low, less)))
        (cases_lt k place)

    tested : list_any (same_entry entry) now ≡ is_here entry place
    tested = from (contains held place) refl (slice_get entries place) refl
      where
        none : ((x : Entry) → slice_get entries place ≡ Some x → contains held place ≡ true → same_entry entry x ≡ false) → list_any (same_entry entry) now ≡ false
        none here = any_none (same_entry entry) now (λ i d at.
            let there = place_in held 0 entries i d at in
            let on : contains held there.0 ≡ true = ap (contains held) (omega arith) ∙ there.2 in
            ⊎_elim
            (λ (same : there.0 ≡ place). here d (ap (slice_get entries) (sym same) ∙ there.1) (ap (contains held) (sym same) ∙ on))
            (λ ne. off d there.0 there.1 ne)
            (cases_eq there.0 place))

        from : (b : Bool) → contains held place ≡ b → (o : Option Entry) → slice_get entries place ≡ o → list_any (same_entry entry) now ≡ (b && option_map_or (same_entry entry) o false)
        from false absent o at = none (λ x _ on. absurd (true≢false (sym on ∙ absent)))
        from true on None at = none (λ x there _. absurd (none-some x (sym at ∙ there)))
        from true on (Some x) at = by (same_entry entry x) refl
          where
            by : (s : Bool) → same_entry entry x ≡ s → list_any (same_entry entry) now ≡ s
            by true same = let i = placed_at held 0 entries place x at (ap (contains held) (omega arith) ∙ on) in any_one (same_entry entry) now i.0 x i.1 same
            by false same = none (λ y there _. ap (same_entry entry) (same_Some y x (sym there ∙ at)) ∙ same)

    -- a held entry that is finished: its place goes
    module _ (here : is_here entry place ≡ true) where
      split : (a : Bool) (o : Option Entry) → (a && option_map_or (same_entry entry) o false) ≡ true → (a ≡ true) × (x : Entry) × (o ≡ Some x) × (same_entry entry x ≡ true)
      split true (Some x) is = (refl, x, refl, is)
      split true None is = absurd (true≢false (sym is))
      split false o is = absurd (true≢false (sym is))

      is_on : contains held place ≡ true
      is_on = (split (contains held place) (slice_get entries place) here).0

      one : (x : Entry) × (slice_get entries place ≡ Some x) × (same_entry entry x ≡ true)
      one = let all = split (contains held place) (slice_get entries place) here in (all.1, all.2, all.3)

      still : (n : ℕ) → n ≢ place → contains (remove held place) n ≡ contains held n
      still n ne = has_removed held place n ∙ ap (λ b. not b && contains held n) (ne_eqb n place ne)

      gone : (n : ℕ) → n ≡ place → contains (remove held place) n ≡ false
      gone n same = has_removed held place n ∙ ap (λ b. not b && contains held n) (eq-eqb n place same)

      less : (from : ℕ) (es : List Entry) → ((k : ℕ) (d : Entry) → slice_get es k ≡ Some d → slice_get entries (from + k) ≡ Some d) → placed_in (remove held place) from es ≡ filter (λ d. not (same_entry entry d)) (placed_in held from es)
      less from [] at = refl
      less from (d ∷ es) at =
          let here : slice_get entries from ≡ Some d = ap (slice_get entries) (omega arith) ∙ at 0 d refl in
          let rest = less (from + 1) es (λ k x e. ap (slice_get entries) (omega arith) ∙ at (suc k) x e) in
          let Others = λ (ds : List Entry). filter (λ x. not (same_entry entry x)) ds in
          let F = placed_in held (from + 1) es in
          let G = placed_in (remove held place) (from + 1) es in
          ⊎_elim
          (λ (same : from ≡ place).
          let is : same_entry entry d ≡ true = ap (same_entry entry) (same_Some d one.0 (sym here ∙ ap (slice_get entries) same ∙ one.1)) ∙ one.2 in
          ap (λ b. cond b (d ∷ G) G) (gone from same) ∙ rest
          ∙ elim (contains held from) as (λ b. Others F ≡ Others (cond b (d ∷ F) F)) [ true ↦ ap (λ b. cond (not b) (d ∷ Others F) (Others F)) (sym is) | false ↦ refl ])
          (λ (ne : from ≢ place).
          ap (λ b. cond b (d ∷ G) G) (still from ne) ∙ ap (λ ds. cond (contains held from) (d ∷ ds) ds) rest
          ∙ elim (contains held from) as (λ b. cond b (d ∷ Others F) (Others F) ≡ Others (cond b (d ∷ F) F)) [ true ↦ ap (λ b. cond (not b) (d ∷ Others F) (Others F)) (sym (off d from here ne)) | false ↦ refl ])
          (cases_eq from place)

      held_less : placed_in (remove held place) 0 entries ≡ filter (λ d. not (same_entry entry d)) now
      held_less = less 0 entries (λ k d at. ap (slice_get entries) (omega arith) ∙ at)

      fewer : (from k : ℕ) (es : List Entry) → from + k ≡ place → k < length es → length (placed_in held from es) ≡ length (placed_in (remove held place) from es) + 1
      fewer from k [] is within = absurd (omega (arith, within))
      fewer from zero (d ∷ es) is within =
          let F = placed_in held (from + 1) es in
          let G = placed_in (remove held place) (from + 1) es in
          let same : G ≡ F = placed_same (remove held place) held (from + 1) es (λ k lt. still (from + 1 + k) (λ at. omega (arith, at, is))) in
          ap (λ b. length (cond b (d ∷ F) F)) (ap (contains held) (omega (arith, is)) ∙ is_on)
          ∙ add_one (length F) ∙ ap (λ (ds : List Entry). length ds + 1) (sym same)
          ∙ ap (λ b. length (cond b (d ∷ G) G) + 1) (sym (gone from (omega (arith, is))))
        where
          add_one : (n : ℕ) → suc n ≡ n + 1
          add_one n = omega arith
      fewer from (suc k) (d ∷ es) is within =
          let F = placed_in held (from + 1) es in
          let G = placed_in (remove held place) (from + 1) es in
          let rest = fewer (from + 1) k es (omega (arith, is)) (omega (arith, within)) in
          elim (contains held from) as (λ b. length (cond b (d ∷ F) F) ≡ length (cond b (d ∷ G) G) + 1) [ true ↦ omega (arith, rest) | false ↦ rest ]
          ∙ ap (λ b. length (cond b (d ∷ G) G) + 1) (sym (still from (λ same. omega (arith, same, is))))

      one_fewer : outstanding ≡ length (placed_in (remove held place) 0 entries) + 1
      one_fewer = h.counted ∙ fewer 0 place entries (omega arith) (slice_get_within entries place one.0 one.1)

      ready_less : IsReady past entries kept first (remove held place) (outstanding - 1)
      ready_less = record {
        stored = h.stored;
        past_is = h.past_is;
        numbers = h.numbers;
        within = λ n t. h.within n (was (n == place) (contains held n) (sym (has_removed held place n) ∙ t));
        counted = let fewer = one_fewer in omega (arith, fewer);
      }
        where
          was : (a b : Bool) → (not a && b) ≡ true → b ≡ true
          was true b e = absurd (true≢false (sym e))
          was false b e = e

  -- ---- an entry that the code looked for in a place of entries, and tested there

  module _ (entry : Entry) (place : ℕ) (looked read : List Entry) (at : IsPlaceOf looked entry.seq place) (same : looked ≡ entries) (again : read ≡ entries) (found : Bool) (tells : found ≡ (contains held place && option_map_or (same_entry entry) (slice_get read place) false)) where
    in_place : IsPlaceOf entries entry.seq place
    in_place = subst (λ es. IsPlaceOf es entry.seq place) same at

    here_as : (b : Bool) → found ≡ b → is_here entry place ≡ b
    here_as b is = ap (λ es. contains held place && option_map_or (same_entry entry) (slice_get es place) false) (sym again) ∙ sym tells ∙ is

    pub held_as : (shown : List Entry) (b : Bool) → shown ≡ now → found ≡ b → list_any (same_entry entry) shown ≡ b
    held_as shown b same_held is = ap (list_any (same_entry entry)) same_held ∙ tested entry place in_place ∙ here_as b is

    module _ (is : found ≡ true) where
      pub one_less_held : outstanding ≡ length (placed_in (remove held place) 0 entries) + 1
      one_less_held = one_fewer entry place in_place (here_as true is)

      pub still_ready : IsReady past entries kept first (remove held place) (outstanding - 1)
      still_ready = ready_less entry place in_place (here_as true is)

      pub others_held : (shown : List Entry) → shown ≡ now → placed_in (remove held place) 0 entries ≡ filter (λ d. not (same_entry entry d)) shown
      others_held shown same_held = held_less entry place in_place (here_as true is) ∙ ap (filter (λ d. not (same_entry entry d))) (sym same_held)

  -- ---- an entry of the window, by its number

  module _ (entry : Entry) (number : ℕ) (from : first ≤ number) (queue : List Entry) (all : queue ≡ past ++ drop kept entries) (there : slice_get queue number ≡ Some entry) where
    abbrev place : ℕ
    place = kept + (number - first)

    by_number : slice_get (drop kept entries) (number - first) ≡ Some entry
    by_number =
        let is = h.past_is in
        sym (slice_get-right past (drop kept entries) (number - first)) ∙ ap (slice_get (past ++ drop kept entries)) (omega (arith, is, from)) ∙ ap (λ es. slice_get es number) (sym all) ∙ there

    at_place : slice_get entries place ≡ Some entry
    at_place = sym (slice_get-drop kept entries (number - first)) ∙ by_number

    of_number : IsPlaceOf entries entry.seq place
    of_number = let seq = numbered_at first (drop kept entries) (number - first) entry h.stored.numbered by_number in late_place entries kept first h.stored entry.seq place (omega (arith, seq)) (omega (arith, seq))

    held_if : (b : Bool) → contains held place ≡ b → is_here entry place ≡ b
    held_if b is = ap (λ o. contains held place && option_map_or (same_entry entry) o false) at_place ∙ (λ i. is i && same_itself entry i) ∙ both b
      where
        both : (c : Bool) → (c && true) ≡ c
        both true = refl
        both false = refl

    pub window_not_held : (shown : List Entry) → shown ≡ now → contains held place ≡ false → list_any (same_entry entry) shown ≡ false
    window_not_held shown same_held off = ap (list_any (same_entry entry)) same_held ∙ tested entry place of_number ∙ held_if false off

    module _ (on : contains held place ≡ true) where
      pub window_one_less : outstanding ≡ length (placed_in (remove held place) 0 entries) + 1
      window_one_less = one_fewer entry place of_number (held_if true on)

      pub window_ready : IsReady past entries kept first (remove held place) (outstanding - 1)
      window_ready = ready_less entry place of_number (held_if true on)

      pub window_others : (shown : List Entry) → shown ≡ now → placed_in (remove held place) 0 entries ≡ filter (λ d. not (same_entry entry d)) shown
      window_others shown same_held = held_less entry place of_number (held_if true on) ∙ ap (filter (λ d. not (same_entry entry d))) (sym same_held)

  -- ---- the next one that is held

  module _ (from place : ℕ) (at_place : IsPlaceOf entries from place) where
    pub none_left : ((n : ℕ) → place ≤ n → IsFalse (contains held n)) → (d : Entry) → Contains now d → d.seq < from
    none_left none d c =
        let there = stands_in held entries d c in
        ⊎_elim (λ lt. at_place.before there.0 d there.1 lt) (λ ge. absurd (true≢false (sym there.2 ∙ none there.0 ge))) (cases_lt there.0 place)

    pub next_is : (next : ℕ) (e : Entry) → IsNext held place next → slice_get entries next ≡ Some e → IsNextHeld now from e
    next_is next e is at = record {
      member = is_in held entries next e at is.member;
      after = at_place.after next e at is.after;
      others = λ d c.
          let there = stands_in held entries d c in
          ⊎_elim
          (λ (lt : there.0 < place). inl (at_place.before there.0 d there.1 lt))
          (λ (ge : place ≤ there.0).
          ⊎_elim
          (λ (low : there.0 < next). absurd (true≢false (sym there.2 ∙ is.before there.0 ge low)))
          (λ (high : next ≤ there.0).
          ⊎_elim
          (λ (same : there.0 ≡ next). inr (inl (same_Some d e (sym there.1 ∙ ap (slice_get entries) same ∙ at))))
          (λ ne. inr (inr (rises entries kept first h.stored next there.0 e d at there.1 (omega (arith, high, ne)))))
          (cases_eq there.0 next))
          (cases_lt there.0 next))
          (cases_lt there.0 place);
    }

  -- each entry in memory has the number of one that was queued
  pub number_within : (k : ℕ) (e : Entry) → slice_get entries k ≡ Some e → e.seq < first + length (drop kept entries)
  number_within k e at =
      let inside = slice_get_within entries k e at in
      let window = length-drop kept entries in
      ⊎_elim
      (λ (low : k < kept). let less = h.stored.early k e at low in omega (arith, less))
      (λ (high : kept ≤ k). let seq = in_window entries kept first h.stored k e at high in omega (arith, seq, inside, window, high))
      (cases_lt k kept)

  pub length_queue : length (past ++ drop kept entries) ≡ first + length (drop kept entries)
  length_queue = let both = length-append past (drop kept entries) in let is = h.past_is in omega (arith, both, is)

  -- the number of an entry of the window is its place in the queue
  pub shown_at : (number : ℕ) → first ≤ number → slice_get (drop kept entries) (number - first) ≡ slice_get (past ++ drop kept entries) number
  shown_at number from = sym (slice_get-right past (drop kept entries) (number - first)) ∙ ap (slice_get (past ++ drop kept entries)) (let is = h.past_is in omega (arith, is, from))

  -- ---- the entries of a pass come, and their places to those that are held

  module _ (more : Set) (pass next end : ℕ) (picks : List Pick) (next_is : next ≡ first + length (drop kept entries)) (fits : next + length picks < 2 ^ 64) (end_is : end ≡ length entries + length picks) (are : (n : ℕ) → contains more n ≡ (is_between (length entries) end n || contains held n)) where
    abbrev gained : List Entry
    gained = entries_of pass next picks

    old_place : (n : ℕ) → n < length entries → contains more n ≡ contains held n
    old_place n low = are n ∙ ap (λ b. (b && nat_lt n end) || contains held n) (lt-leb (length entries) n low)

    new_place : (n : ℕ) → length entries ≤ n → n < end → contains more n ≡ true
    new_place n low high = are n ∙ ap (λ b. (b && nat_lt n end) || contains held n) (le-leb (length entries) n low) ∙ ap (λ b. b || contains held n) (lt-ltb n end high)

    pub held_gained : placed_in more 0 (entries ++ gained) ≡ now ++ gained
    held_gained =
        let count = length-entries_of pass next picks in
        placed-append more 0 entries gained
        ∙ ap (λ ds. ds ++ placed_in more (0 + length entries) gained) (placed_same more held 0 entries (λ k lt. old_place (0 + k) (omega (arith, lt))))
        ∙ ap (λ ds. now ++ ds) (placed_all more (0 + length entries) gained (λ k lt. new_place (0 + length entries + k) (omega arith) (omega (arith, lt, count, end_is))))

    pub window_gained : drop kept (entries ++ gained) ≡ drop kept entries ++ gained
    window_gained = drop-append-le kept entries gained h.stored.few

    stored_gained : AreStored (entries ++ gained) kept first
    stored_gained = record {
      few = let all = length-append entries gained in let few = h.stored.few in omega (arith, all, few);
      early = λ place e at low. h.stored.early place e (old place e at (let few = h.stored.few in omega (arith, low, few))) low;
      rising = λ place later d e at there lt low. let few = h.stored.few in h.stored.rising place later d e (old place d at (omega (arith, lt, low, few))) (old later e there (omega (arith, low, few))) lt low;
      numbered = subst (AreNumbered first) (sym window_gained) (AreNumbered-append first (drop kept entries) gained h.stored.numbered (subst (λ k. AreNumbered k gained) next_is (numbered_picks pass next picks)));
    }
      where
        old : (k : ℕ) (e : Entry) → slice_get (entries ++ gained) k ≡ Some e → k < length entries → slice_get entries k ≡ Some e
        old k e at low = ⊎_elim (λ was. was) (λ new. absurd (let is = new.1 in omega (arith, is, low))) (slice_get-cases entries gained k e at)

    pub ready_gained : IsReady past (entries ++ gained) kept first more (outstanding + length picks)
    ready_gained = record {
      stored = stored_gained;
      past_is = h.past_is;
      numbers =
          let all = length-append (drop kept entries) gained in
          let count = length-entries_of pass next picks in
          subst (λ (w : List Entry). first + length w < 2 ^ 64) (sym window_gained) (omega (arith, all, count, next_is, fits));
      within = λ n t.
          let long = length-append entries gained in
          let count = length-entries_of pass next picks in
          ⊎_elim
          (λ (low : n < length entries). omega (arith, long, low))
          (λ (high : length entries ≤ n). ⊎_elim (λ (lt : n < end). omega (arith, long, count, end_is, lt)) (λ (ge : end ≤ n). absurd (true≢false (sym t ∙ none n high ge))) (cases_lt n end))
          (cases_lt n (length entries));
      counted = let counted = h.counted in let long = length-append now gained in let count = length-entries_of pass next picks in omega (arith, counted, long, count, ap length held_gained);
    }
      where
        none : (n : ℕ) → length entries ≤ n → end ≤ n → contains more n ≡ false
        none n high ge =
            let absent : contains held n ≡ false = false_from_ne_true (contains held n) (λ on. let within = h.within n on in omega (arith, within, high)) in
            are n ∙ ap (λ b. (nat_le (length entries) n && b) || contains held n) (le-ltb n end ge) ∙ ap (λ b. b || contains held n) (and_right (nat_le (length entries) n) false refl) ∙ absent

  -- ---- finished entries go: what isn't finished stays. The window begins anew at a number from which on none is finished

  module _ (whole left early : List Entry) (kept_now first_now : ℕ) (places : Set) (whole_is : whole ≡ past ++ drop kept entries) (left_is : left ≡ now) (kept_is : kept_now ≡ length early) (early_is : now ≡ early ++ drop first_now (past ++ drop kept entries)) (from_first : first ≤ first_now) (first_le : first_now ≤ first + length (drop kept entries)) (are : (n : ℕ) → contains places n ≡ nat_lt n (length left)) where
    left_parts : left ≡ early ++ drop first_now (past ++ drop kept entries)
    left_parts = left_is ∙ early_is

    behind : drop kept_now left ≡ drop first_now (past ++ drop kept entries)
    behind = ap (drop kept_now) left_parts ∙ ap (λ n. drop n (early ++ drop first_now (past ++ drop kept entries))) kept_is ∙ drop-append_seam early (drop first_now (past ++ drop kept entries))

    pub length_left : length left + first_now ≡ kept_now + (first + length (drop kept entries))
    length_left =
        let both = ap length left_parts ∙ length-append early (drop first_now (past ++ drop kept entries)) in
        let rest = length-drop first_now (past ++ drop kept entries) in
        let all = length_queue in
        omega (arith, both, rest, all, kept_is, first_le)

    pub queue_forgets : take first_now whole ++ drop kept_now left ≡ past ++ drop kept entries
    queue_forgets = ap (λ w. take first_now w ++ drop kept_now left) whole_is ∙ ap (λ w. take first_now (past ++ drop kept entries) ++ w) behind ∙ take-append-drop first_now (past ++ drop kept entries)

    pub held_forgets : placed_in places 0 left ≡ now
    held_forgets = placed_all places 0 left (λ k lt. are (0 + k) ∙ lt-ltb (0 + k) (length left) (omega (arith, lt))) ∙ left_is

    at_old : (k : ℕ) (e : Entry) → slice_get left k ≡ Some e → (j : ℕ) × (slice_get entries j ≡ Some e)
    at_old k e at = let there = place_in held 0 entries k e (ap (λ (es : List Entry). slice_get es k) (sym left_is) ∙ at) in (there.0, there.1)

    -- of two that stay, the first came before the second
    ordered : (from : ℕ) (es : List Entry) → ((k : ℕ) (d : Entry) → slice_get es k ≡ Some d → slice_get entries (from + k) ≡ Some d) → (i j : ℕ) (d e : Entry) → slice_get (placed_in held from es) i ≡ Some d → slice_get (placed_in held from es) j ≡ Some e → i < j → d.seq < e.seq
    ordered from [] at i j d e one two lt = absurd (none-some d one)
    ordered from (x ∷ es) at i j d e one two lt = by (ordered (from + 1) es (λ k y is. ap (slice_get entries) (omega arith) ∙ at (suc k) y is)) (contains held from) i j one two lt
      where
        by : ((i j : ℕ) (d e : Entry) → slice_get (placed_in held (from + 1) es) i ≡ Some d → slice_get (placed_in held (from + 1) es) j ≡ Some e → i < j → d.seq < e.seq) → (b : Bool) (i j : ℕ) → slice_get (cond b (x ∷ placed_in held (from + 1) es) (placed_in held (from + 1) es)) i ≡ Some d → slice_get (cond b (x ∷ placed_in held (from + 1) es) (placed_in held (from + 1) es)) j ≡ Some e → i < j → d.seq < e.seq
        by rest true zero zero one two lt = absurd (omega (arith, lt))
        by rest true (suc i) zero one two lt = absurd (omega (arith, lt))
        by rest true zero (suc j) one two lt =
            let there = place_in held (from + 1) es j e two in
            rises entries kept first h.stored from (from + suc there.0) d e (ap (slice_get entries) (omega arith) ∙ at 0 x refl ∙ one) (at (suc there.0) e there.1) (omega arith)
        by rest true (suc i) (suc j) one two lt = rest i j d e one two (omega (arith, lt))
        by rest false i j one two lt = rest i j d e one two lt

    in_order : (place later : ℕ) (d e : Entry) → slice_get left place ≡ Some d → slice_get left later ≡ Some e → place < later → d.seq < e.seq
    in_order place later d e at there lt = ordered 0 entries (λ k x is. ap (slice_get entries) (omega arith) ∙ is) place later d e (ap (λ (es : List Entry). slice_get es place) (sym left_is) ∙ at) (ap (λ (es : List Entry). slice_get es later) (sym left_is) ∙ there) lt

    -- what comes from the number on
    numbered_on : AreNumbered first_now (drop kept_now left)
    numbered_on =
        let long = length-drop kept entries in
        let past_is = h.past_is in
        let window : drop kept_now left ≡ drop (first_now - first) (drop kept entries) =
        behind ∙ ap (λ n. drop n (past ++ drop kept entries)) {x = first_now} {y = length past + (first_now - first)} (omega (arith, past_is, from_first)) ∙ drop-append-add past (drop kept entries) (first_now - first) in
        subst (AreNumbered first_now) (sym window) (subst (λ n. AreNumbered n (drop (first_now - first) (drop kept entries))) {x = first + (first_now - first)} {y = first_now} (omega (arith, from_first)) (numbered_drop first (first_now - first) (drop kept entries) h.stored.numbered))

    before_first : (place : ℕ) (e : Entry) → slice_get left place ≡ Some e → place < kept_now → e.seq < first_now
    before_first place e at low =
        ⊎_elim
        (λ (some : first_now < first + length (drop kept entries)).
        let all = length_left in
        let w = get_or left kept_now e in
        let there : slice_get left kept_now ≡ Some w = slice_get-get_or left kept_now e (omega (arith, all, some)) in
        let seq = numbered_at first_now (drop kept_now left) 0 w numbered_on (slice_get-drop kept_now left 0 ∙ ap (slice_get left) (omega arith) ∙ there) in
        let less = in_order place kept_now e w at there low in
        omega (arith, seq, less))
        (λ (none : first + length (drop kept entries) ≤ first_now).
        let there = at_old place e at in let less = number_within there.0 e there.1 in omega (arith, less, none))
        (cases_lt first_now (first + length (drop kept entries)))

    pub ready_forgets : IsReady (take first_now whole) left kept_now first_now places outstanding
    ready_forgets = record {
      stored = record {
        few = let all = length_left in omega (arith, all, first_le);
        early = before_first;
        rising = λ place later d e at there lt low. in_order place later d e at there lt;
        numbered = numbered_on;
      };
      past_is = let all = length_queue in let is = ap length whole_is in let long = length-take-le first_now whole (omega (arith, all, is, first_le)) in omega (arith, long);
      numbers = let fits = h.numbers in let all = length_left in let long = length-drop kept_now left in omega (arith, fits, all, long, first_le);
      within = λ n t. below n (sym (are n) ∙ t);
      counted = h.counted ∙ ap length (sym held_forgets);
    }
      where
        below : (n : ℕ) → nat_lt n (length left) ≡ true → n < length left
        below n is = ⊎_elim (λ lt. lt) (λ ge. absurd (true≢false (sym is ∙ le-ltb n (length left) ge))) (cases_lt n (length left))

-- one more number between two
pub between_more : (first number n : ℕ) (b : Bool) → first ≤ number → (n == number || (is_between first number n || b)) ≡ (is_between first (number + 1) n || b)
between_more first number n b low = or_assoc (n == number) (is_between first number n) b ∙ ap (λ t. t || b) (⊎_elim same other (cases_eq n number))
  where
    or_assoc : (x y z : Bool) → (x || (y || z)) ≡ ((x || y) || z)
    or_assoc true y z = refl
    or_assoc false y z = refl

    same : n ≡ number → (n == number || is_between first number n) ≡ is_between first (number + 1) n
    same is =
        ap (λ t. t || is_between first number n) (eq-eqb n number is)
        ∙ sym (and_from (nat_le first n) (nat_lt n (number + 1)) (le-leb first n (omega (arith, low, is))) (lt-ltb n (number + 1) (omega (arith, is))))

    other : (n ≡ number → ⊥) → (n == number || is_between first number n) ≡ is_between first (number + 1) n
    other ne =
        ap (λ t. t || is_between first number n) (ne_eqb n number ne)
        ∙ ap (λ t. nat_le first n && t)
        (⊎_elim
        (λ (lt : n < number). lt-ltb n number lt ∙ sym (lt-ltb n (number + 1) (omega (arith, lt))))
        (λ (ge : number ≤ n). le-ltb n number ge ∙ sym (le-ltb n (number + 1) (omega (arith, ge, ne))))
        (cases_lt n number))
