-- Due cleanups are listed, and leave the table one after another.
use Rattle.std.proofs.Common.{◌≡◌, ℕ, zero, suc, ◌+◌, ◌<◌, ◌≤◌, ◌++◌, ◌≢◌, ◌&&◌, not, Bool, true, false, cond, List, [], ◌∷◌, map, take, length, get_or, nat_eq, nat_cmp, Option, Some, None, is_some, All, Contains, IsTrue, ⊎_elim, append-nil, append_assoc, refl, sym, ap, subst, ◌∙◌, arith}
use Rattle.std.proofs.lemmas.Bool.{true≢false}
use Rattle.std.proofs.lemmas.Option.{none-some, same_Some, slice_get-get_or, get_or_from_slice_get}
use Rattle.std.proofs.lemmas.List.{map-append, length-append, length-map, take_more, take_all}
use Rattle.std.proofs.lemmas.List.Elements.{All-append, All-cons, All-nil, All-head, All-tail, filter-append}
use Rattle.std.proofs.lemmas.Map.Keys.{IsDistinct-head, IsDistinct-tail, IsDistinct-cons}
use Rattle.std.specs.List.{filter, IsDistinct, AllByRecursion}
use Rattle.std.specs.Map.{keys_of}
use Rattle.std.specs.Cmp.{nat_cmp_total}
use Rattle.std.specs.FinMap.{get, remove, from_entries, empty, get-empty, same_map, nat_cmp-IsAntisymmetric}
use Rattle.fz_model.specs.declared.kinds.LinkKind.{LinkKind}
use Rattle.fz_model.specs.declared.kinds.LinkKind.TheVariants.{Short, Long}
use Rattle.fz_model.specs.Pass.{entries_of}
use Rattle.fz_model.specs.State.{Map}
use Rattle.fz_model.specs.declared.answers.Pick.{Pick}
use Rattle.fz_model.proofs.KeyedEntries.{got, listed}
use Rattle.fz_model.proofs.Maps.{get-remove_same, get-remove_other}
use Rattle.fz_model.proofs.Sound.{length-entries_of}
use Rattle.fz_pass.specs.Listing.{AreApart, AreRanked, ComesAt, are_one}
use Rattle.fz_pass.proofs.Gathering.{entries_of-append}
use Rattle.fz_finalizers.specs.declared.cleanups.Attached.{Attached}
use Rattle.fz_finalizers.specs.Cleanups.{AreDue, AreListed, IsListed, is_due, is_when, pick_of, ranked, without}
use Rattle.fz_finalizers.specs.Queue.{CleansOut, GainsPicks, Queue, TakesListed}

-- ---- what is due among entries

module _ (test : Attached → Bool) where
  abbrev passes : ℕ × Attached → Bool
  passes e = test e.1

  abbrev pub due_in : List (ℕ × Attached) → List (ℕ × ℕ)
  due_in es = map ranked (filter passes es)

  pub due_more : (es : List (ℕ × Attached)) (e : ℕ × Attached) → due_in (es ++ e ∷ []) ≡ cond (test e.1) (due_in es ++ ranked e ∷ []) (due_in es)
  due_more es e = ap (map ranked) (filter-append passes es (e ∷ [])) ∙ map-append ranked (filter passes es) (filter passes (e ∷ [])) ∙ by (test e.1)
    where
      by : (b : Bool) → due_in es ++ map ranked (cond b (e ∷ []) []) ≡ cond b (due_in es ++ ranked e ∷ []) (due_in es)
      by true = refl
      by false = append-nil (due_in es)

  head_apart : (e : ℕ × Attached) (es : List (ℕ × Attached)) → AllByRecursion (λ y. nat_eq e.0 y ≡ false) (keys_of es) → AllByRecursion (λ y. are_one (ranked e) y ≡ false) (due_in es)
  head_apart e [] h = h
  head_apart e (f ∷ es) h = at (passes f) (head_apart e es h.1)
    where
      at : (b : Bool) → AllByRecursion (λ y. are_one (ranked e) y ≡ false) (due_in es) → AllByRecursion (λ y. are_one (ranked e) y ≡ false) (map ranked (cond b (f ∷ filter passes es) (filter passes es)))
      at true rest = (h.0, rest)
      at false rest = rest

  due_apart : (es : List (ℕ × Attached)) → IsDistinct nat_eq (keys_of es) → AreApart (due_in es)
  unfolding IsDistinct
  due_apart [] h = h
  due_apart (e ∷ es) h = at (passes e) (due_apart es (IsDistinct-tail nat_eq e.0 (keys_of es) h))
    where
      at : (b : Bool) → AreApart (due_in es) → AreApart (map ranked (cond b (e ∷ filter passes es) (filter passes es)))
      at true rest = IsDistinct-cons are_one (ranked e) (due_in es) (head_apart e es (IsDistinct-head nat_eq e.0 (keys_of es) h)) rest
      at false rest = rest

  due_each : (P : ℕ × ℕ → Type 0) (es : List (ℕ × Attached)) → ((e : ℕ × Attached) → Contains es e → passes e ≡ true → P (ranked e)) → All P (due_in es)
  due_each P [] h = All-nil P
  due_each P (e ∷ es) h = at (passes e) refl (due_each P es (λ f is_in on. h f (suc is_in.0, omega (arith, is_in.1), is_in.2) on))
    where
      at : (b : Bool) → passes e ≡ b → All P (due_in es) → All P (map ranked (cond b (e ∷ filter passes es) (filter passes es)))
      at true is rest = All-cons P (ranked e) (due_in es) (h e (0, omega arith, refl) is) rest
      at false is rest = rest

  due_whole : (es : List (ℕ × Attached)) (i : ℕ) (d : ℕ × Attached) → i < length es → passes (get_or es i d) ≡ true → Contains (due_in es) (ranked (get_or es i d))
  due_whole [] i d lt on = absurd (omega (arith, lt))
  due_whole (e ∷ es) zero d lt on = here (passes e) on
    where
      here : (b : Bool) → b ≡ true → Contains (map ranked (cond b (e ∷ filter passes es) (filter passes es))) (ranked e)
      here true is = (0, omega arith, refl)
      here false is = absurd (true≢false (sym is))
  due_whole (e ∷ es) (suc i) d lt on = at (passes e) (due_whole es i d (omega (arith, lt)) on)
    where
      at : (b : Bool) → Contains (due_in es) (ranked (get_or es i d)) → Contains (map ranked (cond b (e ∷ filter passes es) (filter passes es))) (ranked (get_or es i d))
      at true (j, lt, is) = (suc j, omega (arith, lt), is)
      at false c = c

  pub due_all : (es : List (ℕ × Attached)) → IsDistinct nat_eq (keys_of es) → AreListed test (from_entries es) AreApart (due_in es)
  due_all es once = record {
    ordered = due_apart es once;
    each = due_each (λ (x : ℕ × ℕ). (c : Attached) × (get (from_entries {R = nat_cmp} es) x.1 ≡ Some c) × (c.cleanup.rank ≡ x.0) × IsTrue (test c)) es (λ e is_in on. (e.1, got es e.0 e.1 once is_in, refl, on));
    whole = λ number c here on.
        let is_in = listed es number c here in
        let same : get_or es is_in.0 (number, c) ≡ (number, c) = is_in.2 in
        subst (λ (e : ℕ × Attached). Contains (due_in es) (ranked e)) same (due_whole es is_in.0 (number, c) is_in.1 (ap passes same ∙ on));
  }

-- one more at most
pub fewer : {X : Type 0} (b : Bool) (xs : List X) (x : X) → length (cond b (xs ++ x ∷ []) xs) ≤ length xs + 1
fewer true xs x = let long = length-append xs (x ∷ []) in omega (arith, long)
fewer false xs x = omega arith

-- ---- the table without some

pub get-without_other : (m : Map Attached) (xs : List (ℕ × Attached)) (k : ℕ) → All (λ (y : ℕ × Attached). y.0 ≢ k) xs → get (without m xs) k ≡ get m k
get-without_other m [] k apart = refl
get-without_other m (x ∷ xs) k apart =
    get-without_other (remove m x.0) xs k (All-tail (λ (y : ℕ × Attached). y.0 ≢ k) x xs apart)
    ∙ get-remove_other m x.0 k (λ same. All-head (λ (y : ℕ × Attached). y.0 ≢ k) x xs apart (sym same))

-- one that is there by itself
pub one_there : (m : Map Attached) (number : ℕ) (c : Attached) → get m number ≡ Some c → All (λ (x : ℕ × Attached). get m x.0 ≡ Some x.1) ((number, c) ∷ [])
one_there m number c here = All-cons (λ (x : ℕ × Attached). get m x.0 ≡ Some x.1) (number, c) [] here (All-nil (λ (x : ℕ × Attached). get m x.0 ≡ Some x.1))

pub without-push : (m : Map Attached) (xs : List (ℕ × Attached)) (x : ℕ × Attached) → without m (xs ++ x ∷ []) ≡ remove (without m xs) x.0
without-push m [] x = refl
without-push m (y ∷ ys) x = without-push (remove m y.0) ys x

-- ---- entries come after others

pub gains_more : (pass : ℕ) (picks more : List Pick) (old mid new : Queue) → GainsPicks pass picks old mid → GainsPicks pass more mid new → GainsPicks pass (picks ++ more) old new
gains_more pass picks more old mid new a b = record {
  queue = b.queue ∙ (λ i. a.queue i ++ entries_of pass (place i) more) ∙ append_assoc old.queue (entries_of pass (length old.queue) picks) (entries_of pass (length old.queue + length picks) more)
      ∙ ap (λ es. old.queue ++ es) (sym (entries_of-append pass (length old.queue) picks more));
  held = b.held ∙ (λ i. a.held i ++ entries_of pass (place i) more) ∙ append_assoc old.held (entries_of pass (length old.queue) picks) (entries_of pass (length old.queue + length picks) more)
      ∙ ap (λ es. old.held ++ es) (sym (entries_of-append pass (length old.queue) picks more));
  forgotten = b.forgotten ∙ a.forgotten;
}
  where
    place : length mid.queue ≡ length old.queue + length picks
    place = ap length a.queue ∙ length-append old.queue (entries_of pass (length old.queue) picks) ∙ ap (λ n. length old.queue + n) (length-entries_of pass (length old.queue) picks)

pub gains_none : (pass : ℕ) (q : Queue) → GainsPicks pass [] q q
gains_none pass q = record { queue = sym (append-nil q.queue); held = sym (append-nil q.held); forgotten = refl }

-- ---- listed cleanups are taken one after another

get_or-map : {X Y : Type 0} (f : X → Y) (xs : List X) (k : ℕ) (d : X) (e : Y) → k < length xs → get_or (map f xs) k e ≡ f (get_or xs k d)
get_or-map f [] k d e lt = absurd (omega (arith, lt))
get_or-map f (x ∷ xs) zero d e lt = refl
get_or-map f (x ∷ xs) (suc k) d e lt = get_or-map f xs k d e (omega (arith, lt))

get_or-take : {X : Type 0} (xs : List X) (n k : ℕ) (d e : X) → k < n → k < length xs → get_or (take n xs) k d ≡ get_or xs k e
get_or-take [] n k d e lt within = absurd (omega (arith, within))
get_or-take (x ∷ xs) zero k d e lt within = absurd (omega (arith, lt))
get_or-take (x ∷ xs) (suc n) zero d e lt within = refl
get_or-take (x ∷ xs) (suc n) (suc k) d e lt within = get_or-take xs n k d e (omega (arith, lt)) (omega (arith, within))

length-take_le : {X : Type 0} (n : ℕ) (xs : List X) → length (take n xs) ≤ n
length-take_le zero xs = omega arith
length-take_le (suc n) [] = omega arith
length-take_le (suc n) (x ∷ xs) = let rest = length-take_le n xs in omega (arith, rest)

module _ (pass : ℕ) (ready : List (ℕ × ℕ)) (old : Map Attached) (queue : Queue) where
  pub takes_none : TakesListed pass [] old old queue queue
  takes_none = record { due = []; ranks = refl; each = All-nil (λ (x : ℕ × Attached). get old x.0 ≡ Some x.1); left = refl; gained = gains_none pass queue }

  module _ (in_order : AreRanked ready) (are : All (IsListed old) ready) (i : ℕ) (lt : i < length ready) (now : Map Attached) (mid : Queue) (t : TakesListed pass (take i ready) old now queue mid) where
    abbrev x : ℕ × ℕ
    x = get_or ready i (0, 0)

    its : IsListed old x
    its = are i (0, 0) lt

    -- those before it are others
    apart : All (λ (y : ℕ × Attached). y.0 ≢ x.1) t.due
    apart k d within same =
        let y = get_or t.due k d in
        let long : length (map ranked t.due) ≡ length (take i ready) = ap length t.ranks in
        let count = length-map t.due ranked in
        let most = length-take_le i ready in
        let before : k < i = omega (arith, within, long, count, most) in
        let at : ranked y ≡ get_or ready k (0, 0) = sym (get_or-map ranked t.due k d (0, 0) within) ∙ ap (λ xs. get_or xs k (0, 0)) t.ranks ∙ get_or-take ready i k (0, 0) (0, 0) before (omega (arith, before, lt)) in
        let one : y.1 ≡ its.0 = same_Some y.1 its.0 (sym (t.each k d within) ∙ ap (get old) same ∙ its.1) in
        let ranks : (get_or ready k (0, 0)).0 ≡ x.0 = ap (λ (z : ℕ × ℕ). z.0) (sym at) ∙ ap (λ (c : Attached). c.cleanup.rank) one ∙ its.2 in
        let numbers : (get_or ready k (0, 0)).1 ≡ x.1 = ap (λ (z : ℕ × ℕ). z.1) (sym at) ∙ same in
        ⊎_elim (λ less. absurd (omega (arith, less, ranks))) (λ less. absurd (omega (arith, less.1, numbers))) (in_order k i (0, 0) before lt)

    still : get now x.1 ≡ get old x.1
    still = ap (λ (m : Map Attached). get m x.1) t.left ∙ get-without_other old t.due x.1 apart

    pub still_there : IsTrue (is_some (get now x.1))
    still_there = ap is_some (still ∙ its.1)

    pub takes_more : (new : Map Attached) (last : Queue) (c : Attached) → get now x.1 ≡ Some c → new ≡ remove now x.1 → GainsPicks pass (pick_of (x.1, c) ∷ []) mid last → TakesListed pass (take (i + 1) ready) old new queue last
    takes_more new last c here removed gained =
        let same : c ≡ its.0 = same_Some c its.0 (sym here ∙ still ∙ its.1) in
        let rank : ranked (x.1, c) ≡ x = ap (λ (a : Attached). ranked (x.1, a)) same ∙ ap (λ r. (r, x.1)) its.2 in
        record {
          due = t.due ++ (x.1, c) ∷ [];
          ranks = map-append ranked t.due ((x.1, c) ∷ []) ∙ (λ j. t.ranks j ++ rank j ∷ []) ∙ sym (take_more ready i (0, 0) lt);
          each = All-append (λ (y : ℕ × Attached). get old y.0 ≡ Some y.1) t.due ((x.1, c) ∷ []) t.each (All-cons (λ (y : ℕ × Attached). get old y.0 ≡ Some y.1) (x.1, c) [] (sym still ∙ here) (All-nil (λ (y : ℕ × Attached). get old y.0 ≡ Some y.1)));
          left = removed ∙ ap (λ (m : Map Attached). remove m x.1) t.left ∙ sym (without-push old t.due (x.1, c));
          gained = subst (λ ps. GainsPicks pass ps queue last) (sym (map-append pick_of t.due ((x.1, c) ∷ []))) (gains_more pass (map pick_of t.due) (pick_of (x.1, c) ∷ []) queue mid last t.gained gained);
        }

  pub takes_all : (i : ℕ) → length ready ≤ i → (new : Map Attached) (last : Queue) → TakesListed pass (take i ready) old new queue last → TakesListed pass ready old new queue last
  takes_all i past new last = subst (λ (xs : List (ℕ × ℕ)). TakesListed pass xs old new queue last) (take_all i ready past)

-- ---- so all that is due is queued

module _ (pass : ℕ) (test : Attached → Bool) (ready : List (ℕ × ℕ)) (old new : Map Attached) (queue last : Queue) (are : AreListed test old AreRanked ready) (t : TakesListed pass ready old new queue last) where
  all_in : {X : Type 0} (xs : List X) (k : ℕ) (d : X) → k < length xs → Contains xs (get_or xs k d)
  all_in xs k d within = (k, within, get_or_from_slice_get xs k (get_or xs k d) (get_or xs k d) (slice_get-get_or xs k d within))

  long : length t.due ≡ length ready
  long = sym (length-map t.due ranked) ∙ ap length t.ranks

  at : (k : ℕ) (d : ℕ × Attached) → k < length t.due → ranked (get_or t.due k d) ≡ get_or ready k (0, 0)
  at k d within = sym (get_or-map ranked t.due k d (0, 0) within) ∙ ap (λ xs. get_or xs k (0, 0)) t.ranks

  are_due : AreDue test old t.due
  are_due = record {
    each = λ k d within.
        let count = long in
        let y = get_or t.due k d in
        let of = are.each k (0, 0) (omega (arith, within, count)) in
        let number : y.0 ≡ (get_or ready k (0, 0)).1 = ap (λ (z : ℕ × ℕ). z.1) (at k d within) in
        let same : of.0 ≡ y.1 = same_Some of.0 y.1 (sym of.1 ∙ ap (get old) (sym number) ∙ t.each k d within) in
        (t.each k d within, subst (λ a. IsTrue (test a)) same of.3);
    whole = λ number c here on.
        let is_in = are.whole number c here on in
        let count = long in
        let within : is_in.0 < length t.due = let lt = is_in.1 in omega (arith, lt, count) in
        let y = get_or t.due is_in.0 (number, c) in
        let is : ranked y ≡ (c.cleanup.rank, number) = sym (get_or-map ranked t.due is_in.0 (number, c) (c.cleanup.rank, number) within) ∙ ap (λ xs. get_or xs is_in.0 (c.cleanup.rank, number)) t.ranks ∙ is_in.2 in
        let place : y.0 ≡ number = ap (λ (z : ℕ × ℕ). z.1) is in
        let same : y.1 ≡ c = same_Some y.1 c (sym (t.each is_in.0 (number, c) within) ∙ ap (get old) place ∙ here) in
        (is_in.0, within, (λ i. (place i, same i)));
    ordered = λ j k d lt within.
        let count = long in
        let first = at j d (omega (arith, lt, within)) in
        let second = at k d within in
        subst (λ (z : ℕ × ℕ). ComesAt z (ranked (get_or t.due k d))) (sym first) (subst (λ (z : ℕ × ℕ). ComesAt (get_or ready j (0, 0)) z) (sym second) (are.ordered j k (0, 0) lt (omega (arith, within, count))));
  }

  pub cleans_out : CleansOut pass test old new queue.queue last.queue
  cleans_out = (t.due, are_due, t.left, t.gained.queue)

-- a listed number is a cleanup's
pub are_listed : (test : Attached → Bool) (old : Map Attached) (ready : List (ℕ × ℕ)) → AreListed test old AreRanked ready → All (IsListed old) ready
are_listed test old ready are k d within = let of = are.each k d within in (of.0, of.1, of.2)

-- ---- what is left isn't due

pub without_back : (m : Map Attached) (xs : List (ℕ × Attached)) (n : ℕ) (c : Attached) → get (without m xs) n ≡ Some c → (get m n ≡ Some c) × All (λ (y : ℕ × Attached). y.0 ≢ n) xs
without_back m [] n c here = (here, All-nil (λ (y : ℕ × Attached). y.0 ≢ n))
without_back m (x ∷ xs) n c here =
    let rest = without_back (remove m x.0) xs n c here in
    let other : x.0 ≢ n = λ same. none-some c (sym (get-remove_same m x.0) ∙ ap (get (remove m x.0)) same ∙ rest.0) in
    (sym (get-remove_other m x.0 n (λ same. other (sym same))) ∙ rest.0, All-cons (λ (y : ℕ × Attached). y.0 ≢ n) x xs other rest.1)

pub left_not_due : (test : Attached → Bool) (m : Map Attached) (due : List (ℕ × Attached)) → AreDue test m due → (n : ℕ) (c : Attached) → get (without m due) n ≡ Some c → test c ≡ false
left_not_due test m due are n c here = by (test c) refl
  where
    by : (b : Bool) → test c ≡ b → b ≡ false
    by false is = refl
    by true is =
        let back = without_back m due n c here in
        let is_in = are.whole n c back.0 is in
        absurd (back.1 is_in.0 (n, c) is_in.1 (ap (λ (y : ℕ × Attached). y.0) is_in.2))

same_when : (when : LinkKind) → is_when when when ≡ true
same_when Short = refl
same_when Long = refl

-- a cleanup of this moment that isn't due has its object in the set
pub not_due_in : (when : LinkKind) (set : ℕ → Bool) (c : Attached) → is_due when set c ≡ false → c.cleanup.when ≡ when → IsTrue (set c.object)
not_due_in when set c off is = by (set c.object) refl
  where
    by : (b : Bool) → set c.object ≡ b → b ≡ true
    by true at = refl
    by false at = absurd (true≢false (sym ((λ i. is_when when (is i) && not (at i)) ∙ ap (λ b. b && true) (same_when when)) ∙ off))

-- where nothing is in the set, none is left
pub none_left : (m mid new : Map Attached) (short long : List (ℕ × Attached)) → AreDue (is_due Short (λ _. false)) m short → mid ≡ without m short → AreDue (is_due Long (λ _. false)) mid long → new ≡ without mid long → new ≡ empty
none_left m mid new short long first first_is second second_is = same_map nat_cmp_total nat_cmp-IsAntisymmetric new empty (λ n. each n (get new n) refl ∙ sym (get-empty nat_cmp n))
  where
    gone : (n : ℕ) (c : Attached) → get new n ≡ Some c → ⊥
    gone n c here = by c.cleanup.when refl
      where
        late : get (without mid long) n ≡ Some c
        late = ap (λ (t : Map Attached). get t n) (sym second_is) ∙ here

        early : get (without m short) n ≡ Some c
        early = ap (λ (t : Map Attached). get t n) (sym first_is) ∙ (without_back mid long n c late).0

        by : (w : LinkKind) → c.cleanup.when ≡ w → ⊥
        by Short is = true≢false (sym (not_due_in Short (λ _. false) c (left_not_due (is_due Short (λ _. false)) m short first n c early) is))
        by Long is = true≢false (sym (not_due_in Long (λ _. false) c (left_not_due (is_due Long (λ _. false)) mid long second n c late) is))

    each : (n : ℕ) (o : Option Attached) → get new n ≡ o → get new n ≡ None
    each n None is = is
    each n (Some c) is = absurd (gone n c is)
