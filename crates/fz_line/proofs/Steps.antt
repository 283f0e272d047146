-- Each push, steal and pop keeps the line's rule.
use Rattle.std.proofs.Common.{◌≡◌, ◌≢◌, ℕ, zero, suc, ◌+◌, ◌<◌, ◌≤◌, List, [], ◌∷◌, ◌++◌, length, set, take, drop, Bool, true, false, true≢false, refl, sym, ap, ◌∙◌, subst, arith, length-append, append_assoc, append-nil, replicate}
use Rattle.std.specs.List.{AllByRecursion}
use mathlib.Core.Option.{some, some-ne-none, some-injective}
use lib.ListN.{get_elem?}
use Rattle.std.proofs.lemmas.List.{drop_at}
use Rattle.std.proofs.lemmas.Option.{none-some}
use Rattle.std.proofs.lemmas.List.Elements.{All-from_recursion}
use Rattle.crossbeam_deque.specs.Tasks.{Pushes, Takes, Finds}
use Rattle.fz_model.specs.declared.answers.Entry.{Entry}
use Rattle.fz_line.specs.declared.protocol.View.{View}
use Rattle.fz_line.specs.Views.{total, sent_limit, view_of, first_view, seat_view}
use Rattle.fz_model.specs.declared.limits.TheConstants.{MAX_WORKERS}
use Rattle.fz_line.specs.Numbers.{AreNumberedFrom, Rises}
use Rattle.fz_line.specs.Rule.{weight_of, IsSeatList, FitsLine, IsLine, GainsSent, GainsTaken, left_count, GainsPopped, KnowsAll}
use Rattle.fz_line.proofs.Totals.{total_set, total-append, total_same, total_alone, total_ones, AllByRecursion-more, AllByRecursion-append}
use Rattle.fz_line.proofs.Numbers.{numbered_push, numbered_at, rises_push}
use Rattle.fz_line.proofs.Views.{all_later, each_set}

-- what can't be both
pub off : {b : Bool} → b ≡ true → b ≡ false → {A : Type 0} → A
off t f = absurd (true≢false (sym t ∙ f))

-- how many lists a view has
abbrev pub lists_of : View → ℕ
lists_of v = length v.lists

is_list_nil : (n : ℕ) → IsSeatList n []
is_list_nil n = ((λ k lt. absurd (omega arith)), tt, omega arith)

empty_lists : (n m : ℕ) → AllByRecursion (IsSeatList m) (replicate n [])
empty_lists zero m = tt
empty_lists (suc n) m = (is_list_nil m, empty_lists n m)

-- a new line keeps the rule
pub begins : IsLine [] (first_view ∷ [])
begins = record {
  left = [];
  writer = 0;
  all_lists = refl;
  each_once = λ h. refl;
  numbered = λ k e at. absurd (none-some e at);
  short = omega arith;
  fits = λ port v at. one port v at;
}
  where
    one : (port : ℕ) (v : View) → get_elem? (first_view ∷ []) port ≡ some v → FitsLine 0 [] [] port v
    one zero v at = subst (FitsLine 0 [] [] 0) (some-injective _ _ at) ((λ _. (refl, refl)), (λ _. refl), empty_lists MAX_WORKERS 0)
    one (suc port) v at = absurd (some-ne-none v (sym at))

-- a push keeps it
pub sends : (port : ℕ) (v : View) (x : Entry) → v.owner ≡ true → x.seq ≡ length v.sent → length v.sent < sent_limit → Pushes IsLine port v (x ∷ []) (GainsSent v (x ∷ []))
sends port v x owner seq room waiting views h at =
    let mine = h.fits port v at in
    let sent : v.sent ≡ h.left ++ waiting = (mine.0 owner).1 in
    let w : View = view_of v.owner (v.sent ++ x ∷ []) v.popped v.lists in
    let longer : (h.left ++ waiting) ++ x ∷ [] ≡ h.left ++ (waiting ++ x ∷ []) = append_assoc h.left waiting (x ∷ []) in
    let n : length v.sent ≡ length (h.left ++ waiting) = ap (λ (l : List Entry). length l) sent in (
      w,
      record {
        left = h.left;
        writer = h.writer;
        all_lists = (let t = total_set lists_of views port v w at in let a = h.all_lists in omega arith);
        each_once = λ k. (let t = total_set (weight_of k) views port v w at in let a = h.each_once k in omega arith);
        numbered = subst (AreNumberedFrom 0) longer (numbered_push 0 (h.left ++ waiting) x h.numbered (let e : x.seq ≡ 0 + length (h.left ++ waiting) = omega arith in e));
        short = (let e = ap (λ (l : List Entry). length l) longer in let f = length-append (h.left ++ waiting) (x ∷ []) in let g : length (x ∷ []) ≡ 1 = refl in omega arith);
        fits = each_set (FitsLine h.writer h.left (waiting ++ x ∷ [])) views port w
            (λ j u other e. ((λ b. absurd (other (((h.fits j u e).0 b).0 ∙ sym (mine.0 owner).0))), (h.fits j u e).1, (h.fits j u e).2))
            ((λ _. ((mine.0 owner).0, ap (λ (l : List Entry). l ++ x ∷ []) sent ∙ longer)), mine.1, mine.2);
      },
      refl,
    )

-- x goes from what waits to what left
one_more : (left waiting : List Entry) (x : Entry) → left ++ x ∷ waiting ≡ (left ++ x ∷ []) ++ waiting
one_more left waiting x = sym (append_assoc left (x ∷ []) waiting)

-- what the others know stays when x has left the line
others_stay : (writer : ℕ) (left waiting : List Entry) (x : Entry) (j : ℕ) (u : View) → FitsLine writer left (x ∷ waiting) j u → FitsLine writer (left ++ x ∷ []) waiting j u
others_stay writer left waiting x j u f =
    ((λ b. ((f.0 b).0, (f.0 b).1 ∙ one_more left waiting x)), f.1, all_later (length left) (length (left ++ x ∷ [])) (let e = length-append left (x ∷ []) in omega arith) u.lists f.2)

-- a steal of one entry keeps it
takes_one : (port : ℕ) (took : List Entry) (x : Entry) (waiting : List Entry) (views : List View) → IsLine (x ∷ waiting) views → get_elem? views port ≡ some (seat_view took)
    → (w : View) × IsLine waiting (set views port w) × GainsTaken (seat_view took) (x ∷ []) w
takes_one port took x waiting views h at =
    let mine = h.fits port (seat_view took) at in
    let list : IsSeatList (length h.left) took = mine.2.0 in
    let n : x.seq ≡ 0 + length h.left = numbered_at 0 h.left x waiting h.numbered in
    let w : View = seat_view (took ++ x ∷ []) in
    let left : List Entry = h.left ++ x ∷ [] in
    let len : length left ≡ length h.left + 1 = length-append h.left (x ∷ []) in
    let len' : length (took ++ x ∷ []) ≡ length took + 1 = length-append took (x ∷ []) in
    let whole : length (h.left ++ x ∷ waiting) ≡ length h.left + length (x ∷ waiting) = length-append h.left (x ∷ waiting) in
    let short = h.short in
    let below : AllByRecursion (λ (e : Entry). e.seq < x.seq) took = AllByRecursion-more (λ (e : Entry). e.seq < length h.left) (λ (e : Entry). e.seq < x.seq) (λ e lt. omega arith) took list.1 in
    let rises : Rises (took ++ x ∷ []) = rises_push took x below list.0 in
    let fewer = list.2 in
    let now : IsSeatList (length left) (took ++ x ∷ []) = (
      rises,
      AllByRecursion-append (λ (e : Entry). e.seq < length left) took (x ∷ []) (AllByRecursion-more (λ (e : Entry). e.seq < length h.left) (λ (e : Entry). e.seq < length left) (λ e lt. omega arith) took list.1) (omega arith, tt),
      omega arith,
    ) in (
      w,
      record {
        left = left;
        writer = h.writer;
        all_lists = (let t = total_set lists_of views port (seat_view took) w at in let a = h.all_lists in omega arith);
        each_once = λ k. (let t = total_set (weight_of k) views port (seat_view took) w at in let a = h.each_once k in let b = total-append k h.left (x ∷ []) in let d = total-append k took (x ∷ []) in omega arith);
        numbered = subst (AreNumberedFrom 0) (one_more h.left waiting x) h.numbered;
        short = subst (λ (l : List Entry). length l ≤ sent_limit) (one_more h.left waiting x) h.short;
        fits = each_set (FitsLine h.writer left waiting) views port w (λ j u other e. others_stay h.writer h.left waiting x j u (h.fits j u e)) ((λ no. off no refl), (λ _. refl), (now, tt));
      },
      (refl, (All-from_recursion (λ (e : Entry). e.seq < x.seq) took below, tt), rises, omega arith),
    )

pub takes : (port : ℕ) (took : List Entry) → Takes IsLine port (seat_view took) 1 (GainsTaken (seat_view took))
takes port took [] waiting views some_one few h at = absurd (omega arith)
takes port took (x ∷ []) waiting views some_one few h at = takes_one port took x waiting views h at
takes port took (x ∷ y ∷ xs) waiting views some_one few h at = absurd (omega arith)

pub takes_as : (port : ℕ) (v : View) (took : List Entry) → v ≡ seat_view took → Takes IsLine port v 1 (GainsTaken v)
takes_as port v took is = subst (λ (u : View). Takes IsLine port u 1 (GainsTaken u)) (sym is) (takes port took)

-- the owner with the lists of all seats has all that left the line
has_all : (waiting : List Entry) (views : List View) (h : IsLine waiting views) (port : ℕ) (v : View) → get_elem? views port ≡ some v → v.owner ≡ true → length v.lists ≡ MAX_WORKERS → (k : Entry → ℕ) → weight_of k v ≡ total k h.left
has_all waiting views h port v at owner all k =
    let mine = h.fits port v at in
    let alone = total_alone (weight_of k) lists_of views port v at (h.all_lists ∙ sym all) (λ j u other e none. idle j u other e none) in
    sym alone ∙ h.each_once k
  where
    no_weight : (u : View) → lists_of u ≡ 0 → u.popped ≡ [] → weight_of k u ≡ 0
    no_weight u none no_pop = let a : total (total k) u.lists ≡ 0 = nothing u.lists none in let b : total k u.popped ≡ 0 = ap (total k) no_pop in omega arith
      where
        nothing : (ls : List (List Entry)) → length ls ≡ 0 → total (total k) ls ≡ 0
        nothing [] e = refl
        nothing (l ∷ ls) e = absurd (omega arith)

    is_off : (b : Bool) → (b ≡ true → ⊥) → b ≡ false
    is_off true nope = absurd (nope refl)
    is_off false nope = refl

    idle : (j : ℕ) (u : View) → j ≢ port → get_elem? views j ≡ some u → lists_of u ≡ 0 → weight_of k u ≡ 0
    idle j u other e none =
        let f = h.fits j u e in
        let m = h.fits port v at in
        no_weight u none (f.1 (is_off u.owner (λ b. other ((f.0 b).0 ∙ sym (m.0 owner).0))))

weight_of-ones : (v : View) → weight_of (λ _. 1) v ≡ left_count v
weight_of-ones v = let a = total_same (total (λ (_ : Entry). 1)) (λ (l : List Entry). length l) (λ l. total_ones l) v.lists in let b = total_ones v.popped in omega arith

-- the owner's pop of one entry keeps the rule
pops_one : (port : ℕ) (v : View) (x : Entry) (waiting : List Entry) (views : List View) → v.owner ≡ true → length v.lists ≡ MAX_WORKERS → IsLine (x ∷ waiting) views → get_elem? views port ≡ some v
    → (w : View) × IsLine waiting (set views port w) × GainsPopped v (x ∷ []) w
pops_one port v x waiting views owner all h at =
    let mine = h.fits port v at in
    let w : View = view_of v.owner v.sent (v.popped ++ x ∷ []) v.lists in
    let left : List Entry = h.left ++ x ∷ [] in
    let sent : v.sent ≡ h.left ++ x ∷ waiting = (mine.0 owner).1 in
    let n : length h.left ≡ left_count v = sym (total_ones h.left) ∙ sym (has_all (x ∷ waiting) views h port v at owner all (λ _. 1)) ∙ weight_of-ones v in
    let rest : drop (left_count v) v.sent ≡ x ∷ waiting = ap (drop (left_count v)) sent ∙ drop_at h.left (x ∷ waiting) (left_count v) n in
    let later = all_later (length h.left) (length left) (let e = length-append h.left (x ∷ []) in omega arith) v.lists mine.2 in (
      w,
      record {
        left = left;
        writer = h.writer;
        all_lists = (let t = total_set lists_of views port v w at in let a = h.all_lists in omega arith);
        each_once = λ k. (let t = total_set (weight_of k) views port v w at in let a = h.each_once k in let b = total-append k h.left (x ∷ []) in let d = total-append k v.popped (x ∷ []) in omega arith);
        numbered = subst (AreNumberedFrom 0) (one_more h.left waiting x) h.numbered;
        short = subst (λ (l : List Entry). length l ≤ sent_limit) (one_more h.left waiting x) h.short;
        fits = each_set (FitsLine h.writer left waiting) views port w (λ j u other e. others_stay h.writer h.left waiting x j u (h.fits j u e))
            ((λ _. ((mine.0 owner).0, sent ∙ one_more h.left waiting x)), (λ no. off owner no), later);
      },
      (refl, ap (take 1) rest),
    )

pub pops : (port : ℕ) (v : View) → v.owner ≡ true → length v.lists ≡ MAX_WORKERS → Takes IsLine port v 1 (GainsPopped v)
pops port v owner all [] waiting views some_one few h at = absurd (omega arith)
pops port v owner all (x ∷ []) waiting views some_one few h at = pops_one port v x waiting views owner all h at
pops port v owner all (x ∷ y ∷ xs) waiting views some_one few h at = absurd (omega arith)

-- where nothing waits, the owner with the lists of all seats has all that was sent
pub ends : (port : ℕ) (v : View) → v.owner ≡ true → length v.lists ≡ MAX_WORKERS → Finds IsLine port v (KnowsAll v)
ends port v owner all views h at =
    let mine = h.fits port v at in
    let sent : v.sent ≡ h.left = (mine.0 owner).1 ∙ append-nil h.left in
    let whole = has_all [] views h port v at owner all in
    (sym (weight_of-ones v) ∙ whole (λ _. 1) ∙ total_ones h.left ∙ ap (λ (l : List Entry). length l) (sym sent), λ k. whole k ∙ ap (total k) (sym sent))
