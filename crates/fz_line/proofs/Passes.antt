-- Lists that go from the owner to a seat, and back, keep the line's rule.
use Rattle.std.proofs.Common.{◌≡◌, ◌≢◌, ℕ, List, [], ◌∷◌, ◌++◌, set, true, refl, sym, ap, ⊎_elim, subst, arith}
use mathlib.Core.Option.{some}
use lib.ListN.{get_elem?}
use Rattle.crossbeam_deque.specs.Tasks.{Forks, Merges}
use Rattle.crossbeam_deque.proofs.Lists.{at_set, set_again}
use Rattle.fz_model.specs.declared.answers.Entry.{Entry}
use Rattle.fz_line.specs.declared.protocol.View.{View}
use Rattle.fz_line.specs.Views.{view_of, blank, seat_view, without_first, first_as_seat, with_lists_of}
use Rattle.fz_line.specs.Rule.{weight_of, FitsLine, IsLine}
use Rattle.fz_line.proofs.Totals.{total_set, total-append}
use Rattle.fz_line.proofs.Views.{each_set, each_snoc}
use Rattle.fz_line.proofs.Steps.{off, lists_of}

-- a blank pass is made
pub forks_nothing : (port : ℕ) (v : View) → Forks IsLine port v v blank
forks_nothing port v waiting views h at =
    let same : set views port v ++ blank ∷ [] ≡ views ++ blank ∷ [] = ap (λ (l : List View). l ++ blank ∷ []) (set_again views port v at) in
    subst (IsLine waiting) (sym same) (record {
      left = h.left;
      writer = h.writer;
      all_lists = (let a = h.all_lists in let b = total-append lists_of views (blank ∷ []) in omega arith);
      each_once = λ k. (let a = h.each_once k in let b = total-append (weight_of k) views (blank ∷ []) in omega arith);
      numbered = h.numbered;
      short = h.short;
      fits = each_snoc (FitsLine h.writer h.left waiting) views blank h.fits (λ j. ((λ no. off no refl), (λ _. refl), tt));
    })

-- the owner gives its first list to a seat
pub forks : (port : ℕ) (sent popped l : List Entry) (ls : List (List Entry)) → let v = view_of true sent popped (l ∷ ls) in Forks IsLine port v (without_first v) (first_as_seat v)
forks port sent popped l ls waiting views h at =
    let v : View = view_of true sent popped (l ∷ ls) in
    let w : View = without_first v in
    let mine = h.fits port v at in
    record {
      left = h.left;
      writer = h.writer;
      all_lists = (let a = h.all_lists in let b = total-append lists_of (set views port w) (seat_view l ∷ []) in let t = total_set lists_of views port v w at in omega arith);
      each_once = λ k. (let a = h.each_once k in let b = total-append (weight_of k) (set views port w) (seat_view l ∷ []) in let t = total_set (weight_of k) views port v w at in omega arith);
      numbered = h.numbered;
      short = h.short;
      fits = each_snoc (FitsLine h.writer h.left waiting) (set views port w) (seat_view l)
          (each_set (FitsLine h.writer h.left waiting) views port w (λ j u other e. h.fits j u e) (mine.0, mine.1, mine.2.1))
          (λ j. ((λ no. off no refl), (λ _. refl), (mine.2.0, tt)));
    }

pub forks_as : (port : ℕ) (v : View) (sent popped l : List Entry) (ls : List (List Entry)) → v ≡ view_of true sent popped (l ∷ ls) → Forks IsLine port v (without_first v) (first_as_seat v)
forks_as port v sent popped l ls is = subst (λ (u : View). Forks IsLine port u (without_first u) (first_as_seat u)) (sym is) (forks port sent popped l ls)

-- the owner takes a seat's list in
pub merges : (port : ℕ) (v : View) (other : ℕ) (took : List Entry) → v.owner ≡ true → Merges IsLine port v other (seat_view took) (with_lists_of v (seat_view took)) blank
merges port v other took owner waiting views h at apart there =
    let u : View = seat_view took in
    let w : View = with_lists_of v u in
    let mine = h.fits port v at in
    let was : get_elem? views other ≡ some u = ⊎_elim (λ (t : (other ≡ port) × (w ≡ u)). absurd (apart t.0)) (λ (t : (other ≢ port) × (get_elem? views other ≡ some u)). t.1) (at_set views port other w u there) in
    let theirs = h.fits other u was in
    record {
      left = h.left;
      writer = h.writer;
      all_lists = (let a = h.all_lists in let s = total_set lists_of views port v w at in let t = total_set lists_of (set views port w) other u blank there in omega arith);
      each_once = λ k. (let a = h.each_once k in let s = total_set (weight_of k) views port v w at in let t = total_set (weight_of k) (set views port w) other u blank there in omega arith);
      numbered = h.numbered;
      short = h.short;
      fits = each_set (FitsLine h.writer h.left waiting) (set views port w) other blank
          (λ j y _ e. each_set (FitsLine h.writer h.left waiting) views port w (λ i z _ e'. h.fits i z e') (mine.0, mine.1, (theirs.2.0, mine.2)) j y e)
          ((λ no. off no refl), (λ _. refl), tt);
    }

pub merges_as : (port : ℕ) (v : View) (other : ℕ) (u : View) (took : List Entry) → v.owner ≡ true → u ≡ seat_view took → Merges IsLine port v other u (with_lists_of v u) blank
merges_as port v other u took owner is = subst (λ (y : View). Merges IsLine port v other y (with_lists_of v y) blank) (sym is) (merges port v other took owner)
