-- What waits and what is held of a queue: one is taken, and one is finished.
use Rattle.std.proofs.Common.{◌≡◌, ℕ, ◌+◌, ◌-◌, ◌<◌, ◌≤◌, Bool, true, false, cond, not, ◌&&◌, ◌||◌, ◌==◌, List, [], ◌∷◌, ◌++◌, All, length, drop, take, refl, sym, ap, ◌∙◌, subst, arith, suc, zero, filter, Some, slice_get, length-append, append_assoc, append-nil, true≢false, ◌⊎◌, ⊎_elim}
use Rattle.std.proofs.lemmas.Option.{slice_get_within, get_or_from_slice_get}
use Rattle.std.proofs.lemmas.List.{length-drop, drop_all}
use Rattle.std.proofs.lemmas.List.Elements.{filter-append, All-append, All-filter}
use Rattle.std.proofs.lemmas.List.Folds.{list_any-append}
use Rattle.std.proofs.lemmas.Bool.{ne_eqb}
use Rattle.std.proofs.Math.Seq.{take-append_seam, drop-cons}
use Rattle.std.specs.List.{list_any}
use Rattle.fz_model.specs.declared.answers.Entry.{Entry}
use Rattle.fz_model.specs.Events.{same_entry}
use Rattle.fz_model.proofs.Events.{same_itself}
use Rattle.fz_finalizers.specs.Queue.{Queue, AreNumbered, GainsPicks}
use Rattle.std.proofs.lemmas.List.{drop-append-le}
use Rattle.fz_model.specs.declared.answers.Pick.{Pick}
use Rattle.fz_model.specs.Pass.{entries_of}
use Rattle.fz_finalizers.proofs.Queues.{AreNumbered-append, numbered_picks}
use Rattle.fz_finalizers.specs.Ready.{IsTaken, held_of}

-- where an entry isn't among others, none of them goes
pub none_of : (entry : Entry) (es : List Entry) → list_any (same_entry entry) es ≡ false → es ≡ filter (λ d. not (same_entry entry d)) es
none_of entry [] none = refl
none_of entry (e ∷ es) none = by (same_entry entry e) refl none (none_of entry es)
  where
    by : (b : Bool) → same_entry entry e ≡ b → (b || list_any (same_entry entry) es) ≡ false → (list_any (same_entry entry) es ≡ false → es ≡ filter (λ d. not (same_entry entry d)) es)
        → e ∷ es ≡ cond (not b) (e ∷ filter (λ d. not (same_entry entry d)) es) (filter (λ d. not (same_entry entry d)) es)
    by true is h rest = absurd (true≢false h)
    by false is h rest = ap (λ ds. e ∷ ds) (rest h)

-- the next that is taken comes before the rest
pub next_waits : (queue : List Entry) (taken : ℕ) (e : Entry) → slice_get queue taken ≡ Some e → drop taken queue ≡ e ∷ drop (taken + 1) queue
next_waits queue taken e at =
    drop-cons queue taken e (slice_get_within queue taken e at)
    ∙ ap (λ (d : Entry). d ∷ drop (suc taken) queue) (get_or_from_slice_get queue taken e e at) ∙ ap (λ n. e ∷ drop n queue) {x = suc taken} {y = taken + 1} (omega arith)

module _ (q : Queue) (taken : ℕ) (h : IsTaken q taken) where
  pub held_is : held_of q taken ≡ h.early
  held_is =
      let both = ap length h.open_is ∙ length-append h.early (drop taken q.queue) in
      let rest = length-drop taken q.queue in
      let within = h.within in
      ap (λ n. take n q.held) {x = length q.held - (length q.queue - taken)} {y = length h.early} (omega (arith, both, rest, within))
      ∙ ap (take (length h.early)) h.open_is ∙ take-append_seam h.early (drop taken q.queue)

  pub none_waits : length q.queue ≤ taken → drop taken q.queue ≡ []
  none_waits ge = drop_all taken q.queue ge

  module _ (e : Entry) (at : slice_get q.queue taken ≡ Some e) where
    pub first_waits : drop taken q.queue ≡ e ∷ drop (taken + 1) q.queue
    first_waits = next_waits q.queue taken e at

    pub takes : IsTaken q (taken + 1)
    takes = record {
      window = let w = h.window in omega (arith, w);
      within = let w = slice_get_within q.queue taken e at in omega (arith, w);
      early = h.early ++ e ∷ [];
      open_is = h.open_is ∙ ap (λ es. h.early ++ es) first_waits ∙ sym (append_assoc h.early (e ∷ []) (drop (taken + 1) q.queue));
      before = All-append (λ (d : Entry). d.seq < taken + 1) h.early (e ∷ []) (λ i d lt. let less = h.before i d lt in omega (arith, less)) (one (seq_is numbered));
      numbered = numbered.1;
    }
      where
        numbered : AreNumbered taken (e ∷ drop (taken + 1) q.queue)
        numbered = subst (AreNumbered taken) first_waits h.numbered

        seq_is : AreNumbered taken (e ∷ drop (taken + 1) q.queue) → e.seq < taken + 1
        seq_is n = let is = n.0 in omega (arith, is)

        one : e.seq < taken + 1 → All (λ (d : Entry). d.seq < taken + 1) (e ∷ [])
        one less zero d lt = less
        one less (suc i) d lt = absurd (omega (arith, lt))

  -- ---- one is finished that was taken

  module _ (entry : Entry) where
    other : (e : Entry) → (entry.seq ≡ e.seq → ⊥) → same_entry entry e ≡ false
    other e ne = ap (λ b. b && ((entry.pass == e.pass) && ((entry.reg == e.reg) && ((entry.obj == e.obj) && ((entry.birth == e.birth) && ((entry.proc == e.proc) && (entry.cd == e.cd))))))) (ne_eqb entry.seq e.seq ne)

    -- of what waits none is the same
    none_waiting : (first : ℕ) (es : List Entry) → taken ≤ first → AreNumbered first es → entry.seq < taken → list_any (same_entry entry) es ≡ false
    none_waiting first [] le are low = refl
    none_waiting first (e ∷ es) le are low =
        let is = are.0 in
        ap (λ b. b || list_any (same_entry entry) es) (other e (λ same. omega (arith, same, is, le, low))) ∙ none_waiting (first + 1) es (omega (arith, le)) are.1 low

    -- and none goes
    all_stay : (first : ℕ) (es : List Entry) → taken ≤ first → AreNumbered first es → entry.seq < taken → filter (λ d. not (same_entry entry d)) es ≡ es
    all_stay first [] le are low = refl
    all_stay first (e ∷ es) le are low =
        let is = are.0 in
        let rest = all_stay (first + 1) es (omega (arith, le)) are.1 low in
        ap (λ b. cond (not b) (e ∷ filter (λ d. not (same_entry entry d)) es) (filter (λ d. not (same_entry entry d)) es)) (other e (λ same. omega (arith, same, is, le, low)))
        ∙ ap (λ ds. e ∷ ds) rest

    -- what was taken before isn't the same as what comes later
    none_early : (es : List Entry) → All (λ (e : Entry). e.seq < taken) es → taken ≤ entry.seq → list_any (same_entry entry) es ≡ false
    none_early [] all ge = refl
    none_early (e ∷ es) all ge =
        let less : e.seq < taken = all 0 e (omega arith) in
        ap (λ b. b || list_any (same_entry entry) es) (other e (λ same. omega (arith, same, less, ge))) ∙ none_early es (λ i d lt. all (suc i) d (omega (arith, lt))) ge

    -- an entry that waits, or comes later, isn't held
    pub later_not_held : taken ≤ entry.seq → list_any (same_entry entry) (held_of q taken) ≡ false
    later_not_held ge = ap (list_any (same_entry entry)) held_is ∙ none_early h.early h.before ge

    module _ (low : entry.seq < taken) where
      or_false : (b : Bool) → (b || false) ≡ b
      or_false true = refl
      or_false false = refl

      pub held_as : list_any (same_entry entry) q.held ≡ list_any (same_entry entry) (held_of q taken)
      held_as =
          ap (list_any (same_entry entry)) h.open_is ∙ list_any-append (same_entry entry) h.early (drop taken q.queue)
          ∙ ap (λ b. list_any (same_entry entry) h.early || b) (none_waiting taken (drop taken q.queue) (omega arith) h.numbered low)
          ∙ or_false (list_any (same_entry entry) h.early) ∙ ap (list_any (same_entry entry)) (sym held_is)

      module _ (new : Queue) (queue : new.queue ≡ q.queue) (forgotten : new.forgotten ≡ q.forgotten) (held : new.held ≡ filter (λ d. not (same_entry entry d)) q.held) where
        pub finishes : IsTaken new taken
        finishes = record {
          window = subst (λ n. n ≤ taken) (sym forgotten) h.window;
          within = subst (λ (es : List Entry). taken ≤ length es) (sym queue) h.within;
          early = filter (λ d. not (same_entry entry d)) h.early;
          open_is = held ∙ ap (filter (λ d. not (same_entry entry d))) h.open_is ∙ filter-append (λ d. not (same_entry entry d)) h.early (drop taken q.queue)
              ∙ ap (λ es. filter (λ d. not (same_entry entry d)) h.early ++ es) (all_stay taken (drop taken q.queue) (omega arith) h.numbered low ∙ ap (drop taken) (sym queue));
          before = All-filter (λ d. not (same_entry entry d)) (λ (e : Entry). e.seq < taken) h.early h.before;
          numbered = subst (λ es. AreNumbered taken (drop taken es)) (sym queue) h.numbered;
        }

pub held_finished : (q new : Queue) (taken : ℕ) (h : IsTaken q taken) (entry : Entry) (low : entry.seq < taken) (queue : new.queue ≡ q.queue) (forgotten : new.forgotten ≡ q.forgotten) (held : new.held ≡ filter (λ d. not (same_entry entry d)) q.held) → held_of new taken ≡ filter (λ d. not (same_entry entry d)) (held_of q taken)
unfolding finishes
held_finished q new taken h entry low queue forgotten held =
    held_is new taken (finishes q taken h entry low new queue forgotten held) ∙ ap (filter (λ d. not (same_entry entry d))) (sym (held_is q taken h))

pub held_taken : (q : Queue) (taken : ℕ) (h : IsTaken q taken) (e : Entry) (at : slice_get q.queue taken ≡ Some e) → held_of q (taken + 1) ≡ held_of q taken ++ e ∷ []
unfolding takes
held_taken q taken h e at = held_is q (taken + 1) (takes q taken h e at) ∙ ap (λ es. es ++ e ∷ []) (sym (held_is q taken h))

-- ---- picks come

module _ (q new : Queue) (taken : ℕ) (h : IsTaken q taken) (pass : ℕ) (picks : List Pick) (g : GainsPicks pass picks q new) where
  abbrev come : List Entry
  come = entries_of pass (length q.queue) picks

  still_waits : drop taken new.queue ≡ drop taken q.queue ++ come
  still_waits = ap (drop taken) g.queue ∙ drop-append-le taken q.queue come h.within

  pub gains : IsTaken new taken
  gains = record {
    window = subst (λ n. n ≤ taken) (sym g.forgotten) h.window;
    within = let long = ap length g.queue ∙ length-append q.queue come in let within = h.within in omega (arith, long, within);
    early = h.early;
    open_is = g.held ∙ ap (λ es. es ++ come) h.open_is ∙ append_assoc h.early (drop taken q.queue) come ∙ ap (λ es. h.early ++ es) (sym still_waits);
    before = h.before;
    numbered =
        let rest = length-drop taken q.queue in
        let within = h.within in
        subst (AreNumbered taken) (sym still_waits)
        (AreNumbered-append taken (drop taken q.queue) come h.numbered (subst (λ n. AreNumbered n come) {x = length q.queue} {y = taken + length (drop taken q.queue)} (omega (arith, rest, within)) (numbered_picks pass (length q.queue) picks)));
  }

pub held_still : (q new : Queue) (taken : ℕ) (h : IsTaken q taken) (pass : ℕ) (picks : List Pick) (g : GainsPicks pass picks q new) → held_of new taken ≡ held_of q taken
unfolding gains
held_still q new taken h pass picks g = held_is new taken (gains q new taken h pass picks g) ∙ sym (held_is q taken h)

-- ---- nothing but room changes; and nothing is there yet

pub taken_still : (q new : Queue) (taken : ℕ) → IsTaken q taken → new.queue ≡ q.queue → new.held ≡ q.held → new.forgotten ≡ q.forgotten → IsTaken new taken
taken_still q new taken h queue held forgotten = record {
  window = subst (λ n. n ≤ taken) (sym forgotten) h.window;
  within = subst (λ (es : List Entry). taken ≤ length es) (sym queue) h.within;
  early = h.early;
  open_is = held ∙ h.open_is ∙ ap (λ es. h.early ++ drop taken es) (sym queue);
  before = h.before;
  numbered = subst (λ es. AreNumbered taken (drop taken es)) (sym queue) h.numbered;
}

pub held_as_before : (q new : Queue) (taken : ℕ) → new.queue ≡ q.queue → new.held ≡ q.held → held_of new taken ≡ held_of q taken
held_as_before q new taken queue held = λ i. take (length (held i) - (length (queue i) - taken)) (held i)

pub none_yet : (q : Queue) → q.queue ≡ [] → q.held ≡ [] → q.forgotten ≡ 0 → IsTaken q 0
none_yet q queue held forgotten = record {
  window = omega (arith, forgotten);
  within = omega arith;
  early = [];
  open_is = held ∙ sym queue;
  before = λ i d lt. absurd (omega (arith, lt));
  numbered = subst (AreNumbered 0) (sym queue) tt;
}

-- what isn't finished was taken or waits
pub all_open : (q : Queue) (taken : ℕ) (h : IsTaken q taken) → q.held ≡ held_of q taken ++ drop taken q.queue
all_open q taken h = h.open_is ∙ ap (λ es. es ++ drop taken q.queue) (sym (held_is q taken h))

pub count_open : (q : Queue) (taken : ℕ) (h : IsTaken q taken) → length q.held + taken ≡ length (held_of q taken) + length q.queue
count_open q taken h =
    let all = ap length (all_open q taken h) ∙ length-append (held_of q taken) (drop taken q.queue) in
    let rest = length-drop taken q.queue in
    let within = h.within in
    omega (arith, all, rest, within)

-- ---- all that waits is taken

numbered_below : (first : ℕ) (es : List Entry) → AreNumbered first es → All (λ (e : Entry). e.seq < first + length es) es
numbered_below first [] are i d lt = absurd (omega (arith, lt))
numbered_below first (e ∷ es) are zero d lt = let is = are.0 in omega (arith, is)
numbered_below first (e ∷ es) are (suc i) d lt = let less = numbered_below (first + 1) es are.1 i d (omega (arith, lt)) in omega (arith, less)

pub takes_all : (q : Queue) (taken : ℕ) → IsTaken q taken → IsTaken q (length q.queue)
takes_all q taken h =
    let none : drop (length q.queue) q.queue ≡ [] = drop_all (length q.queue) q.queue (omega arith) in
    let within = h.within in
    record {
      window = let w = h.window in omega (arith, w, within);
      within = omega arith;
      early = q.held;
      open_is = sym (append-nil q.held) ∙ ap (λ es. q.held ++ es) (sym none);
      before = subst (λ es. All (λ (e : Entry). e.seq < length q.queue) es) (sym h.open_is)
          (All-append (λ (e : Entry). e.seq < length q.queue) h.early (drop taken q.queue)
          (λ i d lt. let less = h.before i d lt in omega (arith, less, within))
          (λ i d lt. let less = numbered_below taken (drop taken q.queue) h.numbered i d lt in let long = length-drop taken q.queue in omega (arith, less, long, within)));
      numbered = subst (AreNumbered (length q.queue)) (sym none) tt;
    }

pub held_all : (q : Queue) (taken : ℕ) (h : IsTaken q taken) → held_of q (length q.queue) ≡ held_of q taken ++ drop taken q.queue
unfolding takes_all
held_all q taken h = held_is q (length q.queue) (takes_all q taken h) ∙ all_open q taken h

-- finished ones are forgotten
pub forgets : (q new : Queue) (taken : ℕ) → IsTaken q taken → new.queue ≡ q.queue → new.held ≡ q.held → (new.forgotten ≡ q.forgotten) ⊎ (new.forgotten ≡ taken) → IsTaken new taken
forgets q new taken h queue held forgotten = record {
  window = let was = h.window in ⊎_elim (λ same. omega (arith, same, was)) (λ is. omega (arith, is)) forgotten;
  within = subst (λ (es : List Entry). taken ≤ length es) (sym queue) h.within;
  early = h.early;
  open_is = held ∙ h.open_is ∙ ap (λ es. h.early ++ drop taken es) (sym queue);
  before = h.before;
  numbered = subst (λ es. AreNumbered taken (drop taken es)) (sym queue) h.numbered;
}

-- the one that is taken has the number of those that were
pub taken_seq : (q : Queue) (taken : ℕ) → IsTaken q taken → (e : Entry) → slice_get q.queue taken ≡ Some e → e.seq ≡ taken
taken_seq q taken h e at = first (subst (AreNumbered taken) (next_waits q.queue taken e at) h.numbered)
  where
    first : AreNumbered taken (e ∷ drop (taken + 1) q.queue) → e.seq ≡ taken
    first are = are.0

-- what is taken and finished at once isn't held
module _ (q new : Queue) (taken : ℕ) (h : IsTaken q taken) (e : Entry) (at : slice_get q.queue taken ≡ Some e) (queue : new.queue ≡ q.queue) (forgotten : new.forgotten ≡ q.forgotten) (held : new.held ≡ filter (λ d. not (same_entry e d)) q.held) where
  low : e.seq < taken + 1
  low = let is = taken_seq q taken h e at in omega (arith, is)

  pub passes : IsTaken new (taken + 1)
  passes = finishes q (taken + 1) (takes q taken h e at) e low new queue forgotten held

  pub held_passes : held_of new (taken + 1) ≡ held_of q taken
  held_passes =
      held_finished q new (taken + 1) (takes q taken h e at) e low queue forgotten held
      ∙ ap (filter (λ d. not (same_entry e d))) (held_taken q taken h e at)
      ∙ filter-append (λ d. not (same_entry e d)) (held_of q taken) (e ∷ [])
      ∙ ap (λ es. filter (λ d. not (same_entry e d)) (held_of q taken) ++ es) (ap (λ b. cond (not b) (e ∷ []) []) (same_itself e))
      ∙ append-nil (filter (λ d. not (same_entry e d)) (held_of q taken))
      ∙ sym (none_of e (held_of q taken) (later_not_held q taken h e (let is = taken_seq q taken h e at in omega (arith, is))))
