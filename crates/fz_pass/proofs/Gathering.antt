-- The entries of a pass at the end of a queue, and the picks that they are of.
use Rattle.std.proofs.Common.{◌≡◌, ℕ, ◌+◌, ◌-◌, ◌≤◌, Bool, cond, List, [], ◌∷◌, ◌++◌, length, take, drop, true, sym, ap, ◌∙◌, arith, append_assoc}
use Rattle.std.proofs.lemmas.List.{map-append, take-append-le, drop-append-le, take-append-drop, length-drop, length-map, length-append}
use Rattle.fz_model.specs.declared.answers.Entry.{Entry}
use Rattle.fz_model.specs.declared.answers.Pick.{Pick}
use Rattle.fz_model.specs.Pass.{entry_of, entries_of}
use Rattle.fz_pass.specs.Gathered.{picks_of}

entries_of-push : (pass seq : ℕ) (picks : List Pick) (p : Pick) → entries_of pass seq (picks ++ p ∷ []) ≡ entries_of pass seq picks ++ entry_of pass (seq + length picks) p ∷ []
entries_of-push pass seq [] p = let e : seq ≡ seq + 0 = omega arith in ap (λ n. entry_of pass n p ∷ []) e
entries_of-push pass seq (q ∷ picks) p =
    let e : (seq + 1) + length picks ≡ seq + length (q ∷ picks) = omega arith in
    ap (λ es. entry_of pass seq q ∷ es) (entries_of-push pass (seq + 1) picks p ∙ ap (λ n. entries_of pass (seq + 1) picks ++ entry_of pass n p ∷ []) e)

-- the entries of picks, and those of others numbered on
pub entries_of-append : (pass seq : ℕ) (picks more : List Pick) → entries_of pass seq (picks ++ more) ≡ entries_of pass seq picks ++ entries_of pass (seq + length picks) more
entries_of-append pass seq [] more = let e : seq ≡ seq + 0 = omega arith in ap (λ n. entries_of pass n more) e
entries_of-append pass seq (q ∷ picks) more =
    let e : (seq + 1) + length picks ≡ seq + length (q ∷ picks) = omega arith in
    ap (λ es. entry_of pass seq q ∷ es) (entries_of-append pass (seq + 1) picks more ∙ ap (λ n. entries_of pass (seq + 1) picks ++ entries_of pass n more) e)

pub queued_twice : (pass first next : ℕ) (queue mid new : List Entry) (picks more : List Pick) → mid ≡ queue ++ entries_of pass first picks → new ≡ mid ++ entries_of pass next more → next ≡ first + length picks → new ≡ queue ++ entries_of pass first (picks ++ more)
queued_twice pass first next queue mid new picks more first_is second_is number =
    second_is ∙ (λ i. first_is i ++ entries_of pass (number i) more) ∙ append_assoc queue (entries_of pass first picks) (entries_of pass (first + length picks) more)
    ∙ ap (λ es. queue ++ es) (sym (entries_of-append pass first picks more))

-- what a push does that succeeds
pub pushed : {X : Type 0} (b : Bool) (xs ys : List X) (v : X) → b ≡ true → ys ≡ cond b (xs ++ v ∷ []) xs → ys ≡ xs ++ v ∷ []
pushed b xs ys v ok is = is ∙ ap (λ t. cond t (xs ++ v ∷ []) xs) ok

module _ (queue : List Entry) (before first pass : ℕ) (within : before ≤ length queue) (are : drop before queue ≡ entries_of pass first (picks_of (drop before queue))) where
  -- the queue is what it was, and then the entries of the picks
  pub queue_is : queue ≡ take before queue ++ entries_of pass first (picks_of (drop before queue))
  queue_is = sym (take-append-drop before queue) ∙ ap (λ es. take before queue ++ es) are

  pub pushed_before : (e : Entry) → take before (queue ++ e ∷ []) ≡ take before queue
  pushed_before e = take-append-le before queue (e ∷ []) within

  pub pushed_picks : (e : Entry) → picks_of (drop before (queue ++ e ∷ [])) ≡ picks_of (drop before queue) ++ picks_of (e ∷ [])
  pushed_picks e = ap picks_of (drop-append-le before queue (e ∷ []) within) ∙ map-append _ (drop before queue) (e ∷ [])

  pub count : length (picks_of (drop before queue)) ≡ length queue - before
  count = length-map (drop before queue) _ ∙ length-drop before queue

  abbrev Ends : List Entry → Type 0
  Ends es = (before ≤ length es) × (drop before es ≡ entries_of pass first (picks_of (drop before es)))

  module _ (seq : ℕ) (p : Pick) (number : seq ≡ first + (length queue - before)) where
    pushed_entries : drop before (queue ++ entry_of pass seq p ∷ []) ≡ entries_of pass first (picks_of (drop before (queue ++ entry_of pass seq p ∷ [])))
    pushed_entries =
        let e = entry_of pass seq p in
        let place : seq ≡ first + length (picks_of (drop before queue)) = number ∙ ap (λ n. first + n) (sym count) in
        drop-append-le before queue (e ∷ []) within ∙ ap (λ es. es ++ e ∷ []) are ∙ ap (λ n. entries_of pass first (picks_of (drop before queue)) ++ entry_of pass n p ∷ []) place
        ∙ sym (entries_of-push pass first (picks_of (drop before queue)) p) ∙ ap (entries_of pass first) (sym (pushed_picks e))

    pub push_ends : Ends (queue ++ entry_of pass seq p ∷ [])
    push_ends = (let more = length-append queue (entry_of pass seq p ∷ []) in omega (arith, more, within), pushed_entries)
