-- What events do to ephemerons.
use Rattle.std.proofs.Common.{◌≡◌, ◌≢◌, ◌⊎◌, ◌||◌, nat_cmp, inl, inr, ⊎_elim, ℕ, Bool, true, false, Option, None, Some, is_some, if◌then◌else◌, refl, sym, ap, subst, ◌∙◌}
use Rattle.std.proofs.lemmas.Bool.{cases_eq}
use Rattle.std.proofs.lemmas.Option.{none-some}
use Rattle.std.specs.Option.{option_map_or}
use Rattle.std.specs.FinMap.{get, remove, get-empty}
use Rattle.fz_model.specs.declared.answers.Registration.{Registration}
use Rattle.fz_model.specs.declared.kinds.LinkKind.{LinkKind}
use Rattle.fz_model.specs.declared.kinds.LinkKind.TheVariants.{Short, Long}
use Rattle.fz_model.specs.State.{Map}
use Rattle.fz_model.specs.Steps.{moved_to}
use Rattle.fz_model.proofs.Maps.{get-insert_same, get-insert_other, get-remove_same, get-remove_other}
use Rattle.fz_pass.specs.Holds.{Ephemerons}
use Rattle.fz_pass.specs.Keyed.{ephemeron_at, has_ephemeron, kind_and_key, moved, with_ephemeron, without_ephemeron}
use Rattle.fz_finalizers.specs.declared.cleanups.Attached.{Attached}
use Rattle.fz_finalizers.specs.States.{State, with_links}
use Rattle.fz_finalizers.specs.Follows.{Event, Follows, queued_one, queued_object, queued_attached, queued_cleanup, Register, Unregister, Link, Unlink, Move, Ephemeron, EndEphemeron, MoveEphemeron, AddCleanup, Cancel, Clean, Pass, Begin, Queue, QueueCleanup, QueueAll, Take, TakeFinished, TakeAll, Finish}
use Rattle.fz_finalizers.specs.Laws.{ChangesEphemerons, SameEphemerons}
use Rattle.fz_finalizers.specs.Promises.{AreSingle, IsReached, Opened, Past, Then}
use Rattle.fz_finalizers.proofs.Lawful.{moves, stays_without}

-- ---- the ephemeron of a word

none_parts : (a b : Option ℕ) → kind_and_key a b ≡ None → (a ≡ None) × (b ≡ None)
none_parts None None h = (refl, refl)
none_parts None (Some k) h = absurd (none-some (Long, k) (sym h))
none_parts (Some k) b h = absurd (none-some (Short, k) (sym h))

has_some : (a b : Option ℕ) (x : LinkKind × ℕ) → kind_and_key a b ≡ Some x → (is_some a || is_some b) ≡ true
has_some None None x h = absurd (none-some x h)
has_some None (Some k) x h = refl
has_some (Some k) b x h = refl

-- ---- a link of a kind moves to a word that has none

at_to : (links : Map ℕ) (word to : ℕ) → get links to ≡ None → get (moved_to links word to (get links word)) to ≡ get links word
at_to links word to free = by (get links word) refl
  where
    by : (o : Option ℕ) → get links word ≡ o → get (moved_to links word to (get links word)) to ≡ get links word
    by None none = ap (λ (m : Map ℕ). get m to) (stays_without links word to none) ∙ free ∙ sym none
    by (Some x) here = ap (λ (m : Map ℕ). get m to) (moves links word to x here free) ∙ get-insert_same (remove links word) to x ∙ sym here

at_word : (links : Map ℕ) (word to : ℕ) → word ≢ to → get links to ≡ None → get (moved_to links word to (get links word)) word ≡ None
at_word links word to apart free = by (get links word) refl
  where
    by : (o : Option ℕ) → get links word ≡ o → get (moved_to links word to (get links word)) word ≡ None
    by None none = ap (λ (m : Map ℕ). get m word) (stays_without links word to none) ∙ none
    by (Some x) here = ap (λ (m : Map ℕ). get m word) (moves links word to x here free) ∙ get-insert_other (remove links word) to x word apart ∙ get-remove_same links word

at_others : (links : Map ℕ) (word to w : ℕ) → get links to ≡ None → w ≢ word → w ≢ to → get (moved_to links word to (get links word)) w ≡ get links w
at_others links word to w free from_word from_to = by (get links word) refl
  where
    by : (o : Option ℕ) → get links word ≡ o → get (moved_to links word to (get links word)) w ≡ get links w
    by None none = ap (λ (m : Map ℕ). get m w) (stays_without links word to none)
    by (Some x) here = ap (λ (m : Map ℕ). get m w) (moves links word to x here free) ∙ get-insert_other (remove links word) to x w from_to ∙ get-remove_other links word w from_word

-- ---- what each call does

put : (e : Ephemerons) (kind : LinkKind) (word key : ℕ)
    → (ephemeron_at (with_ephemeron e kind word key) word ≡ Some (kind, key)) × ((w : ℕ) → w ≢ word → ephemeron_at (with_ephemeron e kind word key) w ≡ ephemeron_at e w)
put e Short word key = (
  ap (λ o. kind_and_key o (get (remove e.long word) word)) (get-insert_same e.short word key),
  λ w other i. kind_and_key (get-insert_other e.short word key w other i) (get-remove_other e.long word w other i),
)
put e Long word key = (
  λ i. kind_and_key (get-remove_same e.short word i) (get-insert_same e.long word key i),
  λ w other i. kind_and_key (get-remove_other e.short word w other i) (get-insert_other e.long word key w other i),
)

ended : (e : Ephemerons) (word : ℕ) → (ephemeron_at (without_ephemeron e word) word ≡ None) × ((w : ℕ) → w ≢ word → ephemeron_at (without_ephemeron e word) w ≡ ephemeron_at e w)
ended e word = (
  λ i. kind_and_key (get-remove_same e.short word i) (get-remove_same e.long word i),
  λ w other i. kind_and_key (get-remove_other e.short word w other i) (get-remove_other e.long word w other i),
)

module _ (e : Ephemerons) (word to : ℕ) where
  abbrev after : Ephemerons
  after = record { short = moved_to e.short word to (get e.short word); long = moved_to e.long word to (get e.long word) }

  -- it moves to where nothing is
  moves_there : has_ephemeron e to ≡ false → moved e word to ≡ after
  moves_there free = ap (λ b. if b then e else after) free

  is_free : (get e.short to ≡ None) × (get e.long to ≡ None) → has_ephemeron e to ≡ false
  is_free none = λ i. is_some (none.0 i) || is_some (none.1 i)

  there : (x : LinkKind × ℕ) → ephemeron_at e word ≡ Some x → ephemeron_at e to ≡ None
      → (ephemeron_at (moved e word to) to ≡ Some x) × (ephemeron_at (moved e word to) word ≡ None) × ((w : ℕ) → ((w ≡ word) ⊎ (w ≡ to) → ⊥) → ephemeron_at (moved e word to) w ≡ ephemeron_at e w)
  there x here free =
      let none = none_parts (get e.short to) (get e.long to) free in
      let apart : word ≢ to = λ same. none-some x (sym free ∙ ap (ephemeron_at e) (sym same) ∙ here) in
      subst (λ (n : Ephemerons). (ephemeron_at n to ≡ Some x) × (ephemeron_at n word ≡ None) × ((w : ℕ) → ((w ≡ word) ⊎ (w ≡ to) → ⊥) → ephemeron_at n w ≡ ephemeron_at e w)) (sym (moves_there (is_free none))) (
        (λ i. kind_and_key (at_to e.short word to none.0 i) (at_to e.long word to none.1 i)) ∙ here,
        λ i. kind_and_key (at_word e.short word to apart none.0 i) (at_word e.long word to apart none.1 i),
        λ w other i. kind_and_key (at_others e.short word to w none.0 (λ same. other (inl same)) (λ same. other (inr same)) i) (at_others e.long word to w none.1 (λ same. other (inl same)) (λ same. other (inr same)) i),
      )

  stays_none : ephemeron_at e word ≡ None → moved e word to ≡ e
  stays_none none = by (has_ephemeron e to)
    where
      by : (b : Bool) → (if b then e else after) ≡ e
      by true = refl
      by false = let parts = none_parts (get e.short word) (get e.long word) none in λ i. record { short = stays_without e.short word to parts.0 i; long = stays_without e.long word to parts.1 i }

  stays_before : (x : LinkKind × ℕ) → ephemeron_at e to ≡ Some x → moved e word to ≡ e
  stays_before x here = ap (λ b. if b then e else after) (has_some (get e.short to) (get e.long to) x here)

-- ---- each event

same_ephemerons : (old new made : State) → new ≡ made → made.ephemerons ≡ old.ephemerons → new.ephemerons ≡ old.ephemerons
same_ephemerons old new made is same = ap (λ (s : State). s.ephemerons) is ∙ same

linked : (s : State) (kind : LinkKind) (links : Map ℕ) → (with_links s kind links).ephemerons ≡ s.ephemerons
linked s Short links = refl
linked s Long links = refl

queued : (s : State) (object : ℕ) → (queued_object s object).ephemerons ≡ s.ephemerons
queued s object = by (get s.registrations object)
  where
    by : (o : Option Registration) → (option_map_or (queued_one s object) o s).ephemerons ≡ s.ephemerons
    by None = refl
    by (Some r) = refl

cleaned : (s : State) (number : ℕ) → (queued_cleanup s number).ephemerons ≡ s.ephemerons
cleaned s number = by (get s.cleanups number)
  where
    by : (o : Option Attached) → (option_map_or (queued_attached s number) o s).ephemerons ≡ s.ephemerons
    by None = refl
    by (Some c) = refl

at_each : (old new : State) → new.ephemerons ≡ old.ephemerons → SameEphemerons old new
at_each old new same word _ = ap (λ (e : Ephemerons). ephemeron_at e word) same

by_made : (old new : State) (event : Event) (made : Ephemerons) → new ≡ record old { ephemerons = made } → ChangesEphemerons old event (record old { ephemerons = made }) → ChangesEphemerons old event new
by_made old new event made is = subst (ChangesEphemerons old event) (sym is)

pub changes_ephemerons : (old new : State) (event : Event) → Follows old event new → ChangesEphemerons old event new
changes_ephemerons old new (Register object finalizer) does = at_each old new (same_ephemerons old new _ does refl)
changes_ephemerons old new (Unregister object) does = at_each old new (same_ephemerons old new _ does refl)
changes_ephemerons old new (Link kind word target) does = at_each old new (same_ephemerons old new _ does (linked old kind _))
changes_ephemerons old new (Unlink kind word) does = at_each old new (same_ephemerons old new _ does (linked old kind _))
changes_ephemerons old new (Move kind word to) does = at_each old new (same_ephemerons old new _ does (linked old kind _))
changes_ephemerons old new (Ephemeron kind word key) does = by_made old new (Ephemeron kind word key) _ does (put old.ephemerons kind word key)
changes_ephemerons old new (EndEphemeron word) does = by_made old new (EndEphemeron word) _ does (ended old.ephemerons word)
changes_ephemerons old new (MoveEphemeron word to) does =
    by_made old new (MoveEphemeron word to) _ does (
      there old.ephemerons word to,
      λ none. at_each old (record old { ephemerons = moved old.ephemerons word to }) (stays_none old.ephemerons word to none),
      λ x here. at_each old (record old { ephemerons = moved old.ephemerons word to }) (stays_before old.ephemerons word to x here),
    )
changes_ephemerons old new (AddCleanup object cleanup) does = at_each old new (same_ephemerons old new _ does refl)
changes_ephemerons old new (Cancel number) does = at_each old new (same_ephemerons old new _ does refl)
changes_ephemerons old new (Clean pass is_due) does = at_each old new (same_ephemerons old new _ does.2 refl)
changes_ephemerons old new Pass does = does.2
changes_ephemerons old new Begin does = at_each old new (same_ephemerons old new _ does refl)
changes_ephemerons old new (Queue object) does = at_each old new (same_ephemerons old new _ does (queued old object))
changes_ephemerons old new (QueueCleanup number) does = at_each old new (same_ephemerons old new _ does (cleaned old number))
changes_ephemerons old new QueueAll does = at_each old new does.6
changes_ephemerons old new (Take entry) does = at_each old new (same_ephemerons old new _ does.1 refl)
changes_ephemerons old new (TakeFinished entry) does = at_each old new (same_ephemerons old new _ does.1 refl)
changes_ephemerons old new (TakeAll entries) does = at_each old new (same_ephemerons old new _ does.1 refl)
changes_ephemerons old new (Finish entry) does = at_each old new (same_ephemerons old new _ does.1 refl)

-- ---- each word is an ephemeron of one kind at most

abbrev IsSingle : Ephemerons → Type 0
IsSingle e = (word short long : ℕ) → get e.short word ≡ Some short → get e.long word ≡ Some long → ⊥

same_single : (old new : State) → new.ephemerons ≡ old.ephemerons → AreSingle old → AreSingle new
same_single old new same p = subst IsSingle (sym same) p

single_put : (e : Ephemerons) (kind : LinkKind) (word key : ℕ) → IsSingle e → IsSingle (with_ephemeron e kind word key)
single_put e Short word key p w s l at_short at_long =
    ⊎_elim (λ (is : w ≡ word). none-some l (sym (ap (get (remove e.long word)) is ∙ get-remove_same e.long word) ∙ at_long))
    (λ (ne : w ≢ word). p w s l (sym (get-insert_other e.short word key w ne) ∙ at_short) (sym (get-remove_other e.long word w ne) ∙ at_long)) (cases_eq w word)
single_put e Long word key p w s l at_short at_long =
    ⊎_elim (λ (is : w ≡ word). none-some s (sym (ap (get (remove e.short word)) is ∙ get-remove_same e.short word) ∙ at_short))
    (λ (ne : w ≢ word). p w s l (sym (get-remove_other e.short word w ne) ∙ at_short) (sym (get-insert_other e.long word key w ne) ∙ at_long)) (cases_eq w word)

single_ended : (e : Ephemerons) (word : ℕ) → IsSingle e → IsSingle (without_ephemeron e word)
single_ended e word p w s l at_short at_long =
    ⊎_elim (λ (is : w ≡ word). none-some s (sym (ap (get (remove e.short word)) is ∙ get-remove_same e.short word) ∙ at_short))
    (λ (ne : w ≢ word). p w s l (sym (get-remove_other e.short word w ne) ∙ at_short) (sym (get-remove_other e.long word w ne) ∙ at_long)) (cases_eq w word)

-- a word to which one has moved, or from which it has, or any other
single_after : (e : Ephemerons) (word to : ℕ) → (get e.short to ≡ None) × (get e.long to ≡ None) → IsSingle e → IsSingle (after e word to)
single_after e word to none p w s l at_short at_long = ⊎_elim is_to other_than_to (cases_eq w to)
  where
    is_to : w ≡ to → ⊥
    is_to is = p word s l (sym (at_to e.short word to none.0) ∙ ap (get (after e word to).short) (sym is) ∙ at_short) (sym (at_to e.long word to none.1) ∙ ap (get (after e word to).long) (sym is) ∙ at_long)

    other_than_to : w ≢ to → ⊥
    other_than_to from_to =
        ⊎_elim (λ (is : w ≡ word). none-some s (sym (ap (get (after e word to).short) is ∙ at_word e.short word to (λ same. from_to (is ∙ same)) none.0) ∙ at_short))
        (λ (ne : w ≢ word). p w s l (sym (at_others e.short word to w none.0 ne from_to) ∙ at_short) (sym (at_others e.long word to w none.1 ne from_to) ∙ at_long)) (cases_eq w word)

single_moved : (e : Ephemerons) (word to : ℕ) → IsSingle e → IsSingle (moved e word to)
single_moved e word to p = by (get e.short to) (get e.long to) refl refl
  where
    by : (a b : Option ℕ) → get e.short to ≡ a → get e.long to ≡ b → IsSingle (moved e word to)
    by None None no_short no_long = subst IsSingle (sym (moves_there e word to (is_free e word to (no_short, no_long)))) (single_after e word to (no_short, no_long) p)
    by None (Some x) no_short has_long = subst IsSingle (sym (stays_before e word to (Long, x) (λ i. kind_and_key (no_short i) (has_long i)))) p
    by (Some x) b has_short at_long = subst IsSingle (sym (stays_before e word to (Short, x) (ap (λ o. kind_and_key o (get e.long to)) has_short))) p

single_step : (old now : State) (event : Event) → AreSingle old → Follows old event now → AreSingle now
single_step old now (Register object finalizer) p does = same_single old now (same_ephemerons old now _ does refl) p
single_step old now (Unregister object) p does = same_single old now (same_ephemerons old now _ does refl) p
single_step old now (Link kind word target) p does = same_single old now (same_ephemerons old now _ does (linked old kind _)) p
single_step old now (Unlink kind word) p does = same_single old now (same_ephemerons old now _ does (linked old kind _)) p
single_step old now (Move kind word to) p does = same_single old now (same_ephemerons old now _ does (linked old kind _)) p
single_step old now (Ephemeron kind word key) p does = subst IsSingle (sym (ap (λ (s : State). s.ephemerons) does)) (single_put old.ephemerons kind word key p)
single_step old now (EndEphemeron word) p does = subst IsSingle (sym (ap (λ (s : State). s.ephemerons) does)) (single_ended old.ephemerons word p)
single_step old now (MoveEphemeron word to) p does = subst IsSingle (sym (ap (λ (s : State). s.ephemerons) does)) (single_moved old.ephemerons word to p)
single_step old now (AddCleanup object cleanup) p does = same_single old now (same_ephemerons old now _ does refl) p
single_step old now (Cancel number) p does = same_single old now (same_ephemerons old now _ does refl) p
single_step old now (Clean pass is_due) p does = same_single old now (same_ephemerons old now _ does.2 refl) p
single_step old now Pass p does = λ word short long at_short at_long. p word short long (does.2 Short word short at_short) (does.2 Long word long at_long)
single_step old now Begin p does = same_single old now (same_ephemerons old now _ does refl) p
single_step old now (Queue object) p does = same_single old now (same_ephemerons old now _ does (queued old object)) p
single_step old now (QueueCleanup number) p does = same_single old now (same_ephemerons old now _ does (cleaned old number)) p
single_step old now QueueAll p does = same_single old now does.6 p
single_step old now (Take entry) p does = same_single old now (same_ephemerons old now _ does.1 refl) p
single_step old now (TakeFinished entry) p does = same_single old now (same_ephemerons old now _ does.1 refl) p
single_step old now (TakeAll entries) p does = same_single old now (same_ephemerons old now _ does.1 refl) p
single_step old now (Finish entry) p does = same_single old now (same_ephemerons old now _ does.1 refl) p

pub single : (s : State) (past : Past) → IsReached s past → AreSingle s
single s past Opened = λ word short long at_short at_long. none-some short (sym (get-empty nat_cmp word) ∙ at_short)
single s past (Then {old = old} {new = now} {past = before_it} event reached does) = single_step old now event (single old before_it reached) does
