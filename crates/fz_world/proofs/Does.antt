-- A reply of a world is a step of the model from each state that the world represents.
use Rattle.std.proofs.Common.{◌≡◌, ◌⊎◌, ◌||◌, ◌++◌, append_assoc, ℕ, Bool, true, false, if◌then◌else◌, [], ◌∷◌, None, Some, Result, Ok, Err, IsErrAnd, refl, sym, ap, subst, ◌∙◌, inl, inr, ⊎_elim, IsTrue, IsFalse, Any}
use Rattle.std.proofs.lemmas.Bool.{cond-true, cases_eq, ne_eqb, both_ways}
use Rattle.std.specs.FinSet.{contains}
use Rattle.fz_model.specs.declared.kinds.ObjKind.{ObjKind}
use Rattle.std.specs.FinMap.{get}
use Rattle.std.specs.Option.{IsNone}
use Rattle.fz_model.specs.declared.answers.RegAnswer.{RegAnswer}
use Rattle.fz_model.specs.declared.refusal.Refusal.{Refusal}
use Rattle.fz_model.specs.declared.refusal.Refusal.TheVariants.{NoMemory}
use Rattle.fz_model.specs.State.{Core, State}
use Rattle.fz_model.specs.Reachability.{IsReachable, IsRoot, WasSeen, Leads, Itself, OneMore, Slot, ClientData, HeldObject, HeldData, Registered}
use Rattle.fz_model.specs.Pass.{IsFinding, Passes}
use Rattle.fz_model.specs.declared.answers.Passed.{Passed}
use Rattle.fz_model.specs.declared.answers.Progress.{Progress}
use Rattle.fz_model.specs.Causes.{Causes, IsJudgedBy, IsRefusedFor, first_cause, slot_causes, start_causes, register_causes, is_off_heap, full}
use Rattle.fz_model.proofs.Judged.{judged_more, judged_err, refused_more}
use Rattle.fz_model.specs.declared.kinds.LinkKind.{LinkKind}
use Rattle.fz_model.specs.declared.call.Call.TheVariants.{Alloc, Register, Link, Begin, Mark, Pause}
use Rattle.fz_model.specs.declared.finalizer.Finalizer.{Finalizer}
use Rattle.fz_model.specs.declared.places.Slot as places
use Rattle.fz_model.specs.Places.{slot_at, place_at}
use Rattle.fz_model.specs.Events.{Event, Make, links_of, causes_at, Answer, causes}
use Rattle.fz_model.specs.Steps.{Accepts, IsRefusedAs, moments_after}
use Rattle.fz_model.proofs.SeenAfter.{IsShown, accepted_seen, is_pause, whatever_seen}
use Rattle.fz_model.proofs.SeenKept.{FramesWhole, still_seen, now_seen, put_root}
use Rattle.fz_model.proofs.Parts.{none_stands}
use Rattle.fz_model.specs.Memory.{points, slot_word, with_slot, address_of}
use Rattle.fz_bits.specs.Flags.{Set}
use Rattle.fz_model.proofs.Sets.{has_inserted}
use Rattle.fz_marker.specs.Marking.{IsLedFrom, IsClosed}
use Rattle.fz_world.specs.World.{WorldView, with_in_cycle}
use Rattle.fz_world.specs.Does.{AreSeen, StandsFor, Does}
use Rattle.fz_world.specs.Registering.{RegistersFinalizer}

-- a refused call leaves the world as it was
pub does_refused : (old new : WorldView) (e : Event) (r : Refusal) → IsRefusedAs old.core e r → new ≡ old → Does old e (Err r) new
unfolding Does
does_refused old new e r h same = (
  ap (λ (w : WorldView). w.forgotten) same,
  λ s stands. (s, (subst (λ c. IsRefusedAs c e r) stands.core h, refl), record { core = ap (λ (w : WorldView). w.core) same ∙ stands.core; seen = stands.seen; marks = subst (λ (w : WorldView). AreSeen s w.marked) (sym same) stands.marks }),
)

-- the same of a reply that only hands a refusal on
pub hands_on : (old : WorldView) (e : Event) (reply : Result (Answer e) Refusal) (r : Refusal) → first_cause (causes old.core e) ≡ Some r → IsErrAnd reply (λ x. x ≡ r) → Does old e reply old
hands_on old e (Err x) r h is = does_refused old old e x (inl (h ∙ ap Some (sym is))) refl
hands_on old e (Ok answer) r h is = absurd is

-- a refusal that is returned as it is is judged as it was
pub judged_on : {A : Type 0} → (causes : Causes) (reply : Result A Refusal) (r : Refusal) → first_cause causes ≡ Some r → IsErrAnd reply (λ x. x ≡ r) → IsJudgedBy causes reply
judged_on causes (Err x) r h is = h ∙ ap Some (sym is)
judged_on causes (Ok answer) r h is = absurd is

-- ---- what was seen, one step later

later : (s : State) (new : Core) → IsTrue new.cycle → (a : ℕ) → WasSeen s a → Any (λ c. IsReachable c a) (moments_after s new)
later s new on a seen = subst (λ ms. Any (λ c. IsReachable c a) ms) (sym (cond-true new.cycle (new ∷ s.moments) [] on)) (still_seen new s.moments a seen)

at_once : (s : State) (new : Core) → IsTrue new.cycle → (a : ℕ) → IsReachable new a → Any (λ c. IsReachable c a) (moments_after s new)
at_once s new on a reached = subst (λ ms. Any (λ c. IsReachable c a) ms) (sym (cond-true new.cycle (new ∷ s.moments) [] on)) (now_seen new s.moments a reached)

-- an accepted call but for a pause, where each new mark is of what was seen before or is reachable now
module _ (old new : WorldView) (e : Event) (answer : Answer e) (other : IsFalse (is_pause e)) (shown : IsShown old.core e answer new.core) (none : first_cause (causes old.core e) ≡ None) (accepts : Accepts (record { core = old.core; moments = [] }) e answer new.core) (kept : new.forgotten ≡ old.forgotten) where
  pub does_marking : ((s : State) → StandsFor old s → IsTrue new.core.cycle → (a : ℕ) → IsTrue (contains new.marked a) → WasSeen s a ⊎ IsReachable new.core a) → Does old e (Ok answer) new
  unfolding Does
  does_marking marks = (
    kept,
    λ s stands.
        let Here = λ (c : Core). IsShown c e answer new.core × (first_cause (causes c e) ≡ None) × Accepts (record { core = c; moments = s.moments }) e answer new.core in
        let here : Here s.core = subst Here stands.core (shown, none, whatever_seen old.core [] s.moments e answer new.core other accepts) in
        let after : State = record { core = new.core; moments = moments_after s new.core } in (
          after,
          (here.1, here.2, refl),
          record {
            core = refl;
            seen = accepted_seen s after stands.seen refl e answer here.0 here.1 here.2;
            marks = λ on a t. ⊎_elim (λ was. later s new.core on a was) (λ now. at_once s new.core on a now) (marks s stands on a t);
          },
        ),
  )

-- one that leaves the marks as they were, and opens no cycle
pub does_accepted : (old new : WorldView) (e : Event) (answer : Answer e) → IsFalse (is_pause e) → IsShown old.core e answer new.core → first_cause (causes old.core e) ≡ None → Accepts (record { core = old.core; moments = [] }) e answer new.core → new.marked ≡ old.marked → new.core.cycle ≡ old.core.cycle → new.forgotten ≡ old.forgotten → Does old e (Ok answer) new
does_accepted old new e answer other shown none accepts marked cycle kept =
    does_marking old new e answer other shown none accepts kept (λ s stands on a t. inl (stands.marks (sym (ap (λ (c : Core). c.cycle) (stands.core)) ∙ sym cycle ∙ on) a (ap (λ (m : Set). contains m a) (sym marked) ∙ t)))

-- one that ends the cycle, or goes on without one
pub does_ended : (old new : WorldView) (e : Event) (answer : Answer e) → IsFalse (is_pause e) → IsShown old.core e answer new.core → first_cause (causes old.core e) ≡ None → Accepts (record { core = old.core; moments = [] }) e answer new.core → new.core.cycle ≡ false → new.forgotten ≡ old.forgotten → Does old e (Ok answer) new
does_ended old new e answer other shown none accepts off kept =
    does_marking old new e answer other shown none accepts kept (λ s stands on a t. absurd (both_ways new.core.cycle off on))

-- the marks of a cycle that begins are the roots
pub does_begin : (old new : WorldView) → first_cause (causes old.core (Make Begin)) ≡ None → new.core ≡ record old.core { cycle = true } → ((a : ℕ) → IsTrue (contains new.marked a) → IsRoot old.core a) → new.forgotten ≡ old.forgotten → Does old (Make Begin) (Ok tt) new
does_begin old new none is marks kept =
    does_marking old new (Make Begin) tt refl tt none is kept (λ s stands on a t. inr (subst (λ c. IsReachable c a) (sym is) (record { root = a; is_root = same_root a (marks a t); leads = Itself })))
  where
    same_root : (a : ℕ) → IsRoot old.core a → IsRoot (record old.core { cycle = true }) a
    same_root a (Slot frame word in_frames in_frame points) = Slot frame word in_frames in_frame points
    same_root a (ClientData object r here points) = ClientData object r here points
    same_root a (HeldObject e held same) = HeldObject e held same
    same_root a (HeldData e held points) = HeldData e held points
    same_root a (Registered r closed here) = Registered r closed here

-- marks that come are led to from marks
pub does_mark : (old new : WorldView) (budget : ℕ) (answer : Progress) → first_cause (causes old.core (Make (Mark budget))) ≡ None → Accepts (record { core = old.core; moments = [] }) (Make (Mark budget)) answer new.core → ((a : ℕ) → IsTrue (contains new.marked a) → IsLedFrom old.core.objects old.marked a) → new.forgotten ≡ old.forgotten → Does old (Make (Mark budget)) (Ok answer) new
does_mark old new budget answer none accepts led kept = does_marking old new (Make (Mark budget)) answer refl tt none accepts kept (λ s stands on a t. inl (was s stands on a t))
  where
    was : (s : State) → StandsFor old s → IsTrue new.core.cycle → (a : ℕ) → IsTrue (contains new.marked a) → WasSeen s a
    was s stands on a t = let from = led a t in follow from.0 a (stands.marks open_ from.0 from.1) (subst (λ (c : Core). Leads c.objects from.0 a) stands.core from.2)
      where
        open_ : IsTrue s.cycle
        open_ = sym (ap (λ (c : Core). c.cycle) (accepts.1 ∙ stands.core)) ∙ on

        follow : (from a : ℕ) → WasSeen s from → Leads s.objects from a → WasSeen s a
        follow from a h Itself = h
        follow from a h (OneMore {b = b} leads child) = stands.seen.closed open_ b a (follow from b h leads) child

-- in an open cycle a new object is marked
pub does_alloc : (old new : WorldView) (slot : places.Slot) (size : ℕ) (kind : ObjKind) (answer : ℕ × ℕ) → FramesWhole old.core → points new.core.objects answer.0 ≡ Some answer.0 → first_cause (causes old.core (Make (Alloc slot size kind))) ≡ None → Accepts (record { core = old.core; moments = [] }) (Make (Alloc slot size kind)) answer new.core → new.marked ≡ with_in_cycle old.core.cycle old.marked answer.0 → new.forgotten ≡ old.forgotten → Does old (Make (Alloc slot size kind)) (Ok answer) new
does_alloc old new slot size kind answer whole start none accepts marked kept =
    does_marking old new (Make (Alloc slot size kind)) answer refl (whole, start) none accepts kept (λ s stands on a t.
    ⊎_elim
    (λ same. inr (subst (λ n. IsReachable new.core n) (sym same) reached))
    (λ other. inl (stands.marks (sym (ap (λ (c : Core). c.cycle) accepts.3 ∙ ap (λ (c : Core). c.cycle) stands.core) ∙ on) a (was a other t)))
    (cases_eq a answer.0))
  where
    a_new : ℕ
    a_new = accepts.0

    is_new : answer.0 ≡ a_new
    is_new = ap (λ (p : ℕ × ℕ). p.0) accepts.2

    reached : IsReachable new.core answer.0
    reached = put_root old.core slot whole (none_stands (causes old.core (Make (Alloc slot size kind))) none).0 answer.0 answer.0 new.core (ap (λ (k : Core). k.frames) accepts.3 ∙ ap (λ n. with_slot old.core.frames slot n) (sym is_new)) start

    was : (a : ℕ) → (a ≡ answer.0 → ⊥) → IsTrue (contains new.marked a) → IsTrue (contains old.marked a)
    was a other t = from old.core.cycle (sym (ap (λ (m : Set). contains m a) marked) ∙ t)
      where
        from : (b : Bool) → contains (with_in_cycle b old.marked answer.0) a ≡ true → contains old.marked a ≡ true
        from true h = sym (ap (λ b. b || contains old.marked a) (ne_eqb a answer.0 other)) ∙ sym (has_inserted old.marked answer.0 a) ∙ h
        from false h = h

-- closed marks that have all roots are a finding
pub does_pause : (old new : WorldView) (marked : Set) (passed : Passed) → first_cause (causes old.core (Make Pause)) ≡ None → IsTrue old.core.cycle → ((a : ℕ) → IsRoot old.core a → IsTrue (contains marked a)) → IsClosed old.core.objects marked → ((a : ℕ) → IsTrue (contains marked a) → (from : ℕ) × (IsTrue (contains old.marked from) ⊎ IsRoot old.core from) × Leads old.core.objects from a) → Passes old.core (contains marked) passed new.core → new.core.cycle ≡ false → new.forgotten ≡ old.forgotten → Does old (Make Pause) (Ok passed) new
unfolding Does
does_pause old new marked passed none on roots closed led passes off kept = (
  kept,
  λ s stands.
      let Here = λ (c : Core). (first_cause (causes c (Make Pause)) ≡ None) × IsTrue c.cycle × ((a : ℕ) → IsRoot c a → IsTrue (contains marked a)) × IsClosed c.objects marked × ((a : ℕ) → IsTrue (contains marked a) → (from : ℕ) × (IsTrue (contains old.marked from) ⊎ IsRoot c from) × Leads c.objects from a) × Passes c (contains marked) passed new.core in
      let here : Here s.core = subst Here stands.core (none, on, roots, closed, led, passes) in
      let after : State = record { core = new.core; moments = moments_after s new.core } in (
        after,
        (here.0, (contains marked, finding s stands here.1 here.2 here.3 here.4, here.5), refl),
        record {
          core = refl;
          seen = accepted_seen s after stands.seen refl (Make Pause) passed tt here.0 (contains marked, finding s stands here.1 here.2 here.3 here.4, here.5);
          marks = λ open_. absurd (both_ways new.core.cycle off open_);
        },
      ),
)
  where
    finding : (s : State) → StandsFor old s → IsTrue s.cycle → ((a : ℕ) → IsRoot s.core a → IsTrue (contains marked a)) → IsClosed s.objects marked → ((a : ℕ) → IsTrue (contains marked a) → (from : ℕ) × (IsTrue (contains old.marked from) ⊎ IsRoot s.core from) × Leads s.objects from a) → IsFinding s (contains marked)
    finding s stands on roots closed led = record {
      reachable = λ a r. marked_on r.root a (roots r.root r.is_root) r.leads;
      closed = λ a b t child. closed a t b child;
      seen = λ a t. let from = led a t in seen_on from.0 a (⊎_elim (stands.marks on from.0) (λ root. stands.seen.reachable on from.0 (record { root = from.0; is_root = root; leads = Itself })) from.1) from.2;
    }
      where
        marked_on : (from a : ℕ) → IsTrue (contains marked from) → Leads s.objects from a → IsTrue (contains marked a)
        marked_on from a h Itself = h
        marked_on from a h (OneMore {b = b} leads child) = closed b (marked_on from b h leads) a child

        seen_on : (from a : ℕ) → WasSeen s from → Leads s.objects from a → WasSeen s a
        seen_on from a h Itself = h
        seen_on from a h (OneMore {b = b} leads child) = stands.seen.closed on b a (seen_on from b h leads) child

-- ---- a link's causes: those of its two ends, and a full table

module _ (c : Core) (which : LinkKind) (frame slot offset target_frame target_slot : ℕ) where
  of_ends : Causes
  of_ends = slot_causes c.frames (slot_at frame slot) ++ (slot_causes c.frames (slot_at target_frame target_slot) ++ (causes_at c (place_at frame slot offset) ++ start_causes c.objects (slot_word c.frames (slot_at target_frame target_slot))))

  of_table : Causes
  of_table = full (links_of c which) (address_of c.frames (place_at frame slot offset)) ∷ []

  all_causes : of_ends ++ of_table ≡ causes c (Make (Link which (place_at frame slot offset) (slot_at target_frame target_slot)))
  unfolding of_ends of_table
  all_causes =
      let first = slot_causes c.frames (slot_at frame slot) in
      let second = slot_causes c.frames (slot_at target_frame target_slot) in
      let at = causes_at c (place_at frame slot offset) in
      let start = start_causes c.objects (slot_word c.frames (slot_at target_frame target_slot)) in
      append_assoc first (second ++ (at ++ start)) of_table ∙ ap (λ rest. first ++ rest) (append_assoc second (at ++ start) of_table ∙ ap (λ rest. second ++ rest) (append_assoc at start of_table))

  pub link_refused : (r : Refusal) → first_cause (slot_causes c.frames (slot_at frame slot) ++ (slot_causes c.frames (slot_at target_frame target_slot) ++ (causes_at c (place_at frame slot offset) ++ start_causes c.objects (slot_word c.frames (slot_at target_frame target_slot))))) ≡ Some r → first_cause (causes c (Make (Link which (place_at frame slot offset) (slot_at target_frame target_slot)))) ≡ Some r
  unfolding of_ends of_table
  link_refused r h = ap first_cause (sym all_causes) ∙ judged_err of_ends of_table r h

  pub link_judged : first_cause (slot_causes c.frames (slot_at frame slot) ++ (slot_causes c.frames (slot_at target_frame target_slot) ++ (causes_at c (place_at frame slot offset) ++ start_causes c.objects (slot_word c.frames (slot_at target_frame target_slot))))) ≡ None → first_cause (causes c (Make (Link which (place_at frame slot offset) (slot_at target_frame target_slot)))) ≡ first_cause (full (links_of c which) (address_of c.frames (place_at frame slot offset)) ∷ [])
  unfolding of_ends of_table
  link_judged h = ap first_cause (sym all_causes) ∙ judged_more of_ends of_table h

-- a word in the heap that isn't the start of an object is refused before the table is asked
pub start_refused : (c : Core) (slot : places.Slot) (finalizer : Finalizer) (r : Refusal) → first_cause (slot_causes c.frames slot) ≡ None → is_off_heap c.blocks (slot_word c.frames slot) ≡ false → first_cause (start_causes c.objects (slot_word c.frames slot)) ≡ Some r → first_cause (causes c (Make (Register slot finalizer))) ≡ Some r
start_refused c slot finalizer r slots inside h =
    let word = slot_word c.frames slot in
    let rest = start_causes c.objects word ++ register_causes c.registrations c.next_number word in
    judged_more (slot_causes c.frames slot) (if is_off_heap c.blocks word then [] else rest) slots
    ∙ ap (λ b. first_cause (if b then [] else rest)) inside
    ∙ judged_err (start_causes c.objects word) (register_causes c.registrations c.next_number word) r h

-- the start of an object in the heap is refused as the table refuses it
pub table_refuses : (c : Core) (slot : places.Slot) (finalizer : Finalizer) (r : Refusal) → first_cause (slot_causes c.frames slot) ≡ None → is_off_heap c.blocks (slot_word c.frames slot) ≡ false → first_cause (start_causes c.objects (slot_word c.frames slot)) ≡ None → IsRefusedFor (register_causes c.registrations c.next_number (slot_word c.frames slot)) true r → IsRefusedAs c (Make (Register slot finalizer)) r
table_refuses c slot finalizer r slots inside starts h =
    let word = slot_word c.frames slot in
    let rest = start_causes c.objects word ++ register_causes c.registrations c.next_number word in
    refused_more (slot_causes c.frames slot) (if is_off_heap c.blocks word then [] else rest) true r slots
    (subst (λ b. IsRefusedFor (if b then [] else rest) true r) (sym inside) (refused_more (start_causes c.objects word) (register_causes c.registrations c.next_number word) true r starts h))

pub registers_nothing : (old new : WorldView) (slot : places.Slot) (finalizer : Finalizer) (r : Refusal) (result : Result RegAnswer Refusal) → IsErrAnd result (λ x. x ≡ r)
    → IsRefusedAs old.core (Make (Register slot finalizer)) r → new ≡ old
    → (r ≡ NoMemory → IsFalse (is_off_heap old.blocks (slot_word old.frames slot))) → (r ≡ NoMemory → IsNone (get old.registrations (slot_word old.frames slot)))
    → RegistersFinalizer old slot finalizer result new
registers_nothing old new slot finalizer r (Ok answer) is refused same inside growth = absurd is
registers_nothing old new slot finalizer r (Err x) is refused same inside growth =
    let judged : IsRefusedAs old.core (Make (Register slot finalizer)) x = subst (IsRefusedAs old.core (Make (Register slot finalizer))) (sym is) refused in
    record {
      step = does_refused old new (Make (Register slot finalizer)) x judged same;
      caused = judged;
      refused = same;
      inside = λ e. inside (sym is ∙ e);
      growth = λ e. growth (sym is ∙ e);
      marks = subst (λ (w : WorldView). w ≡ record old { core = w.core; remembered = w.remembered }) (sym same) refl;
    }
