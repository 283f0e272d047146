-- A call by an address is, for each slot that holds it, the step of the call by this slot.
use Rattle.std.proofs.Common.{◌≡◌, ◌+◌, ◌++◌, ℕ, Bool, List, [], None, Some, true, false, if◌then◌else◌, Option, Result, Ok, Err, IsErrAnd, refl, sym, ap, subst, ◌∙◌, inl, IsFalse, IsTrue}
use Rattle.std.proofs.lemmas.Bool.{true≢false}
use Rattle.std.specs.FinMap.{get, contains_key, insert, remove}
use Rattle.std.specs.Option.{IsNone}
use Rattle.fz_model.specs.declared.answers.LinkAnswer.{LinkAnswer}
use Rattle.fz_model.specs.declared.answers.MoveAnswer.{MoveAnswer}
use Rattle.fz_model.specs.declared.answers.Old.{Old}
use Rattle.fz_model.specs.declared.answers.RegAnswer.{RegAnswer}
use Rattle.fz_model.specs.declared.answers.RegAnswer.TheVariants.{Outside, Number}
use Rattle.fz_model.specs.declared.call.Call.TheVariants.{Register, Unregister, Link, Unlink, Move}
use Rattle.fz_model.specs.declared.finalizer.Finalizer.{Finalizer}
use Rattle.fz_model.specs.declared.kinds.LinkKind.{LinkKind}
use Rattle.fz_model.specs.declared.places.Slot.{Slot}
use Rattle.fz_model.specs.declared.refusal.Refusal.{Refusal}
use Rattle.fz_model.specs.declared.refusal.Refusal.TheVariants.{BadSlot, NotPointer, NotStart, NoMemory}
use Rattle.fz_model.specs.State.{Map, Object, Core}
use Rattle.fz_model.specs.Causes.{Causes, IsRefusedFor, IsJudgedBy, IsJudgedOrLacks, first_cause, no_object, no_start, slot_causes, place_causes, start_causes, register_causes, is_off_heap}
use Rattle.fz_model.specs.Events as model
use Rattle.fz_model.specs.Events.{Event, Make, causes}
use Rattle.fz_model.specs.Memory.{lacks_slot, slot_word}
use Rattle.fz_model.specs.Steps as steps
use Rattle.fz_model.specs.Steps.{old_of, registration_of, move_answer, moved_to}
use Rattle.fz_model.proofs.Judged.{judged_more}
use Rattle.fz_finalizers.specs.States.{State, View, Memory, links_of, with_links}
use Rattle.fz_table.specs.Registers.{Registers}
use Rattle.fz_world.specs.declared.world.World.TheInside.{Inside}
use Rattle.fz_world.specs.Addresses.{with_frames, ByAddress, ByAddresses, Unregisters, Links, Unlinks, Moves}
use Rattle.fz_world.specs.Does.{Does}
use Rattle.fz_world.specs.Links.{LinksTo, end_causes, two_place_causes}
use Rattle.fz_world.specs.Registering.{RegistersFinalizer, registered_in, with_registered}
use Rattle.fz_world.specs.World.{WorldView, core_of, view_of}
use Rattle.fz_world.proofs.Does.{does_accepted, hands_on, judged_on, link_refused, start_refused, table_refuses, registers_nothing}
use Rattle.fz_world.proofs.Inside.{core_inside}
use Rattle.fz_world.proofs.Linking.{links_in_core, core_relinked, links_does}

-- the call by a slot is the call by the address that it holds
pub by_slot : (old new : WorldView) (address : ℕ) (BySlot : WorldView → Slot → WorldView → Type 0) → ByAddress old address new BySlot → new.frames ≡ old.frames → (slot : Slot) → IsFalse (lacks_slot old.frames slot) → slot_word old.frames slot ≡ address → BySlot old slot new
by_slot old new address BySlot by same slot there at = subst (λ frames. BySlot old slot (with_frames new frames)) (sym same) (by old.frames slot there at)

pub by_slots : (old new : WorldView) (first second : ℕ) (BySlots : WorldView → Slot → Slot → WorldView → Type 0) → ByAddresses old first second new BySlots → new.frames ≡ old.frames
    → (one other : Slot) → IsFalse (lacks_slot old.frames one) → slot_word old.frames one ≡ first → IsFalse (lacks_slot old.frames other) → slot_word old.frames other ≡ second → BySlots old one other new
by_slots old new first second BySlots by same one other there at there_too at_too = subst (λ frames. BySlots old one other (with_frames new frames)) (sym same) (by old.frames one other there at there_too at_too)

pub slot_stands : (frames : List (List ℕ)) (slot : Slot) → IsFalse (lacks_slot frames slot) → first_cause (slot_causes frames slot) ≡ None
slot_stands frames slot there = ap (λ b. if b then Some BadSlot else None) there

-- no cause of a start is out of memory
start_has_memory : (objects : Map Object) (address : ℕ) (r : Refusal) → first_cause (start_causes objects address) ≡ Some r → r ≡ NoMemory → ⊥
start_has_memory objects address r h is = by (no_object objects address).0 (no_start objects address).0 h
  where
    other : Option Refusal → Bool
    other (Some NoMemory) = false
    other _ = true

    by : (a b : Bool) → (if a then Some NotPointer else (if b then Some NotStart else None)) ≡ Some r → ⊥
    by true b h = true≢false (ap other (h ∙ ap Some is))
    by false true h = true≢false (ap other (h ∙ ap Some is))
    by false false h = true≢false (ap other (h ∙ ap Some is))

-- a refusal that is returned as it is by a call that may lack memory is judged as it was
judged_or_lacks_on : {A : Type 0} → (causes : Causes) (reply : Result A Refusal) (r : Refusal) → first_cause causes ≡ Some r → IsErrAnd reply (λ x. x ≡ r) → IsJudgedOrLacks causes reply
judged_or_lacks_on causes (Err x) r h is = inl (h ∙ ap Some (sym is))
judged_or_lacks_on causes (Ok answer) r h is = absurd is

-- the parts of a world with other frames
abbrev pub framed : Inside → List (List ℕ) → Inside
framed w frames = record w { frames = frames }

module _ (w : Inside) where
  abbrev pub before : WorldView
  before = view_of (core_inside w) w.marked.marker w.dirty w.finalizers.memory

  abbrev pub after : View → WorldView
  after new = view_of (core_of w.marked.heap w.frames new.state w.closed w.cycle) w.marked.marker w.dirty new.memory

module _ (w : Inside) (slot : Slot) (there : IsFalse (lacks_slot w.frames slot)) (address : ℕ) (at : slot_word w.frames slot ≡ address) where
  stands : first_cause (slot_causes w.frames slot) ≡ None
  stands = slot_stands w.frames slot there

  off_at : (b : Bool) → is_off_heap w.marked.heap.blocks address ≡ b → is_off_heap w.marked.heap.blocks (slot_word w.frames slot) ≡ b
  off_at b off = ap (is_off_heap w.marked.heap.blocks) at ∙ off

  -- ---- a registration is removed

  removing : (b : Bool) → is_off_heap w.marked.heap.blocks address ≡ b → first_cause (causes (core_inside w) (Make (Unregister slot))) ≡ first_cause (if b then [] else start_causes w.marked.heap.objects address)
  removing b off =
      judged_more (slot_causes w.frames slot) (if is_off_heap w.marked.heap.blocks (slot_word w.frames slot) then [] else start_causes w.marked.heap.objects (slot_word w.frames slot)) stands
      ∙ (λ i. first_cause (if off_at b off i then [] else start_causes w.marked.heap.objects (at i)))

  pub unregisters_nothing : is_off_heap w.marked.heap.blocks address ≡ true → Unregisters (Ok None) (before w) slot (before w)
  unregisters_nothing off =
      let none = removing true off in
      let s = w.finalizers.state in
      let word = slot_word w.frames slot in
      let core : Core = core_inside w in
      let answer : None ≡ (if is_off_heap w.marked.heap.blocks word then None else old_of s.registrations word) = ap (λ b. if b then None else old_of s.registrations word) (sym (off_at true off)) in
      let same : core ≡ (if is_off_heap w.marked.heap.blocks word then core else record core { registrations = remove s.registrations word }) =
      ap (λ b. if b then core else record core { registrations = remove s.registrations word }) (sym (off_at true off)) in
      (does_accepted (before w) (before w) (Make (Unregister slot)) None refl tt none (answer, same) refl refl refl, none)

  pub unregister_refused : (r : Refusal) (result : Result (Option Old) Refusal) → IsErrAnd result (λ x. x ≡ r) → is_off_heap w.marked.heap.blocks address ≡ false → first_cause (start_causes w.marked.heap.objects address) ≡ Some r → Unregisters result (before w) slot (before w)
  unregister_refused r result is off h =
      let refused = removing false off ∙ h in
      (hands_on (before w) (Make (Unregister slot)) result r refused is, judged_on (causes (core_inside w) (Make (Unregister slot))) result r refused is)

  pub unregisters : (new : View) (answer : Option Old) → is_off_heap w.marked.heap.blocks address ≡ false → first_cause (start_causes w.marked.heap.objects address) ≡ None
      → answer ≡ old_of w.finalizers.registrations address → new.state ≡ record w.finalizers.state { registrations = remove w.finalizers.registrations address } → new.memory ≡ w.finalizers.memory
      → Unregisters (Ok answer) (before w) slot (after w new)
  unregisters new answer off starts is_answer removed memory =
      let none = removing false off ∙ starts in
      let s = w.finalizers.state in
      let word = slot_word w.frames slot in
      let core : Core = core_inside w in
      let told : answer ≡ (if is_off_heap w.marked.heap.blocks word then None else old_of s.registrations word) =
      is_answer ∙ ap (old_of s.registrations) (sym at) ∙ ap (λ b. if b then None else old_of s.registrations word) (sym (off_at false off)) in
      let left : core_of w.marked.heap w.frames new.state w.closed w.cycle ≡ (if is_off_heap w.marked.heap.blocks word then core else record core { registrations = remove s.registrations word }) =
      ap (λ (t : State). core_of w.marked.heap w.frames t w.closed w.cycle) removed
      ∙ ap (λ a. record core { registrations = remove s.registrations a }) (sym at)
      ∙ ap (λ b. if b then core else record core { registrations = remove s.registrations word }) (sym (off_at false off)) in
      (does_accepted (before w) (after w new) (Make (Unregister slot)) answer refl tt none (told, left) refl refl (ap (λ (m : Memory). m.forgotten) memory), none)

  -- ---- an object is registered

  registering : (b : Bool) (finalizer : Finalizer) → is_off_heap w.marked.heap.blocks address ≡ b
      → first_cause (causes (core_inside w) (Make (Register slot finalizer))) ≡ first_cause (if b then [] else start_causes w.marked.heap.objects address ++ register_causes w.finalizers.registrations w.finalizers.next_number address)
  registering b finalizer off =
      let word = slot_word w.frames slot in
      let rest : ℕ → Causes = λ a. start_causes w.marked.heap.objects a ++ register_causes w.finalizers.registrations w.finalizers.next_number a in
      judged_more (slot_causes w.frames slot) (if is_off_heap w.marked.heap.blocks word then [] else rest word) stands
      ∙ (λ i. first_cause (if off_at b off i then [] else rest (at i)))

  pub registers_outside : (finalizer : Finalizer) → is_off_heap w.marked.heap.blocks address ≡ true → RegistersFinalizer (before w) slot finalizer (Ok Outside) (before w)
  registers_outside finalizer off =
      let none = registering true finalizer off in
      let s = w.finalizers.state in
      let word = slot_word w.frames slot in
      let core : Core = core_inside w in
      let made : Core = record core { registrations = insert s.registrations word (registration_of s.next_number finalizer); next_number = s.next_number + 1 } in
      let answer : Outside ≡ (if is_off_heap w.marked.heap.blocks word then Outside else Number s.next_number (old_of s.registrations word)) =
      ap (λ b. if b then Outside else Number s.next_number (old_of s.registrations word)) (sym (off_at true off)) in
      let same : core ≡ (if is_off_heap w.marked.heap.blocks word then core else made) = ap (λ b. if b then core else made) (sym (off_at true off)) in
      record {
        step = does_accepted (before w) (before w) (Make (Register slot finalizer)) Outside refl tt none (answer, same) refl refl refl;
        caused = none;
        refused = tt;
        inside = tt;
        growth = tt;
        marks = refl;
      }

  pub register_refused : (finalizer : Finalizer) (r : Refusal) (result : Result RegAnswer Refusal) → IsErrAnd result (λ x. x ≡ r) → is_off_heap w.marked.heap.blocks address ≡ false → first_cause (start_causes w.marked.heap.objects address) ≡ Some r → RegistersFinalizer (before w) slot finalizer result (before w)
  register_refused finalizer r result is off h =
      let inside = off_at false off in
      let refused = start_refused (core_inside w) slot finalizer r stands inside (ap (λ a. first_cause (start_causes w.marked.heap.objects a)) at ∙ h) in
      registers_nothing (before w) (before w) slot finalizer r result is (inl refused) refl (λ _. inside) (λ lacking. absurd (start_has_memory w.marked.heap.objects address r h lacking))

  -- what the table does with the start of an object
  module _ (finalizer : Finalizer) (mid new : View) (inside : is_off_heap w.marked.heap.blocks address ≡ false) (starts : first_cause (start_causes w.marked.heap.objects address) ≡ None)
      (roomier : mid.state ≡ w.finalizers.state) (same : new.state ≡ with_registered mid.state (registered_in new.state)) (memory : new.memory ≡ w.finalizers.memory) where
    starts_at : first_cause (start_causes w.marked.heap.objects (slot_word w.frames slot)) ≡ None
    starts_at = ap (λ a. first_cause (start_causes w.marked.heap.objects a)) at ∙ starts

    pub enroll_refused : (r : Refusal) (result : Result RegAnswer Refusal) → IsErrAnd result (λ x. x ≡ r) → Registers (registered_in mid.state) address finalizer (Err r) (registered_in new.state) → RegistersFinalizer (before w) slot finalizer result (after w new)
    enroll_refused r result is_err is =
        let s = w.finalizers.state in
        let judged = subst (λ (t : State). IsRefusedFor (register_causes t.registrations t.next_number address) true r) roomier is.judged in
        let refused = table_refuses (core_inside w) slot finalizer r stands (off_at false inside) starts_at (subst (λ a. IsRefusedFor (register_causes s.registrations s.next_number a) true r) (sym at) judged) in
        let still : new.state ≡ s = same ∙ ap (with_registered mid.state) is.unchanged ∙ roomier in
        registers_nothing (before w) (after w new) slot finalizer r result is_err refused (λ i. view_of (core_of w.marked.heap w.frames (still i) w.closed w.cycle) w.marked.marker w.dirty (memory i)) (λ _. off_at false inside)
        (λ lacking. subst (λ a. IsNone (get s.registrations a)) (sym at) (subst (λ (t : State). IsNone (get t.registrations address)) roomier (is.growth lacking)))

    pub enrolled : (answer : ℕ × Option Old) → Registers (registered_in mid.state) address finalizer (Ok answer) (registered_in new.state) → RegistersFinalizer (before w) slot finalizer (Ok (Number answer.0 answer.1)) (after w new)
    enrolled answer is =
        let s = w.finalizers.state in
        let word = slot_word w.frames slot in
        let core : Core = core_inside w in
        let made : ℕ → Core = λ a. record core { registrations = insert s.registrations a (registration_of s.next_number finalizer); next_number = s.next_number + 1 } in
        let none : first_cause (causes core (Make (Register slot finalizer))) ≡ None =
        registering false finalizer inside ∙ judged_more (start_causes w.marked.heap.objects address) (register_causes s.registrations s.next_number address) starts
        ∙ subst (λ (t : State). first_cause (register_causes t.registrations t.next_number address) ≡ None) roomier is.judged in
        let numbered : answer.0 ≡ s.next_number = is.number ∙ ap (λ (t : State). t.next_number) roomier in
        let replaced : answer.1 ≡ old_of s.registrations word = is.replaced ∙ ap (λ (t : State). old_of t.registrations address) roomier ∙ ap (old_of s.registrations) (sym at) in
        let told : Number answer.0 answer.1 ≡ (if is_off_heap w.marked.heap.blocks word then Outside else Number s.next_number (old_of s.registrations word)) =
        (λ i. Number (numbered i) (replaced i)) ∙ ap (λ b. if b then Outside else Number s.next_number (old_of s.registrations word)) (sym (off_at false inside)) in
        let tabled : new.state ≡ with_registered s (record { registrations = insert s.registrations address (registration_of s.next_number finalizer); next_number = s.next_number + 1 }) =
        same ∙ ap (with_registered mid.state) is.registered
        ∙ ap (λ (t : State). with_registered t (record { registrations = insert t.registrations address (registration_of t.next_number finalizer); next_number = t.next_number + 1 })) roomier in
        let made_so : core_of w.marked.heap w.frames new.state w.closed w.cycle ≡ (if is_off_heap w.marked.heap.blocks word then core else made word) =
        ap (λ (t : State). core_of w.marked.heap w.frames t w.closed w.cycle) tabled ∙ ap made (sym at) ∙ ap (λ b. if b then core else made word) (sym (off_at false inside)) in
        record {
          step = does_accepted (before w) (after w new) (Make (Register slot finalizer)) (Number answer.0 answer.1) refl tt none (told, made_so) refl refl (ap (λ (m : Memory). m.forgotten) memory);
          caused = none;
          refused = tt;
          inside = tt;
          growth = tt;
          marks = ap (λ (m : Memory). view_of (core_of w.marked.heap w.frames new.state w.closed w.cycle) w.marked.marker w.dirty (record m { remembered = new.memory.remembered })) memory;
        }

  -- ---- a link is removed

  module _ (which : LinkKind) (offset : ℕ) where
    abbrev link_call : Event
    link_call = Make (Unlink which (record { slot = slot; offset = offset }))

    unlinking : first_cause (causes (core_inside w) link_call) ≡ first_cause (place_causes w.marked.heap.objects address offset)
    unlinking = judged_more (slot_causes w.frames slot) (place_causes w.marked.heap.objects (slot_word w.frames slot) offset) stands ∙ ap (λ a. first_cause (place_causes w.marked.heap.objects a offset)) at

    pub unlink_refused : (r : Refusal) (result : Result Bool Refusal) → IsErrAnd result (λ x. x ≡ r) → first_cause (place_causes w.marked.heap.objects address offset) ≡ Some r → Unlinks which offset result (before w) slot (before w)
    unlink_refused r result is h = let refused = unlinking ∙ h in (hands_on (before w) link_call result r refused is, judged_on (causes (core_inside w) link_call) result r refused is)

    pub unlinks : (new : View) (link : ℕ) (answer : Bool) → first_cause (place_causes w.marked.heap.objects address offset) ≡ None → link ≡ address + offset → answer ≡ contains_key (links_of w.finalizers.state which) link
        → new.state ≡ with_links w.finalizers.state which (remove (links_of w.finalizers.state which) link) → new.memory ≡ w.finalizers.memory → Unlinks which offset (Ok answer) (before w) slot (after w new)
    unlinks new link answer free place is_answer removed memory =
        let s = w.finalizers.state in
        let core : Core = core_inside w in
        let at_is : link ≡ slot_word w.frames slot + offset = place ∙ ap (λ a. a + offset) (sym at) in
        let same = links_in_core w.marked.heap w.frames w.closed w.cycle s which in
        let none : first_cause (causes core link_call) ≡ None = unlinking ∙ free in
        let told : answer ≡ contains_key (model.links_of core which) (slot_word w.frames slot + offset) = is_answer ∙ (λ i. contains_key (same i) (at_is i)) in
        let left : core_of w.marked.heap w.frames new.state w.closed w.cycle ≡ steps.with_links core which (remove (model.links_of core which) (slot_word w.frames slot + offset)) =
        core_relinked w.marked.heap w.frames w.closed w.cycle s new.state which (remove (links_of s which) link) removed ∙ (λ i. steps.with_links core which (remove (same i) (at_is i))) in
        (does_accepted (before w) (after w new) link_call answer refl tt none (told, left) refl refl (ap (λ (m : Memory). m.forgotten) memory), none)

-- ---- a link is made or moved, by two slots

module _ (w : Inside) (slot other : Slot) (there : IsFalse (lacks_slot w.frames slot)) (address : ℕ) (at : slot_word w.frames slot ≡ address) (there_too : IsFalse (lacks_slot w.frames other)) (second : ℕ) (at_too : slot_word w.frames other ≡ second)
    (which : LinkKind) (offset : ℕ) where
  both_stand : (rest : Causes) → first_cause (slot_causes w.frames slot ++ (slot_causes w.frames other ++ rest)) ≡ first_cause rest
  both_stand rest = judged_more (slot_causes w.frames slot) (slot_causes w.frames other ++ rest) (slot_stands w.frames slot there) ∙ judged_more (slot_causes w.frames other) rest (slot_stands w.frames other there_too)

  linking : first_cause (slot_causes w.frames slot ++ (slot_causes w.frames other ++ end_causes w.marked.heap.objects (slot_word w.frames slot) offset (slot_word w.frames other))) ≡ first_cause (end_causes w.marked.heap.objects address offset second)
  linking = both_stand (end_causes w.marked.heap.objects (slot_word w.frames slot) offset (slot_word w.frames other)) ∙ (λ i. first_cause (end_causes w.marked.heap.objects (at i) offset (at_too i)))

  pub link_refused_at : (r : Refusal) (result : Result LinkAnswer Refusal) → IsErrAnd result (λ x. x ≡ r) → first_cause (end_causes w.marked.heap.objects address offset second) ≡ Some r → Links which offset result (before w) slot other (before w)
  link_refused_at r result is h =
      let call : Event = Make (Link which (record { slot = slot; offset = offset }) other) in
      let refused = link_refused (core_inside w) which slot.frame slot.slot offset other.frame other.slot r (linking ∙ h) in
      (hands_on (before w) call result r refused is, judged_or_lacks_on (causes (core_inside w) call) result r refused is)

  pub links_at : (mid new : View) (link : ℕ) (result : Result LinkAnswer Refusal) → first_cause (end_causes w.marked.heap.objects address offset second) ≡ None → link ≡ address + offset → mid.state ≡ w.finalizers.state → new.memory ≡ w.finalizers.memory
      → new.state ≡ with_links mid.state which (links_of new.state which) → LinksTo (links_of mid.state which) link second result (links_of new.state which) → Links which offset result (before w) slot other (after w new)
  links_at mid new link result free place roomier memory same is =
      links_does w which slot.frame slot.slot offset other.frame other.slot mid new roomier memory (linking ∙ free) link second (place ∙ ap (λ a. a + offset) (sym at)) (sym at_too) same result is

  module _ (to_offset : ℕ) where
    abbrev move_call : Event
    move_call = Make (Move which (record { slot = slot; offset = offset }) (record { slot = other; offset = to_offset }))

    moving : first_cause (causes (core_inside w) move_call) ≡ first_cause (two_place_causes w.marked.heap.objects address offset second to_offset)
    moving = both_stand (two_place_causes w.marked.heap.objects (slot_word w.frames slot) offset (slot_word w.frames other) to_offset) ∙ (λ i. first_cause (two_place_causes w.marked.heap.objects (at i) offset (at_too i) to_offset))

    pub move_refused : (r : Refusal) (result : Result MoveAnswer Refusal) → IsErrAnd result (λ x. x ≡ r) → first_cause (two_place_causes w.marked.heap.objects address offset second to_offset) ≡ Some r → Moves which offset to_offset result (before w) slot other (before w)
    move_refused r result is h = let refused = moving ∙ h in (hands_on (before w) move_call result r refused is, judged_on (causes (core_inside w) move_call) result r refused is)

    pub moves : (new : View) (from to : ℕ) (answer : MoveAnswer) → first_cause (two_place_causes w.marked.heap.objects address offset second to_offset) ≡ None → from ≡ address + offset → to ≡ second + to_offset
        → answer ≡ move_answer (links_of w.finalizers.state which) from to → new.state ≡ with_links w.finalizers.state which (moved_to (links_of w.finalizers.state which) from to (get (links_of w.finalizers.state which) from))
        → new.memory ≡ w.finalizers.memory → Moves which offset to_offset (Ok answer) (before w) slot other (after w new)
    moves new from to answer free first_is second_is is_answer moved memory =
        let s = w.finalizers.state in
        let core : Core = core_inside w in
        let from_is : from ≡ slot_word w.frames slot + offset = first_is ∙ ap (λ a. a + offset) (sym at) in
        let to_is : to ≡ slot_word w.frames other + to_offset = second_is ∙ ap (λ a. a + to_offset) (sym at_too) in
        let same = links_in_core w.marked.heap w.frames w.closed w.cycle s which in
        let none : first_cause (causes core move_call) ≡ None = moving ∙ free in
        let told : answer ≡ move_answer (model.links_of core which) (slot_word w.frames slot + offset) (slot_word w.frames other + to_offset) = is_answer ∙ (λ i. move_answer (same i) (from_is i) (to_is i)) in
        let left : core_of w.marked.heap w.frames new.state w.closed w.cycle ≡ steps.with_links core which (moved_to (model.links_of core which) (slot_word w.frames slot + offset) (slot_word w.frames other + to_offset) (get (model.links_of core which) (slot_word w.frames slot + offset))) =
        core_relinked w.marked.heap w.frames w.closed w.cycle s new.state which (moved_to (links_of s which) from to (get (links_of s which) from)) moved
        ∙ (λ i. steps.with_links core which (moved_to (same i) (from_is i) (to_is i) (get (same i) (from_is i)))) in
        (does_accepted (before w) (after w new) move_call answer refl tt none (told, left) refl refl (ap (λ (m : Memory). m.forgotten) memory), none)
