-- What C gets: the code, and the content of its variables.
-- code: fz_c/src/world/codes.rt
use Rattle.std.specs.Prelude.{◌≡◌, ℕ, Option, Some, None, Result, Ok, Err, OnErr}
use Rattle.fz_model.specs.declared.refusal.Refusal.{Refusal}
use Rattle.fz_model.specs.Refusals.{code_of}
use Rattle.fz_model.specs.Causes.{IsJudgedBy}
use Rattle.fz_model.specs.Events.{Event, Make, Answer, causes}
use Rattle.fz_model.specs.declared.places.Slot.{Slot}
use Rattle.fz_world.specs.Addresses.{ByAddress, ByAddresses}
use Rattle.fz_world.specs.Does.{Does}
use Rattle.fz_world.specs.Replies.{IsCaused}
use Rattle.fz_world.specs.World.{WorldView}
use Rattle.fz_c.specs.declared.world.codes.TheConstants.{OK, NO_WORLD, EMPTY}
use Rattle.fz_c.specs.Owned.{Held}

-- for a result: 0 and the value, or the number of the refusal, and then C's variables are unchanged
abbrev pub IsTold : {X : Type 0} → Result X Refusal → ℕ → (X → Type 0) → Type 0 → Type 0
IsTold (Ok x) code told kept = (code ≡ OK) × told x
IsTold (Err r) code told kept = (code ≡ code_of r) × kept

-- for an option: 0 and the value, or the code for none
abbrev pub IsFound : {X : Type 0} → Option X → ℕ → (X → Type 0) → Type 0 → Type 0
IsFound (Some x) code told kept = (code ≡ OK) × told x
IsFound None code told kept = (code ≡ EMPTY) × kept

-- refused for the first cause that applies: of the calls in the model only an object's first registration and a new link can run out of memory
abbrev pub IsCausedBy : WorldView → (e : Event) → Result (Answer e) Refusal → Type 0
IsCausedBy old (Make c) reply = IsCaused old c reply
IsCausedBy old e reply = IsJudgedBy (causes old.core e) reply

-- the session's world makes the step, and C gets its reply; a refused call changes nothing, not even marks or dirty pages
pub record Called (old : Held) (e : Event) (new : Held) (code : ℕ) (told : Answer e → Type 0) (kept : Type 0) : Type 0 where
  pub reply : Result (Answer e) Refusal
  pub step : Does old.world e reply new.world
  pub caused : IsCausedBy old.world e reply
  pub refused : OnErr reply (new.world ≡ old.world)
  pub taken : new.taken ≡ old.taken
  pub is_told : IsTold reply code told kept

-- a call through a handle; if the handle has no world, C gets that code and nothing changes
unfoldable pub Calls : Option Held → (e : Event) → Option Held → ℕ → (Answer e → Type 0) → Type 0 → Type 0
Calls (Some old) e (Some new) code told kept = Called old e new code told kept
Calls None e None code told kept = (code ≡ NO_WORLD) × kept
Calls (Some old) e None code told kept = ⊥
Calls None e (Some new) code told kept = ⊥

-- the same of a call that is no event, as one by an address: `Is` says how the world changes
pub record Changed {X : Type 0} (old : Held) (Is : WorldView → Result X Refusal → WorldView → Type 0) (new : Held) (code : ℕ) (told : X → Type 0) (kept : Type 0) : Type 0 where
  pub reply : Result X Refusal
  pub is : Is old.world reply new.world
  pub refused : OnErr reply (new.world ≡ old.world)
  pub taken : new.taken ≡ old.taken
  pub is_told : IsTold reply code told kept

unfoldable pub Changes : {X : Type 0} → Option Held → (WorldView → Result X Refusal → WorldView → Type 0) → Option Held → ℕ → (X → Type 0) → Type 0 → Type 0
Changes (Some old) Is (Some new) code told kept = Changed old Is new code told kept
Changes None Is None code told kept = (code ≡ NO_WORLD) × kept
Changes (Some old) Is None code told kept = ⊥
Changes None Is (Some new) code told kept = ⊥

-- a call by an address, and one by two
abbrev pub by_one : {X : Type 0} → ℕ → (Result X Refusal → WorldView → Slot → WorldView → Type 0) → WorldView → Result X Refusal → WorldView → Type 0
by_one address BySlot old reply new = ByAddress old address new (BySlot reply) × (new.frames ≡ old.frames)

abbrev pub by_two : {X : Type 0} → ℕ → ℕ → (Result X Refusal → WorldView → Slot → Slot → WorldView → Type 0) → WorldView → Result X Refusal → WorldView → Type 0
by_two first second BySlots old reply new = ByAddresses old first second new (BySlots reply) × (new.frames ≡ old.frames)

-- a reader's call through a handle, which changes nothing
unfoldable pub Looks : Option Held → Option Held → ℕ → (Held → Type 0) → Type 0 → Type 0
Looks (Some old) new code told kept = (new ≡ Some old) × told old
Looks None new code told kept = (new ≡ None) × (code ≡ NO_WORLD) × kept

-- the same, for a reader that returns a result or an option of the session
unfoldable pub Reads : {X : Type 0} → Option Held → Option Held → ℕ → (Held → Result X Refusal → Type 0) → (X → Type 0) → Type 0 → Type 0
Reads {X} (Some old) new code Is told kept = (new ≡ Some old) × ((reply : Result X Refusal) × Is old reply × IsTold reply code told kept)
Reads None new code Is told kept = (new ≡ None) × (code ≡ NO_WORLD) × kept

unfoldable pub Finds : {X : Type 0} → Option Held → Option Held → ℕ → (Held → Option X → Type 0) → (X → Type 0) → Type 0 → Type 0
Finds {X} (Some old) new code Is told kept = (new ≡ Some old) × ((found : Option X) × Is old found × IsFound found code told kept)
Finds None new code Is told kept = (new ≡ None) × (code ≡ NO_WORLD) × kept
