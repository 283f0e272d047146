-- The content of a cache, and its invariant between calls.
-- code: weak_cache/src/cache.rt
use Rattle.std.specs.Prelude.{◌≡◌, ℕ, ◌+◌, ◌<◌, ◌⊎◌, true, Option, Some, None, Result, Ok, Err, length, slice_get, unwrap_or, refl}
use Rattle.std.specs.Coded.{Coded, code_by, coded×, coded_ℕ}
use Rattle.std.specs.FinMap.{get, empty}
use Rattle.fz_model.specs.declared.answers.LinkAnswer.{LinkAnswer}
use Rattle.fz_model.specs.declared.answers.RegAnswer.{RegAnswer}
use Rattle.fz_model.specs.declared.refusal.Refusal.{Refusal}
use Rattle.fz_model.specs.declared.kinds.ObjKind.TheVariants.{Atomic}
use Rattle.fz_model.specs.declared.kinds.LinkKind.TheVariants.{Short}
use Rattle.fz_model.specs.declared.kinds.RegKind.TheVariants.{Normal}
use Rattle.fz_model.specs.declared.call.Call.TheVariants.{Alloc, Link, Register, Store}
use Rattle.fz_model.specs.Places.{slot_at, place_at, finalizer_of}
use Rattle.fz_model.specs.Causes.{Causes, first_cause, IsRefusedFor, alloc_causes}
use Rattle.fz_model.specs.Events.{Make}
use Rattle.fz_model.specs.State.{Object, Core, State, opening}
use Rattle.fz_model.specs.Memory.{slot_word}
use Rattle.fz_model.specs.Steps.{IsReached}
use Rattle.fz_world.specs.World.{WorldView, world_code}
use Rattle.fz_world.specs.Does.{Does, StandsFor, open_causes}
use Rattle.weak_cache.specs.declared.cache.TheConstants.{LIST, HAND}

pub record CacheView : Type 0 where
  pub keys : ℕ
  pub world : WorldView

abbrev pub cache_code : Coded CacheView
cache_code = code_by (ℕ × WorldView) (coded× coded_ℕ world_code) (λ c. (c.keys, c.world)) (λ p. record { keys = p.0; world = p.1 }) (λ _. refl)

-- the address of the list, and of the current object
abbrev pub list_in : Core → ℕ
list_in c = slot_word c.frames (slot_at 0 LIST)

abbrev pub in_hand : CacheView → ℕ
in_hand cache = slot_word cache.world.frames (slot_at 0 HAND)

-- the object cached under a key: the target of the short link at the key's word in the list
abbrev pub cached_in : Core → ℕ → Option ℕ
cached_in c key = get c.short (list_in c + key)

abbrev pub cached : CacheView → ℕ → Option ℕ
cached cache key = cached_in cache.world.core key

-- the same objects are cached under the same keys
abbrev pub SameIn : Core → Core → Type 0
SameIn c d = (key : ℕ) → cached_in d key ≡ cached_in c key

unfoldable pub KeepsCached : WorldView → WorldView → Type 0
KeepsCached old new = SameIn old.core new.core

-- the causes for which allocating a list with one word for each key fails in a new heap
abbrev pub list_causes : ℕ → ℕ → Causes
list_causes blocks keys = alloc_causes empty blocks 0 keys Atomic

-- a world of this many blocks and its list were created; or opening the world failed; or allocating the list failed
abbrev pub IsOpenedFor : {A : Type 0} → (blocks keys : ℕ) → Result A Refusal → Type 0
IsOpenedFor blocks keys (Ok cache) = (first_cause (open_causes blocks 1) ≡ None) × (first_cause (list_causes blocks keys) ≡ None)
IsOpenedFor blocks keys (Err r) = IsRefusedFor (open_causes blocks 1) true r ⊎ ((first_cause (open_causes blocks 1) ≡ None) × (first_cause (list_causes blocks keys) ≡ Some r))

-- in a new world of this many blocks the list is allocated
abbrev pub Opens : (blocks keys : ℕ) → WorldView → Type 0
Opens blocks keys new = (first : WorldView) × (made : ℕ × ℕ) × StandsFor first (opening blocks 1) × Does first (Make (Alloc (slot_at 0 LIST) keys Atomic)) (Ok made) new

-- an object is allocated and becomes the current one
abbrev pub MakesObject : WorldView → Result (ℕ × ℕ) Refusal → WorldView → Type 0
MakesObject old reply new = Does old (Make (Alloc (slot_at 0 HAND) 1 Atomic)) reply new

-- the current object is registered with this client data
abbrev pub RegistersInHand : WorldView → ℕ → Result RegAnswer Refusal → WorldView → Type 0
RegistersInHand old client_data reply new = Does old (Make (Register (slot_at 0 HAND) (finalizer_of Normal 0 client_data 0))) reply new

-- an object is allocated, becomes the current one, and is registered with this client data
abbrev pub Makes : WorldView → ℕ → WorldView → Type 0
Makes old client_data new = (mid : WorldView) × (made : ℕ × ℕ) × (answer : RegAnswer) × MakesObject old (Ok made) mid × RegistersInHand mid client_data (Ok answer) new

-- one of the two calls failed with this error
abbrev pub MakesNone : WorldView → ℕ → WorldView → Refusal → Type 0
MakesNone old client_data new r = MakesObject old (Err r) new ⊎ ((mid : WorldView) × (made : ℕ × ℕ) × MakesObject old (Ok made) mid × RegistersInHand mid client_data (Err r) new)

-- the word of the key is linked to the current object, and then the object's address is stored there
abbrev pub Puts : WorldView → ℕ → WorldView → Type 0
Puts old key new =
    (mid : WorldView) × (answer : LinkAnswer) × Does old (Make (Link Short (place_at 0 LIST key) (slot_at 0 HAND))) (Ok answer) mid
    × Does mid (Make (Store (place_at 0 LIST key) (slot_at 0 HAND))) (Ok tt) new

-- each word of the list contains the object cached under its key, or zero; there are no long links
pub record IsCache (keys : ℕ) (c : Core) : Type 0 where
  pub list : Object
  pub here : get c.objects (list_in c) ≡ Some list
  pub size : length list.words ≡ keys
  pub words : (key : ℕ) → key < keys → slice_get list.words key ≡ Some (unwrap_or (cached_in c key) 0)
  pub no_long : (place : ℕ) → get c.long place ≡ None

-- the world represents a state that calls reach and in which the cache's invariant holds; no entry was forgotten
pub record IsWhole (keys : ℕ) (world : WorldView) : Type 0 where
  pub state : State
  pub reached : IsReached state
  pub stands : StandsFor world state
  pub shown : world.forgotten ≡ 0
  pub cache : IsCache keys state.core
