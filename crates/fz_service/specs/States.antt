-- What a service was opened with, and the model of the state under its lock.
-- code: fz_service/src/locked.rt, calls.rt, service.rt, opening.rt
use Rattle.std.specs.Prelude.{◌≡◌, ℕ, ◌+◌, ◌*◌, ◌%◌, ◌^◌, ◌<◌, ◌≤◌, min, Bool, true, false, IsTrue, IsFalse, not, List, [], length, take, filter, Some, Contains, Result, OnOk, OnErr, refl}
use Rattle.std.specs.Coded.{Coded, code_by, coded×, coded_ℕ, coded_list}
use Rattle.std.specs.FinMap.{get}
use Rattle.fz_model.specs.declared.answers.Entry.{Entry}
use Rattle.fz_model.specs.declared.call.Call.{Call}
use Rattle.fz_model.specs.declared.call.Call.TheVariants.{Pause, Collect}
use Rattle.fz_model.specs.declared.call.Reply.{Reply}
use Rattle.fz_model.specs.declared.refusal.Refusal.{Refusal}
use Rattle.fz_model.specs.declared.limits.TheConstants.{BLOCK_WORDS, TABLE_LIMIT}
use Rattle.fz_model.specs.Codes.{entry_code}
use Rattle.fz_model.specs.State.{Object, State, opening}
use Rattle.fz_model.specs.Events.{Event, same_entry}
use Rattle.fz_model.specs.Steps.{StepsTo, any_call}
use Rattle.fz_model.specs.Joint.{is_finish}
use Rattle.fz_line.specs.States.{Line, SeatState, OwnerState, owner_state}
use Rattle.fz_world.specs.World.{WorldView, world_code}
use Rattle.fz_world.specs.Does.{StandsFor}
use Rattle.fz_world.specs.Replies.{Replies}

-- what distinguishes a service from every other, and what it was opened with
pub record Origin : Type 0 where
  pub line : Line
  pub workers : ℕ
  pub finishes : ℕ  -- the name of its ledger of finished duties
  pub blocks : ℕ
  pub frames : ℕ

-- for how many entries the line has room from the start: as many as one pass can queue, since each object has a word
abbrev pub line_room : ℕ → ℕ
line_room blocks = min TABLE_LIMIT (BLOCK_WORDS * blocks)

pub record LockedState : Type 0 where
  pub world : WorldView
  pub sent : List Entry  -- the entries that the line was sent, as its owner knows
  pub published : ℕ  -- the number of entries that were sent, which is kept beside the world
  pub finished : ℕ  -- the number of finished duties, by the ledger
  pub shortages : ℕ  -- how often a push or an end ran out of memory, modulo 2^64

-- the count with one shortage more
abbrev pub one_more : ℕ → ℕ
one_more shortages = (shortages + 1) % 2 ^ 64

abbrev pub locked_state : WorldView → List Entry → ℕ → ℕ → ℕ → LockedState
locked_state world sent published finished shortages = record { world = world; sent = sent; published = published; finished = finished; shortages = shortages }

abbrev pub locked_code : Coded LockedState
locked_code =
    code_by (WorldView × (List Entry × (ℕ × (ℕ × ℕ)))) (coded× world_code (coded× (coded_list entry_code) (coded× coded_ℕ (coded× coded_ℕ coded_ℕ))))
    (λ s. (s.world, (s.sent, (s.published, (s.finished, s.shortages)))))
    (λ p. record { world = p.0; sent = p.1.0; published = p.1.1.0; finished = p.1.1.1.0; shortages = p.1.1.1.1 }) (λ _. refl)

-- the world represents a state that steps reach from the opening
pub record IsReachedFrom (origin : Origin) (world : WorldView) : Type 0 where
  pub state : State
  pub steps : StepsTo any_call (opening origin.blocks origin.frames) state
  pub stands : StandsFor world state

-- the invariant whenever the lock is taken
pub record IsInOrder (origin : Origin) (s : LockedState) : Type 0 where
  pub reached : IsReachedFrom origin s.world
  -- the entries sent are a prefix of the queue, and the overflow queue is the rest
  pub sent : s.sent ≡ take s.published s.world.queue
  pub within : s.published ≤ length s.world.queue
  -- entries that weren't sent aren't forgotten
  pub forgotten : s.world.forgotten ≤ s.published
  -- entries that are no longer held were finished
  pub finished : s.finished + length s.world.held ≡ length s.world.queue

-- the owner sends to the service's line and has popped nothing, and every share of the ledger was distributed. Means only.
pub record IsReady (origin : Origin) (owner : OwnerState) (parts amount : ℕ) : Type 0 where
  pub owner_is : owner ≡ owner_state origin.line origin.workers (line_room origin.blocks) owner.sent []
  pub no_parts : parts ≡ 0
  pub no_amount : amount ≡ 0

-- nothing but the world may have changed
abbrev pub KeepsLine : LockedState → LockedState → Type 0
KeepsLine old new = new ≡ record old { world = new.world }

-- the calls that end a cycle, after which what they queued is sent
abbrev pub ends_cycle : Call → Bool
ends_cycle Pause = true
ends_cycle Collect = true
ends_cycle _ = false

-- the queue may have grown, all of it was sent, and nothing else has changed; entries wait in the overflow queue only if a push ran out of memory, which
-- counts as one shortage, and which doesn't happen within the room of the line
pub record SendsMore (origin : Origin) (old new : LockedState) : Type 0 where
  pub same : new ≡ record old { world = new.world; sent = new.sent; published = new.published; shortages = new.shortages }
  pub more : old.published ≤ new.published
  pub all : new.published ≡ length new.world.queue → new.shortages ≡ old.shortages
  pub short : new.published < length new.world.queue → new.shortages ≡ one_more old.shortages
  pub room : new.published < length new.world.queue → line_room origin.blocks ≤ new.published

-- the world made the call, and what it queued was sent; a refused call changed nothing
pub record RepliesAndSends (origin : Origin) (old : LockedState) (call : Call) (result : Result Reply Refusal) (new : LockedState) : Type 0 where
  pub step : Replies old.world call result new.world
  pub line : IsFalse (ends_cycle call) → KeepsLine old new
  pub sent : IsTrue (ends_cycle call) → OnOk result (SendsMore origin old new)
  pub refused : OnErr result (new ≡ old)

-- the entry was held, and its object had its birth; now the entry is no longer held
pub record LetsGo (old new : WorldView) (entry : Entry) : Type 0 where
  pub held : Contains old.held entry
  pub object : (o : Object) × (get old.objects entry.obj ≡ Some o) × (o.birth ≡ entry.birth)
  pub gone : new.held ≡ filter (λ other. not (same_entry entry other)) old.held

abbrev pub is_no_finish : Event → Bool
is_no_finish e = not (is_finish e)

-- calls other than `finish` lead from the old world to the new one, and nothing is forgotten
unfoldable pub RunsCalls : WorldView → WorldView → Type 0
RunsCalls old new = (new.forgotten ≡ old.forgotten) × ((s : State) → StandsFor old s → (t : State) × StepsTo is_no_finish s t × StandsFor new t)

-- a seat of this line that has finished nothing
abbrev pub IsNewAt : Line → SeatState → Type 0
IsNewAt line seat = (seat.line ≡ line) × (seat.finished ≡ 0)
