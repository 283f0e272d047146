-- What a change does to the finalizers behind a handle, the code that it returns, and what C gets.
-- code: fz_c/src/machine/registering.rt, linking.rt, keying.rt, adding.rt, passing.rt
use Rattle.std.specs.Prelude.{◌≡◌, ◌⊎◌, ℕ, ◌+◌, ◌≤◌, Bool, [], length, None, is_some, option_map, IsTrue}
use Rattle.std.specs.FinMap.{get, len, contains_key, empty}
use Rattle.fz_model.specs.declared.answers.Entry.{Entry}
use Rattle.std.specs.FinSet.{contains}
use Rattle.fz_model.specs.Steps.{move_answer, old_of}
use Rattle.fz_finalizers.specs.declared.cleanups.Cleanup.{Cleanup}
use Rattle.fz_finalizers.specs.declared.kinds.Finalizer.{Finalizer}
use Rattle.fz_finalizers.specs.Causes.{add_causes, register_causes, link_causes, move_causes, finish_causes}
use Rattle.fz_finalizers.specs.Follows.{Event, Follows, Register, Unregister, Link, Unlink, Move, Ephemeron, EndEphemeron, MoveEphemeron, AddCleanup, Cancel, QueueAll, Finish}
use Rattle.fz_pass.specs.All as passes
use Rattle.fz_pass.specs.Keyed as keyed
use Rattle.fz_pass.specs.Keyed.{ephemeron_at, has_ephemeron, of_kind}
use Rattle.fz_finalizers.specs.Passed.{CleansAll}
use Rattle.fz_finalizers.specs.States.{HasRooms, IsRoomier, KeepsTables, links_of, room_of}
use Rattle.fz_machine.specs.Causes.{first_of}
use Rattle.fz_machine.specs.Going.{HasRoomForMore}
use Rattle.fz_machine.specs.Machines.{IsIdle, IsTold, KeepsPass, Machine}
use Rattle.fz_c.specs.declared.machine.codes.TheConstants.{OK}
use Rattle.fz_c.specs.declared.old.Old.{Old}
use Rattle.fz_c.specs.declared.machine.registering.Registered.{Registered}
use Rattle.fz_c.specs.MachineCodes.{Answers, AnswersOrLacks}
use Rattle.fz_c.specs.MachineTold.{TellsRegistered, link_number, move_number, old_of_cleanup}
use Rattle.fz_c.specs.Values.{TellsOld, link_kind_of}

-- the finalizers' state is unchanged, and so is an open pass, with all that is left to ask
abbrev pub Stays : Machine → Machine → Type 0
Stays m n = (n.finalizers.state ≡ m.finalizers.state) × (n.phase ≡ m.phase) × (IsTrue (is_some m.phase) → n ≡ m)

-- the change was made, and no pass is open
abbrev pub Changes : Event → Machine → Machine → Type 0
Changes event m n = IsIdle n × Follows m.finalizers.state event n.finalizers.state

-- the registration is new, and has no room in the table or in the list
abbrev pub LacksToRegister : ℕ → Machine → Type 0
LacksToRegister object m = (get m.finalizers.registrations object ≡ None) × ((m.finalizers.rooms.registrations ≡ 0) ⊎ (m.walk.room ≤ len m.finalizers.registrations))

abbrev pub Registers : ℕ → Finalizer → ℕ → Registered → Registered → Machine → Machine → Type 0
Registers object f code old told m n =
    AnswersOrLacks (first_of m.phase (register_causes m.finalizers.registrations m.finalizers.next_number object)) code
    (Changes (Register object f) m n
    × TellsRegistered m.finalizers.next_number (old_of m.finalizers.registrations object) told)
    (Stays m n × (told ≡ old))
    (LacksToRegister object m)

abbrev pub Unregisters : ℕ → ℕ → Old → Old → Machine → Machine → Type 0
Unregisters object code old told m n =
    Answers (first_of m.phase []) code
    (Changes (Unregister object) m n × TellsOld told (old_of m.finalizers.registrations object))
    ((n ≡ m) × (told ≡ old))

-- the link is new, and has no room among those of its kind or in the list
abbrev pub LacksToLink : Bool → ℕ → Machine → Type 0
LacksToLink is_long word m =
    (get (links_of m.finalizers.state (link_kind_of is_long)) word ≡ None)
    × ((room_of m.finalizers.rooms (link_kind_of is_long) ≡ 0) ⊎ (m.walk.room ≤ len (links_of m.finalizers.state (link_kind_of is_long))))

abbrev pub Links : Bool → ℕ → ℕ → ℕ → ℕ → ℕ → Machine → Machine → Type 0
Links is_long word target code old told m n =
    AnswersOrLacks (first_of m.phase (link_causes (links_of m.finalizers.state (link_kind_of is_long)) word target)) code
    (Changes (Link (link_kind_of is_long) word target) m n
    × (told ≡ link_number (contains_key (links_of m.finalizers.state (link_kind_of is_long)) word)))
    (Stays m n × (told ≡ old))
    (LacksToLink is_long word m)

abbrev pub Unlinks : Bool → ℕ → ℕ → Bool → Bool → Machine → Machine → Type 0
Unlinks is_long word code old told m n =
    Answers (first_of m.phase []) code
    (Changes (Unlink (link_kind_of is_long) word) m n
    × (told ≡ contains_key (links_of m.finalizers.state (link_kind_of is_long)) word))
    ((n ≡ m) × (told ≡ old))

abbrev pub MovesLink : Bool → ℕ → ℕ → ℕ → ℕ → ℕ → Machine → Machine → Type 0
MovesLink is_long word to code old told m n =
    Answers (first_of m.phase (move_causes to)) code
    (Changes (Move (link_kind_of is_long) word to) m n
    × (told ≡ move_number (move_answer (links_of m.finalizers.state (link_kind_of is_long)) word to)))
    (Stays m n × (told ≡ old))

-- only an ephemeron that is new, or changes its kind, can lack memory
abbrev pub MakesEphemeron : Bool → ℕ → ℕ → ℕ → ℕ → ℕ → Machine → Machine → Type 0
MakesEphemeron is_long word key code old told m n =
    AnswersOrLacks (first_of m.phase (link_causes (of_kind m.finalizers.ephemerons (link_kind_of is_long)) word key)) code
    (Changes (Ephemeron (link_kind_of is_long) word key) m n × (told ≡ link_number (has_ephemeron m.finalizers.ephemerons word)))
    (Stays m n × (told ≡ old))
    (get (of_kind m.finalizers.ephemerons (link_kind_of is_long)) word ≡ None)

abbrev pub EndsEphemeron : ℕ → ℕ → Bool → Bool → Machine → Machine → Type 0
EndsEphemeron word code old told m n =
    Answers (first_of m.phase []) code
    (Changes (EndEphemeron word) m n × (told ≡ is_some (ephemeron_at m.finalizers.ephemerons word)))
    ((n ≡ m) × (told ≡ old))

abbrev pub MovesEphemeron : ℕ → ℕ → ℕ → ℕ → ℕ → Machine → Machine → Type 0
MovesEphemeron word to code old told m n =
    Answers (first_of m.phase (move_causes to)) code
    (Changes (MoveEphemeron word to) m n × (told ≡ move_number (keyed.move_answer m.finalizers.ephemerons word to)))
    (Stays m n × (told ≡ old))

-- it is never refused
abbrev pub TellsKey : ℕ → ℕ → Machine → Machine → Type 0
TellsKey key code m n = (code ≡ OK) × IsTold key m n

-- there is no room in the table or in the list
abbrev pub LacksToAdd : Machine → Type 0
LacksToAdd m = (m.finalizers.rooms.cleanups ≡ 0) ⊎ (m.walk.room ≤ len m.finalizers.cleanups)

abbrev pub AddsCleanup : ℕ → Cleanup → ℕ → ℕ → ℕ → Machine → Machine → Type 0
AddsCleanup object c code old told m n =
    AnswersOrLacks (first_of m.phase (add_causes m.finalizers.cleanups m.finalizers.next_number object)) code
    (Changes (AddCleanup object c) m n × (told ≡ m.finalizers.next_number))
    (Stays m n × (told ≡ old))
    (LacksToAdd m)

abbrev pub Cancels : ℕ → ℕ → Old → Old → Machine → Machine → Type 0
Cancels number code old told m n =
    Answers (first_of m.phase []) code
    (Changes (Cancel number) m n × TellsOld told (option_map old_of_cleanup (get m.finalizers.cleanups number)))
    ((n ≡ m) × (told ≡ old))

-- no reserved room is lost
abbrev pub KeepsRoom : Machine → Machine → Type 0
KeepsRoom m n = IsRoomier m.finalizers.rooms n.finalizers.rooms × (m.walk.room ≤ n.walk.room)

abbrev pub Reserves : ℕ → ℕ → ℕ → ℕ → Machine → Machine → Type 0
Reserves registrations shorts longs code m n =
    AnswersOrLacks (first_of m.phase []) code
    (HasRooms n.finalizers.rooms registrations shorts longs × HasRoomForMore m.finalizers.state registrations shorts longs n.walk.room × Stays m n × KeepsRoom m n)
    (Stays m n × KeepsRoom m n)
    (HasRooms m.finalizers.rooms registrations shorts longs → HasRoomForMore m.finalizers.state registrations shorts longs m.walk.room → ⊥)

abbrev pub QueuesAll : ℕ → ℕ → ℕ → Machine → Machine → Type 0
QueuesAll code old told m n =
    Answers (first_of m.phase []) code
    (Changes QueueAll m n
    × passes.QueuesAll (length m.finalizers.queue) m.finalizers.registrations (contains m.finalizers.late) m.finalizers.queue n.finalizers.queue
    × (length n.finalizers.queue ≡ length m.finalizers.queue + told))
    ((n ≡ m) × (told ≡ old))

abbrev pub QueuesCleanups : ℕ → ℕ → ℕ → Machine → Machine → Type 0
QueuesCleanups code old told m n =
    Answers (first_of m.phase []) code
    (IsIdle n × CleansAll m.finalizers.state n.finalizers.state × (n.finalizers.cleanups ≡ empty) × (length n.finalizers.queue ≡ length m.finalizers.queue + told))
    ((n ≡ m) × (told ≡ old))

abbrev pub Finishes : Entry → ℕ → Machine → Machine → Type 0
Finishes e code m n =
    KeepsPass m n
    × Answers (first_of None (finish_causes m.finalizers.held e)) code
    (Follows m.finalizers.state (Finish e) n.finalizers.state)
    (n.finalizers.state ≡ m.finalizers.state)

-- only memory is freed
abbrev pub Shrinks : ℕ → Machine → Machine → Type 0
Shrinks code m n =
    Answers (first_of m.phase []) code (IsIdle n × (n.finalizers.state ≡ m.finalizers.state) × KeepsTables m.finalizers.order n.finalizers.order) (n ≡ m)
