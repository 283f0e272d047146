-- What calls of a machine keep, as a pass over the heap of records requires it: no pass is open, and calls lead to its state.
use Rattle.std.proofs.Common.{◌≡◌, ◌≤◌, ◌<◌, ◌+◌, ◌*◌, ◌^◌, ◌∙◌, ℕ, Bool, List, length, Option, Some, None, is_some, Result, Ok, Err, OnErr, OnOk, refl, sym, ap, subst, arith, IsTrue}
use Rattle.std.proofs.Math.Logic.{∥∥₁_map}
use Rattle.std.proofs.lemmas.Bool.{both_ways}
use Rattle.std.specs.FinMap.{get}
use Rattle.fz_model.specs.declared.answers.Entry.{Entry}
use Rattle.fz_model.specs.State.{Map, Object}
use Rattle.fz_pass.specs.Marks.{IsClosed}
use Rattle.fz_finalizers.specs.Follows.{Event, Follows, Take}
use Rattle.fz_finalizers.specs.Promises.{IsReached, Past, Then, with_event}
use Rattle.fz_finalizers.specs.States.{State}
use Rattle.fz_machine.specs.Graph.{MayBegin, graph_of}
use Rattle.fz_machine.specs.Machines.{IsIdle, IsTaken, KeepsPass, Machine}
use Rattle.own_heap.specs.declared.record.Record.{Record}
use Rattle.own_heap.specs.Outside.{links_apart, place_of_link}
use Rattle.own_heap.specs.Records.{objects_of, value_of}
use Rattle.own_heap.specs.Sound.{IsSound}
use Rattle.own_heap.proofs.Cleared.{cleared_values}
use Rattle.own_heap.proofs.Collected.{zero_nowhere}
use Rattle.own_heap.proofs.Keeping.{take_sound}
use Rattle.own_heap.proofs.Slots.{address_at, born_never, slice_low, stands}

-- calls lead to a state
abbrev pub IsMade : State → Type 0
IsMade s = ∥ ((past : Past) × IsReached s past) ∥₁

-- a call that changes finalizers is refused, or makes its event
pub record IsCalled {A E : Type 0} (old new : Machine) (event : Event) (r : Result A E) : Type 0 where
  pub idle : new.phase ≡ None
  pub made : IsMade new.finalizers.state
  pub refused : OnErr r (new.finalizers.state ≡ old.finalizers.state)
  pub follows : OnOk r (Follows old.finalizers.state event new.finalizers.state)

pub called : {A E : Type 0} (old new : Machine) (event : Event) (r : Result A E) → OnErr r ((new.phase ≡ old.phase) × (new.finalizers.state ≡ old.finalizers.state))
    → OnOk r (IsIdle new × Follows old.finalizers.state event new.finalizers.state) → old.phase ≡ None → IsMade old.finalizers.state → IsCalled old new event r
called old new event (Ok x) refused follows idle made = record { idle = follows.0; made = ∥∥₁_map made (λ (past, reached). (with_event past event, Then event reached follows.1)); refused = refused; follows = follows.1 }
called old new event (Err e) refused follows idle made = record { idle = refused.0 ∙ idle; made = subst IsMade (sym refused.1) made; refused = refused.1; follows = follows }

-- so does a worker's call, which keeps the pass
pub finished : {A E : Type 0} (old new : Machine) (event : Event) (r : Result A E) → OnErr r (new.finalizers.state ≡ old.finalizers.state) → OnOk r (Follows old.finalizers.state event new.finalizers.state) → KeepsPass old new → old.phase ≡ None → IsMade old.finalizers.state
    → IsCalled old new event r
finished old new event (Ok x) refused follows keeps idle made = record { idle = ap (λ (m : Machine). m.phase) keeps ∙ idle; made = ∥∥₁_map made (λ (past, reached). (with_event past event, Then event reached follows)); refused = refused; follows = follows }
finished old new event (Err e) refused follows keeps idle made = record { idle = ap (λ (m : Machine). m.phase) keeps ∙ idle; made = subst IsMade (sym refused) made; refused = refused; follows = follows }

pub taken_made : (old new : Machine) (o : Option Entry) → IsTaken Take old new o → IsMade old.finalizers.state → IsMade new.finalizers.state
taken_made old new None (none, same) made = subst IsMade (sym same) made
taken_made old new (Some e) follows made = ∥∥₁_map made (λ (past, reached). (with_event past (Take e), Then (Take e) reached follows))

-- a pass over the records may begin
pub may_begin : (slots : List (Option Record)) (s : State) (marked : ℕ → Bool) → length slots ≤ 2 ^ 32 → IsSound (objects_of slots) s → IsClosed (objects_of slots) marked → MayBegin place_of_link value_of s (graph_of (objects_of slots) marked)
may_begin slots s marked few sound closed = record {
  registered = sound.registered;
  short = sound.short;
  long = sound.long;
  short_keys = sound.short_keys;
  long_keys = sound.long_keys;
  zero = zero_nowhere slots;
  closed = closed;
  births = born_never slots;
  starts = λ a here. start a (get (objects_of slots) a) refl here;
  apart = links_apart;
  values = λ objects cleared word key first zero of is. cleared_values objects cleared word first zero is;
}
  where
    start : (a : ℕ) (o : Option Object) → get (objects_of slots) a ≡ o → IsTrue (is_some o) → a < 2 ^ 64
    start a None is here = absurd (both_ways _ refl here)
    start a (Some o) is here =
        let s = stands slots a o is in
        let address = address_at a s.place s.at in
        let low = slice_low slots s.place s.read s.slot in
        omega (arith, address, low, few)

pub taken_sound : (objects : Map Object) (old new : Machine) (o : Option Entry) → IsTaken Take old new o → IsSound objects old.finalizers.state → IsSound objects new.finalizers.state
taken_sound objects old new None is sound = take_sound objects old.finalizers.state new.finalizers.state None is sound
taken_sound objects old new (Some e) is sound = take_sound objects old.finalizers.state new.finalizers.state (Some e) is sound
