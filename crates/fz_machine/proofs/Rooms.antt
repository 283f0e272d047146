-- The list of a phase has room for all that may come onto it.
use Rattle.std.proofs.Common.{◌≡◌, ◌∙◌, ◌≤◌, ◌+◌, ℕ, Bool, true, false, cond, List, Result, Ok, Err, OnOk, OnErr, nat_cmp, sym, ap, subst, arith}
use Rattle.std.specs.FinMap.{get, len, remove, empty, len-empty}
use Rattle.fz_model.specs.declared.answers.Registration.{Registration}
use Rattle.fz_model.specs.declared.kinds.LinkKind.{LinkKind}
use Rattle.fz_model.specs.declared.kinds.LinkKind.TheVariants.{Short, Long}
use Rattle.fz_model.specs.Steps.{moved_to}
use Rattle.fz_pass.specs.Holds.{Ephemerons}
use Rattle.fz_pass.specs.Keyed.{has_ephemeron, without_ephemeron}
use Rattle.fz_pass.specs.Keyed.{moved as moved_ephemeron}
use Rattle.fz_finalizers.specs.declared.cleanups.Attached.{Attached}
use Rattle.fz_finalizers.specs.declared.refused.Refused.{Refused}
use Rattle.fz_finalizers.specs.Follows.{without_cleanup, without_registration}
use Rattle.fz_finalizers.specs.Passed.{CleansAll}
use Rattle.fz_finalizers.specs.States.{State, opening, links_of, with_links}
use Rattle.fz_finalizers.proofs.Counting.{len_less}
use Rattle.fz_links.proofs.Moved.{len_moved_to}
use Rattle.fz_machine.specs.declared.item.Item.{Item}
use Rattle.fz_machine.specs.declared.phase.Phase.{Phase}
use Rattle.fz_machine.specs.Going.{HasRoom, HaveRoom, IsSameBeside, IsSameRoom, KeepsBeside, ephemerons_in}
use Rattle.fz_machine.specs.Phases.{after}
use Rattle.fz_machine.specs.Steps.{Going, steps, skip}
use Rattle.fz_machine.specs.Walks.{Walk}
use Rattle.fz_machine.proofs.Throughout.{skip_keeps, steps_keep}
use Rattle.fz_machine.proofs.Within.{still}

pub opened : (room : ℕ) → HasRoom opening room
opened room = let none = len-empty nat_cmp Registration in let no_links = len-empty nat_cmp ℕ in let no_cleanups = len-empty nat_cmp Attached in record { registrations = omega (arith, none); short = omega (arith, no_links); long = omega (arith, no_links); cleanups = omega (arith, no_cleanups); keyed = omega (arith, no_links) }

pub roomier : (s : State) (room more : ℕ) → room ≤ more → HasRoom s room → HasRoom s more
roomier s room more le h =
    let a = h.registrations in
    let b = h.short in
    let c = h.long in
    let d = h.cleanups in
    let e = h.keyed in
    record { registrations = omega (arith, a, le); short = omega (arith, b, le); long = omega (arith, c, le); cleanups = omega (arith, d, le); keyed = omega (arith, e, le) }

module _ (s : State) (room : ℕ) (h : HasRoom s room) where
  pub emptied : (new : State) → new.registrations ≡ empty → new.short ≡ s.short → new.long ≡ s.long → new.cleanups ≡ s.cleanups → new.ephemerons ≡ s.ephemerons → HasRoom new room
  emptied new none short long cleanups ephemerons =
      let zero_long = len-empty nat_cmp Registration in
      let a = ap len none in
      let c = ap len short in
      let d = ap len long in
      let e = ap len cleanups in
      let few_short = h.short in
      let few_long = h.long in
      let few_cleanups = h.cleanups in
      record { registrations = omega (arith, zero_long, a); short = omega (arith, c, few_short); long = omega (arith, d, few_long); cleanups = omega (arith, e, few_cleanups); keyed = subst (λ (k : Ephemerons). len k.short + len k.long ≤ room) (sym ephemerons) h.keyed }

  pub moved : (kind : LinkKind) (word to : ℕ) → HasRoom (with_links s kind (moved_to (links_of s kind) word to (get (links_of s kind) word))) room
  moved Short word to = let same = len_moved_to s.short word to in let a = h.short in record { registrations = h.registrations; short = omega (arith, same, a); long = h.long; cleanups = h.cleanups; keyed = h.keyed }
  moved Long word to = let same = len_moved_to s.long word to in let a = h.long in record { registrations = h.registrations; short = h.short; long = omega (arith, same, a); cleanups = h.cleanups; keyed = h.keyed }

  pub removed : (object : ℕ) → HasRoom (without_registration s object) room
  removed object =
      let less = len_less s.registrations object in
      let a = h.registrations in
      record { registrations = omega (arith, less, a); short = h.short; long = h.long; cleanups = h.cleanups; keyed = h.keyed }

  pub cancelled : (number : ℕ) → HasRoom (without_cleanup s number) room
  cancelled number =
      let less = len_less s.cleanups number in
      let a = h.cleanups in
      record { registrations = h.registrations; short = h.short; long = h.long; cleanups = omega (arith, less, a); keyed = h.keyed }

  -- only the queue is another, and no cleanup is left
  pub cleaned : (new : State) → CleansAll s new → new.cleanups ≡ empty → HasRoom new room
  cleaned new (mid, short, long) none =
      let no_cleanups = len-empty nat_cmp Attached in
      let e = ap len none in
      let a = ap (λ (t : State). len t.registrations) long.2 ∙ ap (λ (t : State). len t.registrations) short.2 in
      let b = ap (λ (t : State). len t.short) long.2 ∙ ap (λ (t : State). len t.short) short.2 in
      let c = ap (λ (t : State). len t.long) long.2 ∙ ap (λ (t : State). len t.long) short.2 in
      let few = h.registrations in
      let few_short = h.short in
      let few_long = h.long in
      let k = ap (λ (t : State). ephemerons_in t) long.2 ∙ ap (λ (t : State). ephemerons_in t) short.2 in
      let few_keyed = h.keyed in
      record { registrations = omega (arith, a, few); short = omega (arith, b, few_short); long = omega (arith, c, few_long); cleanups = omega (arith, e, no_cleanups); keyed = omega (arith, k, few_keyed) }

  pub unlinked : (kind : LinkKind) (word : ℕ) → HasRoom (with_links s kind (remove (links_of s kind) word)) room
  unlinked Short word = let less = len_less s.short word in let a = h.short in record { registrations = h.registrations; short = omega (arith, less, a); long = h.long; cleanups = h.cleanups; keyed = h.keyed }
  unlinked Long word = let less = len_less s.long word in let a = h.long in record { registrations = h.registrations; short = h.short; long = omega (arith, less, a); cleanups = h.cleanups; keyed = h.keyed }

  pub moved_or_not : {A : Type 0} (kind : LinkKind) (word to : ℕ) (new : State) (result : Result A Refused) → OnErr result (new ≡ s)
      → OnOk result (new ≡ with_links s kind (moved_to (links_of s kind) word to (get (links_of s kind) word))) → HasRoom new room
  moved_or_not kind word to new (Ok x) same is = subst (λ (t : State). HasRoom t room) (sym is) (moved kind word to)
  moved_or_not kind word to new (Err r) same is = subst (λ (t : State). HasRoom t room) (sym same) h

  still_room : (phase : Phase) (item : Item) (answer : Bool) → HasRoom (after phase item answer s) room
  still_room phase item answer =
      let t = still room room room (len s.ephemerons.short) (len s.ephemerons.long) (λ m. len m ≤ room) (λ m number few. let less = len_less m number in omega (arith, less, few)) s (record { registered = h.registrations; short = h.short; long = h.long; short_keys = omega arith; long_keys = omega arith; attached = h.cleanups }) phase item answer in
      let few_short = t.short_keys in
      let few_long = t.long_keys in
      let few = h.keyed in
      record { registrations = t.registered; short = t.short; long = t.long; cleanups = t.attached; keyed = omega (arith, few_short, few_long, few) }

-- ephemerons only go
keyed_after : (s : State) (room : ℕ) → ephemerons_in s ≤ room → (phase : Phase) (item : Item) (answer : Bool) → ephemerons_in (after phase item answer s) ≤ room
keyed_after s room few phase item answer =
    let t = still (len s.registrations) (len s.short) (len s.long) (len s.ephemerons.short) (len s.ephemerons.long) (λ m. Unit {0}) (λ m number h. h) s
    (record { registered = omega arith; short = omega arith; long = omega arith; short_keys = omega arith; long_keys = omega arith; attached = tt }) phase item answer in
    let few_short = t.short_keys in
    let few_long = t.long_keys in
    omega (arith, few_short, few_long, few)

module _ (settling : Bool) (walk : Walk) where
  still_rooms : (phase : Phase) (item : Item) (answer : Bool) (s : State) → HaveRoom settling s walk → HaveRoom settling (after phase item answer s) walk
  still_rooms phase item answer s h = record { main = still_room s _ h.main phase item answer; rows = keyed_after s _ h.rows phase item answer; off = keyed_after s walk.off_room h.off phase item answer }

  pub steps_rooms : (phase : Phase) (xs : List Bool) (g : Going) → HaveRoom settling g.finalizers walk → HaveRoom settling (steps phase xs g).finalizers walk
  steps_rooms phase = steps_keep (λ s. HaveRoom settling s walk) still_rooms phase

  pub skip_rooms : (phase : Phase) (g : Going) → HaveRoom settling g.finalizers walk → HaveRoom settling (skip phase g).finalizers walk
  skip_rooms phase = skip_keeps (λ s. HaveRoom settling s walk) still_rooms phase

-- lists with as much room
pub rooms_as : (settling : Bool) (s : State) (walk other : Walk) → IsSameRoom walk other → HaveRoom settling s walk → HaveRoom settling s other
rooms_as true s walk other same h =
    let a = h.rows in
    let b = h.off in
    let room = same.0 in
    let more = same.2 in
    record { main = subst (HasRoom s) (sym same.1) h.main; rows = omega (arith, a, room); off = omega (arith, b, more) }
rooms_as false s walk other same h =
    let a = h.rows in
    let b = h.off in
    let room = same.1 in
    let more = same.2 in
    record { main = subst (HasRoom s) (sym same.0) h.main; rows = omega (arith, a, room); off = omega (arith, b, more) }

-- the list has more room
pub rooms_grown : (settling : Bool) (s : State) (walk other : Walk) → walk.room ≤ other.room → IsSameBeside walk other → HaveRoom settling s walk → HaveRoom settling s other
rooms_grown true s walk other more same h =
    let a = h.rows in
    let b = h.off in
    let off = same.1 in
    record { main = subst (HasRoom s) (sym same.0) h.main; rows = omega (arith, a, more); off = omega (arith, b, off) }
rooms_grown false s walk other more same h =
    let a = h.rows in
    let b = h.off in
    let room = same.0 in
    let off = same.1 in
    record { main = roomier s walk.room other.room more h.main; rows = omega (arith, a, room); off = omega (arith, b, off) }

pub rooms_of : (settling : Bool) (s t : State) (walk : Walk) → t ≡ s → HaveRoom settling s walk → HaveRoom settling t walk
rooms_of settling s t walk same h = subst (λ (u : State). HaveRoom settling u walk) (sym same) h

pub same_twice : (old mid new : Walk) → IsSameRoom old mid → IsSameRoom mid new → IsSameRoom old new
same_twice old mid new p q = (q.0 ∙ p.0, q.1 ∙ p.1, let a = p.2 in let b = q.2 in omega (arith, a, b))

pub beside_twice : (old mid new : Walk) → KeepsBeside old mid → KeepsBeside mid new → KeepsBeside old new
beside_twice old mid new p q = (q.0 ∙ p.0, q.1 ∙ p.1, (q.2.0 ∙ p.2.0, q.2.1 ∙ p.2.1))

pub rooms_opened : (walk : Walk) → HaveRoom false opening walk
rooms_opened walk = record { main = opened walk.room; rows = (opened walk.other).keyed; off = (opened walk.off_room).keyed }

-- links are beside ephemerons
pub unlinked_keyed : (s : State) (kind : LinkKind) (word : ℕ) (t : State) → t ≡ with_links s kind (remove (links_of s kind) word) → t.ephemerons ≡ s.ephemerons
unlinked_keyed s Short word t is = ap (λ (u : State). u.ephemerons) is
unlinked_keyed s Long word t is = ap (λ (u : State). u.ephemerons) is

pub moved_keyed : {A : Type 0} (s : State) (kind : LinkKind) (word to : ℕ) (t : State) (result : Result A Refused) → OnErr result (t ≡ s)
    → OnOk result (t ≡ with_links s kind (moved_to (links_of s kind) word to (get (links_of s kind) word))) → t.ephemerons ≡ s.ephemerons
moved_keyed s Short word to t (Ok x) same is = ap (λ (u : State). u.ephemerons) is
moved_keyed s Long word to t (Ok x) same is = ap (λ (u : State). u.ephemerons) is
moved_keyed s kind word to t (Err r) same is = ap (λ (u : State). u.ephemerons) same

-- an ephemeron ends, or moves
pub ended_rooms : (s : State) (walk : Walk) (word : ℕ) → HaveRoom false s walk → HaveRoom false (record s { ephemerons = without_ephemeron s.ephemerons word }) walk
ended_rooms s walk word h =
    let less_short = len_less s.ephemerons.short word in
    let less_long = len_less s.ephemerons.long word in
    let m = h.main in
    let a = m.keyed in
    let b = h.rows in
    let c = h.off in
    record {
      main = record { registrations = m.registrations; short = m.short; long = m.long; cleanups = m.cleanups; keyed = omega (arith, less_short, less_long, a) };
      rows = omega (arith, less_short, less_long, b);
      off = omega (arith, less_short, less_long, c);
    }

pub moved_rows : (e : Ephemerons) (word to : ℕ) → len (moved_ephemeron e word to).short + len (moved_ephemeron e word to).long ≤ len e.short + len e.long
moved_rows e word to = by (has_ephemeron e to)
  where
    by : (b : Bool) → len (cond b e (record { short = moved_to e.short word to (get e.short word); long = moved_to e.long word to (get e.long word) })).short
        + len (cond b e (record { short = moved_to e.short word to (get e.short word); long = moved_to e.long word to (get e.long word) })).long ≤ len e.short + len e.long
    by true = omega arith
    by false = let short = len_moved_to e.short word to in let long = len_moved_to e.long word to in omega (arith, short, long)

pub moved_rooms : {A : Type 0} (s : State) (walk : Walk) (word to : ℕ) (t : State) (result : Result A Refused) → OnErr result (t ≡ s) → OnOk result (t ≡ record s { ephemerons = moved_ephemeron s.ephemerons word to })
    → HaveRoom false s walk → HaveRoom false t walk
moved_rooms s walk word to t (Ok x) same is h =
    let few = moved_rows s.ephemerons word to in
    let m = h.main in
    let a = m.keyed in
    let b = h.rows in
    let c = h.off in
    rooms_of false (record s { ephemerons = moved_ephemeron s.ephemerons word to }) t walk is
    (record {
      main = record { registrations = m.registrations; short = m.short; long = m.long; cleanups = m.cleanups; keyed = omega (arith, few, a) };
      rows = omega (arith, few, b);
      off = omega (arith, few, c);
    })
moved_rooms s walk word to t (Err r) same is h = rooms_of false s t walk same h

-- between passes
module _ (s : State) (walk : Walk) (h : HaveRoom false s walk) where
  pub rooms_now : (t : State) → HasRoom t walk.room → ephemerons_in t ≤ ephemerons_in s → HaveRoom false t walk
  rooms_now t room few = let a = h.rows in let b = h.off in record { main = room; rows = omega (arith, a, few); off = omega (arith, b, few) }

  pub rooms_same : (t : State) → HasRoom t walk.room → t.ephemerons ≡ s.ephemerons → HaveRoom false t walk
  rooms_same t room same = rooms_now t room (let is = ap (λ (k : Ephemerons). len k.short + len k.long) same in omega (arith, is))
