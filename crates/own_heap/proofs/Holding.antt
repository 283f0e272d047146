-- What an entry has that isn't finished is found.
use Rattle.std.proofs.Common.{◌≡◌, ◌≢◌, ℕ, zero, suc, ◌∷◌, [], Bool, false, List, map, Option, Some, None, is_some, option_map, refl, sym, ap, ◌∙◌, subst, inr, arith, IsTrue, Contains}
use Rattle.std.proofs.lemmas.Bool.{both_ways}
use Rattle.std.specs.FinMap.{get, contains_key}
use Rattle.fz_model.specs.declared.answers.Entry.{Entry}
use Rattle.fz_model.specs.State.{Map, Object}
use Rattle.fz_model.specs.Memory.{points}
use Rattle.fz_model.specs.Reachability.{Itself}
use Rattle.fz_finalizers.specs.declared.roots.Root.TheVariants.{HeldObject}
use Rattle.std.specs.FinMap.{retain_keys}
use Rattle.fz_model.specs.declared.kinds.LinkKind.TheVariants.{Short, Long}
use Rattle.fz_finalizers.specs.Cleanups.{is_due}
use Rattle.fz_finalizers.specs.Follows.{next_pass}
use Rattle.fz_finalizers.specs.Passed.{PassesWhole}
use Rattle.fz_finalizers.specs.States.{State, unfinished}
use Rattle.own_heap.specs.declared.record.Record.{Record}
use Rattle.own_heap.specs.Outside.{place_of_link}
use Rattle.own_heap.specs.Records.{start_of, objects_of, value_of}
use Rattle.own_heap.specs.Sound.{IsSound}
use Rattle.own_heap.specs.Collected.{MarksKept}
use Rattle.own_heap.proofs.Keeping.{cleans_back, cleans_sound, passed_registered, passed_short, passed_long, passed_short_keys, passed_long_keys, passed_held}
use Rattle.own_heap.proofs.Slots.{stands, address_at, points_is}

-- an object's start points to it
pub object_points : (slots : List (Option Record)) (a : ℕ) → IsTrue (contains_key (objects_of slots) a) → points (objects_of slots) a ≡ Some a
object_points slots a here = at (get (objects_of slots) a) refl here
  where
    at : (o : Option Object) → get (objects_of slots) a ≡ o → IsTrue (is_some o) → points (objects_of slots) a ≡ Some a
    at None is h = absurd (both_ways false refl h)
    at (Some o) is h =
        let s = stands slots a o is in
        let address = address_at a s.place s.at in
        let start : start_of a ≡ a = omega (arith, address) in
        points_is slots a ∙ ap (λ x. option_map (λ _. x) (get (objects_of slots) x)) start ∙ ap (option_map (λ _. a)) is

mapped_within : {X Y : Type 0} (f : X → Y) (xs : List X) (x : X) → Contains xs x → Contains (map f xs) (f x)
mapped_within f [] x within = absurd (omega (arith, within.1))
mapped_within f (y ∷ xs) x (zero, low, is) = (0, omega arith, ap f is)
mapped_within f (y ∷ xs) x (suc k, low, is) = let rest = mapped_within f xs x (k, omega arith, is) in (suc rest.0, omega (arith, rest.1), rest.2)

module _ (slots : List (Option Record)) (s : State) (sound : IsSound (objects_of slots) s) (old new : ℕ → Bool) (kept : MarksKept (objects_of slots) HeldObject s old new) where
  pub held_found : (e : Entry) → Contains (unfinished s) e → e.obj ≢ 0 → IsTrue (new e.obj)
  held_found e here some =
      kept.marked.least e.obj (inr (e.obj, subst (λ ws. Contains ws e.obj) (sym kept.yielded.4) (mapped_within (λ (x : Entry). x.obj) (unfinished s) e here), (e.obj, object_points slots e.obj (sound.held e here some), Itself)))

-- what is registered after a collection, and what entries have, remains: the objects of unfinished entries were marked before the pass
pub collected_sound : (slots : List (Option Record)) (state new : State) (rooted held traced : ℕ → Bool) (after : Map Object) (marked : ℕ → Bool) → IsSound (objects_of slots) state → MarksKept (objects_of slots) HeldObject state rooted held
    → ((a : ℕ) → IsTrue (held a) → IsTrue (traced a)) → PassesWhole (Unit {0}) place_of_link value_of state (objects_of slots) traced new after marked → IsSound (retain_keys after marked) new
collected_sound slots state new rooted held traced after marked sound by_objects still whole =
    let left = retain_keys after marked in
    let found = whole.0 in
    let p = whole.2 in
    let begun = cleans_sound (objects_of slots) (next_pass state.passes) (is_due Short found) state p.begun p.short sound in
    let queues = p.follows.0 in
    let passed : IsSound left p.passed = record {
      registered = passed_registered _ _ _ _ _ _ _ _ _ _ _ _ _ p.decided begun.registered;
      short = passed_short _ _ _ _ _ _ _ _ _ _ _ _ _ p.decided begun.short;
      long = passed_long _ _ _ _ _ _ _ _ _ _ _ _ _ p.decided begun.long;
      short_keys = passed_short_keys _ _ _ _ _ _ _ _ _ _ _ _ _ p.decided begun.short_keys;
      long_keys = passed_long_keys _ _ _ _ _ _ _ _ _ _ _ _ _ p.decided begun.long_keys;
      held = passed_held _ _ _ _ _ _ _ _ _ _ _ _ _ p.decided p.begun p.passed refl refl queues.taken queues.held
          (λ e here some. (whole.1.more e.obj (still e.obj (held_found slots state sound rooted held by_objects e (cleans_back (objects_of slots) (next_pass state.passes) (is_due Short found) state p.begun p.short e here some) some)), begun.held e here some));
    } in
    cleans_sound left (next_pass state.passes) (is_due Long marked) p.passed new p.long passed
