-- Tables and links that don't grow in a pass.
use Rattle.std.proofs.Common.{◌≤◌, ℕ, Bool, true, false, cond, Option, Some, None, arith}
use Rattle.std.specs.FinMap.{get, len, remove}
use Rattle.std.specs.Option.{option_map_or}
use Rattle.fz_model.specs.declared.answers.Registration.{Registration}
use Rattle.fz_model.specs.State.{Map}
use Rattle.fz_finalizers.specs.declared.cleanups.Attached.{Attached}
use Rattle.fz_finalizers.specs.Follows.{queued_attached, queued_cleanup, queued_object, queued_one}
use Rattle.fz_finalizers.specs.Kinds.{is_late}
use Rattle.fz_finalizers.specs.States.{State}
use Rattle.fz_finalizers.proofs.Counting.{len_less}
use Rattle.fz_machine.specs.declared.item.Item.{Item}
use Rattle.fz_machine.specs.declared.phase.Phase.{Phase}
use Rattle.fz_machine.specs.declared.phase.Phase.TheVariants.{Keys, KeysAgain, Holders, Values, Regions, ShortCleanups, ShortTargets, ShortWords, ShortKeys, ShortKeyWords, Objects, Children, Again, Picks, Entries, LateAgain, LatePicks, LongTargets, LongWords, LongKeys, LongKeyWords, ShortHolders, LongHolders, ShortKeyHolders, LongKeyHolders, LongCleanups}
use Rattle.fz_machine.specs.Phases.{after, without_key}

-- no more registrations, links and ephemerons than these, and cleanups of which this holds
pub record IsWithin (r s g es el : ℕ) (C : Map Attached → Type 0) (t : State) : Type 0 where
  pub registered : len t.registrations ≤ r
  pub short : len t.short ≤ s
  pub long : len t.long ≤ g
  pub short_keys : len t.ephemerons.short ≤ es
  pub long_keys : len t.ephemerons.long ≤ el
  pub attached : C t.cleanups

module _ (r s g es el : ℕ) (C : Map Attached → Type 0) (fewer : (m : Map Attached) (number : ℕ) → C m → C (remove m number)) (t : State) (h : IsWithin r s g es el C t) where
  without_short : (word : ℕ) → IsWithin r s g es el C (record t { short = remove t.short word })
  without_short word = let less = len_less t.short word in let few = h.short in record { registered = h.registered; short = omega (arith, less, few); long = h.long; short_keys = h.short_keys; long_keys = h.long_keys; attached = h.attached }

  without_long : (word : ℕ) → IsWithin r s g es el C (record t { long = remove t.long word })
  without_long word = let less = len_less t.long word in let few = h.long in record { registered = h.registered; short = h.short; long = omega (arith, less, few); short_keys = h.short_keys; long_keys = h.long_keys; attached = h.attached }

  without_keyed : (word : ℕ) → IsWithin r s g es el C (without_key t word)
  without_keyed word =
      let less_short = len_less t.ephemerons.short word in
      let less_long = len_less t.ephemerons.long word in
      let few_short = h.short_keys in
      let few_long = h.long_keys in
      record { registered = h.registered; short = h.short; long = h.long; short_keys = omega (arith, less_short, few_short); long_keys = omega (arith, less_long, few_long); attached = h.attached }

  queued : (object : ℕ) → IsWithin r s g es el C (queued_object t object)
  queued object = by (get t.registrations object)
    where
      by : (o : Option Registration) → IsWithin r s g es el C (option_map_or (queued_one t object) o t)
      by None = h
      by (Some q) = let less = len_less t.registrations object in let few = h.registered in record { registered = omega (arith, less, few); short = h.short; long = h.long; short_keys = h.short_keys; long_keys = h.long_keys; attached = h.attached }

  cleaned : (number : ℕ) → IsWithin r s g es el C (queued_cleanup t number)
  cleaned number = by (get t.cleanups number)
    where
      by : (o : Option Attached) → IsWithin r s g es el C (option_map_or (queued_attached t number) o t)
      by None = h
      by (Some a) = record { registered = h.registered; short = h.short; long = h.long; short_keys = h.short_keys; long_keys = h.long_keys; attached = fewer t.cleanups number h.attached }

  cases : (b : Bool) (u v : State) → IsWithin r s g es el C u → IsWithin r s g es el C v → IsWithin r s g es el C (cond b u v)
  cases true u v x y = x
  cases false u v x y = y

  pub still : (phase : Phase) (item : Item) (answer : Bool) → IsWithin r s g es el C (after phase item answer t)
  still (Keys moment) item answer = h
  still (KeysAgain moment) item answer = h
  still (Holders moment) item answer = h
  still (Values moment) item answer = h
  still (Regions sweep) item answer = h
  still ShortCleanups item answer = cases answer t (queued_cleanup t item.word) h (cleaned item.word)
  still ShortTargets item answer = h
  still ShortWords item answer = without_short item.word
  still ShortKeys item answer = h
  still ShortKeyWords item answer = without_keyed item.word
  still Objects item answer = h
  still Children item answer = h
  still Again item answer = h
  still Picks item answer = h
  still Entries item answer = cases (is_late item.kind) t (queued_object t item.object) h (queued item.object)
  still LateAgain item answer = h
  still LatePicks item answer = queued item.object
  still LongTargets item answer = h
  still LongWords item answer = without_long item.word
  still LongKeys item answer = h
  still LongKeyWords item answer = without_keyed item.word
  still ShortHolders item answer = cases answer t (record t { short = remove t.short item.word }) h (without_short item.word)
  still LongHolders item answer = cases answer t (record t { long = remove t.long item.word }) h (without_long item.word)
  still ShortKeyHolders item answer = cases answer t (without_key t item.word) h (without_keyed item.word)
  still LongKeyHolders item answer = cases answer t (without_key t item.word) h (without_keyed item.word)
  still LongCleanups item answer = cases answer t (queued_cleanup t item.word) h (cleaned item.word)
