-- A pass that leaves ephemerons out is a pass without them.
use Rattle.std.proofs.Common.{◌≡◌, ℕ, Bool, Option, None, length, refl, sym, ap, subst}
use Rattle.std.specs.FinSet.{contains}
use Rattle.fz_model.specs.Memory.{points}
use Rattle.fz_model.specs.State.{Map, Object}
use Rattle.fz_pass.specs.Flagged.{AreNormal}
use Rattle.fz_pass.specs.Holds.{Ephemerons, no_ephemerons}
use Rattle.fz_pass.specs.Marks.{IsClosed}
use Rattle.fz_pass.specs.Whole.{DecidesWhole}
use Rattle.fz_pass.proofs.ByPaths.{by_paths}
use Rattle.fz_finalizers.specs.Follows.{Follows, Pass, next_pass}
use Rattle.fz_finalizers.specs.Passed.{DecidesFor, DecidesWholeFor, PassesFor, PassesFound, parts_in, parts_left_in}
use Rattle.fz_finalizers.specs.States.{State, AreFlags}
use Rattle.fz_finalizers.proofs.Flags.{normal_of}

-- the state with these ephemerons
abbrev pub put : State → Ephemerons → State
put s ephemerons = record s { ephemerons = ephemerons }

pub plain_decides : (Exact : Type 0) (place : ℕ → Option ℕ) (value : Map Object → ℕ → Option ℕ) (pass : ℕ) (old : State) (objects : Map Object) (found : ℕ → Bool) (new : State) (new_objects : Map Object) (marked : ℕ → Bool)
    → AreNormal old.registrations (contains old.late) → points objects 0 ≡ None → IsClosed objects found → old.ephemerons ≡ no_ephemerons
    → DecidesWholeFor Exact place value pass old objects found new new_objects marked → DecidesFor Exact place pass old objects found new new_objects marked
plain_decides Exact place value pass old objects found new new_objects marked normal zero closed none d =
    (by_paths Exact place value (contains old.late) (parts_in objects old) normal zero pass (length old.queue) found (parts_left_in new_objects marked new) new.ephemerons old.queue new.queue closed
    (subst (λ e. DecidesWhole Exact place value (contains old.late) pass (length old.queue) (parts_in objects old) e found (parts_left_in new_objects marked new) new.ephemerons old.queue new.queue) none d)).flagged

pub plain_follows : (old new : State) (ephemerons : Ephemerons) → Follows old Pass new → Follows (put old ephemerons) Pass (put new ephemerons)
plain_follows old new ephemerons does =
    let q = does.0 in
    (record { picks = q.picks; picked = q.picked; queue = q.queue; taken = q.taken; left = q.left; left_late = q.left_late; held = q.held; next_number = q.next_number; cleanups = q.cleanups }, does.1, λ kind word key here. here)

pub plain_passes : (Exact : Type 0) (place : ℕ → Option ℕ) (value : Map Object → ℕ → Option ℕ) (old : State) (objects : Map Object) (found : ℕ → Bool) (new : State) (new_objects : Map Object) (marked : ℕ → Bool)
    → AreNormal old.registrations (contains old.late) → points objects 0 ≡ None → IsClosed objects found
    → PassesFound Exact place value (put old no_ephemerons) objects found new new_objects marked → PassesFor Exact place old objects found (put new old.ephemerons) new_objects marked
plain_passes Exact place value old objects found new new_objects marked normal zero closed p =
    let back : State → State = λ s. put s old.ephemerons in
    let still = subst (λ (s : State). AreNormal s.registrations (contains s.late)) (sym p.short.2) normal in
    record {
      begun = back p.begun;
      passed = back p.passed;
      short = (p.short.0, p.short.1, ap back p.short.2);
      decided = plain_decides Exact place value (next_pass old.passes) p.begun objects found p.passed new_objects marked still zero closed (ap (λ (s : State). s.ephemerons) p.short.2) p.decided;
      follows = plain_follows p.begun p.passed old.ephemerons p.follows;
      long = (p.long.0, p.long.1, ap back p.long.2);
    }

-- a host is set aside from its values and comes back, and so do the ephemerons
module _ {H : Type 0} (objects : H → Map Object) (marked : H → ℕ → Bool) (Exact : Type 0) (place : ℕ → Option ℕ) (old bare new back : State) (first start end last : H)
    (start_is : start ≡ first) (last_is : last ≡ end) (bare_is : bare ≡ put old no_ephemerons) (flags : AreFlags old.registrations old.late) (zero : points (objects first) 0 ≡ None) (closed : IsClosed (objects first) (marked first)) where
  abbrev none : Map Object → ℕ → Option ℕ
  none _ _ = None

  pub decides_back : (e : Ephemerons) → back ≡ put new e → DecidesWholeFor Exact place none (next_pass bare.passes) bare (objects start) (marked start) new (objects end) (marked end)
      → DecidesFor Exact place (next_pass old.passes) old (objects first) (marked first) back (objects last) (marked last)
  decides_back e back_is d =
      let here = subst (λ (s : State). DecidesWholeFor Exact place none (next_pass s.passes) s (objects start) (marked start) new (objects end) (marked end)) bare_is d in
      let there = subst (λ h. DecidesWholeFor Exact place none (next_pass old.passes) (put old no_ephemerons) (objects h) (marked h) new (objects end) (marked end)) start_is here in
      let decided = plain_decides Exact place none (next_pass old.passes) (put old no_ephemerons) (objects first) (marked first) new (objects end) (marked end) (normal_of old.registrations old.late flags) zero closed refl there in
      subst (λ (s : State). DecidesFor Exact place (next_pass old.passes) old (objects first) (marked first) s (objects last) (marked last)) (sym back_is)
      (subst (λ h. DecidesFor Exact place (next_pass old.passes) old (objects first) (marked first) new (objects h) (marked h)) (sym last_is) decided)

  pub passes_back : back ≡ put new old.ephemerons → PassesFound Exact place none bare (objects start) (marked start) new (objects end) (marked end) → PassesFor Exact place old (objects first) (marked first) back (objects last) (marked last)
  passes_back back_is p =
      let here = subst (λ (s : State). PassesFound Exact place none s (objects start) (marked start) new (objects end) (marked end)) bare_is p in
      let there = subst (λ h. PassesFound Exact place none (put old no_ephemerons) (objects h) (marked h) new (objects end) (marked end)) start_is here in
      let passed = plain_passes Exact place none old (objects first) (marked first) new (objects end) (marked end) (normal_of old.registrations old.late flags) zero closed there in
      subst (λ (s : State). PassesFor Exact place old (objects first) (marked first) s (objects last) (marked last)) (sym back_is)
      (subst (λ h. PassesFor Exact place old (objects first) (marked first) (put new old.ephemerons) (objects h) (marked h)) (sym last_is) passed)
