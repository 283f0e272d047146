-- No step makes a table larger than its limit.
use Rattle.std.proofs.Common.{◌≡◌, ℕ, ◌+◌, ◌-◌, ◌≤◌, ◌&&◌, Bool, true, false, not, cond, List, [], ◌∷◌, refl, sym, ap, ◌∙◌, subst, nat_le, arith}
use Rattle.std.proofs.lemmas.Bool.{leb-false}
use Rattle.std.proofs.lemmas.List.{length-map}
use Rattle.std.proofs.lemmas.List.Sums.{count_by-le-length}
use Rattle.std.specs.Cmp.{nat_cmp_total}
use Rattle.std.specs.Ordering.{nat_cmp}
use Rattle.std.specs.FinMap.{len, keys, entries, insert, remove, retain_keys, contains_key, empty, len-insert, len-remove, len-entries, len-empty}
use Rattle.fz_model.specs.declared.answers.Passed.{Passed}
use Rattle.fz_model.specs.declared.answers.Pick.{Pick}
use Rattle.fz_model.specs.declared.answers.Registration.{Registration}
use Rattle.fz_model.specs.declared.limits.TheConstants.{TABLE_LIMIT}
use Rattle.fz_model.specs.State.{Map, Core, State, opening}
use Rattle.fz_model.specs.Pass.{without_picks, Passes}
use Rattle.fz_model.specs.Causes.{full}
use Rattle.fz_model.specs.Events.{Event}
use Rattle.fz_model.specs.Steps.{IsReached}
use Rattle.fz_model.specs.CallLaws.{TablesAreWithin}
use Rattle.fz_model.proofs.Counts.{len_retained}
use Rattle.fz_model.proofs.Effects.{IsAllowed, Relinks, More, Fewer, Moved, Effect, Entered, Dropped, Shorts, Longs, Ended, reached_keeps}
use Rattle.fz_model.proofs.CallLaws.{moves}

pub record AreFew (c : Core) : Type 0 where
  pub registrations : len c.registrations ≤ TABLE_LIMIT
  pub short : len c.short ≤ TABLE_LIMIT
  pub long : len c.long ≤ TABLE_LIMIT

-- ---- one table

-- a new key finds room
inserted_few : {X : Type 0} (m : Map X) (k : ℕ) (v : X) → (full m k).0 ≡ false → len m ≤ TABLE_LIMIT → len (insert m k v) ≤ TABLE_LIMIT
inserted_few m k v room few = at (contains_key m k) refl
  where
    at : (b : Bool) → contains_key m k ≡ b → len (insert m k v) ≤ TABLE_LIMIT
    at true is =
        let same = len-insert nat_cmp_total m k v ∙ ap (λ b. cond b (len m) (len m + 1)) is in
        omega (arith, same, few)
    at false is =
        let more = len-insert nat_cmp_total m k v ∙ ap (λ b. cond b (len m) (len m + 1)) is in
        let below = leb-false TABLE_LIMIT (len m) (sym (ap (λ b. not b && nat_le TABLE_LIMIT (len m)) is) ∙ room) in
        omega (arith, more, below)

removed_few : {X : Type 0} (m : Map X) (k : ℕ) → len (remove m k) ≤ len m
removed_few m k = at (contains_key m k) (len-remove nat_cmp_total m k)
  where
    at : (b : Bool) → len (remove m k) ≡ cond b (len m - 1) (len m) → len (remove m k) ≤ len m
    at true is = omega (arith, is)
    at false is = omega (arith, is)

retained_few : {X : Type 0} (m : Map X) (p : ℕ → Bool) → len (retain_keys m p) ≤ len m
retained_few {X = X} m p =
    let left = len_retained p m in
    let all = len-entries m ∙ sym (length-map (entries m) (λ (e : ℕ × X). e.0)) in
    omega (arith, left, all, count_by-le-length p (keys m))

fewer : {X : Type 0} (m : Map X) (p : ℕ → Bool) → len m ≤ TABLE_LIMIT → len (retain_keys m p) ≤ TABLE_LIMIT
fewer m p few = omega (arith, retained_few m p, few)

without_few : (m : Map Registration) (picks : List Pick) → len (without_picks m picks) ≤ len m
without_few m [] = omega arith
without_few m (p ∷ ps) = omega (arith, removed_few (without_picks m ps) p.obj, without_few m ps)

-- ---- each call

relinked_few : (c : Core) (e : Event) (old links : Map ℕ) → IsAllowed c e → len old ≤ TABLE_LIMIT → Relinks c e old links → len links ≤ TABLE_LIMIT
relinked_few c e old links allowed few (More word offset target none) = inserted_few old (word + offset) target (none allowed).1.1.1.1.0 few
relinked_few c e old links allowed few (Fewer place) = omega (arith, removed_few old place, few)
relinked_few c e old links allowed few (Moved from word offset none) = omega (arith, (moves old from (word + offset)).number, few)

passed_few : (c : Core) (found : ℕ → Bool) (passed : Passed) (new : Core) → Passes c found passed new → AreFew c → AreFew new
passed_few c found passed new p h =
    subst AreFew (sym p.is)
    (record {
      registrations = omega (arith, without_few c.registrations p.picks, h.registrations);
      short = fewer c.short _ h.short;
      long = fewer c.long _ h.long;
    })

effect_few : (c : Core) (e : Event) (new : Core) → IsAllowed c e → AreFew c → Effect c e new → AreFew new
effect_few c e new allowed h (Entered word r number none) = record { registrations = inserted_few c.registrations word r (none allowed).1.1.1.0 h.registrations; short = h.short; long = h.long }
effect_few c e new allowed h (Dropped word) = record { registrations = omega (arith, removed_few c.registrations word, h.registrations); short = h.short; long = h.long }
effect_few c e new allowed h (Shorts {links = links} r) = record { registrations = h.registrations; short = relinked_few c e c.short links allowed h.short r; long = h.long }
effect_few c e new allowed h (Longs {links = links} r) = record { registrations = h.registrations; short = h.short; long = relinked_few c e c.long links allowed h.long r }
effect_few c e new allowed h (Ended here p) = passed_few c p.found p.passed new p.passes h
effect_few c e new allowed h _ = record { registrations = h.registrations; short = h.short; long = h.long }

no_entries : (X : Type 0) → len (empty {X = X} {R = nat_cmp}) ≤ TABLE_LIMIT
no_entries X = omega (arith, len-empty nat_cmp X)

opening_few : (blocks frames : ℕ) → AreFew (opening blocks frames).core
opening_few blocks frames =
    record { registrations = no_entries Registration; short = no_entries ℕ; long = no_entries ℕ }

pub tables_are_within : (s : State) → IsReached s → TablesAreWithin s
tables_are_within s r =
    let few = reached_keeps AreFew effect_few opening_few s r in
    record { registrations = few.registrations; short = few.short; long = few.long }
