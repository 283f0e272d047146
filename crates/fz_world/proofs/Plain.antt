-- What a world's finalizers do, since no registration is of kind `Unreachable`, and since all entries are taken. This file and `HasNoUnreachable` are all of
-- a world that knows how registrations of that kind are kept.
use Rattle.std.proofs.Common.{◌≡◌, ◌≤◌, ◌<◌, ℕ, ◌+◌, ◌++◌, Bool, true, false, not, ◌&&◌, ◌||◌, ◌==◌, nat_le, if◌then◌else◌, List, [], ◌∷◌, length, Option, Some, None, nat_cmp, refl, sym, ap, ◌∙◌, arith, inr, ⊎_elim, is_some, Ok, Err, IsFalse}
use Rattle.std.proofs.lemmas.Bool.{ne_eqb, le-leb, lt-leb, true≢false}
use Rattle.std.proofs.lemmas.Bool.Decides.{nat_tests}
use Rattle.std.proofs.lemmas.List.{append-nil, drop_all}
use Rattle.std.proofs.lemmas.Option.{none-some}
use Rattle.std.specs.Option.{unwrap_or}
use Rattle.std.specs.FinMap.{get, insert, remove, len, contains_key, empty, get-empty}
use Rattle.std.specs.FinSet as sets
use Rattle.std.specs.FinSet.{contains, contains-empty}
use Rattle.fz_model.specs.declared.answers.Entry.{Entry}
use Rattle.fz_model.specs.declared.answers.Registration.{Registration}
use Rattle.fz_model.specs.declared.finalizer.Finalizer.{Finalizer}
use Rattle.fz_model.specs.declared.refusal.Refusal.TheVariants.{Exhausted, TableFull, NoMemory}
use Rattle.fz_model.specs.declared.kinds.RegKind.{RegKind}
use Rattle.fz_model.specs.declared.kinds.RegKind.TheVariants.{Normal, IgnoreSelf, NoOrder}
use Rattle.fz_model.specs.declared.limits.TheConstants.{COUNT_LIMIT, HEAP_START, TABLE_LIMIT}
use Rattle.fz_model.specs.State.{Map}
use Rattle.fz_model.specs.Causes.{first_cause, register_causes, full}
use Rattle.fz_model.specs.declared.answers.Pick.{Pick}
use Rattle.fz_model.specs.Steps.{old_of, registration_of}
use Rattle.fz_model.proofs.Parts.{none_stands}
use Rattle.fz_pass.specs.Picking.{without_flags}
use Rattle.fz_table.specs.Places.{lacks_place}
use Rattle.fz_model.specs.declared.answers.Old.{Old}
use Rattle.fz_table.specs.Registers.{Registers}
use Rattle.fz_table.specs.Tabled.{Set, with_flag}
use Rattle.fz_finalizers.specs.Causes as host
use Rattle.fz_finalizers.specs.declared.refused.Refused.{Refused}
use Rattle.fz_finalizers.specs.declared.refused.Refused.TheVariants as refused
use Rattle.fz_finalizers.specs.Follows.{Follows, Register, Unregister}
use Rattle.fz_finalizers.specs.Kinds.{is_late, of_table, table_kind}
use Rattle.fz_finalizers.specs.States.{State, unfinished}
use Rattle.fz_finalizers.proofs.Flags.{flag_none, no_flags}
use Rattle.fz_world.specs.Registering.{entered, registered_in, with_registered}
use Rattle.fz_world.specs.World.{HasNoUnreachable}

module _ (s : State) (none : HasNoUnreachable s) where
  pub none_flagged : (object : ℕ) → IsFalse (contains s.late object)
  none_flagged object = ap (λ (t : Set). contains t object) none ∙ contains-empty nat_cmp object

  none_left : (object : ℕ) → sets.remove s.late object ≡ s.late
  none_left object = flag_none empty s.late (λ a on. absurd (true≢false (sym on ∙ none_flagged a))) object (λ r is. none-some r (sym (get-empty nat_cmp object) ∙ is))

  -- none comes by a pass
  pub none_picked : (picks : List Pick) → without_flags s.late picks ≡ sets.empty
  none_picked [] = none
  none_picked (p ∷ picks) = ap (λ (t : Set). sets.remove t p.obj) (none_picked picks) ∙ flag_none empty sets.empty no_flags p.obj (λ r is. none-some r (sym (get-empty nat_cmp p.obj) ∙ is))

kind_plain : (k : RegKind) → (table_kind (of_table false k) ≡ k) × (is_late (of_table false k) ≡ false)
kind_plain Normal = (refl, refl)
kind_plain IgnoreSelf = (refl, refl)
kind_plain NoOrder = (refl, refl)

module _ (old new : State) (object : ℕ) (none : HasNoUnreachable old) where
  pub entered_plain : (f : Finalizer) → Follows old (Register object (entered f)) new → new ≡ record old { registrations = insert old.registrations object (registration_of old.next_number f); next_number = old.next_number + 1 }
  entered_plain f is =
      is
      ∙ (λ i. record old {
        registrations = insert old.registrations object (record { number = old.next_number; kind = (kind_plain f.kind).0 i; proc = f.procedure; cd = f.client_data; rank = unwrap_or f.rank 0 });
        late = (ap (with_flag old.late object) (kind_plain f.kind).1 ∙ none_left old none object) i;
        next_number = old.next_number + 1;
      })

  pub removed_plain : Follows old (Unregister object) new → new ≡ record old { registrations = remove old.registrations object }
  removed_plain is = is ∙ (λ i. record old { registrations = remove old.registrations object; late = none_left old none object i })

-- what isn't finished is held
pub all_held : (s : State) → s.taken ≡ length s.queue → unfinished s ≡ s.held
all_held s taken = ap (λ (es : List Entry). s.held ++ es) (drop_all s.taken s.queue (omega (arith, taken))) ∙ append-nil s.held

-- ---- if a world's limits leave room, the finalizers refuse only if an allocation fails

has_place : {X : Type 0} → (m : Map X) (key : ℕ) → (full m key).0 ≡ false → lacks_place m key ≡ false
has_place m key free = by (contains_key m key) free
  where
    by : (b : Bool) → (not b && nat_le TABLE_LIMIT (len m)) ≡ false → (not b && nat_le 4294967296 (len m)) ≡ false
    by true h = refl
    by false h = grind (arith, nat_tests)

pub registers_here : (registrations : Map Registration) (next object : ℕ) → HEAP_START ≤ object → first_cause (register_causes registrations next object) ≡ None → host.first_cause (host.register_causes registrations next object) ≡ None
registers_here registrations next object high none =
    let free = none_stands (register_causes registrations next object) none in
    ap (λ b. if b then Some refused.Zero else (if nat_le COUNT_LIMIT next then Some refused.Exhausted else (if lacks_place registrations object then Some refused.Full else None))) (ne_eqb object 0 (λ is. omega (arith, is, high)))
    ∙ ap (λ b. if b then Some refused.Exhausted else (if lacks_place registrations object then Some refused.Full else None)) free.0
    ∙ ap (λ b. if b then Some refused.Full else None) (has_place registrations object free.1.0)

pub links_here : (links : Map ℕ) (word target : ℕ) → HEAP_START ≤ word → HEAP_START ≤ target → first_cause (full links word ∷ []) ≡ None → host.first_cause (host.link_causes links word target) ≡ None
links_here links word target high high_target none =
    let free = none_stands (full links word ∷ []) none in
    ap (λ b. if b || target == 0 then Some refused.Zero else (if lacks_place links word then Some refused.Full else None)) (ne_eqb word 0 (λ is. omega (arith, is, high)))
    ∙ ap (λ b. if b then Some refused.Zero else (if lacks_place links word then Some refused.Full else None)) (ne_eqb target 0 (λ is. omega (arith, is, high_target)))
    ∙ ap (λ b. if b then Some refused.Full else None) (has_place links word free.0)

-- ---- a world's own limits

pub at_limit : (registrations : Map Registration) (next object : ℕ) (b : Bool) → next < COUNT_LIMIT → (full registrations object).0 ≡ b → first_cause (register_causes registrations next object) ≡ (if b then Some TableFull else None)
at_limit registrations next object b low is =
    ap (λ exhausted. if exhausted then Some Exhausted else (if (full registrations object).0 then Some TableFull else None)) (lt-leb COUNT_LIMIT next low)
    ∙ ap (λ full. if full then Some TableFull else None) is

pub is_full : {X : Type 0} → (m : Map X) (key : ℕ) → contains_key m key ≡ false → TABLE_LIMIT ≤ len m → (full m key).0 ≡ true
is_full m key new most = ap (λ b. not b && nat_le TABLE_LIMIT (len m)) new ∙ le-leb TABLE_LIMIT (len m) most

pub is_known : {X : Type 0} → (m : Map X) (key : ℕ) → contains_key m key ≡ true → (full m key).0 ≡ false
is_known m key known = ap (λ b. not b && nat_le TABLE_LIMIT (len m)) known

pub has_room : {X : Type 0} → (m : Map X) (key : ℕ) → len m < TABLE_LIMIT → (full m key).0 ≡ false
has_room m key few = ap (λ b. not (contains_key m key) && b) (lt-leb TABLE_LIMIT (len m) few) ∙ neither (not (contains_key m key))
  where
    neither : (b : Bool) → (b && false) ≡ false
    neither true = refl
    neither false = refl

-- ---- a registration is entered, or memory is wanting

module _ (s new : State) (object : ℕ) (f : Finalizer) (none : HasNoUnreachable s) (room : first_cause (register_causes s.registrations s.next_number object) ≡ None) where
  pub registers_ok : (answer : ℕ × Option Old) → answer.0 ≡ s.next_number → answer.1 ≡ old_of s.registrations object → Follows s (Register object (entered f)) new → Registers (registered_in s) object f (Ok answer) (registered_in new)
  registers_ok answer number replaced follows = record {
    judged = room;
    growth = tt;
    unchanged = tt;
    number = number;
    replaced = replaced;
    registered = ap registered_in (entered_plain s new object none f follows);
  }

  pub same_ok : Follows s (Register object (entered f)) new → new ≡ with_registered s (registered_in new)
  same_ok follows = let is = entered_plain s new object none f follows in is ∙ ap (λ (t : State). with_registered s (registered_in t)) (sym is)

  pub same_err : new ≡ s → new ≡ with_registered s (registered_in new)
  same_err same = same ∙ ap (λ (t : State). with_registered s (registered_in t)) (sym same)

  pub registers_err : (r : Refused) → HEAP_START ≤ object → host.IsJudgedOrLacks {A = ℕ × Option Old} (host.register_causes s.registrations s.next_number object) (Err r)
      → (r ≡ refused.NoMemory → get s.registrations object ≡ None) → new ≡ s → Registers (registered_in s) object f (Err NoMemory) (registered_in new)
  registers_err r high judged fresh same =
      let free = registers_here s.registrations s.next_number object high room in
      let memory : r ≡ refused.NoMemory = ⊎_elim (λ some. absurd (none-some r (sym free ∙ some))) (λ lacks. lacks.1) judged in
      record {
        judged = inr (room, refl, refl);
        growth = λ _. ap is_some (fresh memory);
        unchanged = ap registered_in same;
        number = tt;
        replaced = tt;
        registered = tt;
      }
