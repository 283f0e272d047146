-- The objects of kind `Unreachable` are registered as normal ones, whatever comes and goes.
use Rattle.std.proofs.Common.{◌≡◌, ◌≢◌, ℕ, ◌⊎◌, Bool, true, false, cond, nat_eq, nat_cmp, List, [], ◌∷◌, Some, inl, inr, ⊎_elim, refl, sym, ap, ◌∙◌, subst}
use Rattle.std.proofs.lemmas.Bool.{cases_eq, eq-eqb, eqb-true, ne_eqb, true≢false}
use Rattle.std.proofs.lemmas.Option.{same_Some, none-some}
use Rattle.std.specs.Cmp.{nat_cmp_total}
use Rattle.std.specs.FinMap.{get, empty, get-empty, insert, remove, nat_cmp-IsAntisymmetric}
use Rattle.std.specs.FinSet as sets
use Rattle.std.specs.FinSet.{contains, contains-empty, same_set}
use Rattle.fz_model.specs.declared.answers.Pick.{Pick}
use Rattle.fz_model.specs.declared.answers.Registration.{Registration}
use Rattle.fz_model.specs.declared.kinds.RegKind.TheVariants as table_kinds
use Rattle.fz_model.specs.Pass.{without_picks}
use Rattle.fz_model.specs.State.{Map}
use Rattle.fz_model.proofs.Maps.{get-insert_same, get-insert_other, get-remove_other}
use Rattle.fz_table.specs.Tabled.{Set, with_flag}
use Rattle.fz_table.proofs.Flagged.{with_flag_at}
use Rattle.fz_pass.specs.Flagged.{AreNormal}
use Rattle.fz_pass.specs.Picking.{without_flags}
use Rattle.fz_finalizers.specs.Follows.{Queues}
use Rattle.fz_finalizers.specs.States.{State, AreFlags}
use Rattle.fz_finalizers.specs.declared.kinds.Kind.{Kind}
use Rattle.fz_finalizers.specs.declared.kinds.Kind.TheVariants.{Normal, IgnoreSelf, NoOrder, Unreachable}
use Rattle.fz_finalizers.specs.Kinds.{is_late, table_kind}

-- a flag after one was set or cleared
flag_was : (late : Set) (k : ℕ) (flag : Bool) (q : ℕ) → contains (with_flag late k flag) q ≡ true → ((q ≡ k) × (flag ≡ true)) ⊎ ((q ≢ k) × (contains late q ≡ true))
flag_was late k flag q on =
    ⊎_elim
    (λ (is : q ≡ k). inl (is, sym (ap (λ b. cond b flag (contains late q)) (eq-eqb k q (sym is))) ∙ here))
    (λ (ne : q ≢ k). inr (ne, sym (ap (λ b. cond b flag (contains late q)) (ne_eqb k q (λ same. ne (sym same)))) ∙ here))
    (cases_eq q k)
  where
    here : cond (nat_eq k q) flag (contains late q) ≡ true
    here = sym (with_flag_at late k flag q) ∙ on

pub no_flags : AreFlags empty sets.empty
no_flags a on = absurd (true≢false (sym on ∙ contains-empty nat_cmp a))

module _ (m : Map Registration) (late : Set) (flags : AreFlags m late) where
  pub flags_entered : (k : ℕ) (r : Registration) (flag : Bool) → (flag ≡ true → r.kind ≡ table_kinds.Normal) → AreFlags (insert m k r) (with_flag late k flag)
  flags_entered k r flag normal a on =
      ⊎_elim (λ (is, f). (r, ap (get (insert m k r)) is ∙ get-insert_same m k r, normal f)) (λ (ne, was). let x = flags a was in (x.0, get-insert_other m k r a ne ∙ x.1, x.2)) (flag_was late k flag a on)

  pub flags_removed : (k : ℕ) → AreFlags (remove m k) (sets.remove late k)
  flags_removed k a on =
      ⊎_elim (λ (is, f). absurd (true≢false (sym f))) (λ (ne, was). let x = flags a was in (x.0, get-remove_other m k a ne ∙ x.1, x.2)) (flag_was late k false a on)

  -- one that isn't registered has no flag
  pub flag_none : (k : ℕ) → ((r : Registration) → get m k ≡ Some r → ⊥) → sets.remove late k ≡ late
  flag_none k none = same_set nat_cmp_total nat_cmp-IsAntisymmetric _ _ (λ q. with_flag_at late k false q ∙ at q (nat_eq k q) refl)
    where
      off : (b : Bool) → contains late k ≡ b → b ≡ false
      off false is = refl
      off true is = let x = flags k is in absurd (none x.0 x.1)

      at : (q : ℕ) (b : Bool) → nat_eq k q ≡ b → cond b false (contains late q) ≡ contains late q
      at q true same = sym (ap (contains late) (sym (eqb-true k q same)) ∙ off (contains late k) refl)
      at q false other = refl

pub flags_left : (m : Map Registration) (late : Set) → AreFlags m late → (ps : List Pick) → AreFlags (without_picks m ps) (without_flags late ps)
flags_left m late flags [] = flags
flags_left m late flags (p ∷ ps) = flags_removed (without_picks m ps) (without_flags late ps) (flags_left m late flags ps) p.obj

-- one of kind `Unreachable` is registered as a normal one
pub late_is_normal : (k : Kind) → is_late k ≡ true → table_kind k ≡ table_kinds.Normal
late_is_normal Normal h = refl
late_is_normal IgnoreSelf h = absurd (true≢false (sym h))
late_is_normal NoOrder h = absurd (true≢false (sym h))
late_is_normal Unreachable h = refl

-- so what is flagged is normal
pub normal_of : (m : Map Registration) (late : Set) → AreFlags m late → AreNormal m (contains late)
normal_of m late flags a r here on = let x = flags a on in ap (λ (q : Registration). q.kind) (same_Some r x.0 (sym here ∙ x.1)) ∙ x.2

-- where nothing is registered there are no flags
pub none_flagged : (m : Map Registration) (late : Set) → AreFlags m late → m ≡ empty → late ≡ sets.empty
none_flagged m late flags none = same_set nat_cmp_total nat_cmp-IsAntisymmetric _ _ (λ q. off q (contains late q) refl ∙ sym (contains-empty nat_cmp q))
  where
    off : (q : ℕ) (b : Bool) → contains late q ≡ b → contains late q ≡ false
    off q false is = is
    off q true is = let x = flags q is in absurd (none-some x.0 (sym (get-empty nat_cmp q) ∙ ap (λ (n : Map Registration). get n q) (sym none) ∙ x.1))

pub flags_none : (old new : State) → Queues 0 old new → new.registrations ≡ empty → AreFlags old.registrations old.late → new.late ≡ sets.empty
flags_none old new queues none flags =
    none_flagged new.registrations new.late
    (subst (λ (m : Map Registration). AreFlags m new.late) (sym queues.left) (subst (λ (s : Set). AreFlags (without_picks old.registrations queues.picks) s) (sym queues.left_late) (flags_left old.registrations old.late flags queues.picks)))
    none
