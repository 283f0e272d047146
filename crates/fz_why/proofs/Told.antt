-- What the trail of what the roots reach says.
use Rattle.std.proofs.Common.{◌≡◌, ℕ, Bool, true, false, List, Option, None, refl, sym, ap, subst, inr, ⊎_elim, IsTrue}
use Rattle.std.proofs.lemmas.Bool.{both_ways}
use Rattle.fz_model.specs.declared.kinds.RegKind.{RegKind}
use Rattle.fz_model.specs.declared.kinds.RegKind.TheVariants.{Normal, IgnoreSelf, NoOrder}
use Rattle.fz_model.specs.State.{Map, Object}
use Rattle.fz_model.specs.Reachability.{Computes}
use Rattle.fz_pass.specs.Holds.{IsOfKey, IsWhole, Member}
use Rattle.fz_pass.proofs.Holding.{holds_all}
use Rattle.fz_finalizers.specs.Kinds.{is_late, of_table}
use Rattle.fz_finalizers.specs.States.{State}
use Rattle.fz_why.specs.declared.origin.Origin.{Origin}
use Rattle.fz_why.specs.declared.origin.Origin.TheVariants.{Root, Itself, First, After}
use Rattle.fz_why.specs.declared.reason.RootOf.{RootOf}
use Rattle.fz_why.specs.Paths.{IsStep}
use Rattle.fz_why.specs.Why.{IsAtRoot, IsReached, IsRooted, IsRootPath}
use Rattle.fz_why.specs.Trail.{Trail, either, has, IsByRoot, IsFoundOf, IsFoundTrail, IsNext, IsOfRoots, IsOrdered, IsRow, IsSound, IsStart, IsTrailPath}
use Rattle.fz_why.proofs.Reached.{has_held, held_in, next_is, ordered, path_as, start_of}

-- the flag of a kind
pub late_of_table : (b : Bool) (k : RegKind) → is_late (of_table b k) ≡ b
late_of_table true k = refl
late_of_table false Normal = refl
late_of_table false IgnoreSelf = refl
late_of_table false NoOrder = refl

abbrev root_of : RootOf → Origin → RootOf
root_of d (Root r) = r
root_of d Itself = d
root_of d (First f) = d
root_of d (After k) = d

-- it is no root
abbrev pub IsNoRoot : Origin → Type 0
IsNoRoot (Root r) = ⊥
IsNoRoot Itself = Unit {0}
IsNoRoot (First f) = Unit {0}
IsNoRoot (After k) = Unit {0}

module _ (place : ℕ → Option ℕ) (value : Map Object → ℕ → Option ℕ) (objects : Map Object) (roots : List ℕ) (s : State) where
  -- what the roots reach holds nothing else
  pub whole_found : (found : ℕ → Bool) → Computes found (IsReached place value objects roots s) → IsWhole place value objects (IsOfKey s.ephemerons) found
  whole_found found comp a h =
      (comp a).1 (holds_all place value objects (IsOfKey s.ephemerons) (IsOfKey s.ephemerons) (λ b. IsTrue (found b)) (IsAtRoot objects roots s) (λ w k is. is) (λ b on. (comp b).0 on) a h)

  pub found_of : (found : ℕ → Bool) → IsSound objects s → Computes found (IsReached place value objects roots s) → IsFoundOf place value objects s found
  found_of found sound comp = record { sound = sound; whole = whole_found found comp }

  module _ (es : Trail) (t : IsFoundTrail place value objects roots s es) where
    begins : (o : Origin) (b : ℕ) → IsByRoot objects roots s o b → IsStart o
    begins o b h = subst IsStart (sym h.1) tt

    nothing : (a : ℕ) → IsTrue (either None None a) → ⊥
    nothing a on = both_ways false refl on

    starts : (o : Origin) (b : ℕ) → IsByRoot objects roots s o b → IsReached place value objects roots s b
    starts o b h = Member (h.0, h.2)

    -- a path along it begins at a root
    pub root_begins : IsOfRoots es
    root_begins k first origin at start =
        let st = start_of objects (IsRow place value objects (IsOfKey s.ephemerons)) (either None None) (IsByRoot objects roots s) es t begins k first origin at start in
        (st.0, st.1)

    pub root_ordered : IsOrdered es
    root_ordered = ordered objects (IsRow place value objects (IsOfKey s.ephemerons)) (either None None) (IsByRoot objects roots s) es t begins

    pub computes : Computes (has es) (IsReached place value objects roots s)
    computes a = (
      has_held place value objects (IsOfKey s.ephemerons) (either None None) (IsByRoot objects roots s) es t begins (IsAtRoot objects roots s) starts (λ b on. absurd (nothing b on)) a,
      λ h.
          ⊎_elim (λ on. absurd (nothing a on)) (λ on. on)
          (held_in place value objects (IsOfKey s.ephemerons) (either None None) (IsByRoot objects roots s) es t (λ b c on child. absurd (nothing b on)) (λ key holder b row both. absurd (nothing key both.0)) (IsAtRoot objects roots s)
          (λ b rooted. inr (t.starts (Root rooted.0) b (rooted.0, refl, rooted.1))) a h),
    )

    pub root_told : (o : ℕ) (root : RootOf) (path : List ℕ) → IsTrailPath es o (Root root) path → IsRootPath place value objects roots s root path o
    root_told o root path p =
        let st = start_of objects (IsRow place value objects (IsOfKey s.ephemerons)) (either None None) (IsByRoot objects roots s) es t begins p.place p.first (Root root) p.starts p.begins in
        let same : st.0 ≡ root = ap (root_of root) (sym st.1) in
        record {
          first = p.first;
          rest = p.rest;
          is = p.is;
          rooted = subst (λ x. IsRooted objects roots s x p.first) same st.2;
          leads = path_as (IsNext es) (IsStep place value objects (IsOfKey s.ephemerons) (IsReached place value objects roots s))
              (next_is place value objects (IsOfKey s.ephemerons) (either None None) (IsByRoot objects roots s) es t begins (IsAtRoot objects roots s) starts (λ b on. absurd (nothing b on))) p.first p.rest o p.leads;
        }
