-- A host without ephemerons: what it has to show, and what its pass decides.
use Rattle.std.proofs.Common.{◌≡◌, ◌∙◌, ℕ, Bool, List, Option, None, nat_cmp, sym, ap, subst}
use Rattle.std.proofs.lemmas.Option.{none-some}
use Rattle.std.specs.FinMap.{get, get-empty}
use Rattle.fz_model.specs.Memory.{points}
use Rattle.fz_model.specs.State.{Map, Object}
use Rattle.fz_model.specs.declared.answers.Entry.{Entry}
use Rattle.fz_table.specs.Tabled.{Set}
use Rattle.fz_pass.specs.Decides.{Parts}
use Rattle.fz_pass.specs.Flagged.{AreNormal, DecidesFlagged}
use Rattle.fz_pass.specs.Holds.{Ephemerons, IsOfKey, IsWhole, no_ephemerons}
use Rattle.fz_pass.specs.Marks.{AreTargets, IsClosed}
use Rattle.fz_pass.specs.Picking.{without_flags}
use Rattle.fz_pass.specs.Whole.{DecidesWhole}
use Rattle.fz_pass.proofs.ByPaths.{by_paths, nothing_settles}

-- the host is the same in the end
pub plain_closed : {H : Type 0} (objects : H → Map Object) (marked : H → ℕ → Bool) (old new : H) → new ≡ old → IsClosed (objects old) (marked old) → IsClosed (objects new) (marked new)
plain_closed objects marked old new same = subst (λ h. IsClosed (objects h) (marked h)) (sym same)

pub plain_keys : (objects : Map Object) (e : Ephemerons) → e ≡ no_ephemerons → AreTargets objects e.short × AreTargets objects e.long
plain_keys objects e none = (
  λ word key here. absurd (none-some key (sym (ap (λ (x : Ephemerons). get x.short word) none ∙ get-empty nat_cmp word) ∙ here)),
  λ word key here. absurd (none-some key (sym (ap (λ (x : Ephemerons). get x.long word) none ∙ get-empty nat_cmp word) ∙ here)),
)

pub plain_whole : (place : ℕ → Option ℕ) (objects : Map Object) (marked : ℕ → Bool) (e : Ephemerons) → e ≡ no_ephemerons → IsClosed objects marked → IsWhole place (λ _ _. None) objects (IsOfKey e) marked
plain_whole place objects marked e none closed = subst (λ x. IsWhole place (λ _ _. None) objects (IsOfKey x) marked) (sym none) (nothing_settles place (λ _ _. None) objects marked marked closed).0

-- a host is set aside from its values and comes back: what its pass decides without ephemerons, it decides by paths
module _ {H : Type 0} (Exact : Type 0) (place : ℕ → Option ℕ) (late : ℕ → Bool) (pass first : ℕ) (found : H → ℕ → Bool) (old left : H → Parts) (queue new_queue : List Entry) (flags new_flags : Set) (new_ephemerons : Ephemerons) where
  abbrev Wholly : H → H → Ephemerons → Type 0
  Wholly begun end e = (d : DecidesWhole Exact place (λ _ _. None) late pass first (old begun) e (found begun) (left end) new_ephemerons queue new_queue) × (new_flags ≡ without_flags flags d.picks)

  pub plain_decided : (start begun end last : H) (e : Ephemerons) → begun ≡ start → last ≡ end → e ≡ no_ephemerons
      → AreNormal (old start).registrations late → points (old start).objects 0 ≡ None → IsClosed (old start).objects (found start) → Wholly begun end e
      → (d : DecidesFlagged Exact place late pass first (old start) (found start) (left last) queue new_queue) × (new_flags ≡ without_flags flags d.picks)
  plain_decided start begun end last e begun_is last_is none normal zero closed d =
      let here = subst (λ h. Wholly h end e) begun_is d in
      let there = subst (λ h. Wholly start h e) (sym last_is) here in
      let bare = subst (Wholly start last) none there in
      let by = by_paths Exact place (λ _ _. None) late (old start) normal zero pass first (found start) (left last) new_ephemerons queue new_queue closed bare.0 in
      (by.flagged, bare.1 ∙ ap (without_flags flags) (sym by.picks))
