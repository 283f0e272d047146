-- What a pass leaves of words and links.
use Rattle.std.proofs.Common.{◌≡◌, ℕ, ◌&&◌, Bool, true, false, cond, Option, Some, None, refl, sym, ap, ◌∙◌}
use Rattle.std.specs.Cmp.{nat_cmp_total}
use Rattle.std.specs.Option.{option_map_or}
use Rattle.std.specs.FinMap.{get, contains_key, same_map, nat_cmp-IsAntisymmetric}
use Rattle.fz_model.specs.State.{Map, Object}
use Rattle.fz_model.specs.declared.answers.Registration.{Registration}
use Rattle.fz_model.specs.Memory.{points}
use Rattle.fz_model.specs.Pass.{is_dead, cleared}
use Rattle.fz_model.proofs.Maps.{get-retain}
use Rattle.fz_model.proofs.SeenKept.{points-filled}
use Rattle.fz_pass.specs.Marks.{IsClosed, AreRegistered, AreTargets, with_targets, with_holders}
use Rattle.fz_pass.specs.Places.{is_held, links_held}
use Rattle.fz_pass.proofs.Filling.{has_filled}
use Rattle.fz_pass.proofs.Children.{child_before}

-- ---- links that are dropped by their targets, and then by their words

pub dropped_twice : (place : ℕ → Option ℕ) (a b : Map Object) (links : Map ℕ) (targets containers : ℕ → Bool) → ((w : ℕ) → points a w ≡ points b w)
    → with_holders place a (with_targets links targets) containers ≡ links_held place b links targets containers
dropped_twice place a b links targets containers same =
    same_map nat_cmp_total nat_cmp-IsAntisymmetric _ _
    (λ k.
    get-retain (with_targets links targets) _ k
    ∙ ap (λ o. cond (option_map_or (λ _. is_held place a containers k) o false) o None) (get-retain links _ k)
    ∙ ap (λ h. cond (option_map_or (λ _. h) (cond (option_map_or targets (get links k) false) (get links k) None) false) (cond (option_map_or targets (get links k) false) (get links k) None) None) (held (place k))
    ∙ each (is_held place b containers k) (get links k) (option_map_or targets (get links k) false)
    ∙ sym (get-retain links _ k))
  where
    held : (o : Option ℕ) → option_map_or (λ w. option_map_or containers (points a w) false) o true ≡ option_map_or (λ w. option_map_or containers (points b w) false) o true
    held None = refl
    held (Some w) = ap (λ p. option_map_or containers p false) (same w)

    none : (c : Bool) (o : Option ℕ) → o ≡ cond c o o
    none true o = refl
    none false o = refl

    each : (c : Bool) (o : Option ℕ) (p : Bool) → cond (option_map_or (λ _. c) (cond p o None) false) (cond p o None) None ≡ cond (p && c) o None
    each c None true = none c None
    each c (Some t) true = refl
    each c o false = refl

-- ---- what a pass asks for after the short links are cleared

module _ (objects : Map Object) (short : Map ℕ) (found : ℕ → Bool) where
  pub here_still : (a : ℕ) → contains_key (cleared short found objects) a ≡ contains_key objects a
  here_still a = has_filled (is_dead objects short found) 0 objects a

  pub registered_still : (registrations : Map Registration) → AreRegistered objects registrations → AreRegistered (cleared short found objects) registrations
  registered_still registrations registered a r is = here_still a ∙ registered a r is

  pub targets_still : (links : Map ℕ) → AreTargets objects links → AreTargets (cleared short found objects) links
  targets_still links targets link target is = here_still target ∙ targets link target is

  pub closed_still : points objects 0 ≡ None → IsClosed objects found → IsClosed (cleared short found objects) found
  closed_still none closed a b h child = closed a b h (child_before (is_dead objects short found) objects none a b child)

  pub pointed : (long : Map ℕ) (kept : ℕ → Bool) (w : ℕ) → points (cleared long kept (cleared short found objects)) w ≡ points objects w
  pointed long kept w = points-filled (is_dead (cleared short found objects) long kept) 0 (cleared short found objects) w ∙ points-filled (is_dead objects short found) 0 objects w
