-- The roots that a world marks are those of the model.
use Rattle.std.proofs.Common.{◌≡◌, ◌↔◌, ℕ, Bool, false, not, is_some, refl, sym, ap, ◌∙◌, inl, inr, ⊎_elim, true≢false, IsTrue, All, nat_cmp}
use Rattle.std.proofs.lemmas.List.Elements.{Contains-get_or}
use Rattle.std.specs.FinMap.{get, contains_key}
use Rattle.std.specs.FinSet.{contains, empty, contains-empty}
use Rattle.fz_model.specs.declared.answers.Entry.{Entry}
use Rattle.fz_model.specs.State.{Core, Map, Object}
use Rattle.fz_model.specs.Reachability.{IsRoot, Slot, ClientData, HeldObject, HeldData, Registered, IsReachable, Leads, Itself, OneMore}
use Rattle.fz_model.specs.Parts.{AreSound}
use Rattle.fz_model.specs.Pass.{Passes}
use Rattle.fz_model.specs.declared.answers.Passed.{Passed}
use Rattle.fz_model.proofs.Sound.{is_some_of}
use Rattle.fz_bits.specs.Flags.{Set}
use Rattle.fz_marker.specs.Marking.{Marking, IsClosed}
use Rattle.fz_world.specs.Roots.{Marks, IsRootHere}

-- the roots of a core, as a world goes over them
abbrev pub IsRootIn : Core → ℕ → Type 0
IsRootIn c a = IsRootHere c.objects c.frames c.registrations c.held (IsTrue c.closed) a

module _ (c : Core) where
  pub is_root : (a : ℕ) → IsRootIn c a → IsRoot c a
  is_root a h = ⊎_elim
      (λ k. ⊎_elim (λ s. Slot s.0 s.2.0 s.1 s.2.1 s.2.2) (λ r. ⊎_elim (λ data_. ClientData r.0 r.1 r.2 data_) (λ own. Registered r.1 own.0 (ap (get c.registrations) (sym own.1) ∙ r.2)) r.3) k)
      (λ e. ⊎_elim (λ same. HeldObject e.0 e.1 same) (λ data_. HeldData e.0 e.1 data_) e.2) h

  pub is_here : (a : ℕ) → IsRoot c a → IsRootIn c a
  is_here a (Slot frame word in_frames in_frame points) = inl (inl (frame, in_frames, (word, in_frame, points)))
  is_here a (ClientData object r here points) = inl (inr (object, r, here, inl points))
  is_here a (HeldObject e held same) = inr (e, held, inl same)
  is_here a (HeldData e held points) = inr (e, held, inr points)
  is_here a (Registered r closed here) = inl (inr (a, r, here, inr (closed, refl)))

  -- marks that began empty have just the roots
  pub just_roots : (old new : Marking) → old.marked ≡ empty → Marks old new (IsRootIn c) → (a : ℕ) → IsTrue (contains new.marked a) ↔ IsRoot c a
  just_roots old new none h a = (
    λ t. ⊎_elim (λ was. absurd (true≢false (sym was ∙ ap (λ s. contains s a) none ∙ contains-empty nat_cmp a))) (is_root a) ((h.members a).0 t),
    λ r. (h.members a).1 (inr (is_here a r)),
  )

-- ---- objects of registrations and of held entries are in the heap

module _ (c : Core) (sound : AreSound c.objects c.registrations c.next_number c.queue c.held) where
  pub registered_here : (a : ℕ) → IsTrue (contains_key c.registrations a) → IsTrue (contains_key c.objects a)
  unfolding AreSound
  registered_here a t = let r = is_some_of (get c.registrations a) (ap is_none_ t) in let o = sound.exists a r.0 r.1 in ap is_some o.1
    where
      is_none_ : Bool → Bool
      is_none_ b = not b

  pub held_here : All (λ (e : Entry). IsTrue (contains_key c.objects e.obj)) c.held
  unfolding AreSound
  held_here k d l = let o = sound.held_object _ (Contains-get_or c.held k d l) in ap is_some o.1

-- ---- closed marks

-- what marked objects lead to is marked
pub follow : (objects : Map Object) (marked : Set) → IsClosed objects marked → (from a : ℕ) → IsTrue (contains marked from) → Leads objects from a → IsTrue (contains marked a)
follow objects marked closed from a t Itself = t
follow objects marked closed from a t (OneMore {b = b} leads child) = closed b (follow objects marked closed from b t leads) a child

-- closed marks that have the roots have all that is reachable,
pub has_reachable : (c : Core) (marked : Set) → IsClosed c.objects marked → ((a : ℕ) → IsRoot c a → IsTrue (contains marked a)) → (a : ℕ) → IsReachable c a → IsTrue (contains marked a)
has_reachable c marked closed roots a r = follow c.objects marked closed r.root a (roots r.root r.is_root) r.leads

-- and no more where they are led from the roots
pub is_reachable : (c : Core) (marked : Set) → ((a : ℕ) → IsTrue (contains marked a) → (from : ℕ) × IsRoot c from × Leads c.objects from a) → (a : ℕ) → IsTrue (contains marked a) → IsReachable c a
is_reachable c marked led a t = let from = led a t in record { root = from.0; is_root = from.1; leads = from.2 }

-- a pass doesn't hang on whether a cycle was open
pub same_pass : (c : Core) (found : ℕ → Bool) (passed : Passed) (new : Core) → Passes (record c { cycle = false }) found passed new → Passes c found passed new
same_pass c found passed new p = record { decision = p.decision; is = p.is; reply = p.reply }
