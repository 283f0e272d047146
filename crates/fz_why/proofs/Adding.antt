-- What is added to a trail, in parts.
use Rattle.std.proofs.Common.{◌≡◌, ℕ, ◌+◌, ◌↔◌, ◌⊎◌, ◌++◌, Bool, true, false, cond, [], ◌∷◌, length, Option, Some, None, slice_get, refl, sym, ap, ◌∙◌, inl, inr, ⊎_elim, arith, zero, suc, IsTrue}
use Rattle.std.proofs.lemmas.Option.{none-some, same_Some, slice_get_past}
use Rattle.fz_model.proofs.Lists.{slice_get-left, slice_get-right, slice_get-cases}
use Rattle.fz_why.specs.declared.origin.Origin.{Origin}
use Rattle.fz_why.specs.Trail.{Trail, has, added, Adds}
use Rattle.fz_why.proofs.Trails.{has_at, at_some}

-- what is there stays there
pub still : (old new : Trail) → ((k : ℕ) (x : ℕ × Origin) → slice_get old k ≡ Some x → slice_get new k ≡ Some x) → (a : ℕ) → IsTrue (has old a) → IsTrue (has new a)
still old new kept a h = let at = at_some old a h in has_at new at.0 a (at.1.0, kept at.0 (a, at.1.0) at.1.1)

-- what isn't there wasn't
not_yet : (old mid : Trail) → ((k : ℕ) (x : ℕ × Origin) → slice_get old k ≡ Some x → slice_get mid k ≡ Some x) → (k : ℕ) → slice_get mid k ≡ None → slice_get old k ≡ None
not_yet old mid kept k none = one (slice_get old k) refl
  where
    one : (o : Option (ℕ × Origin)) → slice_get old k ≡ o → slice_get old k ≡ None
    one None at = at
    one (Some x) at = absurd (none-some x (sym none ∙ kept k x at))

-- nothing is added
pub adds_nothing : (P : Origin → ℕ → Type 0) (es : Trail) → ((origin : Origin) (b : ℕ) → P origin b → ⊥) → Adds P es es
adds_nothing P es none = record { kept = λ k x h. h; each = λ k x. inl; whole = λ origin b p. absurd (none origin b p) }

-- one is added
pub adds_one : (es new : Trail) (a : ℕ) (origin : Origin) → new ≡ added es a origin → Adds (λ o b. (o ≡ origin) × (b ≡ a)) es new
adds_one es new a origin is = one (has es a) refl
  where
    Claim : Type 0
    Claim = Adds (λ o b. (o ≡ origin) × (b ≡ a)) es new

    one : (b : Bool) → has es a ≡ b → Claim
    one true there =
        let same : new ≡ es = is ∙ ap (λ b. cond b es (es ++ (a, origin) ∷ [])) there in
        record {
          kept = λ k x h. ap (λ t. slice_get t k) same ∙ h;
          each = λ k x h. inl (sym (ap (λ t. slice_get t k) same) ∙ h);
          whole = λ o b p. ap (λ t. has t b) same ∙ (ap (has es) p.1 ∙ there);
        }
    one false absent =
        let more : new ≡ es ++ (a, origin) ∷ [] = is ∙ ap (λ b. cond b es (es ++ (a, origin) ∷ [])) absent in
        record {
          kept = λ k x h. ap (λ t. slice_get t k) more ∙ slice_get-left es ((a, origin) ∷ []) k x h;
          each = λ k x h. ⊎_elim inl (λ r. inr (slice_get_past es k (omega (arith, r.1)), last x r.0 r.2)) (slice_get-cases es ((a, origin) ∷ []) k x (sym (ap (λ t. slice_get t k) more) ∙ h));
          whole = λ o b p. ap (has new) p.1 ∙ has_at new (length es + 0) a (origin, ap (λ t. slice_get t (length es + 0)) more ∙ slice_get-right es ((a, origin) ∷ []) 0);
        }
      where
        last : (x : ℕ × Origin) (i : ℕ) → slice_get ((a, origin) ∷ []) i ≡ Some x → (x.1 ≡ origin) × (x.0 ≡ a)
        last x zero at = let e = same_Some (a, origin) x at in (sym (ap (λ (y : ℕ × Origin). y.1) e), sym (ap (λ (y : ℕ × Origin). y.0) e))
        last x (suc i) at = absurd (none-some x at)

-- one part after the other
pub adds_on : {P Q : Origin → ℕ → Type 0} {old mid new : Trail} → (R : Origin → ℕ → Type 0) → Adds P old mid → Adds Q mid new → ((o : Origin) (b : ℕ) → R o b ↔ (P o b ⊎ Q o b)) → Adds R old new
adds_on {P} {Q} {old} {mid} {new} R g h both = record {
  kept = λ k x at. h.kept k x (g.kept k x at);
  each = λ k x at. ⊎_elim (λ was. ⊎_elim inl (λ p. inr (p.0, (both x.1 x.0).1 (inl p.1))) (g.each k x was)) (λ q. inr (not_yet old mid g.kept k q.0, (both x.1 x.0).1 (inr q.1))) (h.each k x at);
  whole = λ o b r. ⊎_elim (λ p. still mid new h.kept b (g.whole o b p)) (λ q. h.whole o b q) ((both o b).0 r);
}

-- the same in other words
pub adds_as : {P : Origin → ℕ → Type 0} {old new : Trail} → (R : Origin → ℕ → Type 0) → Adds P old new → ((o : Origin) (b : ℕ) → R o b ↔ P o b) → Adds R old new
adds_as R g both = record {
  kept = g.kept;
  each = λ k x at. ⊎_elim inl (λ p. inr (p.0, (both x.1 x.0).1 p.1)) (g.each k x at);
  whole = λ o b r. g.whole o b ((both o b).0 r);
}
