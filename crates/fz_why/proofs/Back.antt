-- The path along a trail, from its end back to its beginning.
use Rattle.std.proofs.Common.{◌≡◌, ℕ, ◌<◌, List, [], ◌∷◌, ◌++◌, Some, slice_get, get_or, refl, sym, ap, ◌∙◌, subst, arith}
use Rattle.std.specs.Prelude.{reverse}
use Rattle.std.proofs.lemmas.List.{reverse-append}
use Rattle.std.proofs.lemmas.Option.{slice_get_within, slice_get-get_or}
use Rattle.fz_why.specs.declared.origin.Origin.{Origin}
use Rattle.fz_why.specs.declared.origin.Origin.TheVariants.{After}
use Rattle.fz_why.specs.Paths.{IsPath}
use Rattle.fz_why.specs.Trail.{Trail, IsAt, IsNext, IsOrdered, IsStart, IsTrailPath, from_start}
use Rattle.fz_why.proofs.Spreading.{same_at}

-- the path so far is from the object at this index
abbrev pub IsBackTo : Trail → ℕ → ℕ → List ℕ → Type 0
IsBackTo es o place path = (a : ℕ) × IsAt es place a × IsPath (IsNext es) a (reverse path) o

pushed : (path : List ℕ) (a : ℕ) → reverse (path ++ a ∷ []) ≡ a ∷ reverse path
pushed path a = reverse-append path (a ∷ [])

pub back_begins : (es : Trail) (o place : ℕ) (path : List ℕ) → path ≡ [] → IsAt es place o → IsBackTo es o place path
back_begins es o place path none at = (o, at, subst (λ p. IsPath (IsNext es) o (reverse p) o) (sym none) refl)

pub back_goes : (es : Trail) (o place now before : ℕ) (path new : List ℕ) → IsOrdered es → IsBackTo es o place path → slice_get es place ≡ Some (now, After before) → new ≡ path ++ now ∷ [] → IsBackTo es o before new
back_goes es o place now before path new ordered inv here is =
    let same : inv.0 ≡ now = same_at es place inv.0 now inv.1.0 (After before) inv.1.1 here in
    let low : before < place = ordered place before (now, After before) here refl in
    let high = slice_get_within es place (now, After before) here in
    let y = get_or es before (now, After before) in
    let at : IsAt es before y.0 = (y.1, slice_get-get_or es before (now, After before) (omega (arith, low, high))) in
    (y.0, at, subst (λ p. IsPath (IsNext es) y.0 p o) (sym (ap reverse is ∙ pushed path now)) ((place, before, at, here), subst (λ a. IsPath (IsNext es) a (reverse path) o) same inv.2))

pub back_ends : (es : Trail) (o place first : ℕ) (start : Origin) (path new : List ℕ) → IsBackTo es o place path → slice_get es place ≡ Some (first, start) → IsStart start → new ≡ from_start start (reverse (path ++ first ∷ [])) → IsTrailPath es o start new
back_ends es o place first start path new inv here begins is =
    let same : inv.0 ≡ first = same_at es place inv.0 first inv.1.0 start inv.1.1 here in
    record {
      first = first;
      rest = reverse path;
      place = place;
      starts = here;
      begins = begins;
      leads = subst (λ a. IsPath (IsNext es) a (reverse path) o) same inv.2;
      is = is ∙ ap (from_start start) (pushed path first);
    }
