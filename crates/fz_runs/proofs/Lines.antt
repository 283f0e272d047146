-- Lines that are added at the end, and causes of a refused opening.
use Rattle.std.proofs.Common.{◌≡◌, ◌≢◌, ℕ, ◌+◌, List, [], ◌∷◌, ◌++◌, Bool, true, false, Option, Some, ◌∙◌, ap, sym, subst, refl, append-nil, arith, length, length-append, filter, flat_map}
use Rattle.std.proofs.lemmas.List.Elements.{All-nil, All-push, filter-append}
use Rattle.std.proofs.lemmas.List.Concat.{flat_map-append}
use Rattle.std.specs.List.{All}
use Rattle.fz_model.specs.declared.refusal.Refusal.{Refusal}
use Rattle.fz_model.specs.declared.refusal.Refusal.TheVariants.{BadCount}
use Rattle.fz_model.specs.Causes.{first_cause}
use Rattle.fz_runs.specs.Lines.{with_lf, IsOneLine, all_lines, is_kept, IsEnded, AreLines, EndsAt}

pub filter_kept : (lines : List (List ℕ)) (line : List ℕ) → is_kept line ≡ true → filter is_kept (lines ++ line ∷ []) ≡ filter is_kept lines ++ line ∷ []
filter_kept lines line h = filter-append is_kept lines (line ∷ []) ∙ ap (λ l. filter is_kept lines ++ l) (rw h refl)

pub filter_skipped : (lines : List (List ℕ)) (line : List ℕ) → is_kept line ≡ false → filter is_kept (lines ++ line ∷ []) ≡ filter is_kept lines
filter_skipped lines line h = filter-append is_kept lines (line ∷ []) ∙ ap (λ l. filter is_kept lines ++ l) (rw h refl) ∙ append-nil _

pub with_last : (lines : List (List ℕ)) (line : List ℕ) → line ≢ [] → all_lines lines line ≡ lines ++ line ∷ []
with_last lines [] h = absurd (h refl)
with_last lines (b ∷ bs) h = refl

-- between two lines: the bytes so far are lines, of which P holds, and the next line has this number
pub record Between (P : List (List ℕ) → Type 0) (bytes : List ℕ) (number : ℕ) : Type 0 where
  pub lines : List (List ℕ)
  pub is : bytes ≡ flat_map with_lf lines
  pub each : All IsOneLine lines
  pub place : length lines + 1 ≡ number
  pub holds : P lines

pub at_first : (P : List (List ℕ) → Type 0) → P [] → Between P [] 1
at_first P h = record { lines = []; is = refl; each = All-nil IsOneLine; place = refl; holds = h }

-- a line with its LF
pub line_more : {P : List (List ℕ) → Type 0} (Q : List (List ℕ) → Type 0) (seen line : List ℕ) (number : ℕ) → (p : Between P seen number) → IsOneLine line → Q (p.lines ++ line ∷ []) → Between Q (seen ++ with_lf line) (number + 1)
line_more Q seen line number p one h = record {
  lines = p.lines ++ line ∷ [];
  is = ap (λ b. b ++ with_lf line) p.is ∙ ap (λ l. flat_map with_lf p.lines ++ l) (sym (append-nil (with_lf line))) ∙ sym (flat_map-append with_lf p.lines (line ∷ []));
  each = All-push IsOneLine p.lines line p.each one;
  place = omega (arith, length-append p.lines (line ∷ []), p.place);
  holds = h;
}

-- the end between two lines
abbrev pub ends_here : {P : List (List ℕ) → Type 0} (Q : List (List ℕ) → Type 0) (seen bytes : List ℕ) (number : ℕ) → (p : Between P seen number) → bytes ≡ [] → Q p.lines → AreLines Q (seen ++ bytes) number
ends_here Q seen bytes number p e h = record {
  lines = p.lines;
  last = [];
  split = record { is = ap (λ b. seen ++ b) e ∙ ap (λ b. b ++ []) p.is; each = p.each; one = All-nil (λ b. b ≢ 10) };
  place = p.place;
  holds = h;
}

-- the end after a line that has no LF
abbrev pub ends_last : {P : List (List ℕ) → Type 0} (Q : List (List ℕ) → Type 0) (seen bytes line : List ℕ) (number : ℕ) → (p : Between P seen number) → bytes ≡ line → line ≢ [] → IsOneLine line → Q (p.lines ++ line ∷ []) → AreLines Q (seen ++ bytes) (number + 1)
ends_last Q seen bytes line number p e some one h =
    let lines : all_lines p.lines line ≡ p.lines ++ line ∷ [] = with_last p.lines line some in record {
      lines = p.lines;
      last = line;
      split = record { is = ap (λ b. seen ++ b) e ∙ ap (λ b. b ++ line) p.is; each = p.each; one = one };
      place = ap (λ l. length l + 1) lines ∙ omega (arith, length-append p.lines (line ∷ []), p.place);
      holds = subst Q (sym lines) h;
    }

-- the next line
pub next_at : {P : List (List ℕ) → Type 0} (Q : List (List ℕ) → Type 0) (seen bytes line end : List ℕ) (left : Option (List ℕ)) (number : ℕ) → (p : Between P seen number) → bytes ≡ line ++ end → IsOneLine line → IsEnded line end left → Q p.lines
    → EndsAt Q (seen ++ bytes) left number line
next_at Q seen bytes line end left number p is one ended h =
    record { lines = p.lines; end = end; is = ap (λ b. seen ++ b) is ∙ ap (λ b. b ++ (line ++ end)) p.is; each = p.each; one = one; ended = ended; place = p.place; holds = h }

-- an opening whose counts are wrong is refused for that
pub counts_only : (a b c : Bool) (q : Refusal) → first_cause ((a, BadCount) ∷ (b, BadCount) ∷ (c, BadCount) ∷ []) ≡ Some q → q ≡ BadCount
counts_only true b c q h = cc
counts_only false true c q h = cc
counts_only false false true q h = cc
counts_only false false false q h = absurd cc
