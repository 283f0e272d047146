-- Objects that are condemned, block by block.
use Rattle.std.proofs.Common.{◌≡◌, ℕ, ◌+◌, ◌-◌, ◌*◌, ◌%◌, ◌<◌, ◌≤◌, ◌==◌, ◌||◌, ◌&&◌, not, Bool, true, false, cond, Option, Some, None, is_some, refl, sym, ap, ◌∙◌, ⊎_elim, arith, nat_le, All}
use Rattle.std.proofs.lemmas.Bool.{true≢false, cases_lt, le-leb, lt-leb, eq-eqb, ne_eqb, cases_eq}
use Rattle.std.proofs.lemmas.List.Elements.{All-contains}
use Rattle.std.specs.Cmp.{nat_cmp_total}
use Rattle.std.specs.FinMap.{get, keys, retain_keys, contains_key, same_map, nat_cmp-IsAntisymmetric}
use Rattle.fz_model.specs.State.{Map}
use Rattle.fz_model.specs.declared.limits.TheConstants.{HEAP_START, BLOCK_WORDS}
use Rattle.fz_model.specs.Allocation.{block_of}
use Rattle.fz_model.specs.Condemned.{stands_at}
use Rattle.fz_model.specs.Bits.{has_bit}
use Rattle.fz_model.specs.Extents.{IsInHeap}
use Rattle.fz_model.proofs.Lists.{contains_at}
use Rattle.fz_model.proofs.MapEntries.{key_in}
use Rattle.fz_model.proofs.Maps.{get-retain}

-- what is left when the blocks before one have been gone over
abbrev pub is_left : (ℕ → Bool) → ℕ → ℕ → Bool
is_left kept block a = kept a || nat_le block (block_of a)

module _ (kept : ℕ → Bool) (block places : ℕ) (outside : (place : ℕ) → place < 64 → has_bit places place ≡ not (kept (HEAP_START + BLOCK_WORDS * block + place))) where
  here : (k at bit now next : Bool) → at ≡ true → bit ≡ not k → now ≡ true → next ≡ false → (not (at && bit) && (k || now)) ≡ (k || next)
  here true true false now false e f g h = refl
  here false true true true false e f g h = refl
  here k false bit now next e f g h = absurd (true≢false (sym e))
  here k at bit now true e f g h = absurd (true≢false h)
  here k at bit false next e f g h = absurd (true≢false (sym g))
  here true at true now next e f g h = absurd (true≢false f)
  here false at false now next e f g h = absurd (true≢false (sym f))

  -- one block more
  pub left_step : (a : ℕ) → HEAP_START ≤ a → (not (stands_at block places a) && is_left kept block a) ≡ is_left kept (block + 1) a
  left_step a low =
      ⊎_elim
      (λ (before : block_of a < block). other (ne_eqb (block_of a) block (λ is. omega (arith, before, is))) (lt-leb block (block_of a) before ∙ sym (lt-leb (block + 1) (block_of a) (omega (arith, before)))))
      (λ (from : block ≤ block_of a).
      ⊎_elim
      (λ (is : block_of a ≡ block).
      here (kept a) (block_of a == block) (has_bit places place) (nat_le block (block_of a)) (nat_le (block + 1) (block_of a)) (eq-eqb (block_of a) block is) (outside place (omega arith) ∙ ap (λ x. not (kept x)) (address is)) (le-leb block (block_of a) from)
      (lt-leb (block + 1) (block_of a) (omega (arith, is))))
      (λ ne. other (ne_eqb (block_of a) block ne) (le-leb block (block_of a) from ∙ sym (le-leb (block + 1) (block_of a) (omega (arith, from, ne)))))
      (cases_eq (block_of a) block))
      (cases_lt (block_of a) block)
    where
      place : ℕ
      place = (a - HEAP_START) % BLOCK_WORDS

      address : block_of a ≡ block → HEAP_START + BLOCK_WORDS * block + place ≡ a
      address is = omega (arith, is, low)

      other : (block_of a == block) ≡ false → nat_le block (block_of a) ≡ nat_le (block + 1) (block_of a) → (not (stands_at block places a) && is_left kept block a) ≡ is_left kept (block + 1) a
      other apart same = ap (λ b. not (b && has_bit places place) && is_left kept block a) apart ∙ ap (λ b. kept a || b) same

-- before the first block nothing is gone, and past the last what isn't kept is
pub left_first : (kept : ℕ → Bool) (a : ℕ) → is_left kept 0 a ≡ true
left_first kept a = ap (λ b. kept a || b) (le-leb 0 (block_of a) (omega arith)) ∙ either (kept a)
  where
    either : (b : Bool) → (b || true) ≡ true
    either true = refl
    either false = refl

pub left_last : (kept : ℕ → Bool) (blocks block a : ℕ) → IsInHeap blocks a → blocks ≤ block → is_left kept block a ≡ kept a
left_last kept blocks block a inside past = ap (λ b. kept a || b) (lt-leb block (block_of a) (omega (arith, inside.0, inside.1, past))) ∙ neither (kept a)
  where
    neither : (b : Bool) → (b || false) ≡ b
    neither true = refl
    neither false = refl

-- ---- maps

module _ {X : Type 0} where
  pub has_retained : (m : Map X) (p : ℕ → Bool) (a : ℕ) → contains_key (retain_keys m p) a ≡ (contains_key m a && p a)
  has_retained m p a = ap is_some (get-retain m p a) ∙ at (get m a) (p a)
    where
      at : (o : Option X) (b : Bool) → is_some (cond b o None) ≡ (is_some o && b)
      at None true = refl
      at None false = refl
      at (Some x) true = refl
      at (Some x) false = refl

  -- tests that agree on all that is there
  pub retain_on : (m : Map X) (p r : ℕ → Bool) → ((a : ℕ) → contains_key m a ≡ true → p a ≡ r a) → retain_keys m p ≡ retain_keys m r
  retain_on m p r same = same_map nat_cmp_total nat_cmp-IsAntisymmetric _ _ (λ a. get-retain m p a ∙ at (get m a) (p a) (r a) (same a) ∙ sym (get-retain m r a))
    where
      at : (o : Option X) (b c : Bool) → (is_some o ≡ true → b ≡ c) → cond b o None ≡ cond c o None
      at None true true h = refl
      at None true false h = refl
      at None false true h = refl
      at None false false h = refl
      at (Some x) b c h = ap (λ b. cond b (Some x) None) (h refl)

  pub retain_all : (m : Map X) (p : ℕ → Bool) → ((a : ℕ) → p a ≡ true) → retain_keys m p ≡ m
  retain_all m p all = same_map nat_cmp_total nat_cmp-IsAntisymmetric _ _ (λ a. get-retain m p a ∙ ap (λ b. cond b (get m a) None) (all a))

  pub retain_twice : (m : Map X) (p r : ℕ → Bool) → retain_keys (retain_keys m p) r ≡ retain_keys m (λ a. r a && p a)
  retain_twice m p r =
      same_map nat_cmp_total nat_cmp-IsAntisymmetric _ _ (λ a. get-retain (retain_keys m p) r a ∙ ap (λ o. cond (r a) o None) (get-retain m p a) ∙ at (r a) (p a) (get m a) ∙ sym (get-retain m (λ a. r a && p a) a))
    where
      at : (b c : Bool) (o : Option X) → cond b (cond c o None) None ≡ cond (b && c) o None
      at true c o = refl
      at false c o = refl

  -- what holds of all keys
  pub of_keys : (m : Map X) (P : ℕ → Type 0) → All P (keys m) → (a : ℕ) → contains_key m a ≡ true → P a
  of_keys m P all a here = at (get m a) refl here
    where
      at : (o : Option X) → get m a ≡ o → is_some o ≡ true → P a
      at None is h = absurd (true≢false (sym h))
      at (Some x) is h = let key = key_in m a x is in All-contains P (keys m) a all (contains_at (keys m) key.0 a key.1)

-- ---- the cells that are condemned

pub condemned_step : (there stands left next was : Bool) → (there ≡ true → (not stands && left) ≡ next) → (((there && left) && stands) || ((there && not left) || was)) ≡ ((there && not next) || was)
condemned_step false stands left next was step = refl
condemned_step true stands left next was step = at stands left next (step refl)
  where
    at : (s l n : Bool) → (not s && l) ≡ n → ((l && s) || (not l || was)) ≡ (not n || was)
    at true true n e = ap (λ b. not b || was) e
    at true false n e = ap (λ b. not b || was) e
    at false true n e = ap (λ b. not b || was) e
    at false false n e = ap (λ b. not b || was) e
