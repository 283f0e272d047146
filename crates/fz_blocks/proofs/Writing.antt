-- How a run is written, block by block.
use Rattle.std.proofs.Common.{◌≡◌, ◌≢◌, ℕ, ◌+◌, ◌<◌, ◌≤◌, inl, inr, List, length, set, Some, slice_get, refl, sym, ap, ◌∙◌, subst, ⊎_elim, arith, length-set}
use Rattle.std.proofs.lemmas.Bool.{cases_eq}
use Rattle.fz_blocks.specs.declared.block.Block.{Block}
use Rattle.fz_blocks.specs.Runs.{WritesRun, FreesLater}
use Rattle.fz_blocks.specs.Blocks.{Detaches}
use Rattle.fz_blocks.proofs.Listed.{slice_get-set_same, slice_get-set_other}

pub first_written : (old new : List Block) (b : ℕ) (first : Block) → b < length old → new ≡ set old b first → WritesRun old new b 1 first
first_written old new b first lt is = subst (λ xs. WritesRun old xs b 1 first) (sym is) (record {
  long = length-set old b first;
  here = slice_get-set_same old b first lt;
  later = λ k low high. absurd (omega (arith, low, high));
  others = λ c out. slice_get-set_other old b c first (λ same. ⊎_elim (λ less. omega (arith, same, less)) (λ past. omega (arith, same, past)) out);
})

pub next_written : (old mid new : List Block) (b count : ℕ) (first later : Block) → 1 ≤ count → b + count < length old → WritesRun old mid b count first → (later.back ≡ count) × (later.condemned ≡ 0) → new ≡ set mid (b + count) later → WritesRun old new b (count + 1) first
next_written old mid new b count first later some lt writes back is = subst (λ xs. WritesRun old xs b (count + 1) first) (sym is) (record {
  long = length-set mid (b + count) later ∙ writes.long;
  here = slice_get-set_other mid (b + count) b later (λ same. omega (arith, same, some)) ∙ writes.here;
  later = λ k low high.
      ⊎_elim
      (λ (same : k ≡ count). (later, ap (λ n. slice_get (set mid (b + count) later) (b + n)) same ∙ slice_get-set_same mid (b + count) later in_mid, back.0 ∙ sym same, back.1))
      (λ (ne : k ≢ count). let was = writes.later k low (omega (arith, high, ne)) in (was.0, slice_get-set_other mid (b + count) (b + k) later (λ same. ne (omega (arith, same))) ∙ was.1, was.2, was.3))
      (cases_eq k count);
  others = λ c out. slice_get-set_other mid (b + count) c later (λ same. ⊎_elim (λ less. omega (arith, same, less)) (λ past. omega (arith, same, past)) out)
      ∙ writes.others c (⊎_elim (λ less. inl less) (λ past. inr (omega (arith, past))) out);
})
  where
    in_mid : b + count < length mid
    in_mid = let long = writes.long in omega (arith, lt, long)

pub none_freed : (old : List Block) (b : ℕ) → FreesLater old old b 1
none_freed old b = record { long = refl; later = λ k low high. absurd (omega (arith, low, high)); others = λ c out. refl }

pub next_freed : (old mid new : List Block) (b count : ℕ) (was now : Block) → 1 ≤ count → b + count < length old → FreesLater old mid b count → slice_get mid (b + count) ≡ Some was → Detaches was now → new ≡ set mid (b + count) now → FreesLater old new b (count + 1)
next_freed old mid new b count was now some lt frees here detaches is = subst (λ xs. FreesLater old xs b (count + 1)) (sym is) (record {
  long = length-set mid (b + count) now ∙ frees.long;
  later = λ k low high.
      ⊎_elim
      (λ (same : k ≡ count). (was, now, ap (λ n. slice_get old (b + n)) same ∙ sym (frees.others (b + count) (inr (omega arith))) ∙ here, ap (λ n. slice_get (set mid (b + count) now) (b + n)) same ∙ slice_get-set_same mid (b + count) now in_mid, detaches))
      (λ (ne : k ≢ count). let done = frees.later k low (omega (arith, high, ne)) in (done.0, done.1, done.2, slice_get-set_other mid (b + count) (b + k) now (λ same. ne (omega (arith, same))) ∙ done.3, done.4))
      (cases_eq k count);
  others = λ c out. slice_get-set_other mid (b + count) c now (λ same. ⊎_elim (λ less. omega (arith, same, less, some)) (λ past. omega (arith, same, past)) out)
      ∙ frees.others c (⊎_elim (λ less. inl less) (λ past. inr (omega (arith, past))) out);
})
  where
    in_mid : b + count < length mid
    in_mid = let long = frees.long in omega (arith, lt, long)
