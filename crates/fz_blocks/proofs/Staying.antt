-- A block stays in the same sets: one that isn't full loses some of its objects, but not all, or gains one and isn't full.
use Rattle.std.proofs.Common.{◌≡◌, ℕ, ◌*◌, ◌%◌, ◌^◌, ◌≤◌, ◌<◌, ◌&&◌, ◌||◌, ◌==◌, not, true, false, bit_and, bit_or, w64, List, Some, slice_get, refl, sym, ap, ◌∙◌, subst, ⊎_elim, arith}
use Rattle.std.proofs.lemmas.Bool.{and_parts, leb-true, cases_lt, both_ways, not-true}
use Rattle.std.specs.Int.{bit_not, trailing_zeros}
use Rattle.std.proofs.lemmas.Option.{same_Some}
use Rattle.fz_model.specs.Allocation.{blocks_for}
use Rattle.fz_blocks.specs.declared.block.Block.{Block}
use Rattle.fz_model.specs.Bits.{has_bit}
use Rattle.fz_blocks.specs.Blocks.{starts_at, is_bare, is_full, Claims, CondemnsAll}
use Rattle.fz_blocks.specs.Claims.{IsCondemned, CondemnsIn}
use Rattle.fz_blocks.specs.Layout.{IsMap}
use Rattle.fz_blocks.specs.Listed.{IsListedAlike}
use Rattle.fz_blocks.specs.Runs.{FreesLater}
use Rattle.fz_blocks.proofs.Alike.{roomy, started_bare, condemned_alike}
use Rattle.fz_blocks.proofs.Bits.{set_bit}
use Rattle.fz_blocks.proofs.Objects.{same_bits, least_within, least_cell, least_free, before_least}
use Rattle.fz_blocks.proofs.Mapped.{map_condemned, some_condemned}

-- it begins no run of several blocks
no_later : (block : Block) (place : ℕ) → starts_at block place ≡ true → is_full block ≡ false → blocks_for block.size ≤ 1
no_later block place on unfull =
    let fits = leb-true block.size 64 (and_parts (not (is_full block)) _ (and_parts (not (block.objects == 0)) _ (roomy block place on unfull)).1).1 in
    omega (arith, fits)

frees_none : (blocks : List Block) (b count : ℕ) → count ≤ 1 → FreesLater blocks blocks b count
frees_none blocks b count one = record { long = refl; later = λ k some few. absurd (omega (arith, some, few, one)); others = λ c _. refl }

module _ (blocks : List Block) (at places : ℕ) (block : Block) (at_is : slice_get blocks at ≡ Some block) (unfull : is_full block ≡ false) (gone : (place : ℕ) × (starts_at block place ≡ true) × (has_bit places place ≡ true)) where
  pub stays_alike : (place : ℕ) × (starts_at block place ≡ true) × (has_bit places place ≡ false) → (was left : Block) → slice_get blocks at ≡ Some was → CondemnsAll was left places → IsListedAlike blocks at left
  stays_alike other was left here all =
      let condemns = subst (λ (k : Block). CondemnsAll k left places) (sym (same_Some block was (sym at_is ∙ here))) all in
      let bare = started_bare left other.0 (condemns.gone other.0 ∙ ap (λ t. not t && starts_at block other.0) other.2 ∙ other.1) in
      condemned_alike block left condemns.alike gone.0 gone.1 (condemns.gone gone.0 ∙ ap (λ t. not t && starts_at block gone.0) gone.2) blocks at at_is (is_full block) (is_bare left) refl refl
      (ap (λ t. t || is_bare left) unfull ∙ bare)

  pub stays_condemned : (new : List Block) (many : ℕ) → CondemnsIn blocks new at places many → IsMap blocks → IsMap new × IsCondemned blocks new at places many
  stays_condemned new many did map =
      let same = same_Some block did.was (sym at_is ∙ did.here) in
      let starts = subst (λ (k : Block). starts_at k gone.0 ≡ true) same gone.1 in
      let some : (place : ℕ) × (starts_at did.was place ≡ true) × (starts_at did.left place ≡ false) = (gone.0, starts, did.all.gone gone.0 ∙ ap (λ t. not t && starts_at did.was gone.0) gone.2) in
      let one = no_later did.was gone.0 starts (subst (λ (k : Block). is_full k ≡ false) same unfull) in
      let frees = frees_none new at (blocks_for did.left.size) (subst (λ n. blocks_for n ≤ 1) (sym did.all.alike.size) one) in
      (map_condemned blocks at places did.was did.left did.here did.all map some new did.new_is (blocks_for did.left.size) refl new frees, some_condemned blocks at places did.was did.left did.here did.all map some new did.new_is (blocks_for did.left.size) refl new frees many did.count)

-- ---- a claim

module _ (block new : Block) (place : ℕ) (claims : Claims block new place) (unfull : is_full block ≡ false) where
  abbrev least : ℕ
  least = trailing_zeros w64 (bit_and block.cells (bit_not w64 block.objects))

  -- the cell that is claimed is the least that is free
  least_is : place ≡ least
  least_is =
      ⊎_elim
      (λ (lt : place < least). absurd (both_ways _ claims.free (before_least block unfull least refl place lt claims.cell)))
      (λ (le : least ≤ place). ⊎_elim (λ (gt : least < place). absurd (both_ways _ (least_free block unfull least refl) (claims.least least gt (sym (block.cells_are least) ∙ least_cell block unfull least refl)))) (λ (ge : place ≤ least). omega (arith, le, ge)) (cases_lt least place))
      (cases_lt place least)

  objects_are : new.objects ≡ bit_or block.objects (1 * 2 ^ least % 2 ^ 64)
  objects_are = same_bits _ _ (λ i. claims.claimed i ∙ ap (λ p. i == p || starts_at block i) least_is ∙ sym (set_bit block.objects least i (least_within block unfull least refl)))

  pub claim_leaves_room : not (bit_or block.objects (1 * 2 ^ least % 2 ^ 64) == block.cells) ≡ true → is_full new ≡ false
  claim_leaves_room other = ap (λ n. n == new.cells) objects_are ∙ ap (λ n. bit_or block.objects (1 * 2 ^ least % 2 ^ 64) == n) claims.alike.cells ∙ not-true _ other
