-- What the map's calls do to its extents and to its condemned cells.
use Rattle.std.proofs.Common.{◌≡◌, ◌≢◌, ℕ, ◌+◌, ◌-◌, ◌/◌, ◌%◌, ◌*◌, ◌^◌, ◌<◌, ◌≤◌, Bool, true, false, cond, not, ◌&&◌, ◌||◌, ◌==◌, List, length, set, Option, Some, None, is_some, option_and_then, slice_get, refl, sym, ap, ◌∙◌, subst, ⊎_elim, arith, length-set}
use Rattle.std.proofs.lemmas.Bool.{and_from, cond-false, cases_eq, cases_Bool, eq-eqb, ne_eqb, both_ways, and_parts, eqb-true}
use Rattle.std.proofs.lemmas.Option.{same_Some, slice_get_within}
use Rattle.std.specs.Int.Count.{ones}
use Rattle.std.specs.FinMap.{get, remove, retain_keys, contains_key}
use Rattle.std.specs.FinMap as maps
use Rattle.std.specs.FinSet.{contains, insert, len}
use Rattle.std.specs.Option.{option_map_or}
use Rattle.fz_model.specs.declared.limits.TheConstants.{MAX_BLOCKS}
use Rattle.fz_model.specs.declared.extent.Extent.{Extent}
use Rattle.fz_model.specs.Allocation.{block_start, blocks_for}
use Rattle.fz_blocks.specs.declared.block.Block.{Block}
use Rattle.fz_model.specs.Bits.{has_bit}
use Rattle.fz_blocks.specs.Blocks.{starts_at, extent_of, extent_in, IsAlike, CondemnsAll}
use Rattle.fz_blocks.specs.Claimed.{Claimed, stands_at, swept}
use Rattle.fz_blocks.specs.Layout.{extents_in, condemned_in, AreRuns, IsMap}
use Rattle.fz_model.proofs.Maps.{get-retain, get-remove_same, get-remove_other}
use Rattle.fz_model.proofs.Sets.{has_inserted, same_members}
use Rattle.fz_blocks.specs.Claims.{IsCondemned}
use Rattle.fz_blocks.specs.Runs.{FreesLater}
use Rattle.fz_blocks.proofs.Bits.{one_bit, same_test}
use Rattle.fz_blocks.proofs.Condemned.{low_condemned, condemned-place, len-condemned_in, waiting_set, condemned_later, swept_is}
use Rattle.fz_blocks.proofs.Extents.{by_place, low_extent, get-place, extents_are, extent_is_at}
use Rattle.fz_blocks.proofs.Changes.{stands_place, swept_extents, chosen_extents}
use Rattle.fz_blocks.proofs.Fewer.{fewer_keys}
use Rattle.fz_blocks.proofs.Freed.{later_extents, freed_runs, gone_first}
use Rattle.fz_blocks.proofs.Listed.{slice_get-set_same, slice_get-set_other}

-- what contracts see of blocks
abbrev pub seen : List Block → Claimed
seen blocks = record { blocks = length blocks; extents = extents_in blocks; condemned = condemned_in blocks }

some_key : (o : Option Extent) → is_some o ≡ true → (x : Extent) × (o ≡ Some x)
some_key None on = absurd (both_ways _ refl on)
some_key (Some x) on = (x, refl)

-- an object starts at a key, in its block and at its place there
pub record IsStart (blocks : List Block) (a : ℕ) : Type 0 where
  pub high : 65536 ≤ a
  pub block : Block
  pub here : slice_get blocks ((a - 65536) / 64) ≡ Some block
  pub starts : starts_at block ((a - 65536) % 64) ≡ true

pub key_start : (blocks : List Block) (a : ℕ) → contains_key (extents_in blocks) a ≡ true → IsStart blocks a
key_start blocks a key =
    let found = some_key _ key in
    let at = extent_is_at blocks a found.0 found.1 in
    let start = at.at in
    let small = at.small in
    let block_is : at.block ≡ (a - 65536) / 64 = omega (arith, start, small) in
    let place_is : at.place ≡ (a - 65536) % 64 = omega (arith, start, small) in
    record {
      high = omega (arith, start);
      block = at.inside;
      here = ap (slice_get blocks) (sym block_is) ∙ at.here;
      starts = ap (starts_at at.inside) (sym place_is) ∙ at.starts;
    }

-- what starts in a block has the size of its cells
pub size_at : (blocks : List Block) (b : ℕ) (block : Block) → slice_get blocks b ≡ Some block → (a : ℕ) (x : Extent) → get (extents_in blocks) a ≡ Some x → (a - 65536) / 64 ≡ b → x.size ≡ block.size
size_at blocks b block here a x got is =
    let at = extent_is_at blocks a x got in
    let start = at.at in
    let small = at.small in
    let block_is : at.block ≡ b = omega (arith, start, small, is) in
    let same = same_Some at.inside block (sym at.here ∙ ap (slice_get blocks) block_is ∙ here) in
    sym (ap (λ (e : Extent). e.size) at.is) ∙ ap (λ (k : Block). k.size) same

-- whether an object starts at a place of a block
pub start_key : (blocks : List Block) (b p : ℕ) (block : Block) → slice_get blocks b ≡ Some block → p < 64 → starts_at block p ≡ contains_key (extents_in blocks) (block_start b + p)
start_key blocks b p block here small =
    sym (ap is_some (get-place blocks b p small ∙ ap (option_and_then (extent_in p)) here)
    ∙ elim (starts_at block p) as (λ t. is_some (cond t (Some (extent_of block)) None) ≡ t) [ true ↦ refl | false ↦ refl ])

pub extent_by : (blocks : List Block) (a o : ℕ) → 65536 ≤ a → o ≡ a - 65536 → get (extents_in blocks) a ≡ option_and_then (extent_in (o % 64)) (slice_get blocks (o / 64))
extent_by blocks a o high is = let at : block_start (o / 64) + o % 64 ≡ a = omega (arith, high, is) in ap (get (extents_in blocks)) (sym at) ∙ get-place blocks (o / 64) (o % 64) (omega arith)

-- ---- condemned cells

pub are_gone : (blocks : List Block) (a : ℕ) → contains (condemned_in blocks) a ≡ true → contains_key (extents_in blocks) a ≡ false
are_gone blocks = by_place (λ a. contains (condemned_in blocks) a ≡ true → contains_key (extents_in blocks) a ≡ false) (λ a lt on. ap is_some (low_extent blocks a lt)) (λ b p small on.
    ap is_some (get-place blocks b p small) ∙ apart (slice_get blocks b) p (sym (condemned-place blocks b p small) ∙ on))
  where
    apart : (o : Option Block) (p : ℕ) → option_map_or (λ (block : Block). has_bit block.condemned p) o false ≡ true → is_some (option_and_then (extent_in p) o) ≡ false
    apart None p on = refl
    apart (Some block) p on =
        let off : starts_at block p ≡ false = ⊎_elim (λ starts. absurd (both_ways _ (block.separate p starts) on)) (λ off. off) (cases_Bool (starts_at block p)) in
        ap is_some (cond-false (starts_at block p) (Some (extent_of block)) None off)

-- ---- a block is swept

module _ (blocks : List Block) (b : ℕ) (old new : Block) (here : slice_get blocks b ≡ Some old) (alike : IsAlike old new) (objects : new.objects ≡ old.objects) where
  put : (c : ℕ) → c ≡ b → slice_get (set blocks b new) c ≡ Some new
  put c is = ap (slice_get (set blocks b new)) is ∙ slice_get-set_same blocks b new (slice_get_within blocks b old here)

  kept : (c : ℕ) → c ≢ b → slice_get (set blocks b new) c ≡ slice_get blocks c
  kept c ne = slice_get-set_other blocks b c new ne

  -- each block, with its size, its distance back and whether an object starts at its first word, is as it was
  as_before : (c : ℕ) (block : Block) → slice_get (set blocks b new) c ≡ Some block → (before : Block) × (slice_get blocks c ≡ Some before) × (block.size ≡ before.size) × (block.back ≡ before.back) × (block.objects ≡ before.objects)
  as_before c block at =
      ⊎_elim
      (λ (is : c ≡ b). let same = same_Some block new (sym at ∙ put c is) in (old, ap (slice_get blocks) is ∙ here, ap (λ (k : Block). k.size) same ∙ alike.size, ap (λ (k : Block). k.back) same ∙ alike.back, ap (λ (k : Block). k.objects) same ∙ objects))
      (λ (ne : c ≢ b). (block, sym (kept c ne) ∙ at, refl, refl, refl))
      (cases_eq c b)

  as_after : (c : ℕ) (block : Block) → slice_get blocks c ≡ Some block → (after : Block) × (slice_get (set blocks b new) c ≡ Some after) × (after.size ≡ block.size) × (after.back ≡ block.back) × (after.objects ≡ block.objects)
  as_after c block at =
      ⊎_elim
      (λ (is : c ≡ b). let same = same_Some old block (sym here ∙ ap (slice_get blocks) (sym is) ∙ at) in (new, put c is, alike.size ∙ ap (λ (k : Block). k.size) same, alike.back ∙ ap (λ (k : Block). k.back) same, objects ∙ ap (λ (k : Block). k.objects) same))
      (λ (ne : c ≢ b). (block, kept c ne ∙ at, refl, refl, refl))
      (cases_eq c b)

  swept_runs : AreRuns blocks → AreRuns (set blocks b new)
  swept_runs runs = record {
    ahead = λ c k first at on low reach.
        let before = as_before c first at in
        let size = before.2 in
        let later = runs.ahead c k before.0 before.1 (ap (λ n. has_bit n 0) (sym before.4) ∙ on) low (omega (arith, size, reach)) in
        let after = as_after (c + k) later.0 later.1 in
        (after.0, after.1, after.3 ∙ later.2);
    behind = λ c later at low.
        let before = as_before c later at in
        let back = before.3 in
        let was = runs.behind c before.0 before.1 (omega (arith, back, low)) in
        let reaches = was.reaches in
        let within = was.within in
        let after = as_after (c - before.0.back) was.first was.here in
        let size = after.2 in
        record {
          within = omega (arith, within, back);
          first = after.0;
          here = ap (λ n. slice_get (set blocks b new) (c - n)) back ∙ after.1;
          starts = ap (λ n. has_bit n 0) after.4 ∙ was.starts;
          reaches = omega (arith, reaches, size, back);
        };
  }

pub map_swept : (blocks : List Block) → IsMap blocks → (b : ℕ) (old new : Block) → slice_get blocks b ≡ Some old → IsAlike old new → new.objects ≡ old.objects → (now : List Block) → now ≡ set blocks b new → IsMap now
map_swept blocks is b old new here alike objects now now_is = subst IsMap (sym now_is) (record {
  some = subst (λ n. 1 ≤ n) (sym (length-set blocks b new)) is.some;
  few = subst (λ n. n ≤ MAX_BLOCKS) (sym (length-set blocks b new)) is.few;
  runs = swept_runs blocks b old new here alike objects is.runs;
})

pub swept_view : (blocks : List Block) (b : ℕ) (old new : Block) → slice_get blocks b ≡ Some old → IsAlike old new → new.objects ≡ old.objects → new.condemned ≡ 0 → (now : List Block) → now ≡ set blocks b new → seen now ≡ record { blocks = length blocks; extents = extents_in blocks; condemned = swept (condemned_in blocks) b 1 }
swept_view blocks b old new here alike objects clean now now_is =
    ap seen now_is
    ∙ ap (λ n. record { blocks = n; extents = extents_in (set blocks b new); condemned = condemned_in (set blocks b new) }) (length-set blocks b new)
    ∙ ap (λ m. record { blocks = length blocks; extents = m; condemned = condemned_in (set blocks b new) }) (swept_extents blocks b old new here alike objects)
    ∙ ap (λ s. record { blocks = length blocks; extents = extents_in blocks; condemned = s }) (swept_is blocks (set blocks b new) b 1
    (λ c out. slice_get-set_other blocks b c new (λ same. ⊎_elim (λ less. omega (arith, same, less)) (λ past. omega (arith, same, past)) out))
    (λ c block low high at. let c_is : c ≡ b = omega (arith, low, high) in ap (λ (k : Block). k.condemned) (same_Some block new (sym at ∙ put blocks b old new here alike objects c c_is)) ∙ clean))

-- ---- the objects at chosen places of a block are condemned

module _ (blocks : List Block) (b places : ℕ) (was now : Block) (here : slice_get blocks b ≡ Some was) (all : CondemnsAll was now places) where
  chosen_condemned : (a : ℕ) → contains (condemned_in (set blocks b now)) a ≡ (contains_key (extents_in blocks) a && stands_at b places a || contains (condemned_in blocks) a)
  chosen_condemned =
      by_place (λ a. contains (condemned_in (set blocks b now)) a ≡ (contains_key (extents_in blocks) a && stands_at b places a || contains (condemned_in blocks) a)) low
      (λ c p small. ⊎_elim (λ (is : c ≡ b). subst (λ c. contains (condemned_in (set blocks b now)) (block_start c + p) ≡ (contains_key (extents_in blocks) (block_start c + p) && stands_at b places (block_start c + p) || contains (condemned_in blocks) (block_start c + p))) (sym is) (own p small)) (other c p small) (cases_eq c b))
    where
      low : (a : ℕ) → a < 65536 → contains (condemned_in (set blocks b now)) a ≡ (contains_key (extents_in blocks) a && stands_at b places a || contains (condemned_in blocks) a)
      low a lt = low_condemned (set blocks b now) a lt ∙ sym (ap (λ t. t && stands_at b places a || contains (condemned_in blocks) a) (ap is_some (low_extent blocks a lt)) ∙ low_condemned blocks a lt)

      swap : (x y z : Bool) → (x && y || z) ≡ (y && x || z)
      swap true true z = refl
      swap true false z = refl
      swap false true z = refl
      swap false false z = refl

      neither : (x y : Bool) → y ≡ (x && false || y)
      neither true y = refl
      neither false y = refl

      own : (p : ℕ) → p < 64 → contains (condemned_in (set blocks b now)) (block_start b + p) ≡ (contains_key (extents_in blocks) (block_start b + p) && stands_at b places (block_start b + p) || contains (condemned_in blocks) (block_start b + p))
      own p small =
          condemned-place (set blocks b now) b p small
          ∙ ap (λ o. option_map_or (λ (block : Block). has_bit block.condemned p) o false) (slice_get-set_same blocks b now (slice_get_within blocks b was here))
          ∙ all.condemned p
          ∙ swap (has_bit places p) (starts_at was p) (has_bit was.condemned p)
          ∙ ap (λ t. t && has_bit places p || has_bit was.condemned p) (start_key blocks b p was here small)
          ∙ ap (λ t. contains_key (extents_in blocks) (block_start b + p) && t || has_bit was.condemned p) (sym (stands_place b b places p small ∙ ap (λ t. t && has_bit places p) (eq-eqb b b refl)))
          ∙ ap (λ t. contains_key (extents_in blocks) (block_start b + p) && stands_at b places (block_start b + p) || t)
          (sym (condemned-place blocks b p small ∙ ap (λ o. option_map_or (λ (block : Block). has_bit block.condemned p) o false) here))

      other : (c p : ℕ) → p < 64 → c ≢ b → contains (condemned_in (set blocks b now)) (block_start c + p) ≡ (contains_key (extents_in blocks) (block_start c + p) && stands_at b places (block_start c + p) || contains (condemned_in blocks) (block_start c + p))
      other c p small ne =
          condemned-place (set blocks b now) c p small
          ∙ ap (λ o. option_map_or (λ (block : Block). has_bit block.condemned p) o false) (slice_get-set_other blocks b c now ne)
          ∙ sym (condemned-place blocks c p small)
          ∙ neither (contains_key (extents_in blocks) (block_start c + p)) (contains (condemned_in blocks) (block_start c + p))
          ∙ ap (λ t. contains_key (extents_in blocks) (block_start c + p) && t || contains (condemned_in blocks) (block_start c + p)) (sym (stands_place b c places p small ∙ ap (λ t. t && has_bit places p) (ne_eqb c b ne)))

  -- where no object starts at any of the places
  module _ (same : now.objects ≡ was.objects) where
    none_chosen : (a : ℕ) → (contains_key (extents_in blocks) a && stands_at b places a) ≡ false
    none_chosen a = ⊎_elim (λ on. absurd (found (and_parts (contains_key (extents_in blocks) a) (stands_at b places a) on))) (λ off. off) (cases_Bool (contains_key (extents_in blocks) a && stands_at b places a))
      where
        found : (contains_key (extents_in blocks) a ≡ true) × (stands_at b places a ≡ true) → ⊥
        found parts =
            let start = key_start blocks a parts.0 in
            let place = and_parts ((a - 65536) / 64 == b) (has_bit places ((a - 65536) % 64)) parts.1 in
            let is = eqb-true ((a - 65536) / 64) b place.0 in
            let on = subst (λ k. starts_at k ((a - 65536) % 64) ≡ true) (same_Some start.block was (sym start.here ∙ ap (slice_get blocks) is ∙ here)) start.starts in
            both_ways _ (all.gone ((a - 65536) % 64) ∙ ap (λ t. not t && starts_at was ((a - 65536) % 64)) place.1) (ap (λ n. has_bit n ((a - 65536) % 64)) same ∙ on)

    pub none_condemned : IsCondemned blocks blocks b places 0
    none_condemned = record {
      long = refl;
      extents = sym (swept_extents blocks b was now here all.alike same) ∙ chosen_extents blocks b was now here places all;
      condemned = λ a. sym (ap (λ t. t || contains (condemned_in blocks) a) (none_chosen a));
      count = omega arith;
      fewer = omega arith;
    }

  -- where an object starts at one of them
  module _ (is : IsMap blocks) (some : (place : ℕ) × (starts_at was place ≡ true) × (starts_at now place ≡ false)) (mid : List Block) (mid_is : mid ≡ set blocks b now) (count : ℕ) (count_is : count ≡ blocks_for now.size) (new : List Block) (frees : FreesLater mid new b count) where
    chosen_long : length new ≡ length blocks
    chosen_long = frees.long ∙ ap length mid_is ∙ length-set blocks b now

    pub map_condemned : IsMap new
    map_condemned = record {
      some = subst (λ n. 1 ≤ n) (sym chosen_long) is.some;
      few = subst (λ n. n ≤ MAX_BLOCKS) (sym chosen_long) is.few;
      runs = freed_runs blocks new is.runs b some.0 was now here some.1 all.alike (gone_first was now some.0 some.1 some.2) (subst (λ n. FreesLater (set blocks b now) new b n) (count_is ∙ ap blocks_for all.alike.size) (subst (λ ms. FreesLater ms new b count) mid_is frees));
    }

    pub some_condemned : (result : ℕ) → ones now.condemned ≡ ones was.condemned + result → IsCondemned blocks new b places result
    some_condemned result more = record {
      long = chosen_long;
      extents = extents;
      condemned = condemned;
      count = grown;
      fewer = ap (λ m. maps.len m + result) extents ∙ fewer_keys (extents_in blocks) (stands_at b places) (condemned_in blocks) (condemned_in new) condemned (are_gone blocks) result grown;
    }
      where
        extents : extents_in new ≡ retain_keys (extents_in blocks) (λ a. not (stands_at b places a))
        extents = later_extents mid new b count frees ∙ ap extents_in mid_is ∙ chosen_extents blocks b was now here places all

        condemned_is : condemned_in new ≡ condemned_in (set blocks b now)
        condemned_is = condemned_later mid new b count frees ∙ ap condemned_in mid_is

        condemned : (a : ℕ) → contains (condemned_in new) a ≡ (contains_key (extents_in blocks) a && stands_at b places a || contains (condemned_in blocks) a)
        condemned a = ap (λ s. contains s a) condemned_is ∙ chosen_condemned a

        grown : len (condemned_in new) ≡ len (condemned_in blocks) + result
        grown =
            let before = len-condemned_in blocks in
            let after = ap len condemned_is ∙ len-condemned_in (set blocks b now) in
            let change = waiting_set blocks b was now (slice_get_within blocks b was here) here in
            omega (arith, before, after, change, more)

-- where just one object starts at the places
pub one_condemned : (old new : List Block) (b place count : ℕ) → place < 64 → contains_key (extents_in old) (block_start b + place) ≡ true → IsCondemned old new b (1 * 2 ^ place % 2 ^ 64) count → seen new ≡ record { blocks = length old; extents = remove (extents_in old) (block_start b + place); condemned = insert (condemned_in old) (block_start b + place) }
one_condemned old new b place count small key is =
    ap (λ n. record { blocks = n; extents = extents_in new; condemned = condemned_in new }) is.long
    ∙ ap (λ m. record { blocks = length old; extents = m; condemned = condemned_in new }) (extents_are new (remove (extents_in old) (block_start b + place)) (λ a lt. get-remove_other (extents_in old) (block_start b + place) a (λ e. omega (arith, e, lt)) ∙ low_extent old a lt) (λ c p lt. sym (sym (get-place new c p lt) ∙ ap (λ m. get m (block_start c + p)) is.extents ∙ left c p lt)))
    ∙ ap (λ s. record { blocks = length old; extents = remove (extents_in old) (block_start b + place); condemned = s }) (same_members _ _ (by_place (λ a. contains (condemned_in new) a ≡ contains (insert (condemned_in old) (block_start b + place)) a)
    (λ a lt. low_condemned new a lt ∙ sym (has_inserted (condemned_in old) (block_start b + place) a ∙ ap (λ t. t || contains (condemned_in old) a) (ne_eqb a (block_start b + place) (λ e. omega (arith, e, lt))) ∙ low_condemned old a lt))
    (λ c p lt. is.condemned (block_start c + p) ∙ ap (λ t. t || contains (condemned_in old) (block_start c + p)) (ap (λ t. contains_key (extents_in old) (block_start c + p) && t) (one c p lt) ∙ keyed (block_start c + p)) ∙ sym (has_inserted (condemned_in old) (block_start b + place) (block_start c + p)))))
  where
    one : (c p : ℕ) → p < 64 → stands_at b (1 * 2 ^ place % 2 ^ 64) (block_start c + p) ≡ (block_start c + p == block_start b + place)
    one c p lt =
        stands_place b c (1 * 2 ^ place % 2 ^ 64) p lt
        ∙ ap (λ t. (c == b) && t) (one_bit place p small)
        ∙ same_test _ _
        (λ on.
        let parts = and_parts (c == b) (p == place) on in
        let c_is = eqb-true c b parts.0 in
        let p_is = eqb-true p place parts.1 in
        eq-eqb (block_start c + p) (block_start b + place) (omega (arith, c_is, p_is)))
        (λ on. let e = eqb-true (block_start c + p) (block_start b + place) on in and_from (c == b) (p == place) (eq-eqb c b (omega (arith, e, lt, small))) (eq-eqb p place (omega (arith, e, lt, small))))

    keyed : (a : ℕ) → (contains_key (extents_in old) a && (a == block_start b + place)) ≡ (a == block_start b + place)
    keyed a = same_test _ _ (λ on. (and_parts (contains_key (extents_in old) a) (a == block_start b + place) on).1) (λ on. and_from (contains_key (extents_in old) a) (a == block_start b + place) (ap (contains_key (extents_in old)) (eqb-true a (block_start b + place) on) ∙ key) on)

    left : (c p : ℕ) → p < 64 → get (retain_keys (extents_in old) (λ a. not (stands_at b (1 * 2 ^ place % 2 ^ 64) a))) (block_start c + p) ≡ get (remove (extents_in old) (block_start b + place)) (block_start c + p)
    left c p lt =
        get-retain (extents_in old) (λ a. not (stands_at b (1 * 2 ^ place % 2 ^ 64) a)) (block_start c + p)
        ∙ ⊎_elim
        (λ (is : block_start c + p ≡ block_start b + place).
        ap (λ t. cond (not t) (get (extents_in old) (block_start c + p)) None) (one c p lt ∙ eq-eqb (block_start c + p) (block_start b + place) is)
        ∙ sym (ap (get (remove (extents_in old) (block_start b + place))) is ∙ get-remove_same (extents_in old) (block_start b + place)))
        (λ (ne : block_start c + p ≢ block_start b + place).
        ap (λ t. cond (not t) (get (extents_in old) (block_start c + p)) None) (one c p lt ∙ ne_eqb (block_start c + p) (block_start b + place) ne)
        ∙ sym (get-remove_other (extents_in old) (block_start b + place) (block_start c + p) ne))
        (cases_eq (block_start c + p) (block_start b + place))
