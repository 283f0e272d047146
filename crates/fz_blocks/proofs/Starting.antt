-- The starts of objects, by rising address.
use Rattle.std.proofs.Common.{◌≡◌, ◌≢◌, ℕ, zero, suc, ◌+◌, ◌-◌, ◌*◌, ◌/◌, ◌%◌, ◌^◌, ◌<◌, ◌≤◌, Bool, true, false, cond, List, [], ◌∷◌, ◌++◌, map, filter, length, Option, Some, None, is_some, option_and_then, slice_get, nat_lt, nat_eq, nat_cmp, Greater, refl, sym, ap, ◌∙◌, ⊎_elim, arith, w64}
use Rattle.std.proofs.lemmas.Nat.{shr-shr, shr_le}
use Rattle.std.proofs.lemmas.Bool.{cond-true, cond-false, cases_lt, lt-ltb, le-ltb}
use Rattle.std.proofs.lemmas.Option.{none-some, slice_get_within}
use Rattle.std.proofs.lemmas.List.{map_push, append-nil, nil_from_length}
use Rattle.std.proofs.lemmas.List.Elements.{filter-append}
use Rattle.std.specs.Int.{bit_at, trailing_zeros}
use Rattle.std.specs.List.{range_with_len}
use Rattle.std.specs.Cmp.{nat_cmp_is, nat_cmp_total}
use Rattle.std.specs.Option.{option_map_or}
use Rattle.std.specs.FinMap as maps
use Rattle.std.specs.FinMap.{keys, entries, entries-insert, len-entries, len-empty}
use Rattle.std.specs.FinMap.Entries.{put, by_order}
use Rattle.fz_model.specs.declared.extent.Extent.{Extent}
use Rattle.fz_model.specs.State.{Map}
use Rattle.fz_model.proofs.MapEntries.{get_at}
use Rattle.fz_blocks.specs.declared.block.Block.{Block}
use Rattle.fz_blocks.specs.Tabulated.{tabulated}
use Rattle.fz_model.specs.Bits.{has_bit}
use Rattle.fz_blocks.specs.Blocks.{starts_at, extent_of, extent_in}
use Rattle.fz_blocks.specs.Layout.{extent_at, extents_in}
use Rattle.fz_blocks.specs.Starts.{IsFirstStart, starts_from}
use Rattle.fz_blocks.proofs.Bits.{lowest}
use Rattle.fz_model.proofs.Bits.{no_bits}
use Rattle.fz_blocks.proofs.Objects.{objects_fit, start_within}
use Rattle.fz_blocks.proofs.Tabulating.{get-tabulated}

-- ---- within a block

bit_at_shifted : (n k j : ℕ) → bit_at (n / 2 ^ k) j ≡ bit_at n (k + j)
bit_at_shifted n k j = ap (λ x. x % 2) (shr-shr n k j)

module _ (block : Block) (place rest : ℕ) (small : place < 64) (rest_is : rest ≡ block.objects / 2 ^ place) where
  rest_bit : (p : ℕ) → place ≤ p → starts_at block p ≡ has_bit rest (p - place)
  rest_bit p low =
      let at : place + (p - place) ≡ p = omega arith in
      ap (λ n. nat_eq n 1) (ap (bit_at block.objects) (sym at) ∙ sym (bit_at_shifted block.objects place (p - place)) ∙ ap (λ n. bit_at n (p - place)) (sym rest_is))

  pub no_start : rest ≡ 0 → (p : ℕ) → place ≤ p → p < 64 → starts_at block p ≡ false
  no_start none p low lt = rest_bit p low ∙ ap (λ n. has_bit n (p - place)) none ∙ no_bits (p - place)

  rest_fits : rest < 2 ^ 64
  rest_fits = let le = shr_le block.objects place in let fits = objects_fit block in omega (arith, le, fits, rest_is)

  pub first_start : (first : ℕ) → rest ≢ 0 → first ≡ place + trailing_zeros w64 rest → IsFirstStart block place first
  first_start first some is =
      let low = lowest rest (trailing_zeros w64 rest) some rest_fits refl in
      let gap : first - place ≡ trailing_zeros w64 rest = omega (arith, is) in
      let on : starts_at block first ≡ true = rest_bit first (omega (arith, is)) ∙ ap (has_bit rest) gap ∙ low.1 in
      record {
        after = omega (arith, is);
        within = start_within block first on;
        start = on;
        before = λ p from lt. rest_bit p from ∙ low.2 (p - place) (omega (arith, from, lt, gap));
      }

-- ---- within all blocks

claimed_then : (t : Bool) (x : Extent) → is_some (cond t (Some x) None) ≡ t
claimed_then true x = refl
claimed_then false x = refl

module _ (blocks : List Block) where
  abbrev starts : ℕ → Bool
  starts a = is_some (extent_at blocks a)

  starts_in : (a b : ℕ) (block : Block) → 65536 ≤ a → (a - 65536) / 64 ≡ b → slice_get blocks b ≡ Some block → starts a ≡ starts_at block ((a - 65536) % 64)
  starts_in a b block high at here =
      ap is_some (cond-false (nat_lt a 65536) None (option_and_then (extent_in ((a - 65536) % 64)) (slice_get blocks ((a - 65536) / 64))) (le-ltb a 65536 high) ∙ ap (option_and_then (extent_in ((a - 65536) % 64))) (ap (slice_get blocks) at ∙ here))
      ∙ claimed_then (starts_at block ((a - 65536) % 64)) (extent_of block)

  skip : (d n k : ℕ) → ((a : ℕ) → n ≤ a → a < n + d → starts a ≡ false) → filter starts (range_with_len n (d + k)) ≡ filter starts (range_with_len (n + d) k)
  skip zero n k off = let at : n ≡ n + 0 = omega arith in let len : 0 + k ≡ k = omega arith in ap (λ m. filter starts (range_with_len n m)) len ∙ ap (λ m. filter starts (range_with_len m k)) at
  skip (suc d) n k off =
      let len : suc d + k ≡ suc (d + k) = omega arith in
      let at : (n + 1) + d ≡ n + suc d = omega arith in
      ap (λ m. filter starts (range_with_len n m)) len
      ∙ cond-false (starts n) (n ∷ filter starts (range_with_len (n + 1) (d + k))) (filter starts (range_with_len (n + 1) (d + k))) (off n (omega arith) (omega arith))
      ∙ skip d (n + 1) k (λ a low lt. off a (omega arith) (omega arith))
      ∙ ap (λ m. filter starts (range_with_len m k)) at

  pub skip_to : (n m : ℕ) → n ≤ m → m ≤ 65536 + 64 * length blocks → ((a : ℕ) → n ≤ a → a < m → starts a ≡ false) → starts_from blocks n ≡ starts_from blocks m
  skip_to n m low high off =
      let len : 65536 + 64 * length blocks - n ≡ (m - n) + (65536 + 64 * length blocks - m) = omega arith in
      let at : n + (m - n) ≡ m = omega arith in
      ap (λ k. filter starts (range_with_len n k)) len
      ∙ skip (m - n) n (65536 + 64 * length blocks - m) (λ a l h. off a l (omega arith))
      ∙ ap (λ k. filter starts (range_with_len k (65536 + 64 * length blocks - m))) at

  pub one_start : (n : ℕ) → n < 65536 + 64 * length blocks → starts n ≡ true → starts_from blocks n ≡ n ∷ starts_from blocks (n + 1)
  one_start n lt on =
      let len : 65536 + 64 * length blocks - n ≡ suc (65536 + 64 * length blocks - (n + 1)) = omega arith in
      ap (λ k. filter starts (range_with_len n k)) len
      ∙ cond-true (starts n) (n ∷ starts_from blocks (n + 1)) (starts_from blocks (n + 1)) on

  module _ (next : ℕ) (block : Block) (high : 65536 ≤ next) (here : slice_get blocks ((next - 65536) / 64) ≡ Some block) where
    in_list : (next - 65536) / 64 < length blocks
    in_list = slice_get_within blocks ((next - 65536) / 64) block here

    same_block : (a : ℕ) → next ≤ a → a < next + (64 - (next - 65536) % 64) → starts a ≡ starts_at block ((a - 65536) % 64)
    same_block a low lt = starts_in a ((next - 65536) / 64) block (omega arith) (omega arith) here

    pub step_over : ((p : ℕ) → (next - 65536) % 64 ≤ p → p < 64 → starts_at block p ≡ false) → starts_from blocks next ≡ starts_from blocks (next + (64 - (next - 65536) % 64))
    step_over off =
        skip_to next (next + (64 - (next - 65536) % 64)) (omega arith) (omega (arith, in_list)) (λ a low lt. same_block a low lt ∙ off ((a - 65536) % 64) (omega arith) (omega arith))

    pub step_to : (start : ℕ) → IsFirstStart block ((next - 65536) % 64) start → starts_from blocks next ≡ (next - (next - 65536) % 64 + start) ∷ starts_from blocks (next - (next - 65536) % 64 + start + 1)
    step_to start is =
        let after = is.after in
        let within = is.within in
        let a = next - (next - 65536) % 64 + start in
        let place : (a - 65536) % 64 ≡ start = omega (arith, high, after, within) in
        skip_to next a (omega (arith, high, after)) (omega (arith, high, within, in_list))
        (λ x low lt. same_block x low (omega (arith, lt, after, within)) ∙ is.before ((x - 65536) % 64) (omega (arith, low, lt, high, after, within)) (omega (arith, low, lt, high, after, within)))
        ∙ one_start a (omega (arith, high, within, in_list)) (same_block a (omega (arith, high, after)) (omega (arith, high, within, after)) ∙ ap (starts_at block) place ∙ is.start)

-- ---- the keys

put_last : {X : Type 0} (k : ℕ) (v : X) (es : List (ℕ × X)) → ((i : ℕ) (e : ℕ × X) → slice_get es i ≡ Some e → e.0 < k) → put nat_cmp k v es ≡ es ++ (k, v) ∷ []
put_last k v [] below = refl
put_last k v (e ∷ es) below =
    ap (λ r. by_order r ((k, v) ∷ e ∷ es) ((e.0, v) ∷ es) (e ∷ put nat_cmp k v es)) (sym (nat_cmp_is k e.0 Greater (below 0 e refl)))
    ∙ ap (λ rest. e ∷ rest) (put_last k v es (λ i f here. below (suc i) f here))

range_push : (a n : ℕ) → range_with_len a (suc n) ≡ range_with_len a n ++ (a + n) ∷ []
range_push a zero = let e : a ≡ a + 0 = omega arith in ap (λ k. k ∷ []) e
range_push a (suc n) = let e : (a + 1) + n ≡ a + suc n = omega arith in ap (λ ks. a ∷ ks) (range_push (a + 1) n ∙ ap (λ k. range_with_len (a + 1) n ++ k ∷ []) e)

module _ {X : Type 0} (f : ℕ → Option X) where
  abbrev some_at : ℕ → Bool
  some_at q = is_some (f q)

  key_below : (n i : ℕ) (e : ℕ × X) → slice_get (entries (tabulated f n)) i ≡ Some e → e.0 < n
  key_below n i e here =
      ⊎_elim (λ lt. lt)
      (λ (past : n ≤ e.0). absurd (none-some e.1 (sym (get-tabulated f n e.0 ∙ cond-false (nat_lt e.0 n) (f e.0) None (le-ltb e.0 n past)) ∙ get_at (tabulated f n) i e here)))
      (cases_lt e.0 n)

  abbrev with_one : (n : ℕ) → Option X → Map X
  with_one n o = option_map_or (λ x. maps.insert (tabulated f n) n x) o (tabulated f n)

  key_more : (n : ℕ) (o : Option X) → f n ≡ o → keys (with_one n o) ≡ keys (tabulated f n) ++ filter some_at (n ∷ [])
  key_more n None is = sym (ap (λ o. keys (tabulated f n) ++ cond (is_some o) (n ∷ []) []) is ∙ append-nil (keys (tabulated f n)))
  key_more n (Some x) is =
      ap (map (λ (e : ℕ × X). e.0)) (entries-insert nat_cmp_total (tabulated f n) n x ∙ put_last n x (entries (tabulated f n)) (key_below n))
      ∙ map_push (λ (e : ℕ × X). e.0) (entries (tabulated f n)) (n, x)
      ∙ ap (λ ks. keys (tabulated f n) ++ ks) (sym (ap (λ o. cond (is_some o) (n ∷ []) []) is))

  pub keys-tabulated : (n : ℕ) → keys (tabulated f n) ≡ filter some_at (range_with_len 0 n)
  unfolding tabulated
  keys-tabulated zero = ap (map (λ (e : ℕ × X). e.0)) (nil_from_length (entries (maps.empty {K = ℕ} {X = X} {R = nat_cmp})) (sym (len-entries (maps.empty {K = ℕ} {X = X} {R = nat_cmp})) ∙ len-empty nat_cmp X))
  keys-tabulated (suc n) =
      key_more n (f n) refl ∙ ap (λ ks. ks ++ filter some_at (n ∷ [])) (keys-tabulated n)
      ∙ sym (ap (filter some_at) (range_push 0 n) ∙ filter-append some_at (range_with_len 0 n) ((0 + n) ∷ []) ∙ ap (λ m. filter some_at (range_with_len 0 n) ++ filter some_at (m ∷ [])) (zero_more n))
    where
      zero_more : (n : ℕ) → 0 + n ≡ n
      zero_more n = omega arith

pub keys-extents_in : (blocks : List Block) → keys (extents_in blocks) ≡ starts_from blocks 65536
keys-extents_in blocks =
    let all : 65536 + 64 * length blocks ≡ 65536 + 64 * length blocks - 0 = omega arith in
    keys-tabulated (extent_at blocks) (65536 + 64 * length blocks)
    ∙ ap (λ n. filter (λ a. is_some (extent_at blocks a)) (range_with_len 0 n)) all
    ∙ skip_to blocks 0 65536 (omega arith) (omega arith) (λ a low lt. ap is_some (cond-true (nat_lt a 65536) None (option_and_then (extent_in ((a - 65536) % 64)) (slice_get blocks ((a - 65536) / 64))) (lt-ltb a 65536 lt)))
