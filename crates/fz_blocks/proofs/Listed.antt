-- A list of blocks and its sets, as one block changes.
use Rattle.std.proofs.Common.{◌≡◌, ◌≢◌, ℕ, suc, zero, ◌<◌, ◌≤◌, Bool, true, false, cond, not, ◌||◌, ◌&&◌, ◌==◌, List, [], ◌∷◌, length, Option, Some, None, MatchOption, slice_get, slice_index_or, set, nat_le, nat_eq, nat_cmp, refl, sym, ap, ◌∙◌, subst, ⊎_elim, arith, length-set}
use Rattle.std.proofs.lemmas.Bool.{cases_eq, eq-eqb, ne_eqb, eqb-true, and_parts, leb-true, cond-true, cond-false, both_ways}
use Rattle.std.proofs.lemmas.List.{get_or_read, get_or-set_same, get_or-set_other}
use Rattle.std.specs.Option.{option_map_or}
use Rattle.std.specs.FinSet as sets
use Rattle.std.specs.FinSet.{contains, empty, contains-empty}
use Rattle.fz_model.specs.declared.kinds.ObjKind.{ObjKind}
use Rattle.fz_model.specs.declared.kinds.ObjKind.TheVariants.{Scanned, Atomic}
use Rattle.fz_model.specs.declared.limits.TheConstants.{MAX_BLOCKS}
use Rattle.fz_model.specs.Allocation.{same_kind}
use Rattle.fz_model.proofs.Sets.{has_inserted, has_removed}
use Rattle.fz_blocks.specs.declared.block.Block.{Block}
use Rattle.fz_blocks.specs.BlockSets.{BlockNumbers, no_room, members_at, room_at, IsLeast}
use Rattle.fz_bits.specs.Flags.{Flagged}
use Rattle.fz_blocks.specs.Classes.{class_of}
use Rattle.fz_blocks.specs.Blocks.{is_full, has_free_cell, has_same_room, is_bare}
use Rattle.fz_blocks.specs.Layout.{has_room}
use Rattle.fz_blocks.specs.Listed.{AreListed, IsFirst, Leaves, Joins, Changes}

-- ---- one element of a list

module _ {X : Type 0} where
  pub slice_get-set_same : (xs : List X) (i : ℕ) (x : X) → i < length xs → slice_get (set xs i x) i ≡ Some x
  slice_get-set_same [] i x lt = absurd (omega (arith, lt))
  slice_get-set_same (y ∷ xs) zero x lt = refl
  slice_get-set_same (y ∷ xs) (suc i) x lt = slice_get-set_same xs i x (omega (arith, lt))

  pub slice_get-set_other : (xs : List X) (i j : ℕ) (x : X) → j ≢ i → slice_get (set xs i x) j ≡ slice_get xs j
  slice_get-set_other [] i j x ne = refl
  slice_get-set_other (y ∷ xs) zero zero x ne = absurd (ne refl)
  slice_get-set_other (y ∷ xs) zero (suc j) x ne = refl
  slice_get-set_other (y ∷ xs) (suc i) zero x ne = refl
  slice_get-set_other (y ∷ xs) (suc i) (suc j) x ne = slice_get-set_other xs i j x (λ e. ne (ap suc e))

  pub slice_get-set : (xs : List X) (i : ℕ) (x : X) → i < length xs → (j : ℕ) → slice_get (set xs i x) j ≡ cond (nat_eq j i) (Some x) (slice_get xs j)
  slice_get-set xs i x lt j =
      ⊎_elim
      (λ (is : j ≡ i). ap (slice_get (set xs i x)) is ∙ slice_get-set_same xs i x lt ∙ sym (cond-true (nat_eq j i) (Some x) (slice_get xs j) (eq-eqb j i is)))
      (λ (ne : j ≢ i). slice_get-set_other xs i j x ne ∙ sym (cond-false (nat_eq j i) (Some x) (slice_get xs j) (ne_eqb j i ne)))
      (cases_eq j i)

-- ---- the set of a block's class

pub room_is : (class : ℕ) (block : Block) → has_room class block ≡ (has_free_cell block && (class_of block.size block.kind == class))
room_is class block = parts (not (block.objects == 0)) (not (is_full block)) (nat_le block.size 64) (class_of block.size block.kind == class)
  where
    parts : (x y z t : Bool) → (x && (y && (z && t))) ≡ ((x && (y && z)) && t)
    parts false y z t = refl
    parts true false z t = refl
    parts true true z t = refl

pub class_small : (block : Block) → has_free_cell block ≡ true → block.size ≤ 64
class_small block on = leb-true block.size 64 (and_parts (not (is_full block)) _ (and_parts (not (block.objects == 0)) _ on).1).1

pub class_below : (block : Block) → has_free_cell block ≡ true → class_of block.size block.kind < 128
class_below block on = at block.size block.kind block.sized (class_small block on)
  where
    at : (size : ℕ) (kind : ObjKind) → 1 ≤ size → size ≤ 64 → class_of size kind < 128
    at size Scanned sized small = omega arith
    at size Atomic sized small = omega arith

module _ (rooms : List Flagged) (block : Block) (at : ℕ) where
  module _ (on : has_free_cell block ≡ true) (i : ℕ) (is : i ≡ class_of block.size block.kind) (classes : length rooms ≡ 128) where
    within : i < length rooms
    within = let below = class_below block on in omega (arith, below, is, classes)

    module _ (read : Flagged) (here : read ≡ slice_index_or rooms i read) where
      read_is : slice_index_or rooms i read ≡ slice_index_or rooms i no_room
      read_is = sym here ∙ get_or_read rooms i read within here no_room

      -- the set that is read has room for what each has room for
      pub room_read : ((d : ℕ) → d < 128 → at < room_at rooms d) → at < (slice_index_or rooms i read).size
      room_read room =
          let some = room i (omega (arith, class_below block on, is)) in
          let same = ap (λ (s : Flagged). s.size) read_is in
          omega (arith, some, same)

      -- the set of the class changes at the block
      module _ (change : Bool → Bool → Bool) (unchanged : (u : Bool) → change false u ≡ u) (members : BlockNumbers) (are : (q : ℕ) → contains members q ≡ change (nat_eq q at) (contains (slice_index_or rooms i read).members q)) where
        abbrev now : Flagged
        now = record (slice_index_or rooms i read) { members = members }

        own : (d : ℕ) → d ≡ i → has_room d block ≡ true
        own d same = room_is d block ∙ ap (λ t. t && (class_of block.size block.kind == d)) on ∙ eq-eqb _ d (sym (same ∙ is))

        other : (d : ℕ) → d ≢ i → has_room d block ≡ false
        other d ne = room_is d block ∙ ap (λ t. t && (class_of block.size block.kind == d)) on ∙ ne_eqb _ d (λ e. ne (sym e ∙ sym is))

        room_kept : (d : ℕ) → room_at (set rooms i now) d ≡ room_at rooms d
        room_kept d =
            ⊎_elim
            (λ (same : d ≡ i). ap (room_at (set rooms i now)) same ∙ ap (λ (s : Flagged). s.size) (get_or-set_same rooms i now no_room within) ∙ ap (λ (s : Flagged). s.size) read_is ∙ ap (room_at rooms) (sym same))
            (λ (ne : d ≢ i). ap (λ (s : Flagged). s.size) (get_or-set_other rooms i d now no_room ne))
            (cases_eq d i)

        changed : (d q : ℕ) → contains (members_at (set rooms i now) d) q ≡ change (has_room d block && q == at) (contains (members_at rooms d) q)
        changed d q =
            ⊎_elim
            (λ (same : d ≡ i).
            ap (λ j. contains (members_at (set rooms i now) j) q) same
            ∙ ap (λ (s : Flagged). contains s.members q) (get_or-set_same rooms i now no_room within)
            ∙ are q
            ∙ ap (λ (s : Flagged). change (q == at) (contains s.members q)) (read_is ∙ ap (λ j. slice_index_or rooms j no_room) (sym same))
            ∙ ap (λ t. change (t && q == at) (contains (members_at rooms d) q)) (sym (own d same)))
            (λ (ne : d ≢ i).
            ap (λ (s : Flagged). contains s.members q) (get_or-set_other rooms i d now no_room ne)
            ∙ sym (ap (λ t. change (t && q == at) (contains (members_at rooms d) q)) (other d ne) ∙ unchanged (contains (members_at rooms d) q)))
            (cases_eq d i)

      pub leaves_room : Leaves rooms (set rooms i (record (slice_index_or rooms i read) { members = sets.remove (slice_index_or rooms i read).members at })) block at
      leaves_room = record {
        long = length-set rooms i _;
        room = room_kept (λ t u. not t && u) (λ u. refl) _ (has_removed (slice_index_or rooms i read).members at);
        are = changed (λ t u. not t && u) (λ u. refl) _ (has_removed (slice_index_or rooms i read).members at);
      }

      pub joins_room : Joins rooms (set rooms i (record (slice_index_or rooms i read) { members = sets.insert (slice_index_or rooms i read).members at })) block at
      joins_room = record {
        long = length-set rooms i _;
        room = room_kept (λ t u. t || u) (λ u. refl) _ (has_inserted (slice_index_or rooms i read).members at);
        are = changed (λ t u. t || u) (λ u. refl) _ (has_inserted (slice_index_or rooms i read).members at);
      }

-- ---- a block becomes another

kind_is : (k l : ObjKind) → same_kind k l ≡ true → k ≡ l
kind_is Scanned Scanned on = refl
kind_is Scanned Atomic on = absurd (both_ways _ refl on)
kind_is Atomic Scanned on = absurd (both_ways _ refl on)
kind_is Atomic Atomic on = refl

-- blocks that are in the sets of the same classes
same_rooms : (old new : Block) → has_same_room old new ≡ true → (d : ℕ) → has_room d old ≡ has_room d new
same_rooms old new alike d = room_is d old ∙ parts (has_free_cell old) (has_free_cell new) alike ∙ sym (room_is d new)
  where
    parts : (x y : Bool) → cond x (y && ((old.size == new.size) && same_kind old.kind new.kind)) (not y) ≡ true → (x && (class_of old.size old.kind == d)) ≡ (y && (class_of new.size new.kind == d))
    parts true true on =
        let both = and_parts (old.size == new.size) _ on in
        ap (λ n. class_of n old.kind == d) (eqb-true old.size new.size both.0) ∙ ap (λ k. class_of new.size k == d) (kind_is old.kind new.kind both.1)
    parts true false on = absurd (both_ways _ refl on)
    parts false true on = absurd (both_ways _ refl on)
    parts false false on = refl

-- where the sets have the block in the classes in which it was listed
module _ (rooms : List Flagged) (at : ℕ) (old new : Block) (listed : (class : ℕ) → class < 128 → contains (members_at rooms class) at ≡ has_room class old) where
  pub changes_none : has_same_room old new ≡ true → Changes rooms rooms new at
  changes_none alike = record {
    long = refl;
    room = λ d. refl;
    are = λ d b small. stays d b small (b == at) refl;
  }
    where
      stays : (d b : ℕ) → d < 128 → (t : Bool) → (b == at) ≡ t → contains (members_at rooms d) b ≡ cond t (has_room d new) (contains (members_at rooms d) b)
      stays d b small true is = ap (contains (members_at rooms d)) (eqb-true b at is) ∙ listed d small ∙ same_rooms old new alike d
      stays d b small false is = refl

  pub changes_both : (left joined : List Flagged) → Leaves rooms left old at → Joins left joined new at → Changes rooms joined new at
  changes_both left joined leaves joins = record {
    long = joins.long ∙ leaves.long;
    room = λ d. joins.room d ∙ leaves.room d;
    are = λ d b small. joins.are d b ∙ ap (λ t. has_room d new && b == at || t) (leaves.are d b) ∙ changed d b small (b == at) refl;
  }
    where
      settle : (x y : Bool) → ((x && true) || (not (y && true) && y)) ≡ x
      settle true y = refl
      settle false true = refl
      settle false false = refl

      keep : (x y z : Bool) → ((x && false) || (not (y && false) && z)) ≡ z
      keep true true z = refl
      keep true false z = refl
      keep false true z = refl
      keep false false z = refl

      changed : (d b : ℕ) → d < 128 → (t : Bool) → (b == at) ≡ t → ((has_room d new && t) || (not (has_room d old && t) && contains (members_at rooms d) b)) ≡ cond t (has_room d new) (contains (members_at rooms d) b)
      changed d b small true is =
          ap (λ u. (has_room d new && true) || (not (has_room d old && true) && u)) (ap (contains (members_at rooms d)) (eqb-true b at is) ∙ listed d small)
          ∙ settle (has_room d new) (has_room d old)
      changed d b small false is = keep (has_room d new) (has_room d old) (contains (members_at rooms d) b)

pub put_listed : (blocks : List Block) (bare bare_now : Flagged) (rooms changed : List Flagged) (at : ℕ) (new : Block) → AreListed blocks bare rooms → at < length blocks → Changes rooms changed new at → bare_now.size ≡ bare.size → ((b : ℕ) → contains bare_now.members b ≡ cond (b == at) (is_bare new) (contains bare.members b)) → AreListed (set blocks at new) bare_now changed
put_listed blocks bare bare_now rooms changed at new listed lt changes room_is bare_is = record {
  few = subst (λ n. n ≤ MAX_BLOCKS) (sym (length-set blocks at new)) listed.few;
  classes = changes.long ∙ listed.classes;
  bare_room = let long = length-set blocks at new in let was = listed.bare_room in omega (arith, long, was, room_is);
  rooms_room = λ class small. let long = length-set blocks at new in let was = listed.rooms_room class small in let same = changes.room class in omega (arith, long, was, same);
  bare_are = λ b. bare_is b ∙ ap (cond (b == at) (is_bare new)) (listed.bare_are b) ∙ sym (set_at (slice_get blocks b) is_bare (b == at)) ∙ ap (λ o. option_map_or is_bare o false) (sym (slice_get-set blocks at new lt b));
  rooms_are = λ d b small. changes.are d b small ∙ ap (cond (b == at) (has_room d new)) (listed.rooms_are d b small) ∙ sym (set_at (slice_get blocks b) (has_room d) (b == at)) ∙ ap (λ o. option_map_or (has_room d) o false) (sym (slice_get-set blocks at new lt b));
}
  where
    set_at : (o : Option Block) (f : Block → Bool) (t : Bool) → option_map_or f (cond t (Some new) o) false ≡ cond t (f new) (option_map_or f o false)
    set_at o f true = refl
    set_at o f false = refl

-- ---- the least of a set

pub first_of : (blocks : List Block) (members : BlockNumbers) (test : Block → Bool) → ((b : ℕ) → contains members b ≡ option_map_or test (slice_get blocks b) false) → (b : ℕ) → IsLeast members b → IsFirst test blocks b
first_of blocks members test are b least =
    let found = member (slice_get blocks b) refl (sym (are b) ∙ least.member) in
    record { block = found.0; here = found.1; passes = found.2; before = λ c other lt here. ap (λ o. option_map_or test o false) (sym here) ∙ sym (are c) ∙ least.before c lt }
  where
    member : (o : Option Block) → slice_get blocks b ≡ o → option_map_or test o false ≡ true → (k : Block) × (slice_get blocks b ≡ Some k) × (test k ≡ true)
    member None is on = absurd (both_ways _ refl on)
    member (Some k) is on = (k, is, on)

pub none_of : (blocks : List Block) (members : BlockNumbers) (test : Block → Bool) → ((b : ℕ) → contains members b ≡ option_map_or test (slice_get blocks b) false) → members ≡ empty → (b : ℕ) (block : Block) → slice_get blocks b ≡ Some block → test block ≡ false
none_of blocks members test are none b block here = ap (λ o. option_map_or test o false) (sym here) ∙ sym (are b) ∙ ap (λ s. contains s b) none ∙ contains-empty nat_cmp b

pub first_found : (blocks : List Block) (members : BlockNumbers) (test : Block → Bool) → ((b : ℕ) → contains members b ≡ option_map_or test (slice_get blocks b) false) → (r : Option ℕ) → MatchOption r (members ≡ empty) (λ b. IsLeast members b) → MatchOption r ((b : ℕ) (block : Block) → slice_get blocks b ≡ Some block → test block ≡ false) (λ b. IsFirst test blocks b)
first_found blocks members test are None none = none_of blocks members test are none
first_found blocks members test are (Some b) least = first_of blocks members test are b least

pub small_found : (blocks : List Block) (test : Block → Bool) (size : ℕ) → size ≤ 64 → (r : Option ℕ) → MatchOption r ((b : ℕ) (block : Block) → slice_get blocks b ≡ Some block → test block ≡ false) (λ b. IsFirst test blocks b) → MatchOption r (size ≤ 64 → (b : ℕ) (block : Block) → slice_get blocks b ≡ Some block → test block ≡ false) (λ b. (size ≤ 64) × IsFirst test blocks b)
small_found blocks test size small None none = λ _. none
small_found blocks test size small (Some b) first = (small, first)
