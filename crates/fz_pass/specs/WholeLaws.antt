-- What ephemerons mean, in other words. These laws test the definitions.
-- code: fz_pass/src/law.rt
use Rattle.std.specs.Prelude.{◌≡◌, ◌↔◌, ◌≤◌, ◌<◌, ◌+◌, ℕ, Bool, false, not, nat_eq, List, length, Option, None, Some, Contains, IsTrue, IsFalse}
use Rattle.std.specs.FinMap.{get, contains_key, retain_keys}
use Rattle.std.specs.Option.{option_map_or}
use Rattle.fz_model.specs.declared.answers.Entry.{Entry}
use Rattle.fz_model.specs.declared.answers.Pick.{Pick}
use Rattle.fz_model.specs.Memory.{points}
use Rattle.fz_model.specs.State.{Map, Object}
use Rattle.fz_pass.specs.Decides.{Parts}
use Rattle.fz_pass.specs.Flagged.{AreNormal, DecidesFlagged}
use Rattle.fz_pass.specs.Holds.{Ephemerons, Holds, IsOfKey, IsWhole, Settles, no_ephemerons}
use Rattle.fz_pass.specs.Marks.{IsClosed}
use Rattle.fz_pass.specs.Places.{is_held, placed}
use Rattle.fz_pass.specs.Safe.{LeadsTo}
use Rattle.fz_pass.specs.Whole.{DecidesWhole}

-- the ephemerons except those of a key
abbrev pub not_of : ℕ → Map ℕ → Map ℕ
not_of key ephemerons = retain_keys ephemerons (λ word. not (option_map_or (nat_eq key) (get ephemerons word) false))

abbrev pub without_key : Ephemerons → ℕ → Ephemerons
without_key ephemerons key = record { short = not_of key ephemerons.short; long = not_of key ephemerons.long }

-- an ephemeron never retains its own key: whether a set holds an object doesn't depend on the ephemerons of which it is the key
abbrev pub KeysHoldNothing : (ℕ → Option ℕ) → (Map Object → ℕ → Option ℕ) → Map Object → Ephemerons → Type 0
KeysHoldNothing place value objects ephemerons =
    (set : ℕ → Bool) (key : ℕ)
    → Holds place value objects (IsOfKey ephemerons) (λ a. IsTrue (set a)) key ↔ Holds place value objects (IsOfKey (without_key ephemerons key)) (λ a. IsTrue (set a)) key

-- so whether a pass finds a key doesn't depend on them, if marking is exact
abbrev pub KeysFindNothing : (ℕ → Option ℕ) → (Map Object → ℕ → Option ℕ) → Map Object → Ephemerons → Type 0
KeysFindNothing place value objects ephemerons =
    (marked found found_without : ℕ → Bool) (key : ℕ)
    → Settles place value objects (IsOfKey ephemerons) (Unit {0}) marked found
    → Settles place value objects (IsOfKey (without_key ephemerons key)) (Unit {0}) marked found_without
    → IsTrue (found key) ↔ IsTrue (found_without key)

-- without ephemerons closed marks are whole: if marking is exact, making them whole marks nothing else
abbrev pub NothingSettles : (ℕ → Option ℕ) → (Map Object → ℕ → Option ℕ) → Map Object → Type 0
NothingSettles place value objects =
    (marked found : ℕ → Bool) → IsClosed objects marked
    → IsWhole place value objects (IsOfKey no_ephemerons) marked
    × (Settles place value objects (IsOfKey no_ephemerons) (Unit {0}) marked found → (a : ℕ) → IsTrue (found a) ↔ IsTrue (marked a))

-- without ephemerons a pass decides what it decides by paths alone
pub record IsByPaths (Exact : Type 0) (place : ℕ → Option ℕ) (value : Map Object → ℕ → Option ℕ) (late : ℕ → Bool) (pass first : ℕ)
    (old : Parts) (found : ℕ → Bool) (new : Parts) (new_ephemerons : Ephemerons) (queue new_queue : List Entry)
    (d : DecidesWhole Exact place value late pass first old no_ephemerons found new new_ephemerons queue new_queue) : Type 0 where
  pub flagged : DecidesFlagged Exact place late pass first old found new queue new_queue
  pub picks : flagged.picks ≡ d.picks
  pub kept : flagged.kept ≡ d.kept
  pub none : new_ephemerons ≡ no_ephemerons

abbrev pub DecidesByPaths : Type 0 → (ℕ → Option ℕ) → (Map Object → ℕ → Option ℕ) → (ℕ → Bool) → Parts → Type 0
DecidesByPaths Exact place value late old =
    AreNormal old.registrations late → points old.objects 0 ≡ None → (pass first : ℕ) (found : ℕ → Bool) (new : Parts) (new_ephemerons : Ephemerons) (queue new_queue : List Entry)
    → IsClosed old.objects found
    → (d : DecidesWhole Exact place value late pass first old no_ephemerons found new new_ephemerons queue new_queue)
    → IsByPaths Exact place value late pass first old found new new_ephemerons queue new_queue d

-- what a pass leaves unchanged, even if marking marks more than it is asked to
pub record IsSafeWhole (place : ℕ → Option ℕ) (old : Parts) (ephemerons : Ephemerons) (found : ℕ → Bool) (picks : List Pick) (new : Parts) (new_ephemerons : Ephemerons) : Type 0 where
  -- nothing in the found set is queued
  pub unfound : (p : Pick) → Contains picks p → IsFalse (found p.obj)
  -- every object in the found set is retained
  pub stays : (a : ℕ) → IsTrue (found a) → IsTrue (contains_key old.objects a) → IsTrue (contains_key new.objects a)
  -- a short link to an object in the found set remains, if the object that contains its word is retained, or it denotes no word
  pub short : (link target : ℕ) → get old.short link ≡ Some target → IsTrue (found target) → IsTrue (is_held place old.objects (contains_key new.objects) link) → get new.short link ≡ Some target
  -- and so does a short ephemeron of a found key
  pub keyed : (word key : ℕ) → get ephemerons.short word ≡ Some key → IsTrue (found key) → IsTrue (is_held place old.objects (contains_key new.objects) word) → get new_ephemerons.short word ≡ Some key
  -- a retained object is unchanged, if all links in its words have targets that were found or are retained, and all ephemerons in its words have such keys
  pub same : (a : ℕ) (o : Object) → get old.objects a ≡ Some o → IsTrue (contains_key new.objects a)
      → ((word : ℕ) → a ≤ word → word < a + length o.words
      → LeadsTo (placed place old.short) word found × LeadsTo (placed place old.long) word (contains_key new.objects)
      × LeadsTo (placed place ephemerons.short) word found × LeadsTo (placed place ephemerons.long) word (contains_key new.objects))
      → get new.objects a ≡ Some o

abbrev pub WholePassesAreSafe : (ℕ → Option ℕ) → (Map Object → ℕ → Option ℕ) → Parts → Ephemerons → Type 0
WholePassesAreSafe place value old ephemerons =
    (late found : ℕ → Bool) (new : Parts) (new_ephemerons : Ephemerons) (queue new_queue : List Entry) (pass first : ℕ)
    (d : DecidesWhole ⊥ place value late pass first old ephemerons found new new_ephemerons queue new_queue) → IsSafeWhole place old ephemerons found d.picks new new_ephemerons
