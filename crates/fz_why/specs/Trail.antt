-- How a search goes: what it adds to a trail, and which objects it comes to. Means only: no public contract cites this.
-- code: fz_why/src/trail.rt, searching.rt, valuing.rt, reaching.rt, waiting.rt, stuck_objects.rt
use Rattle.std.specs.Prelude.{◌≡◌, ◌≢◌, ℕ, ◌<◌, ◌^◌, ◌⊎◌, ◌++◌, ◌&&◌, ◌||◌, Bool, true, false, not, if◌then◌else◌, is_some, nat_eq, List, [], ◌∷◌, slice_get, Option, Some, None, option_map, Contains, IsTrue, MatchOption}
use Rattle.std.specs.FinMap.{get, contains_key}
use Rattle.std.specs.FinSet.{contains}
use Rattle.std.specs.Map.{lookup}
use Rattle.std.specs.Option.{option_map_or}
use Rattle.fz_model.specs.declared.kinds.RegKind.{RegKind}
use Rattle.fz_model.specs.declared.kinds.RegKind.TheVariants.{Normal, IgnoreSelf, NoOrder}
use Rattle.fz_model.specs.declared.kinds.LinkKind.{LinkKind}
use Rattle.fz_model.specs.declared.kinds.LinkKind.TheVariants.{Short, Long}
use Rattle.fz_model.specs.declared.answers.Entry.{Entry}
use Rattle.fz_model.specs.declared.answers.Registration.{Registration}
use Rattle.fz_model.specs.State.{Map, Object}
use Rattle.fz_model.specs.Memory.{points}
use Rattle.fz_model.specs.Reachability.{Child}
use Rattle.fz_model.specs.Pass.{LeadsFirst}
use Rattle.fz_pass.specs.Holds.{IsHolder, IsOfKey, IsWhole}
use Rattle.fz_pass.specs.Keyed.{of_kind}
use Rattle.fz_pass.specs.Marks.{AreRegistered, AreTargets}
use Rattle.fz_finalizers.specs.declared.cleanups.Attached.{Attached}
use Rattle.fz_finalizers.specs.States.{State}
use Rattle.fz_why.specs.declared.origin.Origin.{Origin}
use Rattle.fz_why.specs.declared.origin.Origin.TheVariants.{Root, Itself, First, After}
use Rattle.fz_why.specs.declared.paths.Pointer.{Pointer}
use Rattle.fz_why.specs.declared.reason.RootOf.{RootOf}
use Rattle.fz_why.specs.declared.reason.RootOf.TheVariants.{Host, RegisteredData, CleanupData, HeldObject, HeldData}
use Rattle.fz_why.specs.Paths.{IsPath}
use Rattle.fz_why.specs.Why.{heap_judged, kind_toward, IsBackPath, IsFirstOf, IsHeldBy, IsHeldToward, IsKeyJudged, IsRooted, IsUnfound}

abbrev pub Trail : Type 0
Trail = List (ℕ × Origin)

-- whether the object is on the trail
abbrev pub has : Trail → ℕ → Bool
has es a = is_some (lookup (nat_eq a) es)

-- the trail with an object at the end, unless it was there
abbrev pub added : Trail → ℕ → Origin → Trail
added es a origin = if has es a then es else es ++ (a, origin) ∷ []

-- the object is at the index
abbrev pub IsAt : Trail → ℕ → ℕ → Type 0
IsAt es place a = (origin : Origin) × (slice_get es place ≡ Some (a, origin))

-- all objects of a relation were added, each by an origin that the relation gives
pub record Adds (Comes : Origin → ℕ → Type 0) (old new : Trail) : Type 0 where
  pub kept : (k : ℕ) (x : ℕ × Origin) → slice_get old k ≡ Some x → slice_get new k ≡ Some x
  pub each : (k : ℕ) (x : ℕ × Origin) → slice_get new k ≡ Some x → (slice_get old k ≡ Some x) ⊎ ((slice_get old k ≡ None) × Comes x.1 x.0)
  pub whole : (origin : Origin) (b : ℕ) → Comes origin b → IsTrue (has new b)

-- it is a step from an object at an earlier index
pub record IsAfter (Step : ℕ → ℕ → Type 0) (es : Trail) (k : ℕ) (x : ℕ × Origin) : Type 0 where
  pub before : ℕ
  pub after : x.1 ≡ After before
  pub earlier : before < k
  pub from : ℕ
  pub at : IsAt es before from
  pub step : Step from x.0

-- ephemerons, each with its key, with its holder unless it has none and requires none, and with its value
abbrev pub Rows : Type 1
Rows = ℕ → Option ℕ → ℕ → Type 0

-- of a key and a holder: both, if there is a holder; and one of them
abbrev pub AreBoth : (ℕ → Type 0) → ℕ → Option ℕ → Type 0
AreBoth P key holder = P key × ((h : ℕ) → holder ≡ Some h → P h)

abbrev pub IsOneOf : (ℕ → Type 0) → ℕ → Option ℕ → Type 0
IsOneOf P key holder = P key ⊎ ((h : ℕ) × (holder ≡ Some h) × P h)

-- an object is held: it is behind the trail, or on it; and so before an index
abbrev pub IsHeldIn : (ℕ → Bool) → Trail → ℕ → Type 0
IsHeldIn behind es a = IsTrue (behind a) ⊎ IsTrue (has es a)

abbrev pub IsHeldBefore : (ℕ → Bool) → Trail → ℕ → ℕ → Type 0
IsHeldBefore behind es k a = IsTrue (behind a) ⊎ ((j : ℕ) × (j < k) × IsAt es j a)

-- it is the value of an ephemeron whose key and holder are held before this index, and it comes after one of them
pub record IsAfterRow (Row : Rows) (behind : ℕ → Bool) (es : Trail) (k : ℕ) (x : ℕ × Origin) : Type 0 where
  pub before : ℕ
  pub after : x.1 ≡ After before
  pub earlier : before < k
  pub key : ℕ
  pub holder : Option ℕ
  pub row : Row key holder x.0
  pub held : AreBoth (IsHeldBefore behind es k) key holder
  pub from : IsOneOf (IsAt es before) key holder

-- the value of each ephemeron whose key and holder are held by one trail, on which one of them is, is on the other trail
abbrev pub AreValuesOn : Rows → (ℕ → Bool) → Trail → Trail → Type 0
AreValuesOn Row behind es new =
    (key : ℕ) (holder : Option ℕ) (b : ℕ) → Row key holder b → AreBoth (IsHeldIn behind es) key holder → IsOneOf (λ a. IsTrue (has es a)) key holder → IsTrue (has new b)

-- values were added after the old trail
pub record Gains (Row : Rows) (behind : ℕ → Bool) (old new : Trail) : Type 0 where
  pub kept : (k : ℕ) (x : ℕ × Origin) → slice_get old k ≡ Some x → slice_get new k ≡ Some x
  pub each : (k : ℕ) (x : ℕ × Origin) → slice_get new k ≡ Some x → (slice_get old k ≡ Some x) ⊎ IsAfterRow Row behind new k x

-- all values of ephemerons were added whose keys and holders the old trail holds
abbrev pub AddsValues : Rows → (ℕ → Bool) → Trail → Trail → Type 0
AddsValues Row behind old new = Gains Row behind old new × AreValuesOn Row behind old new

-- steps and values were added, after the old trail, until the steps of the first objects were all added
pub record Spreads (Step : ℕ → ℕ → Type 0) (Row : Rows) (behind : ℕ → Bool) (scanned : ℕ) (old new : Trail) : Type 0 where
  pub kept : (k : ℕ) (x : ℕ × Origin) → slice_get old k ≡ Some x → slice_get new k ≡ Some x
  pub each : (k : ℕ) (x : ℕ × Origin) → slice_get new k ≡ Some x → (slice_get old k ≡ Some x) ⊎ (IsAfter Step new k x ⊎ IsAfterRow Row behind new k x)
  pub whole : (k a b : ℕ) → k < scanned → IsAt new k a → Step a b → IsTrue (has new b)

-- all steps from objects on the trail are on the trail, and all values of ephemerons
pub record SpreadsAll (Step : ℕ → ℕ → Type 0) (Row : Rows) (behind : ℕ → Bool) (old new : Trail) : Type 0 where
  pub kept : (k : ℕ) (x : ℕ × Origin) → slice_get old k ≡ Some x → slice_get new k ≡ Some x
  pub each : (k : ℕ) (x : ℕ × Origin) → slice_get new k ≡ Some x → (slice_get old k ≡ Some x) ⊎ (IsAfter Step new k x ⊎ IsAfterRow Row behind new k x)
  pub whole : (a b : ℕ) → IsTrue (has new a) → Step a b → IsTrue (has new b)
  pub values : AreValuesOn Row behind new new

-- the next object, or none where no value is missing
abbrev pub Looks : Rows → (ℕ → Bool) → ℕ → Trail → Trail → Option ℕ → Type 0
Looks Row behind place old new next =
    Gains Row behind old new × MatchOption next ((slice_get new place ≡ None) × AreValuesOn Row behind new new) (λ a. (place < 2 ^ 63) × IsAt new place a)

-- where an object is held, if it is; and from where the step to a value goes, if there is one
abbrev pub TellsHeld : (ℕ → Bool) → Trail → ℕ → Option (Option ℕ) → Type 0
TellsHeld behind es a told = MatchOption told (IsHeldIn behind es a → ⊥) (λ on. IsHeldIn behind es a × MatchOption on (has es a ≡ false) (λ place. IsAt es place a))

abbrev pub TellsWay : (ℕ → Bool) → Trail → ℕ → Option ℕ → Option ℕ → Type 0
TellsWay behind es key holder told =
    MatchOption told (AreBoth (IsHeldIn behind es) key holder → IsOneOf (λ a. IsTrue (has es a)) key holder → ⊥) (λ place. AreBoth (IsHeldIn behind es) key holder × IsOneOf (IsAt es place) key holder)

-- an object is on one of two trails, as far as there are any
abbrev pub has_in : Option Trail → ℕ → Bool
has_in None a = false
has_in (Some es) a = has es a

abbrev pub either : Option Trail → Option Trail → ℕ → Bool
either found own a = has_in found a || has_in own a

-- an object isn't on the trail of what was found
abbrev pub is_lost : Trail → Option ℕ → Bool
is_lost found target = option_map_or (λ a. not (has found a)) target false

-- the word with this number is that of a short link or a short ephemeron whose target or key isn't on the trail of what was found
abbrev pub is_dead_in : Trail → State → ℕ → Bool
is_dead_in found s number = is_lost found (get s.short number) || is_lost found (get s.ephemerons.short number)

-- a word doesn't count: it is such a word. Without a trail of what was found each word counts.
abbrev pub is_cut : (ℕ → Option ℕ) → State → Option Trail → ℕ → Bool
is_cut link s None word = false
is_cut link s (Some found) word = option_map_or (is_dead_in found s) (link word) false

-- an ephemeron of this kind and key counts
abbrev pub counts : LinkKind → Option Trail → ℕ → Bool
counts Short None key = true
counts Short (Some found) key = has found key
counts Long found key = true

-- the holder of an ephemeron, if it has one, or none if its word lies nowhere or doesn't count
abbrev pub row_holder : (ℕ → Option ℕ) → Map Object → (ℕ → Bool) → ℕ → Option (Option ℕ)
row_holder place objects cut number = option_map_or (λ word. if cut word then None else option_map Some (points objects word)) (place number) (Some None)

-- the ephemeron with this number and key, by the words that count
abbrev pub IsRowAt : (ℕ → Option ℕ) → (Map Object → ℕ → Option ℕ) → Map Object → (ℕ → Bool) → ℕ → ℕ → Rows
IsRowAt place value objects cut number key k holder b = (k ≡ key) × (row_holder place objects cut number ≡ Some holder) × (value objects number ≡ Some b)

-- the same if an ephemeron of this kind counts; all that count of a kind; and those of both kinds
abbrev pub IsRowOne : (ℕ → Option ℕ) → (Map Object → ℕ → Option ℕ) → (ℕ → Option ℕ) → Map Object → State → Option Trail → LinkKind → ℕ → ℕ → Rows
IsRowOne place value link objects s found kind number key k holder b = (counts kind found key ≡ true) × IsRowAt place value objects (is_cut link s found) number key k holder b

abbrev pub IsRowOf : (ℕ → Option ℕ) → (Map Object → ℕ → Option ℕ) → (ℕ → Option ℕ) → Map Object → State → Option Trail → LinkKind → Rows
IsRowOf place value link objects s found kind k holder b =
    (number : ℕ) × (key : ℕ) × (get (of_kind s.ephemerons kind) number ≡ Some key) × IsRowOne place value link objects s found kind number key k holder b

abbrev pub IsRowBy : (ℕ → Option ℕ) → (Map Object → ℕ → Option ℕ) → (ℕ → Option ℕ) → Map Object → State → Option Trail → Rows
IsRowBy place value link objects s found k holder b = IsRowOf place value link objects s found Short k holder b ⊎ IsRowOf place value link objects s found Long k holder b

-- with what was found and the object's own trail behind it, a trail gains the values of the ephemeron with this number and key, if its word counts; of the same
-- if it counts and is of this kind; of all that count of a kind; and of those of both kinds
module _ (place : ℕ → Option ℕ) (value : Map Object → ℕ → Option ℕ) (link : ℕ → Option ℕ) (objects : Map Object) (s : State) (found own : Option Trail) where
  abbrev pub AddsRowAt : ℕ → ℕ → Trail → Trail → Type 0
  AddsRowAt number key = AddsValues (IsRowAt place value objects (is_cut link s found) number key) (either found own)

  abbrev pub AddsRowOne : LinkKind → ℕ → ℕ → Trail → Trail → Type 0
  AddsRowOne kind number key = AddsValues (IsRowOne place value link objects s found kind number key) (either found own)

  abbrev pub AddsRowOf : LinkKind → Trail → Trail → Type 0
  AddsRowOf kind = AddsValues (IsRowOf place value link objects s found kind) (either found own)

  abbrev pub AddsRowBy : Trail → Trail → Type 0
  AddsRowBy = AddsValues (IsRowBy place value link objects s found) (either found own)

  -- the next object on the trail; past its end, once it has gained these values
  abbrev pub LooksBy : ℕ → Trail → Trail → Option ℕ → Type 0
  LooksBy = Looks (IsRowBy place value link objects s found) (either found own)

-- a step by one of these words
abbrev pub IsStepBy : Map Object → (ℕ → Bool) → List Pointer → ℕ → Type 0
IsStepBy objects cut pointers b = (p : Pointer) × Contains pointers p × (cut p.word ≡ false) × (points objects p.value ≡ Some b)

-- a first step by one of the words of an object, by the kind that counts
abbrev pub IsFirstBy : Map Object → (ℕ → Bool) → List Pointer → ℕ → RegKind → ℕ → Type 0
IsFirstBy objects cut pointers from Normal b = IsStepBy objects cut pointers b
IsFirstBy objects cut pointers from IgnoreSelf b = IsStepBy objects cut pointers b × (b ≢ from)
IsFirstBy objects cut pointers from NoOrder b = ⊥

-- the object on the trail after another
abbrev pub IsNext : Trail → ℕ → ℕ → Type 0
IsNext es a b = (k : ℕ) × (before : ℕ) × IsAt es before a × (slice_get es k ≡ Some (b, After before))

-- an origin at which a path begins, and with what it begins there
abbrev pub IsStart : Origin → Type 0
IsStart (Root root) = Unit {0}
IsStart Itself = Unit {0}
IsStart (First from) = Unit {0}
IsStart (After place) = ⊥

abbrev pub from_start : Origin → List ℕ → List ℕ
from_start (Root root) path = path
from_start Itself path = path
from_start (First from) path = from ∷ path
from_start (After place) path = path

-- a path along the trail to an object
pub record IsTrailPath (es : Trail) (o : ℕ) (start : Origin) (path : List ℕ) : Type 0 where
  pub first : ℕ
  pub rest : List ℕ
  pub place : ℕ
  pub starts : slice_get es place ≡ Some (first, start)
  pub begins : IsStart start
  pub leads : IsPath (IsNext es) first rest o
  pub is : path ≡ from_start start (first ∷ rest)

-- what comes after an object on the trail is at a later index
abbrev pub IsOrdered : Trail → Type 0
IsOrdered es = (k before : ℕ) (x : ℕ × Origin) → slice_get es k ≡ Some x → x.1 ≡ After before → before < k

-- each path along the trail begins at a root
abbrev pub IsOfRoots : Trail → Type 0
IsOfRoots es = (k first : ℕ) (origin : Origin) → slice_get es k ≡ Some (first, origin) → IsStart origin → (root : RootOf) × (origin ≡ Root root)

-- a step by one of these words, but to the excepted object
abbrev pub IsStepBut : Map Object → (ℕ → Bool) → List Pointer → Option ℕ → ℕ → Type 0
IsStepBut objects cut pointers except b = IsStepBy objects cut pointers b × (except ≢ Some b)

-- what comes by one word, by the words of an object, and by its first steps
abbrev pub IsByPointer : Map Object → (ℕ → Bool) → Pointer → Option ℕ → Origin → Origin → ℕ → Type 0
IsByPointer objects cut pointer except origin o b = (o ≡ origin) × (cut pointer.word ≡ false) × (points objects pointer.value ≡ Some b) × (except ≢ Some b)

abbrev pub IsBySteps : Map Object → (ℕ → Bool) → List Pointer → Option ℕ → Origin → Origin → ℕ → Type 0
IsBySteps objects cut pointers except origin o b = (o ≡ origin) × IsStepBut objects cut pointers except b

abbrev pub IsByFirst : Map Object → (ℕ → Bool) → List Pointer → ℕ → RegKind → Origin → ℕ → Type 0
IsByFirst objects cut pointers from kind o b = (o ≡ First from) × IsFirstBy objects cut pointers from kind b

-- by its first steps, and by itself if all its steps count
abbrev pub IsByStart : Map Object → (ℕ → Bool) → List Pointer → ℕ → Bool → RegKind → Origin → ℕ → Type 0
IsByStart objects cut pointers from early kind o b =
    ((o ≡ First from) × IsFirstBy objects cut pointers from (kind_toward early kind) b) ⊎ ((o ≡ Itself) × IsTrue early × (b ≡ from))

-- the same of another object than this one, if it isn't on the trail of what was found
abbrev pub IsByUnfound : Map Object → (ℕ → Bool) → List Pointer → Trail → ℕ → ℕ → Bool → RegKind → Origin → ℕ → Type 0
IsByUnfound objects cut pointers found object from early kind o b = (from ≢ object) × (has found from ≡ false) × IsByStart objects cut pointers from early kind o b

-- the objects to which roots of one sort point
abbrev pub IsByHost : Map Object → List ℕ → Origin → ℕ → Type 0
IsByHost objects roots o b = (index : ℕ) × (word : ℕ) × (slice_get roots index ≡ Some word) × (o ≡ Root (Host index)) × (points objects word ≡ Some b)

abbrev pub IsByRegistration : Map Object → Map Registration → Origin → ℕ → Type 0
IsByRegistration objects registrations o b = (a : ℕ) × (r : Registration) × (get registrations a ≡ Some r) × (o ≡ Root (RegisteredData r.number)) × (points objects r.cd ≡ Some b)

abbrev pub IsByCleanup : Map Object → Map Attached → Origin → ℕ → Type 0
IsByCleanup objects cleanups o b =
    (number : ℕ) × (c : Attached) × (get cleanups number ≡ Some c) × (o ≡ Root (CleanupData number)) × (points objects c.cleanup.client_data ≡ Some b)

abbrev pub IsByEntry : Map Object → List Entry → Origin → ℕ → Type 0
IsByEntry objects entries o b =
    (e : Entry) × Contains entries e × (((o ≡ Root (HeldObject e.seq)) × (points objects e.obj ≡ Some b)) ⊎ ((o ≡ Root (HeldData e.seq)) × (points objects e.cd ≡ Some b)))

-- an ephemeron of a heap
abbrev pub HolderIs : (ℕ → Option ℕ) → Map Object → ℕ → Option ℕ → Type 0
HolderIs place objects number None = place number ≡ None
HolderIs place objects number (Some h) = IsHolder place objects number h

abbrev pub IsRow : (ℕ → Option ℕ) → (Map Object → ℕ → Option ℕ) → Map Object → (ℕ → ℕ → Type 0) → Rows
IsRow place value objects IsOf key holder b = (number : ℕ) × IsOf number key × HolderIs place objects number holder × (value objects number ≡ Some b)

-- the trail of what some objects reach, each of which begins it by an origin, with the objects behind the trail
pub record IsReachedTrail (objects : Map Object) (Row : Rows) (behind : ℕ → Bool) (Start : Origin → ℕ → Type 0) (es : Trail) : Type 0 where
  pub each : (k : ℕ) (x : ℕ × Origin) → slice_get es k ≡ Some x → Start x.1 x.0 ⊎ (IsAfter (Child objects) es k x ⊎ IsAfterRow Row behind es k x)
  pub starts : (origin : Origin) (b : ℕ) → Start origin b → IsTrue (has es b)
  pub closed : (a b : ℕ) → IsTrue (has es a) → Child objects a b → IsTrue (has es b)
  pub values : AreValuesOn Row behind es es

-- a root points to it
abbrev pub IsByRoot : Map Object → List ℕ → State → Origin → ℕ → Type 0
IsByRoot objects roots s origin b = (root : RootOf) × (origin ≡ Root root) × IsRooted objects roots s root b

-- that of what the roots reach
abbrev pub IsFoundTrail : (ℕ → Option ℕ) → (Map Object → ℕ → Option ℕ) → Map Object → List ℕ → State → Trail → Type 0
IsFoundTrail place value objects roots s es = IsReachedTrail objects (IsRow place value objects (IsOfKey s.ephemerons)) (either None None) (IsByRoot objects roots s) es

-- the first steps of the unfound registered objects other than one, by the kinds that count, and those objects themselves of which all steps count
abbrev pub IsByOther : (ℕ → Option ℕ) → Map Object → State → Trail → (ℕ → List Pointer) → Bool → ℕ → Origin → ℕ → Type 0
IsByOther link objects s found pointers late o origin b =
    (from : ℕ) × (r : Registration) × (get s.registrations from ≡ Some r) × (from ≢ o) × (has found from ≡ false)
    × IsByStart objects (is_cut link s (Some found)) (pointers from) from (late && not (contains s.late from)) r.kind origin b

-- a first step of the object itself, or of another unreachable registered object, by the kind that counts
abbrev pub IsByRing : Map Object → ℕ → RegKind → Origin → ℕ → Type 0
IsByRing heap object kind origin b = (origin ≡ First object) × LeadsFirst heap object kind b

module _ (place : ℕ → Option ℕ) (value : Map Object → ℕ → Option ℕ) (objects : Map Object) (s : State) where
  abbrev pub IsByWait : (ℕ → Bool) → Bool → ℕ → Origin → ℕ → Type 0
  IsByWait found late object origin b =
      (from : ℕ) × (by : Registration) × IsUnfound place value objects s found from by × (from ≢ object)
      × (((origin ≡ First from) × LeadsFirst (heap_judged place value objects s found) from (kind_toward (late && not (contains s.late from)) by.kind) b)
      ⊎ ((origin ≡ Itself) × IsTrue (late && not (contains s.late from)) × (b ≡ from)))

  -- the first steps of an object on a ring, and those of all of them
  abbrev pub IsByCircle : (ℕ → Bool) → ℕ → Origin → ℕ → Type 0
  IsByCircle found from origin b = (origin ≡ First from) × IsHeldBy place value objects s found from from × IsFirstOf place value objects s found from b

  abbrev pub IsByCircles : (ℕ → Bool) → Origin → ℕ → Type 0
  IsByCircles found origin b = (from : ℕ) × IsByCircle found from origin b

  -- the trail of what a pass judges by
  abbrev pub IsJudgedTrail : (ℕ → Bool) → (ℕ → Bool) → (Origin → ℕ → Type 0) → Trail → Type 0
  IsJudgedTrail found = IsReachedTrail (heap_judged place value objects s found) (IsRow place value (heap_judged place value objects s found) (IsKeyJudged place value objects s found))

  -- those of what an object reaches by its first steps; of what the other objects reach, with what the object reaches behind it; and of what rings reach
  abbrev pub IsOwnTrail : Trail → ℕ → RegKind → Trail → Type 0
  IsOwnTrail found object kind = IsJudgedTrail (has found) (either (Some found) None) (IsByRing (heap_judged place value objects s (has found)) object kind)

  abbrev pub IsOthersTrail : Trail → Trail → Bool → ℕ → Trail → Type 0
  IsOthersTrail found own late object = IsJudgedTrail (has found) (either (Some found) (Some own)) (IsByWait (has found) late object)

  abbrev pub IsRingsTrail : Trail → Trail → Type 0
  IsRingsTrail found = IsJudgedTrail (has found) (either (Some found) None) (IsByCircles (has found))

-- an object isn't on the first trail, and is on the second; the same of a registered object
abbrev pub is_behind : Trail → Trail → ℕ → Bool
is_behind found reached o = not (has found o) && has reached o

abbrev pub is_stuck_by : State → Trail → Trail → ℕ → Bool
is_stuck_by s found reached o = contains_key s.registrations o && is_behind found reached o

-- the path by which an object holds itself back, or none if it doesn't
abbrev pub TellsRing : (ℕ → Option ℕ) → (Map Object → ℕ → Option ℕ) → Map Object → State → (ℕ → Bool) → ℕ → Option (List ℕ) → Type 0
TellsRing place value objects s found o told =
    MatchOption told (IsHeldBy place value objects s found o o → ⊥) (λ path. IsBackPath place value objects s found (IsHeldBy place value objects s found o) false o path o)

-- the path by which another object holds it back, or none if no object does
abbrev pub TellsWait : (ℕ → Option ℕ) → (Map Object → ℕ → Option ℕ) → Map Object → State → (ℕ → Bool) → Bool → ℕ → Option (List ℕ) → Type 0
TellsWait place value objects s found late o told =
    MatchOption told (IsHeldToward place value objects s found late o → ⊥) (λ path. (from : ℕ) × (from ≢ o) × IsBackPath place value objects s found (IsHeldToward place value objects s found late) late from path o)

-- what a pass of this state requires of a host's objects, long links and long ephemerons aside
pub record IsSound (objects : Map Object) (s : State) : Type 0 where
  pub registered : AreRegistered objects s.registrations
  pub short : AreTargets objects s.short
  pub keys : AreTargets objects s.ephemerons.short
  pub zero : points objects 0 ≡ None

-- the same, and the found objects hold nothing else
pub record IsFoundOf (place : ℕ → Option ℕ) (value : Map Object → ℕ → Option ℕ) (objects : Map Object) (s : State) (found : ℕ → Bool) : Type 0 where
  pub sound : IsSound objects s
  pub whole : IsWhole place value objects (IsOfKey s.ephemerons) found
