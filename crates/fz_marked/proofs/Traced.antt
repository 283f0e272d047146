-- How the second set grows.
use Rattle.std.proofs.Common.{if◌then◌else◌, ◌≡◌, ◌≢◌, ℕ, ◌+◌, ◌<◌, ◌↔◌, ◌⊎◌, [], List, Option, Some, None, Bool, take, length, get_or, refl, sym, ap, ◌∙◌, subst, inl, inr, ⊎_elim, IsTrue, Contains}
use Rattle.std.proofs.lemmas.Option.{same_Some, none-some}
use Rattle.std.proofs.lemmas.List.{take_more}
use Rattle.std.specs.Option.{option_map_or}
use Rattle.std.specs.FinSet.{contains}
use Rattle.std.specs.FinMap.{get}
use Rattle.fz_model.specs.declared.kinds.ObjKind.{ObjKind}
use Rattle.fz_model.specs.declared.kinds.ObjKind.TheVariants.{Scanned, Atomic}
use Rattle.fz_model.specs.Allocation.{same_kind}
use Rattle.fz_model.specs.State.{Map, Object}
use Rattle.fz_model.specs.Memory.{points}
use Rattle.fz_model.specs.Reachability.{Leads, Itself, OneMore}
use Rattle.fz_heap.specs.Contents.{pointers_of}
use Rattle.fz_marker.specs.Marking.{Marking, IsClosed}
use Rattle.fz_pass.specs.Leading.{AnyOf}
use Rattle.fz_pass.specs.Marks as pass
use Rattle.fz_pass.specs.Marks.{Marks, IsLeadingBut, IsLastToMark}
use Rattle.fz_pass.proofs.AnyOf.{any_none, any_push}
use Rattle.fz_marker.proofs.Gaining.{inserted_cases}
use Rattle.fz_bits.specs.Flags.{Set}
use Rattle.std.specs.FinSet.{insert}
use Rattle.fz_marked.specs.Traces.{Traces, IsTargetBut}

module _ (objects : Map Object) where
  -- nothing comes
  pub traces_none : (m : Marking) (P : ℕ → Type 0) → IsClosed objects m.traced → ((a : ℕ) → P a → ⊥) → Traces objects m m P
  traces_none m P closed none = record { same = refl; closed = closed; members = λ a. (inl, ⊎_elim (λ h. h) (λ p. absurd (none a p))) }

  -- one thing comes after another
  pub traces_then : (old mid new : Marking) (P Q : ℕ → Type 0) → Traces objects old mid P → Traces objects mid new Q → Traces objects old new (λ a. P a ⊎ Q a)
  traces_then old mid new P Q p q = record {
    same = q.same ∙ ap (λ (m : Marking). record m { traced = new.traced }) p.same;
    closed = q.closed;
    members = λ a. (
      λ h. ⊎_elim (λ was. ⊎_elim inl (λ x. inr (inl x)) ((p.members a).0 was)) (λ y. inr (inr y)) ((q.members a).0 h),
      ⊎_elim (λ h. (q.members a).1 (inl ((p.members a).1 (inl h)))) (⊎_elim (λ x. (q.members a).1 (inl ((p.members a).1 (inr x)))) (λ y. (q.members a).1 (inr y))),
    );
  }

  -- the same in other words
  pub traces_as : (old new : Marking) (P Q : ℕ → Type 0) → ((a : ℕ) → P a ↔ Q a) → Traces objects old new P → Traces objects old new Q
  traces_as old new P Q same p = record {
    same = p.same;
    closed = p.closed;
    members = λ a. (λ h. ⊎_elim inl (λ x. inr ((same a).0 x)) ((p.members a).0 h), ⊎_elim (λ h. (p.members a).1 (inl h)) (λ y. (p.members a).1 (inr ((same a).1 y))));
  }

  -- what one object leads to
  pub traces_one : (old new : Marking) (start : ℕ) → IsClosed objects old.traced → new ≡ record old { traced = new.traced } → ((a : ℕ) → IsTrue (contains new.traced a) ↔ (IsTrue (contains old.traced a) ⊎ Leads objects start a)) → Traces objects old new (Leads objects start)
  traces_one old new start closed same members = record {
    same = same;
    closed = λ a h b child. ⊎_elim (λ was. (members b).1 (inl (closed a was b child))) (λ leads. (members b).1 (inr (OneMore leads child))) ((members a).0 h);
    members = members;
  }

  -- what comes to the second set comes to the marks of a pass
  pub marks_by : (Exact : Type 0) (old new : Marking) (P : ℕ → Type 0) → Traces objects old new P → Marks Exact objects (contains old.traced) (contains new.traced) P
  marks_by Exact old new P t = record {
    closed = λ a b on child. t.closed a on b child;
    least = λ a. (t.members a).1;
    most = λ exact a. (t.members a).0;
  }

  -- one object does that leads to nothing else that is new
  pub marks_alone : (Exact : Type 0) (set : Set) (object : ℕ) → pass.IsClosed objects (contains set) → IsLastToMark objects (contains set) object → Marks Exact objects (contains set) (contains (insert set object)) (λ a. a ≡ object)
  marks_alone Exact set object closed last = record {
    closed = λ a b on child. (inserted_cases set object b).1 (⊎_elim (λ was. inl (closed a b was child)) (λ is. last b (OneMore (itself a is) child)) ((inserted_cases set object a).0 on));
    least = λ a. (inserted_cases set object a).1;
    most = λ exact a. (inserted_cases set object a).0;
  }
    where
      itself : (a : ℕ) → a ≡ object → Leads objects object a
      itself a is = subst (λ x. Leads objects object x) (sym is) Itself

-- ---- the words of an object

-- the words that an object has for a scan
abbrev pointers : Object → List ℕ
pointers o = if same_kind o.kind Scanned then o.words else []

pub any_take : (P : ℕ → ℕ → Type 0) (xs : List ℕ) (i : ℕ) → i < length xs → (a : ℕ) → (AnyOf (take i xs) P a ⊎ P (get_or xs i 0) a) ↔ AnyOf (take (i + 1) xs) P a
any_take P xs i lt a = subst (λ ys. (AnyOf (take i xs) P a ⊎ P (get_or xs i 0) a) ↔ AnyOf ys P a) (sym (take_more xs i 0 lt)) (any_push P (take i xs) (get_or xs i 0) a)

module _ (objects : Map Object) (but_itself : Bool) (object : ℕ) where
  pub any_pointer : (a : ℕ) → AnyOf (pointers_of objects object) (IsTargetBut objects but_itself object) a ↔ IsLeadingBut objects but_itself object a
  any_pointer a = (there (get objects object) refl, back)
    where
      there : (g : Option Object) → get objects object ≡ g → AnyOf (option_map_or pointers g []) (IsTargetBut objects but_itself object) a → IsLeadingBut objects but_itself object a
      there None is any = absurd (any_none (IsTargetBut objects but_itself object) a any)
      there (Some o) is any = kind o.kind refl any
        where
          kind : (k : ObjKind) → o.kind ≡ k → AnyOf (if same_kind k Scanned then o.words else []) (IsTargetBut objects but_itself object) a → IsLeadingBut objects but_itself object a
          kind Scanned scanned (word, is_in, (first, pointed, apart, leads)) =
              (first, record { object = o; here = is; scanned = scanned; word = word; within = is_in; pointed = pointed }, apart, leads)
          kind Atomic atomic any = absurd (any_none (IsTargetBut objects but_itself object) a any)

      back : IsLeadingBut objects but_itself object a → AnyOf (pointers_of objects object) (IsTargetBut objects but_itself object) a
      back (first, child, apart, leads) =
          let words : pointers_of objects object ≡ child.object.words = ap (λ g. option_map_or pointers g []) child.here ∙ ap (λ k. if same_kind k Scanned then child.object.words else []) child.scanned in
          (child.word, subst (λ ws. Contains ws child.word) (sym words) child.within, (first, child.pointed, apart, leads))

  -- a word that points to no object, to the object itself where that is left out, or to another one
  pub no_target : (word a : ℕ) → points objects word ≡ None → IsTargetBut objects but_itself object word a → ⊥
  no_target word a none (first, pointed, apart, leads) = none-some first (sym none ∙ pointed)

  pub left_out : (word a : ℕ) → points objects word ≡ Some object → IsTrue but_itself → IsTargetBut objects but_itself object word a → ⊥
  left_out word a itself on (first, pointed, apart, leads) = apart on (same_Some first object (sym pointed ∙ itself))

  pub target_of : (word child : ℕ) → points objects word ≡ Some child → (IsTrue but_itself → child ≢ object) → (a : ℕ) → Leads objects child a ↔ IsTargetBut objects but_itself object word a
  target_of word child pointed apart a = (
    λ leads. (child, pointed, apart, leads),
    λ (first, also, _, leads). subst (λ x. Leads objects x a) (same_Some first child (sym also ∙ pointed)) leads,
  )
