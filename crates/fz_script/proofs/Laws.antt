-- What is read is spelled so, and what is spelled so is read.
use Rattle.std.proofs.Common.{◌≡◌, ℕ, ◌<◌, ◌^◌, List, [], ◌∷◌, ◌++◌, codes, decimal, Option, Some, None, ◌∙◌, ap, sym, cond, Bool, true, false, refl, map, ◌⊎◌, inl, inr, IfSome, subst, append-nil, not, ◌&&◌, ◌==◌, ◌+◌, ◌%◌, ne_eqb, nat_lt, ltb-true, lt-ltb, arith, rules}
use Rattle.std.proofs.lemmas.Bool.{and_parts}
use Rattle.std.specs.List.{join_with_byte, AllByRecursion, find}
use Rattle.std.proofs.lemmas.Fmt.{decimal_by_steps}
use Rattle.std.proofs.lemmas.List.Splits.{join_with_byte-slice_split}
use Rattle.std.proofs.lemmas.Option.{some_pair_parts, cond_some}
use Rattle.std.proofs.lemmas.Str.{IsUtf8-from_ascii}
use Rattle.std.proofs.lemmas.Str.Ascii.{IsAscii-nil, IsAscii-cons}
use Rattle.std.specs.Str.{bytes_eq, IsUtf8, IsAscii}
use Rattle.std.proofs.lemmas.Slice.Eq.{bytes_eq-Decides}
use Rattle.fz_model.specs.declared.kinds.ObjKind.{ObjKind}
use Rattle.fz_model.specs.declared.kinds.ObjKind.TheVariants.{Scanned, Atomic}
use Rattle.fz_model.specs.declared.kinds.RegKind.{RegKind}
use Rattle.fz_model.specs.declared.kinds.RegKind.TheVariants.{Normal, IgnoreSelf, NoOrder}
use Rattle.fz_model.specs.declared.kinds.LinkKind.{LinkKind}
use Rattle.fz_model.specs.declared.kinds.LinkKind.TheVariants.{Short, Long}
use Rattle.fz_model.specs.declared.places.Slot.{Slot}
use Rattle.fz_model.specs.declared.places.Place.{Place}
use Rattle.fz_script.specs.declared.step.Step.{Step}
use Rattle.fz_script.specs.declared.step.Step.TheVariants.{Open, Call, Take, Hold, Finish, Forfeit}
use Rattle.fz_model.specs.declared.call.Call.{Call as WorldCall}
use Rattle.fz_model.specs.declared.call.Call.TheVariants as calls
use Rattle.fz_script.specs.Spelling.{Token, Number, Text, IsToken, obj_kind, reg_kind, link_kind, slot_words, place_words, rank_words, words, text, spelling, Fits}
use Rattle.fz_script.specs.Reading.{◌>>=◌, with_rest, number, find_text, kind_at, number_at, byte, byte_at, optional_at, two_at, slot_of, place_of, slot_at, place_at, obj_kind_at, reg_kind_at, link_kind_at, Fields, nothing, a_number, a_slot, a_place, an_obj_kind, a_reg_kind, a_link_kind, a_rank, two, three, Values, values_at, Verb, verbs, verb_named, word_at, words_of, named_at, step_at, end_at, step_in}
use Rattle.fz_script.proofs.Numbers.{number_takes, number_again}

-- the cases of a bind and of a test
pub bind_some : {A B : Type 0} (r : Option A) (f : A → Option B) (y : B) → (r >>= f) ≡ Some y → (x : A) × (r ≡ Some x) × (f x ≡ Some y)
bind_some None f y h = cc
bind_some (Some x) f y h = (x, refl, h)

chosen : {A : Type 0} (b : Bool) (x y z : A) → cond b x y ≡ z → ((b ≡ true) × (x ≡ z)) ⊎ ((b ≡ false) × (y ≡ z))
chosen true x y z h = inl (refl, h)
chosen false x y z h = inr (refl, h)

pub some_same : {A : Type 0} (x y : A) → ◌≡◌ {A = Option A} (Some x) (Some y) → x ≡ y
some_same x y h = cc

with_rest_some : {A : Type 0} (o : Option A) (ws rest : List (List ℕ)) (x : A) → with_rest o ws ≡ Some (x, rest) → (o ≡ Some x) × (ws ≡ rest)
with_rest_some None ws rest x h = cc
with_rest_some (Some y) ws rest x h = let p = some_pair_parts y x ws rest h in (ap Some p.0, p.1)

-- the words of fields
abbrev pub field_words : (fields : Fields) → Values fields → List Token
field_words nothing x = []
field_words a_number n = Number n ∷ []
field_words a_slot slot = slot_words slot
field_words a_place place = place_words place
field_words an_obj_kind kind = Text (obj_kind kind) ∷ []
field_words a_reg_kind kind = Text (reg_kind kind) ∷ []
field_words a_link_kind which = Text (link_kind which) ∷ []
field_words a_rank rank = rank_words rank
field_words (two first second) x = field_words first x.0 ++ field_words second x.1
field_words (three first second third) x = field_words first x.0 ++ (field_words second x.1 ++ field_words third x.2)

-- these words were the fields
abbrev pub HasTaken : List Token → List (List ℕ) → List (List ℕ) → Type 0
HasTaken taken ws rest = (ws ≡ map text taken ++ rest) × AllByRecursion IsToken taken

both_taken : (a b : List Token) (ws between rest : List (List ℕ)) → HasTaken a ws between → HasTaken b between rest → HasTaken (a ++ b) ws rest
both_taken [] b ws between rest first second = (first.0 ∙ second.0, second.1)
both_taken (w ∷ a) b [] between rest first second = let e = first.0 in cc
both_taken (w ∷ a) b (v ∷ ws) between rest first second =
    let e = first.0 in
    let head : v ≡ text w = cc in
    let tail : ws ≡ map text a ++ between = cc in
    let others = both_taken a b ws between rest (tail, first.1.1) second in
    (ap (λ x. x ∷ ws) head ∙ ap (λ l. text w ∷ l) others.0, (first.1.0, others.1))

-- one word
find_takes : {A : Type 0} (name : A → List ℕ) (xs : List A) (w : List ℕ) (x : A) → find_text name xs w ≡ Some x → w ≡ name x
find_takes name [] w x h = cc
find_takes name (y ∷ ys) w x h = elim (chosen (bytes_eq (name y) w) (Some y) (find_text name ys w) (Some x) h) [
  | inl c ↦ sym ((bytes_eq-Decides (name y) w).0 c.0) ∙ ap name (some_same y x c.1)
  | inr c ↦ find_takes name ys w x c.1
]

word_takes : (ws rest : List (List ℕ)) (w : List ℕ) → word_at ws ≡ Some (w, rest) → ws ≡ w ∷ rest
word_takes [] rest w h = cc
word_takes (v ∷ ws) rest w h = let p = some_pair_parts v w ws rest h in ap (λ x. x ∷ ws) p.0 ∙ ap (λ l. w ∷ l) p.1

pub kind_takes : {A : Type 0} (name : A → List ℕ) (xs : List A) (ws rest : List (List ℕ)) (x : A) → kind_at name xs ws ≡ Some (x, rest) → ws ≡ name x ∷ rest
kind_takes name xs ws rest x h =
    let first = bind_some (word_at ws) (λ first. with_rest (find_text name xs first.0) first.1) (x, rest) h in
    let t = with_rest_some _ _ _ _ first.2 in
    word_takes ws first.0.1 first.0.0 first.1 ∙ ap (λ w. w ∷ first.0.1) (find_takes name xs first.0.0 x t.0) ∙ ap (λ l. name x ∷ l) t.1

number_taken : (ws rest : List (List ℕ)) (n : ℕ) → number_at ws ≡ Some (n, rest) → HasTaken (Number n ∷ []) ws rest
number_taken ws rest n h =
    let first = bind_some (word_at ws) (λ first. with_rest (number first.0) first.1) (n, rest) h in
    let t = with_rest_some _ _ _ _ first.2 in
    let is = number_takes first.0.0 n t.0 in
    (word_takes ws first.0.1 first.0.0 first.1 ∙ ap (λ w. w ∷ first.0.1) is.0 ∙ ap (λ l. decimal n ∷ l) t.1, (is.1, tt))

-- one reading after another
two_taken : {A B : Type 0} (first : List (List ℕ) → Option (A × List (List ℕ))) (second : List (List ℕ) → Option (B × List (List ℕ))) (a_words : A → List Token) (b_words : B → List Token)
    → ((ws rest : List (List ℕ)) (x : A) → first ws ≡ Some (x, rest) → HasTaken (a_words x) ws rest)
    → ((ws rest : List (List ℕ)) (x : B) → second ws ≡ Some (x, rest) → HasTaken (b_words x) ws rest)
    → (ws rest : List (List ℕ)) (x : A × B) → two_at first second ws ≡ Some (x, rest) → HasTaken (a_words x.0 ++ b_words x.1) ws rest
two_taken {A} {B} first second a_words b_words f g ws rest x h =
    let a = bind_some (first ws) (λ a. second a.1 >>= λ b. Some ((a.0, b.0), b.1)) (x, rest) h in
    let b = bind_some (second a.0.1) (λ b. Some ((a.0.0, b.0), b.1)) (x, rest) a.2 in
    let P : (A × B) × List (List ℕ) → Type 0 = λ p. HasTaken (a_words p.0.0 ++ b_words p.0.1) ws p.1 in
    subst P (some_same ((a.0.0, b.0.0), b.0.1) (x, rest) b.2)
    (both_taken (a_words a.0.0) (b_words b.0.0) ws a.0.1 b.0.1 (f ws a.0.1 a.0.0 a.1) (g a.0.1 b.0.1 b.0.0 b.1))

slot_taken : (ws rest : List (List ℕ)) (slot : Slot) → slot_at ws ≡ Some (slot, rest) → HasTaken (slot_words slot) ws rest
slot_taken ws rest slot h =
    let x = bind_some (two_at number_at number_at ws) (λ x. Some (slot_of x.0, x.1)) (slot, rest) h in
    let P : Slot × List (List ℕ) → Type 0 = λ p. HasTaken (slot_words p.0) ws p.1 in
    subst P (some_same (slot_of x.0.0, x.0.1) (slot, rest) x.2)
    (two_taken number_at number_at (λ n. Number n ∷ []) (λ n. Number n ∷ []) number_taken number_taken ws x.0.1 x.0.0 x.1)

place_taken : (ws rest : List (List ℕ)) (place : Place) → place_at ws ≡ Some (place, rest) → HasTaken (place_words place) ws rest
place_taken ws rest place h =
    let x = bind_some (two_at slot_at number_at ws) (λ x. Some (place_of x.0, x.1)) (place, rest) h in
    let P : Place × List (List ℕ) → Type 0 = λ p. HasTaken (place_words p.0) ws p.1 in
    subst P (some_same (place_of x.0.0, x.0.1) (place, rest) x.2)
    (two_taken slot_at number_at slot_words (λ n. Number n ∷ []) slot_taken number_taken ws x.0.1 x.0.0 x.1)

byte_takes : (word : List ℕ) (n : ℕ) → byte word ≡ Some n → (word ≡ decimal n) × (n < 2 ^ 8)
byte_takes word n h =
    let b = bind_some (number word) (λ n. cond (nat_lt n (2 ^ 8)) (Some n) None) n h in
    let t = cond_some (nat_lt b.0 (2 ^ 8)) b.0 n b.2 in
    let below = ltb-true b.0 (2 ^ 8) t.0 in
    ((number_takes word b.0 b.1).0 ∙ ap decimal t.1, subst (λ n. n < 2 ^ 8) t.1 below)

rank_taken : (ws rest : List (List ℕ)) (rank : Option ℕ) → optional_at byte_at ws ≡ Some (rank, rest) → HasTaken (rank_words rank) ws rest
rank_taken [] rest rank h = let p = some_pair_parts None rank [] rest h in subst (λ rank. HasTaken (rank_words rank) [] rest) p.0 (p.1, tt)
rank_taken (w ∷ ws) rest rank h =
    let x = bind_some (byte_at (w ∷ ws)) (λ x. Some (Some x.0, x.1)) (rank, rest) h in
    let p = some_pair_parts (Some x.0.0) rank x.0.1 rest x.2 in
    let t = with_rest_some _ _ _ _ x.1 in
    let is = byte_takes w x.0.0 t.0 in
    subst (λ rank. HasTaken (rank_words rank) (w ∷ ws) rest) p.0 (ap (λ w. w ∷ ws) is.0 ∙ ap (λ l. decimal x.0.0 ∷ l) (t.1 ∙ p.1), (is.1, tt))

byte_again : (n : ℕ) → n < 2 ^ 8 → byte (decimal n) ≡ Some n
byte_again n lt =
    let small : nat_lt n (2 ^ 8) ≡ true = lt-ltb n (2 ^ 8) lt in
    rw (number_again n (omega (arith, lt)), small) refl

slot_again : (slot : Slot) (rest : List (List ℕ)) → AllByRecursion IsToken (slot_words slot) → slot_at (map text (slot_words slot) ++ rest) ≡ Some (slot, rest)
slot_again slot rest h = rw (number_again slot.frame h.0, number_again slot.slot h.1.0) refl

place_again : (place : Place) (rest : List (List ℕ)) → AllByRecursion IsToken (place_words place) → place_at (map text (place_words place) ++ rest) ≡ Some (place, rest)
place_again place rest h = rw (number_again place.slot.frame h.0, number_again place.slot.slot h.1.0, number_again place.offset h.1.1.0) refl

obj_kind_again : (x : ObjKind) (rest : List (List ℕ)) → obj_kind_at (obj_kind x ∷ rest) ≡ Some (x, rest)
obj_kind_again Scanned rest = refl
obj_kind_again Atomic rest = refl

reg_kind_again : (x : RegKind) (rest : List (List ℕ)) → reg_kind_at (reg_kind x ∷ rest) ≡ Some (x, rest)
reg_kind_again Normal rest = refl
reg_kind_again IgnoreSelf rest = refl
reg_kind_again NoOrder rest = refl

link_kind_again : (x : LinkKind) (rest : List (List ℕ)) → link_kind_at (link_kind x ∷ rest) ≡ Some (x, rest)
link_kind_again Short rest = refl
link_kind_again Long rest = refl

-- what is read is written so
pub values_taken : (fields : Fields) (ws rest : List (List ℕ)) (x : Values fields) → values_at fields ws ≡ Some (x, rest) → HasTaken (field_words fields x) ws rest
values_taken nothing ws rest x h = ((some_pair_parts tt x ws rest h).1, tt)
values_taken a_number ws rest x h = number_taken ws rest x h
values_taken a_slot ws rest x h = slot_taken ws rest x h
values_taken a_place ws rest x h = place_taken ws rest x h
values_taken an_obj_kind ws rest x h = (kind_takes obj_kind (Scanned ∷ Atomic ∷ []) ws rest x h, (tt, tt))
values_taken a_reg_kind ws rest x h = (kind_takes reg_kind (Normal ∷ IgnoreSelf ∷ NoOrder ∷ []) ws rest x h, (tt, tt))
values_taken a_link_kind ws rest x h = (kind_takes link_kind (Short ∷ Long ∷ []) ws rest x h, (tt, tt))
values_taken a_rank ws rest x h = rank_taken ws rest x h
values_taken (two f g) ws rest x h = two_taken (values_at f) (values_at g) (field_words f) (field_words g) (values_taken f) (values_taken g) ws rest x h
values_taken (three f g k) ws rest x h =
    let a = bind_some (values_at f ws) (λ a. values_at g a.1 >>= λ b. values_at k b.1 >>= λ c. Some ((a.0, b.0, c.0), c.1)) (x, rest) h in
    let b = bind_some (values_at g a.0.1) (λ b. values_at k b.1 >>= λ c. Some ((a.0.0, b.0, c.0), c.1)) (x, rest) a.2 in
    let c = bind_some (values_at k b.0.1) (λ c. Some ((a.0.0, b.0.0, c.0), c.1)) (x, rest) b.2 in
    let P : Values (three f g k) × List (List ℕ) → Type 0 = λ p. HasTaken (field_words (three f g k) p.0) ws p.1 in
    subst P (some_same ((a.0.0, b.0.0, c.0.0), c.0.1) (x, rest) c.2)
    (both_taken (field_words f a.0.0) (field_words g b.0.0 ++ field_words k c.0.0) ws a.0.1 c.0.1 (values_taken f ws a.0.1 a.0.0 a.1)
    (both_taken (field_words g b.0.0) (field_words k c.0.0) a.0.1 b.0.1 c.0.1 (values_taken g a.0.1 b.0.1 b.0.0 b.1) (values_taken k b.0.1 c.0.1 c.0.0 c.1)))

-- the words of lists of words
two_fit : (a b : List Token) → AllByRecursion IsToken (a ++ b) → AllByRecursion IsToken a × AllByRecursion IsToken b
two_fit [] b h = (tt, h)
two_fit (w ∷ a) b h = let r = two_fit a b h.1 in ((h.0, r.0), r.1)

texts_of_two : (a b : List Token) (rest : List (List ℕ)) → map text (a ++ b) ++ rest ≡ map text a ++ (map text b ++ rest)
texts_of_two [] b rest = refl
texts_of_two (w ∷ a) b rest = ap (λ l. text w ∷ l) (texts_of_two a b rest)

-- these words may follow the fields: none follow a rank
abbrev pub MayFollow : Fields → List (List ℕ) → Type 0
MayFollow a_rank rest = rest ≡ []
MayFollow (two f g) rest = ((ws : List (List ℕ)) → MayFollow f ws) × MayFollow g rest
MayFollow (three f g k) rest = ((ws : List (List ℕ)) → MayFollow f ws) × ((ws : List (List ℕ)) → MayFollow g ws) × MayFollow k rest
MayFollow _ rest = Unit {0}

rank_again : (rank : Option ℕ) → AllByRecursion IsToken (rank_words rank) → optional_at byte_at (map text (rank_words rank)) ≡ Some (rank, [])
rank_again None h = refl
rank_again (Some n) h = rw (byte_again n h.0) refl

-- what is written is read
pub values_again : (fields : Fields) (x : Values fields) (rest : List (List ℕ)) → MayFollow fields rest → AllByRecursion IsToken (field_words fields x) → values_at fields (map text (field_words fields x) ++ rest) ≡ Some (x, rest)
values_again nothing x rest may h = refl
values_again a_number x rest may h = ap (λ o. with_rest o rest) (number_again x h.0)
values_again a_slot x rest may h = slot_again x rest h
values_again a_place x rest may h = place_again x rest h
values_again an_obj_kind x rest may h = obj_kind_again x rest
values_again a_reg_kind x rest may h = reg_kind_again x rest
values_again a_link_kind x rest may h = link_kind_again x rest
values_again a_rank x rest may h =
    subst (λ (ws : List (List ℕ)). values_at a_rank (map text (rank_words x) ++ ws) ≡ Some (x, ws)) (sym may) (ap (values_at a_rank) (append-nil (map text (rank_words x))) ∙ rank_again x h)
values_again (two f g) x rest may h =
    let fit = two_fit (field_words f x.0) (field_words g x.1) h in
    rw (texts_of_two (field_words f x.0) (field_words g x.1) rest, values_again f x.0 (map text (field_words g x.1) ++ rest) (may.0 (map text (field_words g x.1) ++ rest)) fit.0, values_again g x.1 rest may.1 fit.1) refl
values_again (three f g k) x rest may h =
    let fit = two_fit (field_words f x.0) (field_words g x.1 ++ field_words k x.2) h in
    let more = two_fit (field_words g x.1) (field_words k x.2) fit.1 in
    rw (
      texts_of_two (field_words f x.0) (field_words g x.1 ++ field_words k x.2) rest,
      values_again f x.0 (map text (field_words g x.1 ++ field_words k x.2) ++ rest) (may.0 (map text (field_words g x.1 ++ field_words k x.2) ++ rest)) fit.0,
      texts_of_two (field_words g x.1) (field_words k x.2) rest,
      values_again g x.1 (map text (field_words k x.2) ++ rest) (may.1 (map text (field_words k x.2) ++ rest)) more.0,
      values_again k x.2 rest may.2 more.1,
    ) refl

-- words without spaces
unfoldable pub lacks_space : List ℕ → Bool
lacks_space [] = true
lacks_space (b ∷ bs) = not (b == 32) && lacks_space bs

-- words in ASCII
is_ascii : List ℕ → Bool
is_ascii [] = true
is_ascii (b ∷ bs) = nat_lt b 128 && is_ascii bs

ascii : (bs : List ℕ) → is_ascii bs ≡ true → IsAscii bs
unfolding is_ascii
ascii [] h = IsAscii-nil
ascii (b ∷ bs) h = let p = and_parts _ _ h in IsAscii-cons b bs (ltb-true b 128 p.0) (ascii bs p.1)

-- what is asked of each verb, by computation
record IsSpelled (v : Verb) : Type 0 where
  readable : is_ascii v.name ≡ true
  unspaced : lacks_space v.name ≡ true
  ends : MayFollow v.fields []
  written_as : (x : Values v.fields) → words (v.make x) ≡ Text v.name ∷ field_words v.fields x

all_spelled : AllByRecursion IsSpelled verbs
unfolding lacks_space is_ascii
all_spelled = search rules

found_in : (vs : List Verb) (w : List ℕ) (v : Verb) → AllByRecursion IsSpelled vs → find (λ (v : Verb). bytes_eq v.name w) vs ≡ Some v → IsSpelled v × (v.name ≡ w)
found_in [] w v all h = cc
found_in (x ∷ xs) w v all h = elim (chosen (bytes_eq x.name w) (Some x) (find (λ (v : Verb). bytes_eq v.name w) xs) (Some v) h) [
  | inl c ↦ let e = some_same x v c.1 in subst (λ (v : Verb). IsSpelled v × (v.name ≡ w)) e (all.0, (bytes_eq-Decides (x.name) w).0 c.0)
  | inr c ↦ found_in xs w v all.1 c.1
]

-- what is no text is no verb's name
pub no_verb : (words : List (List ℕ)) (w : List ℕ) (rest : List (List ℕ)) → word_at words ≡ Some (w, rest) → (IsUtf8 w → ⊥) → step_at words ≡ None
unfolding named_at
no_verb words w rest first other = rw (first, unnamed (verb_named w) refl) refl
  where
    unnamed : (r : Option Verb) → verb_named w ≡ r → verb_named w ≡ None
    unnamed None h = h
    unnamed (Some v) h = let named = found_in verbs w v all_spelled h in absurd (other (subst IsUtf8 named.1 (IsUtf8-from_ascii v.name (ascii v.name named.0.readable))))

-- what is none of the names is no verb's name
differs : (a b : List ℕ) (r : Bool) → bytes_eq a b ≡ r → (b ≡ a → ⊥) → bytes_eq a b ≡ false
differs a b true e other = absurd (other (let same = (bytes_eq-Decides a b).0 e in cc))
differs a b false e other = e

none_of : (w : List ℕ) (vs : List Verb) → AllByRecursion (λ (v : Verb). w ≡ v.name → ⊥) vs → find (λ (v : Verb). bytes_eq v.name w) vs ≡ None
none_of w [] h = refl
none_of w (v ∷ vs) h = rw (differs v.name w (bytes_eq v.name w) refl h.0) (none_of w vs h.1)

pub another_word : (words : List (List ℕ)) (w : List ℕ) (rest : List (List ℕ)) → word_at words ≡ Some (w, rest) → AllByRecursion (λ (v : Verb). w ≡ v.name → ⊥) verbs → step_at words ≡ None
unfolding named_at
another_word words w rest first others = rw (first, none_of w verbs others) refl

-- a step is what a verb makes of its fields: a further verb is one more clause here
record IsMade (s : Step) : Type 0 where
  name : List ℕ
  verb : Verb
  named : verb_named name ≡ Some verb
  values : Values verb.fields
  is : s ≡ verb.make values

made_by : {s : Step} {verb : Verb} (name : List ℕ) → verb_named name ≡ Some verb → (values : Values verb.fields) → s ≡ verb.make values → IsMade s
made_by {s} {verb} name named values is = record { name = name; verb = verb; named = named; values = values; is = is }

call_made : (c : WorldCall) → IsMade (Call c)
call_made (calls.Alloc slot size kind) = made_by (codes "new") refl (slot, size, kind) refl
call_made (calls.Set slot word) = made_by (codes "set") refl (slot, word) refl
call_made (calls.Copy slot to) = made_by (codes "copy") refl (slot, to) refl
call_made (calls.Load place to) = made_by (codes "load") refl (place, to) refl
call_made (calls.Store place from) = made_by (codes "store") refl (place, from) refl
call_made (calls.Register slot finalizer) = made_by (codes "register") refl (slot, finalizer.kind, (finalizer.procedure, finalizer.client_data, finalizer.rank)) refl
call_made (calls.Unregister slot) = made_by (codes "unregister") refl slot refl
call_made (calls.Link which place target) = made_by (codes "link") refl (which, place, target) refl
call_made (calls.Unlink which place) = made_by (codes "unlink") refl (which, place) refl
call_made (calls.Move which place to) = made_by (codes "move") refl (which, place, to) refl
call_made calls.Begin = made_by (codes "begin") refl tt refl
call_made (calls.Mark budget) = made_by (codes "mark") refl budget refl
call_made calls.Pause = made_by (codes "pause") refl tt refl
call_made calls.Collect = made_by (codes "collect") refl tt refl
call_made calls.Close = made_by (codes "close") refl tt refl
call_made calls.Outstanding = made_by (codes "outstanding") refl tt refl

is_made : (s : Step) → IsMade s
is_made (Open blocks frames workers) = made_by (codes "open") refl (blocks, frames, workers) refl
is_made (Call call) = call_made call
is_made (Take worker) = made_by (codes "take") refl worker refl
is_made (Hold worker slot) = made_by (codes "hold") refl (worker, slot) refl
is_made (Finish worker) = made_by (codes "finish") refl worker refl
is_made (Forfeit worker) = made_by (codes "forfeit") refl worker refl

-- words without spaces, joined by spaces, are split again
not_true : (b : Bool) → not b ≡ true → b ≡ false
not_true true h = cc
not_true false h = refl

split_word : (w rest : List ℕ) → lacks_space w ≡ true → words_of (w ++ (32 ∷ rest)) ≡ w ∷ words_of rest
unfolding lacks_space
split_word [] rest h = refl
split_word (b ∷ bs) rest h = let p = and_parts _ _ h in let other : (b == 32) ≡ false = not_true _ p.0 in rw (other, split_word bs rest p.1) refl

split_last : (w : List ℕ) → lacks_space w ≡ true → words_of w ≡ w ∷ []
unfolding lacks_space
split_last [] h = refl
split_last (b ∷ bs) h = let p = and_parts _ _ h in let other : (b == 32) ≡ false = not_true _ p.0 in rw (other, split_last bs p.1) refl

pub split_joined : (w : List ℕ) (ws : List (List ℕ)) → lacks_space w ≡ true → AllByRecursion (λ v. lacks_space v ≡ true) ws → words_of (join_with_byte 32 (w ∷ ws)) ≡ w ∷ ws
split_joined w [] h all = split_last w h
split_joined w (v ∷ ws) h all = split_word w (join_with_byte 32 (v ∷ ws)) h ∙ ap (λ l. w ∷ l) (split_joined v ws all.0 all.1)

digit_lacks_space : (k : ℕ) → ((48 + k) == 32) ≡ false
digit_lacks_space k = ne_eqb (48 + k) 32 (λ e. omega arith)

lacks_space_more : (ds : List ℕ) (k : ℕ) → lacks_space ds ≡ true → lacks_space (ds ++ ((48 + k) ∷ [])) ≡ true
unfolding lacks_space
lacks_space_more [] k h = rw (digit_lacks_space k) refl
lacks_space_more (d ∷ ds) k h = let p = and_parts (not (d == 32)) (lacks_space ds) h in rw (p.0, lacks_space_more ds k p.1) refl

lacks_space_decimal : (n : ℕ) → n < 2 ^ 64 → lacks_space (decimal n) ≡ true
unfolding lacks_space
lacks_space_decimal n lt = decimal_by_steps (λ n ds. lacks_space ds ≡ true) (λ n h. rw (digit_lacks_space n) refl) (λ n ds far h. lacks_space_more ds (n % 10) h) n lt

lacks_space_obj_kind : (x : ObjKind) → lacks_space (obj_kind x) ≡ true
unfolding lacks_space
lacks_space_obj_kind Scanned = refl
lacks_space_obj_kind Atomic = refl

lacks_space_reg_kind : (x : RegKind) → lacks_space (reg_kind x) ≡ true
unfolding lacks_space
lacks_space_reg_kind Normal = refl
lacks_space_reg_kind IgnoreSelf = refl
lacks_space_reg_kind NoOrder = refl

lacks_space_link_kind : (x : LinkKind) → lacks_space (link_kind x) ≡ true
unfolding lacks_space
lacks_space_link_kind Short = refl
lacks_space_link_kind Long = refl

-- fields have no spaces
abbrev pub ArePlain : List Token → Type 0
ArePlain ws = AllByRecursion (λ w. lacks_space w ≡ true) (map text ws)

both_plain : (a b : List Token) → ArePlain a → ArePlain b → ArePlain (a ++ b)
both_plain [] b h k = k
both_plain (w ∷ a) b h k = (h.0, both_plain a b h.1 k)

rank_plain : (rank : Option ℕ) → AllByRecursion IsToken (rank_words rank) → ArePlain (rank_words rank)
rank_plain None h = tt
rank_plain (Some n) h = (lacks_space_decimal n (omega (arith, h.0)), tt)

pub fields_plain : (fields : Fields) (x : Values fields) → AllByRecursion IsToken (field_words fields x) → ArePlain (field_words fields x)
fields_plain nothing x h = tt
fields_plain a_number x h = (lacks_space_decimal x h.0, tt)
fields_plain a_slot x h = (lacks_space_decimal x.frame h.0, (lacks_space_decimal x.slot h.1.0, tt))
fields_plain a_place x h = (lacks_space_decimal x.slot.frame h.0, (lacks_space_decimal x.slot.slot h.1.0, (lacks_space_decimal x.offset h.1.1.0, tt)))
fields_plain an_obj_kind x h = (lacks_space_obj_kind x, tt)
fields_plain a_reg_kind x h = (lacks_space_reg_kind x, tt)
fields_plain a_link_kind x h = (lacks_space_link_kind x, tt)
fields_plain a_rank x h = rank_plain x h
fields_plain (two f g) x h = let fit = two_fit (field_words f x.0) (field_words g x.1) h in both_plain (field_words f x.0) (field_words g x.1) (fields_plain f x.0 fit.0) (fields_plain g x.1 fit.1)
fields_plain (three f g k) x h =
    let fit = two_fit (field_words f x.0) (field_words g x.1 ++ field_words k x.2) h in
    let more = two_fit (field_words g x.1) (field_words k x.2) fit.1 in
    both_plain (field_words f x.0) (field_words g x.1 ++ field_words k x.2) (fields_plain f x.0 fit.0) (both_plain (field_words g x.1) (field_words k x.2) (fields_plain g x.1 more.0) (fields_plain k x.2 more.1))

-- a verb's fields
verb_takes : (v : Verb) (ws rest : List (List ℕ)) (x : Values v.fields) → IsSpelled v → values_at v.fields ws ≡ Some (x, rest) → (v.name ∷ ws ≡ map text (words (v.make x)) ++ rest) × Fits (v.make x)
verb_takes v ws rest x spelled h =
    let taken = values_taken v.fields ws rest x h in
    let written = spelled.written_as x in
    (ap (λ l. v.name ∷ l) taken.0 ∙ ap (λ l. map text l ++ rest) (sym written), subst (AllByRecursion IsToken) (sym written) (tt, taken.1))

pub end_takes : (ws : List (List ℕ)) → end_at ws ≡ Some tt → ws ≡ []
end_takes [] h = refl
end_takes (w ∷ ws) h = cc

step_takes : (ws rest : List (List ℕ)) (s : Step) → step_at ws ≡ Some (s, rest) → (ws ≡ map text (words s) ++ rest) × Fits s
unfolding named_at
step_takes ws rest s h =
    let w = bind_some (word_at ws) (λ w. verb_named w.0 >>= λ v. values_at v.fields w.1 >>= λ x. Some (v.make x.0, x.1)) (s, rest) h in
    let v = bind_some (verb_named w.0.0) (λ v. values_at v.fields w.0.1 >>= λ x. Some (v.make x.0, x.1)) (s, rest) w.2 in
    let x = bind_some (values_at v.0.fields w.0.1) (λ x. Some (v.0.make x.0, x.1)) (s, rest) v.2 in
    let named = found_in verbs w.0.0 v.0 all_spelled v.1 in
    let taken = verb_takes v.0 w.0.1 x.0.1 x.0.0 named.0 x.1 in
    let P : Step × List (List ℕ) → Type 0 = λ p. (ws ≡ map text (words p.0) ++ p.1) × Fits p.0 in
    subst P (some_same (v.0.make x.0.0, x.0.1) (s, rest) x.2) (word_takes ws w.0.1 w.0.0 w.1 ∙ ap (λ n. n ∷ w.0.1) (sym named.1) ∙ taken.0, taken.1)

step_in_takes : (ws : List (List ℕ)) (s : Step) → step_in ws ≡ Some s → (ws ≡ map text (words s)) × Fits s
unfolding step_in
step_in_takes ws s h =
    let t = bind_some (step_at ws) (λ s. end_at s.1 >>= λ _. Some s.0) s h in
    let e = bind_some (end_at t.0.1) (λ _. Some t.0.0) s t.2 in
    let taken = step_takes ws t.0.1 t.0.0 t.1 in
    let P : Step → Type 0 = λ s. (ws ≡ map text (words s)) × Fits s in
    subst P (some_same t.0.0 s e.2) (taken.0 ∙ ap (λ l. map text (words t.0.0) ++ l) (end_takes t.0.1 e.1) ∙ append-nil (map text (words t.0.0)), taken.1)

-- a step that a verb makes is read again
made_again : (v : Verb) (x : Values v.fields) → IsSpelled v → verb_named v.name ≡ Some v → Fits (v.make x) → step_in (words_of (spelling (v.make x))) ≡ Some (v.make x)
unfolding step_in named_at
made_again v x spelled named fits =
    let fit : AllByRecursion IsToken (field_words v.fields x) = (subst (AllByRecursion IsToken) (spelled.written_as x) fits).1 in
    let fields : List (List ℕ) = map text (field_words v.fields x) in
    let split : words_of (spelling (v.make x)) ≡ v.name ∷ fields = ap (λ l. words_of (join_with_byte 32 (map text l))) (spelled.written_as x) ∙ split_joined v.name fields spelled.unspaced (fields_plain v.fields x fit) in
    let values : values_at v.fields fields ≡ Some (x, []) = ap (values_at v.fields) (sym (append-nil fields)) ∙ values_again v.fields x [] spelled.ends fit in
    rw (split, named, values) refl

step_again : (s : Step) → Fits s → step_in (words_of (spelling s)) ≡ Some s
step_again s fits =
    let m = is_made s in
    let found = found_in verbs m.name m.verb all_spelled m.named in
    subst (λ (s : Step). Fits s → step_in (words_of (spelling s)) ≡ Some s) (sym m.is) (made_again m.verb m.values found.0 (ap verb_named found.1 ∙ m.named)) fits

pub found : (line : List ℕ) (r : Option Step) → step_in (words_of line) ≡ r → IfSome r (λ s. Fits s × (line ≡ spelling s))
found line None h = tt
found line (Some s) h = let t = step_in_takes (words_of line) s h in (t.1, sym (join_with_byte-slice_split 32 line) ∙ ap (join_with_byte 32) t.0)

pub only : (line : List ℕ) (s : Step) → Fits s → line ≡ spelling s → step_in (words_of line) ≡ Some s
only line s fits e = ap (λ l. step_in (words_of l)) e ∙ step_again s fits
