-- The finalizers in a pass: with other links and tables, and with the entries of picks.
use Rattle.std.proofs.Common.{◌≡◌, ◌+◌, ◌++◌, ◌∷◌, ◌∙◌, [], ℕ, List, length, Some, None, sym, ap, append_assoc, append-nil, length-append, arith}
use Rattle.std.specs.Option.{option_map_or}
use Rattle.std.specs.FinMap.{get, remove}
use Rattle.std.specs.FinSet as sets
use Rattle.fz_model.specs.declared.answers.Entry.{Entry}
use Rattle.fz_model.specs.declared.answers.Pick.{Pick}
use Rattle.fz_model.specs.declared.answers.Registration.{Registration}
use Rattle.fz_model.specs.State.{Map}
use Rattle.fz_model.specs.Pass.{entry_of, entries_of}
use Rattle.fz_model.proofs.Sound.{length-entries_of}
use Rattle.fz_table.specs.Tabled.{Content, Set}
use Rattle.fz_pass.specs.All.{unknown}
use Rattle.fz_pass.specs.Holds.{Ephemerons}
use Rattle.fz_pass.specs.Picking.{pick_of}
use Rattle.fz_pass.proofs.Gathering.{entries_of-append}
use Rattle.fz_finalizers.specs.Follows.{queued_object, queued_one}
use Rattle.fz_finalizers.specs.States.{State}

-- one more entry
pub entries_more : (pass : ℕ) (queue : List Entry) (picks : List Pick) (p : Pick)
    → (queue ++ entries_of pass (length queue) picks) ++ entry_of pass (length (queue ++ entries_of pass (length queue) picks)) p ∷ [] ≡ queue ++ entries_of pass (length queue) (picks ++ p ∷ [])
entries_more pass queue picks p =
    let so_far = entries_of pass (length queue) picks in
    let grown = length-append queue so_far in
    let count = length-entries_of pass (length queue) picks in
    let number : length (queue ++ so_far) ≡ length queue + length picks = omega (arith, grown, count) in
    ap (λ n. (queue ++ so_far) ++ entry_of pass n p ∷ []) number ∙ append_assoc queue so_far (entry_of pass (length queue + length picks) p ∷ [])
    ∙ ap (λ es. queue ++ es) (sym (entries_of-append pass (length queue) picks (p ∷ [])))

-- with other ephemerons
abbrev pub with_keys : State → Ephemerons → State
with_keys b ephemerons = record b { ephemerons = ephemerons }

module _ (b : State) where
  abbrev pub state_with : Map ℕ → Map ℕ → Map Registration → Set → List Pick → State
  state_with short long registrations late picks = record b {
    short = short;
    long = long;
    registrations = registrations;
    late = late;
    queue = b.queue ++ entries_of b.passes (length b.queue) picks;
  }

  abbrev pub tabled : Content
  tabled = record { registered = record { registrations = b.registrations; next_number = b.next_number }; late = b.late }

  pub as_begun : b ≡ state_with b.short b.long b.registrations b.late []
  as_begun = λ i. record b { queue = sym (append-nil b.queue) i }

  module _ (short long : Map ℕ) (registrations : Map Registration) (late : Set) (picks : List Pick) (object : ℕ) where
    abbrev s : State
    s = state_with short long registrations late picks

    module _ (r : Registration) where
      abbrev more_picks : List Pick
      more_picks = picks ++ pick_of r object unknown ∷ []

      one_more : queued_one s object r ≡ state_with short long (remove registrations object) (sets.remove late object) more_picks
      one_more =
          let queue = entries_more b.passes b.queue picks (pick_of r object unknown) in
          λ i. record b { short = short; long = long; registrations = remove registrations object; late = sets.remove late object; queue = queue i }

      pub queued_on : get registrations object ≡ Some r → queued_object s object ≡ state_with short long (remove registrations object) (sets.remove late object) more_picks
      queued_on here = ap (λ o. option_map_or (queued_one s object) o s) here ∙ one_more

    pub queued_none : get registrations object ≡ None → queued_object s object ≡ s
    queued_none none = ap (λ o. option_map_or (queued_one s object) o s) none
