-- What the readers of a world find, in terms of the world's own contracts.
-- code: fz_c/src/world/shown.rt
use Rattle.std.specs.Prelude.{◌≡◌, ◌+◌, ◌-◌, ◌≤◌, ℕ, Option, Some, Result, IfOk, IfSome, MatchOption, IsFalse, length, slice_get, option_map}
use Rattle.std.specs.List.{list_any}
use Rattle.std.specs.FinMap.{get, contains_key, len}
use Rattle.std.specs.FinSet as sets
use Rattle.fz_model.specs.declared.answers.Entry.{Entry}
use Rattle.fz_model.specs.declared.answers.Registration.{Registration}
use Rattle.fz_model.specs.declared.kinds.LinkKind.{LinkKind}
use Rattle.fz_model.specs.declared.refusal.Refusal.{Refusal}
use Rattle.fz_model.specs.Places.{slot_at}
use Rattle.fz_model.specs.Memory.{slot_word, word_at, points}
use Rattle.fz_model.specs.Causes.{IsJudgedBy, slot_causes, place_causes}
use Rattle.fz_model.specs.Events.{links_of, same_entry}
use Rattle.fz_world.specs.declared.shown.Object.{Object}
use Rattle.fz_world.specs.World.{WorldView}
use Rattle.fz_finalizers.specs.Queue.{IsFirstHeldFrom}
use Rattle.fz_world.specs.Shown.{shown_object, HasNoneFrom, IsFirstFrom}
use Rattle.fz_c.specs.declared.world.shown.Counts.{Counts}

abbrev pub IsWordOfSlot : WorldView → ℕ → ℕ → Result ℕ Refusal → Type 0
IsWordOfSlot w frame slot reply = IsJudgedBy (slot_causes w.frames (slot_at frame slot)) reply × IfOk reply (λ word. word ≡ slot_word w.frames (slot_at frame slot))

abbrev pub IsWordAt : WorldView → ℕ → ℕ → Result ℕ Refusal → Type 0
IsWordAt w word offset reply = IsJudgedBy (place_causes w.objects word offset) reply × IfOk reply (λ read. read ≡ word_at w.objects (word + offset))

abbrev pub IsNextObject : WorldView → ℕ → Option Object → Type 0
IsNextObject w from found =
    MatchOption found (HasNoneFrom w.blocks (contains_key w.objects) from) (λ object. IsFirstFrom w.blocks (contains_key w.objects) from object.start)
    × IfSome found (λ object. option_map (shown_object object.start) (get w.objects object.start) ≡ Some object)

abbrev pub IsObjectOf : WorldView → ℕ → Option Object → Type 0
IsObjectOf w word found =
    (option_map (λ (o : Object). o.start) found ≡ points w.objects word) × IfSome found (λ object. option_map (shown_object object.start) (get w.objects object.start) ≡ Some object)

abbrev pub IsNextRegistration : WorldView → ℕ → Option (ℕ × Registration) → Type 0
IsNextRegistration w from found =
    MatchOption found (HasNoneFrom w.blocks (contains_key w.registrations) from) (λ row. IsFirstFrom w.blocks (contains_key w.registrations) from row.0)
    × IfSome found (λ row. get w.registrations row.0 ≡ Some row.1)

abbrev pub IsNextLink : WorldView → LinkKind → ℕ → Option (ℕ × ℕ) → Type 0
IsNextLink w which from found =
    MatchOption found (HasNoneFrom w.blocks (contains_key (links_of w.core which)) from) (λ row. IsFirstFrom w.blocks (contains_key (links_of w.core which)) from row.0)
    × IfSome found (λ row. get (links_of w.core which) row.0 ≡ Some row.1)

abbrev pub IsNextHeldEntry : WorldView → ℕ → Option Entry → Type 0
IsNextHeldEntry w from found = IsFirstHeldFrom w.held from found

-- the entry of the queue with this number: any from `forgotten` on, and before that only entries that aren't finished
abbrev pub IsQueuedEntry : WorldView → ℕ → Option Entry → Type 0
IsQueuedEntry w number found =
    (w.forgotten ≤ number → found ≡ slice_get w.queue number)
    × MatchOption found ((e : Entry) → slice_get w.queue number ≡ Some e → IsFalse (list_any (same_entry e) w.held)) (λ e. slice_get w.queue number ≡ Some e)

-- `taken` is the number of entries that were taken
pub record IsCounted (w : WorldView) (taken : ℕ) (counts : Counts) : Type 0 where
  pub passes : counts.passes ≡ w.passes
  pub reclaimed : counts.reclaimed ≡ w.next_birth - len w.objects
  pub queued : counts.queued ≡ length w.queue
  pub taken_are : counts.taken ≡ taken
  pub outstanding : counts.outstanding ≡ length w.held
  pub scans : counts.scans ≡ w.scans
  pub noted : counts.noted ≡ sets.len w.noted
